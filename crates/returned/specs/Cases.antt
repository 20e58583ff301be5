-- From the contract of `merge` to that of the C interface, case by case.
use Rattle.std.specs.Prelude.{◌≡◌, refl, Bool, true, List, ℕ, ◌≤◌, length}
use Rattle.std.proofs.Common.{sym, ◌∙◌, inl, inr, arith, ne_eqb}
use Rattle.spec.specs.Bytes.{refused}
use Rattle.spec.specs.Image.{tables_of}
use Rattle.spec.specs.Pairs.{pairs, making}
use Rattle.spec.specs.Run.{limits_for}
use Rattle.spec.specs.declared.Caller.{Caller}
use Rattle.spec.specs.Merge.{merge_for}
use Rattle.laws.specs.Accepted as A
use Rattle.laws.specs.Results.{refused-ok, refused-inj}
use Rattle.lgg.specs.Count.{pair-count}
use Rattle.lgg.specs.Limits.{refuses13}
use Rattle.steps.specs.Refusals.{refused-by}
use Rattle.contract.specs.declared.Answer.{Answer}
use Rattle.contract.specs.declared.Answer.TheVariants.{Listing, Refused, Doubled}
use Rattle.contract.specs.Merges.{fit_of, Merges}
use Rattle.demands.specs.Calls.{Way, short, unsound, outside, stopped, over, listed, way}
use Rattle.returned.specs.declared.Returned.{Returned}
use Rattle.returned.specs.Returns.{returned_of, Returns, lengths}

-- a refusal's number is 1 to 14
pub number : (who : Caller) (fit : Bool) (image : List ℕ) (left right budget room k : ℕ) → merge_for who fit image left right budget room ≡ refused k → (1 ≤ k) × (k ≤ 14)
number who fit image left right budget room k q = go (way who fit image left right budget room)
  where
    same : (j : ℕ) → merge_for who fit image left right budget room ≡ refused j → j ≡ k
    same j e = refused-inj (sym e ∙ q)

    from : (j : ℕ) → merge_for who fit image left right budget room ≡ refused j → 1 ≤ j → j ≤ 14 → (1 ≤ k) × (k ≤ 14)
    from j e a b = let z = same j e in (omega arith, omega arith)

    go : Way who fit image left right budget room (merge_for who fit image left right budget room) → (1 ≤ k) × (k ≤ 14)
    go (short e f) = from 1 e (omega arith) (omega arith)
    go (unsound j e f g) = let z = (A.refused-in-its-case image j).0 g in from j e (omega (arith, z.0)) (omega (arith, z.1))
    go (outside e f g h) = from 11 e (omega arith) (omega arith)
    go (stopped j e T f) =
        let (n, c, _) = pair-count (tables_of image) (left, right) in
        elim (refused-by (pairs (tables_of image)) (making (limits_for who) (tables_of image)) (refuses13 (limits_for who) (tables_of image)) (left, right) n c budget j f) [ inl x ↦ let z = x.0 in from j e (omega arith) (omega arith) | inr x ↦ from j e (omega arith) (omega arith) ]
    go (over o e T f h) = from 14 e (omega arith) (omega arith)
    go (listed o e T f h) = absurd (refused-ok (sym q ∙ e))

-- each case's numbers say what the case says
pub returns_of : (who : Caller) (image : List ℕ) (left right budget : ℕ) (fit : Bool) (out out' : List ℕ) (a : Answer) → Merges who image left right budget fit out out' a → Returns who image left right budget fit out out' (returned_of a)
returns_of who image left right budget fit out out' (Listing n) m = record {
  result = m.answer;
  output = m.output;
  room = m.carries;
  table = omega arith;
  doubled = λ e. absurd (omega arith);
  no-listing = λ e. absurd (e refl);
  no-class = λ e. refl;
}
returns_of who image left right budget fit out out' (Refused k) m =
    let (a, b) = number who fit image left right budget (length out) k (sym m.answer) in
    record {
      result = rw (ne_eqb k 0 (λ e. absurd (omega arith))) m.answer;
      output = m.output;
      room = omega arith;
      table = b;
      doubled = λ e. absurd (m.carries e);
      no-listing = λ e. refl;
      no-class = λ e. refl;
    }
returns_of who image left right budget fit out out' (Doubled c) m = record {
  result = m.answer;
  output = m.output;
  room = omega arith;
  table = omega arith;
  doubled = λ e. m.carries;
  no-listing = λ e. refl;
  no-class = λ e. absurd (e refl);
}

pub returns_as : (who : Caller) (image : List ℕ) (left right budget : ℕ) (fit : Bool) (out out' : List ℕ) (a : Answer) (r : Returned) → r ≡ returned_of a → Merges who image left right budget fit out out' a → Returns who image left right budget fit out out' r
returns_as who image left right budget fit out out' a r e m = rw e (returns_of who image left right budget fit out out' a m)

-- buffers of these lengths are never refused
pub lengths-fit : fit_of 256 lengths.graph lengths.pairs lengths.work lengths.flow lengths.terms lengths.runs ≡ true
lengths-fit = refl
