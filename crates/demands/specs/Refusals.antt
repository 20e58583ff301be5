-- "Table of refusals": "Each is returned in its case only", of a call of `merge`, from its contract; and demand 1's buffers.
use Rattle.std.specs.Prelude.{◌≡◌, refl, ◌≢◌, ◌↔◌, Bool, true, List, ℕ, ◌≤◌, ◌<◌, length, replicate}
use Rattle.std.proofs.Common.{sym, ◌∙◌, inl, inr, arith, length-take-le, le-leb}
use Rattle.std.proofs.Math.Path.{ap}
use Rattle.std.proofs.Math.Bool.{false}
use Rattle.std.proofs.lemmas.Bool.{lt-leb}
use Rattle.spec.specs.Bytes.{Res, ok, refused, work_after}
use Rattle.spec.specs.Image.{lowest_doubled, tables_of}
use Rattle.spec.specs.Pairs.{pairs, making}
use Rattle.spec.specs.Run.{limit_of, limits_for, Outcome, run_of}
use Rattle.spec.specs.declared.Caller.{Caller}
use Rattle.spec.specs.Merge.{merge_for, output_after}
use Rattle.spec.specs.Meaning.{HoldsDoubled}
use Rattle.laws.specs.Tests.{clash}
use Rattle.laws.specs.Valid.{Keeps}
use Rattle.laws.specs.Doubled.{doubled-refused, lowest-least}
use Rattle.laws.specs.Accepted as A
use Rattle.laws.specs.Results.{ok-inj, refused-ok, refused-inj}
use Rattle.lgg.specs.Pairs.{PairCount}
use Rattle.counted.proofs.CountedRun.{root-starts}
use Rattle.lgg.specs.Count.{pair-count}
use Rattle.lgg.specs.Limits.{refuses13}
use Rattle.steps.specs.Refusals.{refused-by, refused-beyond}
use Rattle.contract.specs.declared.Answer.{Answer}
use Rattle.contract.specs.declared.Answer.TheVariants.{Listing, Refused, Doubled}
use Rattle.contract.specs.Merges.{Merges}
use Rattle.contract.specs.Answers.{answer_of, Carries, Cleared, Table}
use Rattle.pair_search.specs.declared.Pair.{Pair}
use Rattle.pair_search.specs.Records.{none}
use Rattle.demands.specs.Calls.{Asked, Sound, Taken, shown, Way, short, unsound, outside, stopped, over, listed, read_of, taken_is, way, refused-iff, doubled-iff, listing-iff}

module _ (who : Caller) (image : List ℕ) (left right budget : ℕ) (fit : Bool) (out out' : List ℕ) (r : Answer) (m : Merges who image left right budget fit out out' r) where
  abbrev R : Res Outcome
  R = run_of (limits_for who) (tables_of image) (left, right) budget

  abbrev M : Res (List ℕ)
  M = merge_for who fit image left right budget (length out)

  as-refused : {j k : ℕ} → M ≡ refused j → M ≡ refused k → j ≡ k
  as-refused e f = refused-inj (sym e ∙ f)

  -- the run's refusals
  run-number : (k : ℕ) → R ≡ refused k → (12 ≤ k) × (k ≤ 13)
  run-number k e =
      let (n, c, _) = pair-count (tables_of image) (left, right) in
      elim (refused-by (pairs (tables_of image)) (making (limits_for who) (tables_of image)) (refuses13 (limits_for who) (tables_of image)) (left, right) n c budget k e) [ inl x ↦ let z = x.0 in (omega arith, omega arith) | inr x ↦ (omega arith, omega arith) ]

  -- ---- 1: "a work buffer below its constant length"
  pub refused-1 : (r ≡ Refused 1) ↔ (fit ≡ false)
  unfolding merge_for
  refused-1 = (
    λ e. go (way who fit image left right budget (length out)) ((refused-iff who image left right budget fit out out' r m 1 (λ z. absurd (omega arith))).0 e),
    λ e. (refused-iff who image left right budget fit out out' r m 1 (λ z. absurd (omega arith))).1 (rw e refl),
  )
    where
      go : Way who fit image left right budget (length out) M → M ≡ refused 1 → fit ≡ false
      go (short e f) q = f
      go (unsound k e f g) q = let z = ((A.refused-in-its-case image k).0 g).0 in absurd (omega (arith, as-refused e q))
      go (outside e f g h) q = absurd (omega (arith, as-refused e q))
      go (stopped k e T f) q = absurd (omega (arith, as-refused e q, run-number k f))
      go (over o e T f h) q = absurd (omega (arith, as-refused e q))
      go (listed o e T f h) q = absurd (refused-ok (sym q ∙ e))

  -- ---- 2 to 10: the image breaks rule k, and none below it
  broken : (k : ℕ) → 2 ≤ k → k ≤ 10 → (M ≡ refused k) ↔ ((fit ≡ true) × Sound image k × (Keeps image k → ⊥))
  unfolding merge_for
  broken k a b = (λ e. go (way who fit image left right budget (length out)) e, λ h. rw (h.0, (A.refused-in-its-case image k).1 (a, b, h.1, h.2)) refl)
    where
      go : Way who fit image left right budget (length out) M → M ≡ refused k → (fit ≡ true) × Sound image k × (Keeps image k → ⊥)
      go (short e f) q = absurd (omega (arith, as-refused e q))
      go (unsound j e f g) q = let z = (A.refused-in-its-case image k).0 (g ∙ ap refused (as-refused e q)) in (f, z.2, z.3)
      go (outside e f g h) q = absurd (omega (arith, as-refused e q))
      go (stopped j e T f) q = absurd (omega (arith, as-refused e q, run-number j f))
      go (over o e T f h) q = absurd (omega (arith, as-refused e q))
      go (listed o e T f h) q = absurd (refused-ok (sym q ∙ e))

  pub refused-2-to-9 : (k : ℕ) → 2 ≤ k → k ≤ 9 → (r ≡ Refused k) ↔ ((fit ≡ true) × Sound image k × (Keeps image k → ⊥))
  refused-2-to-9 k a b =
      let i = refused-iff who image left right budget fit out out' r m k (λ z. absurd (omega arith)) in
      let j = broken k a (omega arith) in
      (λ e. j.0 (i.0 e), λ h. i.1 (j.1 h))

  -- 10: "a literal in two classes"
  pub refused-10 : ((c : ℕ) × (r ≡ Doubled c)) ↔ ((fit ≡ true) × Sound image 10 × (Keeps image 10 → ⊥))
  refused-10 =
      let i = doubled-iff who image left right budget fit out out' r m in
      let j = broken 10 (omega arith) (omega arith) in
      (λ e. j.0 (i.0 e), λ h. i.1 (j.1 h))

  -- (02, Paper 2) "the lowest-numbered class holding a literal that also stands in another class"
  pub refused-10-class : (c : ℕ) → r ≡ Doubled c → c ≡ lowest_doubled (tables_of image)
  refused-10-class c e = rw e at m.carries

  -- .. it holds such a literal
  pub refused-10-holds : (c : ℕ) → r ≡ Doubled c → HoldsDoubled (tables_of image) c
  refused-10-holds c e =
      let z = refused-10.0 (c, e) in
      rw (refused-10-class c e) (doubled-refused image ((A.refused-in-its-case image 10).1 (omega arith, omega arith, z.1, z.2)))

  -- .. and no lower class does
  pub refused-10-lowest : (c d : ℕ) → r ≡ Doubled c → HoldsDoubled (tables_of image) d → c ≤ d
  refused-10-lowest c d e H = rw (refused-10-class c e) (lowest-least (tables_of image) d H)

  -- ---- 11: "a queried class not in the image"
  pub refused-11 : (r ≡ Refused 11) ↔ ((fit ≡ true) × Sound image 11 × (Asked image left right → ⊥))
  refused-11 = (λ e. go (way who fit image left right budget (length out)) (iff.0 e), λ h. by h (way who fit image left right budget (length out)))
    where
      iff : (r ≡ Refused 11) ↔ (M ≡ refused 11)
      iff = refused-iff who image left right budget fit out out' r m 11 (λ z. absurd (omega arith))

      go : Way who fit image left right budget (length out) M → M ≡ refused 11 → (fit ≡ true) × Sound image 11 × (Asked image left right → ⊥)
      go (short e f) q = absurd (omega (arith, as-refused e q))
      go (unsound j e f g) q = let z = ((A.refused-in-its-case image j).0 g).1 in absurd (omega (arith, as-refused e q))
      go (outside e f g h) q = (f, (λ j a b. ((A.accepted image (tables_of image)).0 g).1 j a (omega arith)), h)
      go (stopped j e T f) q = absurd (omega (arith, as-refused e q, run-number j f))
      go (over o e T f h) q = absurd (omega (arith, as-refused e q))
      go (listed o e T f h) q = absurd (refused-ok (sym q ∙ e))

      by : (fit ≡ true) × Sound image 11 × (Asked image left right → ⊥) → Way who fit image left right budget (length out) M → r ≡ Refused 11
      by h (short e f) = absurd (clash (sym h.0 ∙ f))
      by h (unsound j e f g) = absurd (refused-ok (sym g ∙ read_of image h.1))
      by h (outside e f g n) = iff.1 e
      by h (stopped j e T f) = absurd (h.2 T.asked)
      by h (over o e T f n) = absurd (h.2 T.asked)
      by h (listed o e T f n) = absurd (h.2 T.asked)

  -- ---- "then 12 and 13 as met": the run's
  of-run : (k : ℕ) → 12 ≤ k → k ≤ 13 → (r ≡ Refused k) ↔ (Taken fit image left right × (R ≡ refused k))
  of-run k a b = (λ e. go (way who fit image left right budget (length out)) (iff.0 e), λ h. iff.1 (taken_is who fit image left right budget (length out) h.0 ∙ rw h.1 refl))
    where
      iff : (r ≡ Refused k) ↔ (M ≡ refused k)
      iff = refused-iff who image left right budget fit out out' r m k (λ z. absurd (omega arith))

      go : Way who fit image left right budget (length out) M → M ≡ refused k → Taken fit image left right × (R ≡ refused k)
      go (short e f) q = absurd (omega (arith, as-refused e q))
      go (unsound j e f g) q = let z = ((A.refused-in-its-case image j).0 g).1 in absurd (omega (arith, as-refused e q))
      go (outside e f g h) q = absurd (omega (arith, as-refused e q))
      go (stopped j e T f) q = (T, f ∙ ap refused (as-refused e q))
      go (over o e T f h) q = absurd (omega (arith, as-refused e q))
      go (listed o e T f h) q = absurd (refused-ok (sym q ∙ e))

  -- so is the run by 12 only where the queried pair has more pairs than the caller may hold
  pub run-12-only-beyond : (n : ℕ) → PairCount (tables_of image) (left, right) n → R ≡ refused 12 → limit_of who < n
  run-12-only-beyond n c e = elim (refused-by (pairs (tables_of image)) (making (limits_for who) (tables_of image)) (refuses13 (limits_for who) (tables_of image)) (left, right) n c budget 12 e) [ inl x ↦ x.1 | inr x ↦ absurd (omega arith) ]

  -- 12: (02, Paper 9) "Refusal 12 is returned at the caller's own limit": a pair beyond it would be entered
  pub refused-12 : (r ≡ Refused 12) ↔ (Taken fit image left right × (R ≡ refused 12))
  refused-12 = of-run 12 (omega arith) (omega arith)

  -- .. only where the queried pair has more pairs than the caller may hold
  pub refused-12-only-beyond : r ≡ Refused 12 → (n : ℕ) → PairCount (tables_of image) (left, right) n → limit_of who < n
  refused-12-only-beyond e n c = run-12-only-beyond n c (refused-12.0 e).1

  -- .. and where it has, with as many checks as that or more; in plain numbers: Callers
  pub refused-12-beyond : Taken fit image left right → (n : ℕ) → PairCount (tables_of image) (left, right) n → limit_of who < n → limit_of who ≤ budget → r ≡ Refused 12
  refused-12-beyond T n c h b =
      let (root, e) = root-starts who (tables_of image) (A.valid image (tables_of image) (read_of image T.sound)) (left, right) T.asked in
      refused-12.1 (T, refused-beyond (pairs (tables_of image)) (making (limits_for who) (tables_of image)) (left, right) n c h budget root b e)

  -- 13: "a term beyond 16,384 or a run beyond 65,536 would be entered"; which terms these are, and where it is not returned: Terms13
  pub refused-13 : (r ≡ Refused 13) ↔ (Taken fit image left right × (R ≡ refused 13))
  refused-13 = of-run 13 (omega arith) (omega arith)

  -- ---- "14 last": "the listing exceeds the output buffer"
  pub refused-14 : (r ≡ Refused 14) ↔ (Taken fit image left right × ((o : Outcome) × (R ≡ ok o) × (length out < length (shown who image left right budget o))))
  refused-14 = (λ e. go (way who fit image left right budget (length out)) (iff.0 e), λ h. iff.1 (taken_is who fit image left right budget (length out) h.0 ∙ rw (h.1.1, lt-leb (length (shown who image left right budget h.1.0)) (length out) h.1.2) refl))
    where
      iff : (r ≡ Refused 14) ↔ (M ≡ refused 14)
      iff = refused-iff who image left right budget fit out out' r m 14 (λ z. absurd (omega arith))

      go : Way who fit image left right budget (length out) M → M ≡ refused 14 → Taken fit image left right × ((o : Outcome) × (R ≡ ok o) × (length out < length (shown who image left right budget o)))
      go (short e f) q = absurd (omega (arith, as-refused e q))
      go (unsound j e f g) q = let z = ((A.refused-in-its-case image j).0 g).1 in absurd (omega (arith, as-refused e q))
      go (outside e f g h) q = absurd (omega (arith, as-refused e q))
      go (stopped j e T f) q = absurd (omega (arith, as-refused e q, run-number j f))
      go (over o e T f h) q = (T, (o, f, h))
      go (listed o e T f h) q = absurd (refused-ok (sym q ∙ e))

  -- ---- a listing: nothing of 1 to 14 is the case
  pub listing-where : ((n : ℕ) × (r ≡ Listing n)) ↔ (Taken fit image left right × ((o : Outcome) × (R ≡ ok o) × (length (shown who image left right budget o) ≤ length out)))
  listing-where = (
    λ e. let (l, q) = iff.0 e in go l (way who fit image left right budget (length out)) q,
    λ h. iff.1 (shown who image left right budget h.1.0, taken_is who fit image left right budget (length out) h.0 ∙ rw (h.1.1, le-leb (length (shown who image left right budget h.1.0)) (length out) h.1.2) refl),
  )
    where
      iff : ((n : ℕ) × (r ≡ Listing n)) ↔ ((l : List ℕ) × (M ≡ ok l))
      iff = listing-iff who image left right budget fit out out' r m

      go : (l : List ℕ) → Way who fit image left right budget (length out) M → M ≡ ok l → Taken fit image left right × ((o : Outcome) × (R ≡ ok o) × (length (shown who image left right budget o) ≤ length out))
      go l (short e f) q = absurd (refused-ok (sym e ∙ q))
      go l (unsound j e f g) q = absurd (refused-ok (sym e ∙ q))
      go l (outside e f g h) q = absurd (refused-ok (sym e ∙ q))
      go l (stopped j e T f) q = absurd (refused-ok (sym e ∙ q))
      go l (over o e T f h) q = absurd (refused-ok (sym e ∙ q))
      go l (listed o e T f h) q = (T, (o, f, h))

  -- no other number is returned
  pub refused-numbers : (k : ℕ) → r ≡ Refused k → (1 ≤ k) × (k ≤ 14) × (k ≢ 10)
  refused-numbers k e = ((go (way who fit image left right budget (length out)) (sym m.answer ∙ ap (answer_of out') e)).0, (go (way who fit image left right budget (length out)) (sym m.answer ∙ ap (answer_of out') e)).1, (rw e at m.carries))
    where
      go : Way who fit image left right budget (length out) M → M ≡ refused k → (1 ≤ k) × (k ≤ 14)
      go (short e f) q = omega (arith, as-refused e q)
      go (unsound j e f g) q = let z = (A.refused-in-its-case image j).0 g in omega (arith, as-refused e q, z.0, z.1)
      go (outside e f g h) q = omega (arith, as-refused e q)
      go (stopped j e T f) q = omega (arith, as-refused e q, run-number j f)
      go (over o e T f h) q = omega (arith, as-refused e q)
      go (listed o e T f h) q = absurd (refused-ok (sym q ∙ e))

  -- ---- demand 1: a refusal "leaves the output untouched"
  kept : (k : ℕ) → M ≡ refused k → out' ≡ out
  unfolding output_after
  kept k e = m.output ∙ ap (output_after out) e

  pub refusal-keeps-output : (k : ℕ) → r ≡ Refused k → out' ≡ out
  refusal-keeps-output k e = kept k (sym m.answer ∙ ap (answer_of out') e)

  pub refusal-10-keeps-output : (c : ℕ) → r ≡ Doubled c → out' ≡ out
  refusal-10-keeps-output c e = kept 10 (sym m.answer ∙ ap (answer_of out') e)

  -- .. "and clears the work buffers": a refusal as an accepted call does, but for 1. w is a work buffer before the call, w' afterwards.
  pub work-cleared : {B : Type 0} (empty : B) (w w' : List B) → w' ≡ work_after empty fit w → r ≢ Refused 1 → w' ≡ replicate (length w) empty
  work-cleared empty w w' e n = go fit refl e
    where
      go : (b : Bool) → fit ≡ b → w' ≡ work_after empty b w → w' ≡ replicate (length w) empty
      go true q z = z
      go false q z = absurd (n (refused-1.1 q))

  -- "(leaves them alone where one was too short)"
  pub work-kept : {B : Type 0} (empty : B) (w w' : List B) → w' ≡ work_after empty fit w → r ≡ Refused 1 → w' ≡ w
  work-kept empty w w' e n = rw (refused-1.0 n) at e

-- .. each of the seven, of one call: from the contract of `merge` as it stands.
pub all-cleared : (who : Caller) (image : List ℕ) (left right budget : ℕ) (fit : Bool) (out out' : List ℕ) (r : Answer) → Merges who image left right budget fit out out' r → r ≢ Refused 1
    → (table table' : List Pair) → Table fit table table' → {a a' b b' c c' d d' e e' f f' : List ℕ} → Cleared fit a a' b b' c c' d d' e e' f f'
    → (table' ≡ replicate (length table) none) × (a' ≡ replicate (length a) 0) × (b' ≡ replicate (length b) 0) × (c' ≡ replicate (length c) 0) × (d' ≡ replicate (length d) 0) × (e' ≡ replicate (length e) 0) × (f' ≡ replicate (length f) 0)
all-cleared who image left right budget fit out out' r m n table table' z {a} {a'} {b} {b'} {c} {c'} {d} {d'} {e} {e'} {f} {f'} k =
    (work-cleared who image left right budget fit out out' r m none table table' z n, work-cleared who image left right budget fit out out' r m 0 a a' k.graph n, work-cleared who image left right budget fit out out' r m 0 b b' k.pairs n, work-cleared who image left right budget fit out out' r m 0 c c' k.work n, work-cleared who image left right budget fit out out' r m 0 d d' k.flow n, work-cleared who image left right budget fit out out' r m 0 e e' k.terms n, work-cleared who image left right budget fit out out' r m 0 f f' k.runs n)

-- (02, Paper 2) no "class that differs between installations": two calls on one image that are both refused by 10, with whatever callers, classes, budgets and buffers, name the same class
pub refused-10-alike : (who who₂ : Caller) (image : List ℕ) (left right budget left₂ right₂ budget₂ : ℕ) (fit fit₂ : Bool) (out out' out₂ out₂' : List ℕ) (c d : ℕ)
    → Merges who image left right budget fit out out' (Doubled c) → Merges who₂ image left₂ right₂ budget₂ fit₂ out₂ out₂' (Doubled d) → c ≡ d
refused-10-alike who who₂ image left right budget left₂ right₂ budget₂ fit fit₂ out out' out₂ out₂' c d m w = m.carries ∙ sym w.carries

-- What an answer says, with the output buffer's bytes that go with it, tells the answer: also where it says 10, since a class goes with that.
pub answer-tells : (image out out₂ : List ℕ) (r s : Answer) → answer_of out r ≡ answer_of out₂ s → Carries image out r → Carries image out₂ s → r ≡ s
answer-tells image out out₂ (Listing n) (Listing k) e a b = ap Listing (sym (length-take-le n out a) ∙ ap length (ok-inj e) ∙ length-take-le k out₂ b)
answer-tells image out out₂ (Listing n) (Refused k) e a b = absurd (refused-ok (sym e))
answer-tells image out out₂ (Listing n) (Doubled d) e a b = absurd (refused-ok (sym e))
answer-tells image out out₂ (Refused k) (Listing n) e a b = absurd (refused-ok e)
answer-tells image out out₂ (Refused k) (Refused j) e a b = ap Refused (refused-inj e)
answer-tells image out out₂ (Refused k) (Doubled d) e a b = absurd (a (refused-inj e))
answer-tells image out out₂ (Doubled c) (Listing n) e a b = absurd (refused-ok e)
answer-tells image out out₂ (Doubled c) (Refused j) e a b = absurd (b (sym (refused-inj e)))
answer-tells image out out₂ (Doubled c) (Doubled d) e a b = ap Doubled (a ∙ sym b)

-- (02, Paper 2) "Refusal 10 then leaves nothing open": two calls with the same caller, image, classes and budget, work buffers that fit in both or in neither, and outputs of one length give the same answer; where the outputs were the same, they are so afterwards
module _ (who : Caller) (image : List ℕ) (left right budget : ℕ) (fit : Bool) (out out' out₂ out₂' : List ℕ) (alike : length out ≡ length out₂) where
  pub nothing-open : (r s : Answer) → Merges who image left right budget fit out out' r → Merges who image left right budget fit out₂ out₂' s → (r ≡ s) × (out ≡ out₂ → out' ≡ out₂')
  nothing-open r s m w = (answer-tells image out' out₂' r s (m.answer ∙ ap (merge_for who fit image left right budget) alike ∙ sym w.answer) m.carries w.carries, λ e. m.output ∙ (rw e (sym w.output)))
