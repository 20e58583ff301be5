-- A number at a place, and a literal.
use Rattle.std.proofs.Math.Path.{◌≡◌, refl, sym, ap}
use Rattle.std.proofs.Common.{◌∙◌, length-drop, drop_of_length-le, drop-drop}
use Rattle.std.specs.Prelude.{Some, None, Bool, leb, eqb, get_or}
use Rattle.std.proofs.Math.Bool.{true, false}
use mathlib.Core.List.{List, [], ◌∷◌, ◌++◌}
use Prim.Native.Nat.{ℕ, suc, ◌+◌, ◌≤◌, ◌<◌}
use native.Mathlib.Omega.{arith}
use Rattle.std.proofs.Math.Numerals.{add-one}
use Rattle.std.proofs.Math.ListN.{length, drop, length-append}
use Rattle.std.proofs.Math.Seq.{drop-cons}
use borrow.Author.Tests.{leb-true, le-leb, ne_eqb}
use Rattle.spec.specs.Bytes.{pick, both, decimal, Res, ok, refused}
use Rattle.laws.specs.Results.{refused-ok, ok-inj}
use Rattle.laws.specs.Tests.{both_true, clash}
use Rattle.formula.specs.Card.{literal, spell_mark, proper_mark}
use Rattle.formula.specs.Lexer.{digit, starts_with, lead, literal_at, mark_at, stands_at}
use Rattle.formula.specs.Lines.{cut_number}
use Rattle.text_cut.specs.Cutting.{CutsNumber}
use Rattle.text_cut.specs.CutLaws.{word_fits}
use Rattle.card_cut.specs.Cutting.{Cuts}
use Rattle.card_cut.specs.declared.Mark.TheVariants as M

-- one word behind another
pub starts-append : (w v s : List ℕ) → starts_with (w ++ v) s ≡ both (starts_with w s) (starts_with v (drop (length w) s))
unfolding starts_with
starts-append [] v s = refl
starts-append (c ∷ w) v [] = refl
starts-append (c ∷ w) v (d ∷ s) = go (eqb c d) refl (starts-append w v s)
  where
    go : (b : Bool) → eqb c d ≡ b → starts_with (w ++ v) s ≡ both (starts_with w s) (starts_with v (drop (length w) s)) → starts_with (c ∷ w ++ v) (d ∷ s) ≡ both (starts_with (c ∷ w) (d ∷ s)) (starts_with v (drop (length w) s))
    go true e ih = rw (e, starts_with) ih
    go false e ih = rw (e, starts_with) refl

-- ---- a number
pub record NumberAt (most : ℕ) (s : List ℕ) (at v e : ℕ) : Type 0 where
  pub value : lead 0 (drop at s) ≡ v
  pub low : v ≤ most
  pub stands : starts_with (decimal v) (drop at s) ≡ true
  pub behind : e ≡ at + length (decimal v)
  pub within : e ≤ length s

module _ (most : ℕ) (s : List ℕ) (at : ℕ) where
  pub number_read : (v e : ℕ) → at ≤ length s → CutsNumber most s at (Some (v, e)) → NumberAt most s at v e
  unfolding cut_number
  number_read v e h W = go (both (leb (lead 0 (drop at s)) most) (starts_with (decimal (lead 0 (drop at s))) (drop at s))) refl W.answer
    where
      Read : ℕ × List ℕ
      Read = (lead 0 (drop at s), drop (length (decimal (lead 0 (drop at s)))) (drop at s))

      go : (b : Bool) → both (leb (lead 0 (drop at s)) most) (starts_with (decimal (lead 0 (drop at s))) (drop at s)) ≡ b → ok (v, drop e s) ≡ pick b (ok Read) (refused 17) → NumberAt most s at v e
      go true p q =
          let same : (v, drop e s) ≡ Read = ok-inj q in
          let z : lead 0 (drop at s) ≡ v = sym (ap (λ (x : ℕ × List ℕ). x.0) same) in
          let y : drop (length (decimal v)) (drop at s) ≡ drop e s = ap (λ (x : ℕ). drop (length (decimal x)) (drop at s)) (sym z) ∙ sym (ap (λ (x : ℕ × List ℕ). x.1) same) in
          let (a, b) = (both_true (leb (lead 0 (drop at s)) most) _).0 p in
          let u : starts_with (decimal v) (drop at s) ≡ true = ap (λ (x : ℕ). starts_with (decimal x) (drop at s)) (sym z) ∙ b in
          record {
            value = z;
            low = omega (arith, leb-true (lead 0 (drop at s)) most a);
            stands = u;
            behind = omega (arith, word_fits (decimal v) s at (sym u) h, W.behind.1, ap length y, length-drop (length (decimal v)) (drop at s), length-drop at s, length-drop e s);
            within = W.behind.1;
          }
      go false p q = absurd (refused-ok (sym q))

  pub number-none : CutsNumber most s at None → both (leb (lead 0 (drop at s)) most) (starts_with (decimal (lead 0 (drop at s))) (drop at s)) ≡ false
  unfolding cut_number
  number-none W = go (both (leb (lead 0 (drop at s)) most) (starts_with (decimal (lead 0 (drop at s))) (drop at s))) refl W.answer
    where
      go : (b : Bool) → both (leb (lead 0 (drop at s)) most) (starts_with (decimal (lead 0 (drop at s))) (drop at s)) ≡ b → ◌≡◌ {A = Res (ℕ × List ℕ)} (refused 17) (pick b (ok (lead 0 (drop at s), drop (length (decimal (lead 0 (drop at s)))) (drop at s))) (refused 17)) → both (leb (lead 0 (drop at s)) most) (starts_with (decimal (lead 0 (drop at s))) (drop at s)) ≡ false
      go true p q = absurd (refused-ok q)
      go false p q = p

-- ---- `value#operation`
module _ (t s : List ℕ) (at : ℕ) (h : at < length s) (d : digit (get_or s at 0) ≡ true) where
  literal-mark : mark_at t (drop at s) ≡ literal_at (drop at s)
  unfolding mark_at
  literal-mark = let e = drop-cons s at 0 h in ap (mark_at t) e ∙ (rw (d, mark_at) refl) ∙ ap literal_at (sym e)

  -- its tests
  four : (v o : ℕ) → Bool
  four v o = both (both (leb v 4294967295) (leb o 63)) (both (starts_with (decimal v) (drop at s)) (starts_with (35 ∷ decimal o) (drop (length (decimal v)) (drop at s))))

  literal-tests : (v o : ℕ) → stands_at t (literal v o) (drop at s) ≡ four v o
  unfolding stands_at proper_mark spell_mark four
  literal-tests v o = ap (both (both (leb v 4294967295) (leb o 63))) (starts-append (decimal v) (35 ∷ decimal o) (drop at s))

  operation_of : ℕ → ℕ
  operation_of v = lead 0 (drop (suc (length (decimal v))) (drop at s))

  tested : stands_at t (mark_at t (drop at s)) (drop at s) ≡ four (lead 0 (drop at s)) (operation_of (lead 0 (drop at s)))
  unfolding operation_of
  tested = ap (λ m. stands_at t m (drop at s)) literal-mark ∙ literal-tests _ _

  pub no_value : CutsNumber 4294967295 s at None → Cuts t s at None
  unfolding four
  no_value W = tested ∙ go (leb (lead 0 (drop at s)) 4294967295) _ (starts_with (decimal (lead 0 (drop at s))) (drop at s)) _ (number-none 4294967295 s at W)
    where
      go : (a b c e : Bool) → both a c ≡ false → both (both a b) (both c e) ≡ false
      go true true true e p = absurd (clash p)
      go true true false e p = refl
      go true false c e p = refl
      go false b c e p = refl

  module _ (v e : ℕ) (X : NumberAt 4294967295 s at v e) where
    behind-value : drop (length (decimal v)) (drop at s) ≡ drop e s
    behind-value = drop-drop (length (decimal v)) at s ∙ ap (λ (z : ℕ). drop z s) (sym X.behind)

    -- the value's tests pass
    two : stands_at t (mark_at t (drop at s)) (drop at s) ≡ both (leb (operation_of v) 63) (starts_with (35 ∷ decimal (operation_of v)) (drop e s))
    unfolding four
    two = tested ∙ ap (λ (z : ℕ). four z (operation_of z)) X.value ∙ (rw (le-leb v 4294967295 X.low, X.stands, behind-value) refl)

    no : (a b : Bool) → b ≡ false → both a b ≡ false
    no true b p = p
    no false b p = refl

    pub value-ends : e ≡ length s → Cuts t s at None
    unfolding starts_with
    value-ends p =
        let l : length s ≤ e = omega arith in
        two ∙ no (leb (operation_of v) 63) _ (rw (drop_of_length-le s l) refl)

    pub no-hash : e < length s → (get_or s e 0 ≡ 35 → ⊥) → Cuts t s at None
    unfolding starts_with
    no-hash l p = two ∙ no (leb (operation_of v) 63) _ (rw (drop-cons s e 0 l, ne_eqb 35 (get_or s e 0) (λ z. p (sym z)), starts_with) refl)

    module _ (l : e < length s) (p : get_or s e 0 ≡ 35) where
      operation : operation_of v ≡ lead 0 (drop (e + 1) s)
      unfolding operation_of
      operation = let z : at + suc (length (decimal v)) ≡ e + 1 = omega (arith, X.behind) in ap (lead 0) (drop-drop (suc (length (decimal v))) at s ∙ ap (λ (z : ℕ). drop z s) z)

      one : stands_at t (mark_at t (drop at s)) (drop at s) ≡ both (leb (lead 0 (drop (e + 1) s)) 63) (starts_with (decimal (lead 0 (drop (e + 1) s))) (drop (e + 1) s))
      unfolding starts_with
      one = two ∙ (rw (drop-cons s e 0 l, p, operation, add-one e) refl)

      pub no-operation : CutsNumber 63 s (e + 1) None → Cuts t s at None
      no-operation W = one ∙ number-none 63 s (e + 1) W

      pub literal-there : (o f : ℕ) → NumberAt 63 s (e + 1) o f → Cuts t s at (Some (M.Literal v o, f))
      unfolding spell_mark operation_of
      literal-there o f O =
          let m : mark_at t (drop at s) ≡ literal v o = literal-mark ∙ ap (λ (z : ℕ). literal z (operation_of z)) X.value ∙ ap (literal v) (operation ∙ O.value) in
          let n : length (spell_mark t (literal v o)) ≡ length (decimal v) + suc (length (decimal o)) = length-append (decimal v) (35 ∷ decimal o) in
          (one ∙ (rw (O.value, le-leb o 63 O.low) O.stands), sym m, rw m (omega (arith, n, X.behind, O.behind)))
