-- What the answer of `monomials` says of the action at a pair of places, for its callers.
use Rattle.std.specs.Prelude.{◌≡◌, Bool, ℕ, ◌-◌, length, drop, Option, Some, None}
use Rattle.std.proofs.Math.Path.{refl}
use Rattle.std.proofs.Math.Bool.{true, false}
use mathlib.Core.List.{List, [], ◌∷◌}
use Rattle.std.proofs.Common.{ap, arith, take_at}
use borrow.Author.Tests.{ltb-true, ltb-false, eqb-true, eqb-false}
use Rattle.std.proofs.Math.Dec.{ltb, eqb}
use Rattle.spec.specs.Bytes.{pick, both, filter}
use Rattle.spec.specs.Image.{Tables, NO-IDENTITY, identity_of}
use Rattle.spec.specs.Monomial.{Monomial, MonomialPair, total, pair_of, pad_pair, both_itself, narrow, narrow_pairs}
use Rattle.laws.specs.Monomials.{total-insert}
use Rattle.monomial_terms.specs.Terms.{terms, held}
use Rattle.monomial.specs.Places.{monomial_at}
use Rattle.padding.specs.Pad.{levelled, unmatched, both_narrow, padded_of, answer_of, sides_of}
use Rattle.ac_monomials.specs.Actions.{action_over, actions_at, Answered}
use Rattle.ac_repr.specs.declared.Walk.{Walk}

-- ---- the definitions' pair, by what the buffers hold
abbrev fits : MonomialPair → Bool
fits p = both (narrow p.rows) (narrow p.cols)

module _ (identity : ℕ) (a b : Monomial) where
  -- padding levels the smaller one; without an identity there is no pair
  pad-sides : pad_pair identity a b ≡ pick (unmatched identity (total a) (total b)) [] (pair_of (levelled identity a b) (levelled identity b a) ∷ [])
  unfolding pad_pair levelled
  pad-sides = step (eqb (total a) (total b)) refl (eqb identity NO-IDENTITY) refl (ltb (total a) (total b)) refl (ltb (total b) (total a)) refl
    where
      step : (p : Bool) → eqb (total a) (total b) ≡ p → (q : Bool) → eqb identity NO-IDENTITY ≡ q → (s : Bool) → ltb (total a) (total b) ≡ s → (u : Bool) → ltb (total b) (total a) ≡ u
          → pad_pair identity a b ≡ pick (unmatched identity (total a) (total b)) [] (pair_of (levelled identity a b) (levelled identity b a) ∷ [])
      step true e q f true g u h = absurd (omega (arith, eqb-true (total a) (total b) e, ltb-true (total a) (total b) g))
      step true e q f false g true h = absurd (omega (arith, eqb-true (total a) (total b) e, ltb-true (total b) (total a) h))
      step true e q f false g false h = rw (e, g, h) refl
      step false e true f s g u h = rw (e, f) refl
      step false e false f true g true h = absurd (omega (arith, ltb-true (total a) (total b) g, ltb-true (total b) (total a) h))
      step false e false f true g false h = rw (e, f, g, h) refl
      step false e false f false g true h = rw (e, f, g, h) refl
      step false e false f false g false h =
          let n : total a ≡ total b → ⊥ = eqb-false (total a) (total b) e in
          absurd (omega (arith, ltb-false (total a) (total b) g, ltb-false (total b) (total a) h))

  narrow-sides : narrow_pairs (pad_pair identity a b) ≡ sides_of (padded_of identity a b) (levelled identity a b) (levelled identity b a)
  unfolding narrow_pairs filter padded_of
  narrow-sides =
      rw pad-sides
      (step (unmatched identity (total a) (total b)) refl (both_narrow (levelled identity a b) (levelled identity b a)) refl)
    where
      step : (p : Bool) → unmatched identity (total a) (total b) ≡ p → (q : Bool) → both_narrow (levelled identity a b) (levelled identity b a) ≡ q
          → filter fits (pick (unmatched identity (total a) (total b)) [] (pair_of (levelled identity a b) (levelled identity b a) ∷ []))
          ≡ sides_of (padded_of identity a b) (levelled identity a b) (levelled identity b a)
      step true e q f = rw e refl
      step false e true f = rw (e, filter, f) refl
      step false e false f = rw (e, filter, f) refl

  pub sides-are : (l r : ℕ) → narrow_pairs (elim (both_itself l r a b) [ true ↦ [] | false ↦ pad_pair identity a b ])
      ≡ sides_of (answer_of l r identity a b) (levelled identity a b) (levelled identity b a)
  unfolding answer_of narrow_pairs filter
  sides-are l r = step (both_itself l r a b) refl
    where
      step : (p : Bool) → both_itself l r a b ≡ p → filter fits (elim p [ true ↦ [] | false ↦ pad_pair identity a b ])
          ≡ sides_of (pick p None (padded_of identity a b)) (levelled identity a b) (levelled identity b a)
      step true e = refl
      step false e = narrow-sides

-- a pair was answered: so many rows and columns, no count too large, and no padding lacking
invert : (p q s : Bool) (x y n m : ℕ) → ◌≡◌ {A = Option (ℕ × ℕ)} (Some (n, m)) (pick p None (pick q None (pick s (Some (x, y)) None))) → (x ≡ n) × (y ≡ m) × (s ≡ true) × (q ≡ false)
invert true q s x y n m e = absurd (let z : ◌≡◌ {A = ℕ} 0 1 = cc in omega arith)
invert false true s x y n m e = absurd (let z : ◌≡◌ {A = ℕ} 0 1 = cc in omega arith)
invert false false true x y n m e =
    let z : ◌≡◌ {A = ℕ × ℕ} (x, y) (n, m) = cc in
    (ap (λ (p : ℕ × ℕ). p.0) z, ap (λ (p : ℕ × ℕ). p.1) z, refl, refl)
invert false false false x y n m e = absurd (let z : ◌≡◌ {A = ℕ} 0 1 = cc in omega arith)

-- padding makes totals equal
levels : (identity : ℕ) (a b : Monomial) → unmatched identity (total a) (total b) ≡ false → total (levelled identity a b) ≡ total (levelled identity b a)
unfolding levelled
levels identity a b h = step (eqb (total a) (total b)) refl (eqb identity NO-IDENTITY) refl (ltb (total a) (total b)) refl (ltb (total b) (total a)) refl
  where
    step : (p : Bool) → eqb (total a) (total b) ≡ p → (q : Bool) → eqb identity NO-IDENTITY ≡ q → (s : Bool) → ltb (total a) (total b) ≡ s → (u : Bool) → ltb (total b) (total a) ≡ u
        → total (levelled identity a b) ≡ total (levelled identity b a)
    step true e q f true g u i = absurd (omega (arith, eqb-true (total a) (total b) e, ltb-true (total a) (total b) g))
    step true e q f false g true i = absurd (omega (arith, eqb-true (total a) (total b) e, ltb-true (total b) (total a) i))
    step true e q f false g false i = rw (g, i) (eqb-true (total a) (total b) e)
    step false e true f s g u i = absurd (let n : ◌≡◌ {A = Bool} true false = rw (e, f) at h in let z : ◌≡◌ {A = ℕ} 0 1 = cc in omega arith)
    step false e false f true g true i = absurd (omega (arith, ltb-true (total a) (total b) g, ltb-true (total b) (total a) i))
    step false e false f true g false i = rw (f, g, i) (omega (arith, total-insert identity (total b - total a) a, ltb-true (total a) (total b) g))
    step false e false f false g true i = rw (f, g, i) (omega (arith, total-insert identity (total a - total b) b, ltb-true (total b) (total a) i))
    step false e false f false g false i =
        let n : total a ≡ total b → ⊥ = eqb-false (total a) (total b) e in
        absurd (omega (arith, ltb-false (total a) (total b) g, ltb-false (total b) (total a) i))

-- ---- what a caller of `monomials` knows
module _ (t : Tables) (l r : ℕ) (w : Walk) (s u s' u' : List ℕ) where
  -- no action at this pair of places
  pub action-none : Answered t l r w s u s' u' None → actions_at t l r w ≡ []
  unfolding actions_at action_over
  action-none d = rw (sides-are (identity_of t w.op) (monomial_at t l w.a) (monomial_at t r w.b) l r, ← d.answer) refl

  module _ (n m : ℕ) (d : Answered t l r w s u s' u' (Some (n, m))) where
    A : Monomial
    A = levelled (identity_of t w.op) (monomial_at t l w.a) (monomial_at t r w.b)

    B : Monomial
    B = levelled (identity_of t w.op) (monomial_at t r w.b) (monomial_at t l w.a)

    said : (length A ≡ n) × (length B ≡ m) × (both_narrow A B ≡ true) × (unmatched (identity_of t w.op) (total (monomial_at t l w.a)) (total (monomial_at t r w.b)) ≡ false)
    unfolding answer_of padded_of A B
    said =
        invert (both_itself l r (monomial_at t l w.a) (monomial_at t r w.b)) (unmatched (identity_of t w.op) (total (monomial_at t l w.a)) (total (monomial_at t r w.b))) (both_narrow A B)
        (length A) (length B) n m d.answer

    rows-held : held n s' ≡ A
    unfolding A
    rows-held = rw d.rows (take_at A (drop (length A) (terms s)) n said.0)

    cols-held : held m u' ≡ B
    unfolding B
    cols-held = rw d.cols (take_at B (drop (length B) (terms u)) m said.1)

    -- one action, over the monomials that the buffers hold
    pub action-one : actions_at t l r w ≡ record { op = w.op; sides = pair_of (held n s') (held m u') } ∷ []
    unfolding actions_at action_over A B
    action-one =
        rw (sides-are (identity_of t w.op) (monomial_at t l w.a) (monomial_at t r w.b) l r, ← d.answer, rows-held, cols-held) refl

    -- totals are equal, and no count is too large
    pub action-level : total (held n s') ≡ total (held m u')
    unfolding A B
    action-level = rw (rows-held, cols-held) (levels (identity_of t w.op) (monomial_at t l w.a) (monomial_at t r w.b) said.3)

    pub action-narrow : both_narrow (held n s') (held m u') ≡ true
    action-narrow = rw (rows-held, cols-held) said.2
