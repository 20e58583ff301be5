-- Laws of lists that entering rests on. Assumes nothing.
use Rattle.std.specs.Prelude.{◌≡◌, Bool, get_or, take, set}
use Rattle.std.proofs.Math.Path.{refl}
use Rattle.std.proofs.Common.{sym, ap, ◌∙◌, not-suc-le-zero, le_of_suc-le-suc, arith}
use Rattle.std.proofs.Math.Bool.{true, false}
use mathlib.Core.List.{List, [], ◌∷◌}
use Prim.Native.Nat.{ℕ, zero, suc, ◌≤◌, ◌<◌}
use Rattle.std.proofs.Math.ListN.{length}
use Rattle.spec.specs.Bytes.{any, place}
use Rattle.laws.specs.Tests.{clash}

module _ {A : Type 0} where
  -- ---- reading, taking and setting
  pub get_d_take : (c : ℕ) (s : List A) (k : ℕ) (d : A) → k < length (take c s) → get_or (take c s) k d ≡ get_or s k d
  get_d_take zero s k d h = absurd (not-suc-le-zero h)
  get_d_take (suc c) [] k d h = refl
  get_d_take (suc c) (x ∷ s) zero d h = refl
  get_d_take (suc c) (x ∷ s) (suc k) d h = get_d_take c s k d (le_of_suc-le-suc h)

  pub set_same : (s : List A) (i : ℕ) (d : A) → set s i (get_or s i d) ≡ s
  set_same [] i d = refl
  set_same (x ∷ s) zero d = refl
  set_same (x ∷ s) (suc i) d = ap (λ (r : List A). x ∷ r) (set_same s i d)

  -- nothing is set past the end
  pub set_past : (s : List A) (i : ℕ) (y : A) → length s ≤ i → set s i y ≡ s
  set_past [] i y l = refl
  set_past (x ∷ s) zero y l = absurd (not-suc-le-zero l)
  set_past (x ∷ s) (suc i) y l = ap (λ (r : List A). x ∷ r) (set_past s i y (le_of_suc-le-suc l))

  -- ---- the first entry that passes
  module _ (f : A → Bool) where
    pub place-some : (l : List A) → any f l ≡ true → place f l < length l
    unfolding place any
    place-some [] h = absurd (clash (sym h))
    place-some (x ∷ l) h = go (f x) refl (place-some l)
      where
        go : (b : Bool) → f x ≡ b → (any f l ≡ true → place f l < length l) → place f (x ∷ l) < suc (length l)
        go true e ih = rw (e, place) (omega arith)
        go false e ih = let z : any f (x ∷ l) ≡ any f l = rw (e, any) refl in rw (e, place) (omega (arith, ih (sym z ∙ h)))

    pub place_none : (l : List A) → any f l ≡ false → place f l ≡ length l
    unfolding place any
    place_none [] h = refl
    place_none (x ∷ l) h = go (f x) refl (place_none l)
      where
        go : (b : Bool) → f x ≡ b → (any f l ≡ false → place f l ≡ length l) → place f (x ∷ l) ≡ suc (length l)
        go true e ih = let z : any f (x ∷ l) ≡ true = rw (e, any) refl in absurd (clash (sym z ∙ h))
        go false e ih = let z : any f (x ∷ l) ≡ any f l = rw (e, any) refl in rw (e, place) (ap suc (ih (sym z ∙ h)))

    pub place-passes : (d : A) (l : List A) → any f l ≡ true → f (get_or l (place f l) d) ≡ true
    unfolding place any
    place-passes d [] h = absurd (clash (sym h))
    place-passes d (x ∷ l) h = go (f x) refl (place-passes d l)
      where
        go : (b : Bool) → f x ≡ b → (any f l ≡ true → f (get_or l (place f l) d) ≡ true) → f (get_or (x ∷ l) (place f (x ∷ l)) d) ≡ true
        go true e ih = rw (e, place) e
        go false e ih = let z : any f (x ∷ l) ≡ any f l = rw (e, any) refl in rw (e, place) (ih (sym z ∙ h))
