-- Laws of lists that counting rests on. Assumes nothing.
use Rattle.std.specs.Prelude.{◌≡◌, refl, List, [], ◌∷◌, ◌++◌, ℕ, zero, suc, ◌≤◌, ◌<◌, length, get_or, take, set}
use Rattle.std.proofs.Common.{ap, not-suc-le-zero, le_of_suc-le-suc}

module _ {A : Type 0} where
  pub take-set : (s : List A) (i : ℕ) (y : A) → i < length s → take (suc i) (set s i y) ≡ take i s ++ (y ∷ [])
  take-set [] i y l = absurd (not-suc-le-zero l)
  take-set (x ∷ s) zero y l = refl
  take-set (x ∷ s) (suc i) y l = ap (λ (r : List A). x ∷ r) (take-set s i y (le_of_suc-le-suc l))

  pub take_all : (s : List A) (i : ℕ) → length s ≤ i → take i s ≡ s
  take_all [] zero l = refl
  take_all [] (suc i) l = refl
  take_all (x ∷ s) zero l = absurd (not-suc-le-zero l)
  take_all (x ∷ s) (suc i) l = ap (λ (r : List A). x ∷ r) (take_all s i (le_of_suc-le-suc l))

  pub take_next : (s : List A) (i : ℕ) (d : A) → i < length s → take (suc i) s ≡ take i s ++ (get_or s i d ∷ [])
  take_next [] i d l = absurd (not-suc-le-zero l)
  take_next (x ∷ s) zero d l = refl
  take_next (x ∷ s) (suc i) d l = ap (λ (r : List A). x ∷ r) (take_next s i d (le_of_suc-le-suc l))
