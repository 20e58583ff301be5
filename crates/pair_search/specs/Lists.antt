-- Laws of truth values and lists that the search rests on. Assumes nothing.
use Rattle.std.specs.Prelude.{◌≡◌, refl, Bool, true, false, not, ◌||◌, List, [], ◌∷◌, ℕ, zero, suc, ◌<◌, min, T, length, get_or, take, drop}
use Rattle.std.proofs.Common.{ap, ◌∙◌, not-suc-le-zero, le_of_suc-le-suc}
use Rattle.std.proofs.Math.Nat.{zero-min, min-zero, suc-min-suc}
use Rattle.spec.specs.Bytes.{either}

-- ---- truth values
pub is_true : (t : Bool) → T t → t ≡ true
is_true true _ = refl
is_true false a = absurd a

pub is_false : (t : Bool) → T (not t) → t ≡ false
is_false true a = absurd a
is_false false _ = refl

pub or-either : (a b c : Bool) → b ≡ c → (a || b) ≡ either a c
or-either true b c e = refl
or-either false b c e = e

module _ {A : Type 0} where
  -- ---- reading and taking
  pub drop-cons : (s : List A) (i : ℕ) (d : A) → i < length s → drop i s ≡ get_or s i d ∷ drop (suc i) s
  drop-cons [] i d h = absurd (not-suc-le-zero h)
  drop-cons (x ∷ s) zero d h = refl
  drop-cons (x ∷ s) (suc i) d h = drop-cons s i d (le_of_suc-le-suc h)

  pub take_min : (c : ℕ) (s : List A) → take (min c (length s)) s ≡ take c s
  take_min zero s = ap (λ (k : ℕ). take k s) (zero-min (length s))
  take_min (suc c) [] = ap (λ (k : ℕ). take {A = A} k []) (min-zero (suc c))
  take_min (suc c) (x ∷ s) = ap (λ (k : ℕ). take k (x ∷ s)) (suc-min-suc c (length s)) ∙ ap (λ (r : List A). x ∷ r) (take_min c s)
