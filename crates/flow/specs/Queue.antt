-- The queue as a list: who stands in it.
use Rattle.std.specs.Prelude.{Bool, true, false, List, [], ◌∷◌, ◌++◌, ◌⊎◌, ◌≢◌, ◌≡◌, refl, ℕ, zero, suc, ◌+◌, ◌≤◌, ◌<◌, length}
use Rattle.std.proofs.Common.{inl, inr, eq-or-lt_of_le, le_refl, arith, length-append}
use Rattle.spec.specs.Bytes.{pick, up_from}
use Rattle.spec.specs.Meaning.{In, here, there}

pub in_left : {A : Type 0} {a : A} {l : List A} (r : List A) → In a l → In a (l ++ r)
in_left r here = here
in_left r (there p) = there (in_left r p)

pub in-last : {A : Type 0} (l : List A) (a : A) → In a (l ++ (a ∷ []))
in-last [] a = here
in-last (x ∷ l) a = there (in-last l a)

pub in-nil : {A : Type 0} {a : A} → In a [] → ⊥
in-nil p = elim p [ ]

-- ---- the queue
module _ (q : List ℕ) (v : ℕ) where
  pub queue-keeps : (b : Bool) {a : ℕ} → In a q → In a (pick b q (q ++ (v ∷ [])))
  queue-keeps true i = i
  queue-keeps false i = in_left (v ∷ []) i

  pub queue-has : (b : Bool) → (b ≡ true → In v q) → In v (pick b q (q ++ (v ∷ [])))
  queue-has true f = f refl
  queue-has false f = in-last q v

  pub queue-length : (b : Bool) → length (pick b q (q ++ (v ∷ []))) ≤ length q + 1
  queue-length true = omega arith
  queue-length false = omega (arith, length-append q (v ∷ []))

in_split : (q r : List ℕ) (a : ℕ) → In a (q ++ r) → In a q ⊎ In a r
in_split [] r a i = inr i
in_split (y ∷ q) r a here = inl here
in_split (y ∷ q) r a (there i) = elim (in_split q r a i) [ inl k ↦ inl (there k) | inr k ↦ inr k ]

in_one : {a v : ℕ} → In a (v ∷ []) → a ≡ v
in_one here = refl
in_one (there i) = absurd (in-nil i)

pub queue-from : (q : List ℕ) (v : ℕ) (b : Bool) (a : ℕ) → In a (pick b q (q ++ (v ∷ []))) → In a q ⊎ (a ≡ v)
queue-from q v true a i = inl i
queue-from q v false a i = elim (in_split q (v ∷ []) a i) [ inl k ↦ inl k | inr k ↦ inr (in_one k) ]

pub in_tail : {a u : ℕ} {q : List ℕ} → In a (u ∷ q) → a ≢ u → In a q
in_tail here ne = absurd (ne refl)
in_tail (there i) ne = i

pub in-upFrom : (n a v : ℕ) → In v (up_from a n) → (a ≤ v) × (v < a + n)
unfolding up_from
in-upFrom zero a v i = absurd (in-nil i)
in-upFrom (suc n) a v here = (le_refl _, omega arith)
in-upFrom (suc n) a v (there i) = let q = in-upFrom n (suc a) v i in (omega arith, omega arith)

pub up_from-in : (n a v : ℕ) → a ≤ v → v < a + n → In v (up_from a n)
unfolding up_from
up_from-in zero a v h k = absurd (omega arith)
up_from-in (suc n) a v h k = elim (eq-or-lt_of_le h) [ inl e ↦ rw e here | inr l ↦ there (up_from-in n (suc a) v l (omega arith)) ]
