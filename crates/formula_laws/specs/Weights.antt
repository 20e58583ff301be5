-- A list without repeats weighs no more than one that has all its entries.
use Rattle.std.specs.Prelude.{◌≡◌, refl, ◌⊎◌, List, [], ◌∷◌, map, ℕ, ◌+◌, ◌≤◌}
use Rattle.std.proofs.Common.{inl, inr, zero-le, arith}
use Rattle.spec.specs.Bytes.{sum}
use Rattle.spec.specs.Meaning.{In, here, there}
use Rattle.laws.specs.Lists.{in-cons, Distinct, none, more}

-- l without its first x
record Without {A : Type 0} (w : A → ℕ) (x : A) (l : List A) : Type 0 where
  others : List A
  weighs : sum (map w l) ≡ w x + sum (map w others)
  found : (y : A) → In y l → (y ≡ x) ⊎ In y others

take_out : {A : Type 0} (w : A → ℕ) (x : A) (l : List A) → In x l → Without w x l
unfolding sum
take_out w x l (here {l = m}) = record { others = m; weighs = refl; found = λ y i. in-cons i }
take_out {A = A} w x l (there {y = z} {l = m} i) = go (take_out w x m i)
  where
    go : Without w x m → Without w x (z ∷ m)
    go W = record {
      others = z ∷ W.others;
      weighs = omega (arith, W.weighs);
      found = λ y j. elim (in-cons j) [ inl a ↦ inr (rw a here) | inr k ↦ elim (W.found y k) [ inl b ↦ inl b | inr c ↦ inr (there c) ] ];
    }

pub weighed : {A : Type 0} (w : A → ℕ) (l m : List A) → Distinct l → ((x : A) → In x l → In x m) → sum (map w l) ≤ sum (map w m)
unfolding sum
weighed w [] m none f = zero-le
weighed {A = A} w (x ∷ l) m (more g d) f = go (take_out w x m (f x here)) (λ k. weighed w l k d)
  where
    go : Without w x m → ((k : List A) → ((y : A) → In y l → In y k) → sum (map w l) ≤ sum (map w k)) → w x + sum (map w l) ≤ sum (map w m)
    go W ih = omega (arith, W.weighs, ih W.others (λ y i. elim (W.found y (f y (there i))) [ inl a ↦ absurd (g (rw (← a) i)) | inr b ↦ b ]))
