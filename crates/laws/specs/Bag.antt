-- Permutations, entries of lists, and lists in which each entry stands so many times.
use Rattle.std.specs.Prelude.{◌≡◌, refl, ◌⊎◌, Bool, true, false, List, [], ◌∷◌, ◌++◌, map, ℕ, zero, suc, ◌+◌, ◌*◌, ◌≤◌, ◌<◌, length, get_or, take, drop, replicate}
use Rattle.std.proofs.Common.{sym, ap, ◌∙◌, inl, inr, append_assoc, append-nil, not-suc-le-zero, arith}
use Rattle.spec.specs.Bytes.{each, filter, sum}
use Rattle.spec.specs.Meaning.{In, here, there}
use Rattle.laws.specs.Lists.{in-nil, in-cons, in-append}

-- ---- entries
module _ {A : Type 0} where
  -- an entry of a span of a table, by its number in the table
  pub in_span : (l : List A) (k n i : ℕ) (d : A) → k ≤ i → i < k + n → i < length l → In (get_or l i d) (take n (drop k l))
  in_span [] k n i d a b h = absurd (not-suc-le-zero h)
  in_span (x ∷ l) zero zero i d a b h = absurd (omega arith)
  in_span (x ∷ l) zero (suc n) zero d a b h = here
  in_span (x ∷ l) zero (suc n) (suc i) d a b h = there (in_span l zero n i d (omega arith) (omega arith) (omega arith))
  in_span (x ∷ l) (suc k) n zero d a b h = absurd (omega arith)
  in_span (x ∷ l) (suc k) n (suc i) d a b h = in_span l k n i d (omega arith) (omega arith) (omega arith)

  pub span-in : {x : A} (l : List A) (k n : ℕ) (d : A) → In x (take n (drop k l)) → (i : ℕ) × (i < length l) × (x ≡ get_or l i d)
  span-in [] zero zero d j = absurd (in-nil j)
  span-in [] zero (suc n) d j = absurd (in-nil j)
  span-in [] (suc k) zero d j = absurd (in-nil j)
  span-in [] (suc k) (suc n) d j = absurd (in-nil j)
  span-in (y ∷ l) zero zero d j = absurd (in-nil j)
  span-in {x} (y ∷ l) zero (suc n) d j = go (in-cons j) (λ a. span-in l zero n d a)
    where
      go : (x ≡ y) ⊎ In x (take n l) → (In x (take n (drop zero l)) → (i : ℕ) × (i < length l) × (x ≡ get_or l i d)) → (i : ℕ) × (i < suc (length l)) × (x ≡ get_or (y ∷ l) i d)
      go (inl e) ih = (0, omega arith, e)
      go (inr a) ih = let (i, h, e) = ih a in (suc i, omega arith, e)
  span-in (y ∷ l) (suc k) n d j = let (i, h, e) = span-in l k n d j in (suc i, omega arith, e)

pub each_in : {A B : Type 0} (f : A → List B) (l : List A) (y : B) → In y (each f l) → (x : A) × In x l × In y (f x)
unfolding each
each_in f [] y i = absurd (in-nil i)
each_in {A} f (x ∷ l) y i = go (in-append (f x) i) (λ j. each_in f l y j)
  where
    go : In y (f x) ⊎ In y (each f l) → (In y (each f l) → (z : A) × In z l × In y (f z)) → (z : A) × In z (x ∷ l) × In y (f z)
    go (inl j) ih = (x, here, j)
    go (inr j) ih = let (z, k, e) = ih j in (z, there k, e)

pub filter-in : {A : Type 0} (f : A → Bool) {x : A} (l : List A) → In x (filter f l) → In x l × (f x ≡ true)
unfolding filter
filter-in f [] i = absurd (in-nil i)
filter-in f {x} (y ∷ l) i = go (f y) refl (λ j. filter-in f l j)
  where
    go : (b : Bool) → f y ≡ b → (In x (filter f l) → In x l × (f x ≡ true)) → In x (y ∷ l) × (f x ≡ true)
    go false p ih = let (j, e) = ih (rw (p, filter) at i) in (there j, e)
    go true p ih = elim (in-cons (rw (p, filter) at i)) [ inl e ↦ (rw e here, ap f e ∙ p) | inr j ↦ (there (ih j).0, (ih j).1) ]

pub in-filter : {A : Type 0} (f : A → Bool) {x : A} (l : List A) → In x l → f x ≡ true → In x (filter f l)
unfolding filter
in-filter {A = A} f {x = x} [] x3 e = elim x3 [ ]
in-filter f (y ∷ l) here e = rw (e, filter) here
in-filter f {x} (y ∷ l) (there i) e = go (f y) (in-filter f l i e)
  where
    go : (b : Bool) → In x (filter f l) → In x (elim b [ true ↦ y ∷ filter f l | false ↦ filter f l ])
    go true k = there k
    go false k = k

-- ---- permutations
pub data Perm {A : Type 0} : List A → List A → Type 0 where
  nil : Perm [] []
  skip : (x : A) {l m : List A} → Perm l m → Perm (x ∷ l) (x ∷ m)
  swap : (x y : A) (l : List A) → Perm (x ∷ y ∷ l) (y ∷ x ∷ l)
  both : {l m k : List A} → Perm l m → Perm m k → Perm l k

module _ {A : Type 0} where
  pub perm-refl : (l : List A) → Perm l l
  perm-refl [] = nil
  perm-refl (x ∷ l) = skip x (perm-refl l)

  pub perm-of-eq : {l m : List A} → l ≡ m → Perm l m
  perm-of-eq {l} {m} e = rw e (perm-refl m)

  pub perm-sym : {l m : List A} → Perm l m → Perm m l
  perm-sym nil = nil
  perm-sym (skip x p) = skip x (perm-sym p)
  perm-sym (swap x y l) = swap y x l
  perm-sym (both p q) = both (perm-sym q) (perm-sym p)

  pub perm-left : (k : List A) {l m : List A} → Perm l m → Perm (k ++ l) (k ++ m)
  perm-left [] p = p
  perm-left (x ∷ k) p = skip x (perm-left k p)

  pub perm-right : {l m : List A} (k : List A) → Perm l m → Perm (l ++ k) (m ++ k)
  perm-right k nil = perm-refl k
  perm-right k (skip x p) = skip x (perm-right k p)
  perm-right k (swap x y l) = swap x y (l ++ k)
  perm-right k (both p q) = both (perm-right k p) (perm-right k q)

  pub perm_middle : (x : A) (l m : List A) → Perm (x ∷ (l ++ m)) (l ++ (x ∷ m))
  perm_middle x [] m = perm-refl _
  perm_middle x (y ∷ l) m = both (swap x y (l ++ m)) (skip y (perm_middle x l m))

  pub perm_comm : (l m : List A) → Perm (l ++ m) (m ++ l)
  perm_comm [] m = perm-of-eq (sym (append-nil m))
  perm_comm (x ∷ l) m = both (skip x (perm_comm l m)) (perm_middle x m l)

  -- the first two blocks change places
  pub perm-past : (a b l : List A) → Perm (a ++ (b ++ l)) (b ++ (a ++ l))
  perm-past a b l = both (perm-of-eq (sym (append_assoc a b l))) (both (perm-right l (perm_comm a b)) (perm-of-eq (append_assoc b a l)))

  pub perm_in : {x : A} {l m : List A} → Perm l m → In x l → In x m
  perm_in nil i = i
  perm_in {x} (skip y {m = m} p) i = elim (in-cons i) [ inl e ↦ rw e here | inr j ↦ there (perm_in p j) ]
  perm_in {x} (swap y z l) i = go (in-cons i)
    where
      go : (x ≡ y) ⊎ In x (z ∷ l) → In x (z ∷ y ∷ l)
      go (inl e) = rw e (there here)
      go (inr j) = elim (in-cons j) [ inl e ↦ rw e here | inr k ↦ there (there k) ]
  perm_in (both p q) i = perm_in q (perm_in p i)

module _ {A B : Type 0} (h : A → B) where
  pub perm-map : {l m : List A} → Perm l m → Perm (map h l) (map h m)
  perm-map nil = nil
  perm-map (skip x p) = skip (h x) (perm-map p)
  perm-map (swap x y l) = swap (h x) (h y) (map h l)
  perm-map (both p q) = both (perm-map p) (perm-map q)

  pub map-append : (l m : List A) → map h (l ++ m) ≡ map h l ++ map h m
  map-append [] m = refl
  map-append (x ∷ l) m = ap (λ z. h x ∷ z) (map-append l m)

  pub map-replicate : (k : ℕ) (x : A) → map h (replicate k x) ≡ replicate k (h x)
  map-replicate zero x = refl
  map-replicate (suc k) x = ap (λ z. h x ∷ z) (map-replicate k x)

pub sum-append : (l m : List ℕ) → sum (l ++ m) ≡ sum l + sum m
unfolding sum
sum-append [] m = omega arith
sum-append (x ∷ l) m = omega (arith, sum-append l m)

pub sum-perm : {l m : List ℕ} → Perm l m → sum l ≡ sum m
unfolding sum
sum-perm nil = refl
sum-perm (skip x p) = omega (arith, sum-perm p)
sum-perm (swap x y l) = omega arith
sum-perm (both p q) = sum-perm p ∙ sum-perm q

pub sum-replicate : (k x : ℕ) → sum (replicate k x) ≡ k * x
unfolding sum
sum-replicate zero x = omega arith
sum-replicate (suc k) x = omega (arith, sum-replicate k x)

pub replicate-in : {A : Type 0} {x y : A} (k : ℕ) → In x (replicate k y) → (x ≡ y) × (1 ≤ k)
replicate-in zero i = absurd (in-nil i)
replicate-in (suc k) i = elim (in-cons i) [ inl e ↦ (e, omega arith) | inr j ↦ ((replicate-in k j).0, omega arith) ]
