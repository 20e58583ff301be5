-- The monomial of a list of children is sorted, free of repeats, and adds counts; padding makes totals equal.
use Rattle.std.specs.Prelude.{◌≡◌, refl, ◌≢◌, ◌⊎◌, Bool, true, false, List, [], ◌∷◌, ◌++◌, ℕ, suc, ◌+◌, ◌-◌, ◌≤◌, ltb, eqb}
use Rattle.std.proofs.Common.{inl, inr, arith, ltb-true, ltb-false, eqb-true}
use Rattle.std.proofs.lemmas.Bool.{eqb-false}
use Rattle.spec.specs.Bytes.{pick, sum, Two}
use Rattle.spec.specs.Image.{NO-IDENTITY}
use Rattle.spec.specs.Monomial.{Monomial, insert_add, add_all, monomial, total, MonomialPair, pair_of, pad_pair}
use Rattle.spec.specs.Meaning.{In, here, there, count_in}

-- ---- "Classes rising": each class above the one before, so that none stands twice
pub data Rising : ℕ → Monomial → Type 0 where
  end : {b : ℕ} → Rising b []
  more : {b : ℕ} {t : Two} {m : Monomial} → b ≤ t.0 → Rising (suc t.0) m → Rising b (t ∷ m)

pub rising-insert : (b c k : ℕ) (m : Monomial) → b ≤ c → Rising b m → Rising b (insert_add c k m)
unfolding insert_add
rising-insert b c k [] h end = more h end
rising-insert b c k (t ∷ m) h (more g r) = step (ltb t.0 c) refl (eqb t.0 c) refl (λ l. rising-insert (suc t.0) c k m l r)
  where
    step : (p : Bool) → ltb t.0 c ≡ p → (q : Bool) → eqb t.0 c ≡ q → (suc t.0 ≤ c → Rising (suc t.0) (insert_add c k m)) → Rising b (insert_add c k (t ∷ m))
    step true e q f ih = rw (e, insert_add) (more g (ih (ltb-true t.0 c e)))
    step false e true f ih = rw (e, insert_add, f) (more h (rw (eqb-true t.0 c f) at r))
    step false e false f ih =
        let n : t.0 ≡ c → ⊥ = eqb-false t.0 c f in
        let l : suc c ≤ t.0 = omega (arith, ltb-false t.0 c e) in
        rw (e, insert_add, f) (more h (more l r))

rising-all : (m : Monomial) (l : List Two) → Rising 0 m → Rising 0 (add_all m l)
unfolding add_all
rising-all m [] r = r
rising-all m (t ∷ l) r = rising-all (insert_add t.0 t.1 m) l (rising-insert 0 t.0 t.1 m (omega arith) r)

-- "Classes rising"
pub monomial-rises : (l : List Two) → Rising 0 (monomial l)
monomial-rises l = rising-all [] l end

-- ---- (02, Paper 6) "after each child, the list held is the monomial of the children read so far"
all_more : (m : Monomial) (l : List Two) (t : Two) → add_all m (l ++ (t ∷ [])) ≡ insert_add t.0 t.1 (add_all m l)
unfolding add_all
all_more m [] t = refl
all_more m (x ∷ l) t = all_more (insert_add x.0 x.1 m) l t

pub monomial-more : (l : List Two) (t : Two) → monomial (l ++ (t ∷ [])) ≡ insert_add t.0 t.1 (monomial l)
monomial-more l t = all_more [] l t

-- ---- "counts of one class added"
pub count-insert : (x c k : ℕ) (m : Monomial) → count_in x (insert_add c k m) ≡ pick (eqb c x) k 0 + count_in x m
unfolding insert_add count_in
count-insert x c k [] = refl
count-insert x c k (t ∷ m) = step (ltb t.0 c) refl (eqb t.0 c) refl (count-insert x c k m)
  where
    same : (b : Bool) (n : ℕ) → pick b (n + k) 0 ≡ pick b k 0 + pick b n 0
    same true n = omega arith
    same false n = refl

    step : (p : Bool) → ltb t.0 c ≡ p → (q : Bool) → eqb t.0 c ≡ q → count_in x (insert_add c k m) ≡ pick (eqb c x) k 0 + count_in x m
        → count_in x (insert_add c k (t ∷ m)) ≡ pick (eqb c x) k 0 + count_in x (t ∷ m)
    step true e q f ih = rw (e, insert_add) (omega (arith, ih))
    step false e true f ih = rw (e, insert_add, f, eqb-true t.0 c f) (omega (arith, same (eqb c x) t.1))
    step false e false f ih = rw (e, insert_add, f) refl

count-all : (x : ℕ) (m : Monomial) (l : List Two) → count_in x (add_all m l) ≡ count_in x l + count_in x m
unfolding add_all count_in
count-all x m [] = omega arith
count-all x m (t ∷ l) = omega (arith, count-all x (insert_add t.0 t.1 m) l, count-insert x t.0 t.1 m)

pub monomial-counts : (x : ℕ) (l : List Two) → count_in x (monomial l) ≡ count_in x l
unfolding count_in
monomial-counts x l = omega (arith, count-all x [] l)

-- ---- totals
pub total-insert : (c k : ℕ) (m : Monomial) → total (insert_add c k m) ≡ k + total m
unfolding insert_add total sum
total-insert c k [] = refl
total-insert c k (t ∷ m) = step (ltb t.0 c) refl (eqb t.0 c) refl (total-insert c k m)
  where
    step : (p : Bool) → ltb t.0 c ≡ p → (q : Bool) → eqb t.0 c ≡ q → total (insert_add c k m) ≡ k + total m → total (insert_add c k (t ∷ m)) ≡ k + total (t ∷ m)
    step true e q f ih = rw (e, insert_add) (omega (arith, ih))
    step false e true f ih = rw (e, insert_add, f) (omega arith)
    step false e false f ih = rw (e, insert_add, f) (omega arith)

total-all : (m : Monomial) (l : List Two) → total (add_all m l) ≡ total l + total m
unfolding add_all total sum
total-all m [] = omega arith
total-all m (t ∷ l) = omega (arith, total-all (insert_add t.0 t.1 m) l, total-insert t.0 t.1 m)

pub monomial-total : (l : List Two) → total (monomial l) ≡ total l
unfolding total sum
monomial-total l = omega (arith, total-all [] l)

-- ---- "Unequal totals are padded with the identity; without one there is no pair."
-- what padding gives: the two as they are, or the smaller one with as many identities as it lacks
pub data Padded (e : ℕ) (l r : Monomial) : MonomialPair → Type 0 where
  level : {p : MonomialPair} → total l ≡ total r → p ≡ pair_of l r → Padded e l r p
  left : {p : MonomialPair} (k : ℕ) → e ≢ NO-IDENTITY → total l + k ≡ total r → p ≡ pair_of (insert_add e k l) r → Padded e l r p
  right : {p : MonomialPair} (k : ℕ) → e ≢ NO-IDENTITY → total r + k ≡ total l → p ≡ pair_of l (insert_add e k r) → Padded e l r p

only_one : {p q : MonomialPair} → In p (q ∷ []) → p ≡ q
only_one here = refl
only_one (there i) = elim i [ ]

pub padded : (e : ℕ) (l r : Monomial) (p : MonomialPair) → In p (pad_pair e l r) → Padded e l r p
unfolding pad_pair
padded e l r p i = step (eqb (total l) (total r)) refl (eqb e NO-IDENTITY) refl (ltb (total l) (total r)) refl
  where
    step : (a : Bool) → eqb (total l) (total r) ≡ a → (b : Bool) → eqb e NO-IDENTITY ≡ b → (c : Bool) → ltb (total l) (total r) ≡ c → Padded e l r p
    step true x b y c z = level (eqb-true (total l) (total r) x) (only_one (rw x at i))
    step false x true y c z = elim (rw (x, y) at i) [ ]
    step false x false y true z = left (total r - total l) (eqb-false e NO-IDENTITY y) (omega (arith, ltb-true (total l) (total r) z)) (only_one (rw (x, y, z) at i))
    step false x false y false z = right (total l - total r) (eqb-false e NO-IDENTITY y) (omega (arith, ltb-false (total l) (total r) z)) (only_one (rw (x, y, z) at i))

pub padding-levels : (e : ℕ) (l r : Monomial) (p : MonomialPair) → In p (pad_pair e l r) → total p.rows ≡ total p.cols
padding-levels e l r p i = go (padded e l r p i)
  where
    go : Padded e l r p → total p.rows ≡ total p.cols
    go (level h x) = rw x h
    go (left k n h x) = rw x (omega (arith, h, total-insert e k l))
    go (right k n h x) = rw x (omega (arith, h, total-insert e k r))

-- a pair there is, unless totals differ and the operation has no identity
pub pair-there : (e : ℕ) (l r : Monomial) → (total l ≡ total r) ⊎ (e ≢ NO-IDENTITY) → (p : MonomialPair) × (pad_pair e l r ≡ p ∷ [])
unfolding pad_pair
pair-there e l r h = step (eqb (total l) (total r)) refl (eqb e NO-IDENTITY) refl (ltb (total l) (total r)) refl
  where
    clash : {A : Type 0} → (total l ≡ total r → ⊥) → e ≡ NO-IDENTITY → (total l ≡ total r) ⊎ (e ≢ NO-IDENTITY) → A
    clash n y (inl x) = absurd (n x)
    clash n y (inr x) = absurd (x y)

    step : (a : Bool) → eqb (total l) (total r) ≡ a → (b : Bool) → eqb e NO-IDENTITY ≡ b → (c : Bool) → ltb (total l) (total r) ≡ c → (p : MonomialPair) × (pad_pair e l r ≡ p ∷ [])
    step true x b y c z = (pair_of l r, rw x refl)
    step false x true y c z = clash (eqb-false (total l) (total r) x) (eqb-true e NO-IDENTITY y) h
    step false x false y true z = (pair_of (insert_add e (total r - total l) l) r, rw (x, y, z) refl)
    step false x false y false z = (pair_of l (insert_add e (total l - total r) r), rw (x, y, z) refl)

pub no-pair : (l r : Monomial) → total l ≢ total r → pad_pair NO-IDENTITY l r ≡ []
unfolding pad_pair
no-pair l r n = step (eqb (total l) (total r)) refl
  where
    step : (a : Bool) → eqb (total l) (total r) ≡ a → pad_pair NO-IDENTITY l r ≡ []
    step true x = absurd (n (eqb-true (total l) (total r) x))
    step false x = rw x refl
