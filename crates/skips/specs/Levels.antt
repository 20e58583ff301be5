-- (02, Paper 7) padding a monomial to a total: what it keeps apart, and when it stays narrow.
use Rattle.std.specs.Prelude.{◌≡◌, ◌≢◌, ◌↔◌, Bool, true, false, List, [], ◌∷◌, ℕ, ◌+◌, ◌-◌, ◌≤◌, ◌<◌, leb}
use Rattle.std.proofs.Math.Path.{refl}
use Rattle.std.proofs.Common.{sym, ap, ap₂, ◌∙◌, arith, lt_of_not-le}
use Rattle.std.proofs.Math.Decide.{dec_lt, dec_le}
use borrow.Author.Tests.{leb-true, leb-false, lt-ltb, le-ltb, eq-eqb, ne_eqb, le-leb, lt-leb}
use Rattle.spec.specs.Bytes.{pick, both, all, sum, Two, In, here, there}
use Rattle.spec.specs.Image.{NO-IDENTITY}
use Rattle.spec.specs.Monomial.{Monomial, insert_add, add_all, monomial, total, itself, narrow, COUNT}
use Rattle.laws.specs.Tests.{clash, both_true, both-swap}
use Rattle.laws.specs.AcceptedLists.{all_cons, no-entry}
use Rattle.skips.specs.Facts.{level_to, FULL, filled, count_at, most}
use Rattle.skips.specs.Repeated.{level-full, level-total}

-- ---- insertion, by the first entry
module _ (e k : ℕ) (t : Two) (m : Monomial) where
  insert-below : t.0 < e → insert_add e k (t ∷ m) ≡ t ∷ insert_add e k m
  unfolding insert_add
  insert-below h = rw (insert_add, lt-ltb t.0 e h) refl

  insert-at : t.0 ≡ e → insert_add e k (t ∷ m) ≡ (e, t.1 + k) ∷ m
  unfolding insert_add
  insert-at h = rw (insert_add, le-ltb t.0 e (omega arith), eq-eqb t.0 e h) refl

  insert-above : e < t.0 → insert_add e k (t ∷ m) ≡ (e, k) ∷ t ∷ m
  unfolding insert_add
  insert-above h = rw (insert_add, le-ltb t.0 e (omega arith), ne_eqb t.0 e (λ z. omega arith)) refl

data Side (x e : ℕ) : Type 0 where
  below : x < e → Side x e
  at : x ≡ e → Side x e
  above : e < x → Side x e

side : (x e : ℕ) → Side x e
side x e = go (dec_lt x e) (dec_lt e x)
  where
    go : Dec (x < e) → Dec (e < x) → Side x e
    go (yes h) b = below h
    go (no h) (yes k) = above k
    go (no h) (no k) = at (omega arith)

pub insert-twice : (e a b : ℕ) (m : Monomial) → insert_add e a (insert_add e b m) ≡ insert_add e (b + a) m
unfolding insert_add
insert-twice e a b [] = insert-at e a (e, b) [] refl
insert-twice e a b (t ∷ m) = go (side t.0 e) (insert-twice e a b m)
  where
    go : Side t.0 e → insert_add e a (insert_add e b m) ≡ insert_add e (b + a) m → insert_add e a (insert_add e b (t ∷ m)) ≡ insert_add e (b + a) (t ∷ m)
    go (below h) ih = ap (insert_add e a) (insert-below e b t m h) ∙ insert-below e a t (insert_add e b m) h ∙ ap {B = Monomial} (λ (l : Monomial). t ∷ l) ih ∙ sym (insert-below e (b + a) t m h)
    go (at h) ih = ap (insert_add e a) (insert-at e b t m h) ∙ insert-at e a (e, t.1 + b) m refl ∙ ap {B = Monomial} (λ (k : ℕ). (e, k) ∷ m) (omega arith) ∙ sym (insert-at e (b + a) t m h)
    go (above h) ih = ap (insert_add e a) (insert-above e b t m h) ∙ insert-at e a (e, b) (t ∷ m) refl ∙ sym (insert-above e (b + a) t m h)

-- ---- every count is at least 1
abbrev pub Positive : Monomial → Type 0
Positive m = (t : Two) → In t m → 1 ≤ t.1

first : {t : Two} {m : Monomial} → Positive (t ∷ m) → 1 ≤ t.1
first p = p _ here

rest : {t : Two} {m : Monomial} → Positive (t ∷ m) → Positive m
rest p x i = p x (there i)

positive-cons : (t : Two) (m : Monomial) → 1 ≤ t.1 → Positive m → Positive (t ∷ m)
positive-cons t m h p x here = h
positive-cons t m h p x (there i) = p x i

pub positive-insert : (e k : ℕ) (m : Monomial) → 1 ≤ k → Positive m → Positive (insert_add e k m)
unfolding insert_add
positive-insert e k [] h p = positive-cons (e, k) [] h p
positive-insert e k (t ∷ m) h p = go (side t.0 e) (positive-insert e k m h (rest p))
  where
    go : Side t.0 e → Positive (insert_add e k m) → Positive (insert_add e k (t ∷ m))
    go (below s) ih = rw (insert-below e k t m s) (positive-cons t (insert_add e k m) (first p) ih)
    go (at s) ih = rw (insert-at e k t m s) (positive-cons (e, t.1 + k) m (omega arith) (rest p))
    go (above s) ih = rw (insert-above e k t m s) (positive-cons (e, k) (t ∷ m) h p)

positive-all : (m l : Monomial) → Positive m → Positive l → Positive (add_all m l)
unfolding add_all
positive-all m [] p q = p
positive-all m (t ∷ l) p q = positive-all (insert_add t.0 t.1 m) l (positive-insert t.0 t.1 m (first q) p) (rest q)

pub positive-monomial : (l : List Two) → Positive l → Positive (monomial l)
positive-monomial l p = positive-all [] l (λ t i. absurd (no-entry i)) p

pub positive-itself : (c : ℕ) → Positive (itself c)
positive-itself c = positive-cons (c, 1) [] (omega arith) (λ t i. absurd (no-entry i))

-- ---- what was inserted can be taken out again
heads : {x y : Two} {l m : Monomial} → x ∷ l ≡ y ∷ m → x ≡ y
heads q = cc

tails : {x y : Two} {l m : Monomial} → x ∷ l ≡ y ∷ m → l ≡ m
tails q = cc

empty : {x : Two} {l : Monomial} → [] ≡ x ∷ l → ⊥
empty q = let z : ◌≡◌ {A = ℕ} 0 1 = cc in omega arith

same_class : {x y : Two} {l m : Monomial} → x ∷ l ≡ y ∷ m → x.0 ≡ y.0
same_class q = ap (λ (t : Two). t.0) (heads q)

same_count : {x y : Two} {l m : Monomial} → x ∷ l ≡ y ∷ m → x.1 ≡ y.1
same_count q = ap (λ (t : Two). t.1) (heads q)

-- nothing positive is as nothing
not-nothing : (e d : ℕ) (t : Two) (m : Monomial) → Positive (t ∷ m) → insert_add e d (t ∷ m) ≡ (e, d) ∷ [] → ⊥
not-nothing e d t m p q = go (side t.0 e)
  where
    go : Side t.0 e → ⊥
    go (below h) = let z = same_class (sym (insert-below e d t m h) ∙ q) in omega arith
    go (at h) = let z = same_count (sym (insert-at e d t m h) ∙ q) in omega (arith, first p)
    go (above h) = empty (sym (tails (sym (insert-above e d t m h) ∙ q)))

pub insert-cancel : (e d : ℕ) (a b : Monomial) → Positive a → Positive b → insert_add e d a ≡ insert_add e d b → a ≡ b
unfolding insert_add
insert-cancel e d [] [] p r q = refl
insert-cancel e d [] (t ∷ b) p r q = absurd (not-nothing e d t b r (sym q))
insert-cancel e d (s ∷ a) [] p r q = absurd (not-nothing e d s a p q)
insert-cancel e d (s ∷ a) (t ∷ b) p r q = go (side s.0 e) (side t.0 e) (insert-cancel e d a b (rest p) (rest r))
  where
    go : Side s.0 e → Side t.0 e → (insert_add e d a ≡ insert_add e d b → a ≡ b) → s ∷ a ≡ t ∷ b
    go (below h) (below k) ih =
        let z : s ∷ insert_add e d a ≡ t ∷ insert_add e d b = sym (insert-below e d s a h) ∙ q ∙ insert-below e d t b k in
        ap₂ {C = Monomial} (λ (x : Two) (l : Monomial). x ∷ l) (heads z) (ih (tails z))
    go (below h) (at k) ih = let z = same_class (sym (insert-below e d s a h) ∙ q ∙ insert-at e d t b k) in absurd (omega arith)
    go (below h) (above k) ih = let z = same_class (sym (insert-below e d s a h) ∙ q ∙ insert-above e d t b k) in absurd (omega arith)
    go (at h) (below k) ih = let z = same_class (sym (insert-at e d s a h) ∙ q ∙ insert-below e d t b k) in absurd (omega arith)
    go (at h) (at k) ih =
        let z : (e, s.1 + d) ∷ a ≡ (e, t.1 + d) ∷ b = sym (insert-at e d s a h) ∙ q ∙ insert-at e d t b k in
        let c : s.1 ≡ t.1 = omega (arith, same_count z) in
        ap₂ {C = Monomial} (λ (x : Two) (l : Monomial). x ∷ l) (ap₂ {C = Two} (λ (x y : ℕ). (x, y)) (h ∙ sym k) c) (tails z)
    go (at h) (above k) ih = let z = same_count (sym (insert-at e d s a h) ∙ q ∙ insert-above e d t b k) in absurd (omega (arith, first p))
    go (above h) (below k) ih = let z = same_class (sym (insert-above e d s a h) ∙ q ∙ insert-below e d t b k) in absurd (omega arith)
    go (above h) (at k) ih = let z = same_count (sym (insert-above e d s a h) ∙ q ∙ insert-at e d t b k) in absurd (omega (arith, first r))
    go (above h) (above k) ih = tails (sym (insert-above e d s a h) ∙ q ∙ insert-above e d t b k)

-- ---- levels
module _ (e : ℕ) (i : e ≢ NO-IDENTITY) where
  level-more : (n : ℕ) (m : Monomial) → total m < n → level_to e n m ≡ insert_add e (n - total m) m
  level-more n m h = rw (lt-ltb (total m) n h, ne_eqb e NO-IDENTITY i) refl

  -- to n, and on to N
  level-on : (n N : ℕ) (m : Monomial) → total m ≤ n → n ≤ N → level_to e N (level_to e n m) ≡ level_to e N m
  level-on n N m h k = go (dec_lt (total m) n) (dec_lt n N)
    where
      go : Dec (total m < n) → Dec (n < N) → level_to e N (level_to e n m) ≡ level_to e N m
      go (no a) b = ap (level_to e N) (level-full e n m (omega arith))
      go (yes a) (no b) =
          level-full e N (level_to e n m) (omega (arith, level-total e n m i h))
          ∙ ap (λ (z : ℕ). level_to e z m) (omega arith)
      go (yes a) (yes b) =
          level-more N (level_to e n m) (omega (arith, level-total e n m i h))
          ∙ ap₂ (insert_add e) (omega (arith, level-total e n m i h)) (level-more n m a)
          ∙ insert-twice e (N - n) (n - total m) m
          ∙ ap (λ (z : ℕ). insert_add e z m) (omega arith)
          ∙ sym (level-more N m (omega arith))

  level-positive : (n : ℕ) (m : Monomial) → Positive m → Positive (level_to e n m)
  level-positive n m p = go (dec_lt (total m) n)
    where
      go : Dec (total m < n) → Positive (level_to e n m)
      go (yes h) = rw (level-more n m h) (positive-insert e (n - total m) m (omega arith) p)
      go (no h) = rw (level-full e n m (omega arith)) p

  level-cancel : (N : ℕ) (x y : Monomial) → Positive x → Positive y → total x ≡ total y → level_to e N x ≡ level_to e N y → x ≡ y
  level-cancel N x y p r h q = go (dec_lt (total x) N)
    where
      go : Dec (total x < N) → x ≡ y
      go (yes k) =
          insert-cancel e (N - total x) x y p r (sym (level-more N x k) ∙ q ∙ level-more N y (omega arith) ∙ ap (λ (z : ℕ). insert_add e (N - z) y) (sym h))
      go (no k) = sym (level-full e N x (omega arith)) ∙ q ∙ level-full e N y (omega arith)

-- Two monomials level to the same at some total exactly if they are the same when filled.
module _ (e n : ℕ) (x y : Monomial) (p : Positive x) (r : Positive y) (h : total x ≤ n) (k : total y ≤ n) (f : n ≤ FULL) where
  pub level-filled : e ≢ NO-IDENTITY → level_to e n x ≡ level_to e n y ↔ filled e x ≡ filled e y
  level-filled i = (
    λ q. sym (level-on e i n FULL x h f) ∙ ap (filled e) q ∙ level-on e i n FULL y k f,
    λ q. level-cancel e i FULL (level_to e n x) (level_to e n y) (level-positive e i n x p) (level-positive e i n y r) (level-total e n x i h ∙ sym (level-total e n y i k))
        (level-on e i n FULL x h f ∙ q ∙ sym (level-on e i n FULL y k f)),
  )

-- ---- counts
both-last : (a b c : Bool) → both a (both b c) ≡ both (both a b) c
both-last true b c = refl
both-last false b c = refl

leb-same : (a b c d : ℕ) → (a ≤ b → c ≤ d) → (c ≤ d → a ≤ b) → leb a b ≡ leb c d
leb-same a b c d f g = go (dec_le a b)
  where
    go : Dec (a ≤ b) → leb a b ≡ leb c d
    go (yes h) = le-leb a b h ∙ sym (le-leb c d (f h))
    go (no h) = lt-leb a b (omega arith) ∙ sym (lt-leb c d (lt_of_not-le (λ k. h (g k))))

narrow-cons : (t : Two) (m : Monomial) → narrow (t ∷ m) ≡ both (leb t.1 COUNT) (narrow m)
narrow-cons t m = all_cons (λ (t : Two). leb t.1 COUNT) t m

module _ (e : ℕ) (t : Two) (m : Monomial) where
  count-below : t.0 < e → count_at e (t ∷ m) ≡ count_at e m
  unfolding count_at
  count-below h = rw (count_at, lt-ltb t.0 e h) refl

  count-at : t.0 ≡ e → count_at e (t ∷ m) ≡ t.1
  unfolding count_at
  count-at h = rw (count_at, le-ltb t.0 e (omega arith), eq-eqb t.0 e h) refl

  count-above : e < t.0 → count_at e (t ∷ m) ≡ 0
  unfolding count_at
  count-above h = rw (count_at, le-ltb t.0 e (omega arith), ne_eqb t.0 e (λ z. omega arith)) refl

pub count-narrow : (e : ℕ) (m : Monomial) → narrow m ≡ true → count_at e m ≤ COUNT
unfolding count_at
count-narrow e [] h = omega arith
count-narrow e (t ∷ m) h = go (side t.0 e) (count-narrow e m parts.1)
  where
    parts : (leb t.1 COUNT ≡ true) × (narrow m ≡ true)
    parts = (both_true (leb t.1 COUNT) (narrow m)).0 (sym (narrow-cons t m) ∙ h)

    go : Side t.0 e → count_at e m ≤ COUNT → count_at e (t ∷ m) ≤ COUNT
    go (below s) ih = omega (arith, count-below e t m s)
    go (at s) ih = omega (arith, count-at e t m s, leb-true t.1 COUNT parts.0)
    go (above s) ih = omega (arith, count-above e t m s)

plain : (k : ℕ) → leb k COUNT ≡ leb (0 + k) COUNT
plain k = leb-same k COUNT (0 + k) COUNT (λ z. omega arith) (λ z. omega arith)

pub narrow-insert : (e k : ℕ) (m : Monomial) → narrow (insert_add e k m) ≡ both (narrow m) (leb (count_at e m + k) COUNT)
unfolding insert_add count_at all
narrow-insert e k [] = narrow-cons (e, k) [] ∙ both-swap (leb k COUNT) true ∙ plain k
narrow-insert e k (t ∷ m) = go (side t.0 e) (narrow-insert e k m)
  where
    sum-test : (b : Bool) → leb t.1 COUNT ≡ b → both (leb (t.1 + k) COUNT) (narrow m) ≡ both (both b (narrow m)) (leb (t.1 + k) COUNT)
    sum-test true q = both-swap (leb (t.1 + k) COUNT) (narrow m)
    sum-test false q = ap (λ (b : Bool). both b (narrow m)) (lt-leb (t.1 + k) COUNT (omega (arith, leb-false t.1 COUNT q)))

    -- by the count of e
    from : (c : ℕ) → count_at e (t ∷ m) ≡ c → narrow (insert_add e k (t ∷ m)) ≡ both (both (leb t.1 COUNT) (narrow m)) (leb (c + k) COUNT)
        → narrow (insert_add e k (t ∷ m)) ≡ both (narrow (t ∷ m)) (leb (count_at e (t ∷ m) + k) COUNT)
    from c q z = z ∙ ap₂ (λ (a : Bool) (n : ℕ). both a (leb (n + k) COUNT)) (sym (narrow-cons t m)) (sym q)

    go : Side t.0 e → narrow (insert_add e k m) ≡ both (narrow m) (leb (count_at e m + k) COUNT) → narrow (insert_add e k (t ∷ m)) ≡ both (narrow (t ∷ m)) (leb (count_at e (t ∷ m) + k) COUNT)
    go (below s) ih = from (count_at e m) (count-below e t m s)
        (ap narrow (insert-below e k t m s) ∙ narrow-cons t (insert_add e k m) ∙ ap (both (leb t.1 COUNT)) ih ∙ both-last (leb t.1 COUNT) (narrow m) (leb (count_at e m + k) COUNT))
    go (at s) ih = from t.1 (count-at e t m s) (ap narrow (insert-at e k t m s) ∙ narrow-cons (e, t.1 + k) m ∙ sum-test (leb t.1 COUNT) refl)
    go (above s) ih = from 0 (count-above e t m s)
        (ap narrow (insert-above e k t m s) ∙ narrow-cons (e, k) (t ∷ m) ∙ both-swap (leb k COUNT) (narrow (t ∷ m)) ∙ ap₂ both (narrow-cons t m) (plain k))

-- what is not narrow has a total
wide-total : (m : Monomial) → narrow m ≡ false → 1 ≤ total m
unfolding total sum all
wide-total [] h = absurd (clash h)
wide-total (t ∷ m) h = go (leb t.1 COUNT) refl (sym (narrow-cons t m) ∙ h) (wide-total m)
  where
    go : (b : Bool) → leb t.1 COUNT ≡ b → both b (narrow m) ≡ false → (narrow m ≡ false → 1 ≤ total m) → 1 ≤ total (t ∷ m)
    go true q z ih = omega (arith, ih z)
    go false q z ih = omega (arith, leb-false t.1 COUNT q)

-- Padded to the total n it stays narrow exactly where n is at most the greatest such total.
pub most-tells : (e n : ℕ) (m : Monomial) → total m ≤ n → (e ≡ NO-IDENTITY → n ≡ total m) → narrow (level_to e n m) ≡ leb n (most e m)
unfolding most
most-tells e n m h i = go (dec_lt (total m) n) (narrow m) refl
  where
    go : Dec (total m < n) → (b : Bool) → narrow m ≡ b → narrow (level_to e n m) ≡ leb n (pick b (total m + (COUNT - count_at e m)) 0)
    go (no k) true q = ap narrow (level-full e n m (omega arith)) ∙ q ∙ sym (le-leb n (total m + (COUNT - count_at e m)) (omega arith))
    go (no k) false q = ap narrow (level-full e n m (omega arith)) ∙ q ∙ sym (lt-leb n 0 (omega (arith, wide-total m q)))
    go (yes k) b q = padded b q
      where
        there-is : e ≢ NO-IDENTITY
        there-is z = omega (arith, i z)

        inserted : narrow (level_to e n m) ≡ both (narrow m) (leb (count_at e m + (n - total m)) COUNT)
        inserted = ap narrow (level-more e there-is n m k) ∙ narrow-insert e (n - total m) m

        padded : (b : Bool) → narrow m ≡ b → narrow (level_to e n m) ≡ leb n (pick b (total m + (COUNT - count_at e m)) 0)
        padded true q =
            let c = count-narrow e m q in
            inserted ∙ ap (λ (b : Bool). both b (leb (count_at e m + (n - total m)) COUNT)) q
            ∙ leb-same (count_at e m + (n - total m)) COUNT n (total m + (COUNT - count_at e m)) (λ z. omega arith) (λ z. omega arith)
        padded false q =
            inserted ∙ ap (λ (b : Bool). both b (leb (count_at e m + (n - total m)) COUNT)) q
            ∙ sym (lt-leb n 0 (omega arith))
