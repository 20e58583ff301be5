-- Lists with counts written out, and how often a number stands in them.
use Rattle.std.specs.Prelude.{◌≡◌, refl, ◌⊎◌, Bool, true, false, List, [], ◌∷◌, ◌++◌, map, ℕ, zero, suc, ◌+◌, ◌*◌, ◌≤◌, eqb, length, replicate}
use Rattle.std.proofs.Common.{sym, ap, ◌∙◌, inl, inr, append_assoc, arith, eqb-true, length-append}
use Rattle.std.proofs.lemmas.List.{length-replicate, replicate-append-replicate}
use Rattle.spec.specs.Bytes.{pick, sum, Two}
use Rattle.spec.specs.Monomial.{classes, counts}
use Rattle.spec.specs.Pool.{join_to, join_runs, expanded_length}
use Rattle.spec.specs.Meaning.{In, here, there, occurs, count_in}
use Rattle.laws.specs.Bag.{Perm, nil, skip, swap, both, perm-left, perm-past, map-append, map-replicate, replicate-in}
use Rattle.laws.specs.Lists.{in-append, in-nil}

-- every entry as often as its count says
unfoldable pub written : List Two → List ℕ
written [] = []
written (r ∷ l) = replicate r.1 r.0 ++ written l

-- the entries of a list, each as often as the counts x say
unfoldable pub spread : {A : Type 0} → List A → List ℕ → List A
spread [] x = []
spread (a ∷ l) [] = []
spread (a ∷ l) (n ∷ x) = replicate n a ++ spread l x

pub map-spread : {A B : Type 0} (h : A → B) (l : List A) (x : List ℕ) → map h (spread l x) ≡ spread (map h l) x
unfolding spread
map-spread h [] x = refl
map-spread h (a ∷ l) [] = refl
map-spread h (a ∷ l) (n ∷ x) = rw (map-append h (replicate n a) (spread l x), map-replicate h n a, map-spread h l x)

-- each once
pub spread-ones : {A B : Type 0} (l : List A) (m : List B) → length l ≡ length m → spread l (map (λ b. 1) m) ≡ l
unfolding spread
spread-ones [] m e = refl
spread-ones (a ∷ l) [] e = absurd (omega arith)
spread-ones (a ∷ l) (b ∷ m) e = ap (λ z. a ∷ z) (spread-ones l m (omega arith))

pub spread_written : (l : List Two) → spread (classes l) (counts l) ≡ written l
unfolding spread written
spread_written [] = refl
spread_written (r ∷ l) = ap (λ (z : List ℕ). replicate r.1 r.0 ++ z) (spread_written l)

pub in-written : (a : ℕ) (l : List Two) → In a (written l) → (r : Two) × In r l × (a ≡ r.0) × (1 ≤ r.1)
unfolding written
in-written a [] i = absurd (in-nil i)
in-written a (r ∷ l) i = go (in-append (replicate r.1 r.0) i) (λ j. in-written a l j)
  where
    go : In a (replicate r.1 r.0) ⊎ In a (written l) → (In a (written l) → (s : Two) × In s l × (a ≡ s.0) × (1 ≤ s.1)) → (s : Two) × In s (r ∷ l) × (a ≡ s.0) × (1 ≤ s.1)
    go (inl j) ih = (r, here, (replicate-in r.1 j).0, (replicate-in r.1 j).1)
    go (inr j) ih = let (s, k, e, h) = ih j in (s, there k, e, h)

pub written-length : (l : List Two) → length (written l) ≡ expanded_length l
unfolding written sum
written-length [] = refl
written-length (r ∷ l) = omega (arith, length-append (replicate r.1 r.0) (written l), length-replicate r.1 r.0, written-length l)

-- joining neighbours leaves the written list as it is
pub join_to-written : (r : Two) (l : List Two) → written (join_to r l) ≡ replicate r.1 r.0 ++ written l
unfolding written
join_to-written r [] = refl
join_to-written r (s ∷ l) = go (eqb r.0 s.0) refl
  where
    go : (b : Bool) → eqb r.0 s.0 ≡ b → written (pick b ((r.0, r.1 + s.1) ∷ l) (r ∷ s ∷ l)) ≡ replicate r.1 r.0 ++ (replicate s.1 s.0 ++ written l)
    go false p = refl
    go true p =
        rw (← eqb-true r.0 s.0 p) (ap (λ (z : List ℕ). z ++ written l) (sym (replicate-append-replicate r.1 s.1 r.0)) ∙ append_assoc (replicate r.1 r.0) (replicate s.1 r.0) (written l))

pub join_written : (l : List Two) → written (join_runs l) ≡ written l
unfolding written join_runs
join_written [] = refl
join_written (r ∷ l) = join_to-written r (join_runs l) ∙ ap (λ (z : List ℕ). replicate r.1 r.0 ++ z) (join_written l)

-- the order of the runs is free
pub written-perm : {l m : List Two} → Perm l m → Perm (written l) (written m)
unfolding written
written-perm nil = nil
written-perm (skip r p) = perm-left (replicate r.1 r.0) (written-perm p)
written-perm (swap r s l) = perm-past (replicate r.1 r.0) (replicate s.1 s.0) (written l)
written-perm (both p q) = both (written-perm p) (written-perm q)

-- ---- counting
pub occurs-append : (k : ℕ) (l m : List ℕ) → occurs k (l ++ m) ≡ occurs k l + occurs k m
unfolding occurs
occurs-append k [] m = omega arith
occurs-append k (x ∷ l) m = omega (arith, occurs-append k l m)

pub occurs-replicate : (k n x : ℕ) → occurs k (replicate n x) ≡ n * pick (eqb x k) 1 0
unfolding occurs
occurs-replicate k zero x = omega arith
occurs-replicate k (suc n) x = omega (arith, occurs-replicate k n x)

pub occurs-perm : (k : ℕ) {l m : List ℕ} → Perm l m → occurs k l ≡ occurs k m
unfolding occurs
occurs-perm k nil = refl
occurs-perm k (skip x p) = omega (arith, occurs-perm k p)
occurs-perm k (swap x y l) = omega arith
occurs-perm k (both p q) = occurs-perm k p ∙ occurs-perm k q

pub times-pick : (n : ℕ) (b : Bool) → pick b n 0 ≡ n * pick b 1 0
times-pick n true = omega arith
times-pick n false = omega arith

pub occurs-written : (k : ℕ) (l : List Two) → occurs k (written l) ≡ count_in k l
unfolding occurs count_in written
occurs-written k [] = refl
occurs-written k (r ∷ l) = omega (arith, occurs-append k (replicate r.1 r.0) (written l), occurs-replicate k r.1 r.0, times-pick r.1 (eqb r.0 k), occurs-written k l)

-- where every count is 1, the written list is the list of classes
pub written-ones : (l : List Two) → ((r : Two) → In r l → r.1 ≡ 1) → written l ≡ classes l
unfolding written
written-ones [] h = refl
written-ones (r ∷ l) h = rw (h r here) (ap (λ (z : List ℕ). r.0 ∷ z) (written-ones l (λ s i. h s (there i))))
