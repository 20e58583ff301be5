-- Walking two lists of runs compares as the written lists do; joined runs can be read off the written list.
use Rattle.std.specs.Prelude.{◌≡◌, refl, Bool, true, false, List, [], ◌∷◌, ◌++◌, ℕ, zero, suc, ◌+◌, ◌-◌, ◌≤◌, ◌<◌, ltb, eqb, length, replicate}
use Rattle.std.proofs.Common.{sym, ap, ap₂, ◌∙◌, inl, inr, append_assoc, not-suc-le-zero, arith, ltb-true, ltb-false, eqb-true, eq-eqb}
use Rattle.std.proofs.Math.Decide.{dec_lt}
use Rattle.std.proofs.lemmas.List.{replicate-append-replicate}
use Rattle.std.proofs.lemmas.Bool.{eqb-false}
use Rattle.spec.specs.Bytes.{Two}
use Rattle.spec.specs.Pool.{Order, less, equal, greater, then, past, runs_cmp}
use Rattle.spec.specs.Meaning.{In, here, there}
use Rattle.laws.specs.BagCount.{written}
use Rattle.pools.specs.Pool.{Joined, more, joined-tail}
use Rattle.pools.specs.OrderTerms.{lex}
use Rattle.laws.specs.Lists.{in-cons}

-- n copies, then more copies
copies : (n k m a : ℕ) (s : List ℕ) → m ≡ n + k → replicate m a ++ s ≡ replicate n a ++ (replicate k a ++ s)
copies n k m a s e = ap (λ (z : ℕ). replicate z a ++ s) e ∙ ap (λ (z : List ℕ). z ++ s) (sym (replicate-append-replicate n k a)) ∙ append_assoc (replicate n a) (replicate k a) s

-- the first of a run that counts
first : (n a : ℕ) (s : List ℕ) → 1 ≤ n → replicate n a ++ s ≡ a ∷ (replicate (n - 1) a ++ s)
first zero a s h = absurd (not-suc-le-zero h)
first (suc n) a s h = let z : suc n - 1 ≡ n = omega arith in rw z refl

-- every run counts
abbrev pub Counted : List Two → Type 0
Counted l = (r : Two) → In r l → 1 ≤ r.1

-- ---- the walk
-- entries that are the same number are skipped; the first two that differ decide
unfoldable pub list_cmp : (ℕ → ℕ → Order) → List ℕ → List ℕ → Order
list_cmp cmp [] m = equal
list_cmp cmp (a ∷ l) [] = equal
list_cmp cmp (a ∷ l) (b ∷ m) = elim (eqb a b) [ true ↦ list_cmp cmp l m | false ↦ cmp a b ]

common : (cmp : ℕ → ℕ → Order) (n a : ℕ) (s t : List ℕ) → list_cmp cmp (replicate n a ++ s) (replicate n a ++ t) ≡ list_cmp cmp s t
unfolding list_cmp
common cmp zero a s t = refl
common cmp (suc n) a s t = rw (eq-eqb a a refl, list_cmp) (common cmp n a s t)

past-written : (a n m : ℕ) (l : List Two) → written (past a n m l) ≡ replicate (n - m) a ++ written l
unfolding written
past-written a n m l = go (ltb m n) refl
  where
    go : (b : Bool) → ltb m n ≡ b → written (past a n m l) ≡ replicate (n - m) a ++ written l
    go true p = rw p refl
    go false p = let z : n - m ≡ 0 = omega (arith, ltb-false m n p) in rw (p, z) refl

past-counted : (a n m : ℕ) (l : List Two) → Counted l → Counted (past a n m l)
past-counted a n m l c = go (ltb m n) refl
  where
    go : (b : Bool) → ltb m n ≡ b → Counted (past a n m l)
    go true p = rw p (λ r i. elim (in-cons i) [ inl e ↦ rw e (omega (arith, ltb-true m n p)) | inr j ↦ c r j ])
    go false p = rw p c

past-shorter : (a b n m : ℕ) (l k : List Two) → 1 ≤ n → 1 ≤ m → length (past a n m l) + length (past b m n k) ≤ suc (length l + length k)
past-shorter a b n m l k h g = go (ltb m n) refl (ltb n m) refl
  where
    go : (x : Bool) → ltb m n ≡ x → (y : Bool) → ltb n m ≡ y → length (past a n m l) + length (past b m n k) ≤ suc (length l + length k)
    go true p true q = absurd (omega (arith, ltb-true m n p, ltb-true n m q))
    go true p false q = rw (p, q) (omega arith)
    go false p true q = rw (p, q) (omega arith)
    go false p false q = rw (p, q) (omega arith)

-- what two runs of the same child have in common goes
taken : (cmp : ℕ → ℕ → Order) (a n m : ℕ) (s t : List ℕ) → list_cmp cmp (replicate (n - m) a ++ s) (replicate (m - n) a ++ t) ≡ list_cmp cmp (replicate n a ++ s) (replicate m a ++ t)
taken cmp a n m s t = go (dec_lt m n)
  where
    go : Dec (m < n) → list_cmp cmp (replicate (n - m) a ++ s) (replicate (m - n) a ++ t) ≡ list_cmp cmp (replicate n a ++ s) (replicate m a ++ t)
    go (yes h) =
        let z : m - n ≡ 0 = omega arith in
        rw z (sym (common cmp m a (replicate (n - m) a ++ s) t) ∙ ap (λ (l : List ℕ). list_cmp cmp l (replicate m a ++ t)) (sym (copies m (n - m) n a s (omega arith))))
    go (no h) =
        let z : n - m ≡ 0 = omega arith in
        rw z (sym (common cmp n a s (replicate (m - n) a ++ t)) ∙ ap (λ (l : List ℕ). list_cmp cmp (replicate n a ++ s) l) (sym (copies n (m - n) m a t (omega arith))))

-- The fuel of the walk, the two lengths, suffices.
pub runs-as-lists : (f : ℕ) (cmp : ℕ → ℕ → Order) (l m : List Two) → Counted l → Counted m → length l + length m ≤ f → runs_cmp f cmp l m ≡ list_cmp cmp (written l) (written m)
unfolding runs_cmp written list_cmp
runs-as-lists zero cmp [] m c d h = refl
runs-as-lists zero cmp (r ∷ l) m c d h = absurd (omega arith)
runs-as-lists (suc f) cmp [] m c d h = refl
runs-as-lists (suc f) cmp (r ∷ l) [] c d h = rw (first r.1 r.0 (written l) (c r here)) refl
runs-as-lists (suc f) cmp (r ∷ l) (s ∷ m) c d h =
    go (eqb r.0 s.0) refl (λ k. runs-as-lists f cmp (past r.0 r.1 s.1 l) (past s.0 s.1 r.1 m) (past-counted r.0 r.1 s.1 l (λ z i. c z (there i))) (past-counted s.0 s.1 r.1 m (λ z i. d z (there i))) k)
  where
    go : (b : Bool) → eqb r.0 s.0 ≡ b
        → (length (past r.0 r.1 s.1 l) + length (past s.0 s.1 r.1 m) ≤ f → runs_cmp f cmp (past r.0 r.1 s.1 l) (past s.0 s.1 r.1 m) ≡ list_cmp cmp (written (past r.0 r.1 s.1 l)) (written (past s.0 s.1 r.1 m)))
        → runs_cmp (suc f) cmp (r ∷ l) (s ∷ m) ≡ list_cmp cmp (written (r ∷ l)) (written (s ∷ m))
    go false p ih = rw (p, runs_cmp, first r.1 r.0 (written l) (c r here), first s.1 s.0 (written m) (d s here)) (rw (p, list_cmp) refl)
    go true p ih =
        rw (p, runs_cmp) (ih (omega (arith, past-shorter r.0 s.0 r.1 s.1 l m (c r here) (d s here))) ∙ rw (past-written r.0 r.1 s.1 l, past-written s.0 s.1 r.1 m, ← eqb-true r.0 s.0 p) (taken cmp r.0 r.1 s.1 (written l) (written m)))

-- where different numbers never compare as equal, that is the order from the left
pub lists-as-lex : (cmp other : ℕ → ℕ → Order) (l m : List ℕ) → length l ≡ length m → ((a b : ℕ) → In a l → In b m → cmp a b ≡ other a b) → ((a : ℕ) → other a a ≡ equal)
    → ((a b : ℕ) → In a l → In b m → other a b ≡ equal → a ≡ b) → list_cmp cmp l m ≡ lex other l m
unfolding list_cmp lex
lists-as-lex cmp other [] [] e h i k = refl
lists-as-lex cmp other [] (b ∷ m) e h i k = absurd (omega arith)
lists-as-lex cmp other (a ∷ l) [] e h i k = absurd (omega arith)
lists-as-lex cmp other (a ∷ l) (b ∷ m) e h i k = go (eqb a b) refl (lists-as-lex cmp other l m (omega arith) (λ x y u v. h x y (there u) (there v)) i (λ x y u v. k x y (there u) (there v)))
  where
    decided : (o x : Order) → (o ≡ equal → ⊥) → o ≡ then o x
    decided less x n = refl
    decided equal x n = absurd (n refl)
    decided greater x n = refl

    go : (z : Bool) → eqb a b ≡ z → list_cmp cmp l m ≡ lex other l m → (elim z [ true ↦ list_cmp cmp l m | false ↦ cmp a b ]) ≡ then (other a b) (lex other l m)
    go true p ih = ih ∙ ap (λ (o : Order). then o (lex other l m)) (sym (ap (other a) (sym (eqb-true a b p)) ∙ i a))
    go false p ih = h a b here here ∙ decided (other a b) (lex other l m) (λ q. eqb-false a b p (k a b here here q))

-- ---- joined runs from the written list
same_start : (k a : ℕ) (s t : List ℕ) → replicate k a ++ s ≡ replicate k a ++ t → s ≡ t
same_start zero a s t e = e
same_start (suc k) a s t e = same_start k a s t (tail e)
  where
    tail : a ∷ (replicate k a ++ s) ≡ a ∷ (replicate k a ++ t) → replicate k a ++ s ≡ replicate k a ++ t
    tail e = cc

heads : (a b : ℕ) (s t : List ℕ) → a ∷ s ≡ b ∷ t → a ≡ b
heads a b s t e = cc

-- what follows a run does not begin with its child
no_more : (r : Two) (l : List Two) (s : List ℕ) → Joined (r ∷ l) → Counted l → written l ≡ r.0 ∷ s → ⊥
unfolding written
no_more r [] s j c e = let z : ◌≡◌ {A = ℕ} 0 1 = cc in omega arith
no_more r (u ∷ l) s (more n j) c e = n (sym (heads u.0 r.0 _ s (sym (first u.1 u.0 (written l) (c u here)) ∙ e)))

longer : (r s : Two) (l m : List Two) → r.0 ≡ s.0 → r.1 < s.1 → Joined (r ∷ l) → Counted l → written (r ∷ l) ≡ written (s ∷ m) → ⊥
unfolding written
longer r s l m e h j c q =
    no_more r l (replicate (s.1 - r.1 - 1) r.0 ++ written m) j c
    (same_start r.1 r.0 (written l) (replicate (s.1 - r.1) r.0 ++ written m) (q ∙ ap (λ (z : ℕ). replicate s.1 z ++ written m) (sym e) ∙ copies r.1 (s.1 - r.1) s.1 r.0 (written m) (omega arith))
    ∙ first (s.1 - r.1) r.0 (written m) (omega arith))

-- Joined runs that count are determined by the written list.
pub written-inj : (l m : List Two) → Joined l → Joined m → Counted l → Counted m → written l ≡ written m → l ≡ m
unfolding written
written-inj [] [] j k c d e = refl
written-inj [] (s ∷ m) j k c d e = let z : [] ≡ s.0 ∷ (replicate (s.1 - 1) s.0 ++ written m) = e ∙ first s.1 s.0 (written m) (d s here) in cc
written-inj (r ∷ l) [] j k c d e = let z : [] ≡ r.0 ∷ (replicate (r.1 - 1) r.0 ++ written l) = sym e ∙ first r.1 r.0 (written l) (c r here) in cc
written-inj (r ∷ l) (s ∷ m) j k c d e = go (dec_lt r.1 s.1) (dec_lt s.1 r.1) (λ z. written-inj l m (joined-tail j) (joined-tail k) (λ u i. c u (there i)) (λ u i. d u (there i)) z)
  where
    child : r.0 ≡ s.0
    child = heads r.0 s.0 _ _ (sym (first r.1 r.0 (written l) (c r here)) ∙ e ∙ first s.1 s.0 (written m) (d s here))

    go : Dec (r.1 < s.1) → Dec (s.1 < r.1) → (written l ≡ written m → l ≡ m) → r ∷ l ≡ s ∷ m
    go (yes h) y ih = absurd (longer r s l m child h j (λ u i. c u (there i)) e)
    go (no h) (yes g) ih = absurd (longer s r m l (sym child) g k (λ u i. d u (there i)) (sym e))
    go (no h) (no g) ih =
        let n : r.1 ≡ s.1 = omega arith in
        ap₂ (λ (x : Two) (y : List Two). x ∷ y) (ap₂ (λ (x y : ℕ). (x, y)) child n)
        (ih (same_start s.1 s.0 (written l) (written m) (ap₂ (λ (x y : ℕ). replicate x y ++ written l) (sym n) (sym child) ∙ e)))
