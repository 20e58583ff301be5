-- Finite sums: the laws of `sum_to`, and of double sums over rows and columns.
use Rattle.std.specs.Prelude.{List, [], ◌∷◌, ◌≢◌, ◌≡◌, refl, ℕ, zero, suc, ◌+◌, ◌*◌, ◌≤◌, ◌<◌, length, get_or}
use Rattle.std.proofs.Common.{inl, inr, sym, ap, ◌∙◌, zero-le, eq-or-lt_of_le, mul-zero, add-zero, add-suc, arith}
use Rattle.std.proofs.Math.Decide.{ℕ_discrete}
use Rattle.std.proofs.Math.Nat.{suc_inj}
use Rattle.spec.specs.Bytes.{sum_to, sum}

pub sum-cong : (n : ℕ) {f g : ℕ → ℕ} → ((i : ℕ) → i < n → f i ≡ g i) → sum_to n f ≡ sum_to n g
unfolding sum_to
sum-cong zero h = refl
sum-cong (suc n) {f} {g} h = omega (arith, sum-cong n {f = f} {g = g} (λ i k. h i (omega arith)), h n (omega arith))

pub sum_mono : (n : ℕ) {f g : ℕ → ℕ} → ((i : ℕ) → i < n → f i ≤ g i) → sum_to n f ≤ sum_to n g
unfolding sum_to
sum_mono zero h = zero-le
sum_mono (suc n) {f} {g} h = omega (arith, sum_mono n {f = f} {g = g} (λ i k. h i (omega arith)), h n (omega arith))

pub sum-add : (n : ℕ) (f g : ℕ → ℕ) → sum_to n (λ i. f i + g i) ≡ sum_to n f + sum_to n g
unfolding sum_to
sum-add zero f g = refl
sum-add (suc n) f g = omega (arith, sum-add n f g)

pub sum-scale : (n : ℕ) (k : ℕ) (f : ℕ → ℕ) → sum_to n (λ i. k * f i) ≡ k * sum_to n f
unfolding sum_to
sum-scale zero k f = omega arith
sum-scale (suc n) k f = omega (arith, sum-scale n k f)

pub sum-const : (n k : ℕ) → sum_to n (λ i. k) ≡ n * k
unfolding sum_to
sum-const zero k = omega arith
sum-const (suc n) k = omega (arith, sum-const n k)

pub sum-swap : (m n : ℕ) (f : ℕ → ℕ → ℕ) → sum_to m (λ i. sum_to n (λ j. f i j)) ≡ sum_to n (λ j. sum_to m (λ i. f i j))
unfolding sum_to
sum-swap zero n f = sym (sum-const n 0 ∙ mul-zero n)
sum-swap (suc m) n f = rw (sum-swap m n f) (sym (sum-add n (λ j. sum_to m (λ i. f i j)) (λ j. f m j)))

-- a sum bounds each of its terms
pub sum-term : (n : ℕ) (f : ℕ → ℕ) (i : ℕ) → i < n → f i ≤ sum_to n f
unfolding sum_to
sum-term zero f i h = omega arith
sum-term (suc n) f i h = elim (eq-or-lt_of_le h) [ inl e ↦ rw (suc_inj e) (omega arith) | inr l ↦ omega (arith, sum-term n f i (omega arith)) ]

-- if the sums of a pointwise smaller function are equal, the functions are equal
pub sum-eq-of-le : (n : ℕ) {f g : ℕ → ℕ} → ((i : ℕ) → i < n → f i ≤ g i) → sum_to n g ≤ sum_to n f → (i : ℕ) → i < n → f i ≡ g i
unfolding sum_to
sum-eq-of-le zero h e i l = omega arith
sum-eq-of-le (suc n) {f} {g} h e i l =
    let ih = sum-eq-of-le n {f = f} {g = g} (λ k q. h k (omega arith)) (omega (arith, h n (omega arith))) in
    let top : f n ≡ g n = omega (arith, sum_mono n {f = f} {g = g} (λ k q. h k (omega arith)), h n (omega arith)) in
    elim (eq-or-lt_of_le l) [ inl q ↦ rw (suc_inj q) top | inr q ↦ ih i (omega arith) ]

-- two functions that differ at k only
pub sum-change : (n : ℕ) (f g : ℕ → ℕ) (k : ℕ) → k < n → ((i : ℕ) → i < n → i ≢ k → f i ≡ g i) → sum_to n f + g k ≡ sum_to n g + f k
unfolding sum_to
sum-change zero f g k h e = absurd (omega arith)
sum-change (suc n) f g k h e = go (ℕ_discrete n k) (λ l. sum-change n f g k l (λ i q r. e i (omega arith) r))
  where
    go : Dec (n ≡ k) → (k < n → sum_to n f + g k ≡ sum_to n g + f k) → sum_to n f + f n + g k ≡ sum_to n g + g n + f k
    go (yes p) ih = rw (← p) (omega (arith, sum-cong n {f = f} {g = g} (λ i q. e i (omega arith) (omega arith))))
    go (no p) ih = omega (arith, ih (omega arith), e n (omega arith) p)

pub sum_first : (n : ℕ) (f : ℕ → ℕ) → sum_to (suc n) f ≡ f 0 + sum_to n (λ i. f (suc i))
unfolding sum_to
sum_first zero f = omega arith
sum_first (suc n) f = omega (arith, sum_first n f)

-- the sum of a list is the sum over its places
pub list_sum-is : (l : List ℕ) → sum l ≡ sum_to (length l) (λ i. get_or l i 0)
unfolding sum sum_to
list_sum-is [] = refl
list_sum-is (x ∷ l) = ap (λ (z : ℕ). x + z) (list_sum-is l) ∙ sym (sum_first (length l) (λ i. get_or (x ∷ l) i 0))

-- a sum is larger if one term is and none is smaller
pub sum_lt : (n : ℕ) {f g : ℕ → ℕ} (k : ℕ) → k < n → ((i : ℕ) → i < n → f i ≤ g i) → f k < g k → sum_to n f < sum_to n g
unfolding sum_to
sum_lt zero k hk h lt = absurd (omega arith)
sum_lt (suc n) {f} {g} k hk h lt = elim (eq-or-lt_of_le hk) [
  | inl e ↦ let t : f n < g n = rw (suc_inj e) at lt in omega (arith, sum_mono n {f = f} {g = g} (λ i q. h i (omega arith)))
  | inr l ↦ omega (arith, h n (omega arith), sum_lt n {f = f} {g = g} k (omega arith) (λ i q. h i (omega arith)) lt)
]

-- ---- a sum over m * n places is a double sum
pub sum-split : (a b : ℕ) (f : ℕ → ℕ) → sum_to (a + b) f ≡ sum_to a f + sum_to b (λ k. f (a + k))
unfolding sum_to
sum-split a zero f = rw (add-zero a) (omega arith)
sum-split a (suc b) f = rw (add-suc a b) (omega (arith, sum-split a b f))

-- the double sum over m rows and n columns
abbrev pub sum2 : ℕ → ℕ → (ℕ → ℕ → ℕ) → ℕ
sum2 m n f = sum_to m (λ i. sum_to n (λ j. f i j))

pub sum-flat : (m n : ℕ) (f : ℕ → ℕ) → sum_to (m * n) f ≡ sum2 m n (λ i j. f (i * n + j))
unfolding sum_to
sum-flat zero n f = rw (times0 n) refl
  where
    times0 : (n : ℕ) → 0 * n ≡ 0
    times0 n = omega arith
sum-flat (suc m) n f = rw (times_s m n) (sum-split (m * n) n f ∙ ap (λ (z : ℕ). z + sum_to n (λ j. f (m * n + j))) (sum-flat m n f))
  where
    times_s : (m n : ℕ) → suc m * n ≡ m * n + n
    times_s m n = omega arith

pub sum2-mono : (m n : ℕ) (f g : ℕ → ℕ → ℕ) → ((i j : ℕ) → i < m → j < n → f i j ≤ g i j) → sum2 m n f ≤ sum2 m n g
sum2-mono m n f g h = sum_mono m (λ i hi. sum_mono n (λ j hj. h i j hi hj))

pub sum2-cong : (m n : ℕ) (f g : ℕ → ℕ → ℕ) → ((i j : ℕ) → i < m → j < n → f i j ≡ g i j) → sum2 m n f ≡ sum2 m n g
sum2-cong m n f g h = sum-cong m (λ i hi. sum-cong n (λ j hj. h i j hi hj))

pub sum2-add : (m n : ℕ) (f g : ℕ → ℕ → ℕ) → sum2 m n (λ i j. f i j + g i j) ≡ sum2 m n f + sum2 m n g
sum2-add m n f g = simp sum-add

pub sum2-scale : (m n k : ℕ) (f : ℕ → ℕ → ℕ) → sum2 m n (λ i j. k * f i j) ≡ k * sum2 m n f
sum2-scale m n k f = simp sum-scale
