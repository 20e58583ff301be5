-- No augmenting path: the rows and columns that were reached are a cut, and no plan meets the margins.
use Rattle.std.specs.Prelude.{Bool, true, false, ◌⊎◌, ◌≡◌, refl, ℕ, zero, suc, ◌+◌, ◌*◌, ◌≤◌, ◌<◌}
use Rattle.std.proofs.Common.{inl, inr, ◌∙◌, eq-or-lt_of_le, mul-le-mul_left, arith}
use Rattle.std.proofs.Math.Decide.{dec_lt}
use Rattle.std.proofs.Math.Nat.{suc_inj}
use Rattle.spec.specs.Bytes.{sum_to}
use Rattle.flow.specs.Certificate.{Meets, by_rows, by-cols}
use Rattle.flow.specs.Sums.{sum-cong, sum-scale, sum-swap, sum_lt, sum2, sum2-mono, sum2-add}

-- A cut: the rows with ρ = 1 and the columns with γ = 1. Every cell that leaves it is full, and every cell that enters it is empty.
pub record Cut (m n : ℕ) (a b : ℕ → ℕ) (cap x : ℕ → ℕ → ℕ) (ρ γ : ℕ → ℕ) : Type 0 where
  pub rows : (i : ℕ) → i < m → (ρ i ≡ 0) ⊎ (ρ i ≡ 1)
  pub cols : (j : ℕ) → j < n → (γ j ≡ 0) ⊎ (γ j ≡ 1)
  pub full : (i j : ℕ) → i < m → j < n → ρ i ≡ 1 → γ j ≡ 0 → x i j ≡ cap i j
  pub empty : (i j : ℕ) → i < m → j < n → ρ i ≡ 0 → γ j ≡ 1 → x i j ≡ 0
  pub met : (j : ℕ) → j < n → γ j ≡ 1 → sum_to m (λ i. x i j) ≡ b j
  pub short : sum_to m (λ i. ρ i * sum_to n (λ j. x i j)) < sum_to m (λ i. ρ i * a i)

module _ (m n : ℕ) (a b : ℕ → ℕ) (cap x : ℕ → ℕ → ℕ) (ρ γ : ℕ → ℕ) (C : Cut m n a b cap x ρ γ) where
  cell_cut : (i j : ℕ) → i < m → j < n → (y : ℕ) → y ≤ cap i j → ρ i * y + γ j * x i j ≤ γ j * y + ρ i * x i j
  cell_cut i j hi hj y h = go (C.rows i hi) (C.cols j hj)
    where
      go : (ρ i ≡ 0) ⊎ (ρ i ≡ 1) → (γ j ≡ 0) ⊎ (γ j ≡ 1) → ρ i * y + γ j * x i j ≤ γ j * y + ρ i * x i j
      go (inl p) (inl q) = rw (p, q) (omega arith)
      go (inl p) (inr q) = rw (p, q) (omega (arith, C.empty i j hi hj p q))
      go (inr p) (inl q) = rw (p, q) (omega (arith, C.full i j hi hj p q))
      go (inr p) (inr q) = rw (p, q) (omega arith)

  pub infeasible : (y : ℕ → ℕ → ℕ) → Meets m n a b cap y → ⊥
  infeasible y Y =
      let cells = sum2-mono m n (λ i j. ρ i * y i j + γ j * x i j) (λ i j. γ j * y i j + ρ i * x i j) (λ i j hi hj. cell_cut i j hi hj (y i j) (Y.caps i j hi hj)) in
      let lhs = sum2-add m n (λ i j. ρ i * y i j) (λ i j. γ j * x i j) in
      let rhs = sum2-add m n (λ i j. γ j * y i j) (λ i j. ρ i * x i j) in
      let y-cols = by-cols m n a b y Y.cols γ in
      let x-cols : sum2 m n (λ i j. γ j * x i j) ≡ sum_to n (λ j. γ j * b j) = sum-swap m n (λ i j. γ j * x i j) ∙ sum-cong n (λ j hj. sum-scale m (γ j) (λ i. x i j) ∙ col j hj (C.cols j hj)) in
      omega (arith, cells, lhs, rhs, y-cols, x-cols, by_rows m n a b y Y.rows ρ, by_rows m n (λ i. sum_to n (λ j. x i j)) b x (λ i hi. refl) ρ, C.short)
    where
      col : (j : ℕ) → j < n → (γ j ≡ 0) ⊎ (γ j ≡ 1) → γ j * sum_to m (λ i. x i j) ≡ γ j * b j
      col j hj (inl q) = rw q (omega arith)
      col j hj (inr q) = rw (C.met j hj q) refl

abbrev pub bit : Bool → ℕ
bit true = 1
bit false = 0

bit-01 : (b : Bool) → (bit b ≡ 0) ⊎ (bit b ≡ 1)
bit-01 true = inr refl
bit-01 false = inl refl

bit-1 : (b : Bool) → bit b ≡ 1 → b ≡ true
bit-1 true e = refl
bit-1 false e = absurd (omega arith)

bit-0 : (b : Bool) → bit b ≡ 0 → b ≡ true → ⊥
bit-0 true e p = omega arith
bit-0 false e p = let z : ◌≡◌ {A = ℕ} 0 1 = cc in omega arith

module _ (m n : ℕ) (a b : ℕ → ℕ) (cap x : ℕ → ℕ → ℕ) (seen_r seen_c : ℕ → Bool) where
  -- everything that a residual arc leads to has been seen
  pub record Closed : Type 0 where
    pub forward : (i j : ℕ) → i < m → j < n → seen_r i ≡ true → x i j < cap i j → seen_c j ≡ true
    pub back : (i j : ℕ) → i < m → j < n → seen_c j ≡ true → 0 < x i j → seen_r i ≡ true
    pub caps : (i j : ℕ) → i < m → j < n → x i j ≤ cap i j
    pub rows : (i : ℕ) → i < m → sum_to n (λ j. x i j) ≤ a i
    pub met : (j : ℕ) → j < n → seen_c j ≡ true → sum_to m (λ i. x i j) ≡ b j

  pub stuck : Closed → (s : ℕ) → s < m → seen_r s ≡ true → sum_to n (λ j. x s j) < a s → (y : ℕ → ℕ → ℕ) → Meets m n a b cap y → ⊥
  stuck C s hs seen short = infeasible m n a b cap x (λ i. bit (seen_r i)) (λ j. bit (seen_c j)) (record {
    rows = λ i hi. bit-01 (seen_r i);
    cols = λ j hj. bit-01 (seen_c j);
    full = λ i j hi hj p q. full i j hi hj (dec_lt (x i j) (cap i j)) p q;
    empty = λ i j hi hj p q. empty i j hi hj (dec_lt 0 (x i j)) p q;
    met = λ j hj q. C.met j hj (bit-1 (seen_c j) q);
    short = sum_lt m s hs (λ i hi. mul-le-mul_left (bit (seen_r i)) (C.rows i hi)) (rw seen (omega arith));
  })
    where
      full : (i j : ℕ) → i < m → j < n → Dec (x i j < cap i j) → bit (seen_r i) ≡ 1 → bit (seen_c j) ≡ 0 → x i j ≡ cap i j
      full i j hi hj (yes l) p q = absurd (bit-0 (seen_c j) q (C.forward i j hi hj (bit-1 (seen_r i) p) l))
      full i j hi hj (no l) p q = omega (arith, C.caps i j hi hj)

      empty : (i j : ℕ) → i < m → j < n → Dec (0 < x i j) → bit (seen_r i) ≡ 0 → bit (seen_c j) ≡ 1 → x i j ≡ 0
      empty i j hi hj (yes l) p q = absurd (bit-0 (seen_r i) p (C.back i j hi hj (bit-1 (seen_c j) q) l))
      empty i j hi hj (no l) p q = omega arith

-- ---- looking for a place below n
unfoldable pub find : (n : ℕ) (f : ℕ → Bool) → ((i : ℕ) × (i < n) × (f i ≡ true)) ⊎ ((i : ℕ) → i < n → f i ≡ false)
find zero f = inr (λ i h. absurd (omega arith))
find (suc n) f = go (f n) refl (find n f)
  where
    go : (b : Bool) → f n ≡ b → ((i : ℕ) × (i < n) × (f i ≡ true)) ⊎ ((i : ℕ) → i < n → f i ≡ false)
        → ((i : ℕ) × (i < suc n) × (f i ≡ true)) ⊎ ((i : ℕ) → i < suc n → f i ≡ false)
    go b e (inl (i, h, t)) = inl (i, omega arith, t)
    go true e (inr k) = inl (n, omega arith, e)
    go false e (inr k) = inr (λ i h. elim (eq-or-lt_of_le h) [ inl q ↦ rw (suc_inj q) e | inr q ↦ k i (omega arith) ])
