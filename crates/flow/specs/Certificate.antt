-- The optimality certificate: a plan that meets the margins and has dual values is the cheapest (complementary slackness).
use Rattle.std.specs.Prelude.{◌≡◌, ℕ, zero, suc, ◌+◌, ◌*◌, ◌≤◌, ◌<◌}
use Rattle.std.proofs.Common.{ap, ◌∙◌, mul-le-mul_left, lt_of_not-le, arith}
use Rattle.std.proofs.Math.Decide.{dec_le}
use Rattle.std.proofs.Math.Nat.{le_dest}
use Rattle.spec.specs.Bytes.{sum_to}
use Rattle.flow.specs.Sums.{sum-cong, sum-add, sum-scale, sum-swap, sum2, sum2-mono}

pub record Meets (m n : ℕ) (a b : ℕ → ℕ) (cap x : ℕ → ℕ → ℕ) : Type 0 where
  pub rows : (i : ℕ) → i < m → sum_to n (λ j. x i j) ≡ a i
  pub cols : (j : ℕ) → j < n → sum_to m (λ i. x i j) ≡ b j
  pub caps : (i j : ℕ) → i < m → j < n → x i j ≤ cap i j

pub record Duals (m n : ℕ) (c cap x : ℕ → ℕ → ℕ) (u v : ℕ → ℕ) : Type 0 where
  pub forward : (i j : ℕ) → i < m → j < n → x i j < cap i j → v j ≤ c i j + u i
  pub back : (i j : ℕ) → i < m → j < n → 0 < x i j → c i j + u i ≤ v j

-- one cell: y is more than x by d, or less
more : (x d w v : ℕ) → v ≤ w → x * w + (x + d) * v ≤ (x + d) * w + x * v
more x d w v h = omega (arith, mul-le-mul_left d h)

less : (y d w v : ℕ) → w ≤ v → (y + d) * w + y * v ≤ y * w + (y + d) * v
less y d w v h = omega (arith, mul-le-mul_left d h)

cell : (x y k w v : ℕ) → y ≤ k → (x < k → v ≤ w) → (0 < x → w ≤ v) → x * w + y * v ≤ y * w + x * v
cell x y k w v hy f g = go (dec_le x y)
  where
    up : (d : ℕ) × (x + d ≡ y) → x * w + y * v ≤ y * w + x * v
    up (zero, e) = rw (← e) (omega arith)
    up (suc d, e) = rw (← e) (more x (suc d) w v (f (omega arith)))

    down : (d : ℕ) × (suc y + d ≡ x) → x * w + y * v ≤ y * w + x * v
    down (d, e) = let e' : y + suc d ≡ x = omega arith in rw (← e') (less y (suc d) w v (g (omega arith)))

    go : Dec (x ≤ y) → x * w + y * v ≤ y * w + x * v
    go (yes h) = up (le_dest h)
    go (no h) = down (le_dest (lt_of_not-le h))

module _ (m n : ℕ) (a b : ℕ → ℕ) (x : ℕ → ℕ → ℕ) where
  pub by_rows : ((i : ℕ) → i < m → sum_to n (λ j. x i j) ≡ a i) → (u : ℕ → ℕ) → sum2 m n (λ i j. u i * x i j) ≡ sum_to m (λ i. u i * a i)
  by_rows h u = sum-cong m (λ i hi. sum-scale n (u i) (λ j. x i j) ∙ ap (λ (z : ℕ). u i * z) (h i hi))

  pub by-cols : ((j : ℕ) → j < n → sum_to m (λ i. x i j) ≡ b j) → (v : ℕ → ℕ) → sum2 m n (λ i j. v j * x i j) ≡ sum_to n (λ j. v j * b j)
  by-cols h v = sum-swap m n (λ i j. v j * x i j) ∙ sum-cong n (λ j hj. sum-scale m (v j) (λ i. x i j) ∙ ap (λ (z : ℕ). v j * z) (h j hj))

module _ (m n : ℕ) (a b : ℕ → ℕ) (c cap x : ℕ → ℕ → ℕ) (u v : ℕ → ℕ) where
  pub optimal : Meets m n a b cap x → Duals m n c cap x u v → (y : ℕ → ℕ → ℕ) → Meets m n a b cap y
      → sum2 m n (λ i j. x i j * c i j) ≤ sum2 m n (λ i j. y i j * c i j)
  optimal X D y Y =
      let split : (p q r : ℕ → ℕ → ℕ) → sum2 m n (λ i j. p i j + q i j + r i j) ≡ sum2 m n p + sum2 m n q + sum2 m n r = λ p q r. simp sum-add in
      let cells = sum2-mono m n (λ i j. x i j * c i j + u i * x i j + v j * y i j) (λ i j. y i j * c i j + u i * y i j + v j * x i j)
      (λ i j hi hj. omega (arith, cell (x i j) (y i j) (cap i j) (c i j + u i) (v j) (Y.caps i j hi hj) (D.forward i j hi hj) (D.back i j hi hj))) in
      omega (
        arith,
        cells,
        split (λ i j. x i j * c i j) (λ i j. u i * x i j) (λ i j. v j * y i j),
        split (λ i j. y i j * c i j) (λ i j. u i * y i j) (λ i j. v j * x i j),
        by_rows m n a b x X.rows u,
        by_rows m n a b y Y.rows u,
        by-cols m n a b x X.cols v,
        by-cols m n a b y Y.cols v,
      )
