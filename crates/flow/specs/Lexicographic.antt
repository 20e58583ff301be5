-- With W above every mass, the least size × W + mass is the least size, then mass.
use Rattle.std.proofs.Common.{inl, inr, ap, ◌∙◌, mul-le-mul_left, arith}
use Rattle.std.specs.Prelude.{◌≡◌, ℕ, ◌+◌, ◌*◌, ◌≤◌, ◌<◌}
use Rattle.std.proofs.Math.Decide.{dec_lt}
use Rattle.spec.specs.Bytes.{sum_to}
use Rattle.spec.specs.Meaning.{◌⊑◌}
use Rattle.flow.specs.Certificate.{Meets}
use Rattle.flow.specs.Sums.{sum-cong, sum2, sum2-mono, sum2-cong, sum2-add, sum2-scale}

-- two numbers with q < W are read off one number
pub lex : (W s q s' q' : ℕ) → q < W → q' < W → W * s + q ≤ W * s' + q' → (s, q) ⊑ (s', q')
lex W s q s' q' h h' t = go (dec_lt s s') (dec_lt s' s)
  where
    go : Dec (s < s') → Dec (s' < s) → (s, q) ⊑ (s', q')
    go (yes l) d = inl l
    go (no l) (yes g) = absurd (omega (arith, mul-le-mul_left W g))
    go (no l) (no g) = let e : s ≡ s' = omega arith in inr (e, (omega (arith, ap (λ (z : ℕ). W * z) e)))

module _ (m n : ℕ) (a b : ℕ → ℕ) (cap s q : ℕ → ℕ → ℕ) (M : ℕ) (below : (i j : ℕ) → i < m → j < n → q i j ≤ M) where
  -- a plan's second sum is below W
  small : (x : ℕ → ℕ → ℕ) → Meets m n a b cap x → sum2 m n (λ i j. x i j * q i j) < sum_to m a * M + 1
  small x X =
      let each = sum2-mono m n (λ i j. x i j * q i j) (λ i j. M * x i j) (λ i j hi hj. omega (arith, mul-le-mul_left (x i j) (below i j hi hj))) in
      omega (arith, each, sum2-scale m n M x, ap (λ (z : ℕ). M * z) (sum-cong m X.rows))

  joint : (W : ℕ) (x : ℕ → ℕ → ℕ) → sum2 m n (λ i j. x i j * (s i j * W + q i j)) ≡ W * sum2 m n (λ i j. x i j * s i j) + sum2 m n (λ i j. x i j * q i j)
  joint W x =
      sum2-cong m n (λ i j. x i j * (s i j * W + q i j)) (λ i j. W * (x i j * s i j) + x i j * q i j) (λ i j hi hj. omega arith)
      ∙ sum2-add m n (λ i j. W * (x i j * s i j)) (λ i j. x i j * q i j)
      ∙ ap (λ (z : ℕ). z + sum2 m n (λ i j. x i j * q i j)) (sum2-scale m n W (λ i j. x i j * s i j))

  pub lexicographic : (x y : ℕ → ℕ → ℕ) → Meets m n a b cap x → Meets m n a b cap y
      → (let W = sum_to m a * M + 1 in sum2 m n (λ i j. x i j * (s i j * W + q i j)) ≤ sum2 m n (λ i j. y i j * (s i j * W + q i j)))
      → (sum2 m n (λ i j. x i j * s i j), sum2 m n (λ i j. x i j * q i j)) ⊑ (sum2 m n (λ i j. y i j * s i j), sum2 m n (λ i j. y i j * q i j))
  lexicographic x y X Y h =
      lex (sum_to m a * M + 1) _ _ _ _ (small x X) (small y Y) (rw (← joint (sum_to m a * M + 1) x, ← joint (sum_to m a * M + 1) y) h)
