-- The product of a word and a half as two words, by halves. Assumes nothing.
use Rattle.std.proofs.Common.{◌≡◌, ℕ, ◌+◌, ◌*◌, ◌/◌, ◌%◌, ◌^◌, ◌≤◌, ap, ◌∙◌, le_trans, mul-le-mul_right, mul_assoc, add-mul, mul-le-mul_left, arith}

-- a product of two halves
pub bound : (a b M : ℕ) → a ≤ M → b ≤ M → a * b ≤ M * M
bound a b M ha hb = le_trans (mul-le-mul_left a hb) (mul-le-mul_right M ha)

-- a₀ and a₁ the halves of a; w and t the products of the halves, the second with what the first carries
pub half-law : (a k a₀ a₁ w h t l₀ l₁ hi : ℕ) → a₀ ≡ a % 2 ^ 32 → a₁ ≡ a / 2 ^ 32 → w ≡ a₀ * k + 0 + 0 → h ≡ w / 2 ^ 32 → t ≡ a₁ * k + h + 0 → l₀ ≡ w % 2 ^ 32 → l₁ ≡ t % 2 ^ 32 → hi ≡ t / 2 ^ 32
    → l₀ + 2 ^ 32 * l₁ + 2 ^ 64 * hi ≡ a * k
half-law a k a₀ a₁ w h t l₀ l₁ hi p q e f g d₀ d₁ d =
    let whole : a ≡ 2 ^ 32 * a₁ + a₀ = omega (arith, p, q) in
    let product : a * k ≡ 2 ^ 32 * (a₁ * k) + a₀ * k = ap (λ (x : ℕ). x * k) whole ∙ add-mul (2 ^ 32 * a₁) a₀ k ∙ ap (λ (x : ℕ). x + a₀ * k) (mul_assoc (2 ^ 32) a₁ k) in
    omega (arith, product, e, f, g, d₀, d₁, d)
