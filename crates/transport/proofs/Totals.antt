-- A plan's total over the slices: the definition's size and mass, and one turn of the loop.
use mathlib.Core.Path.{◌≡◌, refl, sym, ap, ◌∙◌}
use mathlib.Core.Bool.{Bool, true, false}
use mathlib.Core.List.{List}
use Prim.Native.Nat.{ℕ, zero, suc, ◌+◌, ◌-◌, ◌*◌, ◌^◌, ◌≤◌, ◌<◌}
use native.Mathlib.Nat.{sub-zero, mul-le-mul}
use native.Mathlib.Omega.{arith}
use lib.Dec.{eqb}
use lib.ListN.{length, get_or, drop, drop_of_length-le}
use lib.Seq.{drop-cons}
use Rattle.spec.specs.Bytes.{pick}
use Rattle.spec.specs.Transport.{cost, forbidden, size_of, mass_of, plan_size, plan_mass}
use Rattle.wide.specs.declared.Wide.{Wide}
use Rattle.wide.specs.Wrap.{Natural, add_words, add-natural}
use Rattle.cost_matrix.specs.Matrix.{CELLS}
use Rattle.cost_matrix.specs.Cells.{cells_from, if_allowed}
use Rattle.transport.specs.Slices.{total_from}

module _ (x per flags : List ℕ) where
  pub total-turn : (n i : ℕ) → i < n → total_from x per flags (n - i) i ≡ get_or x i 0 * if_allowed flags i (get_or per i 0) + total_from x per flags (n - (i + 1)) (i + 1)
  unfolding total_from
  total-turn n i h = let q : n - i ≡ suc (n - (i + 1)) = omega arith in rw q refl

  pub total-end : (n i : ℕ) → n ≤ i → total_from x per flags (n - i) i ≡ 0
  unfolding total_from
  total-end n i h = let q : n - i ≡ 0 = omega arith in rw q refl

module _ (x sizes masses flags : List ℕ) where
  pub size-total : (n k : ℕ) → length x ≡ k + n → plan_size (drop k x) (cells_from sizes masses flags n k) ≡ total_from x sizes flags n k
  unfolding plan_size cells_from total_from
  size-total zero k e = let h : length x ≤ k = omega arith in rw (drop_of_length-le x h) refl
  size-total (suc n) k e =
      let h : k < length x = omega arith in
      let q : k + 1 ≡ suc k = omega arith in
      rw (drop-cons x k 0) (ap (λ (z : ℕ). get_or x k 0 * z + plan_size (drop (suc k) x) (cells_from sizes masses flags n (k + 1))) (is (eqb (get_or flags k 0) 0))
      ∙ ap (λ (z : ℕ). get_or x k 0 * if_allowed flags k (get_or sizes k 0) + z) (ap (λ (z : ℕ). plan_size (drop z x) (cells_from sizes masses flags n (k + 1))) (sym q) ∙ size-total n (k + 1) (omega arith)))
    where
      is : (b : Bool) → size_of (pick b forbidden (cost (get_or sizes k 0) (get_or masses k 0))) ≡ pick b 0 (get_or sizes k 0)
      is true = refl
      is false = refl

  pub mass-total : (n k : ℕ) → length x ≡ k + n → plan_mass (drop k x) (cells_from sizes masses flags n k) ≡ total_from x masses flags n k
  unfolding plan_mass cells_from total_from
  mass-total zero k e = let h : length x ≤ k = omega arith in rw (drop_of_length-le x h) refl
  mass-total (suc n) k e =
      let h : k < length x = omega arith in
      let q : k + 1 ≡ suc k = omega arith in
      rw (drop-cons x k 0) (ap (λ (z : ℕ). get_or x k 0 * z + plan_mass (drop (suc k) x) (cells_from sizes masses flags n (k + 1))) (is (eqb (get_or flags k 0) 0))
      ∙ ap (λ (z : ℕ). get_or x k 0 * if_allowed flags k (get_or masses k 0) + z) (ap (λ (z : ℕ). plan_mass (drop z x) (cells_from sizes masses flags n (k + 1))) (sym q) ∙ mass-total n (k + 1) (omega arith)))
    where
      is : (b : Bool) → mass_of (pick b forbidden (cost (get_or sizes k 0) (get_or masses k 0))) ≡ pick b 0 (get_or masses k 0)
      is true = refl
      is false = refl

pub product-fits : (a b : ℕ) → a < 2 ^ 32 → b < 2 ^ 32 → a * b < 2 ^ 64
product-fits a b h k = omega (arith, mul-le-mul {n₁ = a} {m₁ = b} {n₂ = 2 ^ 32 - 1} {m₂ = 2 ^ 32 - 1} (omega arith) (omega arith))

-- the sum so far is T
pub record Summed (x per flags : List ℕ) (n i : ℕ) (t : Wide) : Type 0 where
  pub T : ℕ
  pub is : Natural t T
  pub rest : T + total_from x per flags (n - i) i ≡ total_from x per flags n 0
  pub low : T ≤ i * 2 ^ 64

pub summed-start : (x per flags : List ℕ) (n : ℕ) → Summed x per flags n 0 (record { lo = 0; hi = 0 })
summed-start x per flags n = record { T = 0; is = record { low = omega arith; high = omega arith; is = refl }; rest = rw (sub-zero n) (omega arith); low = omega arith }

pub summed_turn : (x per flags : List ℕ) (n i : ℕ) (t : Wide) (y : ℕ) → i < n → n ≤ CELLS → y < 2 ^ 64 → y ≡ get_or x i 0 * if_allowed flags i (get_or per i 0)
    → Summed x per flags n i t → Summed x per flags n (i + 1) (add_words t (record { lo = y; hi = 0 }))
summed_turn x per flags n i t y h b hy e S = record {
  T = S.T + y;
  is = add-natural S.is (one y hy) (fit S.T i y S.low (le h b) hy);
  rest = omega (arith, S.rest, total-turn x per flags n i h, e);
  low = omega (arith, S.low);
}
  where
    one : (y : ℕ) → y < 2 ^ 64 → Natural (record { lo = y; hi = 0 }) y
    one y h = record { low = h; high = omega arith; is = omega arith }

    le : {i n : ℕ} → i < n → n ≤ CELLS → i < CELLS
    le h b = omega arith

    fit : (T i y : ℕ) → T ≤ i * 2 ^ 64 → i < CELLS → y < 2 ^ 64 → T + y < 2 ^ 118
    fit T i y a b c = omega arith

pub summed-end : (x per flags : List ℕ) (n i : ℕ) (t : Wide) → n ≤ i → Summed x per flags n i t → Natural t (total_from x per flags n 0)
summed-end x per flags n i t h S =
    let e : S.T ≡ total_from x per flags n 0 = omega (arith, S.rest, total-end x per flags n i h) in
    rw (← e) S.is

pub next-lt : {i n : ℕ} → i < n → n ≤ CELLS → i + 1 < 2 ^ 64
next-lt h b = omega arith
