-- The sums at the margins: one turn of each loop.
use mathlib.Core.Path.{◌≡◌, refl, ◌∙◌}
use mathlib.Core.List.{List}
use Prim.Native.Nat.{ℕ, ◌+◌, ◌-◌, ◌*◌, ◌^◌, ◌<◌}
use native.Mathlib.Decide.{ℕ_discrete}
use native.Mathlib.Omega.{arith}
use native.Mathlib.Numerals.{add-one}
use lib.Arith.{digits_lt}
use lib.ListN.{length, get_or, set, length-set}
use lib.Seq.{get_or-set_same, get_or-set_other}
use Rattle.spec.specs.Bytes.{sum_to}
use Rattle.augment.specs.Balance.{Low, RowsLeft, ColumnsLeft, Balanced, row_sum, column_sum}
use Rattle.search_laws.specs.Edges.{TAKEN}
use Rattle.spec.specs.Transport.{WIDEST}

pub sum-turn : (f : List ℕ) (k d i : ℕ) → sum_to (i + 1) (λ j. get_or f (k + j * d) 0) ≡ sum_to i (λ j. get_or f (k + j * d) 0) + get_or f (k + i * d) 0
unfolding sum_to
sum-turn f k d i = rw (add-one i) refl

pub next_place : (at k i d : ℕ) → at ≡ k + i * d → at + d ≡ k + (i + 1) * d
next_place at k i d e = omega arith

pub first-place : (k d : ℕ) → k ≡ k + 0 * d
first-place k d = omega arith

module _ (r c : ℕ) (f : List ℕ) (L : Low r c f) where
  pub row_reads : (i : ℕ) → i < r → (j : ℕ) → j < c → (i * c + j * 1 < length f) × (get_or f (i * c + j * 1) 0 < 2 ^ 32)
  row_reads i hi j hj =
      let e : j * 1 ≡ j = omega arith in
      let k = digits_lt {q = i} hi hj in
      rw e (omega (arith, k, L.room), L.low (i * c + j) k)

  pub column-reads : (j : ℕ) → j < c → (i : ℕ) → i < r → (j + i * c < length f) × (get_or f (j + i * c) 0 < 2 ^ 32)
  column-reads j hj i hi =
      let e : j + i * c ≡ i * c + j = omega arith in
      let k = digits_lt {q = i} hi hj in
      rw e (omega (arith, k, L.room), L.low (i * c + j) k)

module _ (r c : ℕ) (supply f y₀ y : List ℕ) (n : ℕ) where
  pub rows-turn : n < WIDEST → RowsLeft r c supply f y₀ y n → RowsLeft r c supply f y₀ (set y n (get_or supply n 0 - row_sum f c n)) (n + 1)
  rows-turn h R = record {
    size = length-set y n (get_or supply n 0 - row_sum f c n) ∙ R.size;
    supplies = λ i hi. go i hi (ℕ_discrete i n);
    other = λ k hk. get_or-set_other y n k (get_or supply n 0 - row_sum f c n) 0 (omega arith) ∙ R.other k hk;
  }
    where
      go : (i : ℕ) → i < n + 1 → Dec (i ≡ n) → get_or (set y n (get_or supply n 0 - row_sum f c n)) i 0 ≡ get_or supply i 0 - row_sum f c i
      go i hi (yes e) = rw e (get_or-set_same y n (get_or supply n 0 - row_sum f c n) 0 (omega (arith, R.size)))
      go i hi (no e) = get_or-set_other y n i (get_or supply n 0 - row_sum f c n) 0 e ∙ R.supplies i (omega arith)

module _ (r c : ℕ) (demand f y : List ℕ) (n : ℕ) where
  pub columns-turn : n < WIDEST → ColumnsLeft r c demand f y n → ColumnsLeft r c demand f (set (set y (WIDEST + n) (get_or demand n 0 - column_sum f r c n)) (TAKEN + n) (column_sum f r c n)) (n + 1)
  columns-turn h R = record { size = simp length-set R.size; demands = λ j hj. go j hj (ℕ_discrete j n); taken = λ j hj. to j hj (ℕ_discrete j n) }
    where
      d : ℕ
      d = get_or demand n 0 - column_sum f r c n

      s : ℕ
      s = column_sum f r c n

      go : (j : ℕ) → j < n + 1 → Dec (j ≡ n) → get_or (set (set y (WIDEST + n) (get_or demand n 0 - column_sum f r c n)) (TAKEN + n) (column_sum f r c n)) (WIDEST + j) 0 ≡ get_or demand j 0 - column_sum f r c j
      go j hj (yes e) = rw e (get_or-set_other (set y (WIDEST + n) d) (TAKEN + n) (WIDEST + n) s 0 (omega arith) ∙ get_or-set_same y (WIDEST + n) d 0 (omega (arith, R.size)))
      go j hj (no e) = get_or-set_other (set y (WIDEST + n) d) (TAKEN + n) (WIDEST + j) s 0 (omega arith) ∙ get_or-set_other y (WIDEST + n) (WIDEST + j) d 0 (omega arith) ∙ R.demands j (omega arith)

      to : (j : ℕ) → j < n + 1 → Dec (j ≡ n) → get_or (set (set y (WIDEST + n) (get_or demand n 0 - column_sum f r c n)) (TAKEN + n) (column_sum f r c n)) (TAKEN + j) 0 ≡ column_sum f r c j
      to j hj (yes e) = rw e (get_or-set_same (set y (WIDEST + n) d) (TAKEN + n) s 0 (rw (length-set y (WIDEST + n) d) (omega (arith, R.size))))
      to j hj (no e) = get_or-set_other (set y (WIDEST + n) d) (TAKEN + n) (TAKEN + j) s 0 (omega arith) ∙ get_or-set_other y (WIDEST + n) (TAKEN + j) d 0 (omega arith) ∙ R.taken j (omega arith)

pub balanced : (r c : ℕ) (supply demand f y₀ y : List ℕ) → ColumnsLeft r c demand f y₀ c → RowsLeft r c supply f y₀ y r → Balanced r c supply demand f y
balanced r c supply demand f y₀ y C R = record {
  size = R.size;
  supplies = R.supplies;
  demands = λ j hj. R.other (WIDEST + j) (omega arith) ∙ C.demands j hj;
  taken = λ j hj. R.other (TAKEN + j) (omega arith) ∙ C.taken j hj;
}
