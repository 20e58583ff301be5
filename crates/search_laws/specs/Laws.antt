-- What the definitions of Edges say in each case of the code.
use Rattle.std.specs.Prelude.{◌≡◌, List, get_or}
use Rattle.std.proofs.Math.Path.{refl, sym}
use Prim.Native.Nat.{ℕ, suc, ◌+◌, ◌-◌, ◌*◌, ◌≤◌, ◌<◌}
use native.Mathlib.Omega.{arith}
use borrow.Author.Tests.{lt-ltb, le-ltb, le-leb, lt-leb, eq-eqb, ne_eqb}
use Rattle.wide.specs.declared.Wide.{Wide}
use Rattle.wide.specs.Wrap.{add_words, neg_words}
use Rattle.std.proofs.Common.{add_assoc, add-zero, mul-le-mul_right}
use Rattle.std.proofs.Math.Nat.{sub-zero}
use Rattle.net.specs.Net.{relaxed, label_of}
use Rattle.cost_matrix.specs.Matrix.{cap_of, cost_of}
use Rattle.search_laws.specs.Edges.{along_margin, along_cell, against_cell, spread_to, along_row, against_column, visited, TAKEN}
use Rattle.spec.specs.Transport.{WIDEST}

module _ (m : List ℕ) (u v : ℕ) (d : Wide) where
  pub margin-yes : (r : ℕ) → 0 < r → relaxed m u v d ≡ along_margin r m u v d
  unfolding along_margin
  margin-yes r h = rw (lt-ltb 0 r h) refl

  pub margin-not : (r : ℕ) → (0 < r → ⊥) → m ≡ along_margin r m u v d
  unfolding along_margin
  margin-not r h = let q : r ≤ 0 = omega (arith, h) in rw (le-ltb 0 r q) refl

module _ (g x m : List ℕ) (k u v : ℕ) (d : Wide) where
  pub cell-yes : get_or x k 0 < cap_of g k → relaxed m u v (add_words d (cost_of g k)) ≡ along_cell g x m k u v d
  unfolding along_cell
  cell-yes h = rw (lt-ltb (get_or x k 0) (cap_of g k) h) refl

  pub cell-not : cap_of g k ≤ get_or x k 0 → m ≡ along_cell g x m k u v d
  unfolding along_cell
  cell-not h = rw (le-ltb (get_or x k 0) (cap_of g k) h) refl

  pub against-yes : 0 < get_or x k 0 → relaxed m u v (add_words d (neg_words (cost_of g k))) ≡ against_cell g x m k u v d
  unfolding against_cell
  against-yes h = rw (lt-ltb 0 (get_or x k 0) h) refl

  pub against-not : get_or x k 0 ≤ 0 → m ≡ against_cell g x m k u v d
  unfolding against_cell
  against-not h = rw (le-ltb 0 (get_or x k 0) h) refl

-- ---- one turn of each loop, and its end: i of n done
module _ (y : List ℕ) (u : ℕ) (d : Wide) (n k v i : ℕ) (m : List ℕ) where
  pub spread-start : spread_to y u d (n - 0) (k + 0) (v + 0) m ≡ spread_to y u d n k v m
  spread-start = rw (sub-zero n, add-zero k, add-zero v) refl

  pub spread-turn : i < n → spread_to y u d (n - i) (k + i) (v + i) m ≡ spread_to y u d (n - (i + 1)) (k + (i + 1)) (v + (i + 1)) (along_margin (get_or y (k + i) 0) m u (v + i) d)
  unfolding spread_to
  spread-turn h = let e : n - i ≡ suc (n - (i + 1)) = omega arith in rw (e, sym (add_assoc k i 1), sym (add_assoc v i 1)) refl

  pub spread_end : n ≤ i → spread_to y u d (n - i) (k + i) (v + i) m ≡ m
  unfolding spread_to
  spread_end h = let e : n - i ≡ 0 = omega arith in rw e refl

module _ (g x : List ℕ) (u : ℕ) (d : Wide) (n k v i : ℕ) (m : List ℕ) where
  pub row-start : along_row g x u d (n - 0) (k + 0) (v + 0) m ≡ along_row g x u d n k v m
  row-start = rw (sub-zero n, add-zero k, add-zero v) refl

  pub row-turn : i < n → along_row g x u d (n - i) (k + i) (v + i) m ≡ along_row g x u d (n - (i + 1)) (k + (i + 1)) (v + (i + 1)) (along_cell g x m (k + i) u (v + i) d)
  unfolding along_row
  row-turn h = let e : n - i ≡ suc (n - (i + 1)) = omega arith in rw (e, sym (add_assoc k i 1), sym (add_assoc v i 1)) refl

  pub row-end : n ≤ i → along_row g x u d (n - i) (k + i) (v + i) m ≡ m
  unfolding along_row
  row-end h = let e : n - i ≡ 0 = omega arith in rw e refl

module _ (g x : List ℕ) (c u : ℕ) (d : Wide) (n k v i : ℕ) (m : List ℕ) where
  pub column-start : against_column g x c u d (n - 0) k (v + 0) m ≡ against_column g x c u d n k v m
  column-start = rw (sub-zero n, add-zero v) refl

  pub column-turn : i < n → against_column g x c u d (n - i) k (v + i) m ≡ against_column g x c u d (n - (i + 1)) (k + c) (v + (i + 1)) (against_cell g x m k u (v + i) d)
  unfolding against_column
  column-turn h = let e : n - i ≡ suc (n - (i + 1)) = omega arith in rw (e, sym (add_assoc v i 1)) refl

  pub column-end : n ≤ i → against_column g x c u d (n - i) k (v + i) m ≡ m
  unfolding against_column
  column-end h = let e : n - i ≡ 0 = omega arith in rw e refl

-- the place in a column, c cells to a row
pub column-first : (k c : ℕ) → k ≡ k + 0 * c
column-first k c = omega arith

pub column-next : (at c i k : ℕ) → at ≡ k + i * c → at + c ≡ k + (i + 1) * c
column-next at c i k e = omega arith

pub column-cell : (at c i k n : ℕ) → at ≡ k + i * c → k < c → i < n → at < n * c
column-cell at c i k n e h l = omega (arith, mul-le-mul_right {m = suc i} {n = n} c l)

-- ---- the cells of r rows and c columns
module _ (g x y : List ℕ) (r c u : ℕ) (m : List ℕ) where
  pub visited-source : u ≡ 0 → spread_to y 0 (label_of m 0) r 0 1 m ≡ visited g x y r c u m
  unfolding visited
  visited-source e = rw (eq-eqb u 0 e) refl

  pub visited-row : (u ≡ 0 → ⊥) → u ≤ r → along_row g x u (label_of m u) c ((u - 1) * c) (1 + r) m ≡ visited g x y r c u m
  unfolding visited
  visited-row a b = rw (ne_eqb u 0 a, le-leb u r b) refl

  pub visited-column : (u ≡ 0 → ⊥) → r < u → u ≤ r + c
      → (let t = along_margin (get_or y (WIDEST + (u - 1 - r)) 0) m u (1 + r + c) (label_of m u) in against_column g x c u (label_of t u) r (u - 1 - r) 1 t) ≡ visited g x y r c u m
  unfolding visited
  visited-column a b d = rw (ne_eqb u 0 a, lt-leb u r b, le-leb u (r + c) d) refl

  pub visited-sink : (u ≡ 0 → ⊥) → r < u → r + c < u → spread_to y (1 + r + c) (label_of m (1 + r + c)) c TAKEN (1 + r) m ≡ visited g x y r c u m
  unfolding visited
  visited-sink a b d = rw (ne_eqb u 0 a, lt-leb u r b, lt-leb u (r + c) d) refl
