-- The definitions of the network, read as sums and as numbered nodes.
use Rattle.std.specs.Prelude.{Bool, true, false, List, [], ◌∷◌, map, ◌≡◌, ℕ, zero, suc, ◌+◌, ◌*◌, ◌≤◌, ◌<◌, ◌-◌, T, eqb, ltb, leb, length, get_or}
use Rattle.std.proofs.Math.Path.{refl}
use Rattle.std.proofs.Common.{sym, ap, ◌∙◌, arith, eqb→eq, ltb→lt, leb→le, le→leb, lt→ltb}
use Rattle.std.proofs.Math.Decide.{ℕ_discrete, dec_le, dec_lt}
use Rattle.spec.specs.Bytes.{sum_to}
use Rattle.spec.specs.Transport.{Cell, forbidden, Problem, size_of, mass_of, largest, rows_of, cols_of, cell_at, moved, row_flow, col_flow, source, row, column, target, sink, node_count, vertex_of, plan_size, plan_mass}
use Rattle.flow.specs.Sums.{sum_first, sum2, sum-flat}

-- ---- tests
pub is-yes : (b : Bool) → T b → b ≡ true
is-yes true t = refl
is-yes false t = absurd t

pub is-no : (b : Bool) → (T b → ⊥) → b ≡ false
is-no true t = absurd (t tt)
is-no false t = refl

module _ (p : Problem) where
  pub row_flow-is : (x : List ℕ) (i : ℕ) → row_flow p x i ≡ sum_to (cols_of p) (λ j. moved p x i j)
  unfolding row_flow
  row_flow-is x i = refl

  pub col_flow-is : (x : List ℕ) (j : ℕ) → col_flow p x j ≡ sum_to (rows_of p) (λ i. moved p x i j)
  unfolding col_flow
  col_flow-is x j = refl

-- ---- a plan's totals: the units times what each costs by f
unfoldable pub total : (Cell → ℕ) → List ℕ → List Cell → ℕ
total f [] cs = 0
total f (n ∷ x) [] = 0
total f (n ∷ x) (c ∷ cs) = n * f c + total f x cs

size-total : (x : List ℕ) (cs : List Cell) → plan_size x cs ≡ total size_of x cs
unfolding plan_size total
size-total [] cs = refl
size-total (n ∷ x) [] = refl
size-total (n ∷ x) (c ∷ cs) = ap (λ (z : ℕ). n * size_of c + z) (size-total x cs)

mass-total : (x : List ℕ) (cs : List Cell) → plan_mass x cs ≡ total mass_of x cs
unfolding plan_mass total
mass-total [] cs = refl
mass-total (n ∷ x) [] = refl
mass-total (n ∷ x) (c ∷ cs) = ap (λ (z : ℕ). n * mass_of c + z) (mass-total x cs)

total-is : (f : Cell → ℕ) → f forbidden ≡ 0 → (x : List ℕ) (cs : List Cell) → total f x cs ≡ sum_to (length x) (λ k. get_or x k 0 * f (get_or cs k forbidden))
unfolding total sum_to
total-is f z [] cs = refl
total-is f z (n ∷ x) [] = sym (go (suc (length x)) (λ k. get_or (n ∷ x) k 0))
  where
    go : (l : ℕ) (y : ℕ → ℕ) → sum_to l (λ k. y k * f (get_or [] k forbidden)) ≡ 0
    go zero y = refl
    go (suc l) y = omega (arith, go l y, ap (λ (o : ℕ). y l * o) z)
total-is f z (n ∷ x) (c ∷ cs) = ap (λ (o : ℕ). n * f c + o) (total-is f z x cs) ∙ sym (sum_first (length x) (λ k. get_or (n ∷ x) k 0 * f (get_or (c ∷ cs) k forbidden)))

module _ (p : Problem) (x : List ℕ) (len : length x ≡ rows_of p * cols_of p) where
  total-sum2 : (f : Cell → ℕ) → f forbidden ≡ 0 → total f x p.cells ≡ sum2 (rows_of p) (cols_of p) (λ i j. moved p x i j * f (cell_at p i j))
  total-sum2 f z = total-is f z x p.cells ∙ ap (λ (o : ℕ). sum_to o (λ k. get_or x k 0 * f (get_or p.cells k forbidden))) len
      ∙ sum-flat (rows_of p) (cols_of p) (λ k. get_or x k 0 * f (get_or p.cells k forbidden))

  pub plan_size-sum2 : plan_size x p.cells ≡ sum2 (rows_of p) (cols_of p) (λ i j. moved p x i j * size_of (cell_at p i j))
  plan_size-sum2 = size-total x p.cells ∙ total-sum2 size_of refl

  pub plan_mass-sum2 : plan_mass x p.cells ≡ sum2 (rows_of p) (cols_of p) (λ i j. moved p x i j * mass_of (cell_at p i j))
  plan_mass-sum2 = mass-total x p.cells ∙ total-sum2 mass_of refl

-- ---- the largest of a list
pub largest-ge : {A : Type 0} (f : A → ℕ) (l : List A) (k : ℕ) (d : A) → f d ≡ 0 → f (get_or l k d) ≤ largest (map f l)
unfolding largest
largest-ge f [] k d e = omega arith
largest-ge f (x ∷ l) zero d e = omega arith
largest-ge f (x ∷ l) (suc k) d e = omega (arith, largest-ge f l k d e)

-- ---- numbers of nodes
module _ (p : Problem) where
  pub node_row : (i : ℕ) → i < rows_of p → vertex_of p (1 + i) ≡ row i
  node_row i h =
      rw (is-no (eqb (1 + i) 0) (λ t. not-source (eqb→eq (1 + i) 0 t)), is-yes (leb (1 + i) (rows_of p)) (le→leb (1 + i) (rows_of p) (omega arith))) (ap row (omega arith))
    where
      not-source : 1 + i ≡ 0 → ⊥
      not-source e = omega arith

  pub node-column : (j : ℕ) → j < cols_of p → vertex_of p (1 + rows_of p + j) ≡ column j
  node-column j h =
      rw (
        is-no (eqb (1 + rows_of p + j) 0) (λ t. not-source (eqb→eq (1 + rows_of p + j) 0 t)),
        is-no (leb (1 + rows_of p + j) (rows_of p)) (λ t. not-row (leb→le (1 + rows_of p + j) (rows_of p) t)),
        is-yes (ltb (1 + rows_of p + j) (sink p)) (lt→ltb (1 + rows_of p + j) (sink p) (omega arith)),
      ) (ap column (omega arith))
    where
      not-source : 1 + rows_of p + j ≡ 0 → ⊥
      not-source e = omega arith

      not-row : 1 + rows_of p + j ≤ rows_of p → ⊥
      not-row e = omega arith

  pub node-sink : vertex_of p (sink p) ≡ target
  node-sink =
      rw (
        is-no (eqb (sink p) 0) (λ t. not-source (eqb→eq (sink p) 0 t)),
        is-no (leb (sink p) (rows_of p)) (λ t. not-row (leb→le (sink p) (rows_of p) t)),
        is-no (ltb (sink p) (sink p)) (λ t. not-column (ltb→lt (sink p) (sink p) t)),
      ) refl
    where
      not-source : sink p ≡ 0 → ⊥
      not-source e = omega arith

      not-row : sink p ≤ rows_of p → ⊥
      not-row e = omega arith

      not-column : sink p < sink p → ⊥
      not-column e = omega arith

  -- what a number below the count is
  pub data NodeIs (u : ℕ) : Type 0 where
    is_source : u ≡ 0 → vertex_of p u ≡ source → NodeIs u
    is_row : (i : ℕ) → i < rows_of p → u ≡ 1 + i → vertex_of p u ≡ row i → NodeIs u
    is_column : (j : ℕ) → j < cols_of p → u ≡ 1 + rows_of p + j → vertex_of p u ≡ column j → NodeIs u
    is_sink : u ≡ sink p → vertex_of p u ≡ target → NodeIs u

  pub view : (u : ℕ) → u < node_count p → NodeIs u
  view u h = go (ℕ_discrete u 0) (dec_le u (rows_of p)) (dec_lt u (sink p))
    where
      go : Dec (u ≡ 0) → Dec (u ≤ rows_of p) → Dec (u < sink p) → NodeIs u
      go (yes e) b c = is_source e (ap (vertex_of p) e)
      go (no e) (yes l) c = let q : u ≡ 1 + (u - 1) = omega arith in is_row (u - 1) (omega arith) q (ap (vertex_of p) q ∙ node_row (u - 1) (omega arith))
      go (no e) (no l) (yes c) = let q : u ≡ 1 + rows_of p + (u - 1 - rows_of p) = omega arith in
          is_column (u - 1 - rows_of p) (omega arith) q (ap (vertex_of p) q ∙ node-column (u - 1 - rows_of p) (omega arith))
      go (no e) (no l) (no c) = let q : u ≡ sink p = omega arith in is_sink q (ap (vertex_of p) q ∙ node-sink)
