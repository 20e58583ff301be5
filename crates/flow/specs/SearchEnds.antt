-- The search from its beginning: the fuel suffices.
use Rattle.std.specs.Prelude.{true, false, List, [], ◌∷◌, map, ◌⊎◌, ◌≡◌, pos, get_or, replicate}
use Rattle.std.proofs.Math.Logic.{inl, inr}
use Rattle.std.proofs.Math.Option.{none, some}
use Rattle.std.proofs.Math.Path.{refl}
use Rattle.std.proofs.Common.{sym, ap, ◌∙◌, le_refl, mul-le-mul_right}
use Prim.Native.Nat.{ℕ, zero, suc, ◌+◌, ◌*◌, ◌≤◌, ◌<◌, zero-le}
use native.Mathlib.Omega.{arith}
use Rattle.std.proofs.lemmas.List.{length-replicate}
use Rattle.spec.specs.Meaning.{In, here, there}
use Rattle.spec.specs.Transport.{forbidden, Problem, size_of, mass_of, largest, cell_cost, rows_of, cols_of, cell_at, Vertex, source, row, column, target, sink, node_count, vertex_of, neighbours, residual, price, begin, search_fuel, searched, found}
use Rattle.laws.specs.Tests.{clash}
use Rattle.flow.specs.Cut.{bit}
use Rattle.flow.specs.Network.{largest-ge, NodeIs, view, is_source, is_row, is_column, is_sink}
use Rattle.flow.specs.Queue.{in-nil, in-upFrom, up_from-in}
use Rattle.flow.specs.Search.{label_or, none-some, label_at, pred_at, NodeLabel, residual_of, price_of, Potential, Labelled, reached_count, Settled, AtRest, rests, unseen, root}
use Rattle.flow.specs.Signed.{pos_part, neg_part, z-neg}
use Rattle.flow.specs.Sums.{sum_mono, sum-const, sum-term}

pub get_d-same : {A : Type 0} (n v : ℕ) (d : A) → get_or (replicate n d) v d ≡ d
get_d-same zero v d = refl
get_d-same (suc n) zero d = refl
get_d-same (suc n) (suc v) d = get_d-same n v d

-- ---- the dearest cell bounds every price
module _ (p : Problem) (w : ℕ) where
  abbrev pub dearest : ℕ
  dearest = largest (map (cell_cost w) p.cells)

  pub cell-dear : (i j : ℕ) → size_of (cell_at p i j) * w + mass_of (cell_at p i j) ≤ dearest
  cell-dear i j = largest-ge (cell_cost w) p.cells (i * cols_of p + j) forbidden (omega arith)

  pub price-le : (m n : Vertex) → pos_part (price p w m n) ≤ dearest + neg_part (price p w m n)
  unfolding price
  price-le (row i) (column j) = omega (arith, cell-dear i j)
  price-le (column j) (row i) = omega (arith, z-neg (pos (size_of (cell_at p i j) * w + mass_of (cell_at p i j))))
  price-le (row i) source = omega arith
  price-le (row i) (row k) = omega arith
  price-le (row i) target = omega arith
  price-le (column j) source = omega arith
  price-le (column j) (column k) = omega arith
  price-le (column j) target = omega arith
  price-le source n = omega arith
  price-le target n = omega arith

  abbrev pub dear : (a b : ℕ) → pos_part (price p w (vertex_of p a) (vertex_of p b)) ≤ dearest + neg_part (price p w (vertex_of p a) (vertex_of p b))
  dear a b = price-le (vertex_of p a) (vertex_of p b)

module _ (p : Problem) (w : ℕ) (x : List ℕ) where
  in-cons : {v a : ℕ} {l : List ℕ} → In v (a ∷ l) → (v ≡ a) ⊎ In v l
  in-cons here = inl refl
  in-cons (there i) = inr i

  pub inner-node : (n : Vertex) (v : ℕ) → In v (neighbours p n) → v < node_count p
  unfolding neighbours
  inner-node source v i = omega (arith, in-upFrom (rows_of p) 1 v i)
  inner-node (row k) v i = elim (in-cons i) [ inl e ↦ omega arith | inr j ↦ omega (arith, in-upFrom (cols_of p) (1 + rows_of p) v j) ]
  inner-node (column k) v i = elim (in-cons i) [ inl e ↦ omega arith | inr j ↦ omega (arith, in-upFrom (rows_of p) 1 v j) ]
  inner-node target v i = omega (arith, in-upFrom (cols_of p) (1 + rows_of p) v i)

  pub inner : (a v : ℕ) → a < node_count p → In v (neighbours p (vertex_of p a)) → v < node_count p
  inner a v ha i = inner-node (vertex_of p a) v i

  reach-node : (m : Vertex) (b : ℕ) → NodeIs p b → 0 < residual p x m (vertex_of p b) → In b (neighbours p m)
  unfolding neighbours residual
  reach-node source b (is_source e q) r = let z : 0 < residual p x source source = rw q at r in absurd (omega arith)
  reach-node source b (is_row k h e q) r = up_from-in (rows_of p) 1 b (omega arith) (omega arith)
  reach-node source b (is_column k h e q) r = let z : 0 < residual p x source (column k) = rw q at r in absurd (omega arith)
  reach-node source b (is_sink e q) r = let z : 0 < residual p x source target = rw q at r in absurd (omega arith)
  reach-node (row i) b (is_source e q) r = rw e here
  reach-node (row i) b (is_row k h e q) r = let z : 0 < residual p x (row i) (row k) = rw q at r in absurd (omega arith)
  reach-node (row i) b (is_column k h e q) r = there (up_from-in (cols_of p) (1 + rows_of p) b (omega arith) (omega arith))
  reach-node (row i) b (is_sink e q) r = let z : 0 < residual p x (row i) target = rw q at r in absurd (omega arith)
  reach-node (column i) b (is_source e q) r = let z : 0 < residual p x (column i) source = rw q at r in absurd (omega arith)
  reach-node (column i) b (is_row k h e q) r = there (up_from-in (rows_of p) 1 b (omega arith) (omega arith))
  reach-node (column i) b (is_column k h e q) r = let z : 0 < residual p x (column i) (column k) = rw q at r in absurd (omega arith)
  reach-node (column i) b (is_sink e q) r = rw e here
  reach-node target b (is_source e q) r = let z : 0 < residual p x target source = rw q at r in absurd (omega arith)
  reach-node target b (is_row k h e q) r = let z : 0 < residual p x target (row k) = rw q at r in absurd (omega arith)
  reach-node target b (is_column k h e q) r = up_from-in (cols_of p) (1 + rows_of p) b (omega arith) (omega arith)
  reach-node target b (is_sink e q) r = let z : 0 < residual p x target target = rw q at r in absurd (omega arith)

  pub reach : (a b : ℕ) → a < node_count p → b < node_count p → 0 < residual_of p w x a b → In b (neighbours p (vertex_of p a))
  reach a b ha hb r = reach-node (vertex_of p a) b (view p b hb) r

  -- ---- the beginning
  begin-lab : (v : ℕ) → label_at (begin p) (suc v) ≡ none
  begin-lab v = get_d-same (sink p) v none

  -- what a label at the beginning is
  begin-at : (v l : ℕ) → label_at (begin p) v ≡ some (pos l) → (v ≡ 0) × (l ≡ 0)
  begin-at zero l e = (refl, sym (ap (label_or 0) e))
  begin-at (suc v) l e = absurd (none-some (begin-lab v) e)

  pub good-begin : (π : ℕ → ℕ) → Potential p w x π → (K : ℕ) → Labelled p w x π K (begin p) (λ v. 0)
  good-begin π pot K = record {
    dist_length = ap suc (length-replicate (sink p) none) ∙ add-one' (sink p);
    pred_length = length-replicate (node_count p) 0;
    flag_length = ap suc (length-replicate (sink p) false) ∙ add-one' (sink p);
    source_zero = refl;
    nodes = λ v. kind v;
    flags = λ v e. flag v e;
    inside = λ v i. ins v i;
    small = λ v l e. let q = begin-at v l e in sm v l q;
  }
    where
      add-one' : (n : ℕ) → suc n ≡ 1 + n
      add-one' n = omega arith

      kind : (v : ℕ) → NodeLabel (node_count p) (residual_of p w x) (price_of p w x) π (label_at (begin p)) (pred_at (begin p)) (λ v. 0) v
      kind zero = root refl refl refl
      kind (suc v) = unseen (begin-lab v)

      flag : (v : ℕ) → get_or (true ∷ replicate (sink p) false) v false ≡ true → In v (0 ∷ [])
      flag zero e = here
      flag (suc v) e = absurd (clash (sym e ∙ get_d-same (sink p) v false))

      ins : (v : ℕ) → In v (0 ∷ []) → (v < node_count p) × ((l : ℕ) × (label_at (begin p) v ≡ some (pos l)))
      ins v here = (omega arith, (0, refl))
      ins v (there i) = absurd (in-nil i)

      sm : (v l : ℕ) → (v ≡ 0) × (l ≡ 0) → l + K ≤ reached_count p w x (begin p) * K
      sm v l q = omega (arith, mul-le-mul_right K (sum-term (node_count p) (λ z. bit (found (label_at (begin p) z))) 0 (omega arith)))

  pub searched-rests : (π : ℕ → ℕ) (pot : Potential p w x π) → AtRest p w x π pot (dearest p w) (dear p w) (searched p w x)
  unfolding searched search_fuel Settled
  searched-rests π pot = rests p w x π pot (dearest p w) (dear p w) inner reach
      (search_fuel p w) (0 ∷ []) (begin p) (λ v. 0) (good-begin π pot (dearest p w)) refl
      (omega (arith, sum_mono (node_count p) {f = λ z. label_or inf (label_at (begin p) z)} {g = λ z. inf} (λ z hz. bound z), sum-const (node_count p) inf))
      (λ a b ha hb r. start a b)
    where
      inf : ℕ
      inf = node_count p * dearest p w + 1

      bound : (z : ℕ) → label_or inf (label_at (begin p) z) ≤ inf
      bound zero = zero-le
      bound (suc z) = rw (begin-lab z) (le_refl _)

      start : (a b : ℕ) → Settled p w x (begin p) a b ⊎ In a (0 ∷ [])
      start zero b = inr here
      start (suc a) b = inl (λ l e. absurd (none-some (begin-lab a) e))
