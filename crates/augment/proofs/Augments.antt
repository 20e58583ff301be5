-- One augmentation on words is the definition's: the path, the least that is left on it, and the plan with the units sent.
use mathlib.Core.Path.{◌≡◌, refl, sym, ap, ◌∙◌}
use mathlib.Core.Logic.{◌≢◌, ◌⊎◌, inl, inr}
use mathlib.Core.Bool.{Bool, true, false}
use mathlib.Core.List.{List, [], ◌∷◌}
use mathlib.Core.Option.{Option, none, some}
use Prim.Native.Nat.{ℕ, zero, suc, ◌+◌, ◌-◌, ◌*◌, ◌^◌, ◌≤◌, ◌<◌, min}
use native.Mathlib.Decide.{ℕ_discrete}
use native.Mathlib.Omega.{arith}
use borrow.Author.Tests.{ne_eqb}
use lib.IntN.{ℤ, pos}
use lib.Arith.{digits_lt}
use lib.ListN.{length, get_or, set, length-set}
use lib.Seq.{get_or-set_same, get_or-set_other}
use Rattle.spec.specs.Bytes.{pick, Two}
use Rattle.spec.specs.Transport.{Problem, weight, rows_of, cols_of, node_count, sink, vertex_of, source, row, column, target, residual, capacity, moved, row_flow, col_flow, supply_at, demand_at, allowed, cell_at, searched, found, walk_back, bottleneck, shift, push}
use Rattle.laws.specs.Tests.{clash}
use Rattle.flow.specs.Sums.{sum-cong}
use Rattle.flow.specs.Network.{NodeIs, is_source, is_row, is_column, is_sink, view, node_row, node-column, node-sink, row_flow-is, col_flow-is}
use Rattle.flow.specs.Search.{label_at, pred_at, residual_of, AtRest, none-some, status}
use Rattle.flow.specs.SearchEnds.{dearest, dear, searched-rests}
use Rattle.flow.specs.AugmentingPath.{TightPath, end, step, next, before, hops-lt, path, bottleneck-le}
use Rattle.flow.specs.Augmentation.{Partial}
use Rattle.flow.specs.Magnitude.{Small}
use Rattle.flow.specs.Solver.{path_of, least_left, one-path}
use Rattle.search_laws.specs.Holds.{NetHolds, FlowHolds, MarginsHold, Ready, Found}
use Rattle.augment.specs.Sending.{Midway, Sent, stuck, along}
use Rattle.search_laws.specs.Walk.{walk_net, Leads, arrived, onward, LAST}
use Rattle.search_laws.specs.Fits.{few}
use Rattle.net.specs.Net.{pred_of, NODES}
use Rattle.cost_matrix.specs.Matrix.{CostsHold}
use Rattle.cost_matrix.specs.Places.{place_of}
use Rattle.search_laws.specs.Path.{Step, Steps, no_step, and_step, left_on, least_on, sent_on, sent}
use Rattle.augment.specs.Balance.{Low, Balanced, row_sum, column_sum}
use Rattle.search_laws.specs.PathLaws.{left-source, left-row, left-sink, left_back, sent-source, sent-row, sent-sink, sent_back}

-- ---- the four kinds of steps on a path
pub data Kind (p : Problem) (a b : ℕ) : Type 0 where
  source_row : (i : ℕ) → i < rows_of p → a ≡ 0 → b ≡ 1 + i → Kind p a b
  row_column : (i j : ℕ) → i < rows_of p → j < cols_of p → a ≡ 1 + i → b ≡ 1 + rows_of p + j → Kind p a b
  column_row : (i j : ℕ) → i < rows_of p → j < cols_of p → a ≡ 1 + rows_of p + j → b ≡ 1 + i → Kind p a b
  column_sink : (j : ℕ) → j < cols_of p → a ≡ 1 + rows_of p + j → b ≡ sink p → Kind p a b

pub kind-of : (p : Problem) (x : List ℕ) (a b : ℕ) → a < node_count p → b < node_count p → b ≢ 0 → a ≢ sink p → 0 < residual_of p (weight p) x a b → Kind p a b
unfolding residual
kind-of p x a b ha hb b0 at r = go (view p a ha) (view p b hb)
  where
    go : NodeIs p a → NodeIs p b → Kind p a b
    go (is_source ea na) (is_row i hi eb nb) = source_row i hi ea eb
    go (is_row i hi ea na) (is_column j hj eb nb) = row_column i j hi hj ea eb
    go (is_column j hj ea na) (is_row i hi eb nb) = column_row i j hi hj ea eb
    go (is_column j hj ea na) (is_sink eb nb) = column_sink j hj ea eb
    go (is_source ea na) (is_source eb nb) = absurd (b0 eb)
    go (is_source ea na) (is_column j hj eb nb) = let z : 0 < residual p x source (column j) = rw (na, nb) at r in absurd (omega arith)
    go (is_source ea na) (is_sink eb nb) = let z : 0 < residual p x source target = rw (na, nb) at r in absurd (omega arith)
    go (is_row i hi ea na) (is_source eb nb) = absurd (b0 eb)
    go (is_row i hi ea na) (is_row k hk eb nb) = let z : 0 < residual p x (row i) (row k) = rw (na, nb) at r in absurd (omega arith)
    go (is_row i hi ea na) (is_sink eb nb) = let z : 0 < residual p x (row i) target = rw (na, nb) at r in absurd (omega arith)
    go (is_column j hj ea na) (is_source eb nb) = absurd (b0 eb)
    go (is_column j hj ea na) (is_column k hk eb nb) = let z : 0 < residual p x (column j) (column k) = rw (na, nb) at r in absurd (omega arith)
    go (is_sink ea na) n = absurd (at ea)

pub step_of : (p : Problem) (a b : ℕ) → Kind p a b → Step (rows_of p) (cols_of p) a b
step_of p a b (source_row i hi ea eb) = record { from_source = λ e. (omega arith, omega arith); from_row = λ e f. absurd (omega arith); from_column = λ e. absurd (omega arith); to_row = λ e f. absurd (omega arith) }
step_of p a b (row_column i j hi hj ea eb) = record { from_source = λ e. absurd (omega arith); from_row = λ e f. (omega arith, omega arith); from_column = λ e. absurd (omega arith); to_row = λ e f. absurd (omega arith) }
step_of p a b (column_row i j hi hj ea eb) = record { from_source = λ e. absurd (omega arith); from_row = λ e f. absurd (omega arith); from_column = λ e. omega arith; to_row = λ e f. (omega arith, omega arith) }
step_of p a b (column_sink j hj ea eb) = record { from_source = λ e. absurd (omega arith); from_row = λ e f. absurd (omega arith); from_column = λ e. omega arith; to_row = λ e f. absurd (f (omega arith)) }

-- ---- what is left on a step
module _ (p : Problem) (x g f y : List ℕ) (H : CostsHold p g) (F : FlowHolds p x f) (M : MarginsHold p x y) where
  left_is : (a b : ℕ) → Kind p a b → left_on g f y (rows_of p) (cols_of p) a b ≡ residual_of p (weight p) x a b
  unfolding residual
  left_is a b (source_row i hi ea eb) =
      let q : 1 + i - 1 ≡ i = omega arith in
      rw (ea, eb) (sym (left-source g f y (rows_of p) (cols_of p) 0 (1 + i) refl) ∙ rw (node_row p i hi, q) (M.supplies i hi))
  left_is a b (row_column i j hi hj ea eb) =
      let q : 1 + i - 1 ≡ i = omega arith in
      let t : 1 + rows_of p + j - 1 - rows_of p ≡ j = omega arith in
      rw (ea, eb) (sym (left-row g f y (rows_of p) (cols_of p) (1 + i) (1 + rows_of p + j) (λ z. absurd (omega arith)) (omega arith))
      ∙ rw (node_row p i hi, node-column p j hj, q, t, H.caps i j hi hj, F (i * cols_of p + j) (digits_lt hi hj)) refl)
  left_is a b (column_row i j hi hj ea eb) =
      let q : 1 + i - 1 ≡ i = omega arith in
      let t : 1 + rows_of p + j - 1 - rows_of p ≡ j = omega arith in
      rw (ea, eb) (sym (left_back g f y (rows_of p) (cols_of p) (1 + rows_of p + j) (1 + i) (λ z. absurd (omega arith)) (omega arith) (λ z. absurd (omega arith)))
      ∙ rw (node_row p i hi, node-column p j hj, q, t) (F (i * cols_of p + j) (digits_lt hi hj)))
  left_is a b (column_sink j hj ea eb) =
      let t : 1 + rows_of p + j - 1 - rows_of p ≡ j = omega arith in
      rw (ea, eb) (sym (left-sink g f y (rows_of p) (cols_of p) (1 + rows_of p + j) (sink p) (λ z. absurd (omega arith)) (omega arith) refl)
      ∙ rw (node-column p j hj, node-sink p, t) (M.demands j hj))

  pub steps_of : (π h : ℕ → ℕ) (a : ℕ) (l : List Two) → TightPath p (weight p) x π h a l → Steps (rows_of p) (cols_of p) l
  steps_of π h a [] (end e) = no_step
  steps_of π h a (s ∷ l) (step b ha hb b0 nt up r t c) = and_step {s = s} (step_of p a b (kind-of p x a b ha hb b0 nt r)) (steps_of π h b l c)

  pub least-is : (π h : ℕ → ℕ) (a : ℕ) (l : List Two) → TightPath p (weight p) x π h a l → (m : ℕ) → least_on g f y (rows_of p) (cols_of p) m l ≡ bottleneck p x m l
  unfolding least_on bottleneck
  least-is π h a [] (end e) m = refl
  least-is π h a (s ∷ l) (step b ha hb b0 nt up r t c) m =
      let q = left_is a b (kind-of p x a b ha hb b0 nt r) in
      ap (λ (z : ℕ). least_on g f y (rows_of p) (cols_of p) (min m z) l) q ∙ least-is π h b l c (min m (residual_of p (weight p) x a b))

-- ---- the units sent
set_holds : (p : Problem) (x f : List ℕ) → length x ≡ rows_of p * cols_of p → rows_of p * cols_of p ≤ length f → FlowHolds p x f → (k v : ℕ) → k < rows_of p * cols_of p → FlowHolds p (set x k v) (set f k v)
set_holds p x f lx lf F k v hk z hz = go (ℕ_discrete z k)
  where
    go : Dec (z ≡ k) → get_or (set f k v) z 0 ≡ get_or (set x k v) z 0
    go (yes e) = rw e (get_or-set_same f k v 0 (omega arith) ∙ sym (get_or-set_same x k v 0 (omega arith)))
    go (no e) = get_or-set_other f k z v 0 e ∙ F z hz ∙ sym (get_or-set_other x k z v 0 e)

module _ (p : Problem) (δ : ℕ) where
  pub record Both (x f : List ℕ) : Type 0 where
    pub long : length x ≡ rows_of p * cols_of p
    pub room : rows_of p * cols_of p ≤ length f
    pub holds : FlowHolds p x f

  set_both : (x f : List ℕ) → Both x f → (k v : ℕ) → k < rows_of p * cols_of p → Both (set x k v) (set f k v)
  set_both x f B k v hk = record { long = length-set x k v ∙ B.long; room = rw (length-set f k v) B.room; holds = set_holds p x f B.long B.room B.holds k v hk }

  shift-both : (a b : ℕ) → Kind p a b → (x f : List ℕ) → Both x f → Both (shift p δ (vertex_of p a) (vertex_of p b) x) (sent_on (rows_of p) (cols_of p) δ a b f)
  unfolding shift
  shift-both a b (source_row i hi ea eb) x f B = rw (ea, ← sent-source (rows_of p) (cols_of p) δ 0 b f refl) B
  shift-both a b (row_column i j hi hj ea eb) x f B =
      let q : 1 + i - 1 ≡ i = omega arith in
      let t : 1 + rows_of p + j - 1 - rows_of p ≡ j = omega arith in
      let w : set f (i * cols_of p + j) (get_or f (i * cols_of p + j) 0 + δ) ≡ sent_on (rows_of p) (cols_of p) δ (1 + i) (1 + rows_of p + j) f
      = rw (q, t) at (sent-row (rows_of p) (cols_of p) δ (1 + i) (1 + rows_of p + j) f (λ z. absurd (omega arith)) (omega arith)) in
      rw (ea, eb, node_row p i hi, node-column p j hj, ← w, B.holds (i * cols_of p + j) (digits_lt hi hj)) (set_both x f B (i * cols_of p + j) (moved p x i j + δ) (digits_lt hi hj))
  shift-both a b (column_row i j hi hj ea eb) x f B =
      let q : 1 + i - 1 ≡ i = omega arith in
      let t : 1 + rows_of p + j - 1 - rows_of p ≡ j = omega arith in
      let w : set f (i * cols_of p + j) (get_or f (i * cols_of p + j) 0 - δ) ≡ sent_on (rows_of p) (cols_of p) δ (1 + rows_of p + j) (1 + i) f
      = rw (q, t) at (sent_back (rows_of p) (cols_of p) δ (1 + rows_of p + j) (1 + i) f (λ z. absurd (omega arith)) (omega arith) (λ z. absurd (omega arith))) in
      rw (ea, eb, node_row p i hi, node-column p j hj, ← w, B.holds (i * cols_of p + j) (digits_lt hi hj)) (set_both x f B (i * cols_of p + j) (moved p x i j - δ) (digits_lt hi hj))
  shift-both a b (column_sink j hj ea eb) x f B =
      rw (ea, eb, node-column p j hj, node-sink p, ← sent-sink (rows_of p) (cols_of p) δ (1 + rows_of p + j) (sink p) f (λ z. absurd (omega arith)) (omega arith) refl) B

  pub push-both : (x₀ : List ℕ) (π h : ℕ → ℕ) (a : ℕ) (l : List Two) → TightPath p (weight p) x₀ π h a l → (x f : List ℕ) → Both x f → Both (push p δ l x) (sent (rows_of p) (cols_of p) δ l f)
  unfolding push sent
  push-both x₀ π h a [] (end e) x f B = B
  push-both x₀ π h a (s ∷ l) (step b ha hb b0 nt up r t c) x f B =
      push-both x₀ π h b l c (shift p δ (vertex_of p a) (vertex_of p b) x) (sent_on (rows_of p) (cols_of p) δ a b f) (shift-both a b (kind-of p x₀ a b ha hb b0 nt r) x f B)

-- ---- the walk back
module _ (p : Problem) (few' : node_count p ≤ NODES) (x : List ℕ) (I : Partial p (weight p) x) (m : List ℕ) (N : NetHolds p (searched p (weight p) x) m) where
  abbrev rest : AtRest p (weight p) x I.π I.pot (dearest p (weight p)) (dear p (weight p)) (searched p (weight p) x)
  rest = searched-rests p (weight p) x I.π I.pot

  pred-is : (v k : ℕ) → v < node_count p → label_at (searched p (weight p) x) v ≡ some (pos k) → pred_of m v ≡ pred_at (searched p (weight p) x) v
  pred-is v k hv L = N.pred v hv (λ e. none-some (N.unseen v hv e) L)

  leads-by : (n v k : ℕ) → v < node_count p → label_at (searched p (weight p) x) v ≡ some (pos k) → rest.hops v ≤ n → Leads m n v
  leads-by zero v k hv L b = go (ℕ_discrete v 0)
    where
      go : Dec (v ≡ 0) → Leads m zero v
      go (yes e) = arrived e
      go (no e) = let D = before p (weight p) x I.π I.pot (searched p (weight p) x) rest v k hv e L in absurd (omega (arith, D.up))
  leads-by (suc n) v k hv L b = go (ℕ_discrete v 0) (λ v' k' hv' L' b'. leads-by n v' k' hv' L' b')
    where
      go : Dec (v ≡ 0) → ((v' k' : ℕ) → v' < node_count p → label_at (searched p (weight p) x) v' ≡ some (pos k') → rest.hops v' ≤ n → Leads m n v') → Leads m (suc n) v
      go (yes e) ih = arrived e
      go (no e) ih =
          let D = before p (weight p) x I.π I.pot (searched p (weight p) x) rest v k hv e L in
          let (l, q) = D.seen in
          onward {n = n} e (omega arith) (rw (pred-is v k hv L) (ih (pred_at (searched p (weight p) x) v) l D.inn q (omega (arith, D.up))))

  walk-by : (n f v k : ℕ) (acc : List Two) → v < node_count p → label_at (searched p (weight p) x) v ≡ some (pos k) → rest.hops v ≤ n → rest.hops v < f
      → walk_net m n v acc ≡ walk_back f (searched p (weight p) x).pred v acc
  unfolding walk_net walk_back
  walk-by n zero v k acc hv L a b = absurd (omega arith)
  walk-by zero (suc f) zero k acc hv L a b = refl
  walk-by (suc n) (suc f) zero k acc hv L a b = refl
  walk-by zero (suc f) (suc v) k acc hv L a b =
      let D = before p (weight p) x I.π I.pot (searched p (weight p) x) rest (suc v) k hv (omega arith) L in absurd (omega (arith, D.up))
  walk-by (suc n) (suc f) (suc v) k acc hv L a b =
      let D = before p (weight p) x I.π I.pot (searched p (weight p) x) rest (suc v) k hv (omega arith) L in
      let (l, q) = D.seen in
      rw (ne_eqb (suc v) 0 (omega arith), pred-is (suc v) k hv L) (walk-by n f (pred_at (searched p (weight p) x) (suc v)) l ((pred_at (searched p (weight p) x) (suc v), suc v) ∷ acc) D.inn q (omega (arith, D.up)) (omega (arith, D.up)))

  module _ (k : ℕ) (L : label_at (searched p (weight p) x) (sink p) ≡ some (pos k)) where
    hops-sink : rest.hops (sink p) < node_count p
    hops-sink = hops-lt p (weight p) x I.π I.pot (searched p (weight p) x) rest (sink p) k (omega arith) L

    pub sink-leads : Leads m LAST (sink p)
    sink-leads = leads-by LAST (sink p) k (omega arith) L (omega (arith, hops-sink))

    pub walk_is : walk_net m LAST (sink p) [] ≡ path_of p (weight p) x
    walk_is = walk-by LAST (node_count p) (sink p) k [] (omega arith) L (omega (arith, hops-sink)) hops-sink

    pub tight : TightPath p (weight p) x (next p (weight p) x I.π I.pot (searched p (weight p) x) rest) rest.hops 0 (path_of p (weight p) x)
    tight = path p (weight p) x I.π I.pot (searched p (weight p) x) rest k L

-- ---- a plan so far: its cells are 32-bit numbers, and what is left at its margins
module _ (p : Problem) (S : Small p) (x f : List ℕ) (I : Partial p (weight p) x) (F : FlowHolds p x f) where
  cap-low : (i j : ℕ) → capacity p i j ≤ supply_at p i
  cap-low i j = go (allowed (cell_at p i j))
    where
      go : (b : Bool) → pick b (min (supply_at p i) (demand_at p j)) 0 ≤ supply_at p i
      go true = omega arith
      go false = omega arith

  pub low-cells : rows_of p * cols_of p ≤ length f → Low (rows_of p) (cols_of p) f
  low-cells h = record { room = h; low = λ k hk. cell k hk (place_of (rows_of p) (cols_of p) k hk) }
    where
      cell : (k : ℕ) → k < rows_of p * cols_of p → (i : ℕ) × (j : ℕ) × (i < rows_of p) × (j < cols_of p) × (k ≡ i * cols_of p + j) → get_or f k 0 < 2 ^ 32
      cell k hk (i, j, hi, hj, e) = rw (F k hk, e) (omega (arith, I.caps i j hi hj, cap-low i j, S.supplies i))

  pub margins-hold : (y : List ℕ) → Balanced (rows_of p) (cols_of p) p.supply p.demand f y → MarginsHold p x y
  margins-hold y B = record {
    supplies = λ i hi. B.supplies i hi ∙ ap (λ (z : ℕ). supply_at p i - z) (rows i hi);
    demands = λ j hj. B.demands j hj ∙ ap (λ (z : ℕ). demand_at p j - z) (cols j hj);
    taken = λ j hj. B.taken j hj ∙ cols j hj;
  }
    where
      rows : (i : ℕ) → i < rows_of p → row_sum f (cols_of p) i ≡ row_flow p x i
      rows i hi = sum-cong (cols_of p) {f = λ j. get_or f (i * cols_of p + j * 1) 0} {g = λ j. moved p x i j} (λ j hj. one j hj) ∙ sym (row_flow-is p x i)
        where
          one : (j : ℕ) → j < cols_of p → get_or f (i * cols_of p + j * 1) 0 ≡ moved p x i j
          one j hj = let e : j * 1 ≡ j = omega arith in rw e (F (i * cols_of p + j) (digits_lt hi hj))

      cols : (j : ℕ) → j < cols_of p → column_sum f (rows_of p) (cols_of p) j ≡ col_flow p x j
      cols j hj = sum-cong (rows_of p) {f = λ i. get_or f (j + i * cols_of p) 0} {g = λ i. moved p x i j} (λ i hi. one i hi) ∙ sym (col_flow-is p x j)
        where
          one : (i : ℕ) → i < rows_of p → get_or f (j + i * cols_of p) 0 ≡ moved p x i j
          one i hi = let e : j + i * cols_of p ≡ i * cols_of p + j = omega arith in rw e (F (i * cols_of p + j) (digits_lt hi hj))

steps-cast : {r r' c c' : ℕ} {l : List Two} → r ≡ r' → c ≡ c' → Steps r c l → Steps r' c' l
steps-cast e f S = rw (e, f) at S

module _ {r c : ℕ} {supply demand g f : List ℕ} (M : Midway r c supply demand g f) where
  pub low_of : r * c ≤ length f → Low r c f
  low_of h = rw (M.rows, M.cols) at (low-cells M.p M.small M.x f M.partly M.flow (rw (M.rows, M.cols) h))

  abbrev pub ready_of : (y : List ℕ) → Balanced r c supply demand f y → Ready r c g f y
  ready_of y B = record {
    p = M.p;
    x = M.x;
    rows = M.rows;
    cols = M.cols;
    small = M.small;
    partly = M.partly;
    costs = M.costs;
    flow = M.flow;
    margins = margins-hold M.p M.small M.x f M.partly M.flow y (rw (← M.rows, ← M.cols, ← M.supply_is, ← M.demand_is) at B);
  }

  few-of : node_count M.p ≤ NODES
  few-of = few M.p M.small M.x M.partly

  -- the search did not reach the sink
  pub not-sent : (y : List ℕ) (B : Balanced r c supply demand f y) (m : List ℕ) (rest : ℕ) (f' : List ℕ) → Found (ready_of y B) m false → Sent M rest 0 f'
  not-sent y B m rest f' W = stuck refl (go (label_at (searched M.p (weight M.p) M.x) (sink M.p)) refl)
    where
      go : (o : Option ℤ) → label_at (searched M.p (weight M.p) M.x) (sink M.p) ≡ o → o ≡ none
      go none e = refl
      go (some z) e = absurd (clash (sym (W.is ∙ ap found e)))

  -- it did: what the walk back, the bottleneck and the units sent ask for and give
  pub record Way (y m : List ℕ) : Type 0 where
    pub k : ℕ
    pub label : label_at (searched M.p (weight M.p) M.x) (sink M.p) ≡ some (pos k)
    pub leads : Leads m LAST (1 + r + c)
    pub walk : walk_net m LAST (1 + r + c) [] ≡ path_of M.p (weight M.p) M.x
    pub steps : Steps r c (path_of M.p (weight M.p) M.x)
    pub least : (rest : ℕ) → least_on g f y r c rest (path_of M.p (weight M.p) M.x) ≡ least_left M.p (weight M.p) rest M.x
    pub sends : r * c ≤ length f → (δ : ℕ) → FlowHolds M.p (push M.p δ (path_of M.p (weight M.p) M.x) M.x) (sent r c δ (path_of M.p (weight M.p) M.x) f)

  pub way : (y : List ℕ) (B : Balanced r c supply demand f y) (m : List ℕ) → Found (ready_of y B) m true → Way y m
  way y B m W = go (status M.p (weight M.p) M.x M.partly.π M.partly.pot (dearest M.p (weight M.p)) (dear M.p (weight M.p)) (searched M.p (weight M.p) M.x) at_rest.hops at_rest.good (sink M.p))
    where
      at_rest : AtRest M.p (weight M.p) M.x M.partly.π M.partly.pot (dearest M.p (weight M.p)) (dear M.p (weight M.p)) (searched M.p (weight M.p) M.x)
      at_rest = searched-rests M.p (weight M.p) M.x M.partly.π M.partly.pot

      R : Ready r c g f y
      R = ready_of y B

      go : (label_at (searched M.p (weight M.p) M.x) (sink M.p) ≡ none) ⊎ ((k : ℕ) × (label_at (searched M.p (weight M.p) M.x) (sink M.p) ≡ some (pos k)) × (M.partly.π (sink M.p) ≤ k)) → Way y m
      go (inl e) = absurd (clash (W.is ∙ ap found e))
      go (inr (k, e, _)) =
          let t = tight M.p few-of M.x M.partly m W.net k e in
          let π' = next M.p (weight M.p) M.x M.partly.π M.partly.pot (searched M.p (weight M.p) M.x) at_rest in
          record {
            k = k;
            label = e;
            leads = rw (M.rows, M.cols) at (sink-leads M.p few-of M.x M.partly m W.net k e);
            walk = (λ i. walk_net m LAST (1 + sym M.rows i + sym M.cols i) []) ∙ (walk_is M.p few-of M.x M.partly m W.net k e);
            steps = steps-cast M.rows M.cols (steps_of M.p M.x g f y M.costs M.flow R.margins π' at_rest.hops 0 (path_of M.p (weight M.p) M.x) t);
            least = λ rest. (λ i. least_on g f y (sym M.rows i) (sym M.cols i) rest (path_of M.p (weight M.p) M.x)) ∙ least-is M.p M.x g f y M.costs M.flow R.margins π' at_rest.hops 0 (path_of M.p (weight M.p) M.x) t rest;
            sends = λ h δ.
                let q : sent r c δ (path_of M.p (weight M.p) M.x) f ≡ sent (rows_of M.p) (cols_of M.p) δ (path_of M.p (weight M.p) M.x) f = λ i. sent (sym M.rows i) (sym M.cols i) δ (path_of M.p (weight M.p) M.x) f in
                rw q (push-both M.p δ M.x π' at_rest.hops 0 (path_of M.p (weight M.p) M.x) t M.x f
                (record { long = M.partly.len; room = rw (M.rows, M.cols) h; holds = M.flow })).holds;
          }

  -- the bottleneck is at most what is left, and the units find room in every cell
  pub units-fit : (y m : List ℕ) → Way y m → (rest n : ℕ) (l : List Two) → rest < 2 ^ 39 → l ≡ walk_net m LAST (1 + r + c) [] → n ≡ least_on g f y r c rest l → r * c ≤ length f → (k : ℕ) → k < r * c → get_or f k 0 + LAST * n < 2 ^ 64
  units-fit y m W rest n l h e q b k hk =
      let t : n ≡ least_left M.p (weight M.p) rest M.x = q ∙ ap (least_on g f y r c rest) (e ∙ W.walk) ∙ W.least rest in
      omega (arith, t, bottleneck-le M.p (weight M.p) M.x rest (path_of M.p (weight M.p) M.x), (low_of b).low k hk)

  pub path-steps : (y m : List ℕ) → Way y m → (l : List Two) → l ≡ walk_net m LAST (1 + r + c) [] → Steps r c l
  path-steps y m W l e = rw (e ∙ W.walk) W.steps

  pub sent-along : (y m : List ℕ) → Way y m → (rest n : ℕ) (l : List Two) (f' : List ℕ) → l ≡ walk_net m LAST (1 + r + c) [] → n ≡ least_on g f y r c rest l → f' ≡ sent r c n l f → r * c ≤ length f → Sent M rest n f'
  sent-along y m W rest n l f' e q s b =
      along W.k W.label (q ∙ ap (least_on g f y r c rest) (e ∙ W.walk) ∙ W.least rest)
      (rw (s ∙ ap (λ (o : List Two). sent r c n o f) (e ∙ W.walk)) (W.sends b n))

  -- how much one augmentation moves
  pub moves : (rest k : ℕ) → 0 < rest → label_at (searched M.p (weight M.p) M.x) (sink M.p) ≡ some (pos k) → (0 < least_left M.p (weight M.p) rest M.x) × (least_left M.p (weight M.p) rest M.x ≤ rest)
  moves rest k h e = let (a, b, d, d') = one-path M.p (weight M.p) rest M.x k h M.partly e in (d, d')
