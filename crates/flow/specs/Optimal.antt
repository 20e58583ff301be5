-- What the solver returns is a plan, and the least one; where it returns none there is none.
use Rattle.std.specs.Prelude.{Bool, false, List, map, ◌⊎◌, ◌≡◌, refl, ℕ, ◌+◌, ◌*◌, ◌≤◌, ◌<◌, min, pos}
use Rattle.std.proofs.Math.Bool.{true}
use Rattle.std.proofs.Common.{inl, inr, sym, ◌∙◌, arith, nltb→le}
use Rattle.std.proofs.Math.Option.{Option, none, some}
use Rattle.std.proofs.Math.Path.{ap}
use Rattle.std.proofs.Math.Decide.{dec_lt}
use Rattle.std.proofs.Math.Dec.{ltb, ltb→lt}
use Rattle.spec.specs.Bytes.{pick, sum_to, sum}
use Rattle.spec.specs.Meaning.{Plan, ◌⊑◌}
use Rattle.spec.specs.Transport.{forbidden, Problem, allowed, size_of, mass_of, largest, weight, rows_of, cols_of, cell_at, supply_at, demand_at, capacity, moved, row, column, sink, node_count, plan_size, plan_mass, residual, price, Search, searched, found, solve_cells}
use Rattle.laws.specs.Tests.{clash}
use Rattle.flow.specs.Augmentation.{row_sum, col_sum, cost_at, price-fwd, price-back, Partial}
use Rattle.flow.specs.Certificate.{Meets, Duals, optimal}
use Rattle.flow.specs.Cut.{Closed, stuck, find}
use Rattle.flow.specs.Lexicographic.{lexicographic}
use Rattle.flow.specs.Network.{row_flow-is, col_flow-is, plan_size-sum2, plan_mass-sum2, largest-ge, node_row, node-column, node-sink}
use Rattle.flow.specs.Search.{label_at, residual_of, status, Settled, AtRest}
use Rattle.flow.specs.SearchEnds.{dearest, dear, searched-rests}
use Rattle.flow.specs.Signed.{pos_part, neg_part}
use Rattle.flow.specs.Solver.{solved, Outcome, total_of, placed, full, halted, refused_at_once, ran}
use Rattle.flow.specs.Sums.{sum-cong, sum_mono, sum-swap, sum-term, sum-eq-of-le, list_sum-is}

-- ---- a full plan meets the margins
module _ (p : Problem) (w : ℕ) (y : List ℕ) (I : Partial p w y) (all : placed p w y ≡ total_of p w) (even : sum p.supply ≡ sum p.demand) where
  pub rows-met : (i : ℕ) → i < rows_of p → row_sum p y i ≡ supply_at p i
  rows-met = sum-eq-of-le (rows_of p) I.rows (omega (arith, all))

  pub cols-met : (j : ℕ) → j < cols_of p → col_sum p y j ≡ demand_at p j
  cols-met = sum-eq-of-le (cols_of p) I.cols (omega (arith, all, even, list_sum-is p.supply, list_sum-is p.demand, sum-swap (rows_of p) (cols_of p) (λ i j. moved p y i j)))

  pub met : Meets (rows_of p) (cols_of p) (supply_at p) (demand_at p) (λ i j. capacity p i j) (λ i j. moved p y i j)
  met = record { rows = rows-met; cols = cols-met; caps = I.caps }

  forbidden-0 : (i j : ℕ) → i < rows_of p → j < cols_of p → allowed (cell_at p i j) ≡ false → moved p y i j ≡ 0
  forbidden-0 i j hi hj e = let q : capacity p i j ≡ 0 = rw e refl in omega (arith, I.caps i j hi hj)

  pub plan : 0 < rows_of p → 0 < cols_of p → Plan p y
  plan r c = record {
    long = I.len;
    some_row = r;
    some_column = c;
    rows = λ i hi. row_flow-is p y i ∙ rows-met i hi;
    columns = λ j hj. col_flow-is p y j ∙ cols-met j hj;
    kept = forbidden-0;
  }

  duals : Duals (rows_of p) (cols_of p) (λ i j. cost_at p w i j) (λ i j. capacity p i j) (λ i j. moved p y i j) (λ i. I.π (1 + i)) (λ j. I.π (1 + rows_of p + j))
  unfolding residual
  duals = record {
    forward = λ i j hi hj h.
        let q = I.pot.slope (1 + i) (1 + rows_of p + j) (omega arith) (omega arith) (rw (node_row p i hi, node-column p j hj) (omega arith)) in
        let z : I.π (1 + rows_of p + j) + neg_part (price p w (row i) (column j)) ≤ I.π (1 + i) + pos_part (price p w (row i) (column j)) = rw (node_row p i hi, node-column p j hj) at q in
        omega (arith, z, price-fwd p w i j);
    back = λ i j hi hj h.
        let q = I.pot.slope (1 + rows_of p + j) (1 + i) (omega arith) (omega arith) (rw (node-column p j hj, node_row p i hi) h) in
        let z : I.π (1 + i) + neg_part (price p w (column j) (row i)) ≤ I.π (1 + rows_of p + j) + pos_part (price p w (column j) (row i)) = rw (node-column p j hj, node_row p i hi) at q in
        omega (arith, z, price-back p w i j);
  }

-- every plan of the page Meaning meets them too
pub plan-meets : (p : Problem) (y : List ℕ) → Plan p y → Meets (rows_of p) (cols_of p) (supply_at p) (demand_at p) (λ i j. capacity p i j) (λ i j. moved p y i j)
plan-meets p y Y = record { rows = rows; cols = cols; caps = λ i j hi hj. cap i j hi hj (allowed (cell_at p i j)) refl }
  where
    rows : (i : ℕ) → i < rows_of p → row_sum p y i ≡ supply_at p i
    rows i hi = sym (row_flow-is p y i) ∙ Y.rows i hi

    cols : (j : ℕ) → j < cols_of p → col_sum p y j ≡ demand_at p j
    cols j hj = sym (col_flow-is p y j) ∙ Y.columns j hj

    cap : (i j : ℕ) → i < rows_of p → j < cols_of p → (o : Bool) → allowed (cell_at p i j) ≡ o → moved p y i j ≤ pick o (min (supply_at p i) (demand_at p j)) 0
    cap i j hi hj true e = omega (arith, rows i hi, cols j hj, sum-term (cols_of p) (λ k. moved p y i k) j hj, sum-term (rows_of p) (λ k. moved p y k j) i hi)
    cap i j hi hj false e = omega (arith, Y.kept i j hi hj e)

some-eq : {x y : List ℕ} {o : Option (List ℕ)} → o ≡ some x → o ≡ some y → x ≡ y
some-eq {x = x} p q = ap (from x) (sym p ∙ q)
  where
    from : List ℕ → Option (List ℕ) → List ℕ
    from d none = d
    from d (some z) = z

none-some-plan : {x : List ℕ} {o : Option (List ℕ)} → o ≡ none → o ≡ some x → ⊥
none-some-plan p q = clash (ap has (sym q ∙ p))
  where
    has : Option (List ℕ) → Bool
    has none = false
    has (some z) = true

pub margins : (p : Problem) (x : List ℕ) → solve_cells p ≡ some x → Plan p x
margins p x e = go (solved p)
  where
    go : Outcome p (solve_cells p) → Plan p x
    go (refused_at_once f q) = absurd (none-some-plan q e)
    go (ran r c even (halted y I lt n q)) = absurd (none-some-plan q e)
    go (ran r c even (full y I s q)) = rw (some-eq e q) (plan p (weight p) y I s even r c)

weight_is : (p : Problem) → weight p ≡ sum_to (rows_of p) (supply_at p) * largest (map mass_of p.cells) + 1
unfolding weight
weight_is p = ap (λ (z : ℕ). z * largest (map mass_of p.cells) + 1) (list_sum-is p.supply)

pub least : (p : Problem) (x y : List ℕ) → solve_cells p ≡ some x → Plan p y → (plan_size x p.cells, plan_mass x p.cells) ⊑ (plan_size y p.cells, plan_mass y p.cells)
least p x y e Y = go (solved p)
  where
    by : (x' : List ℕ) → Partial p (weight p) x' → placed p (weight p) x' ≡ total_of p (weight p) → sum p.supply ≡ sum p.demand
        → (plan_size x' p.cells, plan_mass x' p.cells) ⊑ (plan_size y p.cells, plan_mass y p.cells)
    by x' I s even =
        let X = met p (weight p) x' I s even in
        let Y' = plan-meets p y Y in
        let best = optimal (rows_of p) (cols_of p) (supply_at p) (demand_at p) (λ i j. cost_at p (weight p) i j) (λ i j. capacity p i j) (λ i j. moved p x' i j) (λ i. I.π (1 + i)) (λ j. I.π (1 + rows_of p + j)) X (duals p (weight p) x' I s even) (λ i j. moved p y i j) Y' in
        rw (plan_size-sum2 p x' I.len, plan_mass-sum2 p x' I.len, plan_size-sum2 p y Y.long, plan_mass-sum2 p y Y.long)
        (lexicographic (rows_of p) (cols_of p) (supply_at p) (demand_at p) (λ i j. capacity p i j) (λ i j. size_of (cell_at p i j)) (λ i j. mass_of (cell_at p i j)) (largest (map mass_of p.cells))
        (λ i j hi hj. largest-ge mass_of p.cells (i * cols_of p + j) forbidden refl) (λ i j. moved p x' i j) (λ i j. moved p y i j) X Y' (rw (← weight_is p) best))

    go : Outcome p (solve_cells p) → (plan_size x p.cells, plan_mass x p.cells) ⊑ (plan_size y p.cells, plan_mass y p.cells)
    go (refused_at_once f q) = absurd (none-some-plan q e)
    go (ran r c even (halted x' I lt n q)) = absurd (none-some-plan q e)
    go (ran r c even (full x' I s q)) = rw (some-eq e q) (by x' I s even)

-- ---- no path: the nodes that were reached are a cut
module _ (p : Problem) (w : ℕ) (x : List ℕ) (I : Partial p w x) (lt : placed p w x < total_of p w) (out : label_at (searched p w x) (sink p) ≡ none) where
  abbrev s : Search
  s = searched p w x

  abbrev rest : AtRest p w x I.π I.pot (dearest p w) (dear p w) s
  rest = searched-rests p w x I.π I.pot

  -- what a node that was reached leads to was reached
  spread : (a b : ℕ) → a < node_count p → b < node_count p → 0 < residual_of p w x a b → found (label_at s a) ≡ true → found (label_at s b) ≡ true
  unfolding Settled
  spread a b ha hb r e = go (status p w x I.π I.pot (dearest p w) (dear p w) s rest.hops rest.good a)
    where
      go : (label_at s a ≡ none) ⊎ ((k : ℕ) × (label_at s a ≡ some (pos k)) × (I.π a ≤ k)) → found (label_at s b) ≡ true
      go (inl q) = absurd (clash (sym e ∙ ap found q))
      go (inr (k, q, z)) = let (l, y, t) = rest.ok a b ha hb r k q in ap found y

  closed : Closed (rows_of p) (cols_of p) (supply_at p) (demand_at p) (λ i j. capacity p i j) (λ i j. moved p x i j) (λ i. found (label_at s (1 + i))) (λ j. found (label_at s (1 + rows_of p + j)))
  unfolding residual
  closed = record {
    forward = λ i j hi hj e h. spread (1 + i) (1 + rows_of p + j) (omega arith) (omega arith) (rw (node_row p i hi, node-column p j hj) (omega arith)) e;
    back = λ i j hi hj e h. spread (1 + rows_of p + j) (1 + i) (omega arith) (omega arith) (rw (node-column p j hj, node_row p i hi) h) e;
    caps = I.caps;
    rows = I.rows;
    met = λ j hj e. at j hj e (dec_lt (col_sum p x j) (demand_at p j));
  }
    where
      at : (j : ℕ) → j < cols_of p → found (label_at s (1 + rows_of p + j)) ≡ true → Dec (col_sum p x j < demand_at p j) → col_sum p x j ≡ demand_at p j
      at j hj e (no h) = omega (arith, I.cols j hj)
      at j hj e (yes h) = absurd (clash (sym (spread (1 + rows_of p + j) (sink p) (omega arith) (omega arith) (rw (node-column p j hj, node-sink p) (omega (arith, col_flow-is p x j))) e) ∙ ap found out))

  pub no-plan : (y : List ℕ) → Plan p y → ⊥
  unfolding residual
  no-plan y Y = go (find (rows_of p) (λ i. ltb (row_sum p x i) (supply_at p i)))
    where
      less : (i : ℕ) → ltb (row_sum p x i) (supply_at p i) ≡ true → row_sum p x i < supply_at p i
      less i e = ltb→lt (row_sum p x i) (supply_at p i) (rw e tt)

      more : (i : ℕ) → ltb (row_sum p x i) (supply_at p i) ≡ false → supply_at p i ≤ row_sum p x i
      more i e = nltb→le (row_sum p x i) (supply_at p i) (rw e tt)

      go : ((i : ℕ) × (i < rows_of p) × (ltb (row_sum p x i) (supply_at p i) ≡ true)) ⊎ ((i : ℕ) → i < rows_of p → ltb (row_sum p x i) (supply_at p i) ≡ false) → ⊥
      go (inl (i, hi, e)) = stuck (rows_of p) (cols_of p) (supply_at p) (demand_at p) (λ i j. capacity p i j) (λ i j. moved p x i j) (λ i. found (label_at s (1 + i))) (λ j. found (label_at s (1 + rows_of p + j)))
          closed i hi (spread 0 (1 + i) (omega arith) (omega arith) (rw (node_row p i hi) (omega (arith, less i e, row_flow-is p x i))) (ap found rest.good.source_zero)) (less i e) (λ i j. moved p y i j) (plan-meets p y Y)
      go (inr f) = omega (arith, lt, sum_mono (rows_of p) {f = supply_at p} {g = row_sum p x} (λ i hi. more i (f i hi)))

pub refused16 : (p : Problem) → solve_cells p ≡ none → (y : List ℕ) → Plan p y → ⊥
refused16 p e y Y = go (solved p)
  where
    even : sum p.supply ≡ sum p.demand
    even = let M = plan-meets p y Y in
        omega (arith, list_sum-is p.supply, list_sum-is p.demand, sum-cong (rows_of p) M.rows, sum-cong (cols_of p) M.cols, sum-swap (rows_of p) (cols_of p) (λ i j. moved p y i j))

    go : Outcome p (solve_cells p) → ⊥
    go (refused_at_once f q) = f Y.some_row Y.some_column even
    go (ran r c ev (full x I s q)) = none-some-plan e q
    go (ran r c ev (halted x I lt n q)) = no-plan p (weight p) x I lt n y Y

-- "No plan is returned exactly where there is none": the other half
pub refused-only : (p : Problem) → ((y : List ℕ) → Plan p y → ⊥) → solve_cells p ≡ none
refused-only p f = go (solve_cells p) refl
  where
    go : (o : Option (List ℕ)) → solve_cells p ≡ o → o ≡ none
    go none e = refl
    go (some x) e = absurd (f x (margins p x e))
