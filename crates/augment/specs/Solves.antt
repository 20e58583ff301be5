-- A problem in place for the solver, and what the solver leaves is the definition's plan.
use Rattle.std.specs.Prelude.{◌≡◌, Bool, true, false, not, List, ◌++◌, ℕ, ◌*◌, ◌≤◌, ◌<◌, eqb, get_or, take, drop, replicate}
use Rattle.std.proofs.Math.Path.{refl, sym, ap}
use Rattle.std.proofs.Common.{◌∙◌, zero-mul, mul-zero, arith, eq-eqb, ne_eqb, take-append-drop, get_or-take, ext_get_or, take_at, drop_at}
use Rattle.std.proofs.Math.Option.{Option, none, some}
use Rattle.std.proofs.Math.ListN.{length}
use Rattle.std.proofs.lemmas.List.{length-replicate}
use Rattle.std.proofs.Math.Seq.{length-take-le}
use Rattle.spec.specs.Bytes.{either, sum}
use Rattle.spec.specs.Transport.{Problem, weight, rows_of, cols_of, augment, solve_cells, WIDEST}
use Rattle.laws.specs.Tests.{clash}
use Rattle.laws.specs.Buffers.{over}
use Rattle.flow.specs.SearchEnds.{get_d-same}
use Rattle.flow.specs.Solver.{empty}
use Rattle.cost_matrix.specs.Matrix.{Given, Laid}
use Rattle.augment.specs.Sending.{Start, Answered, no_plan, plan}
use Rattle.augment.specs.Solved.{PlanIn, is_plan, Emptied, plan_or0, flow_after, Solves}

-- ---- a buffer that begins with a list
begins : (n : ℕ) (x f y : List ℕ) → length x ≡ n → take n y ≡ x → drop n y ≡ drop n f → y ≡ over x f
begins n x f y l t d = sym (take-append-drop n y) ∙ (λ i. t i ++ d i) ∙ ap (λ (k : ℕ). x ++ drop k f) (sym l)

zeros : (n : ℕ) (y f : List ℕ) → drop n y ≡ drop n f → over (replicate n 0) y ≡ over (replicate n 0) f
zeros n y f d = rw (length-replicate {A = ℕ} n 0) (ap (λ (l : List ℕ). replicate n 0 ++ l) d)

pub over-emptied : (f f' : List ℕ) (n : ℕ) → f' ≡ over (replicate n 0) f → Emptied f' n
over-emptied f f' n e k hk = rw e (sym (get_or-take n (over (replicate n 0) f) k 0 hk) ∙ ap (λ (l : List ℕ). get_or l k 0) (take_at (replicate n 0) (drop (length (replicate n 0)) f) n (length-replicate {A = ℕ} n 0)) ∙ get_d-same n k 0)

over-rest : (f f' : List ℕ) (n : ℕ) → f' ≡ over (replicate n 0) f → drop n f' ≡ drop n f
over-rest f f' n e = ap (λ (l : List ℕ). drop n l) e ∙ drop_at (replicate n 0) (drop (length (replicate n 0)) f) n (length-replicate {A = ℕ} n 0) ∙ ap (λ (k : ℕ). drop k f) (length-replicate {A = ℕ} n 0)

-- ---- the definition's cases
by-no-row : (a b c : Bool) (o : Option (List ℕ)) → a ≡ true → ◌≡◌ {A = Option (List ℕ)} (elim (either a (either b (not c))) [ true ↦ none | false ↦ o ]) none
by-no-row a b c o e = rw e refl

by-no-column : (a b c : Bool) (o : Option (List ℕ)) → b ≡ true → ◌≡◌ {A = Option (List ℕ)} (elim (either a (either b (not c))) [ true ↦ none | false ↦ o ]) none
by-no-column true b c o e = refl
by-no-column false b c o e = rw e refl

by-uneven : (a b c : Bool) (o : Option (List ℕ)) → c ≡ false → ◌≡◌ {A = Option (List ℕ)} (elim (either a (either b (not c))) [ true ↦ none | false ↦ o ]) none
by-uneven true b c o e = refl
by-uneven false true c o e = refl
by-uneven false false c o e = rw e refl

by-even : (a b c : Bool) (o : Option (List ℕ)) → a ≡ false → b ≡ false → c ≡ true → ◌≡◌ {A = Option (List ℕ)} (elim (either a (either b (not c))) [ true ↦ none | false ↦ o ]) o
by-even a b c o e f g = rw (e, f, g) refl

module _ (p : Problem) where
  abbrev answer : Option (List ℕ)
  answer = augment (sum p.supply) p (weight p) (sum p.supply) (replicate (rows_of p * cols_of p) 0)

  no_row : rows_of p ≡ 0 → solve_cells p ≡ none
  unfolding solve_cells
  no_row e = by-no-row (eqb (rows_of p) 0) (eqb (cols_of p) 0) (eqb (sum p.supply) (sum p.demand)) answer (eq-eqb (rows_of p) 0 e)

  no-column : cols_of p ≡ 0 → solve_cells p ≡ none
  unfolding solve_cells
  no-column e = by-no-column (eqb (rows_of p) 0) (eqb (cols_of p) 0) (eqb (sum p.supply) (sum p.demand)) answer (eq-eqb (cols_of p) 0 e)

  uneven : (sum p.supply ≡ sum p.demand → ⊥) → solve_cells p ≡ none
  unfolding solve_cells
  uneven e = by-uneven (eqb (rows_of p) 0) (eqb (cols_of p) 0) (eqb (sum p.supply) (sum p.demand)) answer (ne_eqb (sum p.supply) (sum p.demand) e)

  even : 0 < rows_of p → 0 < cols_of p → sum p.supply ≡ sum p.demand → solve_cells p ≡ answer
  unfolding solve_cells
  even a b e = by-even (eqb (rows_of p) 0) (eqb (cols_of p) 0) (eqb (sum p.supply) (sum p.demand)) answer (ne_eqb (rows_of p) 0 (λ z. absurd (omega arith))) (ne_eqb (cols_of p) 0 (λ z. absurd (omega arith))) (eq-eqb (sum p.supply) (sum p.demand) e)

  none_in : (f : List ℕ) → solve_cells p ≡ none → PlanIn p false f
  none_in f e = record { is = sym (ap is_plan e); plan = λ x q. absurd (clash (ap is_plan (sym q ∙ e))) }

  -- ---- the plan's buffer: what stands behind the cells is as it was
  none-solves : (f f' y : List ℕ) → solve_cells p ≡ none → f' ≡ over (replicate (rows_of p * cols_of p) 0) y → drop (rows_of p * cols_of p) y ≡ drop (rows_of p * cols_of p) f → Solves p f f' false
  unfolding flow_after
  none-solves f f' y e q d = record { is = sym (ap is_plan e); flow = rw e (q ∙ zeros (rows_of p * cols_of p) y f d) }

  empty-solves : (f : List ℕ) → rows_of p * cols_of p ≡ 0 → solve_cells p ≡ none → Solves p f f false
  unfolding flow_after
  empty-solves f en e = record { is = sym (ap is_plan e); flow = rw (e, en) refl }

  plan-solves : (f y : List ℕ) → PlanIn p true y → rows_of p * cols_of p ≤ length y → drop (rows_of p * cols_of p) y ≡ drop (rows_of p * cols_of p) f → Solves p f y true
  unfolding flow_after
  plan-solves f y P l d = record { is = P.is; flow = go (solve_cells p) refl }
    where
      go : (o : Option (List ℕ)) → solve_cells p ≡ o → y ≡ over (plan_or0 (rows_of p * cols_of p) o) f
      go none e = absurd (clash (P.is ∙ ap is_plan e))
      go (some x) e = begins (rows_of p * cols_of p) x f y (sym (ap length (P.plan x e)) ∙ length-take-le (rows_of p * cols_of p) y l) (P.plan x e) d

-- ---- at most 65 rows and columns
pub laid-few : {supply demand g : List ℕ} → Laid supply demand g → (length supply ≤ WIDEST) × (length demand ≤ WIDEST)
laid-few L = (rw L.given.supply_is at L.given.small.few_rows, rw L.given.demand_is at L.given.small.few_columns)

-- ---- a problem in place
module _ (p : Problem) (supply demand g : List ℕ) (G : Given p supply demand g) where
  pub rows : rows_of p ≡ length supply
  rows = ap length G.supply_is

  pub cols : cols_of p ≡ length demand
  cols = ap length G.demand_is

  pub cells : rows_of p * cols_of p ≡ length supply * length demand
  cells = λ i. rows i * cols i

  -- no search is tried
  pub none_row : length supply ≡ 0 → (flow : List ℕ) → Solves p flow flow false
  none_row e flow = empty-solves p flow (cells ∙ ap (λ (n : ℕ). n * length demand) e ∙ zero-mul (length demand)) (no_row p (rows ∙ e))

  pub none-column : length demand ≡ 0 → (flow : List ℕ) → Solves p flow flow false
  none-column e flow = empty-solves p flow (cells ∙ ap (λ (n : ℕ). length supply * n) e ∙ mul-zero (length supply)) (no-column p (cols ∙ e))

  pub none-uneven : (sum supply ≡ sum demand → ⊥) → (flow f : List ℕ) → f ≡ over (replicate (length supply * length demand) 0) flow → Solves p flow f false
  none-uneven e flow f ef = none-solves p flow f flow (uneven p (λ z. e (sym (ap sum G.supply_is) ∙ z ∙ ap sum G.demand_is))) (rw cells ef) refl

  -- the costs are in place, and the plan is empty
  abbrev pub start_of : (flow y : List ℕ) → y ≡ over (replicate (length supply * length demand) 0) flow → Start (length supply) (length demand) supply demand g y
  start_of flow y e = record {
    p = p;
    supply_is = G.supply_is;
    demand_is = G.demand_is;
    rows = rows;
    cols = cols;
    small = G.small;
    costs = G.costs;
    flow = λ k hk. over-emptied flow y (length supply * length demand) e k (rw cells at hk) ∙ sym (get_d-same (rows_of p * cols_of p) k 0);
  }

  -- ---- the two ends of the sending
  module _ (hr : 0 < length supply) (hc : 0 < length demand) (ev : sum supply ≡ sum demand) (flow y : List ℕ) (e : y ≡ over (replicate (length supply * length demand) 0) flow) (b : Bool) (z : List ℕ)
      (room : length supply * length demand ≤ length z) (A : Answered (start_of flow y e) b z) (kept : drop (length supply * length demand) z ≡ drop (length supply * length demand) y) where
    sol : solve_cells p ≡ augment (sum p.supply) p (weight p) (sum p.supply) (empty p (weight p))
    sol = even p (rw rows hr) (rw cols hc) (ap sum G.supply_is ∙ ev ∙ sym (ap sum G.demand_is))

    fits : rows_of p * cols_of p ≤ length z
    fits = rw cells room

    plan-in : PlanIn p b z
    plan-in = go A
      where
        go : Answered (start_of flow y e) b z → PlanIn p b z
        go (no_plan q f) = rw f (none_in p z (sol ∙ q))
        go (plan x q f I F) = rw f (record { is = sym (ap is_plan (sol ∙ q)); plan = λ u w. whole u (inj (sym w ∙ sol ∙ q)) })
          where
            inj : {u v : List ℕ} → some u ≡ some v → u ≡ v
            inj q = cc

            cell : (k : ℕ) → k < rows_of p * cols_of p → get_or (take (rows_of p * cols_of p) z) k 0 ≡ get_or x k 0
            cell k hk = get_or-take (rows_of p * cols_of p) z k 0 hk ∙ F k hk

            whole : (u : List ℕ) → u ≡ x → take (rows_of p * cols_of p) z ≡ u
            whole u w = rw w (ext_get_or 0 (take (rows_of p * cols_of p) z) x (length-take-le (rows_of p * cols_of p) z fits ∙ sym I.len) (λ k hk. cell k (rw (length-take-le (rows_of p * cols_of p) z fits) at hk)))

    behind : drop (rows_of p * cols_of p) z ≡ drop (rows_of p * cols_of p) flow
    behind = rw cells (kept ∙ over-rest flow y (length supply * length demand) e)

    pub solved-plan : b ≡ true → Solves p flow z true
    solved-plan q = plan-solves p flow z (rw q at plan-in) fits behind

    pub solved-none : b ≡ false → (f : List ℕ) → f ≡ over (replicate (length supply * length demand) 0) z → Solves p flow f false
    solved-none q f ef = none-solves p flow f z (none_of (solve_cells p) (sym q ∙ plan-in.is)) (rw cells ef) behind
      where
        none_of : (o : Option (List ℕ)) → false ≡ is_plan o → o ≡ none
        none_of none e = refl
        none_of (some x) e = absurd (clash (sym e))
