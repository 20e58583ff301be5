-- "Graph. Built in full, it holds the queried pair (left class, right class) and, with each pair, every pair of classes that an action of it joins": what `build` leaves in its array.
use Rattle.std.specs.Prelude.{◌≡◌, List, ℕ, length, Option, Some, None}
use Rattle.spec.specs.Bytes.{Two, Res, ok, refused, Checked, passed, cut_short}
use Rattle.budget.specs.Budget.{budget_of}
use Rattle.entering.specs.Entered.{entered, cleared}
use Rattle.graph.specs.declared.Built.{Built}
use Rattle.graph.specs.declared.Built.TheVariants.{All, Cut}

-- built in full: how many pairs, and the budget left; cut short; both with k, the number of monomial pairs passed over; None: refusal 12
abbrev pub built_of : ℕ → Res (Checked (List Two)) → Option Built
built_of k (ok (passed ps c)) = Some (All (length ps) (budget_of c) k)
built_of k (ok cut_short) = Some (Cut k)
built_of k (refused n) = None

-- the pairs in their order; cleared unless the graph is built in full
abbrev pub graph_after : ℕ → Res (Checked (List Two)) → List ℕ → List ℕ
graph_after w (ok (passed ps c)) graph = entered w 0 ps (cleared graph)
graph_after w (ok cut_short) graph = cleared graph
graph_after w (refused n) graph = cleared graph

pub record Builds (w k : ℕ) (g : Res (Checked (List Two))) (before after : List ℕ) (r : Option Built) : Type 0 where
  pub answer : r ≡ built_of k g
  pub graph : after ≡ graph_after w g before
