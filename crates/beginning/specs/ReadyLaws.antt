-- What `begin` leaves is what `finish` asks.
use Rattle.std.specs.Prelude.{◌≡◌, List, [], ℕ}
use Rattle.std.proofs.Common.{sym, ap, ◌∙◌}
use Rattle.spec.specs.Bytes.{Two, Limits, Res, ok}
use Rattle.spec.specs.Image.{Tables}
use Rattle.spec.specs.Graph.{build}
use Rattle.spec.specs.Pool.{Interned, starting_term}
use Rattle.graph.specs.Building.{graph_after}
use Rattle.graph.specs.Built.{after-again}
use Rattle.beginning.specs.Beginning.{if_rooted, Begins, Ready}
use Rattle.prepared.specs.declared.Begun.{Begun}

module _ (lim : Limits) (t : Tables) (p : Two) (budget w : ℕ) (graph ts us graph' ts' us' : List ℕ) (r : Begun) (X : Begins lim t p budget w graph ts us graph' ts' us' r) where
  -- the array is as building leaves it
  still : (a : Interned) → starting_term lim t [] p ≡ ok a → graph' ≡ graph_after w (build lim t p budget) graph'
  still a q =
      let f : graph' ≡ graph_after w (build lim t p budget) graph = X.graph ∙ ap (λ (x : Res Interned). if_rooted x (graph_after w (build lim t p budget) graph) graph) q in
      f ∙ sym (after-again w (build lim t p budget) graph) ∙ ap (graph_after w (build lim t p budget)) (sym f)

  pub begins-ready : Ready lim t p budget w r graph' ts' us'
  begins-ready = record { answer = X.answer; built = still; holds = λ a q. (X.grows a q).holds; pool = λ a q. (X.grows a q).pool }
