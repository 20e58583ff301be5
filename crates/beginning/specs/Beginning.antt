-- The run up to its graph: "The root's starting term is entered before building".
use Rattle.std.specs.Prelude.{◌≡◌, List, [], ℕ, ◌+◌, ◌*◌, ◌≤◌, length, replicate}
use Rattle.spec.specs.Bytes.{Two, Limits, Res, ok, refused, Checked, passed, cut_short}
use Rattle.spec.specs.Image.{Tables}
use Rattle.spec.specs.Graph.{build, skipped_in}
use Rattle.spec.specs.Pool.{Interned, starting_term}
use Rattle.budget.specs.Budget.{budget_of}
use Rattle.arrays.specs.Arrays.{Scratch}
use Rattle.terms.specs.Buffers.{pool_of}
use Rattle.terms.specs.Chains.{Holds, Rooms}
use Rattle.terms.specs.Emptying.{emptied}
use Rattle.interning.specs.Growing.{Grows}
use Rattle.graph.specs.Building.{graph_after}
use Rattle.prepared.specs.declared.Begun.{Begun}
use Rattle.prepared.specs.declared.Begun.TheVariants as B

-- a refusal, 13 or 12; cut short in building, with the root's starting term; the root's starting term, the number of pairs, the budget left; both with k, the number of monomial pairs passed over
abbrev pub begun_of : ℕ → Res Interned → Res (Checked (List Two)) → Begun
begun_of k (refused n) g = B.Stopped n
begun_of k (ok a) (refused n) = B.Stopped n
begun_of k (ok a) (ok cut_short) = B.Cut a.term k
begun_of k (ok a) (ok (passed ps c)) = B.All a.term (length ps) (budget_of c) k

-- an array after building; as it was where the root's starting term is refused
abbrev pub if_rooted : Res Interned → List ℕ → List ℕ → List ℕ
if_rooted (ok a) built was = built
if_rooted (refused n) built was = was

-- what `begin` answers and leaves, of an image of w classes
pub record Begins (lim : Limits) (t : Tables) (p : Two) (budget w : ℕ) (graph₀ terms₀ runs₀ graph' terms' runs' : List ℕ) (r : Begun) : Type 0 where
  pub answer : r ≡ begun_of (skipped_in lim t p budget) (starting_term lim t [] p) (build lim t p budget)
  pub graph : graph' ≡ if_rooted (starting_term lim t [] p) (graph_after w (build lim t p budget) graph₀) graph₀
  -- terms and runs hold the root's pool over the emptied buffer
  pub grows : (a : Interned) → starting_term lim t [] p ≡ ok a → Grows (emptied terms₀) runs₀ terms' runs' a.pool
  pub cleared : (n : ℕ) → starting_term lim t [] p ≡ refused n → (terms' ≡ replicate (length terms₀) 0) × (runs' ≡ replicate (length runs₀) 0)

-- buffers with room for a run within the limits, over an image of w classes
pub record Lengths (lim : Limits) (w : ℕ) (graph pairs work flow terms runs : List ℕ) : Type 0 where
  pub wide : w * w + lim.pairs ≤ length graph
  pub marks : 2 * lim.terms ≤ length graph
  pub numbers : 6 * lim.pairs ≤ length pairs
  pub scratch : Scratch lim work flow
  pub rooms : Rooms lim terms runs

-- what `finish` asks: b is what `begin` answered, and the arrays are as it left them
pub record Ready (lim : Limits) (t : Tables) (p : Two) (budget w : ℕ) (b : Begun) (graph terms runs : List ℕ) : Type 0 where
  pub answer : b ≡ begun_of (skipped_in lim t p budget) (starting_term lim t [] p) (build lim t p budget)
  pub built : (a : Interned) → starting_term lim t [] p ≡ ok a → graph ≡ graph_after w (build lim t p budget) graph
  pub holds : (a : Interned) → starting_term lim t [] p ≡ ok a → Holds terms runs
  pub pool : (a : Interned) → starting_term lim t [] p ≡ ok a → pool_of terms runs ≡ a.pool
