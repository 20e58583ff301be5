-- A choice made into its term: the answer, the pool's buffers and the list afterwards.
use Rattle.std.specs.Prelude.{◌≡◌, List, ℕ, length, Option}
use Rattle.spec.specs.Bytes.{Two, Limits}
use Rattle.spec.specs.Image.{Tables, kind_of, is_commutative}
use Rattle.spec.specs.Round.{Choice, stay, act, choice_term}
use Rattle.laws.specs.Buffers.{over}
use Rattle.terms.specs.Buffers.{pool_of}
use Rattle.terms.specs.Chains.{Holds}
use Rattle.interning.specs.Interning.{entered_of, pool_after}
use Rattle.interning.specs.Growing.{Grows}
use Rattle.action_term.specs.Results.{action_list}
use Rattle.action_runs.specs.Runs.{runs_over}

-- ---- the list
-- the winner's runs are listed, ordered and joined
abbrev pub term_list : Tables → (Two → ℕ) → List ℕ → List ℕ → Choice → List ℕ → List ℕ
term_list t of terms runs stay list = list
term_list t of terms runs (act a) list = let r = runs_over of a.places a.counts in action_list (is_commutative (kind_of t a.op)) terms runs (over r list) (length r)

-- The choice c made into its term, from the list that the turn left: what the list and the pool's buffers hold then.
pub record Ended (lim : Limits) (t : Tables) (of : Two → ℕ) (terms runs : List ℕ) (old : ℕ) (c : Choice) (list terms' runs' list' : List ℕ) (r : Option ℕ) : Type 0 where
  pub answer : r ≡ entered_of (choice_term lim t of (pool_of terms runs) old c)
  pub pool : pool_of terms' runs' ≡ pool_after (pool_of terms runs) (choice_term lim t of (pool_of terms runs) old c)
  pub holds : Holds terms' runs'
  pub grows : Grows terms runs terms' runs' (pool_after (pool_of terms runs) (choice_term lim t of (pool_of terms runs) old c))
  pub list_is : list' ≡ term_list t of terms runs c list
