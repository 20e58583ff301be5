-- A pair's turn as the code ends it: its quality afterwards, its term, and what it leaves in the pool.
use Rattle.std.specs.Prelude.{◌≡◌, Bool, true, false, List, ℕ, Option, Some, None}
use Rattle.spec.specs.Bytes.{Two, Limits, Res, ok, refused}
use Rattle.spec.specs.Image.{Tables}
use Rattle.spec.specs.Pool.{Interned}
use Rattle.spec.specs.Round.{Turn, changes, turn_of, choice_term}
use Rattle.terms.specs.Buffers.{pool_of}
use Rattle.terms.specs.Chains.{Holds}
use Rattle.interning.specs.Interning.{pool_after}
use Rattle.interning.specs.Growing.{Grows}
use Rattle.quality.specs.declared.How.{How}
use Rattle.quality.specs.declared.How.TheVariants as H
use Rattle.turn_end.specs.declared.Turned.{Turned}

abbrev pub taken_of : Turn → Res Interned → Option Turned
taken_of w (ok a) = Some (record { size = w.quality.0; mass = w.quality.1; term = a.term; changed = changes w })
taken_of w (refused n) = None

-- The answer, and the pool with the winner's one final term. Where it is refused, the pool's buffers are as they were.
pub record Takes (lim : Limits) (t : Tables) (q : Two → Two) (of : Two → ℕ) (p : Two) (terms runs terms' runs' : List ℕ) (r : Option Turned) : Type 0 where
  pub answer : r ≡ taken_of (turn_of t q p) (choice_term lim t of (pool_of terms runs) (of p) (turn_of t q p).choice)
  pub pool : pool_of terms' runs' ≡ pool_after (pool_of terms runs) (choice_term lim t of (pool_of terms runs) (of p) (turn_of t q p).choice)
  pub holds : Holds terms' runs'
  pub grows : Grows terms runs terms' runs' (pool_after (pool_of terms runs) (choice_term lim t of (pool_of terms runs) (of p) (turn_of t q p).choice))

-- an action was chosen
abbrev pub changed_by : How → Bool
changed_by H.Stay = false
changed_by (H.Aligned v) = true
changed_by (H.Plan o m) = true
