-- A pair's turn ends with two numbers below a bound, where what it reads has mass at most size.
use Rattle.std.specs.Prelude.{ℕ, ◌<◌}
use Rattle.spec.specs.Bytes.{In, Two}
use Rattle.spec.specs.Image.{Tables}
use Rattle.spec.specs.Action.{joins}
use Rattle.spec.specs.Pairs.{pairs}
use Rattle.spec.specs.Round.{turn_of}
use Rattle.steps.specs.Bounds as bounds
use Rattle.steps.specs.Bounds.{Low, over-low}
use Rattle.lgg.specs.Moves.{pair_reads}

pub turn_small : (t : Tables) (q : Two → Two) (p : Two) (b : ℕ) → (q p).0 < b → Low (q p) → ((c : Two) → In c (joins t p) → Low (q c)) → ((turn_of t q p).quality.0 < b) × ((turn_of t q p).quality.1 < b)
turn_small t = bounds.turn_small (pairs t) (pair_reads t).inside over-low
