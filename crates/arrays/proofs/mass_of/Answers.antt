use Prim.Native.Nat.{ℕ, ◌+◌}
use mathlib.Core.Path.{ap}
use lib.ListN.{get_or}
use Rattle.arrays.proofs.mass_of.Goals as goal

pub returns : goal.returns
returns c = ap (λ (x : ℕ). get_or c.args.pairs.now (x + 1) 0) c.begin_of-at.ensures.0
