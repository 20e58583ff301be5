use lib.Dec.{leb}
use Prim.Native.Nat.{ℕ, ◌+◌}
use mathlib.Core.Path.{ap}
use Rattle.prepare.proofs.has_room.Goals as goal

pub returns : goal.returns
returns c = ap (λ (x : ℕ). leb (x + c.args.lim.pairs) c.args.len) c.keys.ensures.0
