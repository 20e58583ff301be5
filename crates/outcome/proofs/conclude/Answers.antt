use native.Mathlib.Omega.{arith}
use mathlib.Core.Path.{refl}
use Rattle.work_clearing.specs.Cleared.{cleared-same}
use Rattle.outcome.proofs.conclude.Goals as goal

pub returns : goal.returns
returns c = (c.list_ran-r.ensures, cleared-same c.clear_all.ensures (omega (arith, c.list_ran-r.auto)) refl refl refl refl refl)
