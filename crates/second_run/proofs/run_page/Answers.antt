use mathlib.Core.Path.{ap}
use native.Mathlib.Omega.{arith}
use borrow.Author.Rules.{rules}
use Rattle.spec.specs.Run.{limit_of}
use Rattle.second_run.proofs.run_page.Goals as goal

pub run_full-requires : goal.run_full-requires
run_full-requires c = let z = ap limit_of c.requires in omega (arith, z)
