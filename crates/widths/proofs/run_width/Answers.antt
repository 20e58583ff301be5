use Rattle.widths.specs.WidthLaws.{run_length}
use native.Mathlib.Omega.{arith}
use Rattle.widths.proofs.run_width.Goals as goal

pub number_of-requires : goal.number_of-requires
number_of-requires c =
    rw c.child.ensures.0 c.requires

pub returns : goal.returns
returns c =
    omega (arith, run_length c.args.marks.now c.args.r c.child.ensures.0 c.number_of.ensures, c.digits-a.ensures, rw c.times.ensures at c.digits.ensures)
