use Rattle.ac_repr.proofs.Steps.{first-none, first_some}
use Rattle.spec.specs.Image.{tables_of}
use Rattle.ac_repr.proofs.first.Goals as goal

pub returns-then-l-r : goal.returns-then-l-r
returns-then-l-r c =
    first-none (tables_of c.args.s.now) c.args.l c.args.r c.if-l-r.true

pub from_op-requires : goal.from_op-requires
from_op-requires c = (c.requires.0, c.requires.1, c.requires.2, c.requires.3)

pub returns : goal.returns
returns c =
    first_some (tables_of c.args.s.now) c.args.l c.args.r c.from_op.result c.if-l-r.false c.from_op.ensures
