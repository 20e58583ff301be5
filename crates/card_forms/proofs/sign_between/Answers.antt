use mathlib.Core.Path.{refl}
use Rattle.card_forms.specs.FormLaws.{placed, level-asks}
use Rattle.card_forms.proofs.sign_between.Goals as goal

pub precedence-p-requires : goal.precedence-p-requires
precedence-p-requires c = (placed c.args.table.now c.args.o c.requires).known

pub left_level-requires : goal.left_level-requires
left_level-requires c =
    level-asks c.args.table.now c.args.o c.requires c.precedence-p.ensures.0

pub right_level-requires : goal.right_level-requires
right_level-requires c =
    level-asks c.args.table.now c.args.o c.requires c.precedence-p.ensures.0

pub returns : goal.returns
returns c = rw (c.right_level.ensures, c.left_level.ensures, c.precedence-p.ensures.0) refl
