use Rattle.class_literals.specs.Slots.{mark-next, slot_is}
use Rattle.image.specs.Loaded.{members-many}
use Rattle.spec.specs.Image.{tables_of}
use native.Mathlib.Omega.{arith}
use mathlib.Core.Path.{◌∙◌}
use Rattle.literals.proofs.mark.Goals as goal

pub loop-m-init : goal.loop-m-init
loop-m-init c = (omega arith, c.requires.2, λ j h. absurd (omega arith))

pub loop-m-preserved : goal.loop-m-preserved
loop-m-preserved c =
    let s = c.args.s.now in (
      omega arith,
      c.put_u16.auto.s ∙ c.loop-m.invariant.1,
      rw c.put_u16.ensures
          (mark-next (tables_of s) c.loop-m.last c.loop-m.m c.slot-at.result (omega arith)
          (slot_is c.slot-at.ensures.0 c.member_op.ensures.0 c.member_value.ensures.0) c.loop-m.invariant.2),
    )

pub returns : goal.returns
returns c =
    λ j h. c.loop-m.invariant.2 j (omega (arith, h, members-many c.args.s.now c.args.im c.requires.0))
