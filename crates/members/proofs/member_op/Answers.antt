use Rattle.spec.specs.Image.{Member}
use Rattle.image.specs.Entry.{member_is}
use mathlib.Core.Path.{ap, sym, ◌∙◌}
use Rattle.members.proofs.member_op.Goals as goal

pub returns : goal.returns
returns c =
    (c.be2.ensures.0 ∙ sym (ap (λ (x : Member). x.op) (member_is c.args.s.now c.args.im c.requires.0 c.args.m c.requires.1)), c.be2.ensures.1)
