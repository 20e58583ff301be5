use Rattle.spec.specs.Bytes.{Two}
use Rattle.image.specs.Entry.{child-is}
use mathlib.Core.Path.{ap, sym, ◌∙◌}
use Rattle.members.proofs.child_class.Goals as goal

pub returns : goal.returns
returns c =
    (c.be2.ensures.0 ∙ sym (ap (λ (x : Two). x.0) (child-is c.args.s.now c.args.im c.requires.0 c.args.k c.requires.1)), c.be2.ensures.1)
