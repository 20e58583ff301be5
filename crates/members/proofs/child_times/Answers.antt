use Rattle.spec.specs.Bytes.{Two}
use Rattle.image.specs.Entry.{child-is}
use mathlib.Core.Path.{ap, sym, ◌∙◌}
use Rattle.members.proofs.child_times.Goals as goal

pub returns : goal.returns
returns c =
    (c.be4.ensures.0 ∙ sym (ap (λ (x : Two). x.1) (child-is c.args.s.now c.args.im c.requires.0 c.args.k c.requires.1)), c.be4.ensures.1)
