use Rattle.spec.specs.Image.{Class}
use Rattle.image.specs.Entry.{class-is}
use mathlib.Core.Path.{ap, sym, ◌∙◌}
use Rattle.classes.proofs.member_count.Goals as goal

pub returns : goal.returns
returns c =
    (c.be2.ensures.0 ∙ sym (ap (λ (x : Class). x.count) (class-is c.args.s.now c.args.im c.requires.0 c.args.c c.requires.1)), c.be2.ensures.1)
