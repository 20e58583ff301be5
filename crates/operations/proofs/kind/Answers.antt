use Rattle.spec.specs.Image.{Operation}
use Rattle.image.specs.Entry.{operation-is}
use mathlib.Core.Path.{ap, sym, ◌∙◌}
use Rattle.operations.proofs.kind.Goals as goal

pub returns : goal.returns
returns c =
    (c.size_u8.ensures.0 ∙ sym (ap (λ (x : Operation). x.kind) (operation-is c.args.s.now c.args.im c.requires.0 c.args.o c.requires.1)), c.size_u8.ensures.1)
