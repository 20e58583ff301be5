use native.Mathlib.Omega.{arith}
use borrow.Author.Rules.{rules}
use Rattle.frames.specs.FrameLaws.{framed-says}
use Rattle.frames.proofs.image_length.Goals as goal

pub be4-requires : goal.be4-requires
be4-requires c =
    let F = framed-says c.args.input.now c.requires in omega (arith, F.some)
