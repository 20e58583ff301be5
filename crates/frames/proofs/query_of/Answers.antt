use native.Mathlib.Omega.{arith}
use mathlib.Core.Path.{◌∙◌}
use borrow.Author.Rules.{rules}
use Rattle.frames.specs.FrameLaws.{framed-says, query-from}
use Rattle.frames.proofs.query_of.Goals as goal

pub be2-requires : goal.be2-requires
be2-requires c =
    let F = framed-says c.args.input.now c.requires in
    omega (arith, F.ends, F.short, c.image_length-n.ensures)

pub overflow_add-n : goal.overflow_add-n
overflow_add-n c =
    let F = framed-says c.args.input.now c.requires in
    record { fits = omega (arith, F.ends, F.short, c.image_length-n.ensures) }

pub be2-requires-2 : goal.be2-requires-2
be2-requires-2 c =
    let F = framed-says c.args.input.now c.requires in
    omega (arith, F.ends, F.short, c.image_length-n.ensures)

pub overflow_add-n-2 : goal.overflow_add-n-2
overflow_add-n-2 c =
    let F = framed-says c.args.input.now c.requires in
    record { fits = omega (arith, F.ends, F.short, c.image_length-n.ensures) }

pub be4-requires : goal.be4-requires
be4-requires c =
    let F = framed-says c.args.input.now c.requires in
    omega (arith, F.ends, F.short, c.image_length-n.ensures)

pub returns : goal.returns
returns c =
    query-from c.args.input.now _ _ _ _
    c.image_length-n.ensures
    (c.narrow-left.ensures ∙ c.be2.ensures.0)
    (c.narrow-right.ensures ∙ c.be2-2.ensures.0)
    (c.short_u64-budget.ensures ∙ c.be4.ensures.0)
