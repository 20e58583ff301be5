use native.Mathlib.Omega.{arith}
use mathlib.Core.Path.{sym, ◌∙◌}
use borrow.Author.Rules.{rules}
use Rattle.merge_under.specs.UnderLaws.{cleared-of}
use Rattle.answer.specs.RespondingLaws.{responds, cleared-asked, not-framed}
use Rattle.answer.proofs.respond.Goals as goal

pub ask-a-requires : goal.ask-a-requires
ask-a-requires c =
    sym c.is_framed.ensures ∙ c.if-is_framed.true

pub print-requires : goal.print-requires
print-requires c =
    omega (arith, c.requires.output)

pub returns-then-is_framed : goal.returns-then-is_framed
returns-then-is_framed c =
    let k = c.ask-a.ensures in
    let f = sym c.is_framed.ensures ∙ c.if-is_framed.true in
    (responds c.args.input.now c.args.out.now _ _ _ _ _ f c.requires.fit c.requires.output k.0 c.print.ensures, cleared-asked _ c.requires.fit k.1)

pub refusal-requires : goal.refusal-requires
refusal-requires c =
    omega (arith, c.requires.output)

pub returns : goal.returns
returns c =
    let f = sym c.is_framed.ensures ∙ c.if-is_framed.false in
    (not-framed c.args.input.now c.args.out.now _ _ f c.refusal.ensures, cleared-of c.clear_all.ensures)
