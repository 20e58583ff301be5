use Rattle.class_place.specs.StandingLaws.{stands-before, there}
use Rattle.class_place.proofs.Scan.{over-stood, over-new}
use native.Mathlib.Omega.{arith}
use mathlib.Core.Path.{sym, ◌∙◌}
use Rattle.class_place.proofs.overflows.Goals as goal

pub count_at-requires : goal.count_at-requires
count_at-requires c =
    omega (arith, stands-before c.args.c c.args.mono.now c.args.n c.args.p c.requires.0 c.requires.1 (sym c.stands_at.ensures ∙ c.if-stands_at.true))

pub returns-then-stands_at : goal.returns-then-stands_at
returns-then-stands_at c =
    let t = sym c.stands_at.ensures ∙ c.if-stands_at.true in
    over-stood _ c.count_at.result _ c.args.k t (there c.args.c c.args.mono.now c.args.n c.args.p c.requires.0 c.requires.1 c.count_at.result t c.count_at.ensures) (omega arith)

pub returns : goal.returns
returns c = over-new _ _ (sym c.stands_at.ensures ∙ c.if-stands_at.false)
