use Rattle.enumeration.proofs.Turns.{row_here, row_next, row-over}
use Rattle.spec.specs.Image.{tables_of}
use native.Mathlib.Omega.{arith}
use mathlib.Core.Path.{refl, sym, ◌∙◌}
use Rattle.enumeration.proofs.seek_right.Goals as goal

pub loop-right-init : goal.loop-right-init
loop-right-init c = refl

pub aligned-requires : goal.aligned-requires
aligned-requires c = (c.requires.0, c.requires.1, c.requires.2, omega (arith, c.loop-right-test, c.requires.3))

pub returns-then-past-aligned : goal.returns-then-past-aligned
returns-then-past-aligned c =
    sym (row_here (tables_of c.args.s.now) c.args.to (record { left = c.args.w.left; right = c.loop-right.right; past = c.loop-right.past }) (omega (arith, c.loop-right-test)) (omega (arith, c.if-past-aligned.true, c.aligned.ensures))) ∙ c.loop-right.invariant

pub loop-right-preserved : goal.loop-right-preserved
loop-right-preserved c =
    sym (row_next (tables_of c.args.s.now) c.args.to (record { left = c.args.w.left; right = c.loop-right.right; past = c.loop-right.past }) (omega (arith, c.loop-right-test)) (omega (arith, c.if-past-aligned.false, c.aligned.ensures))) ∙ c.loop-right.invariant

pub returns : goal.returns
returns c =
    sym (row-over (tables_of c.args.s.now) c.args.to (record { left = c.args.w.left; right = c.loop-right.right; past = c.loop-right.past }) (omega (arith, c.loop-right-test))) ∙ c.loop-right.invariant
