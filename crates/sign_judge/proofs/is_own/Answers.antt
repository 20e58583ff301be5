use Rattle.sign_judge.specs.SignTests.{alone-start, alone-more, alone-fails, alone-end}
use Rattle.formula.specs.Card.{own}
use native.Mathlib.Omega.{arith}
use mathlib.Core.Path.{sym, ◌∙◌}
use Rattle.sign_judge.proofs.is_own.Goals as goal

pub loop-q-init : goal.loop-q-init
unfolding own
loop-q-init c = (omega arith, alone-start c.args.table.now c.args.o c.operations-n.result c.operations-n.ensures)

pub returns-then-is_shared : goal.returns-then-is_shared
returns-then-is_shared c = let a = c.args in sym (c.loop-q.invariant.1 ∙ alone-fails a.table.now a.o c.operations-n.result c.loop-q.q (omega arith) (sym c.if-is_shared.true ∙ c.is_shared.ensures))

pub loop-q-preserved : goal.loop-q-preserved
loop-q-preserved c = let a = c.args in (omega arith, c.loop-q.invariant.1 ∙ alone-more a.table.now a.o c.operations-n.result c.loop-q.q (omega arith) (sym c.if-is_shared.false ∙ c.is_shared.ensures))

pub returns : goal.returns
returns c = let a = c.args in sym (c.loop-q.invariant.1 ∙ alone-end a.table.now a.o c.operations-n.result c.loop-q.q (omega arith))
