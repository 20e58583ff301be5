use Rattle.pair_settling.specs.SettleLaws.{differs-size, differs-mass, differs-not}
use borrow.Author.Rules.{rules}
use Rattle.pair_settling.proofs.differs.Goals as goal

pub returns-then-pairs-at : goal.returns-then-pairs-at
returns-then-pairs-at c =
    let a = c.args in
    differs-size a.pairs.now a.k c.if-pairs-at.true

pub returns-then-pairs-at-2 : goal.returns-then-pairs-at-2
returns-then-pairs-at-2 c =
    let a = c.args in
    differs-mass a.pairs.now a.k c.if-pairs-at.false c.if-pairs-at-2.true

pub returns : goal.returns
returns c =
    let a = c.args in
    differs-not a.pairs.now a.k c.if-pairs-at.false c.if-pairs-at-2.false
