use Rattle.pair_settling.specs.SettleLaws.{settled-reads, settled-stays, unmoved}
use Rattle.pair_settling.specs.Settling.{left}
use Prim.Native.Nat.{◌-◌}
use mathlib.Core.Path.{sym, ◌∙◌}
use borrow.Author.Rules.{rules}
use Rattle.pair_settling.proofs.settle_one.Goals as goal

pub returns-then-moved : goal.returns-then-moved
returns-then-moved c = settled-reads c.args.pairs.now c.args.k _ c.give.ensures

pub returns-else-moved : goal.returns-else-moved
returns-else-moved c =
    let z = unmoved c.args.changed _ _ (sym c.moved.ensures ∙ c.if-moved.false) in
    settled-stays c.args.pairs.now c.args.k (sym c.requires.2 ∙ z.0) z.1
