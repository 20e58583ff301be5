use Rattle.augment.proofs.Balances.{balanced}
use Rattle.augment.proofs.balance.Goals as goal

pub returns : goal.returns
returns c = let a = c.args in balanced a.r a.c a.supply.now a.demand.now a.flow.now c.fill_columns.new.left c.fill_rows.new.left c.fill_columns.ensures c.fill_rows.ensures
