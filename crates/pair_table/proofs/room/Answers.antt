use Rattle.pair_table.proofs.room.Goals as goal

pub returns : goal.returns
returns c = c.min.ensures
