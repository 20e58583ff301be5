use Rattle.card_terms.proofs.turn_left.Goals as goal

pub returns : goal.returns
returns c = rw (← c.long_size.ensures) c.put_u64.ensures
