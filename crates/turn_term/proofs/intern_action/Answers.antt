use Rattle.turn_term.proofs.intern_action.Goals as goal

pub returns : goal.returns
returns c = rw (c.short_size.ensures, c.is_commutative-commutative.ensures, c.kind.ensures.0) at c.intern_action_result.ensures
