use Rattle.card_terms.specs.ItemLaws.{term-small, placed-term, placed-full}
use native.Mathlib.Omega.{arith}
use Rattle.card_terms.proofs.place.Goals as goal

pub overflow_add-long_size : goal.overflow_add-long_size
overflow_add-long_size c = record { fits = omega (arith, term-small c.in_ok-a.was c.requires.1, c.long_size.ensures) }

pub returns : goal.returns
returns c = placed-term c.args.frames.now c.args.to c.in_ok-a.was c.long_size.ensures c.put_u64.ensures

pub returns-in_err-a : goal.returns-in_err-a
returns-in_err-a c = rw c.from_residual.ensures (placed-full c.args.frames.now c.args.to c.in_err-a.was)
