use Rattle.weights.proofs.Totals.{sum-next, sum-end}
use native.Mathlib.Omega.{arith}
use Rattle.weights.proofs.total.Goals as goal

pub loop-x-preserved : goal.loop-x-preserved
loop-x-preserved c = let l = c.loop-x in let s = c.args.s.now in (rw c.long_u32-t.ensures.0 (sum-next s l.x-index l.t (omega arith) l.invariant.0), omega (arith, c.long_u32-t.ensures.1))

pub returns : goal.returns
returns c = let l = c.loop-x in let e = sum-end c.args.s.now l.x-index l.t (omega arith) l.invariant.0 in (e, omega arith)
