use Prim.Native.Nat.{◌+◌}
use mathlib.Core.Path.{sym}
use native.Mathlib.Omega.{arith}
use lib.ListN.{get_or-eq_default}
use Rattle.pair_count.proofs.key_at.Goals as goal

pub returns-then-from-graph : goal.returns-then-from-graph
returns-then-from-graph c = sym (get_or-eq_default c.args.graph.now 0 {n = c.args.from + c.args.k} (omega (arith, c.if-from-graph.true)))

pub returns-then-k-graph : goal.returns-then-k-graph
returns-then-k-graph c =
    sym (get_or-eq_default c.args.graph.now 0 {n = c.args.from + c.args.k} (omega (arith, c.if-from-graph.false, c.if-k-graph.true)))
