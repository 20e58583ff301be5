use Rattle.skipped_pairs.proofs.Scans.{with-start, with-stop, with-more, with-end}
use Rattle.skipped_pairs.specs.Held.{facts_in}
use native.Mathlib.Omega.{arith}
use Rattle.skipped_pairs.proofs.kin_with.Goals as goal

pub loop-a-init : goal.loop-a-init
loop-a-init c = (omega arith, with-start (facts_in c.args.f.now) c.args.n c.args.i c.args.x)

pub returns-then-has_total : goal.returns-then-has_total
returns-then-has_total c =
    with-stop (facts_in c.args.f.now) c.args.n c.args.i c.args.x c.kin_at-k.result c.loop-a.a c.has_total.result c.kin_at-k.ensures (omega arith) c.has_total.ensures c.loop-a.invariant.1 c.if-has_total.true

pub loop-a-preserved : goal.loop-a-preserved
loop-a-preserved c = (
  omega arith,
  with-more (facts_in c.args.f.now) c.args.n c.args.i c.args.x c.kin_at-k.result c.loop-a.a c.has_total.result c.kin_at-k.ensures (omega arith) c.has_total.ensures c.loop-a.invariant.1 c.if-has_total.false,
)

pub returns : goal.returns
returns c =
    with-end (facts_in c.args.f.now) c.args.n c.args.i c.args.x c.loop-a.a (omega arith) c.loop-a.invariant.1
