use Rattle.skipped_pairs.proofs.Scans.{within-start, within-stop, within_more, within_end}
use Rattle.skipped_pairs.specs.Held.{facts_in}
use native.Mathlib.Omega.{arith}
use Rattle.skipped_pairs.proofs.kin_within.Goals as goal

pub loop-a-init : goal.loop-a-init
loop-a-init c = (omega arith, within-start (facts_in c.args.f.now) c.args.n c.args.i c.args.x)

pub returns-then-is_within : goal.returns-then-is_within
returns-then-is_within c =
    within-stop (facts_in c.args.f.now) c.args.n c.args.i c.args.x c.kin_at-k.result c.loop-a.a c.is_within.result c.kin_at-k.ensures (omega arith) c.is_within.ensures c.loop-a.invariant.1 c.if-is_within.true

pub loop-a-preserved : goal.loop-a-preserved
loop-a-preserved c = (
  omega arith,
  within_more (facts_in c.args.f.now) c.args.n c.args.i c.args.x c.kin_at-k.result c.loop-a.a c.is_within.result c.kin_at-k.ensures (omega arith) c.is_within.ensures c.loop-a.invariant.1 c.if-is_within.false,
)

pub returns : goal.returns
returns c =
    within_end (facts_in c.args.f.now) c.args.n c.args.i c.args.x c.loop-a.a (omega arith) c.loop-a.invariant.1
