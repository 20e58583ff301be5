use Rattle.skipped_pairs.proofs.Choices.{left-none, left_here, left-beside}
use Rattle.skipped_pairs.specs.Held.{facts_in}
use Rattle.skips.specs.Facts.{kin_with, kin_within}
use Rattle.skipped_pairs.proofs.left_again.Goals as goal

pub returns-then-not-kin_within : goal.returns-then-not-kin_within
returns-then-not-kin_within c = left-none (facts_in c.args.f.now) c.args.i c.args.x _ _ c.kin_within.ensures c.if-not-kin_within.true

pub returns-then-kin_with : goal.returns-then-kin_with
returns-then-kin_with c =
    left_here (kin_with (facts_in c.args.f.now) c.args.i c.args.i c.args.x) (kin_within (facts_in c.args.f.now) c.args.i c.args.i c.args.x) (kin_with (facts_in c.args.g.now) c.args.n c.args.j c.args.x) _ c.kin_with.ensures c.if-kin_with.true

pub returns : goal.returns
returns c =
    left-beside (kin_with (facts_in c.args.f.now) c.args.i c.args.i c.args.x) (kin_within (facts_in c.args.f.now) c.args.i c.args.i c.args.x) (kin_with (facts_in c.args.g.now) c.args.n c.args.j c.args.x) _ _ _ c.kin_within.ensures c.if-not-kin_within.false c.kin_with.ensures c.if-kin_with.false c.kin_with-2.ensures
