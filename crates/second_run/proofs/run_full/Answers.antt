use Rattle.std.proofs.Common.{length}
use Rattle.second_run.specs.TwiceLaws.{merges-full}
use Rattle.second_run.proofs.run_full.Goals as goal

-- src/lib.rt:60:1
pub returns : goal.returns
returns c =
    let a = c.args in
    merges-full a.s.now a.q c.limits_of-lim.result c.limits_of-lim.ensures (length a.graph.now) c.requires.graph a.out.now c.merge_under.new.out c.merge_under.result c.merge_under.ensures.0
