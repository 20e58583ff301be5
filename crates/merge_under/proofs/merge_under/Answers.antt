use Rattle.std.proofs.Common.{ap, ◌∙◌}
use Rattle.query.specs.Settings.{limits_of}
use Rattle.pair_count.specs.declared.Count.{Count}
use Rattle.prepare.specs.PreparingLaws.{keys-few}
use Rattle.merge_under.specs.Counts.{table-counts}
use Rattle.merge_under.specs.UnderLaws.{prepared-stands, roomy_after}
use Rattle.merge_under.proofs.merge_under.Goals as goal

-- src/lib.rt:87:9
pub keys_of-from-requires : goal.keys_of-from-requires
keys_of-from-requires c =
    let a = c.args in
    let p = c.prepare-p in
    keys-few (limits_of a.lim) a.s.now a.q p.result a.graph.now a.terms.now a.runs.now p.new.graph p.new.terms p.new.runs p.ensures

-- src/lib.rt:90:9
pub finish-a-requires : goal.finish-a-requires
finish-a-requires c =
    let a = c.args in
    let p = c.prepare-p in
    let stands = prepared-stands (limits_of a.lim) a.s.now a.q p.result a.graph.now a.terms.now a.runs.now p.new.graph p.new.terms p.new.runs p.auto.graph p.ensures in
    let counts = rw (c.keys_of-from.ensures, c.pairs_of-n.ensures) at c.enter_graph-c.ensures.0 in (
      stands,
      roomy_after c.requires.2 p.auto.graph p.auto.terms p.auto.runs,
      ap (λ (x : Count). x.pairs) counts ∙ table-counts (limits_of a.lim) c.requires.0 a.s.now a.q p.result p.new.graph p.new.terms p.new.runs a.table.now c.requires.1 stands,
    )
