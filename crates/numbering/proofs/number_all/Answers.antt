use Rattle.numbering.specs.VisitLaws.{root-start, root-finish}
use Rattle.numbering.proofs.number_all.Goals as goal

pub number-requires : goal.number-requires
number-requires c =
    let a = c.args in
    (c.requires.0, c.requires.1, root-start a.terms.now a.runs.now a.marks.now c.count-m.result _ c.requires.0 c.count-m.ensures.0 c.clear_marks.ensures c.requires.2)

pub returns : goal.returns
returns c =
    let a = c.args in
    root-finish a.terms.now a.runs.now a.marks.now c.count-m.result _ c.requires.0 c.count-m.ensures.0 c.clear_marks.ensures a.root _ c.number.result c.number.ensures.0 c.number.ensures.1
