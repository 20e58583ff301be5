use Rattle.card_to_lines.specs.LineLaws.{listed-answers}
use Rattle.card_to_lines.proofs.list_term.Goals as goal

-- src/lib.rt:37:1
pub returns : goal.returns
returns c =
    listed-answers c.args.terms.now c.args.runs.now c.args.root c.args.marks.now c.args.out.now _ _ c.list_behind-w.result _ c.answer_of.ensures c.list_behind-w.ensures
