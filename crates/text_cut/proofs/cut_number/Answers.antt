use Rattle.text_cut.specs.CutLaws.{number-over, number-missing, number-there}
use Rattle.text_cut.proofs.cut_number.Goals as goal

pub returns-then-most-v : goal.returns-then-most-v
returns-then-most-v c =
    number-over c.args.most c.args.text.now c.args.at c.lead-v.result c.lead-v.ensures c.if-most-v.true

pub returns : goal.returns
returns c =
    number-there c.args.most c.args.text.now c.args.at c.lead-v.result c.lead-v.ensures c.if-most-v.false _ c.in_ok-e.ensures

pub returns-in_err-e : goal.returns-in_err-e
returns-in_err-e c =
    rw c.from_residual.ensures (number-missing c.args.most c.args.text.now c.args.at c.lead-v.result c.lead-v.ensures c.if-most-v.false c.in_err-e.ensures)
