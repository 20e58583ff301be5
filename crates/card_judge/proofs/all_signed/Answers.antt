use native.Mathlib.Omega.{arith}
use Rattle.terms.specs.Buffers.{count_in}
use Rattle.card_judge.specs.MarkLaws.{cleared-length, cleared-none, cleared-again}
use Rattle.card_judge.proofs.all_signed.Goals as goal

pub judge-r-requires : goal.judge-r-requires
judge-r-requires c =
    let a = c.args in
    rw (c.clear_marks.ensures, c.count-n.ensures.0) (c.requires.0, c.requires.1, omega (arith, cleared-length (count_in a.terms.now) a.marks.now c.requires.2, c.requires.2), cleared-none (count_in a.terms.now) a.marks.now)

pub returns : goal.returns
returns c =
    let a = c.args in
    (c.judge-r.ensures.answer, cleared-again (count_in a.terms.now) a.marks.now c.judge-r.new.marks c.count-n.ensures.0 c.clear_marks.ensures c.judge-r.ensures.rest c.clear_marks-2.ensures)
