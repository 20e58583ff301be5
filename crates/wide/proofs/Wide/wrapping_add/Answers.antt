use Rattle.std.proofs.Common.{arith, rules}
use Rattle.wide.specs.Wrap.{add-by-words}
use Rattle.wide.proofs.Wide.wrapping_add.Goals as goal

pub returns : goal.returns
returns c =
    let a = c.args in
    let l = c.add_word-under in
    let h = c.add_word-over in
    add-by-words a.self a.b l.result.word l.result.carry h.result.word h.result.carry l.ensures.0 h.ensures.0 (omega arith) (omega arith)
