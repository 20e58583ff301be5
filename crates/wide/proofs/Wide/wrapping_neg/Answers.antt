use Rattle.std.proofs.Common.{arith, rules}
use Rattle.wide.specs.Wrap.{neg-by-words}
use Rattle.wide.proofs.Wide.wrapping_neg.Goals as goal

pub returns : goal.returns
returns c =
    let a = c.args in
    let l = c.sub_word-under in
    let h = c.sub_word-over in
    neg-by-words a.self l.result.word l.result.carry h.result.word h.result.carry l.ensures.0 h.ensures.0
    (omega arith) (omega arith) (omega arith) (omega arith) l.ensures.1 h.ensures.1
