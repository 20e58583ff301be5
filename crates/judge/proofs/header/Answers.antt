use Rattle.judge.proofs.VerdictLaws.{header_is}
use Rattle.judge.proofs.header.Goals as goal

pub returns : goal.returns
returns c =
    header_is c.args.s.now c.be2.ensures.0 c.be2-2.ensures.0 c.be2-3.ensures.0
    c.be2-4.ensures.0 c.of.ensures
