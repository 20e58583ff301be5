-- an accepted image is the one that the bytes hold, and valid
use Rattle.std.proofs.Common.{sym}
use Rattle.spec.specs.Image.{tables_of}
use Rattle.laws.specs.Accepted.{valid}
use Rattle.judge.specs.Judged.{judged}
use Rattle.representation.proofs.query.Goals as goal

pub accepted-requires : goal.accepted-requires
accepted-requires g c =
    let s = c.args.s.now in
    let j = judged s c.judge-v.ensures c.in-Accepted.is in
    (j.carries, valid s (tables_of s) (sym j.result))
