use Rattle.judge.specs.Judged.{judged}
use lib.ListN.{length}
use Rattle.query.specs.Settings.{limits_of}
use Rattle.prepare.specs.PreparingLaws.{image-refused}
use native.Mathlib.Omega.{arith}
use mathlib.Core.Path.{refl, sym}
use Rattle.prepare.proofs.prepare.Goals as goal

pub start-requires : goal.start-requires
start-requires c =
    let s = c.args.s.now in
    let e = c.in-Accepted.is in
    let j = judged s c.judge-v.ensures e in
    (j.carries, sym j.result, c.requires.0, c.requires.1)

pub returns-in-Refused : goal.returns-in-Refused
returns-in-Refused c =
    let s = c.args.s.now in
    let e = c.in-Refused.is in
    let j = judged s c.judge-v.ensures e in
    (image-refused (limits_of c.args.lim) (length c.args.graph.now) s c.args.q c.in-Refused.k j.result, λ z. absurd (omega (arith, z, j.carries)), (refl, refl, refl))

pub returns-in-Doubled : goal.returns-in-Doubled
returns-in-Doubled c =
    let s = c.args.s.now in
    let e = c.in-Doubled.is in
    let j = judged s c.judge-v.ensures e in
    (image-refused (limits_of c.args.lim) (length c.args.graph.now) s c.args.q 10 j.result, j.carries, (refl, refl, refl))
