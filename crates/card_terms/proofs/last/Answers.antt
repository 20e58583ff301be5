use Rattle.query.specs.Settings.{limits_of}
use Rattle.card_terms.proofs.ReadLaws.{last-topped, last-full, last-only, last-inside, last-term}
use native.Mathlib.Omega.{arith}
use Rattle.card_terms.proofs.last.Goals as goal

pub reduce-requires : goal.reduce-requires
reduce-requires c =
    let a = c.args in
    (c.requires.0, c.requires.1, last-topped (limits_of a.lim) a.table.now a.terms.now a.runs.now a.frames.now a.top c.requires.3, c.requires.2)

pub bounds-frames-0 : goal.bounds-frames-0
bounds-frames-0 c =
    let a = c.args in
    let d = c.reduce in
    let o = last-only (limits_of a.lim) a.table.now a.terms.now a.runs.now a.frames.now a.top c.requires.3 _ _ _ d.result d.ensures _ c.in_ok-reduce.was in
    let i = last-inside (limits_of a.lim) a.table.now a.terms.now a.runs.now a.frames.now a.top c.requires.3 _ _ _ d.result d.ensures _ c.in_ok-reduce.was in
    omega (arith, o.one, i)

pub overflow_sub-frames : goal.overflow_sub-frames
overflow_sub-frames c =
    let a = c.args in
    let d = c.reduce in
    omega (arith, (last-only (limits_of a.lim) a.table.now a.terms.now a.runs.now a.frames.now a.top c.requires.3 d.new.terms d.new.runs d.new.frames d.result d.ensures c.in_ok-reduce.field-0 c.in_ok-reduce.was).term)

pub returns : goal.returns
returns c =
    let a = c.args in
    let d = c.reduce in
    last-term (limits_of a.lim) a.table.now a.terms.now a.runs.now a.frames.now a.top c.requires.3 _ _ _ d.result d.ensures _ c.in_ok-reduce.was _ c.size_u64.ensures

pub returns-in_err-reduce : goal.returns-in_err-reduce
returns-in_err-reduce c =
    let a = c.args in
    let d = c.reduce in
    rw c.from_residual.ensures (last-full (limits_of a.lim) a.table.now a.terms.now a.runs.now a.frames.now a.top c.requires.3 _ _ _ d.result d.ensures c.in_err-reduce.was)
