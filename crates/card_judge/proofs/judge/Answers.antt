use mathlib.Core.Path.{ap}
use mathlib.Core.Bool.{not}
use Prim.Native.Nat.{◌-◌}
use native.Mathlib.Omega.{arith}
use Rattle.card_judge.specs.JudgeLaws.{root-length, judging-start, judged-from, judging-turn, judging-stop, judging-end, visit-asks}
use Rattle.card_judge.proofs.judge.Goals as goal

pub overflow_add-c : goal.overflow_add-c
overflow_add-c c = omega (arith, c.requires.1)

pub loop-c-init : goal.loop-c-init
loop-c-init c =
    let a = c.args in
    judging-start a.binds.now a.terms.now a.runs.now a.marks.now a.root c.requires.1 c.requires.2 c.put_u16.ensures c.requires.3

pub overflow_sub-c : goal.overflow_sub-c
overflow_sub-c c = omega arith

pub visit-requires : goal.visit-requires
visit-requires c =
    let a = c.args in
    visit-asks a.binds.now a.terms.now a.runs.now c.put_u16.new.s a.root c.requires.0 c.requires.1 (root-length a.binds.now a.terms.now a.runs.now a.marks.now a.root c.requires.1 c.requires.2 c.put_u16.ensures) c.loop-c.invariant (c.loop-c.c - 1) (omega arith)

pub returns-then-not-visit : goal.returns-then-not-visit
returns-then-not-visit c =
    let a = c.args in
    judged-from a.binds.now a.terms.now a.runs.now a.marks.now a.root c.requires.1 c.requires.2 c.put_u16.ensures (judging-stop a.binds.now a.terms.now a.runs.now c.put_u16.new.s a.root c.requires.0 c.requires.1 (root-length a.binds.now a.terms.now a.runs.now a.marks.now a.root c.requires.1 c.requires.2 c.put_u16.ensures) c.loop-c.invariant (c.loop-c.c - 1) (omega arith) c.visit.ensures.0 c.visit.ensures.1 (ap not c.if-not-visit.true))

pub loop-c-smaller : goal.loop-c-smaller
loop-c-smaller c = omega arith

pub loop-c-preserved : goal.loop-c-preserved
loop-c-preserved c =
    let a = c.args in
    judging-turn a.binds.now a.terms.now a.runs.now c.put_u16.new.s a.root c.requires.0 c.requires.1 (root-length a.binds.now a.terms.now a.runs.now a.marks.now a.root c.requires.1 c.requires.2 c.put_u16.ensures) c.loop-c.invariant (c.loop-c.c - 1) (omega arith) c.visit.ensures.0 c.visit.ensures.1 (ap not c.if-not-visit.false)

pub returns : goal.returns
returns c =
    let a = c.args in
    judged-from a.binds.now a.terms.now a.runs.now a.marks.now a.root c.requires.1 c.requires.2 c.put_u16.ensures (judging-end a.binds.now a.terms.now a.runs.now c.put_u16.new.s a.root c.requires.0 c.requires.1 (root-length a.binds.now a.terms.now a.runs.now a.marks.now a.root c.requires.1 c.requires.2 c.put_u16.ensures) (omega arith) c.loop-c.invariant)
