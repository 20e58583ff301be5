use Rattle.terms.specs.Buffers.{part}
use Rattle.term_order.specs.CompareLaws.{apart-children, apart-shorter, apart-longer, differs-by}
use Prim.Native.Nat.{◌-◌, ◌+◌}
use native.Mathlib.Omega.{arith}
use mathlib.Core.Path.{sym, ◌∙◌}
use lib.ListN.{get_or}
use Rattle.term_order.proofs.apart.Goals as goal

pub returns-then-a-b : goal.returns-then-a-b
returns-then-a-b c =
    let a = c.args in
    let x = c.child-a.ensures.0 in
    let y = c.child-b.ensures.0 in
    differs-by (apart-children (get_or a.runs.now a.i 0) (part a.runs.now (a.i + 1) (a.m - (a.i + 1))) (get_or a.runs.now a.j 0) (part a.runs.now (a.j + 1) (a.n - (a.j + 1))) (λ e. c.if-a-b.true (x ∙ e ∙ sym y))) x y

pub returns-then-times : goal.returns-then-times
returns-then-times c =
    let a = c.args in
    let x = c.child-a.ensures.0 in
    let y = c.child-b.ensures.0 in
    differs-by (apart-shorter (get_or a.runs.now a.i 0) (part a.runs.now (a.i + 1) (a.m - (a.i + 1))) (get_or a.runs.now a.j 0) (part a.runs.now (a.j + 1) (a.n - (a.j + 1))) (sym x ∙ c.if-a-b.false ∙ y) (omega (arith, c.times.ensures, c.times-2.ensures, c.if-times.true))) c.child_at.ensures y

pub returns : goal.returns
returns c =
    let a = c.args in
    let x = c.child-a.ensures.0 in
    let y = c.child-b.ensures.0 in
    differs-by (apart-longer (get_or a.runs.now a.i 0) (part a.runs.now (a.i + 1) (a.m - (a.i + 1))) (get_or a.runs.now a.j 0) (part a.runs.now (a.j + 1) (a.n - (a.j + 1))) (sym x ∙ c.if-a-b.false ∙ y) (omega (arith, c.times.ensures, c.times-2.ensures, c.if-times.false))) x c.child_at-2.ensures
