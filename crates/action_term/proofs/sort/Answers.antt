use Rattle.terms.specs.Buffers.{pool_of, count_in}
use Rattle.action_term.specs.SortLaws.{sort-start, sort-requires, sort-turn, sort-end}
use Prim.Native.Nat.{◌-◌}
use native.Mathlib.Omega.{arith}
use mathlib.Core.Path.{◌≡◌, refl, ◌∙◌}
use Rattle.action_term.proofs.sort.Goals as goal

pub loop-i-init : goal.loop-i-init
loop-i-init c =
    let a = c.args in
    (omega arith, refl, sort-start (pool_of a.terms.now a.runs.now) a.list.now a.n)

pub insert-requires : goal.insert-requires
insert-requires c =
    let a = c.args in
    (c.requires.0, omega arith, omega arith, sort-requires (pool_of a.terms.now a.runs.now) a.list.now c.loop-i.list c.loop-i.i (c.loop-i.i - 1) a.n (omega arith) (omega arith) c.requires.1 c.loop-i.invariant.2 (count_in a.terms.now) c.requires.2)

pub loop-i-preserved : goal.loop-i-preserved
loop-i-preserved c =
    let a = c.args in
    (omega arith, omega arith, sort-turn (pool_of a.terms.now a.runs.now) a.list.now c.loop-i.list c.loop-i.i (c.loop-i.i - 1) a.n (omega arith) (omega arith) c.requires.1 c.loop-i.invariant.2 _ c.insert.ensures)

pub returns : goal.returns
returns c =
    let a = c.args in
    let e : c.loop-i.i ≡ 0 = omega arith in
    rw e at c.loop-i.invariant.2 ∙ sort-end (pool_of a.terms.now a.runs.now) a.list.now a.n
