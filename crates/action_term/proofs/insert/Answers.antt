use Rattle.terms.specs.Buffers.{pool_of, count_in}
use Rattle.action_term.specs.SortLaws.{moving-start, moving-end, moving-stop, moving-turn, moving-left, moving-right}
use Prim.Native.Nat.{◌-◌}
use native.Mathlib.Omega.{arith}
use mathlib.Core.Path.{◌≡◌, sym, ◌∙◌}
use lib.ListN.{get_or}
use Rattle.action_term.proofs.insert.Goals as goal

pub loop-j-init : goal.loop-j-init
loop-j-init c =
    let a = c.args in
    moving-start (pool_of a.terms.now a.runs.now) a.list.now a.i a.n (get_or a.list.now a.i 0) c.requires.1

pub is_greater-requires : goal.is_greater-requires
is_greater-requires c =
    let a = c.args in
    (c.requires.0, rw c.child.ensures.0 (moving-left (pool_of a.terms.now a.runs.now) a.list.now a.i a.n (get_or a.list.now a.i 0) c.loop-j.list c.loop-j.j c.loop-j.invariant c.requires.2 (count_in a.terms.now) c.requires.3), rw c.child-in-loop-j.ensures.0 (moving-right (pool_of a.terms.now a.runs.now) a.list.now a.i a.n (get_or a.list.now a.i 0) c.loop-j.list c.loop-j.j c.loop-j.invariant c.requires.2 (count_in a.terms.now) (omega arith) c.requires.3))

pub returns-then-not-is_greater : goal.returns-then-not-is_greater
returns-then-not-is_greater c =
    let a = c.args in
    let g = rw (c.child.ensures.0, c.child-in-loop-j.ensures.0) at c.is_greater.ensures in
    rw c.put_u64.ensures (moving-stop (pool_of a.terms.now a.runs.now) a.list.now a.i a.n (get_or a.list.now a.i 0) c.loop-j.list c.loop-j.j c.loop-j.invariant c.requires.2 (omega arith) (sym g ∙ c.if-not-is_greater.true))

pub loop-j-preserved : goal.loop-j-preserved
loop-j-preserved c =
    let a = c.args in
    let g = rw (c.child.ensures.0, c.child-in-loop-j.ensures.0) at c.is_greater.ensures in
    rw c.put_u64-in-loop-j.ensures (moving-turn (pool_of a.terms.now a.runs.now) a.list.now a.i a.n (get_or a.list.now a.i 0) c.loop-j.list c.loop-j.j c.loop-j.invariant c.requires.2 (omega arith) (sym g ∙ c.if-not-is_greater.false))

pub returns : goal.returns
returns c =
    let a = c.args in
    let e : a.n - 1 ≡ c.loop-j.j = omega arith in
    rw (c.put_u64-2.ensures, e) (moving-end (pool_of a.terms.now a.runs.now) a.list.now a.i a.n (get_or a.list.now a.i 0) c.loop-j.list c.loop-j.j c.loop-j.invariant c.requires.2 (omega arith))
