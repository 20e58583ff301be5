use Rattle.tracing.proofs.Walks.{walk_start, walk-facts, walk_turn, walk_end}
use Rattle.search_laws.specs.Walk.{walked_path, LAST}
use borrow.Author.Rules.{rules}
use Prim.Native.Nat.{ℕ}
use native.Mathlib.Omega.{arith}
use mathlib.Core.Path.{ap, ◌∙◌}
use mathlib.Core.List.{List}
use Rattle.tracing.proofs.trace.Goals as goal

pub loop-v-init : goal.loop-v-init
loop-v-init c = rw c.put_node.ensures (walk_start c.args.net.now c.args.path.now c.args.t c.requires.0 c.requires.1)

pub overflow_add-v : goal.overflow_add-v
overflow_add-v c = let h = walk-facts c.loop-v.invariant c.loop-v-test.true in search rules

pub offset_bounds-net-v : goal.offset_bounds-net-v
offset_bounds-net-v c = let h = walk-facts c.loop-v.invariant c.loop-v-test.true in search rules

pub bounds-net-v : goal.bounds-net-v
bounds-net-v c = let h = walk-facts c.loop-v.invariant c.loop-v-test.true in search rules

pub overflow_sub-at : goal.overflow_sub-at
overflow_sub-at c = let h = walk-facts c.loop-v.invariant c.loop-v-test.true in search rules

pub put_node-requires-in-loop-v : goal.put_node-requires-in-loop-v
put_node-requires-in-loop-v c = let h = walk-facts c.loop-v.invariant c.loop-v-test.true in let q = c.loop-v.invariant.low in omega arith

pub loop-v-smaller : goal.loop-v-smaller
loop-v-smaller c = let h = walk-facts c.loop-v.invariant c.loop-v-test.true in omega arith

pub loop-v-preserved : goal.loop-v-preserved
loop-v-preserved c = let l = c.loop-v in rw c.put_node-in-loop-v.ensures (walk_turn c.args.net.now c.args.t c.put_node.new.path l.path l.at l.v l.invariant c.loop-v-test.true)

pub returns : goal.returns
returns c =
    let l = c.loop-v in
    let a = c.args in
    let e = walk_end a.net.now a.t c.put_node.new.path l.path l.at l.v l.invariant c.loop-v-test.false in
    (l.invariant.low, l.invariant.size, e.0, e.1, e.2 ∙ ap (λ (z : List ℕ). walked_path a.net.now LAST a.t z) c.put_node.ensures)
