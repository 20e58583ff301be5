use Rattle.search_laws.specs.PathLaws.{left-source, left-row, left-sink, left_back}
use Prim.Native.Nat.{ℕ, ◌-◌, ◌*◌, ◌<◌}
use native.Mathlib.Omega.{arith}
use mathlib.Core.Path.{ap, ◌∙◌}
use lib.Arith.{digits_lt}
use lib.ListN.{get_or}
use borrow.Author.Rules.{rules}
use Rattle.cost_matrix.specs.Matrix.{cap_of}
use Rattle.augmenting_path.proofs.left_on.Goals as goal

-- the cell of a step is one of the problem's
pub overflow_sub-result : goal.overflow_sub-result
overflow_sub-result c = let h = c.requires.4.from_source c.if-u-eq0.true in search rules

pub offset_bounds-left-v : goal.offset_bounds-left-v
offset_bounds-left-v c = let h = c.requires.4.from_source c.if-u-eq0.true in search rules

pub bounds-left-v : goal.bounds-left-v
bounds-left-v c = let h = c.requires.4.from_source c.if-u-eq0.true in search rules

pub returns-then-u-eq0 : goal.returns-then-u-eq0
returns-then-u-eq0 c = let a = c.args in left-source a.costs.now a.flow.now a.left.now a.r a.c a.u a.v c.if-u-eq0.true

pub overflow_sub-v : goal.overflow_sub-v
overflow_sub-v c = let h = c.requires.4.from_row (omega arith) c.if-u-r.true in search rules

pub overflow_sub-v-then-u-r : goal.overflow_sub-v-then-u-r
overflow_sub-v-then-u-r c = let h = c.requires.4.from_row (omega arith) c.if-u-r.true in search rules

pub place-k-requires : goal.place-k-requires
place-k-requires c = let h = c.requires.4.from_row (omega arith) c.if-u-r.true in (omega arith, omega arith, omega arith)

pub overflow_mul-k : goal.overflow_mul-k
overflow_mul-k c = let h = (let it : c.place-k.result < c.args.r * c.args.c = let h = c.requires.4.from_row (omega arith) c.if-u-r.true in rw c.place-k.ensures (digits_lt (omega arith) (omega arith)) in it) in search rules

pub overflow_add-k : goal.overflow_add-k
overflow_add-k c = let h = (let it : c.place-k.result < c.args.r * c.args.c = let h = c.requires.4.from_row (omega arith) c.if-u-r.true in rw c.place-k.ensures (digits_lt (omega arith) (omega arith)) in it) in search rules

pub offset_bounds-costs-k : goal.offset_bounds-costs-k
offset_bounds-costs-k c = let h = (let it : c.place-k.result < c.args.r * c.args.c = let h = c.requires.4.from_row (omega arith) c.if-u-r.true in rw c.place-k.ensures (digits_lt (omega arith) (omega arith)) in it) in search rules

pub bounds-costs-k : goal.bounds-costs-k
bounds-costs-k c = let h = (let it : c.place-k.result < c.args.r * c.args.c = let h = c.requires.4.from_row (omega arith) c.if-u-r.true in rw c.place-k.ensures (digits_lt (omega arith) (omega arith)) in it) in search rules

pub offset_bounds-flow-k : goal.offset_bounds-flow-k
offset_bounds-flow-k c = let h = (let it : c.place-k.result < c.args.r * c.args.c = let h = c.requires.4.from_row (omega arith) c.if-u-r.true in rw c.place-k.ensures (digits_lt (omega arith) (omega arith)) in it) in search rules

pub bounds-flow-k : goal.bounds-flow-k
bounds-flow-k c = let h = (let it : c.place-k.result < c.args.r * c.args.c = let h = c.requires.4.from_row (omega arith) c.if-u-r.true in rw c.place-k.ensures (digits_lt (omega arith) (omega arith)) in it) in search rules

pub returns-then-u-r : goal.returns-then-u-r
returns-then-u-r c = let a = c.args in
    c.saturating_sub.ensures ∙ ap (λ (k : ℕ). cap_of a.costs.now k - get_or a.flow.now k 0) c.place-k.ensures ∙ left-row a.costs.now a.flow.now a.left.now a.r a.c a.u a.v c.if-u-eq0.false c.if-u-r.true

pub overflow_add-result : goal.overflow_add-result
overflow_add-result c = let h = c.requires.4.from_column (omega arith) in search rules

pub offset_bounds-left-u : goal.offset_bounds-left-u
offset_bounds-left-u c = let h = c.requires.4.from_column (omega arith) in search rules

pub bounds-left-u : goal.bounds-left-u
bounds-left-u c = let h = c.requires.4.from_column (omega arith) in search rules

pub returns-then-v-r : goal.returns-then-v-r
returns-then-v-r c = let a = c.args in left-sink a.costs.now a.flow.now a.left.now a.r a.c a.u a.v c.if-u-eq0.false (omega arith) c.if-v-r.true

pub overflow_sub-v-2 : goal.overflow_sub-v-2
overflow_sub-v-2 c = let h = c.requires.4.from_column (omega arith) in let q = c.requires.4.to_row (omega arith) c.if-v-r.false in search rules

pub place-k-requires-2 : goal.place-k-requires-2
place-k-requires-2 c = let h = c.requires.4.from_column (omega arith) in let q = c.requires.4.to_row (omega arith) c.if-v-r.false in (omega arith, omega arith, omega arith)

pub offset_bounds-flow-k-2 : goal.offset_bounds-flow-k-2
offset_bounds-flow-k-2 c = let h = (let it : c.place-k-2.result < c.args.r * c.args.c = let h = c.requires.4.from_column (omega arith) in let q = c.requires.4.to_row (omega arith) c.if-v-r.false in rw c.place-k-2.ensures (digits_lt (omega arith) (omega arith)) in it) in search rules

pub bounds-flow-k-2 : goal.bounds-flow-k-2
bounds-flow-k-2 c = let h = (let it : c.place-k-2.result < c.args.r * c.args.c = let h = c.requires.4.from_column (omega arith) in let q = c.requires.4.to_row (omega arith) c.if-v-r.false in rw c.place-k-2.ensures (digits_lt (omega arith) (omega arith)) in it) in search rules

pub returns : goal.returns
returns c = let a = c.args in
    ap (λ (k : ℕ). get_or a.flow.now k 0) c.place-k-2.ensures ∙ left_back a.costs.now a.flow.now a.left.now a.r a.c a.u a.v c.if-u-eq0.false (omega arith) c.if-v-r.false
