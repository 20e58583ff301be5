use lib.Arith.{digits_lt}
use Rattle.search_laws.specs.PathLaws.{sent-source, sent-row, sent-sink, sent_back}
use Prim.Native.Nat.{ℕ, ◌-◌, ◌+◌, ◌*◌, ◌<◌}
use native.Mathlib.Omega.{arith}
use mathlib.Core.Path.{ap, ◌∙◌}
use lib.ListN.{get_or, set}
use borrow.Author.Rules.{rules}
use Rattle.sending.proofs.send_on.Goals as goal

-- the cell of a step is one of the problem's
pub returns-then-u-eq0 : goal.returns-then-u-eq0
returns-then-u-eq0 c = let a = c.args in sent-source a.r a.c a.n a.u a.v a.flow.now c.if-u-eq0.true

pub overflow_sub-v : goal.overflow_sub-v
overflow_sub-v c = let h = c.requires.3.from_row (omega arith) c.if-u-r.true in search rules

pub overflow_sub-v-then-u-r : goal.overflow_sub-v-then-u-r
overflow_sub-v-then-u-r c = let h = c.requires.3.from_row (omega arith) c.if-u-r.true in search rules

pub place-k-requires : goal.place-k-requires
place-k-requires c = let h = c.requires.3.from_row (omega arith) c.if-u-r.true in (omega arith, omega arith, omega arith)

pub offset_bounds-flow-k : goal.offset_bounds-flow-k
offset_bounds-flow-k c = let h = (let it : c.place-k.result < c.args.r * c.args.c = let h = c.requires.3.from_row (omega arith) c.if-u-r.true in rw c.place-k.ensures (digits_lt (omega arith) (omega arith)) in it) in search rules

pub bounds-flow-k : goal.bounds-flow-k
bounds-flow-k c = let h = (let it : c.place-k.result < c.args.r * c.args.c = let h = c.requires.3.from_row (omega arith) c.if-u-r.true in rw c.place-k.ensures (digits_lt (omega arith) (omega arith)) in it) in search rules

pub overflow_add-x : goal.overflow_add-x
overflow_add-x c = record { fits = c.requires.4 c.place-k.result ((let it : c.place-k.result < c.args.r * c.args.c = let h = c.requires.3.from_row (omega arith) c.if-u-r.true in rw c.place-k.ensures (digits_lt (omega arith) (omega arith)) in it)) }

pub put_u64-requires : goal.put_u64-requires
put_u64-requires c = let h = (let it : c.place-k.result < c.args.r * c.args.c = let h = c.requires.3.from_row (omega arith) c.if-u-r.true in rw c.place-k.ensures (digits_lt (omega arith) (omega arith)) in it) in search rules

pub returns-then-u-r : goal.returns-then-u-r
returns-then-u-r c = let a = c.args in
    c.put_u64.ensures ∙ ap (λ (k : ℕ). set a.flow.now k (get_or a.flow.now k 0 + a.n)) c.place-k.ensures ∙ sent-row a.r a.c a.n a.u a.v a.flow.now c.if-u-eq0.false c.if-u-r.true

pub returns-then-v-r : goal.returns-then-v-r
returns-then-v-r c = let a = c.args in sent-sink a.r a.c a.n a.u a.v a.flow.now c.if-u-eq0.false (omega arith) c.if-v-r.true

pub overflow_sub-v-2 : goal.overflow_sub-v-2
overflow_sub-v-2 c = let h = c.requires.3.from_column (omega arith) in let q = c.requires.3.to_row (omega arith) c.if-v-r.false in search rules

pub place-k-requires-2 : goal.place-k-requires-2
place-k-requires-2 c = let h = c.requires.3.from_column (omega arith) in let q = c.requires.3.to_row (omega arith) c.if-v-r.false in (omega arith, omega arith, omega arith)

pub offset_bounds-flow-k-2 : goal.offset_bounds-flow-k-2
offset_bounds-flow-k-2 c = let h = (let it : c.place-k-2.result < c.args.r * c.args.c = let h = c.requires.3.from_column (omega arith) in let q = c.requires.3.to_row (omega arith) c.if-v-r.false in rw c.place-k-2.ensures (digits_lt (omega arith) (omega arith)) in it) in search rules

pub bounds-flow-k-2 : goal.bounds-flow-k-2
bounds-flow-k-2 c = let h = (let it : c.place-k-2.result < c.args.r * c.args.c = let h = c.requires.3.from_column (omega arith) in let q = c.requires.3.to_row (omega arith) c.if-v-r.false in rw c.place-k-2.ensures (digits_lt (omega arith) (omega arith)) in it) in search rules

pub put_u64-requires-2 : goal.put_u64-requires-2
put_u64-requires-2 c = let h = (let it : c.place-k-2.result < c.args.r * c.args.c = let h = c.requires.3.from_column (omega arith) in let q = c.requires.3.to_row (omega arith) c.if-v-r.false in rw c.place-k-2.ensures (digits_lt (omega arith) (omega arith)) in it) in search rules

pub returns : goal.returns
returns c = let a = c.args in
    c.put_u64-2.ensures ∙ ap (λ (x : ℕ). set a.flow.now c.place-k-2.result x) c.less-x.ensures ∙ ap (λ (k : ℕ). set a.flow.now k (get_or a.flow.now k 0 - a.n)) c.place-k-2.ensures ∙ sent_back a.r a.c a.n a.u a.v a.flow.now c.if-u-eq0.false (omega arith) c.if-v-r.false
