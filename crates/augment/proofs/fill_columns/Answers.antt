use Rattle.augment.proofs.Balances.{column-reads, columns-turn}
use Prim.Native.Nat.{ℕ, ◌-◌, ◌+◌}
use native.Mathlib.Omega.{arith}
use mathlib.Core.Path.{◌≡◌, ap, ◌∙◌}
use lib.ListN.{get_or, set}
use Rattle.augment.specs.Balance.{column_sum}
use Rattle.search_laws.specs.Edges.{TAKEN}
use Rattle.spec.specs.Transport.{WIDEST}
use Rattle.augment.proofs.fill_columns.Goals as goal

pub loop-j-init : goal.loop-j-init
loop-j-init c = (omega arith, record { size = c.requires.3; demands = λ i h. absurd (omega arith); taken = λ k h. absurd (omega arith) })

pub sum_every-s-requires : goal.sum_every-s-requires
sum_every-s-requires c = (c.requires.0, c.requires.1, λ i hi. column-reads c.args.r c.args.c c.args.flow.now c.requires.4 c.loop-j.j (omega arith) i hi)

pub loop-j-preserved : goal.loop-j-preserved
loop-j-preserved c = let a = c.args in let l = c.loop-j in
    let s : c.sum_every-s.result ≡ column_sum a.flow.now a.r a.c l.j = c.sum_every-s.ensures in
    let e : c.put_left-in-loop-j.new.left ≡ set (set l.left (WIDEST + l.j) (get_or a.demand.now l.j 0 - column_sum a.flow.now a.r a.c l.j)) (TAKEN + l.j) (column_sum a.flow.now a.r a.c l.j)
    = c.put_left-in-loop-j.ensures ∙ (λ k. set ((c.put_left.ensures ∙ ap (λ (x : ℕ). set l.left (WIDEST + l.j) x) (c.saturating_sub.ensures ∙ (λ k. c.long_u32.ensures.0 k - s k))) k) (TAKEN + l.j) (s k)) in
    (omega arith, rw e (columns-turn a.r a.c a.demand.now a.flow.now l.left l.j (omega arith) l.invariant.1))

pub returns : goal.returns
returns c = let l = c.loop-j in let e : l.j ≡ c.args.c = omega arith in rw e at l.invariant.1
