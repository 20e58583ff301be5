use Rattle.augment.proofs.Balances.{row_reads, rows-turn}
use borrow.Author.Rules.{rules}
use Prim.Native.Nat.{ℕ, ◌-◌}
use native.Mathlib.Omega.{arith}
use mathlib.Core.Path.{◌≡◌, refl, ap, ◌∙◌}
use lib.ListN.{get_or, set}
use Rattle.cost_matrix.specs.Places.{row_fits}
use Rattle.augment.specs.Balance.{row_sum}
use Rattle.augment.proofs.fill_rows.Goals as goal

pub loop-i-init : goal.loop-i-init
loop-i-init c = (omega arith, record { size = c.requires.3; supplies = λ i h. absurd (omega arith); other = λ k h. refl })

pub overflow_mul-i : goal.overflow_mul-i
overflow_mul-i c = let a = c.args in let h = row_fits c.loop-i.i a.r a.c (omega arith) in let q = c.requires.4.room in search rules

pub sum_every-s-requires : goal.sum_every-s-requires
sum_every-s-requires c = (c.requires.1, omega arith, λ j hj. row_reads c.args.r c.args.c c.args.flow.now c.requires.4 c.loop-i.i (omega arith) j hj)

pub loop-i-preserved : goal.loop-i-preserved
loop-i-preserved c = let a = c.args in let l = c.loop-i in
    let e : c.put_left.new.left ≡ set l.left l.i (get_or a.supply.now l.i 0 - row_sum a.flow.now a.c l.i)
    = c.put_left.ensures ∙ ap (λ (x : ℕ). set l.left l.i x) (c.saturating_sub.ensures ∙ (λ k. c.long_u32.ensures.0 k - c.sum_every-s.ensures k)) in
    (omega arith, rw e (rows-turn a.r a.c a.supply.now a.flow.now a.left.now l.left l.i (omega arith) l.invariant.1))

pub returns : goal.returns
returns c = let l = c.loop-i in let e : l.i ≡ c.args.r = omega arith in rw e at l.invariant.1
