use Rattle.card_syntax.specs.PassLaws.{count_none, count-below, count-above, count_most, count-more}
use native.Mathlib.Omega.{arith}
use mathlib.Core.Logic.{⊎_elim}
use Rattle.card_syntax.proofs.count.Goals as goal

pub returns-then-n-eq0 : goal.returns-then-n-eq0
returns-then-n-eq0 c = let a = c.args in (tt, λ k S. count_none a.frames.now a.n a.low k S c.if-n-eq0.true)

pub returns-then-x-low : goal.returns-then-x-low
returns-then-x-low c = let a = c.args in (tt, λ k S. count-below a.frames.now a.n a.low k S c.if-n-eq0.false c.if-x-low.true)

pub returns-then-x-low-gt2 : goal.returns-then-x-low-gt2
returns-then-x-low-gt2 c = let a = c.args in (tt, λ k S. count-above a.frames.now a.n a.low k S c.if-n-eq0.false c.if-x-low.false c.if-x-low-gt2.true)

pub overflow_add-x : goal.overflow_add-x
overflow_add-x c = ⊎_elim (λ e. record { fits = omega arith }) (λ e. record { fits = omega arith }) c.requires.1

pub returns-then-x-low-lt2 : goal.returns-then-x-low-lt2
returns-then-x-low-lt2 c = let a = c.args in (omega arith, λ k S. rw c.put_u64.ensures (count-more a.frames.now a.n a.low k S c.if-n-eq0.false c.if-x-low.false c.requires.1 c.if-x-low-lt2.true c.requires.0))

pub returns-else-x-low-lt2 : goal.returns-else-x-low-lt2
returns-else-x-low-lt2 c = let a = c.args in (omega arith, λ k S. count_most a.frames.now a.n a.low k S c.if-n-eq0.false c.if-x-low.false c.requires.1 (omega (arith, c.if-x-low-lt2.false, c.if-x-low-gt2.false)))
