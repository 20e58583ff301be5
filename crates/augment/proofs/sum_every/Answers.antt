use Rattle.augment.proofs.Balances.{sum-turn, next_place, first-place}
use Rattle.spec.specs.Bytes.{sum_to}
use borrow.Author.Rules.{rules}
use Prim.Native.Nat.{ℕ, ◌<◌, ◌+◌, ◌*◌, ◌^◌}
use native.Mathlib.Omega.{arith}
use mathlib.Core.Path.{◌≡◌, refl, ap}
use lib.ListN.{length, get_or}
use Rattle.augment.proofs.sum_every.Goals as goal

pub loop-i-init : goal.loop-i-init
unfolding sum_to
loop-i-init c = (omega arith, first-place c.args.k c.args.d, refl, omega arith)

pub offset_bounds-flow-at : goal.offset_bounds-flow-at
offset_bounds-flow-at c = let l = c.loop-i in let a = c.args in let h = c.requires.2 l.i (omega arith) in let e : l.at ≡ a.k + l.i * a.d = l.invariant.1 in let q : get_or a.flow.now l.at 0 < 2 ^ 32 = rw e h.1 in let p : l.at < length a.flow.now = rw e h.0 in search rules

pub bounds-flow-at : goal.bounds-flow-at
bounds-flow-at c = let l = c.loop-i in let a = c.args in let h = c.requires.2 l.i (omega arith) in let e : l.at ≡ a.k + l.i * a.d = l.invariant.1 in let q : get_or a.flow.now l.at 0 < 2 ^ 32 = rw e h.1 in let p : l.at < length a.flow.now = rw e h.0 in omega arith

pub overflow_add-s : goal.overflow_add-s
overflow_add-s c = let l = c.loop-i in let a = c.args in let h = c.requires.2 l.i (omega arith) in let e : l.at ≡ a.k + l.i * a.d = l.invariant.1 in let q : get_or a.flow.now l.at 0 < 2 ^ 32 = rw e h.1 in let p : l.at < length a.flow.now = rw e h.0 in record { fits = omega arith }

pub overflow_add-at : goal.overflow_add-at
overflow_add-at c = let l = c.loop-i in let a = c.args in let h = c.requires.2 l.i (omega arith) in let e : l.at ≡ a.k + l.i * a.d = l.invariant.1 in let q : get_or a.flow.now l.at 0 < 2 ^ 32 = rw e h.1 in let p : l.at < length a.flow.now = rw e h.0 in record { fits = omega arith }

pub loop-i-preserved : goal.loop-i-preserved
loop-i-preserved c = let l = c.loop-i in let a = c.args in let h = c.requires.2 l.i (omega arith) in let e : l.at ≡ a.k + l.i * a.d = l.invariant.1 in let q : get_or a.flow.now l.at 0 < 2 ^ 32 = rw e h.1 in let p : l.at < length a.flow.now = rw e h.0 in (omega arith, next_place l.at a.k l.i a.d e, (omega (arith, sum-turn a.flow.now a.k a.d l.i, ap (λ (z : ℕ). get_or a.flow.now z 0) e)), omega arith)

pub returns : goal.returns
returns c = let l = c.loop-i in let e : l.i ≡ c.args.n = omega arith in rw (← e) l.invariant.2
