use Rattle.search_laws.specs.PathLaws.{step-here, steps_next, sent-turn, sent-end, sent-more, room_next, room-here, room-first}
use Rattle.search_laws.specs.Walk.{here}
use Rattle.search_laws.specs.Path.{sent}
use Prim.Native.Nat.{ℕ, ◌+◌}
use native.Mathlib.Omega.{arith}
use mathlib.Core.Path.{refl, ap, sym, ◌∙◌}
use mathlib.Core.List.{List}
use lib.ListN.{get_or}
use Rattle.sending.proofs.send.Goals as goal

pub loop-a-init : goal.loop-a-init
loop-a-init c = (c.requires.3, refl, c.requires.4, (λ k hk. room-first (get_or c.args.flow.now k 0) c.args.from c.args.n (c.requires.5 k hk)), refl)

pub send_on-requires : goal.send_on-requires
send_on-requires c = let a = c.args in let l = c.loop-a in (c.requires.0, c.requires.1, omega arith, step-here a.path.now a.r a.c l.a (omega arith) l.invariant.2, λ k hk. room-here (get_or l.flow k 0) l.a a.n (omega arith) (l.invariant.3 k hk))

pub loop-a-preserved : goal.loop-a-preserved
loop-a-preserved c = let a = c.args in let l = c.loop-a in (
  omega arith,
  omega arith,
  steps_next a.path.now a.r a.c l.a (omega arith) l.invariant.2,
  (λ k hk. room_next (get_or l.flow k 0) (get_or c.send_on.new.flow k 0) l.a a.n (omega arith) (rw c.send_on.ensures (sent-more a.r a.c a.n (get_or a.path.now l.a 0) (get_or a.path.now (l.a + 1) 0) l.flow k)) (l.invariant.3 k hk)),
  ap (λ (f : List ℕ). sent a.r a.c a.n (here a.path.now (l.a + 1)) f) c.send_on.ensures ∙ sym (sent-turn a.path.now a.r a.c a.n l.a l.flow (omega arith)) ∙ l.invariant.4,
)

pub returns : goal.returns
returns c = let a = c.args in let l = c.loop-a in sym (sent-end a.path.now a.r a.c a.n l.a l.flow (omega arith)) ∙ l.invariant.4
