use Rattle.search_laws.specs.Fits.{none_left}
use Rattle.augment.proofs.SendLoop.{begin-sending, midway-of, rest_lt, send-none, send-fits, send-some, send-end}
use lib.ListN.{length-replicate}
use borrow.Author.Rules.{rules}
use Prim.Native.Nat.{ℕ}
use native.Mathlib.Omega.{arith}
use mathlib.Core.Path.{refl, ◌∙◌}
use Rattle.net.specs.Net.{NODES, NET}
use Rattle.search_laws.specs.Edges.{MARGINS}
use Rattle.augment.proofs.send_all.Goals as goal

pub loop-rest-init : goal.loop-rest-init
loop-rest-init c = (refl, length-replicate {A = ℕ} MARGINS 0, length-replicate {A = ℕ} NET 0, length-replicate {A = ℕ} NODES 0, λ S. begin-sending S c.args.total c.requires.4, refl)

pub augment-n-requires : goal.augment-n-requires
augment-n-requires c = let l = c.loop-rest in let S = c.requires.5 in let A = l.invariant.4 S in (c.requires.0, c.requires.1, c.requires.2, omega arith, l.invariant.1, l.invariant.2, l.invariant.3, rest_lt S l.rest l.flow A, midway-of S l.rest l.flow A)

pub shape_of-flow-then-n-eq0 : goal.shape_of-flow-then-n-eq0
shape_of-flow-then-n-eq0 c = let h = c.loop-rest.invariant.0 in search rules

pub returns-then-n-eq0 : goal.returns-then-n-eq0
returns-then-n-eq0 c = let l = c.loop-rest in (λ S. let A = l.invariant.4 S in send-none S l.rest c.augment-n.result l.flow c.augment-n.new.flow A c.loop-rest-test.true c.if-n-eq0.true (c.augment-n.ensures.3 (midway-of S l.rest l.flow A)), c.augment-n.ensures.4 ∙ l.invariant.5)

pub overflow_sub-rest : goal.overflow_sub-rest
overflow_sub-rest c = let l = c.loop-rest in let S = c.requires.5 in let A = l.invariant.4 S in let h = send-fits S l.rest c.augment-n.result l.flow c.augment-n.new.flow A c.loop-rest-test.true (c.augment-n.ensures.3 (midway-of S l.rest l.flow A)) in search rules

pub loop-rest-smaller : goal.loop-rest-smaller
loop-rest-smaller c = let l = c.loop-rest in let S = c.requires.5 in let A = l.invariant.4 S in let h = send-fits S l.rest c.augment-n.result l.flow c.augment-n.new.flow A c.loop-rest-test.true (c.augment-n.ensures.3 (midway-of S l.rest l.flow A)) in let z = c.if-n-eq0.false in omega arith

pub loop-rest-preserved : goal.loop-rest-preserved
loop-rest-preserved c = let l = c.loop-rest in (omega arith, c.augment-n.ensures.0, c.augment-n.ensures.1, c.augment-n.ensures.2, λ S. let A = l.invariant.4 S in send-some S l.rest c.augment-n.result l.flow c.augment-n.new.flow A c.loop-rest-test.true c.if-n-eq0.false (c.augment-n.ensures.3 (midway-of S l.rest l.flow A)), c.augment-n.ensures.4 ∙ l.invariant.5)

pub shape_of-flow : goal.shape_of-flow
shape_of-flow c = let h = c.loop-rest.invariant.0 in search rules

pub returns : goal.returns
returns c = let l = c.loop-rest in (λ S. send-end S l.rest l.flow (l.invariant.4 S) (λ h. none_left c.loop-rest-test.false h), l.invariant.5)
