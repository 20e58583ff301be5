use Rattle.class_place.specs.StandingLaws.{stands-before, there}
use Rattle.child_list.proofs.Insert.{added-hit, added-miss}
use Prim.Native.Nat.{◌-◌}
use native.Mathlib.Omega.{arith}
use mathlib.Core.Path.{sym, ◌∙◌}
use Rattle.child_list.proofs.add_at.Goals as goal

pub count_at-requires : goal.count_at-requires
count_at-requires c =
    omega (arith, c.requires.listed, stands-before c.args.c c.args.mono.now c.args.n c.args.p c.requires.listed c.requires.place (sym c.stands_at.ensures ∙ c.if-stands_at.true))

pub overflow_add-v : goal.overflow_add-v
overflow_add-v c =
    let t = sym c.stands_at.ensures ∙ c.if-stands_at.true in
    record { fits = omega (arith, c.requires.count t, there c.args.c c.args.mono.now c.args.n c.args.p c.requires.listed c.requires.place c.count_at.result t c.count_at.ensures) }

pub put_term-requires : goal.put_term-requires
put_term-requires c =
    omega (arith, c.requires.listed, stands-before c.args.c c.args.mono.now c.args.n c.args.p c.requires.listed c.requires.place (sym c.stands_at.ensures ∙ c.if-stands_at.true))

pub returns-then-stands_at : goal.returns-then-stands_at
returns-then-stands_at c = (
  added-hit c.args.n c.args.p c.args.c c.args.k c.args.mono.now c.put_term.new.mono c.requires c.count_at.result (sym c.stands_at.ensures ∙ c.if-stands_at.true) c.count_at.ensures c.put_term.ensures.0,
  c.put_term.ensures.1,
)

pub insert_term-requires : goal.insert_term-requires
insert_term-requires c =
    omega (arith, c.requires.within, c.requires.room (sym c.stands_at.ensures ∙ c.if-stands_at.false))

pub returns : goal.returns
returns c = (
  added-miss c.args.n c.args.p c.args.c c.args.k c.args.mono.now c.insert_term.new.mono c.requires (c.args.n - c.args.p) (sym c.stands_at.ensures ∙ c.if-stands_at.false) (omega (arith, c.requires.within)) c.insert_term.ensures.0,
  c.insert_term.ensures.1,
)
