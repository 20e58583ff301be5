use Rattle.enumeration.proofs.Turns.{span-end, seek-here, seek-next, seek-over}
use Rattle.spec.specs.Image.{tables_of}
use native.Mathlib.Omega.{arith}
use mathlib.Core.Path.{refl, sym, ◌∙◌}
use Rattle.enumeration.proofs.seek.Goals as goal

pub loop-v-init : goal.loop-v-init
loop-v-init c = refl

pub seek_right-requires : goal.seek_right-requires
seek_right-requires c = (
  c.requires.0,
  c.requires.1,
  omega (arith, c.loop-v-test.true, span-end c.args.s.now c.args.im c.requires.0 c.requires.1 c.args.l c.members_of-to.result c.requires.2 c.members_of-to.ensures.0),
  span-end c.args.s.now c.args.im c.requires.0 c.requires.1 c.args.r c.members_of-right.result c.requires.3 c.members_of-right.ensures.0,
)

pub returns-in-Some : goal.returns-in-Some
returns-in-Some c =
    let e = c.in-Some.is in
    sym (seek-here (tables_of c.args.s.now) c.args.l c.args.r c.members_of-to.ensures.0 c.members_of-right.ensures.0 c.loop-v.v c.in-Some.x c.seek_right.ensures e c.loop-v-test.true) ∙ c.loop-v.invariant

pub loop-v-preserved : goal.loop-v-preserved
loop-v-preserved c =
    sym (seek-next (tables_of c.args.s.now) c.args.l c.args.r c.members_of-to.ensures.0 c.members_of-right.ensures.0 c.loop-v.v c.seek_right.ensures c.in_default.is c.loop-v-test.true) ∙ c.loop-v.invariant

pub returns : goal.returns
returns c =
    sym (seek-over (tables_of c.args.s.now) c.args.l c.args.r c.members_of-to.ensures.0 c.members_of-right.ensures.0 c.loop-v.v c.loop-v-test.false) ∙ c.loop-v.invariant
