use Rattle.span_rules.specs.Within.{own-within, own_room}
use Rattle.best_rules.proofs.BestLaws.{child_size, size-start, size-over, own-sum, own-none, child-room}
use Rattle.spec.specs.Image.{children_of, size_over, tables_of, the_member}
use lib.Dec.{eqb}
use native.Mathlib.Omega.{arith}
use mathlib.Core.Path.{ap}
use Rattle.best_rules.proofs.size_right.Goals as goal

pub loop-i-init : goal.loop-i-init
loop-i-init c =
    let s = c.args.s.now in (
      omega arith,
      own_room s c.args.im c.requires.0 c.requires.3 c.requires.1 c.first_child-from.ensures.0 c.child_count-n.ensures.0,
      omega arith,
      size-start (tables_of s) (children_of (tables_of s) (the_member (tables_of s) c.args.m)),
    )

pub child_size-sum-requires : goal.child_size-sum-requires
child_size-sum-requires c = (
  c.requires.0,
  omega arith,
  child-room c.args.s.now c.args.im c.requires.0 c.requires.3 c.requires.1 c.first_child-from.result c.loop-i.i c.requires.4
      c.first_child-from.ensures.0 (omega (arith, c.child_count-n.ensures.0)),
)

pub returns-then-sum-gt-BEST_SIZE : goal.returns-then-sum-gt-BEST_SIZE
returns-then-sum-gt-BEST_SIZE c =
    let s = c.args.s.now in
    size-over c.args.size (size_over (tables_of s) (children_of (tables_of s) (the_member (tables_of s) c.args.m))) c.requires.2 c.if-sum-gt-BEST_SIZE.true
    (omega (
      arith,
      c.loop-i.invariant.3,
      c.child_size-sum.ensures.0,
      own-sum (tables_of s) (the_member (tables_of s) c.args.m) (own-within s c.args.im c.requires.0 c.requires.3 c.requires.1) c.loop-i.i c.first_child-from.ensures.0 (omega (arith, c.child_count-n.ensures.0)) (child_size (tables_of s)),
    ))

pub loop-i-preserved : goal.loop-i-preserved
loop-i-preserved c =
    let s = c.args.s.now in (
      omega arith,
      omega arith,
      omega arith,
      omega (
        arith,
        c.loop-i.invariant.3,
        c.child_size-sum.ensures.0,
        own-sum (tables_of s) (the_member (tables_of s) c.args.m) (own-within s c.args.im c.requires.0 c.requires.3 c.requires.1) c.loop-i.i c.first_child-from.ensures.0 (omega (arith, c.child_count-n.ensures.0)) (child_size (tables_of s)),
      ),
    )

pub returns : goal.returns
returns c =
    let s = c.args.s.now in
    ap (eqb c.args.size)
    (omega (arith, c.loop-i.invariant.3, own-none (tables_of s) (the_member (tables_of s) c.args.m) (own-within s c.args.im c.requires.0 c.requires.3 c.requires.1) c.loop-i.i (child_size (tables_of s)) (omega (arith, c.child_count-n.ensures.0))))
