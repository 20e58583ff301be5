use Rattle.monomial.proofs.Children.{upto-none, upto-room, upto_turn, upto_all, member-few, member-made, span-within}
use Rattle.spec.specs.Image.{tables_of}
use native.Mathlib.Omega.{arith}
use Rattle.monomial.proofs.of_member.Goals as goal

pub loop-k-init : goal.loop-k-init
loop-k-init c =
    upto-none (tables_of c.args.s.now) c.children_of-span.result.from c.children_of-span.result.to
    (member-few c.args.s.now c.args.im c.requires.0 c.requires.1 c.args.m c.children_of-span.result c.requires.2 c.children_of-span.ensures.0) c.args.mono.now c.requires.3

pub add_kth-n-requires : goal.add_kth-n-requires
add_kth-n-requires c = (
  c.requires.0,
  omega (arith, span-within c.args.s.now c.args.im c.requires.0 c.requires.1 c.args.m c.children_of-span.result c.requires.2 c.children_of-span.ensures.0, c.loop-k.invariant.from),
  upto-room (tables_of c.args.s.now) c.children_of-span.result.from c.children_of-span.result.to
      (member-few c.args.s.now c.args.im c.requires.0 c.requires.1 c.args.m c.children_of-span.result c.requires.2 c.children_of-span.ensures.0)
      c.args.mono.now c.loop-k.mono c.loop-k.n c.loop-k.k c.loop-k.invariant (omega arith),
)

pub loop-k-preserved : goal.loop-k-preserved
loop-k-preserved c =
    upto_turn (tables_of c.args.s.now) c.children_of-span.result.from c.children_of-span.result.to
    (member-few c.args.s.now c.args.im c.requires.0 c.requires.1 c.args.m c.children_of-span.result c.requires.2 c.children_of-span.ensures.0)
    c.args.mono.now c.loop-k.mono c.add_kth-n.new.mono c.loop-k.n c.loop-k.k c.add_kth-n.result c.loop-k.invariant (omega arith) c.add_kth-n.auto.mono c.add_kth-n.ensures

pub returns : goal.returns
returns c =
    member-made c.args.s.now c.args.im c.requires.0 c.requires.1 c.args.m c.children_of-span.result c.args.mono.now c.loop-k.mono c.loop-k.n c.requires.2 c.children_of-span.ensures.0
    (upto_all (tables_of c.args.s.now) c.children_of-span.result.from c.children_of-span.result.to
    (member-few c.args.s.now c.args.im c.requires.0 c.requires.1 c.args.m c.children_of-span.result c.requires.2 c.children_of-span.ensures.0)
    c.args.mono.now c.loop-k.mono c.loop-k.n c.loop-k.k c.loop-k.invariant (omega arith))
