use Prim.Native.Nat.{◌+◌, ◌<◌}
use Rattle.actions.specs.Place.{action_at}
use Rattle.entering.specs.GrowLaws.{going_end, going-full, going_on, going-small, going_start}
use Rattle.graph.specs.JoinLaws.{pair_end, pair-next}
use Rattle.spec.specs.Image.{tables_of}
use Rattle.spec.specs.Meaning.{here}
use lib.ListN.{drop, length}
use mathlib.Core.List.{[], ◌∷◌}
use mathlib.Core.Path.{refl}
use native.Mathlib.Omega.{arith}
use Rattle.graph.proofs.enter_action.Goals as goal

pub loop-k-init : goal.loop-k-init
loop-k-init c =
    (omega arith, going_start (action_at (tables_of c.args.s.now) c.args.v).pairs c.requires.3 c.requires.4, refl)

pub left_class-l-requires : goal.left_class-l-requires
left_class-l-requires c =
    let h : c.loop-k.k < length (action_at (tables_of c.args.s.now) c.args.v).pairs = omega (arith, c.count-many.ensures.0, c.loop-k-test.true) in
    (c.requires.0, c.requires.1, c.requires.2, h)

pub right_class-r-requires : goal.right_class-r-requires
right_class-r-requires c =
    let h : c.loop-k.k < length (action_at (tables_of c.args.s.now) c.args.v).pairs = omega (arith, c.count-many.ensures.0, c.loop-k-test.true) in
    (c.requires.0, c.requires.1, c.requires.2, h)

pub enter_pair-requires : goal.enter_pair-requires
enter_pair-requires c =
    let d = c.loop-k.invariant.1 in
    let ps = (action_at (tables_of c.args.s.now) c.args.v).pairs in
    let k = c.loop-k.k in
    let l = c.left_class-l.result in
    let r = c.right_class-r.result in
    let h : k < length ps = omega (arith, c.count-many.ensures.0, c.loop-k-test.true) in
    (d.holds, going-small d ((l, r) ∷ []) (drop (k + 1) ps) (pair-next ps k l r h c.left_class-l.ensures.0 c.right_class-r.ensures.0) (l, r) here)

pub returns-in_err-n : goal.returns-in_err-n
returns-in_err-n c =
    let ps = (action_at (tables_of c.args.s.now) c.args.v).pairs in
    let k = c.loop-k.k in
    let l = c.left_class-l.result in
    let r = c.right_class-r.result in
    let h : k < length ps = omega (arith, c.count-many.ensures.0, c.loop-k-test.true) in
    rw c.from_residual.ensures (going-full c.loop-k.invariant.1 ((l, r) ∷ []) (drop (k + 1) ps) (pair-next ps k l r h c.left_class-l.ensures.0 c.right_class-r.ensures.0) c.enter_pair.result c.enter_pair.ensures.grows c.in_err-n.was)

pub loop-k-preserved : goal.loop-k-preserved
loop-k-preserved c =
    let ps = (action_at (tables_of c.args.s.now) c.args.v).pairs in
    let k = c.loop-k.k in
    let l = c.left_class-l.result in
    let r = c.right_class-r.result in
    let h : k < length ps = omega (arith, c.count-many.ensures.0, c.loop-k-test.true) in
    (omega (arith, c.loop-k-test.true), going_on c.loop-k.invariant.1 ((l, r) ∷ []) (drop (k + 1) ps) (pair-next ps k l r h c.left_class-l.ensures.0 c.right_class-r.ensures.0) c.enter_pair.result c.enter_pair.ensures.grows c.in_ok-n.was, omega (arith, c.loop-k.invariant.2, c.enter_pair.auto))

pub returns : goal.returns
returns c =
    let ps = (action_at (tables_of c.args.s.now) c.args.v).pairs in
    going_end c.loop-k.invariant.1 (pair_end ps c.loop-k.k (omega (arith, c.count-many.ensures.0, c.loop-k-test.false)))
