use Prim.Native.Nat.{◌<◌}
use Rattle.ac_monomials.specs.Transports.{actions_left}
use Rattle.ac_repr.specs.Walk.{after_of, walks}
use Rattle.ac_monomials.specs.Actions.{actions_at}
use Rattle.entering.specs.GrowLaws.{going_end, going-full, going_on, going-same, going-small, going_start}
use Rattle.graph.specs.JoinLaws.{cells_of, transports-end, transports-first, transports-later, transports-small, transports-start, walks-fewer, within-here}
use Rattle.image.specs.Loaded.{classes-many, operations-many}
use Rattle.spec.specs.Action.{transports}
use Rattle.spec.specs.Bytes.{each}
use Rattle.spec.specs.Image.{tables_of}
use lib.ListN.{length}
use mathlib.Core.Path.{refl}
use native.Mathlib.Omega.{arith}
use Rattle.graph.proofs.enter_transports.Goals as goal

pub loop-x-init : goal.loop-x-init
loop-x-init c =
    let t = tables_of c.args.s.now in
    let l = c.args.l in
    let r = c.args.r in
    let many = classes-many c.args.s.now c.args.im c.requires.0 in
    let hl : l < length t.classes = omega (arith, c.requires.2, many) in
    let hr : r < length t.classes = omega (arith, c.requires.3, many) in
    let d = going_start (cells_of (transports t l r)) c.requires.4 (transports-small t c.requires.1 l r hl hr c.args.im.classes many) in
    (going-same d (cells_of (actions_left t l r c.first-x.result)) (transports-start t l r c.first-x.result c.requires.1 hl hr c.first-x.ensures), c.first-x.ensures.within, refl)

pub returns : goal.returns
returns c =
    going_end c.loop-x.invariant.0 (transports-end (tables_of c.args.s.now) c.args.l c.args.r c.loop-x.x c.in_default.is)

pub enter_transport-requires : goal.enter_transport-requires
enter_transport-requires c =
    let t = tables_of c.args.s.now in
    let l = c.args.l in
    let r = c.args.r in
    let w = c.in-Some.w in
    let d = c.loop-x.invariant.0 in
    (c.requires.0, c.requires.1, c.requires.2, c.requires.3, omega (arith, operations-many c.args.s.now c.args.im c.requires.0, (within-here t l r c.loop-x.x w c.loop-x.invariant.1 c.in-Some.is).0), d.holds, going-small d (cells_of (actions_at t l r w)) (cells_of (each (actions_at t l r) (walks t l r (after_of w)))) (transports-first t l r c.loop-x.x w c.in-Some.is))

pub returns-in_err-n : goal.returns-in_err-n
returns-in_err-n c =
    let t = tables_of c.args.s.now in
    let l = c.args.l in
    let r = c.args.r in
    let w = c.in-Some.w in
    rw c.from_residual.ensures (going-full c.loop-x.invariant.0 (cells_of (actions_at t l r w)) (cells_of (each (actions_at t l r) (walks t l r (after_of w)))) (transports-first t l r c.loop-x.x w c.in-Some.is) c.enter_transport.result c.enter_transport.ensures c.in_err-n.was)

pub next-x-requires : goal.next-x-requires
next-x-requires c =
    (c.requires.0, c.requires.1, c.requires.2, c.requires.3, within-here (tables_of c.args.s.now) c.args.l c.args.r c.loop-x.x c.in-Some.w c.loop-x.invariant.1 c.in-Some.is)

pub loop-x-smaller : goal.loop-x-smaller
loop-x-smaller c =
    walks-fewer (tables_of c.args.s.now) c.args.l c.args.r c.loop-x.x c.in-Some.w c.next-x.result c.in-Some.is c.next-x.ensures

pub loop-x-preserved : goal.loop-x-preserved
loop-x-preserved c =
    let t = tables_of c.args.s.now in
    let l = c.args.l in
    let r = c.args.r in
    let w = c.in-Some.w in
    let d = going_on c.loop-x.invariant.0 (cells_of (actions_at t l r w)) (cells_of (each (actions_at t l r) (walks t l r (after_of w)))) (transports-first t l r c.loop-x.x w c.in-Some.is) c.enter_transport.result c.enter_transport.ensures c.in_ok-n.was in
    (going-same d (cells_of (actions_left t l r c.next-x.result)) (transports-later t l r w c.next-x.result c.next-x.ensures), c.next-x.ensures.within, omega (arith, c.loop-x.invariant.2, c.enter_transport.auto))
