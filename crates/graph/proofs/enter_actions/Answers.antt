use Rattle.actions.specs.Place.{action_at, after_of}
use Rattle.enumeration.specs.Remaining.{list_from}
use Rattle.enumeration.specs.SeekLaws.{found-fewer, found-stands, start-list}
use Rattle.actions.specs.declared.State.{State}
use Rattle.entering.specs.GrowLaws.{going_end, going-full, going_on, going-same, going-small, going_start}
use Rattle.graph.specs.JoinLaws.{actions-end, actions-next, pairs_of, structural-small}
use Rattle.image.specs.Loaded.{classes-many}
use Rattle.spec.specs.Action.{structural}
use Rattle.spec.specs.Image.{tables_of}
use mathlib.Core.Path.{ap, refl, sym}
use native.Mathlib.Omega.{arith}
use Rattle.graph.proofs.enter_actions.Goals as goal

pub loop-w-init : goal.loop-w-init
loop-w-init c =
    let t = tables_of c.args.s.now in
    let l = c.args.l in
    let r = c.args.r in
    let many = classes-many c.args.s.now c.args.im c.requires.0 in
    let d = going_start (pairs_of (structural t l r)) c.requires.4 (structural-small t c.requires.1 l r (omega (arith, c.requires.2, many)) (omega (arith, c.requires.3, many)) c.args.im.classes many) in
    (going-same d (pairs_of (list_from t l r c.start-v.result)) (ap pairs_of (sym (start-list c.requires.0 c.requires.1 c.requires.2 c.requires.3 c.start-v.ensures))), refl)

pub returns : goal.returns
returns c =
    going_end c.loop-w.invariant.0 (actions-end c.requires.0 c.requires.1 c.requires.2 c.requires.3 c.loop-w.v c.seek.ensures c.in_default.is)

pub enter_action-requires : goal.enter_action-requires
enter_action-requires c =
    let t = tables_of c.args.s.now in
    let d = c.loop-w.invariant.0 in
    let v = c.loop-w.v in
    let w = c.in-Some.w in
    (c.requires.0, c.requires.1, found-stands c.requires.0 c.requires.1 c.requires.2 c.requires.3 v c.seek.ensures w c.in-Some.is, d.holds, going-small d (action_at t w).pairs (pairs_of (list_from t c.args.l c.args.r (after_of w))) (actions-next c.requires.0 c.requires.1 c.requires.2 c.requires.3 v c.seek.ensures w c.in-Some.is))

pub returns-in_err-n : goal.returns-in_err-n
returns-in_err-n c =
    let t = tables_of c.args.s.now in
    let w = c.in-Some.w in
    rw c.from_residual.ensures (going-full c.loop-w.invariant.0 (action_at t w).pairs (pairs_of (list_from t c.args.l c.args.r (after_of w))) (actions-next c.requires.0 c.requires.1 c.requires.2 c.requires.3 c.loop-w.v c.seek.ensures w c.in-Some.is) c.enter_action.result c.enter_action.ensures c.in_err-n.was)

pub after-v-requires : goal.after-v-requires
after-v-requires c =
    (found-stands c.requires.0 c.requires.1 c.requires.2 c.requires.3 c.loop-w.v c.seek.ensures c.in-Some.w c.in-Some.is).few

pub loop-w-smaller : goal.loop-w-smaller
loop-w-smaller c =
    rw c.after-v.ensures (found-fewer c.requires.0 c.requires.1 c.requires.2 c.requires.3 c.loop-w.v c.seek.ensures c.in-Some.w c.in-Some.is)

pub loop-w-preserved : goal.loop-w-preserved
loop-w-preserved c =
    let t = tables_of c.args.s.now in
    let l = c.args.l in
    let r = c.args.r in
    let w = c.in-Some.w in
    let d = going_on c.loop-w.invariant.0 (action_at t w).pairs (pairs_of (list_from t l r (after_of w))) (actions-next c.requires.0 c.requires.1 c.requires.2 c.requires.3 c.loop-w.v c.seek.ensures w c.in-Some.is) c.enter_action.result c.enter_action.ensures c.in_ok-n.was in
    (going-same d (pairs_of (list_from t l r c.after-v.result)) (ap (λ (x : State). pairs_of (list_from t l r x)) (sym c.after-v.ensures)), omega (arith, c.loop-w.invariant.1, c.enter_action.auto))
