use Rattle.entering.specs.GrowLaws.{going-full, going-last, going_on, going_start}
use Rattle.graph.specs.JoinLaws.{cells_of, joins-are, joins-small, pairs_of}
use Rattle.image.specs.Loaded.{classes-many}
use Rattle.spec.specs.Action.{joins, structural, transports}
use Rattle.spec.specs.Image.{tables_of}
use native.Mathlib.Omega.{arith}
use Rattle.graph.proofs.enter_joins.Goals as goal

pub enter_transports-requires : goal.enter_transports-requires
enter_transports-requires c =
    let t = tables_of c.args.s.now in
    let l = c.args.l in
    let r = c.args.r in
    let many = classes-many c.args.s.now c.args.im c.requires.0 in
    let d = going_start (joins t (l, r)) c.requires.4 (joins-small t c.requires.1 l r (omega (arith, c.requires.2, many)) (omega (arith, c.requires.3, many)) c.args.im.classes many) in
    (c.requires.0, c.requires.1, c.requires.2, c.requires.3, (going_on d (pairs_of (structural t l r)) (cells_of (transports t l r)) (joins-are t l r) c.enter_actions.result c.enter_actions.ensures c.in_ok-m.was).holds)

pub returns-in_err-m : goal.returns-in_err-m
returns-in_err-m c =
    let t = tables_of c.args.s.now in
    let l = c.args.l in
    let r = c.args.r in
    let many = classes-many c.args.s.now c.args.im c.requires.0 in
    let d = going_start (joins t (l, r)) c.requires.4 (joins-small t c.requires.1 l r (omega (arith, c.requires.2, many)) (omega (arith, c.requires.3, many)) c.args.im.classes many) in
    rw c.from_residual.ensures (going-full d (pairs_of (structural t l r)) (cells_of (transports t l r)) (joins-are t l r) c.enter_actions.result c.enter_actions.ensures c.in_err-m.was)

pub returns : goal.returns
returns c =
    let t = tables_of c.args.s.now in
    let l = c.args.l in
    let r = c.args.r in
    let many = classes-many c.args.s.now c.args.im c.requires.0 in
    let d = going_start (joins t (l, r)) c.requires.4 (joins-small t c.requires.1 l r (omega (arith, c.requires.2, many)) (omega (arith, c.requires.3, many)) c.args.im.classes many) in
    going-last (going_on d (pairs_of (structural t l r)) (cells_of (transports t l r)) (joins-are t l r) c.enter_actions.result c.enter_actions.ensures c.in_ok-m.was) c.enter_transports.result c.enter_transports.ensures
