use Prim.Native.Nat.{◌<◌}
use Rattle.graph.specs.TurnLaws.{empty-graph, first-full, first-graph, first_on, first-pairs}
use Rattle.image.specs.Loaded.{classes-many}
use Rattle.query.specs.Settings.{limits_of}
use Rattle.spec.specs.Image.{tables_of}
use lib.ListN.{length}
use native.Mathlib.Omega.{arith}
use Rattle.graph.proofs.build_first.Goals as goal

pub enter_pair-requires : goal.enter_pair-requires
enter_pair-requires c =
    let many = classes-many c.args.s.now c.args.im c.requires.0 in
    (empty-graph (limits_of c.args.lim) (tables_of c.args.s.now) c.args.im.classes c.args.l c.args.r c.args.budget.left c.args.graph.now (omega (arith, many, c.requires.1.counts.few_classes)) c.requires.5 c.requires.4 c.requires.6, (c.requires.2, c.requires.3))

pub is_large-large-requires : goal.is_large-large-requires
is_large-large-requires c = (c.requires.0, c.requires.1)

pub build_from-requires : goal.build_from-requires
build_from-requires c =
    let t = tables_of c.args.s.now in
    let many = classes-many c.args.s.now c.args.im c.requires.0 in
    let hl : c.args.l < length t.classes = omega (arith, c.requires.2, many) in
    let hr : c.args.r < length t.classes = omega (arith, c.requires.3, many) in
    (c.requires.0, c.requires.1, first-graph (limits_of c.args.lim) t c.args.im.classes c.args.l c.args.r c.args.budget.left c.args.graph.now c.enter_pair.result c.enter_pair.ensures.grows c.in_ok-n.n c.in_ok-n.was, first-pairs (limits_of c.args.lim) t c.args.im.classes c.args.l c.args.r c.args.budget.left c.args.graph.now c.enter_pair.result c.enter_pair.ensures.grows c.in_ok-n.n c.in_ok-n.was (hl, hr), c.is_large-large.ensures)

pub returns-in_err-n : goal.returns-in_err-n
returns-in_err-n c =
    rw c.from_residual.ensures (first-full (limits_of c.args.lim) (tables_of c.args.s.now) c.args.im.classes c.args.l c.args.r c.args.budget.left c.args.graph.now c.enter_pair.result c.enter_pair.ensures.grows c.in_err-n.was)

pub returns : goal.returns
returns c =
    first_on (limits_of c.args.lim) (tables_of c.args.s.now) c.args.im.classes c.args.l c.args.r c.args.budget.left c.args.graph.now c.enter_pair.result c.enter_pair.ensures.grows c.in_ok-n.n c.in_ok-n.was c.build_from.result c.build_from.ensures
