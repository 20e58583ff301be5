use Rattle.ac_monomials.specs.Actions.{actions_at}
use Rattle.entering.specs.GrowLaws.{going_end, going-last, going-same, going-small, going_start}
use Rattle.graph.specs.JoinLaws.{cells_of, transport-few, transport-none, transport-one}
use Rattle.spec.specs.Image.{tables_of}
use mathlib.Core.List.{[], append-nil}
use mathlib.Core.Path.{◌∙◌}
use Rattle.graph.proofs.enter_transport.Goals as goal

pub enter_cells-requires : goal.enter_cells-requires
enter_cells-requires c =
    let t = tables_of c.args.s.now in
    let l = c.args.l in
    let r = c.args.r in
    let w = c.args.w in
    let d = going_start (cells_of (actions_at t l r w)) c.requires.5 c.requires.6 in
    let x = c.monomials.result in
    let n = c.in-Some.rows in
    let m = c.in-Some.cols in
    let f = transport-few t l r w x c.monomials.ensures n m c.in-Some.is in
    (c.monomials.auto.left, f.0, c.monomials.auto.right, f.1, c.requires.5, going-small d _ [] (transport-one t l r w x c.monomials.ensures n m c.in-Some.is))

pub returns-in-None : goal.returns-in-None
returns-in-None c =
    let t = tables_of c.args.s.now in
    let l = c.args.l in
    let r = c.args.r in
    let w = c.args.w in
    going_end (going_start (cells_of (actions_at t l r w)) c.requires.5 c.requires.6) (transport-none t l r w c.monomials.result c.monomials.ensures c.in-None.is)

pub returns-in-Some : goal.returns-in-Some
returns-in-Some c =
    let t = tables_of c.args.s.now in
    let l = c.args.l in
    let r = c.args.r in
    let w = c.args.w in
    let d = going_start (cells_of (actions_at t l r w)) c.requires.5 c.requires.6 in
    going-last (going-same d _ (transport-one t l r w c.monomials.result c.monomials.ensures c.in-Some.rows c.in-Some.cols c.in-Some.is ∙ append-nil _)) c.enter_cells.result c.enter_cells.ensures
