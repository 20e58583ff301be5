use Rattle.entering.specs.GrowLaws.{appends, fills, stays}
use Rattle.query.specs.Settings.{limits_of}
use mathlib.Core.Path.{◌∙◌, sym}
use native.Mathlib.Omega.{arith}
use borrow.Author.Rules.{rules}
use Rattle.entering.proofs.enter_pair.Goals as goal

pub known-requires : goal.known-requires
known-requires c = (c.requires.0.keys, c.requires.1)

pub returns-then-known : goal.returns-then-known
returns-then-known c =
    stays (limits_of c.args.lim) c.requires.0 c.args.l c.args.r (sym c.if-known.true ∙ c.known.ensures)

pub returns-then-n-lim : goal.returns-then-n-lim
returns-then-n-lim c =
    fills (limits_of c.args.lim) c.requires.0 c.args.l c.args.r (sym c.if-known.false ∙ c.known.ensures) (omega (arith, c.if-n-lim.true))

pub append-requires : goal.append-requires
append-requires c =
    let g = c.requires.0 in
    (g.keys.wide, omega (arith, c.if-n-lim.false, g.most), omega (arith, c.if-n-lim.false, g.room), c.requires.1)

pub returns : goal.returns
returns c =
    appends (limits_of c.args.lim) c.requires.0 c.args.l c.args.r c.requires.1 (omega (arith, c.if-n-lim.false)) (sym c.if-known.false ∙ c.known.ensures) c.append.ensures
