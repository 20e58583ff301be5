use Rattle.card_cut.specs.SignLaws.{place-start, place_none, place_here, place-later}
use Rattle.card_cut.specs.Cutting.{fits}
use native.Mathlib.Omega.{arith}
use mathlib.Core.Path.{sym, ◌∙◌}
use lib.ListN.{drop}
use Rattle.card_cut.proofs.find_sign.Goals as goal

pub loop-o-init : goal.loop-o-init
loop-o-init c = let a = c.args in (omega arith, place-start (fits a.table.now a.last (drop a.at a.text.now)) c.operations-n.result _ c.operations-n.ensures)

pub returns-then-sign_fits : goal.returns-then-sign_fits
returns-then-sign_fits c = let a = c.args in let F = fits a.table.now a.last (drop a.at a.text.now) in omega (arith, c.loop-o.invariant.1, place_here F c.operations-n.result c.loop-o.o (omega arith) (sym c.sign_fits.ensures ∙ c.if-sign_fits.true))

pub loop-o-preserved : goal.loop-o-preserved
loop-o-preserved c = let a = c.args in let F = fits a.table.now a.last (drop a.at a.text.now) in omega (arith, c.loop-o.invariant.1, place-later F c.operations-n.result c.loop-o.o (omega arith) (sym c.sign_fits.ensures ∙ c.if-sign_fits.false))

pub returns : goal.returns
returns c = let a = c.args in let F = fits a.table.now a.last (drop a.at a.text.now) in omega (arith, c.loop-o.invariant.1, place_none F c.operations-n.result c.loop-o.o (omega arith))
