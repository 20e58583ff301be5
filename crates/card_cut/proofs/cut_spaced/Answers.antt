use Rattle.card_cut.specs.SignLaws.{or-there, between-there, between-missing}
use native.Mathlib.Omega.{arith}
use mathlib.Core.Path.{sym, ◌∙◌}
use Rattle.card_cut.proofs.cut_spaced.Goals as goal

pub returns-then-starts_with : goal.returns-then-starts_with
returns-then-starts_with c = let a = c.args in or-there a.table.now a.text.now a.at c.requires.1 c.requires.2 (sym c.if-starts_with.true ∙ c.starts_with.ensures)

pub returns-then-o-operations : goal.returns-then-o-operations
returns-then-o-operations c = let a = c.args in rw c.byte.ensures (between-there a.table.now a.text.now a.at c.requires.1 c.requires.2 (sym c.if-starts_with.false ∙ c.starts_with.ensures) c.find_sign-o.result c.find_sign-o.ensures (omega arith) c.sign_length.result c.sign_length.ensures.0)

pub returns : goal.returns
returns c = let a = c.args in between-missing a.table.now a.text.now a.at c.requires.1 c.requires.2 (sym c.if-starts_with.false ∙ c.starts_with.ensures) c.find_sign-o.result c.find_sign-o.ensures (omega arith)
