use Rattle.card_cut.specs.SignLaws.{list-there, list-missing}
use native.Mathlib.Omega.{arith}
use Rattle.card_cut.proofs.cut_list.Goals as goal

pub returns-then-o-operations : goal.returns-then-o-operations
returns-then-o-operations c = let a = c.args in rw c.byte.ensures (list-there a.table.now a.text.now a.at c.find_sign-o.result c.requires.1 c.requires.2 c.requires.3 c.find_sign-o.ensures (omega arith) c.sign_length.result c.sign_length.ensures.0)

pub returns : goal.returns
returns c = let a = c.args in list-missing a.table.now a.text.now a.at c.find_sign-o.result c.requires.1 c.requires.2 c.requires.3 c.find_sign-o.ensures (omega arith)
