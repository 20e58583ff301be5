use Rattle.std.proofs.Common.{rules, tests, arith, eqb, ◌∙◌}
use Rattle.std.proofs.lemmas.Iterator.{YieldsList-from_slice}
use Rattle.std.proofs.lemmas.Iterator.Search.{position_from_yields_List}
use Rattle.formula.specs.Card.{sign_field}
use Rattle.signs.specs.SignLaws.{first-zero}
use Rattle.signs.proofs.sign_length.Goals as goal

pub returns : goal.returns
returns c =
    let a = c.args in
    let e = position_from_yields_List (λ x. eqb x 0) _ _ c.position.result c.position.ensures.ran (YieldsList-from_slice (sign_field a.table.now a.o) (c.iter.ensures.rest ∙ c.sign_field.ensures)) (λ x b q k. search (rules, tests)) in
    let f = first-zero a.table.now a.o c.requires c.position.result e in
    (omega (arith, f.0), omega (arith, f.1))
