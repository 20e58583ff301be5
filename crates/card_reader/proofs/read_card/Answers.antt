use Rattle.card_terms.specs.StandLaws.{grows-count}
use lib.ListN.{replicate}
use Rattle.query.specs.Settings.{limits_of}
use Rattle.card_syntax.specs.Reading.{formula-read, formula-refused}
use Rattle.card_reader.specs.CardLaws.{read_none, read-term, read-full}
use Prim.Native.Nat.{ℕ}
use native.Mathlib.Omega.{arith}
use mathlib.Core.Path.{ap, sym, ◌∙◌}
use Rattle.card_reader.proofs.read_card.Goals as goal

pub returns-then-not-is_formula : goal.returns-then-not-is_formula
returns-then-not-is_formula c =
    let a = c.args in
    (read_none (limits_of a.lim) a.table.now a.text.now a.terms.now a.runs.now c.requires.3 (formula-refused a.table.now a.text.now (sym c.is_formula.ensures.0 ∙ c.if-not-is_formula.true)), c.is_formula.ensures.1)

pub enter_terms-requires : goal.enter_terms-requires
enter_terms-requires c =
    let a = c.args in
    (formula-read a.table.now a.text.now (sym c.is_formula.ensures.0 ∙ c.if-not-is_formula.false), c.requires.0, omega (arith, c.requires.1, c.is_formula.auto.frames), c.requires.2, c.requires.3, c.requires.4)

pub take_back-requires : goal.take_back-requires
take_back-requires c =
    let X = c.enter_terms.ensures.0 in
    (X.grows.holds, omega (arith, c.count-n.ensures.0, grows-count X.grows))

pub returns-in-Some : goal.returns-in-Some
returns-in-Some c =
    let a = c.args in
    let i = c.enter_terms in
    (read-term (limits_of a.lim) a.table.now a.text.now a.terms.now a.runs.now c.requires.3 _ _ i.auto.terms i.auto.runs i.result i.ensures.0 _ c.in-Some.is, i.ensures.1 ∙ ap (λ (n : ℕ). replicate n 0) c.is_formula.auto.frames)

pub returns-in-None : goal.returns-in-None
returns-in-None c =
    let a = c.args in
    let i = c.enter_terms in
    (read-full (limits_of a.lim) a.table.now a.text.now a.terms.now a.runs.now c.requires.3 _ _ i.auto.terms i.auto.runs i.result i.ensures.0 c.in-None.is c.count-n.result c.count-n.ensures.0 _ _ c.take_back.ensures, i.ensures.1 ∙ ap (λ (n : ℕ). replicate n 0) c.is_formula.auto.frames)
