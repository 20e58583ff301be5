use mathlib.Core.Path.{sym, refl, ◌∙◌}
use borrow.Author.Rules.{rules}
use Rattle.second_run.proofs.settle.Goals as goal

pub returns-then-met_terms : goal.returns-then-met_terms
returns-then-met_terms c =
    let m = sym c.met_terms.ensures ∙ c.if-met_terms.true in
    rw m c.run_again.ensures

pub returns-then-met_pairs : goal.returns-then-met_pairs
returns-then-met_pairs c =
    let n = sym c.met_pairs.ensures ∙ c.if-met_pairs.true in
    let m = sym c.met_terms.ensures ∙ c.if-met_terms.false in
    rw (m, n) c.run_again-then-met_pairs.ensures

pub returns : goal.returns
returns c =
    let n = sym c.met_pairs.ensures ∙ c.if-met_pairs.false in
    let m = sym c.met_terms.ensures ∙ c.if-met_terms.false in
    rw (m, n) (refl, refl)
