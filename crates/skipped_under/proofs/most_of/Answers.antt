use Rattle.skipped_under.proofs.Terms.{count_fits, most-fits, most-fails}
use Rattle.monomial_terms.specs.Terms.{held}
use native.Mathlib.Omega.{arith}
use mathlib.Core.Path.{sym, ◌∙◌}
use Rattle.skipped_under.proofs.most_of.Goals as goal

pub overflow_sub-result : goal.overflow_sub-result
overflow_sub-result c =
    count_fits (held c.args.n c.args.mono.now) c.args.id c.count_of.result c.long_size.result (sym c.in-None.is ∙ c.narrow.ensures) c.long_size.ensures c.count_of.ensures

pub overflow_add-result : goal.overflow_add-result
overflow_add-result c = record { fits = omega arith }

pub returns-in-None : goal.returns-in-None
returns-in-None c =
    most-fits (held c.args.n c.args.mono.now) c.args.id c.count_of.result c.long_size.result c.args.all (sym c.in-None.is ∙ c.narrow.ensures) c.long_size.ensures c.count_of.ensures c.requires.1

pub returns-in-Some : goal.returns-in-Some
returns-in-Some c =
    most-fails (held c.args.n c.args.mono.now) c.args.id _ (sym c.in-Some.is ∙ c.narrow.ensures)
