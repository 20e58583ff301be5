use Rattle.skips.specs.Large.{nothing-large}
use Rattle.spec.specs.Image.{tables_of}
use mathlib.Core.Path.{sym, ◌∙◌}
use Rattle.graph.proofs.passed_over.Goals as goal

pub returns : goal.returns
returns c = sym (nothing-large (tables_of c.args.s.now) (sym c.requires.4 ∙ c.if-large.false) c.args.l c.args.r)
