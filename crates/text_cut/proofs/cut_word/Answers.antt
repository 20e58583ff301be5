use native.Mathlib.Omega.{arith}
use mathlib.Core.Path.{sym, ◌∙◌}
use Rattle.text_cut.specs.CutLaws.{word_fits, word-there, word-missing}
use Rattle.text_cut.proofs.cut_word.Goals as goal

pub overflow_add-result : goal.overflow_add-result
overflow_add-result c =
    omega (arith, word_fits c.args.w.now c.args.text.now c.args.at (sym c.if-starts_with.true ∙ c.starts_with.ensures) c.requires)

pub returns-then-starts_with : goal.returns-then-starts_with
returns-then-starts_with c =
    word-there c.args.w.now c.args.text.now c.args.at (sym c.if-starts_with.true ∙ c.starts_with.ensures) c.requires

pub returns : goal.returns
returns c =
    word-missing c.args.w.now c.args.text.now c.args.at (sym c.if-starts_with.false ∙ c.starts_with.ensures)
