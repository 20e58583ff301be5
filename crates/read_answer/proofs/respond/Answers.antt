use Rattle.read_answer.specs.ReadingLaws.{responds, no_table}
use mathlib.Core.Path.{sym, ◌∙◌}
use Rattle.read_answer.proofs.respond.Goals as goal

-- src/lib.rt:66:13
pub ask-a-requires : goal.ask-a-requires
ask-a-requires c =
    (sym c.is_tabled.ensures ∙ c.if-is_tabled.true, c.requires.0)

-- src/lib.rt:67:9
pub returns-then-is_tabled : goal.returns-then-is_tabled
returns-then-is_tabled c =
    (responds c.args.input.now c.args.out.now _ _ c.ask-a.result _ (sym c.is_tabled.ensures ∙ c.if-is_tabled.true) c.requires.1 c.ask-a.ensures.0 c.print.ensures, c.ask-a.ensures.1)

-- src/lib.rt:54:1
pub returns : goal.returns
returns c =
    (no_table c.args.input.now c.args.out.now _ _ (sym c.is_tabled.ensures ∙ c.if-is_tabled.false) c.refusal.ensures, c.clear_all.ensures)
