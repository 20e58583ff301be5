use Rattle.changes.specs.Marks.{marked_in}
use Rattle.spec.specs.Bytes.{both}
use mathlib.Core.Bool.{Bool}
use mathlib.Core.Path.{sym, ap, ◌∙◌}
use Rattle.changes.proofs.marked_itself.Goals as goal

pub returns-then-itself : goal.returns-then-itself
returns-then-itself c =
    let a = c.args in c.marked.ensures ∙ sym (ap (λ (b : Bool). both b (marked_in a.marks.now a.c)) c.if-itself.true)

pub returns : goal.returns
returns c =
    let a = c.args in sym (ap (λ (b : Bool). both b (marked_in a.marks.now a.c)) c.if-itself.false)
