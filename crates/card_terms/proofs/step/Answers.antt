use Rattle.card_terms.specs.Reading.{WordsBelow}
use Rattle.formula.specs.Card.{proper_mark}
use Rattle.card_terms.specs.CloseLaws.{steps-most}
use Rattle.terms.specs.Buffers.{pool_of}
use Rattle.query.specs.Settings.{limits_of}
use Rattle.card_terms.specs.Words.{step_on, words_in}
use Rattle.card_terms.specs.StepLaws.{topped-of, literal-small, list_steps, open-steps, level-of}
use Prim.Native.Nat.{◌+◌}
use native.Mathlib.Omega.{arith}
use mathlib.Core.Path.{◌∙◌}
use borrow.Author.Rules.{rules}
use Rattle.card_terms.proofs.step.Goals as goal

pub intern_literal-requires : goal.intern_literal-requires
unfolding step_on proper_mark WordsBelow
intern_literal-requires c =
    (c.requires.0, c.requires.2, literal-small c.args.table.now c.in-Literal.v c.in-Literal.o (rw c.in-Literal.is at c.requires.4))

pub size_u8-requires : goal.size_u8-requires
unfolding step_on proper_mark WordsBelow
size_u8-requires c = search rules

pub between-requires : goal.between-requires
unfolding step_on proper_mark WordsBelow
between-requires c =
    let e = c.in-Between.is in
    rw c.size_u8.ensures.0 (c.requires.0, c.requires.1, c.requires.3, rw e at c.requires.4, rw e at c.requires.5)

pub size_u8-requires-in-List : goal.size_u8-requires-in-List
unfolding step_on proper_mark WordsBelow
size_u8-requires-in-List c = search rules

pub long_size-requires : goal.long_size-requires
unfolding step_on proper_mark WordsBelow
long_size-requires c = search rules

pub put_open-requires : goal.put_open-requires
unfolding step_on proper_mark WordsBelow
put_open-requires c = search rules

pub reduce-requires : goal.reduce-requires
unfolding step_on proper_mark WordsBelow
reduce-requires c =
    let a = c.args in
    (c.requires.0, c.requires.1, topped-of (limits_of a.lim) a.table.now 0 (pool_of a.terms.now a.runs.now) (words_in a.frames.now a.top) (rw c.in-Next.is at c.requires.5), c.requires.3)

pub close_last-requires : goal.close_last-requires
unfolding step_on proper_mark WordsBelow
close_last-requires c = (c.requires.0, c.requires.1, c.requires.3, rw c.in-Close.is at c.requires.5)

pub put_open-requires-in-Opens : goal.put_open-requires-in-Opens
unfolding step_on proper_mark WordsBelow
put_open-requires-in-Opens c = search rules

pub shut-requires : goal.shut-requires
unfolding step_on proper_mark WordsBelow
shut-requires c = (c.requires.0, c.requires.1, c.requires.3, rw c.in-Shuts.is at c.requires.5)

pub put_open-requires-in-Begin : goal.put_open-requires-in-Begin
unfolding step_on proper_mark WordsBelow
put_open-requires-in-Begin c = search rules

pub reduce-requires-in-Or : goal.reduce-requires-in-Or
unfolding step_on proper_mark WordsBelow
reduce-requires-in-Or c =
    let a = c.args in
    (c.requires.0, c.requires.1, topped-of (limits_of a.lim) a.table.now 0 (pool_of a.terms.now a.runs.now) (words_in a.frames.now a.top) (rw c.in-Or.is at c.requires.5), c.requires.3)

pub close_last-requires-in-End : goal.close_last-requires-in-End
unfolding step_on proper_mark WordsBelow
close_last-requires-in-End c = (c.requires.0, c.requires.1, c.requires.3, rw c.in-End.is at c.requires.5)

pub returns-in-Literal : goal.returns-in-Literal
unfolding step_on proper_mark WordsBelow
returns-in-Literal c = rw c.in-Literal.is c.intern_literal.ensures

pub returns-in-Between : goal.returns-in-Between
unfolding step_on proper_mark WordsBelow
returns-in-Between c =
    let a = c.args in
    rw c.in-Between.is (steps-most {a = a.top} {b = a.top + 1} (omega arith) (rw c.size_u8.ensures.0 at c.between.ensures))

pub returns-in-List : goal.returns-in-List
unfolding step_on proper_mark WordsBelow
returns-in-List c =
    let e = c.in-List.is in
    let o = c.long_size.ensures ∙ c.size_u8-in-List.ensures.0 in
    let q = c.put_open.ensures in
    rw (e, q.1) (list_steps c.requires.0 c.requires.2 _ (level-of c.args.table.now _ (rw e at c.requires.4)).small _ (rw o at q.0))

pub returns-in-Next : goal.returns-in-Next
unfolding step_on proper_mark WordsBelow
returns-in-Next c = let a = c.args in rw c.in-Next.is (steps-most {a = a.top} {b = a.top + 1} (omega arith) c.reduce.ensures)

pub returns-in-Close : goal.returns-in-Close
unfolding step_on proper_mark WordsBelow
returns-in-Close c = let a = c.args in rw c.in-Close.is (steps-most {a = a.top} {b = a.top + 1} (omega arith) c.close_last.ensures)

pub returns-in-Opens : goal.returns-in-Opens
unfolding step_on proper_mark WordsBelow
returns-in-Opens c =
    let q = c.put_open-in-Opens.ensures in
    rw (c.in-Opens.is, q.1) (open-steps c.requires.0 c.requires.2 64 (tt, tt) _ q.0)

pub returns-in-Shuts : goal.returns-in-Shuts
unfolding step_on proper_mark WordsBelow
returns-in-Shuts c = let a = c.args in rw c.in-Shuts.is (steps-most {a = a.top} {b = a.top + 1} (omega arith) c.shut.ensures)

pub returns-in-Begin : goal.returns-in-Begin
unfolding step_on proper_mark WordsBelow
returns-in-Begin c =
    let q = c.put_open-in-Begin.ensures in
    rw (c.in-Begin.is, q.1) (open-steps c.requires.0 c.requires.2 128 (tt, tt) _ q.0)

pub returns-in-Or : goal.returns-in-Or
unfolding step_on proper_mark WordsBelow
returns-in-Or c = let a = c.args in rw c.in-Or.is (steps-most {a = a.top} {b = a.top + 1} (omega arith) c.reduce-in-Or.ensures)

pub returns-in-End : goal.returns-in-End
unfolding step_on proper_mark WordsBelow
returns-in-End c = let a = c.args in rw c.in-End.is (steps-most {a = a.top} {b = a.top + 1} (omega arith) c.close_last-in-End.ensures)
