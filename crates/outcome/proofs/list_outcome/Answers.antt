use mathlib.Core.Path.{refl}
use Rattle.outcome.specs.AnswerLaws.{listed-full, listed-bytes}
use Rattle.outcome.proofs.list_outcome.Goals as goal

pub returns-in-None : goal.returns-in-None
returns-in-None c =
    let a = c.args in
    listed-full a.o _ a.terms.now a.runs.now refl c.long_size.ensures c.long_u32.ensures.0 c.long_u32-2.ensures.0 c.long_u32-3.ensures.0 c.long_u32-4.ensures.0 _ _ _ _ _ c.list-w.ensures a.skipped refl c.in-None.is

pub returns-in-Some : goal.returns-in-Some
returns-in-Some c =
    let a = c.args in
    listed-bytes a.o _ a.terms.now a.runs.now refl c.long_size.ensures c.long_u32.ensures.0 c.long_u32-2.ensures.0 c.long_u32-3.ensures.0 c.long_u32-4.ensures.0 _ _ _ _ _ c.list-w.ensures a.skipped refl _ c.in-Some.is
