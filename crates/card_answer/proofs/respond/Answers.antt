use borrow.Author.Tests.{lt-ltb, le-ltb, le-leb, lt-leb, eq-eqb, ne_eqb}
use Prim.Native.Nat.{ℕ, zero, suc, ◌≤◌, ◌<◌, ◌-◌, ◌+◌, ◌*◌, ◌^◌}
use native.Mathlib.Omega.{arith}
use native.Mathlib.Numerals.{add-one}
use mathlib.Core.Path.{◌≡◌, refl, ap, sym, ◌∙◌}
use mathlib.Core.Logic.{⊎_elim}
use mathlib.Core.List.{List, [], ◌∷◌, ◌++◌, append-nil}
use lib.ListN.{length, take, drop, get_or, set, length-set, length-take, length-drop, length-append, drop_of_length-le}
use borrow.Author.Rules.{rules}
use Rattle.card_answer.specs.CardingLaws.{responds, cleared-kept}
use Rattle.card_answer.proofs.respond.Goals as goal

-- src/lib.rt:176:5
pub feed-requires : goal.feed-requires
feed-requires c =
    (c.answer_to-a.auto.out ∙ c.requires.1, c.answer_to-a.ensures.short)

-- src/lib.rt:161:1
pub returns : goal.returns
returns c =
    (responds c.args.input.now c.args.out.now _ _ _ _ c.requires.1 c.answer_to-a.ensures c.feed.ensures, cleared-kept c.clear_all.ensures c.answer_to-a.auto.graph c.answer_to-a.auto.pairs c.answer_to-a.auto.work c.answer_to-a.auto.flow c.answer_to-a.auto.terms c.answer_to-a.auto.runs)
