use borrow.Author.Tests.{lt-ltb, le-ltb, le-leb, lt-leb, eq-eqb, ne_eqb}
use Prim.Native.Nat.{ℕ, zero, suc, ◌≤◌, ◌<◌, ◌-◌, ◌+◌, ◌*◌, ◌^◌}
use native.Mathlib.Omega.{arith}
use native.Mathlib.Numerals.{add-one}
use mathlib.Core.Path.{◌≡◌, refl, ap, sym, ◌∙◌}
use mathlib.Core.Logic.{⊎_elim}
use mathlib.Core.List.{List, [], ◌∷◌, ◌++◌, append-nil}
use lib.ListN.{length, take, drop, get_or, set, length-set, length-take, length-drop, length-append, drop_of_length-le}
use borrow.Author.Rules.{rules}
use Rattle.card_contract.specs.declared.Answer.TheVariants.{Text, Refused}
use Rattle.frames.specs.Frame.{refusal_bytes}
use Rattle.frames.specs.Printing.{wrote-front}
use Rattle.card_answer.specs.CardingLaws.{feeds-as, short-as}
use Rattle.card_answer.proofs.feed.Goals as goal

-- src/lib.rt:153:13
pub bounds-out-n : goal.bounds-out-n
bounds-out-n c =
    omega (arith, short-as c.args.a c.in-Text.n c.in-Text.is c.requires.1)

-- src/lib.rt:154:13
pub overflow_add-result : goal.overflow_add-result
overflow_add-result c =
    record { fits = omega (arith, short-as c.args.a c.in-Text.n c.in-Text.is c.requires.1) }

-- src/lib.rt:147:1
pub returns-in-Text : goal.returns-in-Text
returns-in-Text c =
    let a = c.args in
    feeds-as a.out.now _ a.a (Text c.in-Text.n) _ c.in-Text.is (refl, refl)

-- src/lib.rt:147:1
pub returns-in-Refused : goal.returns-in-Refused
returns-in-Refused c =
    let a = c.args in
    feeds-as a.out.now _ a.a (Refused c.in-Refused.k) _ c.in-Refused.is (wrote-front (refusal_bytes c.in-Refused.k) a.out.now _ _ c.refusal.ensures)
