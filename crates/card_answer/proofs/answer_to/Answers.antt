use borrow.Author.Tests.{lt-ltb, le-ltb, le-leb, lt-leb, eq-eqb, ne_eqb}
use Prim.Native.Nat.{ℕ, zero, suc, ◌≤◌, ◌<◌, ◌-◌, ◌+◌, ◌*◌, ◌^◌}
use native.Mathlib.Omega.{arith}
use native.Mathlib.Numerals.{add-one}
use mathlib.Core.Path.{◌≡◌, refl, ap, sym, ◌∙◌}
use mathlib.Core.Logic.{⊎_elim}
use mathlib.Core.List.{List, [], ◌∷◌, ◌++◌, append-nil}
use lib.ListN.{length, take, drop, get_or, set, length-set, length-take, length-drop, length-append, drop_of_length-le}
use borrow.Author.Rules.{rules}
use borrow.Author.Rules.{part_to_end}
use Rattle.card_answer.specs.CardingLaws.{not-true, not-false, not-tabled, not-asked, load-refused, last-ready, card-written, at_least}
use Rattle.card_answer.proofs.answer_to.Goals as goal

-- src/lib.rt:127:9
pub returns-then-not-is_tabled : goal.returns-then-not-is_tabled
returns-then-not-is_tabled c =
    not-tabled c.args.input.now c.args.out.now _ (sym c.is_tabled.ensures ∙ c.if-not-is_tabled.true) c.refuse.ensures

-- src/lib.rt:129:9
pub table_end-e-requires : goal.table_end-e-requires
table_end-e-requires c =
    sym c.is_tabled.ensures ∙ c.if-not-is_tabled.false

-- src/lib.rt:131:9
pub returns-then-not-is_framed : goal.returns-then-not-is_framed
returns-then-not-is_framed c =
    let s = c.args.input.now in
    let t = c.table_end-e in
    let T = sym c.is_tabled.ensures ∙ c.if-not-is_tabled.false in
    let F = sym c.is_framed.ensures ∙ c.if-not-is_framed.true in
    not-asked s t.result t.ensures.0 T _ (part_to_end s t.result) F c.args.out.now _ c.refuse-then-not-is_framed.ensures

-- src/lib.rt:133:9
pub load-requires : goal.load-requires
load-requires c =
    (sym c.is_framed.ensures ∙ c.if-not-is_framed.false, c.requires.0)

-- src/lib.rt:135:25
pub write_last-requires : goal.write_last-requires
write_last-requires c =
    let s = c.args.input.now in
    let t = c.table_end-e in
    let T = sym c.is_tabled.ensures ∙ c.if-not-is_tabled.false in
    let F = sym c.is_framed.ensures ∙ c.if-not-is_framed.false in
    last-ready s t.result t.ensures.0 T _ (part_to_end s t.result) F _ _ _ c.load.ensures c.in-Ok.is _ (at_least _ _ c.load.auto.graph c.requires.0.marks)

-- src/lib.rt:113:1
pub returns-in-Ok : goal.returns-in-Ok
returns-in-Ok c =
    let s = c.args.input.now in
    let t = c.table_end-e in
    let T = sym c.is_tabled.ensures ∙ c.if-not-is_tabled.false in
    let F = sym c.is_framed.ensures ∙ c.if-not-is_framed.false in
    card-written s t.result t.ensures.0 T _ (part_to_end s t.result) F _ _ _ c.load.ensures c.in-Ok.is c.args.out.now _ _ _ c.requires.1 refl c.write_last.auto.out c.write_last.ensures.0

-- src/lib.rt:113:1
pub returns-in-Err : goal.returns-in-Err
returns-in-Err c =
    let s = c.args.input.now in
    let t = c.table_end-e in
    let T = sym c.is_tabled.ensures ∙ c.if-not-is_tabled.false in
    let F = sym c.is_framed.ensures ∙ c.if-not-is_framed.false in
    load-refused s t.result t.ensures.0 T _ (part_to_end s t.result) F _ _ _ c.load.ensures c.in-Err.k c.in-Err.is c.args.out.now _ c.refuse-in-Err.ensures
