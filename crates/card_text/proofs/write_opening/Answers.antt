use borrow.Author.Tests.{eq-eqb, ne_eqb}
use Prim.Native.Nat.{◌/◌, ◌%◌}
use mathlib.Core.List.{[], ◌∷◌, ◌++◌}
use lib.ListN.{length}
use Rattle.card_text.specs.PieceLaws.{room-yes, room-no, wrote-yes, wrote-no}
use Rattle.decimals.specs.WriteLaws.{wrote-both, room-first, room-second}
use Rattle.formula.specs.Card.{sign}
use Rattle.card_text.proofs.write_opening.Goals as goal

pub text-requires : goal.text-requires
text-requires c =
    let a = c.args in
    room-yes (123 ∷ []) (sign a.table.now (a.h % 64) ++ (91 ∷ [])) c.args.at (length c.args.out.now) (eq-eqb (a.h / 64) 2 c.if-h-eq2.true) c.requires.1

pub returns-then-h-eq2 : goal.returns-then-h-eq2
returns-then-h-eq2 c =
    let a = c.args in
    wrote-yes (123 ∷ []) (sign a.table.now (a.h % 64) ++ (91 ∷ [])) (eq-eqb (a.h / 64) 2 c.if-h-eq2.true) c.text.ensures

pub write_sign-a-requires : goal.write_sign-a-requires
write_sign-a-requires c =
    let a = c.args in
    rw c.size_u32.ensures.0 (c.requires.0 c.if-h-eq2.false, room-first (sign a.table.now (a.h % 64)) (91 ∷ []) a.out.now a.at (room-no (123 ∷ []) (sign a.table.now (a.h % 64) ++ (91 ∷ [])) c.args.at (length c.args.out.now) (ne_eqb (a.h / 64) 2 c.if-h-eq2.false) c.requires.1))

pub text-requires-2 : goal.text-requires-2
text-requires-2 c =
    let a = c.args in
    room-second (sign a.table.now (a.h % 64)) (91 ∷ []) a.out.now a.at (room-no (123 ∷ []) (sign a.table.now (a.h % 64) ++ (91 ∷ [])) c.args.at (length c.args.out.now) (ne_eqb (a.h / 64) 2 c.if-h-eq2.false) c.requires.1) (rw c.size_u32.ensures.0 at c.write_sign-a.ensures)

pub returns : goal.returns
returns c =
    let a = c.args in
    wrote-no (123 ∷ []) (sign a.table.now (a.h % 64) ++ (91 ∷ [])) (ne_eqb (a.h / 64) 2 c.if-h-eq2.false) (wrote-both (sign a.table.now (a.h % 64)) (91 ∷ []) a.out.now a.at (room-no (123 ∷ []) (sign a.table.now (a.h % 64) ++ (91 ∷ [])) c.args.at (length c.args.out.now) (ne_eqb (a.h / 64) 2 c.if-h-eq2.false) c.requires.1) (rw c.size_u32.ensures.0 at c.write_sign-a.ensures) c.text-2.ensures)
