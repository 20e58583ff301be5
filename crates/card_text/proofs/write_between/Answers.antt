use mathlib.Core.List.{[], ◌∷◌, ◌++◌}
use Rattle.decimals.specs.WriteLaws.{wrote-both, room-first, room-second}
use Rattle.formula.specs.Card.{sign}
use Rattle.card_forms.specs.Forms.{sign_text}
use Rattle.card_text.proofs.write_between.Goals as goal

pub text-a-requires : goal.text-a-requires
unfolding sign_text
text-a-requires c =
    let a = c.args in
    room-first (32 ∷ []) (sign a.table.now a.o ++ (32 ∷ [])) a.out.now a.at c.requires.1

pub write_sign-b-requires : goal.write_sign-b-requires
unfolding sign_text
write_sign-b-requires c =
    let a = c.args in
    (c.requires.0, room-first (sign a.table.now a.o) (32 ∷ []) c.text-a.new.out c.text-a.result (room-second (32 ∷ []) (sign a.table.now a.o ++ (32 ∷ [])) a.out.now a.at c.requires.1 c.text-a.ensures))

pub text-requires : goal.text-requires
unfolding sign_text
text-requires c =
    let a = c.args in
    room-second (sign a.table.now a.o) (32 ∷ []) c.text-a.new.out c.text-a.result (room-second (32 ∷ []) (sign a.table.now a.o ++ (32 ∷ [])) a.out.now a.at c.requires.1 c.text-a.ensures) c.write_sign-b.ensures

pub returns : goal.returns
unfolding sign_text
returns c =
    let a = c.args in
    wrote-both (32 ∷ []) (sign a.table.now a.o ++ (32 ∷ [])) a.out.now a.at c.requires.1 c.text-a.ensures (wrote-both (sign a.table.now a.o) (32 ∷ []) c.text-a.new.out c.text-a.result (room-second (32 ∷ []) (sign a.table.now a.o ++ (32 ∷ [])) a.out.now a.at c.requires.1 c.text-a.ensures) c.write_sign-b.ensures c.text.ensures)
