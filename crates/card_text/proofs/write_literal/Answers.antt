use mathlib.Core.List.{◌∷◌}
use Rattle.decimals.specs.WriteLaws.{wrote-both, room-first, room-second}
use Rattle.spec.specs.Bytes.{decimal}
use Rattle.card_text.proofs.write_literal.Goals as goal

pub decimal-a-requires : goal.decimal-a-requires
decimal-a-requires c =
    let a = c.args in
    rw c.long_u32.ensures.0 (room-first (decimal a.v) (35 ∷ decimal a.o) a.out.now a.at c.requires)

pub labelled-requires : goal.labelled-requires
labelled-requires c =
    let a = c.args in
    rw c.long_u32-2.ensures.0 (room-second (decimal a.v) (35 ∷ decimal a.o) a.out.now a.at c.requires (rw c.long_u32.ensures.0 at c.decimal-a.ensures))

pub returns : goal.returns
returns c =
    let a = c.args in
    wrote-both (decimal a.v) (35 ∷ decimal a.o) a.out.now a.at c.requires (rw c.long_u32.ensures.0 at c.decimal-a.ensures) (rw c.long_u32-2.ensures.0 at c.labelled.ensures)
