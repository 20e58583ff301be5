use borrow.Author.Tests.{eq-eqb, ne_eqb}
use Prim.Native.Nat.{◌/◌}
use mathlib.Core.List.{[], ◌∷◌}
use lib.ListN.{length}
use Rattle.card_text.specs.PieceLaws.{room-yes, room-no, wrote-yes, wrote-no}
use Rattle.card_text.proofs.write_gap.Goals as goal

pub text-requires : goal.text-requires
text-requires c = room-yes (32 ∷ 124 ∷ 32 ∷ []) (59 ∷ 32 ∷ []) c.args.at (length c.args.out.now) (eq-eqb (c.args.h / 64) 2 c.if-h-eq2.true) c.requires

pub returns-then-h-eq2 : goal.returns-then-h-eq2
returns-then-h-eq2 c = wrote-yes (32 ∷ 124 ∷ 32 ∷ []) (59 ∷ 32 ∷ []) (eq-eqb (c.args.h / 64) 2 c.if-h-eq2.true) c.text.ensures

pub text-requires-2 : goal.text-requires-2
text-requires-2 c = room-no (32 ∷ 124 ∷ 32 ∷ []) (59 ∷ 32 ∷ []) c.args.at (length c.args.out.now) (ne_eqb (c.args.h / 64) 2 c.if-h-eq2.false) c.requires

pub returns : goal.returns
returns c = wrote-no (32 ∷ 124 ∷ 32 ∷ []) (59 ∷ 32 ∷ []) (ne_eqb (c.args.h / 64) 2 c.if-h-eq2.false) c.text-2.ensures
