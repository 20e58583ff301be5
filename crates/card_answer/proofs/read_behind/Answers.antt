use borrow.Author.Tests.{lt-ltb, le-ltb, le-leb, lt-leb, eq-eqb, ne_eqb}
use Prim.Native.Nat.{ℕ, zero, suc, ◌≤◌, ◌<◌, ◌-◌, ◌+◌, ◌*◌, ◌^◌}
use native.Mathlib.Omega.{arith}
use native.Mathlib.Numerals.{add-one}
use borrow.Author.Rules.{part_to_end}
use mathlib.Core.Path.{◌≡◌, refl, ap, sym, ◌∙◌}
use mathlib.Core.Logic.{⊎_elim}
use mathlib.Core.List.{List, [], ◌∷◌, ◌++◌, append-nil}
use lib.ListN.{length, take, drop, get_or, set, length-set, length-take, length-drop, length-append, drop_of_length-le}
use borrow.Author.Rules.{rules}
use Rattle.card_answer.specs.CardingLaws.{reads-behind, staged-rooms}
use Rattle.card_answer.proofs.read_behind.Goals as goal

-- src/lib.rt:59:9
pub read_lines-x-requires : goal.read_lines-x-requires
read_lines-x-requires c = (c.requires.staged, staged-rooms _ c.limits_for-lim.ensures c.requires)

-- src/lib.rt:53:1
pub returns : goal.returns
returns c = let x = c.read_lines-x in
    rw c.merged_of.ensures (reads-behind _ c.args.listing.now _ _ _ _ _ _ _ x.result c.limits_for-lim.ensures (part_to_end c.args.listing.now c.first_end-at.result ∙ c.first_end-at.ensures.1) x.ensures)
