use Rattle.arrays.specs.Arrays.{given}
use Prim.Native.Nat.{ℕ, ◌+◌}
use mathlib.Core.Path.{ap, ◌∙◌}
use mathlib.Core.List.{List}
use lib.ListN.{set}
use Rattle.giving.proofs.give.Goals as goal

pub returns : goal.returns
unfolding given
returns c =
    c.put_u32-3.ensures ∙ ap (λ (l : List ℕ). set l (c.args.at + 2) c.args.term) (c.put_u32-2.ensures ∙ ap (λ (l : List ℕ). set l (c.args.at + 1) c.args.mass) c.put_u32.ensures)
