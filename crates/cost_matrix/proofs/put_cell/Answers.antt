use Prim.Native.Nat.{ℕ, ◌+◌, ◌*◌}
use mathlib.Core.Path.{ap, ◌∙◌}
use mathlib.Core.List.{List}
use lib.ListN.{set}
use Rattle.cost_matrix.proofs.put_cell.Goals as goal

pub returns : goal.returns
returns c = c.put_u64-3.ensures ∙ ap (λ (g : List ℕ). set g (3 * c.args.k + 2) c.args.cap) (c.put_u64-2.ensures ∙ ap (λ (g : List ℕ). set g (3 * c.args.k + 1) c.args.d.hi) c.put_u64.ensures)
