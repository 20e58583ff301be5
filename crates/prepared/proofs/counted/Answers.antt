use Rattle.prepared.specs.declared.Begun.{Begun}
use Rattle.prepared.specs.declared.Begun.TheVariants.{All}
use Rattle.prepared.specs.Pairs.{counted_as}
use Prim.Native.Nat.{ℕ}
use mathlib.Core.Path.{ap, sym, ◌∙◌}
use Rattle.prepared.proofs.counted.Goals as goal

pub returns-in-Stopped : goal.returns-in-Stopped
returns-in-Stopped c = sym (ap (λ (z : Begun). counted_as z c.args.c.pairs) c.in-Stopped.is)

pub returns-in-Cut : goal.returns-in-Cut
returns-in-Cut c = sym (ap (λ (z : Begun). counted_as z c.args.c.pairs) c.in-Cut.is)

pub returns-in-All : goal.returns-in-All
returns-in-All c =
    ap (λ (n : ℕ). All c.in-All.root n c.in-All.left c.in-All.k) c.pairs_in-n.ensures ∙ sym (ap (λ (z : Begun). counted_as z c.args.c.pairs) c.in-All.is)
