use Prim.Native.Nat.{◌-◌}
use mathlib.Core.Path.{refl}
use borrow.Author.Rules.{rules}
use Rattle.pair_settling.proofs.moved.Goals as goal

pub returns : goal.returns
returns c = rw c.if-changed.false refl
