use Rattle.enumeration.specs.Seek.{seek_of}
use Rattle.spec.specs.Image.{tables_of}
use Prim.Native.Nat.{◌-◌}
use mathlib.Core.Path.{◌≡◌}
use Rattle.enumeration.proofs.seek.Given as goal

abbrev pub invariant-loop-v : goal.invariant-loop-v
invariant-loop-v l = seek_of (tables_of l.s) l.l l.r l.v ≡ seek_of (tables_of l.s) l.l l.r l.initial.v

abbrev pub decreases-loop-v : goal.decreases-loop-v
decreases-loop-v l = l.to - l.v.left
