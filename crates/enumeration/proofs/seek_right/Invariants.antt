use Rattle.enumeration.specs.Seek.{seek_right_of}
use Rattle.spec.specs.Image.{tables_of}
use mathlib.Core.Path.{◌≡◌}
use Rattle.enumeration.proofs.seek_right.Given as goal

abbrev pub invariant-loop-right : goal.invariant-loop-right
invariant-loop-right l = seek_right_of (tables_of l.s) l.to (record { left = l.w.left; right = l.right; past = l.past }) ≡ seek_right_of (tables_of l.s) l.to l.w
