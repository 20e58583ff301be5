use Rattle.class_literals.specs.Slots.{SLOTS, Marked}
use Rattle.spec.specs.Image.{tables_of}
use Prim.Native.Nat.{◌≤◌}
use mathlib.Core.Path.{◌≡◌}
use lib.ListN.{length}
use Rattle.literals.proofs.mark.Given as goal

abbrev pub invariant-loop-m : goal.invariant-loop-m
invariant-loop-m l = (l.m ≤ l.im.members) × (length l.last ≡ SLOTS) × Marked (tables_of l.s) l.m l.last
