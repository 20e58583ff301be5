use Rattle.laws.specs.Firsts.{first_from}
use Rattle.ac_repr.specs.Walk.{has_place}
use Rattle.spec.specs.Image.{tables_of}
use Prim.Native.Nat.{suc}
use mathlib.Core.Path.{◌≡◌}
use Rattle.ac_repr.proofs.next_place.Given as goal

abbrev pub invariant-loop-i : goal.invariant-loop-i
invariant-loop-i l = first_from (has_place (tables_of l.s) l.end l.op) l.i (suc l.end) ≡ first_from (has_place (tables_of l.s) l.end l.op) l.x (suc l.end)
