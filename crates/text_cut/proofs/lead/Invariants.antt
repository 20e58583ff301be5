use Prim.Native.Nat.{◌≤◌}
use mathlib.Core.Path.{◌≡◌}
use lib.ListN.{length, drop}
use Rattle.formula.specs.Lexer.{lead}
use Rattle.text_cut.proofs.lead.Given as goal

abbrev pub invariant-loop-i : goal.invariant-loop-i
invariant-loop-i l = (l.i ≤ length l.text) × (l.v ≤ l.most) × (lead l.v (drop l.i l.text) ≡ lead 0 (drop l.at l.text))
