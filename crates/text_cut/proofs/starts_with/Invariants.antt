use Prim.Native.Nat.{◌≤◌, ◌+◌}
use mathlib.Core.Path.{◌≡◌}
use lib.ListN.{length, drop}
use Rattle.formula.specs.Lexer.{starts_with}
use Rattle.text_cut.proofs.starts_with.Given as goal

abbrev pub invariant-loop-i : goal.invariant-loop-i
invariant-loop-i l = (l.i ≤ length l.w) × (l.at + l.i ≤ length l.text) × (starts_with (drop l.i l.w) (drop (l.at + l.i) l.text) ≡ starts_with l.w (drop l.at l.text))
