use Prim.Native.Nat.{ℕ, suc, ◌+◌, ◌-◌, ◌≤◌, ◌<◌}
use native.Mathlib.Omega.{arith}
use mathlib.Core.Path.{◌≡◌, ap, sym, ◌∙◌}
use lib.Dec.{eqb}
use lib.ListN.{length, drop}
use borrow.Author.Rules.{rules}
use Rattle.spec.specs.Bytes.{place}
use Rattle.card_answer.specs.CardingLaws.{feed-here, feed-later, feed-never, behind-at, behind-none}
use Rattle.card_answer.proofs.first_end.Given as goal

-- no line feed before place i
abbrev pub invariant-loop-i : goal.invariant-loop-i
invariant-loop-i l = (l.i ≤ length l.s) × (l.i + place (eqb 10) (drop l.i l.s) ≡ place (eqb 10) l.s)
