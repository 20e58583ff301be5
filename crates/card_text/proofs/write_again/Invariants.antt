use Prim.Native.Nat.{◌≤◌, ◌-◌}
use mathlib.Core.Path.{◌≡◌}
use lib.ListN.{length}
use lib.Seq.{paste}
use Rattle.card_text.specs.CopyLaws.{bytes_at}
use Rattle.card_text.proofs.write_again.Given as goal

abbrev pub invariant-loop-i : goal.invariant-loop-i
invariant-loop-i l = (l.i ≤ l.to - l.from) × (length l.out ≡ length l.initial.out) × (l.out ≡ paste l.initial.out l.at (bytes_at l.initial.out l.from l.to) l.i)
