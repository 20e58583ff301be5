use Rattle.card_cut.specs.Cutting.{fits, sign_at}
use Rattle.spec.specs.Bytes.{place, up_from}
use Prim.Native.Nat.{◌≤◌, ◌-◌, ◌+◌}
use mathlib.Core.Path.{◌≡◌}
use lib.ListN.{drop}
use Rattle.card_cut.proofs.find_sign.Given as goal

abbrev pub invariant-loop-o : goal.invariant-loop-o
invariant-loop-o l = (l.o ≤ l.n) × (sign_at l.table l.last (drop l.at l.text) ≡ l.o + place (fits l.table l.last (drop l.at l.text)) (up_from l.o (l.n - l.o)))
