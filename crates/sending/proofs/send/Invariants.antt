use Rattle.search_laws.specs.Walk.{here, LAST}
use Rattle.search_laws.specs.Path.{Steps, sent}
use Prim.Native.Nat.{ℕ, ◌≤◌, ◌<◌, ◌-◌, ◌+◌, ◌*◌, ◌^◌}
use mathlib.Core.Path.{◌≡◌}
use lib.ListN.{length, get_or}
use Rattle.sending.proofs.send.Given as goal

abbrev pub invariant-loop-a : goal.invariant-loop-a
invariant-loop-a l = (l.a ≤ LAST) × (length l.flow ≡ length l.initial.flow) × Steps l.r l.c (here l.path l.a) × ((k : ℕ) → k < l.r * l.c → get_or l.flow k 0 + (LAST - l.a) * l.n < 2 ^ 64) × (sent l.r l.c l.n (here l.path l.a) l.flow ≡ sent l.r l.c l.n (here l.path l.from) l.initial.flow)
