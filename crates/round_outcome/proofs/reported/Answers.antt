use Prim.Native.Nat.{ℕ}
use mathlib.Core.Path.{ap}
use lib.ListN.{get_or}
use Rattle.round_outcome.proofs.reported.Goals as goal

pub returns : goal.returns
returns c =
    let a = c.args in
    ap (λ (x : ℕ). record { complete = a.complete; pairs = a.n; rounds = a.rounds; size = get_or a.pairs.now 0 0; mass = get_or a.pairs.now 1 0; root = x; checks = a.checks }) c.size_u32.ensures.0
