-- What the outcomes of runs have to do with the qualities after their rounds, and with each other.
use Rattle.std.specs.Prelude.{◌≡◌, true, List, ℕ, zero, suc, ◌*◌, ◌≤◌, ◌<◌, length}
use Rattle.std.proofs.Common.{inl, inr, zero-le, arith, mul-le-mul_right}
use Rattle.spec.specs.System.{System, Outcome}
use Rattle.steps.specs.Rounds.{Backs, changed}
use Rattle.steps.proofs.Rounds.{bound}
use Rattle.steps.specs.Graph.{Closed}
use Rattle.steps.specs.Run.{Status, Ended}

-- the rounds reported are n at most, so n + 1 rounds complete
pub complete-if : {N : Type 0} (S : System N) → Backs S → (ps : List N) (b : ℕ) (o : Outcome) → Closed S ps → Ended S ps b o → suc (length ps) * suc (length ps) ≤ b → o.complete ≡ true
complete-if S B ps b o closed f h = go f.status
  where
    last : (r : ℕ) → ((k : ℕ) → k < r → changed S ps k ≡ true) → r ≤ length ps
    last zero g = zero-le
    last (suc r) g = bound S B ps closed r (g r (omega arith))

    go : Status S ps b o → o.complete ≡ true
    go (inl x) = x.0
    go (inr (x, y)) = absurd (omega (arith, mul-le-mul_right (suc (length ps)) (last o.rounds f.moved)))
