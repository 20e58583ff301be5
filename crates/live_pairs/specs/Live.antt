-- Live pairs: those that can improve in a round.
use Rattle.std.specs.Prelude.{Bool, List, ℕ, ◌-◌, ltb, get_or}
use Rattle.spec.specs.Bytes.{pick, both, Two}
use Rattle.laws.specs.Firsts.{first_from}
use Rattle.changes.specs.Marks.{marked_in}

-- pair p is live: both classes are marked
abbrev pub live_in : List ℕ → List ℕ → Two → Bool
live_in llive rlive p = both (marked_in llive p.0) (marked_in rlive p.1)

-- the first live pair of ps from number k on, below n; n if there is none
abbrev pub next_live : List Two → List ℕ → List ℕ → ℕ → ℕ → ℕ
next_live ps llive rlive k n = first_from (λ i. live_in llive rlive (get_or ps i (0, 0))) k n

-- the checks of a step from pair k, where j is the next live one
abbrev pub due_of : ℕ → ℕ → ℕ
due_of k j = pick (ltb k j) (j - k) 1
