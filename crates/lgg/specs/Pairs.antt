-- The words of steps at pairs of classes, for statements about queries.
use Rattle.std.specs.Prelude.{List, ℕ}
use Rattle.spec.specs.Bytes.{Two, Limits, Res, Checked}
use Rattle.spec.specs.Image.{Tables}
use Rattle.spec.specs.Pool.{Pool, Interned}
use Rattle.spec.specs.Pairs.{pairs, making}
use Rattle.spec.specs.Round.{Turn, Terms}
use Rattle.spec.specs.Run.{Outcome, State}
use Rattle.spec.specs.Meaning.{Move}
use Rattle.steps.specs.Graph as graph
use Rattle.steps.specs.Rounds as rounds
use Rattle.steps.specs.TurnsFrom as turns_from
use Rattle.steps.specs.RoundsFrom as rounds_from
use Rattle.steps.specs.Demand3 as demand3

-- the pairs hold every pair that one of them joins
abbrev pub Closed : Tables → List Two → Type 0
Closed t ps = graph.Closed (pairs t) ps

-- the full graph of the query has n pairs; no budget and no limit in sight
abbrev pub PairCount : Tables → Two → ℕ → Type 0
PairCount t root n = graph.NodeCount (pairs t) root n

-- the quality of pair p after r rounds over the pairs ps
abbrev pub quality_after : Tables → List Two → ℕ → Two → Two
quality_after t ps r p = rounds.quality_after (pairs t) ps r p

-- z is the quality of a derivation of height at most h, and every such derivation has at least as much
abbrev pub LeastOf : Tables → ℕ → Two → Two → Type 0
LeastOf t h p z = rounds.LeastOf (pairs t) (Move t) h p z

-- R is the first round, counted from 0, that changes no quality
abbrev pub FirstQuiet : Tables → List Two → ℕ → Type 0
FirstQuiet t ps R = demand3.FirstQuiet (pairs t) ps R

-- what a run with b checks reports that is not refused, where ps is its full graph, n its number of pairs, and R its first quiet round
abbrev pub Reported : Tables → Two → List Two → ℕ → ℕ → ℕ → Outcome → Type 0
Reported t p ps n R b o = demand3.Reported (pairs t) p ps n R b o

-- ---- a run as loops run it
-- the turns of a round from state s
abbrev pub turns_at : Tables → List Two → State → List Turn
turns_at t ps s = rounds_from.turns_at (pairs t) ps s

-- what the turns come to, with b checks left after the round's first one
abbrev pub round_at : Limits → Tables → List Two → State → ℕ → Res (Checked Terms)
round_at lim t ps s b = rounds_from.round_at (pairs t) (making lim t) ps s b

-- what the rounds from state s come to
abbrev pub rounds_of : Limits → Tables → List Two → State → Res Outcome
rounds_of lim t ps s = rounds_from.rounds_of (pairs t) (making lim t) ps s

-- what pair k's turn enters
abbrev pub turn_term : Limits → Tables → (Two → ℕ) → List Two → List Two → ℕ → Pool → Res Interned
turn_term lim t of ps qs k pool = turns_from.turn_term (pairs t) (making lim t) of ps qs k pool
