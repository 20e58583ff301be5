-- A turn over a list of pairs that holds every pair it joins, read from any tables that agree with the list's qualities and terms.
use Rattle.std.specs.Prelude.{◌≡◌, List, ℕ, ◌<◌, length, get_or}
use Rattle.spec.specs.Bytes.{Limits, In, Two}
use Rattle.spec.specs.Image.{Tables}
use Rattle.spec.specs.Pool.{Pool}
use Rattle.spec.specs.Pairs.{pairs, making}
use Rattle.spec.specs.Round.{look_up, turn_of, choice_term}
use Rattle.laws.specs.Lists.{get_in}
use Rattle.steps.specs.Graph.{Closed}
use Rattle.steps.specs.Reads as reads
use Rattle.lgg.specs.Moves.{pair_reads}

module _ (lim : Limits) (t : Tables) (ps : List Two) (closed : Closed (pairs t) ps) where
  -- pair k's turn and its term, from tables q and of that agree with the lists qs and ts
  pub turn-read : (q : Two → Two) (qs : List Two) → ((c : Two) → In c ps → q c ≡ look_up (0, 0) ps qs c) → (k : ℕ) → k < length ps → turn_of t q (get_or ps k (0, 0)) ≡ turn_of t (look_up (0, 0) ps qs) (get_or ps k (0, 0))
  turn-read q qs h k l = reads.turn-closed (pairs t) (pair_reads t) ps closed q (look_up (0, 0) ps qs) h (get_or ps k (0, 0)) (get_in (0, 0) ps k l)

  pub term-read : (q : Two → Two) (qs : List Two) (of : Two → ℕ) (ts : List ℕ) → ((c : Two) → In c ps → q c ≡ look_up (0, 0) ps qs c) → ((c : Two) → In c ps → of c ≡ look_up 0 ps ts c) → (k : ℕ) (pool : Pool) → k < length ps
      → choice_term lim t of pool (of (get_or ps k (0, 0))) (turn_of t q (get_or ps k (0, 0))).choice ≡ choice_term lim t (look_up 0 ps ts) pool (look_up 0 ps ts (get_or ps k (0, 0))) (turn_of t (look_up (0, 0) ps qs) (get_or ps k (0, 0))).choice
  term-read q qs of ts h g k pool l = reads.term-closed (pairs t) (pair_reads t) ps closed (making lim t) q (look_up (0, 0) ps qs) of (look_up 0 ps ts) pool h g (get_or ps k (0, 0)) (get_in (0, 0) ps k l)
