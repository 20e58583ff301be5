-- A pair's visit in a round: what it answers, and what it leaves in the arrays.
use Rattle.std.specs.Prelude.{◌≡◌, List, ℕ, ◌+◌, ◌*◌, get_or, Bool, Option, Some, None}
use Rattle.spec.specs.Bytes.{Limits, Two, Res, ok, refused}
use Rattle.spec.specs.Image.{Tables}
use Rattle.spec.specs.Pool.{Pool, Interned}
use Rattle.spec.specs.Round.{Turn, changes, turn_of, choice_term}
use Rattle.arrays.specs.Arrays.{given, quality_in, term_in}
use Rattle.terms.specs.Buffers.{pool_of}
use Rattle.interning.specs.Interning.{pool_after}
use Rattle.interning.specs.Growing.{Grows}
use Rattle.turns.specs.Leaving as leaving
use Rattle.turn_term.specs.FinalTerm.{term_list}

-- what the code reads for pair p's turn, and the term that it gives
abbrev pub turn_in : Tables → ℕ → List ℕ → List ℕ → Two → Turn
turn_in t w graph pairs p = turn_of t (quality_in w graph pairs) p

abbrev pub term_made : Limits → Tables → ℕ → List ℕ → List ℕ → Pool → Two → Res Interned
term_made lim t w graph pairs pool p = choice_term lim t (term_in w graph pairs) pool (term_in w graph pairs p) (turn_in t w graph pairs p).choice

-- ---- the turn u of pair k, whose term is m
-- whether it changes; or refusal 13
abbrev pub step_of : Turn → Res Interned → Option Bool
step_of u (ok a) = Some (changes u)
step_of u (refused n) = None

-- its new numbers, beside those of the round before
abbrev pub numbers_after : Turn → Res Interned → ℕ → List ℕ → List ℕ
numbers_after u (ok a) k pairs = given pairs (6 * k + 3) u.quality.0 u.quality.1 a.term
numbers_after u (refused n) k pairs = pairs

-- what the round gives pair k is what it has
abbrev pub Idle : List ℕ → ℕ → Type 0
Idle pairs k = (get_or pairs (6 * k + 3) 0 ≡ get_or pairs (6 * k) 0) × (get_or pairs (6 * k + 4) 0 ≡ get_or pairs (6 * k + 1) 0) × (get_or pairs (6 * k + 5) 0 ≡ get_or pairs (6 * k + 2) 0)

-- pair p, which is pair k, is visited
pub record Visits (lim : Limits) (t : Tables) (w : ℕ) (graph : List ℕ) (p : Two) (k : ℕ) (pairs work flow terms runs pairs' work' flow' terms' runs' : List ℕ) (r : Option Bool) : Type 0 where
  pub answer : r ≡ step_of (turn_in t w graph pairs p) (term_made lim t w graph pairs (pool_of terms runs) p)
  pub numbers : pairs' ≡ numbers_after (turn_in t w graph pairs p) (term_made lim t w graph pairs (pool_of terms runs) p) k pairs
  -- terms and runs hold the pool with the turn's term
  pub grows : Grows terms runs terms' runs' (pool_after (pool_of terms runs) (term_made lim t w graph pairs (pool_of terms runs) p))
  pub work_is : work' ≡ term_list t (term_in w graph pairs) terms runs (turn_in t w graph pairs p).choice (leaving.turn_in lim t (quality_in w graph pairs) (term_in w graph pairs) p work flow).work
  pub flow_is : flow' ≡ (leaving.turn_in lim t (quality_in w graph pairs) (term_in w graph pairs) p work flow).flow
