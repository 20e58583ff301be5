-- What a pair's turn leaves in the two work buffers.
use Rattle.std.specs.Prelude.{◌≡◌, List, ℕ}
use Rattle.spec.specs.Bytes.{Two, Limits}
use Rattle.spec.specs.Image.{Tables}
use Rattle.spec.specs.Action.{transports}
use Rattle.spec.specs.Round.{turn_of}
use Rattle.best_aligned.specs.Aligned.{best_aligned}
use Rattle.offers.specs.Offers.{Work, work_of, offers_in}
use Rattle.turn_term.specs.FinalTerm.{term_list}

-- the structural actions are offered, then the transports
unfoldable pub turn_in : Limits → Tables → (Two → Two) → (Two → ℕ) → Two → List ℕ → List ℕ → Work
unfolding best_aligned offers_in transports
turn_in lim t q of p work flow = offers_in lim.pairs q of (transports t p.0 p.1) (work_of work flow (best_aligned t q p))

-- What a turn leaves in the two work buffers.
pub record Leaves (lim : Limits) (t : Tables) (q : Two → Two) (of : Two → ℕ) (p : Two) (terms runs work flow work' flow' : List ℕ) : Type 0 where
  pub work_is : work' ≡ term_list t of terms runs (turn_of t q p).choice (turn_in lim t q of p work flow).work
  pub flow_is : flow' ≡ (turn_in lim t q of p work flow).flow
