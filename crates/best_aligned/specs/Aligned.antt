-- "A strictly better action replaces; structural actions come before transport": what a pair has after its structural actions.
use Rattle.std.specs.Prelude.{◌≡◌, List, map, ℕ, zero, suc, length, Option, Some, None}
use Rattle.spec.specs.Bytes.{Two}
use Rattle.spec.specs.Image.{Tables}
use Rattle.spec.specs.Action.{Action, structural}
use Rattle.spec.specs.System.{offer_all}
use Rattle.spec.specs.Pairs.{pairs}
use Rattle.spec.specs.Round.{Choice, stay, Turn, of_action}
use Rattle.actions.specs.Place.{Stands, after_of}
use Rattle.enumeration.specs.Seek.{start_of, seek_rows, seek_of}
use Rattle.actions.specs.declared.State.{State}
use Rattle.quality.specs.Offer.{offer_at, act_at}
use Rattle.quality.specs.declared.How.{How}
use Rattle.quality.specs.declared.How.TheVariants.{Stay, Aligned, Plan}
use Rattle.quality.specs.declared.Best.{Best}

-- the next n actions from w on are offered to b, as far as there are any
abbrev pub at_found : Option State → Best → (State → Best) → Best
at_found None b f = b
at_found (Some v) b f = f v

unfoldable pub best_from : Tables → (Two → Two) → Two → ℕ → State → Best → Best
unfolding seek_rows
best_from t q p zero w b = b
best_from t q p (suc n) w b = at_found (seek_of t p.0 p.1 w) b (λ v. best_from t q p n (after_of v) (offer_at t q v b))

-- The pair's own quality, or the first strictly best of its structural actions.
unfoldable pub best_aligned : Tables → (Two → Two) → Two → Best
unfolding best_from structural
best_aligned t q p = best_from t q p (length (structural t p.0 p.1)) (start_of t p.0 p.1) (record { size = (q p).0; mass = (q p).1; how = Stay })

-- ---- the same as a turn
-- what was chosen; a plan is not chosen among structural actions
abbrev pub choice_at : Tables → How → Choice
choice_at t Stay = stay
choice_at t (Aligned v) = act_at t v
choice_at t (Plan o n) = stay

-- an action stands at the state chosen
abbrev pub StandsAt : Tables → How → Type 0
StandsAt t Stay = Unit
StandsAt t (Aligned v) = Stands t v
StandsAt t (Plan o n) = ⊥

-- structural actions are offered to a turn
abbrev pub offer_actions : Tables → (Two → Two) → List Action → Turn → Turn
offer_actions t q l w = offer_all (pairs t) q (map of_action l) w

-- the first strictly best of what the pair has and of what its structural actions give
unfoldable pub after_aligned : Tables → (Two → Two) → Two → Turn
unfolding offer_all structural
after_aligned t q p = offer_actions t q (structural t p.0 p.1) (record { quality = q p; choice = stay })

-- b is that
pub record Aligns (t : Tables) (q : Two → Two) (p : Two) (b : Best) : Type 0 where
  pub quality : (b.size, b.mass) ≡ (after_aligned t q p).quality
  pub choice : choice_at t b.how ≡ (after_aligned t q p).choice
  pub stands : StandsAt t b.how
