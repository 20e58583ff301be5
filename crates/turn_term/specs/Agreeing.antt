-- The best that a turn found, beside the definition's turn: it has the quality of its choice, and a plan that was chosen is listed.
use Rattle.std.specs.Prelude.{◌≡◌, List, ℕ, ◌≤◌, length, take}
use Rattle.spec.specs.Bytes.{Two}
use Rattle.spec.specs.Image.{Tables}
use Rattle.spec.specs.Round.{Choice, stay, act, Turn}
use Rattle.actions.specs.Place.{Stands}
use Rattle.quality.specs.Offer.{act_at}
use Rattle.action_runs.specs.Runs.{runs_over}
use Rattle.quality.specs.declared.How.{How}
use Rattle.quality.specs.declared.How.TheVariants as H
use Rattle.quality.specs.declared.Best.{Best}

-- the choice c is a plan under operation o, and its runs are the first m of the list, of the k places that the list may take
pub record Planned (k : ℕ) (of : Two → ℕ) (list : List ℕ) (o m : ℕ) (c : Choice) : Type 0 where
  pub places : List Two
  pub plan : List ℕ
  pub is : c ≡ act (record { op = o; places = places; counts = plan })
  pub runs : take m list ≡ runs_over of places plan
  pub many : m ≡ length (runs_over of places plan)
  pub few : m ≤ k

abbrev pub Chosen : ℕ → Tables → (Two → ℕ) → List ℕ → How → Choice → Type 0
Chosen k t of list H.Stay c = c ≡ stay
Chosen k t of list (H.Aligned v) c = Stands t v × (c ≡ act_at t v)
Chosen k t of list (H.Plan o m) c = Planned k of list o m c

pub record Agrees (k : ℕ) (t : Tables) (of : Two → ℕ) (list : List ℕ) (b : Best) (w : Turn) : Type 0 where
  pub quality : (b.size, b.mass) ≡ w.quality
  pub chosen : Chosen k t of list b.how w.choice
