-- What a run reports that is cut short before its rounds.
use Rattle.std.specs.Prelude.{◌≡◌, false, ℕ}
use Rattle.spec.specs.Bytes.{Two}
use Rattle.spec.specs.Image.{Tables}
use Rattle.spec.specs.Round.{starting_quality}
use Rattle.outcome.specs.declared.Outcome.{Outcome}

-- what is reported of a run that is cut short before its rounds
abbrev pub started_in : Tables → Two → ℕ → ℕ → ℕ → Outcome
started_in t p n root budget = record { complete = false; pairs = n; rounds = 0; size = (starting_quality t p).0; mass = (starting_quality t p).1; root = root; checks = budget }

-- .. by the classes as the code reads them, and their qualities
pub started-as : (t : Tables) (n root budget l r left right : ℕ) → l ≡ left → r ≡ right → (size mass : ℕ) → size ≡ (starting_quality t (l, r)).0 → mass ≡ (starting_quality t (l, r)).1
    → record { complete = false; pairs = n; rounds = 0; size = size; mass = mass; root = root; checks = budget } ≡ started_in t (left, right) n root budget
started-as t n root budget l r left right e f size mass g h = rw (← e, ← f) (λ i. record { complete = false; pairs = n; rounds = 0; size = g i; mass = h i; root = root; checks = budget })
