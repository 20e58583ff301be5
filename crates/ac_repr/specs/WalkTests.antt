-- The walk on a small image, by evaluation: order, the class itself once.
use Rattle.std.specs.Prelude.{◌≡◌, refl, [], ◌∷◌}
use Rattle.spec.specs.Image.{Tables}
use Rattle.ac_repr.specs.Walk.{walk_at, all_walks, walks, after_of}

-- operation 0 Lit, 1 MSet with identity class 0; class 2 holds operation 1 over 1:1 0:2 1:3, class 3 operation 1 over 1:2
unfoldable pub small : Tables
small = record {
  operations = record { kind = 9; flag = 0; identity = 65535 } ∷ record { kind = 7; flag = 1; identity = 0 } ∷ [];
  classes = record { first = 0; count = 1; best = 0; size = 1 }
      ∷ record { first = 1; count = 1; best = 1; size = 1 }
      ∷ record { first = 2; count = 1; best = 2; size = 7 }
      ∷ record { first = 3; count = 1; best = 3; size = 3 }
      ∷ [];
  members = record { op = 0; value = 5; first = 0; count = 0 }
      ∷ record { op = 0; value = 7; first = 0; count = 0 }
      ∷ record { op = 1; value = 0; first = 0; count = 3 }
      ∷ record { op = 1; value = 0; first = 3; count = 1 }
      ∷ [];
  children = (1, 1) ∷ (0, 2) ∷ (1, 3) ∷ (1, 2) ∷ [];
}

-- class 2 has places 2 and 3, class 3 places 3 and 4
pub in-order : all_walks small 2 3 ≡ walk_at 1 2 3 ∷ walk_at 1 2 4 ∷ walk_at 1 3 3 ∷ walk_at 1 3 4 ∷ []
unfolding small all_walks
in-order = refl

pub after-second : walks small 2 3 (after_of (walk_at 1 2 4)) ≡ walk_at 1 3 3 ∷ walk_at 1 3 4 ∷ []
unfolding small walks
after-second = refl

-- a class paired with itself
pub same_class : all_walks small 2 2 ≡ []
unfolding small all_walks
same_class = refl
