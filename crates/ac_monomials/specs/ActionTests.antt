-- The actions of the walk on a small image, by evaluation: padding, both classes as themselves.
use Rattle.std.specs.Prelude.{◌≡◌, refl, [], ◌∷◌}
use Rattle.spec.specs.Monomial.{pair_of}
use Rattle.ac_repr.specs.Walk.{walk_at}
use Rattle.ac_repr.specs.WalkTests.{small}
use Rattle.ac_monomials.specs.Actions.{actions_at}

-- 0:2 1:4 beside 1:2, padded with the identity
pub padded-right : actions_at small 2 3 (walk_at 1 2 3) ≡ record { op = 1; sides = pair_of ((0, 2) ∷ (1, 4) ∷ []) ((0, 4) ∷ (1, 2) ∷ []) } ∷ []
unfolding small actions_at
padded-right = refl

-- class 2 itself once beside 1:2
pub padded-left : actions_at small 2 3 (walk_at 1 3 3) ≡ record { op = 1; sides = pair_of ((0, 1) ∷ (2, 1) ∷ []) ((1, 2) ∷ []) } ∷ []
unfolding small actions_at
padded-left = refl

-- both classes as themselves
pub both-themselves : actions_at small 2 3 (walk_at 1 3 4) ≡ []
unfolding small actions_at
both-themselves = refl
