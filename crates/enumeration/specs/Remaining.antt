-- "Action." The structural actions that are left at a state of their enumeration: members in stored order, the left class's outermost, straight before crossed.
use Rattle.std.specs.Prelude.{List, [], ◌∷◌, ◌++◌, ℕ, ◌+◌, drop, Option, Some, None}
use Rattle.std.proofs.Math.Seq.{slice}
use Rattle.spec.specs.Bytes.{each}
use Rattle.spec.specs.Image.{Tables, Member, the_class, members_of}
use Rattle.spec.specs.Action.{Action, align_members}
use Rattle.actions.specs.declared.State.{State}
use Rattle.actions.specs.Place.{Stands, action_at, after_of}

-- where the members of class c end
abbrev pub end_of : Tables → ℕ → ℕ
end_of t c = (the_class t c).first + (the_class t c).count

-- ---- what is left
-- of member a with right members, n actions with the first of them past
unfoldable pub row_from : Tables → Member → ℕ → List Member → List Action
unfolding align_members each
row_from t a n [] = []
row_from t a n (b ∷ l) = drop n (align_members t a b) ++ each (align_members t a) l

-- of left members, the first of them with the right members `row`, the others with all of class r
unfoldable pub rows_from : Tables → ℕ → ℕ → List Member → List Member → List Action
unfolding align_members each row_from
rows_from t r n row [] = []
rows_from t r n row (a ∷ l) = row_from t a n row ++ each (λ x. each (align_members t x) (members_of t r)) l

-- of classes l and r at state w
unfoldable pub list_from : Tables → ℕ → ℕ → State → List Action
unfolding rows_from
list_from t l r w = rows_from t r w.past (slice w.right (end_of t r) t.members) (slice w.left (end_of t l) t.members)

-- ---- what seeking finds: the first action that is left and a state behind which the others are, or that none is left
abbrev pub found_in : Tables → ℕ → ℕ → Option State → List Action
found_in t l r (Some v) = action_at t v ∷ list_from t l r (after_of v)
found_in t l r None = []

abbrev pub StandsFound : Tables → Option State → Type 0
StandsFound t (Some v) = Stands t v
StandsFound t None = Unit
