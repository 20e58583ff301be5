-- "Action." A place in the enumeration of structural actions, and the action there.
use Rattle.std.specs.Prelude.{List, [], ℕ, ◌+◌, ◌<◌, length, get_or}
use Rattle.spec.specs.Image.{Tables, the_member}
use Rattle.spec.specs.Action.{Action, align_members}
use Rattle.actions.specs.declared.State.{State}

-- ---- the actions of the two members at a state, and the one that follows those that are past
abbrev pub actions_at : Tables → State → List Action
actions_at t v = align_members t (the_member t v.left) (the_member t v.right)

abbrev pub action_at : Tables → State → Action
action_at t v = get_or (actions_at t v) v.past (record { op = 0; pairs = [] })

-- An action stands at v: its members are the image's, and not all of their actions, two at most, are past.
pub record Stands (t : Tables) (v : State) : Type 0 where
  pub left : v.left < length t.members
  pub right : v.right < length t.members
  pub more : v.past < length (actions_at t v)
  pub few : v.past < 2

abbrev pub after_of : State → State
after_of v = record { left = v.left; right = v.right; past = v.past + 1 }
