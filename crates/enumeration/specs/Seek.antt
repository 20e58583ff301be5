-- "Action." The walk over the structural actions of two classes: members in stored order, the left class's outermost, straight before crossed.
use Rattle.std.specs.Prelude.{true, false, ℕ, zero, suc, ◌+◌, ◌-◌, eqb, ltb, length, Option, Some, None}
use Rattle.spec.specs.Bytes.{pick}
use Rattle.spec.specs.Image.{Tables, the_class}
use Rattle.spec.specs.Action.{align_members}
use Rattle.actions.specs.Place.{actions_at}
use Rattle.enumeration.specs.Remaining.{end_of}
use Rattle.actions.specs.declared.State.{State}

-- Before the first action. "A class paired with itself has no actions."
abbrev pub start_of : Tables → ℕ → ℕ → State
start_of t l r = record { left = pick (eqb l r) (end_of t l) (the_class t l).first; right = (the_class t r).first; past = 0 }

-- ---- the left member at w: the first action at or behind w with one of n right members
abbrev pub next_right : State → State
next_right w = record { left = w.left; right = w.right + 1; past = 0 }

unfoldable pub seek_row : Tables → ℕ → State → Option State
unfolding align_members
seek_row t zero w = None
seek_row t (suc n) w = elim (ltb w.past (length (actions_at t w))) [ true ↦ Some w | false ↦ seek_row t n (next_right w) ]

-- with a right member before `to`
abbrev pub seek_right_of : Tables → ℕ → State → Option State
seek_right_of t to w = seek_row t (to - w.right) w

-- ---- n left members: the first action at or behind w with a member of class r
abbrev pub next_left : Tables → ℕ → State → State
next_left t r w = record { left = w.left + 1; right = (the_class t r).first; past = 0 }

abbrev pub or_else : Option State → Option State → Option State
or_else (Some v) y = Some v
or_else None y = y

unfoldable pub seek_rows : Tables → ℕ → ℕ → State → Option State
unfolding seek_row
seek_rows t r zero w = None
seek_rows t r (suc n) w = or_else (seek_right_of t (end_of t r) w) (seek_rows t r n (next_left t r w))

-- The first action at or behind w, of classes l and r.
abbrev pub seek_of : Tables → ℕ → ℕ → State → Option State
seek_of t l r w = seek_rows t r (end_of t l - w.left) w
