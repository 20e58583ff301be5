-- What is left of a room after so many bytes.
use Rattle.std.specs.Prelude.{Option, Some, None, Bool, ℕ, ◌+◌, ◌*◌, ◌-◌, leb}
use Rattle.spec.specs.Bytes.{pick}

abbrev pub room_after : ℕ → ℕ → Option ℕ
room_after room n = pick (leb n room) (Some (room - n)) None

-- what a run of n children of w bytes has beside the first child, for a gap of g bytes
abbrev pub run_width : Bool → ℕ → ℕ → ℕ → ℕ
run_width first g w n = g * pick first (n - 1) n + w * (n - 1)
