-- The two words of a number.
use Rattle.std.specs.Prelude.{ℕ, ◌/◌, ◌%◌, ◌^◌}
use Rattle.wide.specs.declared.Wide.{Wide}

abbrev pub words_of : ℕ → Wide
words_of x = record { lo = x % 2 ^ 64; hi = x / 2 ^ 64 }
