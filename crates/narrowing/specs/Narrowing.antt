-- (02, Paper 7) "Narrowing a monomial must say that it failed and at which entry (from 0) first."
use Rattle.std.specs.Prelude.{ℕ, Option, Some, None}
use Rattle.std.proofs.Math.Option.{none, some}
use Rattle.std.proofs.Math.Option as maybe

abbrev pub narrowed_of : maybe.Option ℕ → Option ℕ
narrowed_of none = None
narrowed_of (some i) = Some i
