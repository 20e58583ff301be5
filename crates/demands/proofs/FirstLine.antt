-- "The first line has the status (`complete` or `partial`), pairs, rounds, size, mass", (02, Paper 7) "`skipped` and the number of monomial pairs passed over" and (Paper 13) "a final field `checks`": its bytes tell each of them.
-- So what is said of an outcome is said of what the first line prints.
use Rattle.std.specs.Prelude.{◌≡◌, List, [], ◌++◌, ℕ}
use Rattle.std.proofs.Common.{ap}
use Rattle.spec.specs.Run.{Outcome}
use Rattle.spec.specs.Listing.{first_line}
use Rattle.demands.specs.FirstLine.{SameReport, first-line-cut}

-- Two first lines of the same bytes have the same status, pairs, rounds, size, mass, number skipped and checks.
pub first-line-tells : (k j : ℕ) (o u : Outcome) → first_line k o ≡ first_line j u → SameReport k j o u
first-line-tells k j o u e = (first-line-cut k j o u [] [] (ap (λ (z : List ℕ). z ++ []) e)).0
