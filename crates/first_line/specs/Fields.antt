-- What the first line reports, from a report.
use Rattle.std.specs.Prelude.{List, [], ℕ}
use Rattle.spec.specs.Pool.{Pool}
use Rattle.spec.specs.Run.{Outcome}
use Rattle.spec.specs.Listing.{Field, reported}
use Rattle.first_line.specs.declared.Report.{Report}

-- the outcome that a report is about
abbrev pub outcome_of : Report → Pool → ℕ → Outcome
outcome_of f pool root = record { complete = f.complete; nodes = f.pairs; rounds = f.rounds; quality = (f.size, f.mass); pool = pool; root = root; checks = f.checks }

-- pool and root are not reported
unfoldable pub fields_of : Report → List Field
unfolding reported
fields_of f = reported f.skipped (outcome_of f [] 0)
