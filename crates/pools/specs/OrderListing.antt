-- The lines of a listing depend on the root's tree alone: two valid pools in which it is the same give the same bytes.
use Rattle.spec.specs.Pool.{Pool}
use Rattle.spec.specs.Run.{Outcome}

-- the outcome over another pool
abbrev pub over_pool : Outcome → Pool → Outcome
over_pool o q = record { complete = o.complete; nodes = o.nodes; rounds = o.rounds; quality = o.quality; pool = q; root = o.root; checks = o.checks }
