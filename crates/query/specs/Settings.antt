-- The settings of a call, as the definitions take them.
use Rattle.std.specs.Prelude.{◌≤◌}
use Rattle.spec.specs.Bytes as bytes
use Rattle.spec.specs.Bytes.{Two}
use Rattle.query.specs.declared.Limits.{Limits}
use Rattle.query.specs.declared.Query.{Query}

-- the limits, as an argument of the definitions
abbrev pub limits_of : Limits → bytes.Limits
limits_of l = record { pairs = l.pairs; terms = l.terms; runs = l.runs }

-- the queried pair
abbrev pub asked_of : Query → Two
asked_of q = (q.left, q.right)

-- no limit is above document 01's
pub record Within (l : bytes.Limits) : Type 0 where
  pub pairs : l.pairs ≤ 4096
  pub terms : l.terms ≤ 16384
  pub runs : l.runs ≤ 65536
