use Rattle.std.proofs.Common.{◌-◌, ◌≡◌}
use Rattle.spec.specs.Bytes.{either}
use Rattle.pair_search.specs.Search.{any_from}
use Rattle.pair_search.proofs.any_pair.Given as goal

-- what was seen, or what the rest holds, is what all of them hold
abbrev pub invariant-loop-i : goal.invariant-loop-i
invariant-loop-i l = either l.any (any_from l.table (l.left, l.right) (l.to - l.i) l.i) ≡ any_from l.table (l.left, l.right) (l.to - l.from) l.from
