use Rattle.std.proofs.Common.{◌-◌, ◌≡◌}
use Rattle.pair_search.specs.Records.{find_of}
use Rattle.pair_search.specs.Search.{seek}
use Rattle.pair_search.proofs.find.Given as goal

-- the search from here gives what is promised
abbrev pub invariant-loop-i : goal.invariant-loop-i
invariant-loop-i l = seek l.table (l.left, l.right) (l.end - l.i) l.i ≡ find_of l.table l.count (l.left, l.right)
