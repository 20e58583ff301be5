use Rattle.std.proofs.Common.{◌-◌, ◌≡◌, ◌≤◌, ◌+◌}
use Rattle.pair_search.specs.Search.{seek}
use Rattle.pair_search.proofs.find_block.Given as goal

-- the search from here is the search from the start
abbrev pub invariant-loop-i : goal.invariant-loop-i
invariant-loop-i l = (l.i ≤ l.end) × (seek l.table (l.left, l.right) (l.end - l.i) l.i ≡ seek l.table (l.left, l.right) l.end 0)

abbrev pub decreases-loop-i : goal.decreases-loop-i
decreases-loop-i l = l.end + 1 - l.i
