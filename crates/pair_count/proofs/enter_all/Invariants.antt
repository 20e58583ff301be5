use Rattle.std.proofs.Common.{◌-◌, ◌≡◌}
use Rattle.pair_count.specs.Counted.{entered_of}
use Rattle.pair_count.proofs.enter_all.Given as goal

-- entering what is left from here is entering all of it
abbrev pub invariant-loop-k : goal.invariant-loop-k
invariant-loop-k l = entered_of l.graph l.from (l.n - l.k) l.k l.table ≡ entered_of l.graph l.from l.n 0 l.fn.table
