use Rattle.std.proofs.Common.{◌-◌, ◌≡◌, ◌+◌, ◌<◌, ◌∙◌, ap, Bool, List, ℕ, suc, get_or, arith}
use Rattle.spec.specs.Bytes.{either, Two, same_two}
use Rattle.pair_search.specs.declared.Pair.{Pair}
use Rattle.pair_search.specs.Records.{none, two_of}
use Rattle.pair_search.specs.Search.{any_from, any_step}
use Rattle.pair_search.proofs.any_pair.Goals as goal

-- the next record is looked at, by places
any_on : (s : List Pair) (p : Two) (end i : ℕ) (t : Bool) → i < end → either (either t (same_two p (two_of (get_or s i none)))) (any_from s p (end - (i + 1)) (i + 1)) ≡ either t (any_from s p (end - i) i)
any_on s p end i t h = any_step s p (end - (i + 1)) i t ∙ ap (λ (k : ℕ). either t (any_from s p k i)) left
  where
    left : suc (end - (i + 1)) ≡ end - i
    left = omega (arith, h)

-- src/lib.rt:57:5
pub loop-i-preserved : goal.loop-i-preserved
loop-i-preserved c = rw c.or_pair-any.ensures (any_on c.args.table.now (c.args.left, c.args.right) c.args.to c.loop-i.i c.loop-i.any c.loop-i-test.true ∙ c.loop-i.invariant)
