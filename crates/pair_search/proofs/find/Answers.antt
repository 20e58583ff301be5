use Rattle.std.proofs.Common.{◌-◌, ◌≡◌, ◌+◌, ◌<◌, ◌∙◌, ap, sym, true, false, List, ℕ, suc, get_or, arith}
use Rattle.spec.specs.Bytes.{Two, same_two}
use Rattle.pair_search.specs.declared.Pair.{Pair}
use Rattle.pair_search.specs.Records.{none, two_of}
use Rattle.pair_search.specs.Search.{seek, seek-here, seek-on, seek_finds}
use Rattle.pair_search.proofs.find.Goals as goal

left : (end i : ℕ) → i < end → suc (end - (i + 1)) ≡ end - i
left end i h = omega (arith, h)

-- a record that is not the pair is passed over, by places
on : (s : List Pair) (p : Two) (end i : ℕ) → i < end → same_two p (two_of (get_or s i none)) ≡ false → seek s p (end - (i + 1)) (i + 1) ≡ seek s p (end - i) i
on s p end i h e = sym (seek-on s p (end - (i + 1)) i e) ∙ ap (λ (k : ℕ). seek s p k i) (left end i h)

here : (s : List Pair) (p : Two) (end i : ℕ) → i < end → same_two p (two_of (get_or s i none)) ≡ true → i ≡ seek s p (end - i) i
here s p end i h e = sym (seek-here s p (end - (i + 1)) i e) ∙ ap (λ (k : ℕ). seek s p k i) (left end i h)

-- src/lib.rt:85:5
pub loop-i-init : goal.loop-i-init
loop-i-init c = c.find_block-i.ensures.1 ∙ rw c.min-end.ensures (seek_finds c.args.table.now (c.args.left, c.args.right) c.args.count)

-- src/lib.rt:85:5
pub loop-i-preserved : goal.loop-i-preserved
loop-i-preserved c = on c.args.table.now (c.args.left, c.args.right) c.min-end.result c.loop-i.i c.loop-i-test.true (sym c.is_pair.ensures ∙ c.if-is_pair.false) ∙ c.loop-i.invariant
