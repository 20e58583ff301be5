use Rattle.std.proofs.Common.{◌-◌, ◌≡◌, ◌+◌, ◌<◌, ◌∙◌, ap, sym, true, false, List, ℕ, suc, arith}
use Rattle.pair_search.specs.declared.Pair.{Pair}
use Rattle.pair_table.specs.Table.{enter_of, table_after}
use Rattle.pair_count.specs.Counted.{not_new, pair_at, entered_of}
use Rattle.pair_count.specs.From.{entered-ends, entered-goes-on}
use Rattle.pair_count.proofs.enter_all.Goals as goal

module _ (graph : List ℕ) (from n k : ℕ) (s : List Pair) (h : k < n) where
  left : suc (n - (k + 1)) ≡ n - k
  left = omega (arith, h)

  ends : not_new (enter_of s k (pair_at graph from k)) ≡ true → (k, table_after s k (pair_at graph from k)) ≡ entered_of graph from (n - k) k s
  ends e = entered-ends graph from (n - (k + 1)) k s e ∙ ap (λ (m : ℕ). entered_of graph from m k s) left

  goes_on : not_new (enter_of s k (pair_at graph from k)) ≡ false → entered_of graph from (n - (k + 1)) (k + 1) (table_after s k (pair_at graph from k)) ≡ entered_of graph from (n - k) k s
  goes_on e = entered-goes-on graph from (n - (k + 1)) k s e ∙ ap (λ (m : ℕ). entered_of graph from m k s) left

-- src/lib.rt:62:13
pub returns-then-not_new : goal.returns-then-not_new
returns-then-not_new c =
    let e = rw (c.left_of-l.ensures, c.right_of-r.ensures) at c.enter-e.ensures in
    let g = ends c.args.graph.now c.args.from c.args.n c.loop-k.k c.loop-k.table c.loop-k-test.true (ap not_new (sym e.0) ∙ sym c.not_new.ensures ∙ c.if-not_new.true) ∙ c.loop-k.invariant in
    (ap (λ (z : ℕ × List Pair). z.0) g, e.1 ∙ ap (λ (z : ℕ × List Pair). z.1) g)

-- src/lib.rt:57:5
pub loop-k-preserved : goal.loop-k-preserved
loop-k-preserved c =
    let e = rw (c.left_of-l.ensures, c.right_of-r.ensures) at c.enter-e.ensures in
    rw e.1 (goes_on c.args.graph.now c.args.from c.args.n c.loop-k.k c.loop-k.table c.loop-k-test.true (ap not_new (sym e.0) ∙ sym c.not_new.ensures ∙ c.if-not_new.false) ∙ c.loop-k.invariant)
