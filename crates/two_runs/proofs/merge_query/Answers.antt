use Rattle.std.proofs.Common.{◌≡◌, refl, sym, ◌∙◌, Bool, true, false, not, ℕ, length, arith}
use Rattle.contract.specs.Merges.{fits}
use Rattle.two_runs.specs.Assembled.{one, table-alone, work-alone, all_of, table_of, work-of, settled}
use Rattle.two_runs.proofs.merge_query.Goals as goal

fails : (b : Bool) → not b ≡ true → b ≡ false
fails true e = let z : ◌≡◌ {A = ℕ} 0 1 = cc in absurd (omega arith)
fails false e = refl

holds : (b : Bool) → not b ≡ false → b ≡ true
holds true e = refl
holds false e = let z : ◌≡◌ {A = ℕ} 0 1 = cc in absurd (omega arith)

-- src/lib.rt:93:9
pub returns-then-short : goal.returns-then-short
returns-then-short c =
    let a = c.args in
    let fit : Bool = fits a.table.now a.graph.now a.pairs.now a.work.now a.flow.now a.terms.now a.runs.now in
    let e : fit ≡ false = fails fit (sym c.short.ensures ∙ c.if-short.true) in (
      one a.q.caller a.s.now a.q.left a.q.right a.q.budget fit a.out.now _ refl e,
      table-alone fit a.table.now e,
      work-alone fit a.graph.now a.pairs.now a.work.now a.flow.now a.terms.now a.runs.now e,
    )

-- src/lib.rt:71:1
pub returns : goal.returns
returns c =
    let a = c.args in
    let m = c.merge_under-a in
    let fit : Bool = fits a.table.now a.graph.now a.pairs.now a.work.now a.flow.now a.terms.now a.runs.now in
    let e : fit ≡ true = holds fit (sym c.short.ensures ∙ c.if-short.false) in (
      all_of a.q.caller a.s.now a.q.left a.q.right a.q.budget fit a.out.now c.settle.new.out c.settle.result e
          (settled a.s.now a.q c.small-lim.result c.small-lim.ensures (length a.graph.now) a.out.now m.new.out c.settle.new.out m.result c.settle.result m.ensures.0 c.settle.ensures),
      table_of fit a.table.now m.new.table e m.ensures.1,
      work-of fit a.graph.now a.pairs.now a.work.now a.flow.now a.terms.now a.runs.now m.new.graph m.new.pairs m.new.work m.new.flow m.new.terms m.new.runs e m.ensures.2,
    )
