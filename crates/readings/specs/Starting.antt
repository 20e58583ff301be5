-- "Starting term: the best term of one class, mass 0; or the marked place Variants of two best terms, size and mass both their sum.": it belongs to the pair's left class read by the first branches, to the right one read by the second.
use Rattle.std.specs.Prelude.{◌≡◌, Bool, ℕ, zero, suc, ◌+◌, ◌≤◌, ◌<◌}
use Rattle.std.proofs.Math.Path.{refl, ap, ap₂}
use Rattle.std.proofs.Common.{◌∙◌, arith, eqb-true}
use Rattle.std.proofs.Math.Bool.{true, false}
use mathlib.Core.List.{List, [], ◌∷◌, map}
use Rattle.std.proofs.Math.Dec.{eqb}
use Rattle.std.proofs.Math.ListN.{length}
use Rattle.spec.specs.Bytes.{Limits, Two, pick, sum, ok, ◌>>=◌}
use Rattle.spec.specs.Image.{Tables, BEST-SIZE, best_size}
use Rattle.spec.specs.Pool.{Pool, join_runs, variants_node, Interned, intern, best_term, starting_term}
use Rattle.spec.specs.Pairs.{starting_quality, pairs, making}
use Rattle.spec.specs.Meaning.{Term, term_quality, runs_quality, reading, runs_of, tree_of, trees_after, at_place, no_branch, and_branch, Belongs}
use Rattle.laws.specs.Valid.{Valid}
use Rattle.laws.specs.Results.{bind_ok}
use Rattle.pools.specs.Pool.{PoolValid, variants-valid, numbered, tree-marked}
use Rattle.pools.specs.PoolIntern.{extends-trans, extends-within, extends-tree}
use Rattle.pools.proofs.PoolIntern.{intern-enters}
use Rattle.laws.specs.BestMembers.{IsPair}
use Rattle.steps.specs.Standing.{Begins}
use Rattle.steps.specs.Readings.{Makes}
use Rattle.lgg.specs.Stands.{Fits}
use Rattle.readings.specs.ReadingsNode.{size, runs-size, two-branches, read-place, TermFor}
use Rattle.readings.specs.Best.{Itself, best-term}

-- the classes of a pair: the left one, the right one
abbrev pub sides : Two → ℕ → ℕ
sides p zero = p.0
sides p (suc k) = p.1

-- good for a pair and a quality
abbrev pub Good : Tables → Two → Two → Term → Type 0
Good t = TermFor t 2 sides

module _ (lim : Limits) (t : Tables) where
  two_ways : (P : ℕ → Type 0) → P 0 → P 1 → (k : ℕ) → k < 2 → P k
  two_ways P f s zero h = f
  two_ways P f s (suc zero) h = s
  two_ways P f s (suc (suc k)) h = absurd (omega arith)

  same-classes : (p : Pool) (c q : Two) (r : Interned) → c.0 ≡ c.1 → Makes (TermFor t 2 Itself) p c.0 q r → Makes (Good t) p c q r
  same-classes p c q r e M = record {
    valid = M.valid;
    grown = M.grown;
    within = M.within;
    good = record { quality = M.good.quality; branched = M.good.branched; reads = two_ways _ (M.good.reads 0 (omega arith)) (rw (← e) (M.good.reads 1 (omega arith))) };
  }

  marked-good : (c : Two) (ts : List Term) (a b : ℕ) → TermFor t 2 Itself c.0 (best_size t c.0, 0) (numbered ts a) → TermFor t 2 Itself c.1 (best_size t c.1, 0) (numbered ts b)
      → Good t c (best_size t c.0 + best_size t c.1, best_size t c.0 + best_size t c.1) (tree_of ts (variants_node a b))
  unfolding term_quality sum
  marked-good c ts a b g h =
      let r = runs_of ts (join_runs ((a, 1) ∷ (b, 1) ∷ [])) in
      let s : (runs_quality r).0 ≡ best_size t c.0 + best_size t c.1 =
      runs-size r ∙ ap (λ (l : List Term). sum (map size l)) (two-branches ts a b) ∙ omega (arith, ap (λ (z : Two). z.0) g.quality, ap (λ (z : Two). z.0) h.quality) in record {
        quality = ap term_quality (tree-marked ts (variants_node a b) refl) ∙ ap₂ (λ (x y : ℕ). (x, y)) s s;
        branched = rw (tree-marked ts (variants_node a b) refl) (at_place (ap length (two-branches ts a b)) (rw (two-branches ts a b) (and_branch g.branched (and_branch h.branched no_branch))));
        reads = two_ways (λ k. Belongs t (reading k (tree_of ts (variants_node a b))) (sides c k)) (rw (read-place ts a b 0 (omega arith)) (g.reads 0 (omega arith))) (rw (read-place ts a b 1 (omega arith)) (h.reads 1 (omega arith)));
      }

  pub starting-made : Valid t → (p : Pool) (c : Two) (r : Interned) → c.0 < length t.classes → c.1 < length t.classes → PoolValid p → starting_term lim t p c ≡ ok r → Makes (Good t) p c (starting_quality t c) r
  unfolding starting_term
  starting-made v p c r h k w e = go (eqb c.0 c.1) refl e
    where
      go : (b : Bool) → eqb c.0 c.1 ≡ b
          → (elim b [ true ↦ best_term lim t p c.0 | false ↦ best_term lim t p c.0 >>= (λ x. best_term lim t x.pool c.1 >>= (λ y. intern lim y.pool (variants_node x.term y.term))) ]) ≡ ok r
          → Makes (Good t) p c (pick b (best_size t c.0, 0) (best_size t c.0 + best_size t c.1, best_size t c.0 + best_size t c.1)) r
      go true z e = same-classes p c (best_size t c.0, 0) r (eqb-true _ _ z) (best-term lim t 2 v p c.0 r h w e)
      go false z e =
          let (x, ex, e') = bind_ok (best_term lim t p c.0) _ r e in
          let (y, ey, e'') = bind_ok (best_term lim t x.pool c.1) _ r e' in
          let X = best-term lim t 2 v p c.0 x h w ex in
          let Y = best-term lim t 2 v x.pool c.1 y k X.valid ey in
          let l : x.term < length y.pool = extends-within Y.grown x.term X.within in
          let E = intern-enters lim y.pool (variants_node x.term y.term) r Y.valid (variants-valid (length y.pool) x.term y.term l Y.within) e'' in record {
            valid = E.valid;
            grown = extends-trans X.grown (extends-trans Y.grown E.grown);
            within = E.within;
            good = rw E.means (marked-good c (trees_after [] y.pool) x.term y.term (rw (extends-tree Y.grown x.term X.within) X.good) Y.good);
          }

-- ---- what the rounds begin with
starting-fits : (t : Tables) → Valid t → (p : Two) → IsPair t p → Fits (starting_quality t p)
starting-fits t v p (h, k) = go (eqb p.0 p.1) (v.best.best_range p.0 h).1 (v.best.best_range p.1 k).1
  where
    starts : Bool → Two
    starts b = pick b (best_size t p.0, 0) (best_size t p.0 + best_size t p.1, best_size t p.0 + best_size t p.1)

    go : (b : Bool) → best_size t p.0 ≤ BEST-SIZE → best_size t p.1 ≤ BEST-SIZE → Fits (starts b)
    go true x y = (omega arith, omega arith)
    go false x y = (omega arith, omega arith)

pub pair-begins : (lim : Limits) (t : Tables) → Valid t → Begins (pairs t) (making lim t) (IsPair t) Fits
pair-begins lim t v = record {
  start = λ pool c a h w e. let M = starting-made lim t v pool c a h.0 h.1 w e in record { valid = M.valid; grown = M.grown; within = M.within };
  fits = starting-fits t v;
}
