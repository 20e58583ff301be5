-- The numbers of a run's first line: pairs, rounds, size, mass, checks, whatever the budget.
use Rattle.std.specs.Prelude.{◌≡◌, refl, true, List, ℕ, zero, suc, ◌+◌, ◌*◌, ◌≤◌, ◌<◌, length}
use Rattle.std.proofs.Common.{sym, ap, ◌∙◌, inl, inr, zero-le, mul-le-mul, mul-le-mul_right, arith}
use Rattle.std.proofs.Math.Decide.{dec_le}
use Rattle.spec.specs.Bytes.{Two, Limits, ok, passed, cut_short}
use Rattle.spec.specs.Image.{Tables}
use Rattle.spec.specs.Pool.{Interned}
use Rattle.spec.specs.System.{build, started}
use Rattle.spec.specs.Pairs.{starting_quality, pairs, making}
use Rattle.spec.specs.Run.{Outcome, run_of}
use Rattle.spec.specs.Meaning.{Term, lit, node, variants, Runs, done, run, term_quality, runs_quality, tree_at}
use Rattle.laws.specs.Results.{refused-ok}
use Rattle.laws.specs.Valid.{Valid}
use Rattle.laws.specs.BestMembers.{IsPair}
use Rattle.steps.specs.Quality.{⊑-size}
use Rattle.steps.specs.Rounds.{changed, q-start, q-mono}
use Rattle.steps.proofs.Rounds.{bound}
use Rattle.steps.specs.Graph.{NodeCount, Closed, build-whole, build-closed, build-passed, build-cut, build-few, build-over}
use Rattle.steps.specs.Run.{Status, Ended, Ends, in_building, in_starting, in_rounds, run_ends}
use Rattle.steps.specs.Outcomes.{root_in, root-quality, started-says}
use Rattle.steps.specs.Charges.{Charge, charge}
use Rattle.lgg.specs.Moves.{pair-backs}
use Rattle.lgg.specs.Count.{pair-count}
use Rattle.readings.specs.Starting.{pair-begins}
use Rattle.readings.specs.Readings.{run-quality}

-- ---- mass at most size, of every term
mutual
  unfolding term_quality

  term-low : (a : Term) → (term_quality a).1 ≤ (term_quality a).0
  term-low (lit o v) = omega arith
  term-low (node o r) = omega (arith, runs-low r)
  term-low (variants r) = omega arith

  runs-low : (r : Runs) → (runs_quality r).1 ≤ (runs_quality r).0
  runs-low done = omega arith
  runs-low (run a n r) = omega (arith, mul-le-mul_right n (term-low a), runs-low r)

-- "a pair beyond 4,096 would be entered"; the checks of a complete run over as many pairs with as many rounds
pub record Reports (o : Outcome) : Type 0 where
  pub nodes : o.nodes ≤ 4096
  pub rounds : o.rounds ≤ 4096
  pub size : o.quality.0 ≤ 4294967295
  pub mass : o.quality.1 ≤ 4294967295
  pub checks : o.checks ≤ 16793601

module _ (lim : Limits) (few : lim.pairs ≤ 4096) (t : Tables) (v : Valid t) (p : Two) (h : IsPair t p) (b : ℕ) (o : Outcome) (ran : run_of lim t p b ≡ ok o) where
  charged : Charge b o
  charged = charge (pairs t) (making lim t) p b o ran

  reports : o.nodes ≤ 4096 → o.rounds ≤ 4096 → o.quality.0 ≤ (starting_quality t p).0 → o.checks ≤ 16793601 → Reports o
  reports n r q c =
      let z = ((pair-begins lim t v).fits p h).1 in
      let m = term-low (tree_at o.pool o.root) in
      let e = run-quality lim t v p h b o ran in
      record { nodes = n; rounds = r; size = omega arith; mass = omega (arith, ap (λ (x : Two). x.0) e, ap (λ (x : Two). x.1) e); checks = c }

  -- cut short before its rounds
  early : (root : Interned) (n : ℕ) → n ≤ 4096 → b ≤ 8192 → o ≡ started (pairs t) b p root n → Reports o
  early root n l k e =
      let (a, r, c, q) = started-says (pairs t) b p root n o e in
      reports (omega arith) (omega arith) (omega (arith, ap (λ (x : Two). x.0) q)) (omega (arith, charged.partial c))

  -- a graph that is not built in full: either it has no more pairs than are allowed, or the limit was not reached
  cut-soon : build (pairs t) lim.pairs p b ≡ ok cut_short → b ≤ lim.pairs
  cut-soon e = let (n, c, u) = pair-count t p in go n c (dec_le n lim.pairs) (dec_le lim.pairs b)
    where
      go : (n : ℕ) → NodeCount (pairs t) p n → Dec (n ≤ lim.pairs) → Dec (lim.pairs ≤ b) → b ≤ lim.pairs
      go n c (yes x) y = omega (arith, build-cut (pairs t) lim.pairs p n c b e)
      go n c (no x) (yes y) = absurd (refused-ok (sym (build-over (pairs t) lim.pairs p n b c (omega arith) y) ∙ e))
      go n c (no x) (no y) = omega arith

  rounds-few : (ps : List Two) → Closed (pairs t) ps → (r : ℕ) → ((k : ℕ) → k < r → changed (pairs t) ps k ≡ true) → r ≤ length ps
  rounds-few ps c zero g = zero-le
  rounds-few ps c (suc r) g = bound (pairs t) (pair-backs t) ps c r (g r (omega arith))

  late : (ps : List Two) (c d : ℕ) → build (pairs t) lim.pairs p b ≡ ok (passed ps c) → c ≡ length ps + d → Ended (pairs t) ps d o → Reports o
  late ps c d e k f = reports (omega (arith, f.nodes, n)) (omega (arith, r, n)) falls (spent f.status)
    where
      n : length ps ≤ 4096
      n = omega (arith, build-few (pairs t) lim.pairs p b c ps e)

      r : o.rounds ≤ length ps
      r = rounds-few ps (build-closed (pairs t) lim.pairs p b c ps e) o.rounds f.moved

      falls : o.quality.0 ≤ (starting_quality t p).0
      falls =
          let i = root_in (pairs t) lim.pairs p b c ps e in
          omega (arith, ap (λ (x : Two). x.0) (root-quality (pairs t) lim.pairs p b c d ps o e f), ap (λ (x : Two). x.0) (q-start (pairs t) ps p i), ⊑-size _ _ (q-mono (pairs t) ps 0 o.rounds p i zero-le))

      product : suc o.rounds * suc (length ps) ≤ 4097 * 4097
      product = mul-le-mul {n₁ = suc o.rounds} {m₁ = suc (length ps)} {n₂ = 4097} {m₂ = 4097} (omega (arith, r, n)) (omega (arith, n))

      spent : Status (pairs t) ps d o → o.checks ≤ 16793601
      spent (inl (x, y, z)) = omega (arith, charged.complete x, ap (λ (m : ℕ). (o.rounds + 1) * (m + 1)) f.nodes, f.nodes, product, n)
      spent (inr (x, y)) = omega (arith, charged.partial x, (build-passed (pairs t) lim.pairs p (length ps) (ps, build-whole (pairs t) lim.pairs p b c ps e, refl) b c ps e).1, product, n)

  pub run-reports : Reports o
  run-reports = go (run_ends (pairs t) (making lim t) p b o ran)
    where
      go : Ends (pairs t) (making lim t) p b o → Reports o
      go (in_building root e s) = early root 1 (omega arith) (omega (arith, cut-soon e)) s
      go (in_starting root ps c e l s) =
          let n = build-few (pairs t) lim.pairs p b c ps e in
          early root (length ps) (omega arith) (omega (arith, (build-passed (pairs t) lim.pairs p (length ps) (ps, build-whole (pairs t) lim.pairs p b c ps e, refl) b c ps e).1)) s
      go (in_rounds ps c d e k f) = late ps c d e k f
