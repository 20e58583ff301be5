-- `start`, by what `begin` and starting terms answered.
use Rattle.std.specs.Prelude.{◌≡◌, ◌⊎◌, List, [], ℕ, ◌+◌, ◌*◌, ◌≤◌, ◌<◌, length, replicate, Option, Some, None}
use Rattle.std.proofs.Math.Path.{refl}
use Rattle.std.proofs.Common.{sym, ap, ap₂, ◌∙◌, inl, inr, ⊎_elim, arith}
use Rattle.spec.specs.Bytes.{Two, Limits, Res, ok, refused, Checked, passed, cut_short}
use Rattle.spec.specs.Image.{Tables}
use Rattle.spec.specs.System as system
use Rattle.spec.specs.Pairs as P
use Rattle.spec.specs.Graph.{build, skipped_in}
use Rattle.spec.specs.Pool.{Interned, interned, starting_term}
use Rattle.spec.specs.Run.{starting_terms, run_of, after_building}
use Rattle.laws.specs.Valid.{Valid}
use Rattle.laws.specs.BestMembers.{IsPair}
use Rattle.pools.specs.Pool.{empty-valid}
use Rattle.pools.specs.PoolIntern.{extends-refl}
use Rattle.pools.specs.PoolLimits.{starting-within}
use Rattle.readings.specs.Starting.{pair-begins}
use Rattle.steps.specs.Graph.{build-whole, build-passed}
use Rattle.steps.specs.RunFrom.{run-no-root, run-no-graph, run-cut-building}
use Rattle.budget.specs.Budget.{budget_of}
use Rattle.budget.specs.declared.Budget.{Budget}
use Rattle.arrays.specs.Arrays.{pairs_in}
use Rattle.terms.specs.Buffers.{pool_of, count_in}
use Rattle.terms.specs.PoolLaws.{pool-length}
use Rattle.terms.specs.Chains.{Holds}
use Rattle.entering.specs.Entered.{entered}
use Rattle.graph.specs.Building.{graph_after}
use Rattle.graph.specs.Built.{built-pairs}
use Rattle.outcome.specs.Answers.{Answers}
use Rattle.outcome.specs.AnswerLaws.{answer-any}
use Rattle.outcome.specs.Outcomes.{RanTo}
use Rattle.outcome.specs.declared.Answer.{Answer}
use Rattle.outcome.specs.declared.Outcome.{Outcome}
use Rattle.outcome.specs.declared.Ran.{Ran}
use Rattle.outcome.specs.declared.Ran.TheVariants as R
use Rattle.rounds.specs.Graphs.{Graphs}
use Rattle.exact_fixed.specs.GraphLaws.{graphs-built}
use Rattle.exact_fixed.specs.Starting.{StartsAll}
use Rattle.starting.specs.Report.{started_in}
use Rattle.exact_fixed.specs.RunLaws.{ran-started, starts-full, starts-cut, starts-holds, starts-within, starts-stands, starts-rounds, starts-left}
use Rattle.exact_fixed.specs.Following.{ToRounds}
use Rattle.exact_fixed.specs.declared.Started.{Started}
use Rattle.exact_fixed.specs.declared.Started.TheVariants as S
use Rattle.beginning.specs.Beginning.{begun_of, Ready}
use Rattle.prepared.specs.Pairs.{skipped_of}
use Rattle.prepared.specs.declared.Begun.{Begun}
use Rattle.prepared.specs.declared.Begun.TheVariants as N

graphs-as : (lim : Limits) (t : Tables) (w : ℕ) (ps qs : List Two) (m n : ℕ) (graph : List ℕ) → ps ≡ qs → m ≡ n → Graphs lim t w ps m graph → Graphs lim t w qs n graph
graphs-as lim t w ps qs m n graph e f G = rw (← e, ← f) G

-- ---- what an answer of `begin` says
cut-says : (k : ℕ) (x : Res Interned) (g : Res (Checked (List Two))) (root j : ℕ) → N.Cut root j ≡ begun_of k x g → (a : Interned) × (x ≡ ok a) × (a.term ≡ root) × (g ≡ ok cut_short)
cut-says k (refused n) g root j e = absurd (let z : ◌≡◌ {A = ℕ} 0 1 = cc in omega arith)
cut-says k (ok a) (refused n) root j e = absurd (let z : ◌≡◌ {A = ℕ} 0 1 = cc in omega arith)
cut-says k (ok a) (ok cut_short) root j e = (a, refl, cc, refl)
cut-says k (ok a) (ok (passed ps c)) root j e = absurd (let z : ◌≡◌ {A = ℕ} 0 1 = cc in omega arith)

all-says : (k : ℕ) (x : Res Interned) (g : Res (Checked (List Two))) (root n : ℕ) (b : Budget) (j : ℕ) → N.All root n b j ≡ begun_of k x g → (a : Interned) × (ps : List Two) × (c : ℕ) × (x ≡ ok a) × (a.term ≡ root) × (g ≡ ok (passed ps c)) × (length ps ≡ n) × (b.left ≡ c)
all-says k (refused i) g root n b j e = absurd (let z : ◌≡◌ {A = ℕ} 0 1 = cc in omega arith)
all-says k (ok a) (refused i) root n b j e = absurd (let z : ◌≡◌ {A = ℕ} 0 1 = cc in omega arith)
all-says k (ok a) (ok cut_short) root n b j e = absurd (let z : ◌≡◌ {A = ℕ} 0 1 = cc in omega arith)
all-says k (ok a) (ok (passed ps c)) root n b j e =
    let y : b ≡ budget_of c = cc in
    (a, ps, c, refl, cc, refl, cc, ap (λ (z : Budget). z.left) y)

-- `begin` stopped, or it tells the number
skipped-says : (k : ℕ) (x : Res Interned) (g : Res (Checked (List Two))) (b : Begun) → b ≡ begun_of k x g → ((n : ℕ) × (b ≡ N.Stopped n)) ⊎ (skipped_of b ≡ k)
skipped-says k (refused n) g b e = inl (n, e)
skipped-says k (ok a) (refused n) b e = inl (n, e)
skipped-says k (ok a) (ok cut_short) b e = inr (ap skipped_of e)
skipped-says k (ok a) (ok (passed ps c)) b e = inr (ap skipped_of e)

module _ (lim : Limits) (t : Tables) (p : Two) (budget w : ℕ) (graph ts us : List ℕ) where
  -- the number of monomial pairs passed over
  abbrev passes : ℕ
  passes = skipped_in lim t p budget

  pub finish-stopped : (k : ℕ) (b : Begun) → b ≡ N.Stopped k → Ready lim t p budget w b graph ts us → RanTo (run_of lim t p budget) graph ts us (R.Stopped k)
  finish-stopped k b s Y = go (starting_term lim t [] p) refl (build lim t p budget) refl (sym s ∙ Y.answer)
    where
      go : (x : Res Interned) → starting_term lim t [] p ≡ x → (g : Res (Checked (List Two))) → build lim t p budget ≡ g → N.Stopped k ≡ begun_of passes x g → run_of lim t p budget ≡ refused k
      go (refused n) e g f q = let z : n ≡ k = cc in run-no-root (P.pairs t) (P.making lim t) p budget n e ∙ ap (λ (i : ℕ). refused i) z
      go (ok a) e (refused n) f q = let z : n ≡ k = cc in run-no-graph (P.pairs t) (P.making lim t) p budget a e n f ∙ ap (λ (i : ℕ). refused i) z
      go (ok a) e (ok cut_short) f q = absurd (let z : ◌≡◌ {A = ℕ} 0 1 = cc in omega arith)
      go (ok a) e (ok (passed ps c)) f q = absurd (let z : ◌≡◌ {A = ℕ} 0 1 = cc in omega arith)

  -- j is the number that `begin` tells
  pub finish-answers : (b : Begun) → Ready lim t p budget w b graph ts us → (j : ℕ) → j ≡ skipped_of b → (out out' : List ℕ) (r : Answer) → Answers j (run_of lim t p budget) out out' r → Answers (skipped_in lim t p budget) (run_of lim t p budget) out out' r
  finish-answers b Y j e out out' r Z =
      ⊎_elim
      (λ s. answer-any j passes s.0 (run_of lim t p budget) out out' r (finish-stopped s.0 b s.1 Y) Z)
      (λ s. let z : j ≡ passes = e ∙ s in rw z at Z)
      (skipped-says passes (starting_term lim t [] p) (build lim t p budget) b Y.answer)

  module _ (v : Valid t) (i : IsPair t p) where
    -- the root's pool is within its limit
    rooted : (a : Interned) → starting_term lim t [] p ≡ ok a → pool_of ts us ≡ a.pool → count_in ts ≤ lim.terms
    rooted a e q = omega (arith, starting-within lim t [] p a (omega arith) e, ap length q, pool-length ts us)

    pub finish-cut : 2 * lim.terms ≤ length graph → (root j : ℕ) (b : Begun) → b ≡ N.Cut root j → Ready lim t p budget w b graph ts us → (o : Outcome) → o ≡ started_in t p 1 root budget → RanTo (run_of lim t p budget) graph ts us (R.Done o)
    finish-cut room root j b s X o q =
        let (a, e, f, g) = cut-says passes (starting_term lim t [] p) (build lim t p budget) root j (sym s ∙ X.answer) in
        let W = (pair-begins lim t v).start [] p a i empty-valid e in
        let z = ran-started t budget p (run_of lim t p budget) a 1 graph ts us (run-cut-building (P.pairs t) (P.making lim t) p budget a e g) W.valid W.within (X.holds a e) (rw (X.pool a e) (extends-refl a.pool)) (omega (arith, rooted a e (X.pool a e))) in
        rw q (rw f at z)

    module _ (root n : ℕ) (b : Budget) (j : ℕ) (B : Begun) (s : B ≡ N.All root n b j) (X : Ready lim t p budget w B graph ts us) where
      pub all-root : root < count_in ts
      all-root =
          let (a, ps, c, e, f, g, h, k) = all-says passes (starting_term lim t [] p) (build lim t p budget) root n b j (sym s ∙ X.answer) in
          let W = (pair-begins lim t v).start [] p a i empty-valid e in
          omega (arith, f, W.within, ap length (X.pool a e), pool-length ts us)

      pub all-holds : Holds ts us
      all-holds = let (a, ps, c, e, f, g, h, k) = all-says passes (starting_term lim t [] p) (build lim t p budget) root n b j (sym s ∙ X.answer) in X.holds a e

      pub all-within : count_in ts ≤ lim.terms
      all-within = let (a, ps, c, e, f, g, h, k) = all-says passes (starting_term lim t [] p) (build lim t p budget) root n b j (sym s ∙ X.answer) in rooted a e (X.pool a e)

      -- the checks of building
      all_left : b.left ≤ budget
      all_left =
          let (a, ps, c, e, f, g, h, k) = all-says passes (starting_term lim t [] p) (build lim t p budget) root n b j (sym s ∙ X.answer) in
          omega (arith, k, (build-passed (P.pairs t) lim.pairs p (length ps) (ps, build-whole (P.pairs t) lim.pairs p budget c ps g, refl) budget c ps g).1)

      -- the run is what follows building
      run-after : (a : Interned) (g : Checked (List Two)) → starting_term lim t [] p ≡ ok a → build lim t p budget ≡ ok g → run_of lim t p budget ≡ after_building lim t budget p a g
      unfolding system.run_of
      run-after a g e f = rw (e, f) refl

      module _ (many : length t.classes ≡ w) (wide : w * w + lim.pairs ≤ length graph) where
        -- the array holds the graph
        laid : (a : Interned) (ps : List Two) (c : ℕ) → starting_term lim t [] p ≡ ok a → build lim t p budget ≡ ok (passed ps c) → graph ≡ entered w 0 ps (replicate (length graph) 0)
        laid a ps c e g = X.built a e ∙ ap (λ (z : Res (Checked (List Two))). graph_after w z graph) g

        pairs-are : (a : Interned) (ps : List Two) (c : ℕ) → starting_term lim t [] p ≡ ok a → build lim t p budget ≡ ok (passed ps c) → pairs_in w graph (length ps) ≡ ps
        pairs-are a ps c e g = ap (λ (z : List ℕ). pairs_in w z (length ps)) (laid a ps c e g) ∙ built-pairs lim t p budget c ps g v i w many (length graph) wide

        pub all-graphs : Graphs lim t w (pairs_in w graph n) n graph
        all-graphs =
            let (a, ps, c, e, f, g, h, k) = all-says passes (starting_term lim t [] p) (build lim t p budget) root n b j (sym s ∙ X.answer) in
            let q : pairs_in w graph n ≡ ps = ap (λ (z : ℕ). pairs_in w graph z) (sym h) ∙ pairs-are a ps c e g in
            let G : Graphs lim t w ps (length ps) graph = rw (sym (laid a ps c e g)) at (graphs-built lim t v p i budget c ps g w many (length graph) wide) in
            graphs-as lim t w ps (pairs_in w graph n) (length ps) n graph (sym q) h G

        all_runs : run_of lim t p budget ≡ after_building lim t budget p (interned (pool_of ts us) root) (passed (pairs_in w graph n) b.left)
        all_runs =
            let (a, ps, c, e, f, g, h, k) = all-says passes (starting_term lim t [] p) (build lim t p budget) root n b j (sym s ∙ X.answer) in
            let q : ps ≡ pairs_in w graph n = sym (pairs-are a ps c e g) ∙ ap (λ (z : ℕ). pairs_in w graph z) h in
            let r : a ≡ interned (pool_of ts us) root = λ y. record { pool = sym (X.pool a e) y; term = f y } in
            run-after a (passed ps c) e g ∙ ap₂ (λ (y : Interned) (z : Checked (List Two)). after_building lim t budget p y z) r (ap₂ (λ (y : List Two) (z : ℕ). passed y z) q (sym k))

        -- by what starting terms answer
        module _ (pairs' terms' runs' : List ℕ) (x : Option Started) (Y : StartsAll lim t (pairs_in w graph n) (starting_terms lim t (pairs_in w graph n) b.left (pool_of ts us)) (pool_of ts us) pairs' terms' runs' x) where
          as-run : (y : Ran) → RanTo (after_building lim t budget p (interned (pool_of ts us) root) (passed (pairs_in w graph n) b.left)) graph terms' runs' y → RanTo (run_of lim t p budget) graph terms' runs' y
          as-run y Z = rw all_runs Z

          pub all-full : x ≡ None → RanTo (run_of lim t p budget) graph terms' runs' (R.Stopped 13)
          all-full q = as-run (R.Stopped 13) (starts-full lim t budget p (pairs_in w graph n) n all-graphs.many b.left (pool_of ts us) root pairs' terms' runs' x Y graph q)

          pub all-cut : 2 * lim.terms ≤ length graph → x ≡ Some S.Cut → (o : Outcome) → o ≡ started_in t p n root budget → RanTo (run_of lim t p budget) graph terms' runs' (R.Done o)
          all-cut room q o e = as-run (R.Done o) (starts-cut lim t budget p (pairs_in w graph n) n all-graphs.many b.left (pool_of ts us) root pairs' terms' runs' x Y graph room all-holds.valid (omega (arith, all-root, pool-length ts us)) q o e)

          pub all-rounds : (c : Budget) → x ≡ Some (S.All c) → ToRounds lim t (run_of lim t p budget) budget w n graph pairs' terms' runs' c.left
          all-rounds c q =
              let G = all-graphs in
              record {
                graphs = G;
                holds = starts-holds lim t budget p (pairs_in w graph n) n G.many b.left (pool_of ts us) root pairs' terms' runs' x Y c q;
                within = starts-within lim t budget p (pairs_in w graph n) n G.many b.left (pool_of ts us) root pairs' terms' runs' x Y c q;
                stands = starts-stands lim t budget p (pairs_in w graph n) n G.many b.left (pool_of ts us) root pairs' terms' runs' x Y c q v G.pairs;
                left = omega (arith, all_left, starts-left lim t budget p (pairs_in w graph n) n G.many b.left (pool_of ts us) root pairs' terms' runs' x Y c q);
                is = all_runs ∙ starts-rounds lim t budget p (pairs_in w graph n) n G.many b.left (pool_of ts us) root pairs' terms' runs' x Y c q;
              }
