-- Demand 3 of the definitions, for nodes of any kind: what a run gives, for every query and every budget. Sentences in quotation marks are document 01's.
-- Without any law of the actions: the graph, what is reported, budgets. From `Backs`: the bound. From `Moves`: the least derivations.
use Rattle.std.specs.Prelude.{◌≡◌, refl, ◌≢◌, ◌↔◌, true, false, List, ◌∷◌, ℕ, suc, ◌+◌, ◌*◌, ◌-◌, ◌/◌, ◌≤◌, ◌<◌, min, length}
use Rattle.std.proofs.Common.{sym, ap, ◌∙◌, inl, inr, arith, add-one}
use Rattle.spec.specs.Bytes.{In, Two, Res, ok, refused, passed, cut_short}
use Rattle.spec.specs.Pool.{Interned}
use Rattle.spec.specs.System.{System, Making, build, qualities_after, Outcome, started, run_of, Reachable, Derivation}
use Rattle.spec.specs.Meaning.{◌⊑◌}
use Rattle.laws.specs.Tests.{clash}
use Rattle.laws.specs.Lists.{Distinct}
use Rattle.laws.specs.Results.{refused-ok, ok-inj}
use Rattle.steps.specs.Quality.{⊑-of-eq}
use Rattle.steps.specs.Rounds.{Moves, LeastOf, quality_after, q-start, q-mono, quiet_same, changed-differs, attained, least, least-every}
use Rattle.steps.specs.Graph.{NodeCount, build-closed, build-whole, build-first, build-passed, build-cut, build-same, build-short, build-enough, build-at}
use Rattle.steps.specs.Run.{Status, Ended, Ends, in_building, in_starting, in_rounds, run_ends, Stays, run-later}
use Rattle.steps.specs.Outcomes.{root_in, root-quality, started-says, started-least, quiet-if-complete, rounds-reported, rounds-grow}

-- ---- the graph
-- "Built in full, it holds the queried pair (left class, right class) and, with each pair, every pair of classes that an action of it joins. Its n pairs are counted once each."
pub graph : {N : Type 0} (S : System N) (lim : ℕ) (p : N) (b c : ℕ) (ps : List N) → build S lim p b ≡ ok (passed ps c)
    → ((rest : List N) × (ps ≡ p ∷ rest)) × Distinct ps × ((q : N) → In q ps ↔ Reachable S p q)
graph {N = N} S lim p b c ps e = let w = build-whole S lim p b c ps e in (build-first S lim p b c ps e, w.once, w.exactly)

-- "one [check] a pair in building": with n nodes, the limit at most, the first budget that builds in full is n.
pub graph-checks : {N : Type 0} (S : System N) (lim : ℕ) (p : N) (n : ℕ) → NodeCount S p n → n ≤ lim
    → (ps : List N) × (length ps ≡ n) × ((b : ℕ) → (b < n → build S lim p b ≡ ok cut_short) × (n ≤ b → build S lim p b ≡ ok (passed ps (b - n))))
graph-checks S lim p n count few =
    let (ps, l, e) = build-at S lim p n count few in
    (ps, l, λ b. ((λ h. build-short S lim p n 0 ps e b (omega arith)), λ h. build-enough S lim p n 0 ps e b (b - n) (omega arith)))

module _ {N : Type 0} (S : System N) (M : Making N) (Move : N → List N → List ℕ → Type 0) (L : Moves S Move) (p : N) where
  -- ---- least of height r
  -- After r finished rounds every node of the graph has the quality of one of its derivations of height at most r, and every such derivation has at least as much.
  pub least-after-rounds : (b c : ℕ) (ps : List N) → build S M.limit p b ≡ ok (passed ps c) → (r : ℕ) (q : N) → In q ps → LeastOf S Move r q (quality_after S ps r q)
  least-after-rounds b c ps e r q i = (attained S Move L ps (build-closed S M.limit p b c ps e) r q i, least S Move L ps (build-closed S M.limit p b c ps e) r q i)

  -- A run that reports r rounds has the quality of one of the queried node's derivations of height at most r, and every such derivation has at least as much.
  pub least-of-height : (b : ℕ) (o : Outcome) → run_of S M p b ≡ ok o → LeastOf S Move o.rounds p o.quality
  least-of-height b o e = go (run_ends S M p b o e)
    where
      go : Ends S M p b o → LeastOf S Move o.rounds p o.quality
      go (in_building root k z) = started-least S Move b p root 1 o z
      go (in_starting root ps c k h z) = started-least S Move b p root (length ps) o z
      go (in_rounds ps c d k h f) = rw (root-quality S M.limit p b c d ps o k f) (attained S Move L ps (build-closed S M.limit p b c ps k) o.rounds p (root_in S M.limit p b c ps k), least S Move L ps (build-closed S M.limit p b c ps k) o.rounds p (root_in S M.limit p b c ps k))

  -- ---- a complete run is least among the derivations of every height
  pub least-of-every-height : (b : ℕ) (o : Outcome) → run_of S M p b ≡ ok o → o.complete ≡ true → (h : ℕ) (z : Two) → Derivation S Move h p z → o.quality ⊑ z
  least-of-every-height b o e full h z d = go (run_ends S M p b o e)
    where
      partial : (root : Interned) (n : ℕ) → o ≡ started S b p root n → o.quality ⊑ z
      partial root n s = let (a, r, c, q) = started-says S b p root n o s in absurd (clash (sym full ∙ c))

      go : Ends S M p b o → o.quality ⊑ z
      go (in_building root k s) = partial root 1 s
      go (in_starting root ps c k l s) = partial root (length ps) s
      go (in_rounds ps c m k l f) =
          rw (root-quality S M.limit p b c m ps o k f) (least-every S Move L ps (build-closed S M.limit p b c ps k) o.rounds (quiet-if-complete S ps m o f full) p (root_in S M.limit p b c ps k) h z d)

-- ---- budgets
-- the quality is the queried node's after the rounds reported
pub quality-at : {N : Type 0} (S : System N) (M : Making N) (p : N) (B C : ℕ) (ps : List N) → build S M.limit p B ≡ ok (passed ps C) → (b : ℕ) (o : Outcome) → run_of S M p b ≡ ok o → o.quality ≡ quality_after S ps o.rounds p
quality-at {N = N} S M p B C ps g b o e = go (run_ends S M p b o e)
  where
    cut : (root : Interned) (n : ℕ) → o ≡ started S b p root n → o.quality ≡ quality_after S ps o.rounds p
    cut root n s = let (x, r, c, k) = started-says S b p root n o s in rw (r, k) (sym (q-start S ps p (root_in S M.limit p B C ps g)))

    go : Ends S M p b o → o.quality ≡ quality_after S ps o.rounds p
    go (in_building root k s) = cut root 1 s
    go (in_starting root qs d k h s) = cut root (length qs) s
    go (in_rounds qs d m k l f) = rw (build-same S M.limit p B C b d ps qs g k) (root-quality S M.limit p b d m qs o k f)

-- a run that changed no quality has the starting one
start-at : {N : Type 0} (S : System N) (M : Making N) (p : N) (b : ℕ) (o : Outcome) → run_of S M p b ≡ ok o → o.rounds ≡ 0 → o.quality ≡ S.starting_quality p
start-at {N = N} S M p b o e z = go (run_ends S M p b o e)
  where
    go : Ends S M p b o → o.quality ≡ S.starting_quality p
    go (in_building root k s) = (started-says S b p root 1 o s).3
    go (in_starting root qs d k h s) = (started-says S b p root (length qs) o s).3
    go (in_rounds qs d m k l f) = root-quality S M.limit p b d m qs o k f ∙ ap (λ (r : ℕ). quality_after S qs r p) z ∙ q-start S qs p (root_in S M.limit p b d qs k)

-- The longer of two runs is never above the shorter.
pub never-above : {N : Type 0} (S : System N) (M : Making N) (p : N) (b c : ℕ) (o u : Outcome) → b ≤ c → run_of S M p b ≡ ok o → run_of S M p c ≡ ok u → u.quality ⊑ o.quality
never-above {N = N} S M p b c o u h e k = go (run_ends S M p c u k)
  where
    grow : o.rounds ≤ u.rounds
    grow = rounds-grow S M p b c o u h e k

    none : u.rounds ≡ 0 → u.quality ⊑ o.quality
    none z = ⊑-of-eq (start-at S M p c u k z ∙ sym (start-at S M p b o e (omega (arith, grow))))

    go : Ends S M p c u → u.quality ⊑ o.quality
    go (in_building root g s) = none (started-says S c p root 1 u s).1
    go (in_starting root qs d g l s) = none (started-says S c p root (length qs) u s).1
    go (in_rounds qs d m g l f) = rw (quality-at S M p c d qs g c u k, quality-at S M p c d qs g b o e) (q-mono S qs o.rounds u.rounds p (root_in S M.limit p c d qs g) grow)

-- Where the shorter is complete the longer is the same run: not refused, complete, and the same in all that it reports.
pub stays-complete : {N : Type 0} (S : System N) (M : Making N) (p : N) (b c : ℕ) (o : Outcome) → b ≤ c → run_of S M p b ≡ ok o → o.complete ≡ true → run_of S M p c ≡ ok o
stays-complete S M p b c o h e full = go (run_of S M p b) e (run-later S M p b c h)
  where
    go : (r : Res Outcome) → r ≡ ok o → Stays r (run_of S M p c) → run_of S M p c ≡ ok o
    go (ok u) k s = let z : u ≡ o = ok-inj k in s (rw z full) ∙ k
    go (refused n) k s = s ∙ k

-- ---- what is reported
-- "A run cut short in building reports 1 pair, any other run n."
pub nodes-reported : {N : Type 0} (S : System N) (M : Making N) (p : N) (n : ℕ) → NodeCount S p n → (b : ℕ) (o : Outcome) → run_of S M p b ≡ ok o → (b < n → o.nodes ≡ 1) × (n ≤ b → o.nodes ≡ n)
nodes-reported S M p n count b o e = go (run_ends S M p b o e)
  where
    go : Ends S M p b o → (b < n → o.nodes ≡ 1) × (n ≤ b → o.nodes ≡ n)
    go (in_building root k s) = let l = build-cut S M.limit p n count b k in ((λ h. (started-says S b p root 1 o s).0), λ h. absurd (omega arith))
    go (in_starting root ps c k l s) = let (x, y) = build-passed S M.limit p n count b c ps k in ((λ h. absurd (omega arith)), λ h. (started-says S b p root (length ps) o s).0 ∙ x)
    go (in_rounds ps c m k l f) = let (x, y) = build-passed S M.limit p n count b c ps k in ((λ h. absurd (omega arith)), λ h. f.nodes ∙ x)

-- The rounds of a run with b checks that gets past its starting terms, where ps is its full graph and n its number of nodes.
pub record Finished {N : Type 0} (S : System N) (ps : List N) (n b : ℕ) (o : Outcome) : Type 0 where
  -- "The rounds reported are the finished ones that changed a quality": each of them did, and its checks passed
  pub changing : (r : ℕ) → r < o.rounds → qualities_after S (suc r) ps ≢ qualities_after S r ps
  pub finished : 2 * n + o.rounds * (n + 1) ≤ b
  -- "The run is complete at the first finished round without change": the round after those
  pub complete : (o.complete ≡ true) ↔ ((qualities_after S (suc o.rounds) ps ≡ qualities_after S o.rounds ps) × (2 * n + (o.rounds + 1) * (n + 1) ≤ b))
  -- a run is partial only where the checks of the next round do not all pass
  pub partial : o.complete ≡ false → b < 2 * n + (o.rounds + 1) * (n + 1)

pub rounds-finished : {N : Type 0} (S : System N) (M : Making N) (p : N) (B C : ℕ) (ps : List N) → build S M.limit p B ≡ ok (passed ps C) → (b : ℕ) (o : Outcome) → 2 * length ps ≤ b → run_of S M p b ≡ ok o → Finished S ps (length ps) b o
rounds-finished {N = N} S M p B C ps g b o h e = go (run_ends S M p b o e)
  where
    count : NodeCount S p (length ps)
    count = (ps, build-whole S M.limit p B C ps g, refl)

    go : Ends S M p b o → Finished S ps (length ps) b o
    go (in_building root k s) = absurd (omega (arith, build-cut S M.limit p (length ps) count b k))
    go (in_starting root qs d k l s) = let (x, y) = build-passed S M.limit p (length ps) count b d qs k in absurd (omega arith)
    go (in_rounds qs d m k l f) = by (rw (build-same S M.limit p b d B C qs ps k g) at f) (build-passed S M.limit p (length ps) count b d qs k)
      where
        by : Ended S ps m o → (length qs ≡ length ps) × (b ≡ length ps + d) → Finished S ps (length ps) b o
        by f (n, x) = record {
          changing = λ r j. changed-differs S ps r (f.moved r j);
          finished = omega (arith, f.enough);
          complete = at f.status;
          partial = λ z. short z f.status;
        }
          where
            at : Status S ps m o → (o.complete ≡ true) ↔ ((qualities_after S (suc o.rounds) ps ≡ qualities_after S o.rounds ps) × (2 * length ps + (o.rounds + 1) * (length ps + 1) ≤ b))
            at (inl (y, z, w)) = ((λ v. (quiet_same S ps o.rounds z, omega arith)), λ v. y)
            at (inr (y, z)) = ((λ v. absurd (clash (sym v ∙ y))), λ v. absurd (omega (arith, v.1)))

            short : o.complete ≡ false → Status S ps m o → b < 2 * length ps + (o.rounds + 1) * (length ps + 1)
            short v (inl (y, z, w)) = absurd (clash (sym y ∙ v))
            short v (inr (y, z)) = omega arith

-- R is the first round, counted from 0, that changes no quality.
pub record FirstQuiet {N : Type 0} (S : System N) (ps : List N) (R : ℕ) : Type 0 where
  pub earlier : (r : ℕ) → r < R → qualities_after S (suc r) ps ≢ qualities_after S r ps
  pub quiet : qualities_after S (suc R) ps ≡ qualities_after S R ps

-- What a run with b checks reports that is not refused, where ps is its full graph, n its number of nodes, and R its first quiet round.
pub record Reported {N : Type 0} (S : System N) (p : N) (ps : List N) (n R b : ℕ) (o : Outcome) : Type 0 where
  -- "A run cut short in building reports 1 pair"
  pub cut_in_building : b < n → (o.nodes ≡ 1) × (o.rounds ≡ 0) × (o.complete ≡ false)
  -- "any other run n"
  pub cut_in_starting : n ≤ b → b < 2 * n → (o.nodes ≡ n) × (o.rounds ≡ 0) × (o.complete ≡ false)
  -- "The rounds reported are the finished ones that changed a quality." "The run is complete at the first finished round without change."
  pub past_starting : 2 * n ≤ b → (o.nodes ≡ n) × (o.rounds ≡ min R ((b - 2 * n) / (n + 1))) × ((o.complete ≡ true) ↔ (2 * n + (R + 1) * (n + 1) ≤ b))
  -- the quality is the queried node's after the rounds reported
  pub quality : o.quality ≡ quality_after S ps o.rounds p

pub reported : {N : Type 0} (S : System N) (M : Making N) (p : N) (B C : ℕ) (ps : List N) → build S M.limit p B ≡ ok (passed ps C) → (R : ℕ) → FirstQuiet S ps R
    → (b : ℕ) (o : Outcome) → run_of S M p b ≡ ok o → Reported S p ps (length ps) R b o
reported {N = N} S M p B C ps g R q b o e = go (run_ends S M p b o e)
  where
    count : NodeCount S p (length ps)
    count = (ps, build-whole S M.limit p B C ps g, refl)

    whole : o.quality ≡ quality_after S ps o.rounds p
    whole = quality-at S M p B C ps g b o e

    go : Ends S M p b o → Reported S p ps (length ps) R b o
    go (in_building root k s) =
        let l = build-cut S M.limit p (length ps) count b k in
        let (x, r, c, z) = started-says S b p root 1 o s in
        record { cut_in_building = λ i. (x, r, c); cut_in_starting = λ i. absurd (omega arith); past_starting = λ i. absurd (omega arith); quality = whole }
    go (in_starting root qs d k h s) =
        let (n, l) = build-passed S M.limit p (length ps) count b d qs k in
        let (x, r, c, z) = started-says S b p root (length qs) o s in
        record { cut_in_building = λ i. absurd (omega arith); cut_in_starting = λ i j. (x ∙ n, r, c); past_starting = λ i. absurd (omega arith); quality = whole }
    go (in_rounds qs d m k l f) = by (rw (build-same S M.limit p b d B C qs ps k g) at f) (build-passed S M.limit p (length ps) count b d qs k)
      where
        by : Ended S ps m o → (length qs ≡ length ps) × (b ≡ length ps + d) → Reported S p ps (length ps) R b o
        by f (n, x) =
            let (u, v) = rounds-reported S ps R m o q.earlier q.quiet f in
            let left : b - 2 * length ps ≡ m = omega arith in
            record {
              cut_in_building = λ i. absurd (omega arith);
              cut_in_starting = λ i j. absurd (omega arith);
              past_starting = λ i. (f.nodes, rw (left, add-one (length ps)) u, ((λ w. omega (arith, v.0 w)), λ w. v.1 (omega arith)));
              quality = whole;
            }

-- ---- refused runs
-- A refused run stays refused, by the same number: 12 and 13 are ends as any other.
pub stays-refused : {N : Type 0} (S : System N) (M : Making N) (p : N) (b c k : ℕ) → b ≤ c → run_of S M p b ≡ refused k → run_of S M p c ≡ refused k
stays-refused S M p b c k h e = go (run_of S M p b) e (run-later S M p b c h)
  where
    go : (r : Res Outcome) → r ≡ refused k → Stays r (run_of S M p c) → run_of S M p c ≡ refused k
    go (ok u) z s = absurd (refused-ok (sym z))
    go (refused n) z s = s ∙ z
