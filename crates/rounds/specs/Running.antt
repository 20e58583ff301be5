-- The rounds: "The run is complete at the first finished round without change." "one cut short leaves every quality as it was"
use Rattle.std.specs.Prelude.{◌≡◌, refl, Bool, true, false, Option, Some, None, List, map, ℕ, ◌+◌, ◌*◌, ◌-◌, ◌≤◌, ◌<◌, length, get_or}
use Rattle.std.proofs.Common.{sym, ap, ◌∙◌, arith, add-one}
use Rattle.spec.specs.Bytes.{Limits, any, Two, Res, ok, refused, passed}
use Rattle.spec.specs.Image.{Tables}
use Rattle.spec.specs.Pool.{Pool}
use Rattle.spec.specs.Pairs as P
use Rattle.spec.specs.Round.{changes, turns_of, Terms}
use Rattle.spec.specs.Run as run
use Rattle.spec.specs.Run.{State, outcome, state_after}
use Rattle.spec.specs.Listing.{listing_of}
use Rattle.laws.specs.Valid.{Valid}
use Rattle.pools.specs.PoolIntern.{Extends, extends-refl, extends-within}
use Rattle.lgg.specs.Pairs.{Closed, turns_at, round_at, rounds_of}
use Rattle.lgg.specs.Stands.{Fits, pair_keeps}
use Rattle.steps.specs.RoundsFrom.{rounds-expired, rounds-refused, rounds-cut, rounds-quiet, rounds-next, round-left as rounds-left}
use Rattle.pools.specs.OrderListing.{over_pool}
use Rattle.steps.specs.Standing.{Standing, standing-next, listing-cut}
use Rattle.arrays.specs.Arrays.{NEW, pairs_in, qualities_in, terms_in}
use Rattle.arrays.specs.ArrayLaws.{quality-at, term-at}
use Rattle.terms.specs.Buffers.{pool_of, count_in}
use Rattle.terms.specs.PoolLaws.{pool-length}
use Rattle.terms.specs.Chains.{Holds}
use Rattle.outcome.specs.Outcomes.{RanTo}
use Rattle.outcome.specs.declared.Outcome.{Outcome}
use Rattle.outcome.specs.declared.Ran.{Ran}
use Rattle.outcome.specs.declared.Ran.TheVariants as R
use Rattle.pair_settling.specs.Settling.{settled, Ends}
use Rattle.pair_settling.specs.SettleLaws.{settled-length, settled-qualities, settled-terms}
use Rattle.settling.specs.Quiet.{Quiet, quiet-after}
use Rattle.budget.specs.declared.Budget.{Budget}
use Rattle.rounds.specs.Graphs.{InRange, Reads, state_in}
use Rattle.rounds.specs.Turning.{Turning, Stays, Relaxes, relaxes-finished, turns-done, turns-changed, turns-qualities}
use Rattle.round_outcome.specs.After.{reported_in, LeftOf, after_of}
use Rattle.round_outcome.specs.declared.After.{After}
use Rattle.round_outcome.specs.declared.After.TheVariants as N
use Rattle.round_outcome.specs.declared.Round.{Round}
use Rattle.round_outcome.specs.declared.Round.TheVariants as U

-- between two rounds over n pairs: b checks are left of the run's budget, and the rounds come to m
pub record Running (lim : Limits) (t : Tables) (ps : List Two) (n : ℕ) (m : Res run.Outcome) (pairs terms runs : List ℕ) (budget rounds b : ℕ) : Type 0 where
  pub rest : m ≡ rounds_of lim t ps (state_in pairs terms runs n rounds b budget)
  pub standing : Standing Fits ps (state_in pairs terms runs n rounds b budget)
  pub left : b ≤ budget
  pub long : 6 * n ≤ length pairs
  pub holds : Holds terms runs
  pub within : count_in terms ≤ lim.terms

-- what stands does not depend on what is counted
pub standing-any : (ps : List Two) (pairs terms runs : List ℕ) (n r b budget c d e : ℕ) → Standing Fits ps (state_in pairs terms runs n r b budget) → Standing Fits ps (state_in pairs terms runs n c d e)
standing-any ps pairs terms runs n r b budget c d e S = record { many = S.many; named = S.named; valid = S.valid; within = S.within; fits = S.fits }

module _ (lim : Limits) (t : Tables) (ps : List Two) (n : ℕ) (many : length ps ≡ n) (some : 0 < n) (marks : List ℕ) (room : 2 * lim.terms ≤ length marks) (m : Res run.Outcome) (pairs terms runs : List ℕ) (budget rounds b : ℕ) (X : Running lim t ps n m pairs terms runs budget rounds b) where
  abbrev Here : State
  Here = state_in pairs terms runs n rounds b budget

  -- the state that a round reads
  abbrev Read : State
  Read = state_in pairs terms runs n 0 0 0

  has_some : 0 < length ps
  has_some = omega arith

  -- the first pair's numbers, where the arrays still read the state
  report : (pairs' : List ℕ) → Reads Read pairs' (length ps) → (complete : Bool) (left checks : ℕ) → budget - b + (b - left) ≡ checks → (pool : Pool)
      → ◌≡◌ {A = run.Outcome} (over_pool (outcome complete ps Here left) pool)
      (record { complete = complete; nodes = n; rounds = rounds; quality = (get_or pairs' 0 0, get_or pairs' 1 0); pool = pool; root = get_or pairs' 2 0; checks = checks })
  report pairs' R complete left checks count pool =
      let q : get_or Here.qualities 0 (0, 0) ≡ (get_or pairs' 0 0, get_or pairs' 1 0) = ap (λ (l : List Two). get_or l 0 (0, 0)) (sym R.qualities) ∙ quality-at pairs' 0 (length ps) 0 has_some in
      let r : get_or Here.terms 0 0 ≡ get_or pairs' 2 0 = ap (λ (l : List ℕ). get_or l 0 0) (sym R.terms) ∙ term-at pairs' 0 (length ps) 0 has_some in
      λ i. record { complete = complete; nodes = many i; rounds = rounds; quality = q i; pool = pool; root = r i; checks = count i }

  -- the run ends with the state, in a pool that may have grown
  ends : (complete : Bool) (left checks : ℕ) → budget - b + (b - left) ≡ checks → (pairs' terms' runs' : List ℕ) → m ≡ ok (outcome complete ps Here left) → Reads Read pairs' (length ps) → Holds terms' runs' → Extends (pool_of terms runs) (pool_of terms' runs') → count_in terms' ≤ lim.terms
      → RanTo m marks terms' runs' (R.Done (reported_in pairs' complete n rounds checks))
  ends complete left checks count pairs' terms' runs' e R H g l =
      let same = report pairs' R complete left checks count (pool_of terms' runs') in
      let root : get_or Here.terms 0 0 ≡ get_or pairs' 2 0 = ap (λ (o : run.Outcome). o.root) same in (
        outcome complete ps Here left,
        e,
        λ k. listing-cut k ps Here complete left (pool_of terms' runs') X.standing has_some H.valid g ∙ ap (listing_of k) same,
        H,
        omega (arith, root, extends-within g (get_or Here.terms 0 0) (X.standing.within 0 has_some), pool-length terms' runs'),
        omega arith,
      )

  expires : b ≡ 0 → RanTo m marks terms runs (R.Done (reported_in pairs false n rounds budget))
  expires e =
      ends false 0 budget (omega (arith, X.left)) pairs terms runs (X.rest ∙ rounds-expired (P.pairs t) (P.making lim t) ps Here e) (rw many (record { long = X.long; qualities = refl; terms = refl })) X.holds (extends-refl (pool_of terms runs)) X.within

  module _ (c : ℕ) (left : b ≡ c + 1) where
    run-refused : (terms' runs' : List ℕ) → round_at lim t ps Read c ≡ refused 13 → RanTo m marks terms' runs' (R.Stopped 13)
    run-refused terms' runs' e = X.rest ∙ rounds-refused (P.pairs t) (P.making lim t) ps Here c left 13 e

    run-cut : (pairs' terms' runs' : List ℕ) → Stays lim ps Read (round_at lim t ps Read c) pairs' terms' runs' → RanTo m marks terms' runs' (R.Done (reported_in pairs' false n rounds budget))
    run-cut pairs' terms' runs' S = ends false 0 budget (omega (arith, X.left)) pairs' terms' runs' (X.rest ∙ rounds-cut (P.pairs t) (P.making lim t) ps Here c left S.is) S.reads S.holds S.grown S.within

    module _ (pairs' terms' runs' : List ℕ) (d : ℕ) (changed : Bool) (T : Turning lim t ps Read (round_at lim t ps Read c) pairs' terms' runs' (length ps) d changed) where
      abbrev Made : Terms
      Made = record { pool = pool_of terms' runs'; terms = terms_in pairs' NEW (length ps) }

      done : round_at lim t ps Read c ≡ ok (passed Made d)
      done = turns-done lim t ps Read (round_at lim t ps Read c) pairs' terms' runs' d changed T

      told : changed ≡ any changes (turns_at t ps Read)
      told = turns-changed lim t ps Read (round_at lim t ps Read c) pairs' terms' runs' d changed T

      -- the checks of the round
      run-left : c ≡ length ps + d
      run-left = rounds-left (P.pairs t) (P.making lim t) ps c d Here Made done

      -- .. and of the run up to its end
      spent : budget - b + (b - d) ≡ budget - d
      spent = omega (arith, X.left, run-left)

      run-quiet : changed ≡ false → RanTo m marks terms' runs' (R.Done (reported_in pairs' true n rounds (budget - d)))
      run-quiet q = ends true d (budget - d) spent pairs' terms' runs' (X.rest ∙ rounds-quiet (P.pairs t) (P.making lim t) ps Here c left Made d done (sym told ∙ q)) T.reads T.holds T.midway.grown T.within

      -- what the round gave
      gave : qualities_in pairs' NEW n ≡ map (λ w. w.quality) (turns_at t ps Here)
      gave = ap (λ (i : ℕ). qualities_in pairs' NEW i) (sym many) ∙ turns-qualities lim t ps Read (round_at lim t ps Read c) pairs' terms' runs' d changed T

      long' : 6 * n ≤ length pairs'
      long' = omega (arith, T.reads.long, many)

      run-next : Closed t ps → changed ≡ true → (pairs'' : List ℕ) → pairs'' ≡ settled pairs' n → Running lim t ps n m pairs'' terms' runs' budget (rounds + 1) d
      run-next closed q pairs'' p =
          let qs : qualities_in pairs'' 0 n ≡ map (λ w. w.quality) (turns_at t ps Here) = ap (λ (l : List ℕ). qualities_in l 0 n) p ∙ settled-qualities pairs' n long' ∙ gave in
          let ts : terms_in pairs'' 0 n ≡ terms_in pairs' NEW (length ps) = ap (λ (l : List ℕ). terms_in l 0 n) p ∙ settled-terms pairs' n long' ∙ ap (λ (i : ℕ). terms_in pairs' NEW i) (sym many) in
          let one = add-one rounds in
          let next : state_after Here (turns_at t ps Here) Made d ≡ state_in pairs'' terms' runs' n (rounds + 1) d budget =
          λ i. record { pool = pool_of terms' runs'; qualities = sym qs i; terms = sym ts i; rounds = sym one i; budget = d; spent = spent i } in
          record {
            rest = X.rest ∙ rounds-next (P.pairs t) (P.making lim t) ps Here c left Made d done (sym told ∙ q) ∙ ap (rounds_of lim t ps) next;
            standing = rw (← next) (standing-next (P.pairs t) (P.making lim t) Fits (pair_keeps lim t) ps Here X.standing closed c d Made done);
            left = omega (arith, X.left, run-left);
            long = omega (arith, ap length p, settled-length pairs' n, long');
            holds = T.holds;
            within = T.within;
          }

  -- ---- by what the code answers: the round x, the outcome o
  pub run-expired : (o : Outcome) → o ≡ reported_in pairs false n rounds budget → b ≡ 0 → RanTo m marks terms runs (R.Done o)
  run-expired o q e = rw q (expires e)

  module _ (c : ℕ) (left : b ≡ c + 1) (pairs' terms' runs' : List ℕ) (x : Option Round) (Y : Relaxes lim t ps Read (round_at lim t ps Read c) pairs' terms' runs' x) where
    pub round-ended : (y : After) → y ≡ after_of x pairs' n rounds budget → (z : Ran) → y ≡ N.Ended z → RanTo m marks terms' runs' z
    round-ended y e z q = go x Y (sym q ∙ e)
      where
        go : (x : Option Round) → Relaxes lim t ps Read (round_at lim t ps Read c) pairs' terms' runs' x → N.Ended z ≡ after_of x pairs' n rounds budget → RanTo m marks terms' runs' z
        go None S i = let w : z ≡ R.Stopped 13 = cc in rw w (run-refused c left terms' runs' S)
        go (Some U.Cut) S i = let w : z ≡ R.Done (reported_in pairs' false n rounds budget) = cc in rw w (run-cut c left pairs' terms' runs' S)
        go (Some (U.Finished false d)) S i = let w : z ≡ R.Done (reported_in pairs' true n rounds (budget - d.left)) = cc in rw w (run-quiet c left pairs' terms' runs' d.left false S refl)
        go (Some (U.Finished true d)) S i = absurd (let w : ◌≡◌ {A = ℕ} 0 1 = cc in omega arith)

    -- no more checks are left than the run had
    pub round-within : LeftOf budget x
    round-within = go x Y
      where
        go : (x : Option Round) → Relaxes lim t ps Read (round_at lim t ps Read c) pairs' terms' runs' x → LeftOf budget x
        go None S = tt
        go (Some U.Cut) S = tt
        go (Some (U.Finished changed d)) S = omega (arith, X.left, run-left c left pairs' terms' runs' d.left changed S)

    module _ (changed : Bool) (d : Budget) (e : x ≡ Some (U.Finished changed d)) where
      turned : Turning lim t ps Read (round_at lim t ps Read c) pairs' terms' runs' (length ps) d.left changed
      turned = relaxes-finished lim t ps Read (round_at lim t ps Read c) pairs' terms' runs' x Y changed d e

      pub round-left : c ≡ n + d.left
      round-left = omega (arith, run-left c left pairs' terms' runs' d.left changed turned)

      pub round-next : Closed t ps → changed ≡ true → (pairs'' : List ℕ) → pairs'' ≡ settled pairs' n → Running lim t ps n m pairs'' terms' runs' budget (rounds + 1) d.left
      round-next = run-next c left pairs' terms' runs' d.left changed turned

-- the classes that are live in the round after a finished one
pub round-quiets : (lim : Limits) (t : Tables) → Valid t → (w : ℕ) (graph : List ℕ) (n : ℕ) → InRange t (pairs_in w graph n) → Closed t (pairs_in w graph n) → length (pairs_in w graph n) ≡ n
    → (pairs terms runs : List ℕ) (c : ℕ) (pairs' terms' runs' : List ℕ) (x : Option Round) → Relaxes lim t (pairs_in w graph n) (state_in pairs terms runs n 0 0 0) (round_at lim t (pairs_in w graph n) (state_in pairs terms runs n 0 0 0) c) pairs' terms' runs' x
    → (changed : Bool) (d : Budget) → x ≡ Some (U.Finished changed d) → (ll rl pairs'' ll' rl' : List ℕ) → Ends t w graph n pairs' ll rl pairs'' ll' rl' → Quiet t (pairs_in w graph n) (qualities_in pairs'' 0 n) ll' rl'
round-quiets lim t v w graph n i closed many pairs terms runs c pairs' terms' runs' x Y changed d e ll rl pairs'' ll' rl' Z =
    let ps = pairs_in w graph n in
    let s = state_in pairs terms runs n 0 0 0 in
    let T = relaxes-finished lim t ps s (round_at lim t ps s c) pairs' terms' runs' x Y changed d e in
    let reads : qualities_in pairs' 0 n ≡ qualities_in pairs 0 n = ap (λ (k : ℕ). qualities_in pairs' 0 k) (sym many) ∙ T.reads.qualities in
    let gave : qualities_in pairs' NEW n ≡ map (λ w. w.quality) (turns_at t ps s) = ap (λ (k : ℕ). qualities_in pairs' NEW k) (sym many) ∙ turns-qualities lim t ps s (round_at lim t ps s c) pairs' terms' runs' d.left changed T in
    quiet-after t v w graph n i pairs' closed (gave ∙ ap (λ (q : List Two). map (λ w. w.quality) (turns_of t ps q)) (sym reads)) (omega (arith, T.reads.long, many)) ll rl pairs'' ll' rl' Z
