-- What is good of the terms that a run builds: where starting terms are good for their nodes and an action over good terms is good, the run's root is good for the queried node and the reported quality.
use Rattle.std.proofs.Math.Path.{◌≡◌, refl}
use Rattle.std.proofs.Common.{sym, ap, ◌∙◌, inl, inr, arith}
use Rattle.std.specs.Prelude.{◌⊎◌, Bool, length, get_or}
use Rattle.std.proofs.Math.Bool.{true, false}
use mathlib.Core.List.{List, [], ◌∷◌, map}
use Prim.Native.Nat.{ℕ, zero, suc, ◌<◌}
use Rattle.spec.specs.Bytes.{In, here, there, Two, any, place, Res, ok, refused, ◌>>=◌, Checked, passed, cut_short}
use Rattle.spec.specs.Pool.{Pool, Interned, interned}
use Rattle.spec.specs.System.{System, Making, Act, build, look_up, Turn, changes, worth, turn_of, turns_of, plan_runs, choice_term, Terms, prepend, turns_terms, starting_terms, Outcome, State, outcome, state_after, after_round, round_terms, rounds_from, started, start_state, after_starting, after_building, run_of, joined}
use Rattle.spec.specs.Meaning.{Term, tree_at}
use Rattle.laws.specs.Tests.{clash}
use Rattle.laws.specs.Lists.{in-cons}
use Rattle.laws.specs.Results.{bind_ok, ok-inj, refused-ok}
use Rattle.pools.specs.Pool.{PoolValid, empty-valid}
use Rattle.pools.specs.PoolIntern.{Extends, extends-refl, extends-trans, extends-within, extends-tree}
use Rattle.steps.specs.Enter.{Starts}
use Rattle.steps.specs.Graph.{reach-all, Whole, build-whole, build-first}
use Rattle.steps.specs.Turn.{Inside, Chosen, stayed, acted, turn-says}

-- ---- a term for each node of a list, with its quality
module _ {N : Type 0} (Good : N → Two → Term → Type 0) where
  -- what a step that makes a term for a node in pool p gives
  pub record Makes (p : Pool) (c : N) (q : Two) (r : Interned) : Type 0 where
    pub valid : PoolValid r.pool
    pub grown : Extends p r.pool
    pub within : r.term < length r.pool
    pub good : Good c q (tree_at r.pool r.term)

  abbrev pub TermAt : Pool → (N → Two) → (N → ℕ) → N → Type 0
  TermAt pool q of c = (of c < length pool) × Good c (q c) (tree_at pool (of c))

  data Holds (pool : Pool) : List N → List Two → List ℕ → Type 0 where
    no_node : Holds pool [] [] []
    node : {p : N} {q : Two} {a : ℕ} {ps : List N} {qs : List Two} {l : List ℕ} → a < length pool → Good p q (tree_at pool a) → Holds pool ps qs l → Holds pool (p ∷ ps) (q ∷ qs) (a ∷ l)

  record Done (pool : Pool) (ps : List N) (qs : List Two) (r : Terms) : Type 0 where
    valid : PoolValid r.pool
    grown : Extends pool r.pool
    holds : Holds r.pool ps qs r.terms

-- what is shown of a run: its pool is valid, and its root is a term of the pool that is good for the queried node and the reported quality
pub record RunGood {N : Type 0} (Good : N → Two → Term → Type 0) (p : N) (o : Outcome) : Type 0 where
  pub valid : PoolValid o.pool
  pub within : o.root < length o.pool
  pub good : Good p o.quality (tree_at o.pool o.root)

-- the laws: `Okay` holds of the nodes that a run meets
pub record Builds {N : Type 0} (S : System N) (M : Making N) (Okay : N → Type 0) (Good : N → Two → Term → Type 0) : Type 0 where
  pub start : (pool : Pool) (c : N) (r : Interned) → Okay c → PoolValid pool → M.starting_term pool c ≡ ok r → Makes Good pool c (S.starting_quality c) r
  pub action : (pool : Pool) (p : N) (q : N → Two) (of : N → ℕ) (a : Act N) (r : Interned) → PoolValid pool → In a (S.offers q p) → ((c : N) → In c a.places → TermAt Good pool q of c)
      → M.action_term pool a.op (plan_runs of a.places a.counts) ≡ ok r → Makes Good pool p (worth S q a) r
  pub inside : Inside S
  pub onward : (p c : N) → Okay p → In c (S.joins p) → Okay c

module _ {N : Type 0} (S : System N) (M : Making N) (Okay : N → Type 0) (Good : N → Two → Term → Type 0) (L : Builds S M Okay Good) where
  extends-good : {pool next : Pool} → Extends pool next → (p : N) (q : Two) (a : ℕ) → a < length pool → Good p q (tree_at pool a) → Good p q (tree_at next a)
  extends-good g p q a h k = rw (extends-tree g a h) k

  holds-look : {pool : Pool} {ps : List N} {qs : List Two} {l : List ℕ} → Holds Good pool ps qs l → (c : N) → In c ps → TermAt Good pool (look_up S.same (0, 0) ps qs) (look_up S.same 0 ps l) c
  unfolding place
  holds-look {pool = pool} no_node c i = elim i [ ]
  holds-look {pool} (node {p = p} {q = q} {a = a} {ps = ps} {qs = qs} {l = l} h k hs) c i = go (S.same c p) refl (in-cons i) (λ j. holds-look hs c j)
    where
      go : (b : Bool) → S.same c p ≡ b → (c ≡ p) ⊎ In c ps → (In c ps → TermAt Good pool (look_up S.same (0, 0) ps qs) (look_up S.same 0 ps l) c) → TermAt Good pool (look_up S.same (0, 0) (p ∷ ps) (q ∷ qs)) (look_up S.same 0 (p ∷ ps) (a ∷ l)) c
      go true e z ih = rw (e, place, S.decides.equal c p e) (h, k)
      go false e (inl z) ih = absurd (clash (sym (rw z (S.decides.alike p)) ∙ e))
      go false e (inr j) ih = rw (e, place) (ih j)

  done-cons : (pool : Pool) (p : N) (q : Two) (ps : List N) (qs : List Two) (a : Interned) (s : Terms) → Makes Good pool p q a → Done Good a.pool ps qs s → Done Good pool (p ∷ ps) (q ∷ qs) (record { pool = s.pool; terms = a.term ∷ s.terms })
  done-cons pool p q ps qs a s A D = record {
    valid = D.valid;
    grown = extends-trans A.grown D.grown;
    holds = node (extends-within D.grown a.term A.within) (extends-good D.grown p q a.term A.within A.good) D.holds;
  }

  done-nil : (pool : Pool) (b : ℕ) (r : Terms) (left : ℕ) → PoolValid pool → ok (passed (record { pool = pool; terms = [] }) b) ≡ ok (passed r left) → Done Good pool [] [] r
  done-nil pool b r left u e = rw (← same e) (record { valid = u; grown = extends-refl pool; holds = no_node })
    where
      same : ok (passed (record { pool = pool; terms = [] }) b) ≡ ok (passed r left) → record { pool = pool; terms = [] } ≡ r
      same e = cc

  prepend-passed : (a : ℕ) (c : Checked Terms) (r : Terms) (left : ℕ) → ok (prepend a c) ≡ ok (passed r left) → (s : Terms) × (c ≡ passed s left) × (record { pool = s.pool; terms = a ∷ s.terms } ≡ r)
  prepend-passed a (passed s b) r left e = (s, same e, whole e)
    where
      same : ok (passed (record { pool = s.pool; terms = a ∷ s.terms }) b) ≡ ok (passed r left) → passed s b ≡ passed s left
      same e = cc

      whole : ok (passed (record { pool = s.pool; terms = a ∷ s.terms }) b) ≡ ok (passed r left) → record { pool = s.pool; terms = a ∷ s.terms } ≡ r
      whole e = cc
  prepend-passed a cut_short r left e = let z : ◌≡◌ {A = ℕ} 0 1 = cc in absurd (omega arith)

  done-step : (pool : Pool) (p : N) (q : Two) (ps : List N) (qs : List Two) (made : Res Interned) (rest : Pool → Res (Checked Terms)) (r : Terms) (left : ℕ) → ((a : Interned) → made ≡ ok a → Makes Good pool p q a)
      → ((a : Interned) (s : Terms) → Makes Good pool p q a → rest a.pool ≡ ok (passed s left) → Done Good a.pool ps qs s)
      → (made >>= (λ a. rest a.pool >>= (λ c. ok (prepend a.term c)))) ≡ ok (passed r left) → Done Good pool (p ∷ ps) (q ∷ qs) r
  done-step pool p q ps qs (refused n) rest r left m d e = absurd (refused-ok e)
  done-step pool p q ps qs (ok a) rest r left m d e = go (rest a.pool) refl e
    where
      last : (c : Checked Terms) → rest a.pool ≡ ok c → (s : Terms) × (c ≡ passed s left) × (record { pool = s.pool; terms = a.term ∷ s.terms } ≡ r) → Done Good pool (p ∷ ps) (q ∷ qs) r
      last c k (s, f, g) = rw (← g) (done-cons pool p q ps qs a s (m a refl) (d a s (m a refl) (k ∙ ap ok f)))

      go : (x : Res (Checked Terms)) → rest a.pool ≡ x → (x >>= (λ c. ok (prepend a.term c))) ≡ ok (passed r left) → Done Good pool (p ∷ ps) (q ∷ qs) r
      go (refused n) k e = absurd (refused-ok e)
      go (ok c) k e = last c k (prepend-passed a.term c r left e)

  -- ---- turns
  choice-made : (pool : Pool) (p : N) (q : N → Two) (of : N → ℕ) (w : Turn N) (r : Interned) → PoolValid pool → Chosen S q p w
      → TermAt Good pool q of p → ((c : N) → In c (S.joins p) → TermAt Good pool q of c) → choice_term M of pool (of p) w.choice ≡ ok r → Makes Good pool p w.quality r
  unfolding choice_term
  choice-made pool p q of w r u (stayed c k) g h e = rw k (stays (rw c at e))
    where
      stays : ok (interned pool (of p)) ≡ ok r → Makes Good pool p (q p) r
      stays z = rw (← ok-inj z) (record { valid = u; grown = extends-refl pool; within = g.0; good = g.1 })
  choice-made pool p q of w r u (acted a i c k) g h e = rw k (L.action pool p q of a r u i (λ d j. h d (L.inside q p a i d j)) (rw c at e))

  -- the turns of a round in order
  turns-done : (q : N → Two) (of : N → ℕ) (ps : List N) (b : ℕ) (pool : Pool) (r : Terms) (left : ℕ) → PoolValid pool
      → ((p : N) → In p ps → TermAt Good pool q of p × ((c : N) → In c (S.joins p) → TermAt Good pool q of c))
      → turns_terms M of ps (map (turn_of S q) ps) b pool ≡ ok (passed r left) → Done Good pool ps (map (λ w. w.quality) (map (turn_of S q) ps)) r
  unfolding turns_terms
  turns-done q of [] b pool r left u h e = done-nil pool b r left u e
  turns-done q of (p ∷ ps) zero pool r left u h e = let z : ◌≡◌ {A = ℕ} 0 1 = cc in absurd (omega arith)
  turns-done q of (p ∷ ps) (suc b) pool r left u h e =
      done-step pool p (turn_of S q p).quality ps (map (λ w. w.quality) (map (turn_of S q) ps)) (choice_term M of pool (of p) (turn_of S q p).choice) (λ next. turns_terms M of ps (map (turn_of S q) ps) b next) r left
      (λ a k. choice-made pool p q of (turn_of S q p) a u (turn-says S q p) (h p here).0 (h p here).1 k)
      (λ a s A k. turns-done q of ps b a.pool s left A.valid (λ c i. (later A.grown c (h c (there i)).0, λ d j. later A.grown d ((h c (there i)).1 d j))) k)
      e
    where
      later : {next : Pool} → Extends pool next → (c : N) → TermAt Good pool q of c → TermAt Good next q of c
      later g c (a, b) = (extends-within g (of c) a, extends-good g c (q c) (of c) a b)

  -- ---- the run
  module _ (p : N) (h : Okay p) where
    record Graphed (ps : List N) : Type 0 where
      whole : Whole S p ps
      first : Starts (p ∷ []) ps

    starting-done : (cs : List N) (b : ℕ) (pool : Pool) (r : Terms) (left : ℕ) → PoolValid pool → ((c : N) → In c cs → Okay c) → starting_terms M cs b pool ≡ ok (passed r left)
        → Done Good pool cs (map S.starting_quality cs) r
    unfolding starting_terms
    starting-done [] b pool r left u k e = done-nil pool b r left u e
    starting-done (c ∷ cs) zero pool r left u k e = let z : ◌≡◌ {A = ℕ} 0 1 = cc in absurd (omega arith)
    starting-done (c ∷ cs) (suc b) pool r left u k e =
        done-step pool c (S.starting_quality c) cs (map S.starting_quality cs) (M.starting_term pool c) (λ next. starting_terms M cs b next) r left
        (λ a m. L.start pool c a (k c here) u m)
        (λ a s A m. starting-done cs b a.pool s left A.valid (λ d i. k d (there i)) m)
        e

    record StateGood (ps : List N) (s : State) : Type 0 where
      valid : PoolValid s.pool
      holds : Holds Good s.pool ps s.qualities s.terms

    outcome-good : (ps : List N) → Graphed ps → (s : State) → StateGood ps s → (complete : Bool) (left : ℕ) → RunGood Good p (outcome complete ps s left)
    outcome-good ps B s G complete left = let (valid, within, good) = go (rw B.first.1 at G.holds) in record { valid = valid; within = within; good = good }
      where
        go : {qs : List Two} {l : List ℕ} → Holds Good s.pool (p ∷ B.first.0) qs l → PoolValid s.pool × (get_or l 0 0 < length s.pool) × Good p (get_or qs 0 (0, 0)) (tree_at s.pool (get_or l 0 0))
        go (node a g hs) = (G.valid, a, g)

    round-good : (ps : List N) → Graphed ps → (s : State) → StateGood ps s → (b : ℕ) (r : Terms) (left : ℕ) → round_terms S M ps s (turns_of S ps s.qualities) b ≡ ok (passed r left)
        → Done Good s.pool ps (map (λ w. w.quality) (turns_of S ps s.qualities)) r
    unfolding round_terms turns_of
    round-good ps B s G zero r left e = let z : ◌≡◌ {A = ℕ} 0 1 = cc in absurd (omega arith)
    round-good ps B s G (suc b) r left e =
        turns-done (look_up S.same (0, 0) ps s.qualities) (look_up S.same 0 ps s.terms) ps b s.pool r left G.valid
        (λ c i. (holds-look G.holds c i, λ d j. holds-look G.holds d ((B.whole.exactly d).1 (joined ((B.whole.exactly c).0 i) j)))) e

    rounds-good : (f : ℕ) (ps : List N) → Graphed ps → (s : State) → StateGood ps s → (o : Outcome) → rounds_from S M f ps s ≡ ok o → RunGood Good p o
    unfolding rounds_from after_round
    rounds-good zero ps B s G o e = rw (← ok-inj e) (outcome-good ps B s G false 0)
    rounds-good (suc f) ps B s G o e =
        let (r, er, e') = bind_ok (round_terms S M ps s (turns_of S ps s.qualities) s.budget) _ o e in
        after r er e' (λ u k. rounds-good f ps B u k o)
      where
        ws : List (Turn N)
        ws = turns_of S ps s.qualities

        after : (r : Checked Terms) → round_terms S M ps s ws s.budget ≡ ok r → after_round (λ u. rounds_from S M f ps u) ps s ws r ≡ ok o
            → ((u : State) → StateGood ps u → rounds_from S M f ps u ≡ ok o → RunGood Good p o) → RunGood Good p o
        after (passed r left) er e ih = go (any changes ws) e
          where
            go : (b : Bool) → (elim b [ false ↦ ok (outcome true ps s left) | true ↦ rounds_from S M f ps (state_after s ws r left) ]) ≡ ok o → RunGood Good p o
            go false e = rw (← ok-inj e) (outcome-good ps B s G true left)
            go true e = let D = round-good ps B s G s.budget r left er in ih (state_after s ws r left) (record { valid = D.valid; holds = D.holds }) e
        after cut_short er e ih = rw (← ok-inj e) (outcome-good ps B s G false 0)

    root-good : (root : Interned) → Makes Good [] p (S.starting_quality p) root → (b n : ℕ) → RunGood Good p (started S b p root n)
    unfolding started
    root-good root R b n = record { valid = R.valid; within = R.within; good = R.good }

    pub run-good : (b : ℕ) (o : Outcome) → run_of S M p b ≡ ok o → RunGood Good p o
    unfolding run_of after_building after_starting
    run-good b o e =
        let (root, er, e') = bind_ok (M.starting_term [] p) _ o e in
        let (g, eg, e'') = bind_ok (build S M.limit p b) _ o e' in
        building root (L.start [] p root h empty-valid er) g eg e''
      where
        starting : (root : Interned) → Makes Good [] p (S.starting_quality p) root → (ps : List N) → Graphed ps → (left : ℕ) (r : Checked Terms) → starting_terms M ps left root.pool ≡ ok r
            → after_starting S M b p root ps r ≡ ok o → RunGood Good p o
        starting root R ps B left (passed r c) es e =
            let D = starting-done ps left root.pool r c R.valid (λ q i. reach-all S Okay L.onward p h q ((B.whole.exactly q).0 i)) es in
            rounds-good c ps B (start_state S b ps r c) (record { valid = D.valid; holds = D.holds }) o e
        starting root R ps B left cut_short es e = rw (← ok-inj e) (root-good root R b (length ps))

        building : (root : Interned) → Makes Good [] p (S.starting_quality p) root → (g : Checked (List N)) → build S M.limit p b ≡ ok g → after_building S M b p root g ≡ ok o → RunGood Good p o
        building root R (passed ps c) eg e =
            let (r, er, e') = bind_ok (starting_terms M ps c root.pool) _ o e in
            starting root R ps (record { whole = build-whole S M.limit p b c ps eg; first = build-first S M.limit p b c ps eg }) c r er e'
        building root R cut_short eg e = rw (← ok-inj e) (root-good root R b 1)
