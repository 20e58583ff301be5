-- 13 only where document 01's terms are beyond the limits: every term that a run enters is a best term, a starting term, or the final term of a pair improved in a round.
use Rattle.std.specs.Prelude.{◌≡◌, ◌⊎◌, Bool, true, length, get_or}
use Rattle.std.proofs.Math.Path.{refl, ap}
use Rattle.std.proofs.Common.{sym, ◌∙◌, subst, inl, inr, not-suc-le-zero, arith}
use Rattle.std.proofs.Math.Bool.{false}
use mathlib.Core.List.{List, [], ◌∷◌, map}
use Prim.Native.Nat.{ℕ, zero, suc, ◌+◌, ◌*◌, ◌<◌}
use Rattle.spec.specs.Bytes.{any, place, Two, same_two, Res, ok, refused, ◌>>=◌, Checked, passed, cut_short}
use Rattle.spec.specs.Image.{Tables}
use Rattle.spec.specs.Action.{joins}
use Rattle.spec.specs.Graph.{build}
use Rattle.spec.specs.Pool.{Pool, Interned, starting_term}
use Rattle.spec.specs.System as system
use Rattle.spec.specs.Pairs.{pairs}
use Rattle.spec.specs.Round.{Terms, prepend, Choice, stay, act, Turn, changes, look_up, choice_term, turn_of, turns_of, turns_terms, qualities_after}
use Rattle.spec.specs.Run.{limit_of, limits_for, State, Outcome, outcome, state_after, starting_terms, round_terms, after_round, rounds_from, started, start_state, after_starting, after_building, run_of}
use Rattle.spec.specs.declared.Caller.{Caller}
use Rattle.spec.specs.Meaning.{In, here, there, Term, tree_at}
use Rattle.laws.specs.Tests.{clash}
use Rattle.laws.specs.Valid.{Valid}
use Rattle.laws.specs.Lists.{in-cons, in-nil}
use Rattle.spec.specs.Pairs.{same-eq, same_refl}
use Rattle.laws.specs.Results.{ok-inj, refused-ok, bind_ok, bind-refused}
use Rattle.steps.specs.Quality.{◌⊏◌}
use Rattle.steps.specs.Turn.{Told, turn-told}
use Rattle.lgg.specs.TurnPlaces.{choice-joins}
use Rattle.steps.specs.Rounds.{quality_after, q-next}
use Rattle.steps.specs.Enter.{Starts}
use Rattle.steps.specs.Graph.{Closed, build-whole, build-first, build-closed, build-passed, build-same, build-refused}
use Rattle.steps.specs.Outcomes.{root_in}
use Rattle.pools.specs.Pool.{PoolValid, empty-valid}
use Rattle.pools.specs.PoolIntern.{Extends, extends-refl, extends-trans, extends-within, extends-tree}
use Rattle.laws.specs.BestMembers.{IsClass, IsPair}
use Rattle.lgg.specs.Within.{reach-within}
use Rattle.counted.specs.Counted.{best_tree, starting_tree, choice_tree, term_after, Improved, Counted, best, starting, final, Beyond}
use Rattle.counted.specs.CountedFew.{best-runs, starting-runs}
use Rattle.counted.proofs.CountedFew.{counted-few}
use Rattle.counted.specs.CountedPool.{Kept, Goes, fine, full, goes_bind, Entered}
use Rattle.counted.proofs.CountedPool.{starting-goes, choice-goes}
use Rattle.counted.specs.CountedRuns.{Stands, Acts, turn-few}
use Rattle.counted.specs.CountedRun.{Slim}

-- a term for each pair of a list: pair c has the tree `f c`
data Holds (pool : Pool) (f : Two → Term) : List Two → List ℕ → Type 0 where
  no_pair : Holds pool f [] []
  pair : {c : Two} {a : ℕ} {cs : List Two} {l : List ℕ} → a < length pool → tree_at pool a ≡ f c → Holds pool f cs l → Holds pool f (c ∷ cs) (a ∷ l)

holds-look : {pool : Pool} {f : Two → Term} {cs : List Two} {l : List ℕ} → Holds pool f cs l → (c : Two) → In c cs → Stands pool (look_up 0 cs l) f c
unfolding place
holds-look {pool = pool} {f = f} no_pair c i = elim i [ ]
holds-look {pool} {f} (pair {c = d} {a = a} {cs = cs} {l = l} h k hs) c i = go (same_two c d) refl (in-cons i) (λ j. holds-look hs c j)
  where
    go : (b : Bool) → same_two c d ≡ b → (c ≡ d) ⊎ In c cs → (In c cs → Stands pool (look_up 0 cs l) f c) → Stands pool (look_up 0 (d ∷ cs) (a ∷ l)) f c
    go true e z ih = rw (e, place, same-eq c d e) (h, k)
    go false e (inl z) ih = absurd (clash (sym (rw z (same_refl d)) ∙ e))
    go false e (inr j) ih = rw (e, place) (ih j)

holds-first : {pool : Pool} {f : Two → Term} {cs : List Two} {l : List ℕ} (p : Two) (rest : List Two) → Holds pool f cs l → cs ≡ p ∷ rest → tree_at pool (get_or l 0 0) ≡ f p
holds-first p rest no_pair e = absurd (let z : ◌≡◌ {A = ℕ} 0 1 = cc in omega arith)
holds-first {f = f} p rest (pair {c = c} h k hs) e = k ∙ ap f (let z : c ≡ p = cc in z)

-- what n checks over the pairs cs, begun with b, leave of pool p
data Walked (C : Term → Type 0) (p : Pool) (f : Two → Term) (cs : List Two) (n b : ℕ) : Checked Terms → Type 0 where
  whole : (r : Terms) (left : ℕ) → Kept C r.pool → Extends p r.pool → Holds r.pool f cs r.terms → b ≡ n + left → Walked C p f cs n b (passed r left)
  cut : Walked C p f cs n b cut_short

walked_next : {C : Term → Type 0} {p : Pool} {f : Two → Term} (c : Two) (cs : List Two) (n b : ℕ) (a : Interned) (r : Checked Terms) → Entered C p (f c) a → Walked C a.pool f cs n b r → Walked C p f (c ∷ cs) (suc n) (suc b) (prepend a.term r)
walked_next c cs n b a r E (whole s left K g H e) =
    whole (record { pool = s.pool; terms = a.term ∷ s.terms }) left K (extends-trans E.grown g) (pair (extends-within g a.term E.within) (extends-tree g a.term E.within ∙ E.means) H) (omega arith)
walked_next c cs n b a r E cut = cut

stands-later : (p q : Pool) (of : Two → ℕ) (f : Two → Term) → Extends p q → (c : Two) → Stands p of f c → Stands q of f c
stands-later p q of f g c (a, e) = (extends-within g (of c) a, extends-tree g (of c) a ∙ e)

-- ---- starting terms
starting-walks : (who : Caller) (t : Tables) → Valid t → (C : Term → Type 0) → ((c : ℕ) → IsClass t c → C (best_tree t c)) → (cs : List Two) (b : ℕ) (p : Pool) → ((c : Two) → In c cs → IsPair t c × C (starting_tree t c)) → Kept C p
    → Goes C (Walked C p (starting_tree t) cs (length cs) b) (starting_terms (limits_for who) t cs b p)
unfolding system.starting_terms
starting-walks who t v C bests [] b p h K = fine (whole (record { pool = p; terms = [] }) b K (extends-refl p) no_pair (omega arith))
starting-walks who t v C bests (c ∷ cs) zero p h K = fine cut
starting-walks who t v C bests (c ∷ cs) (suc b) p h K =
    goes_bind (starting_term (limits_for who) t p c) _ (starting-goes who t v C bests p c (h c here).0 (h c here).1 K)
    (λ a A. goes_bind (starting_terms (limits_for who) t cs b a.pool) _ (starting-walks who t v C bests cs b a.pool (λ d i. h d (there i)) A.kept) (λ r W. fine (walked_next c cs (length cs) b a r A W)))

-- ---- the turns of a round, over the terms `f` of the round before
module _ (who : Caller) (t : Tables) (C : Term → Type 0) (q : Two → Two) (of : Two → ℕ) (f : Two → Term) where
  abbrev after : Two → Term
  after c = choice_tree t f (f c) (turn_of t q c).choice

  turns-walk : (cs : List Two) (b : ℕ) (p : Pool) → ((c : Two) → In c cs → Stands p of f c × ((d : Two) → In d (joins t c) → Stands p of f d))
      → ((c : Two) → In c cs → (r : Pool) → PoolValid r → ((d : Two) → In d (joins t c) → Stands r of f d) → Acts (turn_of t q c).choice → C (after c)) → Kept C p
      → Goes C (Walked C p after cs (length cs) b) (turns_terms (limits_for who) t of cs (map (turn_of t q) cs) b p)
  unfolding system.turns_terms
  turns-walk [] b p h g K = fine (whole (record { pool = p; terms = [] }) b K (extends-refl p) no_pair (omega arith))
  turns-walk (c ∷ cs) zero p h g K = fine cut
  turns-walk (c ∷ cs) (suc b) p h g K =
      goes_bind (choice_term (limits_for who) t of p (of c) (turn_of t q c).choice) _
      (choice-goes who t p of f c (turn_of t q c).choice K (h c here).0 (λ a e d i. (h c here).1 d (choice-joins t q c a e d i)) (g c here p K.valid (h c here).1))
      (λ a A. goes_bind (turns_terms (limits_for who) t of cs (map (turn_of t q) cs) b a.pool) _
      (turns-walk cs b a.pool (λ d i. (stands-later p a.pool of f A.grown d (h d (there i)).0, λ e j. stands-later p a.pool of f A.grown e ((h d (there i)).1 e j))) (λ d i. g d (there i)) A.kept)
      (λ r W. fine (walked_next c cs (length cs) b a r A W)))

-- ---- rounds
-- a pair whose turn chose an action is improved
acted-improved : (t : Tables) (ps : List Two) (k : ℕ) (p : Two) → In p ps → Acts (turn_of t (quality_after (pairs t) ps k) p).choice → Improved t ps k p
acted-improved t ps k p i a = rw (q-next (pairs t) ps k p i) (go (turn-told (pairs t) (quality_after (pairs t) ps k) p))
  where
    w : Turn
    w = turn_of t (quality_after (pairs t) ps k) p

    chose : (c : Choice) → w.choice ≡ c → Acts c → changes w ≡ true
    chose stay e z = absurd z
    chose (act b) e z = rw e refl

    go : Told (quality_after (pairs t) ps k p) w → w.quality ⊏ quality_after (pairs t) ps k p
    go (inl (n, e)) = absurd (clash (sym (chose w.choice refl a) ∙ n))
    go (inr (n, l)) = l

module _ (who : Caller) (t : Tables) (v : Valid t) (ps : List Two) (closed : Closed (pairs t) ps) (b : ℕ) where
  abbrev C : Term → Type 0
  C = Slim t ps b

  -- a state between two rounds
  record Between (s : State) : Type 0 where
    kept : Kept C s.pool
    holds : Holds s.pool (term_after t ps s.rounds) ps s.terms
    qualities : s.qualities ≡ qualities_after s.rounds t ps
    spent : b ≡ 2 * length ps + s.rounds * (length ps + 1) + s.budget

  round-start : (p : Pool) (f : Two → Term) (c : ℕ) (r : Res (Checked Terms)) → Goes C (Walked C p f ps (length ps) c) r → Goes C (Walked C p f ps (suc (length ps)) (suc c)) r
  round-start p f c r (fine (whole s left K g H e)) = fine (whole s left K g H (omega arith))
  round-start p f c r (fine cut) = fine cut
  round-start p f c r (full x) = full x

  round-walks : (s : State) → Between s → (c : ℕ) → s.budget ≡ c → Goes C (Walked C s.pool (term_after t ps (suc s.rounds)) ps (suc (length ps)) c) (round_terms (limits_for who) t ps s (turns_of t ps s.qualities) c)
  unfolding system.round_terms system.turns_of term_after
  round-walks s B zero e = fine cut
  round-walks s B (suc c) e =
      rw B.qualities
      (round-start s.pool (term_after t ps (suc s.rounds)) c _
      (turns-walk who t C (quality_after (pairs t) ps s.rounds) (look_up 0 ps s.terms) (term_after t ps s.rounds) ps c s.pool
      (λ p i. (holds-look B.holds p i, λ d j. holds-look B.holds d (closed p d i j)))
      (λ p i r w S a. (final p s.rounds i (acted-improved t ps s.rounds p i a) (omega (arith, B.spent)) refl, turn-few t v ps closed (quality_after (pairs t) ps s.rounds) p i r w (look_up 0 ps s.terms) (term_after t ps s.rounds) S a))
      B.kept))

  further : (s : State) → Between s → (r : Terms) (left : ℕ) → Kept C r.pool → Holds r.pool (term_after t ps (suc s.rounds)) ps r.terms → s.budget ≡ suc (length ps) + left
      → Between (state_after s (turns_of t ps s.qualities) r left)
  unfolding system.qualities_after
  further s B r left K H e = record { kept = K; holds = H; qualities = ap (λ (l : List Two). map (λ (w : Turn). w.quality) (turns_of t ps l)) B.qualities; spent = omega (arith, B.spent) }

  -- the rounds of a run are refused only where its terms are beyond the limits; otherwise its root is the first pair's term after the rounds reported
  module _ (p : Two) (first : Starts (p ∷ []) ps) where
    abbrev Final : Outcome → Type 0
    Final o = tree_at o.pool o.root ≡ term_after t ps o.rounds p

    ended : (s : State) → Between s → (complete : Bool) (left : ℕ) → Final (outcome complete ps s left)
    ended s B complete left = holds-first p first.0 B.holds first.1

    rounds-go : (f : ℕ) (s : State) → Between s → Goes C Final (rounds_from (limits_for who) f t ps s)
    unfolding system.rounds_from after_round
    rounds-go zero s B = fine (ended s B false 0)
    rounds-go (suc f) s B = goes_bind (round_terms (limits_for who) t ps s ws s.budget) _ (round-walks s B s.budget refl) (λ r W. go r W (λ u D. rounds-go f u D))
      where
        ws : List Turn
        ws = turns_of t ps s.qualities

        go : (r : Checked Terms) → Walked C s.pool (term_after t ps (suc s.rounds)) ps (suc (length ps)) s.budget r → ((u : State) → Between u → Goes C Final (rounds_from (limits_for who) f t ps u))
            → Goes C Final (after_round (λ u. rounds_from (limits_for who) f t ps u) ps s ws r)
        go r cut ih = fine (ended s B false 0)
        go r (whole a left K g H e) ih = by (any changes ws)
          where
            u : State
            u = state_after s ws a left

            by : (x : Bool) → Goes C {A = Outcome} Final (elim x [ false ↦ ok (outcome true ps s left) | true ↦ rounds_from (limits_for who) f t ps u ])
            by true = ih u (further s B a left K H e)
            by false = fine (ended s B true left)

-- ---- the run
goes-ok : {C : Term → Type 0} {A : Type 0} {Q : A → Type 0} {r : Res A} (a : A) → Goes C Q r → r ≡ ok a → Q a
goes-ok {Q = Q} a (fine {a = x} q) e = subst Q (ok-inj e) q
goes-ok a (full b) e = absurd (refused-ok e)

goes-refused : {C : Term → Type 0} {A : Type 0} {Q : A → Type 0} {r : Res A} (k : ℕ) → Goes C Q r → r ≡ refused k → Beyond C
goes-refused k (fine q) e = absurd (refused-ok (sym e))
goes-refused k (full b) e = b

module _ (who : Caller) (t : Tables) (v : Valid t) (p : Two) (h : IsPair t p) where
  slim-best : (ps : List Two) (b c : ℕ) → IsClass t c → Slim t ps b (best_tree t c)
  slim-best ps b c k = (best c k refl, omega (arith, best-runs t v c k))

  slim-start : (ps : List Two) (b : ℕ) (q : Two) → In q ps → IsPair t q → Slim t ps b (starting_tree t q)
  slim-start ps b q i k = (starting q i refl, omega (arith, starting-runs t v q k))

  root-goes : (ps : List Two) (b : ℕ) → In p ps → Goes (Slim t ps b) (Entered (Slim t ps b) [] (starting_tree t p)) (starting_term (limits_for who) t [] p)
  root-goes ps b i = starting-goes who t v (Slim t ps b) (slim-best ps b) [] p h (slim-start ps b p i h) (record { valid = empty-valid; kinds = λ a l. absurd (not-suc-le-zero l) })

  -- The queried pair's starting term is never refused.
  pub root-starts : (root : Interned) × (starting_term (limits_for who) t [] p ≡ ok root)
  root-starts = go (starting_term (limits_for who) t [] p) (root-goes (p ∷ []) 0 here)
    where
      go : (r : Res Interned) → Goes (Slim t (p ∷ []) 0) (Entered (Slim t (p ∷ []) 0) [] (starting_tree t p)) r → (root : Interned) × (r ≡ ok root)
      go r (fine {a = a} q) = (a, refl)
      go r (full B) =
          absurd (counted-few t v (p ∷ []) (λ q i. elim (in-cons i) [ inl e ↦ rw e h | inr j ↦ absurd (in-nil j) ]) 0 0 0
          (λ k q i m l. absurd (omega arith)) (Slim t (p ∷ []) 0) (λ x d. d.0) (λ x d k q i m l e. absurd (omega arith)) (omega (arith, v.counts.few_classes)) (omega (arith, v.counts.few_classes)) B)

  started-term : (b : ℕ) (ps : List Two) (root : Interned) (n : ℕ) → starting_term (limits_for who) t [] p ≡ ok root → tree_at (started t b p root n).pool (started t b p root n).root ≡ term_after t ps (started t b p root n).rounds p
  unfolding system.started term_after
  started-term b ps root n er = (goes-ok root (root-goes (p ∷ []) 0 here) er).means

  built-goes : (b c : ℕ) (ps : List Two) (root : Interned) → build (limits_for who) t p b ≡ ok (passed ps c) → starting_term (limits_for who) t [] p ≡ ok root → Goes (Slim t ps b) (λ o. tree_at o.pool o.root ≡ term_after t ps o.rounds p) (after_building (limits_for who) t b p root (passed ps c))
  unfolding system.after_building system.after_starting term_after system.qualities_after
  built-goes b c ps root e er =
      goes_bind (starting_terms (limits_for who) t ps c root.pool) _
      (starting-walks who t v C (slim-best ps b) ps c root.pool (λ q i. (within q i, slim-start ps b q i (within q i))) (goes-ok root (root-goes ps b (root_in (pairs t) (limit_of who) p b c ps e)) er).kept)
      (λ r W. go r W)
    where
      C : Term → Type 0
      C = Slim t ps b

      within : (q : Two) → In q ps → IsPair t q
      within q i = reach-within t v p q h (((build-whole (pairs t) (limit_of who) p b c ps e).exactly q).0 i)

      go : (r : Checked Terms) → Walked C root.pool (starting_tree t) ps (length ps) c r → Goes C (λ o. tree_at o.pool o.root ≡ term_after t ps o.rounds p) (after_starting (limits_for who) t b p root ps r)
      go r cut = fine (started-term b ps root (length ps) er)
      go r (whole a left K g H z) =
          rounds-go who t v ps (build-closed (pairs t) (limit_of who) p b c ps e) b p (build-first (pairs t) (limit_of who) p b c ps e) left (start_state t b ps a left)
          (record { kept = K; holds = H; qualities = refl; spent = omega (arith, (build-passed (pairs t) (limit_of who) p (length ps) (ps, build-whole (pairs t) (limit_of who) p b c ps e, refl) b c ps e).1) })

  -- The term that a run gives is the queried pair's after the rounds reported; ps are the pairs of the full graph.
  pub run-term : (B C : ℕ) (ps : List Two) → build (limits_for who) t p B ≡ ok (passed ps C) → (b : ℕ) (o : Outcome) → run_of (limits_for who) t p b ≡ ok o → tree_at o.pool o.root ≡ term_after t ps o.rounds p
  unfolding system.run_of system.after_building
  run-term B C ps e b o z =
      let (root, er, z') = bind_ok (starting_term (limits_for who) t [] p) _ o z in
      let (g, eg, z'') = bind_ok (build (limits_for who) t p b) _ o z' in
      go root er g eg z''
    where
      go : (root : Interned) → starting_term (limits_for who) t [] p ≡ ok root → (g : Checked (List Two)) → build (limits_for who) t p b ≡ ok g → after_building (limits_for who) t b p root g ≡ ok o → tree_at o.pool o.root ≡ term_after t ps o.rounds p
      go root er cut_short eg z = rw (← ok-inj z) (started-term b ps root 1 er)
      go root er (passed qs c) eg z = rw (← build-same (pairs t) (limit_of who) p b c B C qs ps eg e) (goes-ok o (built-goes b c qs root eg er) z)

  -- A run is refused by 13 only where its graph is built, and the terms that are counted for it are more than 16,384 or have more than 65,536 runs.
  pub refused-13-slim : (b : ℕ) → run_of (limits_for who) t p b ≡ refused 13 → (ps : List Two) × (c : ℕ) × (build (limits_for who) t p b ≡ ok (passed ps c)) × Beyond (Slim t ps b)
  unfolding system.run_of system.after_building
  refused-13-slim b e = starts (bind-refused (starting_term (limits_for who) t [] p) (λ root. build (limits_for who) t p b >>= λ g. after_building (limits_for who) t b p root g) 13 e)
    where
      built : (root : Interned) → starting_term (limits_for who) t [] p ≡ ok root → (g : Checked (List Two)) → build (limits_for who) t p b ≡ ok g → after_building (limits_for who) t b p root g ≡ refused 13 → (ps : List Two) × (c : ℕ) × (build (limits_for who) t p b ≡ ok (passed ps c)) × Beyond (Slim t ps b)
      built root er cut_short eg z = absurd (refused-ok (sym z))
      built root er (passed ps c) eg z = (ps, c, eg, goes-refused 13 (built-goes b c ps root eg er) z)

      starts : (starting_term (limits_for who) t [] p ≡ refused 13) ⊎ ((root : Interned) × (starting_term (limits_for who) t [] p ≡ ok root) × ((build (limits_for who) t p b >>= λ g. after_building (limits_for who) t b p root g) ≡ refused 13)) → (ps : List Two) × (c : ℕ) × (build (limits_for who) t p b ≡ ok (passed ps c)) × Beyond (Slim t ps b)
      starts (inl z) = absurd (refused-ok (sym z ∙ root-starts.1))
      starts (inr (root, er, z)) = elim (bind-refused (build (limits_for who) t p b) (λ g. after_building (limits_for who) t b p root g) 13 z) [ inl x ↦ absurd (omega (arith, (build-refused (pairs t) (limit_of who) p b 13 x).0)) | inr x ↦ built root er x.0 x.1 x.2 ]

  pub refused-13-beyond : (b : ℕ) → run_of (limits_for who) t p b ≡ refused 13 → (ps : List Two) × (c : ℕ) × (build (limits_for who) t p b ≡ ok (passed ps c)) × Beyond (Counted t ps b)
  refused-13-beyond b e =
      let (ps, c, k, B) = refused-13-slim b e in
      (ps, c, k, record { terms = B.terms; distinct = B.distinct; counted = λ x i. (B.counted x i).0; beyond = B.beyond })
