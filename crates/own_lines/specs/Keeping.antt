-- What every step that enters a term keeps of the pool, a run keeps.
use Rattle.std.specs.Prelude.{◌≡◌, Bool, true, false}
use mathlib.Core.List.{List, [], ◌∷◌, map}
use Prim.Native.Nat.{ℕ, zero, suc}
use Rattle.spec.specs.Bytes.{In, here, there, Two, any, ok, Checked, passed, cut_short}
use Rattle.spec.specs.Pool.{Pool, Interned}
use Rattle.spec.specs.System.{System, Making, Act, build, look_up, Turn, changes, turn_of, turns_of, choice_term, Terms, prepend, turns_terms, starting_terms, Outcome, State, outcome, state_after, after_round, round_terms, rounds_from, started, start_state, after_starting, after_building, run_of}
use Rattle.laws.specs.Results.{bind_ok, ok-inj}
use Rattle.steps.specs.Graph.{reach-all, build-whole}
use Rattle.steps.specs.Turn.{Chosen, stayed, acted, turn-says}

-- P of a pool: `Okay` holds of the nodes that a run meets
pub record Keeps {N : Type 0} (S : System N) (M : Making N) (Okay : N → Type 0) (P : Pool → Type 0) : Type 0 where
  pub none : P []
  pub start : (pool : Pool) (c : N) (r : Interned) → Okay c → P pool → M.starting_term pool c ≡ ok r → P r.pool
  pub action : (pool : Pool) (p : N) (q : N → Two) (a : Act N) (l : List Two) (r : Interned) → Okay p → In a (S.offers q p) → P pool → M.action_term pool a.op l ≡ ok r → P r.pool
  pub onward : (p c : N) → Okay p → In c (S.joins p) → Okay c

abbrev Held : (Pool → Type 0) → Checked Terms → Type 0
Held P (passed r b) = P r.pool
Held P cut_short = Unit

held-prepend : (P : Pool → Type 0) (a : ℕ) (c : Checked Terms) → Held P c → Held P (prepend a c)
held-prepend P a (passed r b) h = h
held-prepend P a cut_short h = tt

module _ {N : Type 0} (S : System N) (M : Making N) (Okay : N → Type 0) (P : Pool → Type 0) (K : Keeps S M Okay P) where
  choice-keeps : (pool : Pool) (p : N) (q : N → Two) (of : N → ℕ) (w : Turn N) (r : Interned) → Okay p → Chosen S q p w → P pool → choice_term M of pool (of p) w.choice ≡ ok r → P r.pool
  unfolding choice_term
  choice-keeps pool p q of w r h (stayed c k) g e = rw (← ok-inj (rw c at e)) g
  choice-keeps pool p q of w r h (acted a i c k) g e = K.action pool p q a _ r h i g (rw c at e)

  turns-keep : (q : N → Two) (of : N → ℕ) (ps : List N) (b : ℕ) (pool : Pool) (x : Checked Terms) → ((p : N) → In p ps → Okay p) → P pool → turns_terms M of ps (map (turn_of S q) ps) b pool ≡ ok x → Held P x
  unfolding turns_terms
  turns-keep q of [] b pool x h g e = rw (← ok-inj e) g
  turns-keep q of (p ∷ ps) zero pool x h g e = rw (← ok-inj e) tt
  turns-keep q of (p ∷ ps) (suc b) pool x h g e =
      let (a, ea, e') = bind_ok (choice_term M of pool (of p) (turn_of S q p).choice) _ x e in
      let (y, ey, e'') = bind_ok (turns_terms M of ps (map (turn_of S q) ps) b a.pool) _ x e' in
      rw (← ok-inj e'') (held-prepend P a.term y (turns-keep q of ps b a.pool y (λ c i. h c (there i)) (choice-keeps pool p q of (turn_of S q p) a (h p here) (turn-says S q p) g ea) ey))

  starting-keeps : (cs : List N) (b : ℕ) (pool : Pool) (x : Checked Terms) → ((c : N) → In c cs → Okay c) → P pool → starting_terms M cs b pool ≡ ok x → Held P x
  unfolding starting_terms
  starting-keeps [] b pool x h g e = rw (← ok-inj e) g
  starting-keeps (c ∷ cs) zero pool x h g e = rw (← ok-inj e) tt
  starting-keeps (c ∷ cs) (suc b) pool x h g e =
      let (a, ea, e') = bind_ok (M.starting_term pool c) _ x e in
      let (y, ey, e'') = bind_ok (starting_terms M cs b a.pool) _ x e' in
      rw (← ok-inj e'') (held-prepend P a.term y (starting-keeps cs b a.pool y (λ d i. h d (there i)) (K.start pool c a (h c here) g ea) ey))

  module _ (ps : List N) (okay : (c : N) → In c ps → Okay c) where
    round_keeps : (s : State) (b : ℕ) (x : Checked Terms) → P s.pool → round_terms S M ps s (turns_of S ps s.qualities) b ≡ ok x → Held P x
    unfolding round_terms turns_of
    round_keeps s zero x g e = rw (← ok-inj e) tt
    round_keeps s (suc b) x g e = turns-keep (look_up S.same (0, 0) ps s.qualities) (look_up S.same 0 ps s.terms) ps b s.pool x okay g e

    rounds-keep : (f : ℕ) (s : State) (o : Outcome) → P s.pool → rounds_from S M f ps s ≡ ok o → P o.pool
    unfolding rounds_from after_round
    rounds-keep zero s o g e = rw (← ok-inj e) g
    rounds-keep (suc f) s o g e =
        let (x, ex, e') = bind_ok (round_terms S M ps s (turns_of S ps s.qualities) s.budget) _ o e in
        after x (round_keeps s s.budget x g ex) e' (λ u k. rounds-keep f u o k)
      where
        ws : List (Turn N)
        ws = turns_of S ps s.qualities

        after : (x : Checked Terms) → Held P x → after_round (λ u. rounds_from S M f ps u) ps s ws x ≡ ok o → ((u : State) → P u.pool → rounds_from S M f ps u ≡ ok o → P o.pool) → P o.pool
        after cut_short k e ih = rw (← ok-inj e) g
        after (passed r left) k e ih = go (any changes ws) e
          where
            go : (b : Bool) → (elim b [ false ↦ ok (outcome true ps s left) | true ↦ rounds_from S M f ps (state_after s ws r left) ]) ≡ ok o → P o.pool
            go false e = rw (← ok-inj e) g
            go true e = ih (state_after s ws r left) k e

  pub run-keeps : (p : N) → Okay p → (b : ℕ) (o : Outcome) → run_of S M p b ≡ ok o → P o.pool
  unfolding run_of after_building after_starting started
  run-keeps p h b o e =
      let (root, er, e') = bind_ok (M.starting_term [] p) _ o e in
      let (g, eg, e'') = bind_ok (build S M.limit p b) _ o e' in
      building root (K.start [] p root h K.none er) g eg e''
    where
      starting : (root : Interned) → P root.pool → (ps : List N) → ((c : N) → In c ps → Okay c) → (x : Checked Terms) → Held P x → after_starting S M b p root ps x ≡ ok o → P o.pool
      starting root R ps okay (passed r c) k e = rounds-keep ps okay c (start_state S b ps r c) o k e
      starting root R ps okay cut_short k e = rw (← ok-inj e) R

      building : (root : Interned) → P root.pool → (g : Checked (List N)) → build S M.limit p b ≡ ok g → after_building S M b p root g ≡ ok o → P o.pool
      building root R cut_short eg e = rw (← ok-inj e) R
      building root R (passed ps c) eg e =
          let okay : (q : N) → In q ps → Okay q = λ q i. reach-all S Okay K.onward p h q (((build-whole S M.limit p b c ps eg).exactly q).0 i) in
          let (x, ex, e') = bind_ok (starting_terms M ps c root.pool) _ o e in
          starting root R ps okay x (starting-keeps ps c root.pool x okay R ex) e'
