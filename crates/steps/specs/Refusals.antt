-- The refusals of a run: 12 from building, 13 from the pool, and no other number, where the system's terms are refused by 13 only.
use Rattle.std.specs.Prelude.{◌≡◌, refl, ◌⊎◌, Bool, true}
use Rattle.std.proofs.Math.Logic.{inl, inr}
use Rattle.std.proofs.Math.Bool.{false}
use mathlib.Core.List.{List, [], ◌∷◌}
use Prim.Native.Nat.{ℕ, zero, suc, ◌≤◌, ◌<◌}
use Rattle.std.proofs.Common.{arith}
use Rattle.std.proofs.Math.ListN.{length}
use Rattle.spec.specs.Bytes.{any, Two, ok, refused, ◌>>=◌, Checked, passed, cut_short}
use Rattle.spec.specs.Pool.{Pool, Interned, interned}
use Rattle.spec.specs.System.{System, Making, look_up, Choice, stay, act, Turn, changes, turns_of, build, choice_term, Terms, prepend, turns_terms, starting_terms, Outcome, State, outcome, state_after, after_round, round_terms, rounds_from, started, start_state, after_starting, after_building, run_of}
use Rattle.laws.specs.Results.{bind-refused, Only13, only-ok, only-bind}
use Rattle.steps.specs.Graph.{Some, NodeCount, some-count, build-refused, build-over}

-- starting and action terms are refused by 13 alone
pub record Refuses13 {N : Type 0} (M : Making N) : Type 0 where
  pub start : (p : Pool) (c : N) → Only13 (M.starting_term p c)
  pub action : (p : Pool) (o : ℕ) (l : List Two) → Only13 (M.action_term p o l)

module _ {N : Type 0} (M : Making N) (R : Refuses13 M) where
  starting-only : (cs : List N) (b : ℕ) (p : Pool) → Only13 (starting_terms M cs b p)
  unfolding starting_terms
  starting-only [] b p = only-ok (passed (record { pool = p; terms = [] }) b)
  starting-only (c ∷ cs) zero p = only-ok cut_short
  starting-only (c ∷ cs) (suc b) p = only-bind (M.starting_term p c) _ (R.start p c) (λ a. only-bind (starting_terms M cs b a.pool) _ (starting-only cs b a.pool) (λ r. only-ok (prepend a.term r)))

  pub choice-only : (of : N → ℕ) (p : Pool) (old : ℕ) (c : Choice N) → Only13 (choice_term M of p old c)
  unfolding choice_term
  choice-only of p old stay = only-ok (interned p old)
  choice-only of p old (act a) = R.action p a.op _

  turns-only : (of : N → ℕ) (ps : List N) (ws : List (Turn N)) (b : ℕ) (p : Pool) → Only13 (turns_terms M of ps ws b p)
  unfolding turns_terms
  turns-only of [] ws b p = only-ok (passed (record { pool = p; terms = [] }) b)
  turns-only of (c ∷ ps) [] b p = only-ok (passed (record { pool = p; terms = [] }) b)
  turns-only of (c ∷ ps) (w ∷ ws) zero p = only-ok cut_short
  turns-only of (c ∷ ps) (w ∷ ws) (suc b) p =
      only-bind (choice_term M of p (of c) w.choice) _ (choice-only of p (of c) w.choice) (λ a. only-bind (turns_terms M of ps ws b a.pool) _ (turns-only of ps ws b a.pool) (λ r. only-ok (prepend a.term r)))

module _ {N : Type 0} (S : System N) (M : Making N) (R : Refuses13 M) where
  round-only : (ps : List N) (s : State) (ws : List (Turn N)) (b : ℕ) → Only13 (round_terms S M ps s ws b)
  unfolding round_terms
  round-only ps s ws zero = only-ok cut_short
  round-only ps s ws (suc b) = turns-only M R (look_up S.same 0 ps s.terms) ps ws b s.pool

  rounds-only : (f : ℕ) (ps : List N) (s : State) → Only13 (rounds_from S M f ps s)
  unfolding rounds_from after_round
  rounds-only zero ps s = only-ok (outcome false ps s 0)
  rounds-only (suc f) ps s = only-bind (round_terms S M ps s ws s.budget) _ (round-only ps s ws s.budget) (λ r. go r (λ u. rounds-only f ps u))
    where
      ws : List (Turn N)
      ws = turns_of S ps s.qualities

      by : (x : Bool) (r : Terms) (b : ℕ) → ((u : State) → Only13 (rounds_from S M f ps u)) → Only13 {A = Outcome} (elim x [ false ↦ ok (outcome true ps s b) | true ↦ rounds_from S M f ps (state_after s ws r b) ])
      by true r b ih = ih (state_after s ws r b)
      by false r b ih = only-ok (outcome true ps s b)

      go : (r : Checked Terms) → ((u : State) → Only13 (rounds_from S M f ps u)) → Only13 (after_round (λ u. rounds_from S M f ps u) ps s ws r)
      go cut_short ih = only-ok (outcome false ps s 0)
      go (passed r b) ih = by (any changes ws) r b ih

  -- once the graph is built, 13 is the only refusal
  pub after-only : (budget : ℕ) (p : N) (root : Interned) (g : Checked (List N)) → Only13 (after_building S M budget p root g)
  unfolding after_building after_starting
  after-only budget p root cut_short = only-ok (started S budget p root 1)
  after-only budget p root (passed ps b) = only-bind (starting_terms M ps b root.pool) _ (starting-only M R ps b root.pool) go
    where
      go : (r : Checked Terms) → Only13 (after_starting S M budget p root ps r)
      go cut_short = only-ok (started S budget p root (length ps))
      go (passed r c) = rounds-only c ps (start_state S budget ps r c)

  -- A run is refused by 12, and then more nodes than the limit are reachable; or by 13.
  pub run-refused : (p : N) (b k : ℕ) → run_of S M p b ≡ refused k → ((k ≡ 12) × ((ps : List N) × Some S p ps × (M.limit < length ps))) ⊎ (k ≡ 13)
  unfolding run_of
  run-refused p b k e = go (bind-refused (M.starting_term [] p) (λ root. build S M.limit p b >>= λ g. after_building S M b p root g) k e)
    where
      go : (M.starting_term [] p ≡ refused k) ⊎ ((root : Interned) × (M.starting_term [] p ≡ ok root) × ((build S M.limit p b >>= λ g. after_building S M b p root g) ≡ refused k)) → ((k ≡ 12) × ((ps : List N) × Some S p ps × (M.limit < length ps))) ⊎ (k ≡ 13)
      go (inl z) = inr (R.start [] p k z)
      go (inr (root, y, z)) = elim (bind-refused (build S M.limit p b) (λ g. after_building S M b p root g) k z) [ inl x ↦ inl (build-refused S M.limit p b k x) | inr x ↦ inr (after-only b p root x.0 k x.2) ]

  pub refused-by : (p : N) (n : ℕ) → NodeCount S p n → (b k : ℕ) → run_of S M p b ≡ refused k → ((k ≡ 12) × (M.limit < n)) ⊎ (k ≡ 13)
  refused-by p n count b k e = elim (run-refused p b k e) [ inl x ↦ let (z, (ps, s, l)) = x in inl (z, omega (arith, some-count S p n count ps s)) | inr x ↦ inr x ]

-- With more nodes than the limit every run with as many checks as the limit is refused: by 12, unless the pool was too small for the root's starting term.
pub refused-beyond : {N : Type 0} (S : System N) (M : Making N) (p : N) (n : ℕ) → NodeCount S p n → M.limit < n → (b : ℕ) (root : Interned) → M.limit ≤ b → M.starting_term [] p ≡ ok root → run_of S M p b ≡ refused 12
unfolding run_of
refused-beyond S M p n count l b root h e = rw (e, build-over S M.limit p n b count l h) refl
