-- The run as a function of its budget: where it ends, what it reports there, and what a longer run does.
use Rattle.std.specs.Prelude.{◌≡◌, ◌⊎◌, Bool, true, length, get_or}
use Rattle.std.proofs.Math.Path.{refl, ap}
use Rattle.std.proofs.Common.{sym, ◌∙◌, eq-or-lt_of_le}
use Rattle.std.proofs.Math.Logic.{inl, inr}
use Rattle.std.proofs.Math.Bool.{false}
use mathlib.Core.List.{List, [], map}
use Prim.Native.Nat.{ℕ, zero, suc, ◌+◌, ◌*◌, ◌-◌, ◌≤◌, ◌<◌}
use native.Mathlib.Omega.{arith}
use Rattle.std.proofs.Math.Nat.{suc_inj}
use Rattle.spec.specs.Bytes.{any, Two, Res, ok, refused, ◌>>=◌, Checked, passed, cut_short}
use Rattle.spec.specs.Pool.{Interned}
use Rattle.spec.specs.System.{System, Making, build, Turn, changes, turns_of, next, qualities_after, Terms, starting_terms, Outcome, State, outcome, state_after, after_round, round_terms, rounds_from, started, start_state, after_starting, after_building, run_of}
use Rattle.laws.specs.Tests.{clash}
use Rattle.laws.specs.Results.{Later, refused-ok, ok-inj, bind_ok}
use Rattle.steps.specs.Rounds.{changed}
use Rattle.steps.specs.Checks.{Spent, cut, paid, ended, starting-spends, starting-later, round-spends, round-later, with_budget}
use Rattle.steps.specs.Graph.{build-later}
use Rattle.steps.specs.TurnsFrom.{turns-length}

-- complete where the round after those reported was finished too and changed nothing, partial where the checks did not reach
abbrev pub Status : {N : Type 0} → System N → List N → ℕ → Outcome → Type 0
Status S ps b o = ((o.complete ≡ true) × (changed S ps o.rounds ≡ false) × (suc o.rounds * suc (length ps) ≤ b)) ⊎ ((o.complete ≡ false) × (b < suc o.rounds * suc (length ps)))

-- What rounds over the nodes ps, begun with b checks, end with: every round reported changed a quality, and its checks passed.
pub record Ended {N : Type 0} (S : System N) (ps : List N) (b : ℕ) (o : Outcome) : Type 0 where
  pub nodes : o.nodes ≡ length ps
  pub quality : o.quality ≡ get_or (qualities_after S o.rounds ps) 0 (0, 0)
  pub moved : (r : ℕ) → r < o.rounds → changed S ps r ≡ true
  pub enough : o.rounds * suc (length ps) ≤ b
  pub status : Status S ps b o

-- (02, Paper 13) What rounds over n nodes charge that began with b checks, a having passed before: each round, also the last one, a check at its start and one a node; cut short, all.
pub record Charged (n a b : ℕ) (o : Outcome) : Type 0 where
  pub complete : o.complete ≡ true → o.checks ≡ a + suc o.rounds * suc n
  pub partial : o.complete ≡ false → o.checks ≡ a + b
  pub within : o.checks ≤ a + b

module _ {N : Type 0} (S : System N) (M : Making N) (ps : List N) where
  -- a state between two rounds, of a run that began its rounds with b checks, a having passed before
  record Between (a b : ℕ) (s : State) : Type 0 where
    qualities : s.qualities ≡ qualities_after S s.rounds ps
    moved : (r : ℕ) → r < s.rounds → changed S ps r ≡ true
    left : b ≡ s.rounds * suc (length ps) + s.budget
    spent : s.spent ≡ a + s.rounds * suc (length ps)

  before-rounds : (budget b : ℕ) (r : Terms) → Between (budget - b) b (start_state S budget ps r b)
  unfolding qualities_after
  before-rounds budget b r = record { qualities = refl; moved = λ k l. absurd (omega arith); left = omega arith; spent = omega arith }

  stop-partial : (a b : ℕ) (s : State) → Between a b s → s.budget < suc (length ps) → Ended S ps b (outcome false ps s 0) × Charged (length ps) a b (outcome false ps s 0)
  stop-partial a b s i h = (
    record {
      nodes = refl;
      quality = ap (λ (l : List Two). get_or l 0 (0, 0)) i.qualities;
      moved = i.moved;
      enough = omega (arith, i.left);
      status = inr (refl, omega (arith, i.left));
    },
    record { complete = λ z. absurd (clash (sym z)); partial = λ z. omega (arith, i.left, i.spent); within = omega (arith, i.left, i.spent) },
  )

  stop-complete : (a b c : ℕ) (s : State) → Between a b s → changed S ps s.rounds ≡ false → s.budget ≡ suc (length ps) + c → Ended S ps b (outcome true ps s c) × Charged (length ps) a b (outcome true ps s c)
  stop-complete a b c s i q h = (
    record {
      nodes = refl;
      quality = ap (λ (l : List Two). get_or l 0 (0, 0)) i.qualities;
      moved = i.moved;
      enough = omega (arith, i.left);
      status = inl (refl, q, omega (arith, i.left));
    },
    record { complete = λ z. omega (arith, i.spent); partial = λ z. absurd (clash z); within = omega (arith, i.left, i.spent) },
  )

  go_on : (a b c : ℕ) (s : State) (r : Terms) → Between a b s → changed S ps s.rounds ≡ true → s.budget ≡ suc (length ps) + c → Between a b (state_after s (turns_of S ps s.qualities) r c)
  unfolding qualities_after
  go_on a b c s r i q h = record {
    qualities = ap (λ (l : List Two). next S ps l) i.qualities;
    moved = λ k l. elim (eq-or-lt_of_le l) [ inl e ↦ rw (suc_inj e) q | inr m ↦ i.moved k (omega arith) ];
    left = omega (arith, i.left);
    spent = omega (arith, i.spent);
  }

  rounds-end : (f a b : ℕ) (s : State) (o : Outcome) → Between a b s → s.budget ≤ f → rounds_from S M f ps s ≡ ok o → Ended S ps b o × Charged (length ps) a b o
  unfolding rounds_from after_round
  rounds-end zero a b s o i h e = rw (← ok-inj e) (stop-partial a b s i (omega arith))
  rounds-end (suc f) a b s o i h e = go (round_terms S M ps s ws s.budget) (round-spends S M ps s ws s.budget (turns-length S ps s.qualities)) e (λ u j k d. rounds-end f a b u o j k d)
    where
      ws : List (Turn N)
      ws = turns_of S ps s.qualities

      test : (x : Bool) → any changes ws ≡ x → (r : Terms) (c : ℕ) → s.budget ≡ suc (length ps) + c
          → elim x [ false ↦ ok (outcome true ps s c) | true ↦ rounds_from S M f ps (state_after s ws r c) ] ≡ ok o
          → ((u : State) → Between a b u → u.budget ≤ f → rounds_from S M f ps u ≡ ok o → Ended S ps b o × Charged (length ps) a b o) → Ended S ps b o × Charged (length ps) a b o
      test false q r c l d ih = rw (← ok-inj d) (stop-complete a b c s i (rw i.qualities at q) l)
      test true q r c l d ih = ih (state_after s ws r c) (go_on a b c s r i (rw i.qualities at q) l) (omega arith) d

      go : (r : Res (Checked Terms)) → Spent (suc (length ps)) s.budget r → (r >>= after_round (λ u. rounds_from S M f ps u) ps s ws) ≡ ok o
          → ((u : State) → Between a b u → u.budget ≤ f → rounds_from S M f ps u ≡ ok o → Ended S ps b o × Charged (length ps) a b o) → Ended S ps b o × Charged (length ps) a b o
      go r (cut l) d ih = rw (← ok-inj d) (stop-partial a b s i l)
      go r (paid {a = x} {c = c} l) d ih = test (any changes ws) refl x c l d ih
      go r ended d ih = absurd (refused-ok d)

  -- from the state before the first round
  pub rounds-from-start : (budget b : ℕ) (r : Terms) (o : Outcome) → rounds_from S M b ps (start_state S budget ps r b) ≡ ok o → Ended S ps b o × Charged (length ps) (budget - b) b o
  rounds-from-start budget b r o e = rounds-end b (budget - b) b (start_state S budget ps r b) o (before-rounds budget b r) (omega arith) e

-- ---- the whole run
-- where a run with budget b ends that is not refused, and what it reports
pub data Ends {N : Type 0} (S : System N) (M : Making N) (p : N) (b : ℕ) (o : Outcome) : Type 0 where
  -- "A run cut short in building reports 1 pair"
  in_building : (root : Interned) → build S M.limit p b ≡ ok cut_short → o ≡ started S b p root 1 → Ends S M p b o
  -- "any other run n"
  in_starting : (root : Interned) (ps : List N) (c : ℕ) → build S M.limit p b ≡ ok (passed ps c) → c < length ps → o ≡ started S b p root (length ps) → Ends S M p b o
  in_rounds : (ps : List N) (c d : ℕ) → build S M.limit p b ≡ ok (passed ps c) → c ≡ length ps + d → Ended S ps d o → Ends S M p b o

pub run_ends : {N : Type 0} (S : System N) (M : Making N) (p : N) (b : ℕ) (o : Outcome) → run_of S M p b ≡ ok o → Ends S M p b o
unfolding run_of after_building after_starting qualities_after
run_ends {N = N} S M p b o e =
    let (root, a, d) = bind_ok (M.starting_term [] p) (λ root. build S M.limit p b >>= λ g. after_building S M b p root g) o e in
    let (g, k, z) = bind_ok (build S M.limit p b) (λ g. after_building S M b p root g) o d in
    go root g k z
  where
    rounds : (root : Interned) (ps : List N) (c : ℕ) → build S M.limit p b ≡ ok (passed ps c) → (r : Res (Checked Terms)) → Spent (length ps) c r → (r >>= after_starting S M b p root ps) ≡ ok o → Ends S M p b o
    rounds root ps c k r (cut h) z = in_starting root ps c k h (sym (ok-inj z))
    rounds root ps c k r (paid {a = a} {c = d} h) z =
        in_rounds ps c d k h (rounds-from-start S M ps b d a o z).0
    rounds root ps c k r ended z = absurd (refused-ok z)

    go : (root : Interned) (g : Checked (List N)) → build S M.limit p b ≡ ok g → after_building S M b p root g ≡ ok o → Ends S M p b o
    go root cut_short k z = in_building root k (sym (ok-inj z))
    go root (passed ps c) k z = rounds root ps c k (starting_terms M ps c root.pool) (starting-spends M ps c root.pool) z

-- ---- a longer run
-- y is what a run that gave x gives with more checks: a refusal is the same refusal, a complete run the same run; a partial one may go on
abbrev pub Stays : Res Outcome → Res Outcome → Type 0
Stays (ok o) y = o.complete ≡ true → y ≡ ok o
Stays (refused n) y = y ≡ refused n

-- a step that goes on with the same end
stays-bind : {A : Type 0} (e : ℕ) (r s : Res (Checked A)) → Later e r s → (k l : Checked A → Res Outcome)
    → ((a : A) (c : ℕ) → Stays (k (passed a c)) (l (passed a (c + e)))) → ((o : Outcome) → k cut_short ≡ ok o → o.complete ≡ false) → ((n : ℕ) → k cut_short ≡ refused n → ⊥)
    → Stays (r >>= k) (s >>= l)
stays-bind e (ok (passed a c)) s h k l f g i = rw h (f a c)
stays-bind e (ok cut_short) s h k l f g i = go (k cut_short) g i
  where
    go : (x : Res Outcome) → ((o : Outcome) → x ≡ ok o → o.complete ≡ false) → ((n : ℕ) → x ≡ refused n → ⊥) → Stays x (s >>= l)
    go (ok o) g i = λ c. absurd (clash (sym c ∙ g o refl))
    go (refused n) g i = absurd (i n refl)
stays-bind e (refused n) s h k l f g i = rw h refl

partial-only : {o u : Outcome} → o.complete ≡ false → ok o ≡ ok u → u.complete ≡ false
partial-only {o} {u} h e = sym (ap (λ (z : Outcome). z.complete) (ok-inj e)) ∙ h

module _ {N : Type 0} (S : System N) (M : Making N) (ps : List N) where
  rounds-later : (f g e : ℕ) (s : State) → f ≤ g → Stays (rounds_from S M f ps s) (rounds_from S M g ps (with_budget s (s.budget + e)))
  unfolding rounds_from after_round
  rounds-later zero g e s h = λ c. absurd (clash (sym c))
  rounds-later (suc f) zero e s h = absurd (omega arith)
  rounds-later (suc f) (suc g) e s h =
      stays-bind e (round_terms S M ps s ws s.budget) (round_terms S M ps u ws (s.budget + e)) (round-later S M ps s ws s.budget (s.budget + e) e (s.budget + e) refl)
      (after_round (λ z. rounds_from S M f ps z) ps s ws) (after_round (λ z. rounds_from S M g ps z) ps u ws)
      (λ a c. test (any changes ws) a c (rounds-later f g e (state_after s ws a c) (omega arith)))
      (λ o z. partial-only {o = outcome false ps s 0} {u = o} refl z)
      (λ n z. refused-ok (sym z))
    where
      ws : List (Turn N)
      ws = turns_of S ps s.qualities

      u : State
      u = with_budget s (s.budget + e)

      -- as many checks have passed
      same : (c : ℕ) → s.budget + e - (c + e) ≡ s.budget - c
      same c = omega arith

      test : (x : Bool) (a : Terms) (c : ℕ) → Stays (rounds_from S M f ps (state_after s ws a c)) (rounds_from S M g ps (with_budget (state_after s ws a c) (c + e)))
          → Stays (elim x [ false ↦ ok (outcome true ps s c) | true ↦ rounds_from S M f ps (state_after s ws a c) ]) (elim x [ false ↦ ok (outcome true ps u (c + e)) | true ↦ rounds_from S M g ps (state_after u ws a (c + e)) ])
      test false a c ih = λ z. rw (same c) refl
      test true a c ih = rw (same c) ih

pub run-later : {N : Type 0} (S : System N) (M : Making N) (p : N) (b c : ℕ) → b ≤ c → Stays (run_of S M p b) (run_of S M p c)
unfolding run_of after_building after_starting started
run-later {N = N} S M p b c h = go (M.starting_term [] p)
  where
    e : ℕ
    e = c - b

    is : c ≡ b + e
    is = omega arith

    starting : (root : Interned) (ps : List N) (d : ℕ) → Stays (starting_terms M ps d root.pool >>= after_starting S M b p root ps) (starting_terms M ps (d + e) root.pool >>= after_starting S M c p root ps)
    starting root ps d =
        stays-bind e (starting_terms M ps d root.pool) (starting_terms M ps (d + e) root.pool) (starting-later M ps d (d + e) e root.pool refl) (after_starting S M b p root ps) (after_starting S M c p root ps)
        (λ a k. from a k (c - (k + e)) (omega arith))
        (λ o z. partial-only {o = started S b p root (length ps)} {u = o} refl z)
        (λ n z. refused-ok (sym z))
      where
        from : (a : Terms) (k n : ℕ) → n ≡ b - k → Stays (rounds_from S M k ps (start_state S b ps a k)) (rounds_from S M (k + e) ps (record { pool = a.pool; qualities = map S.starting_quality ps; terms = a.terms; rounds = 0; budget = k + e; spent = n }))
        from a k n z = rw z (rounds-later S M ps k (k + e) e (start_state S b ps a k) (omega arith))

    go : (r : Res Interned) → Stays (r >>= λ root. build S M.limit p b >>= λ g. after_building S M b p root g) (r >>= λ root. build S M.limit p c >>= λ g. after_building S M c p root g)
    go (ok root) =
        stays-bind e (build S M.limit p b) (build S M.limit p c) (build-later S M.limit p b c e is) (after_building S M b p root) (after_building S M c p root)
        (λ ps d. starting root ps d)
        (λ o z. partial-only {o = started S b p root 1} {u = o} refl z)
        (λ n z. refused-ok (sym z))
    go (refused n) = refl
