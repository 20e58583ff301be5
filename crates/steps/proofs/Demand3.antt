-- Demand 3 of the definitions, for nodes of any kind: what a run gives, for every query and every budget. Sentences in quotation marks are document 01's.
-- Without any law of the actions: the graph, what is reported, budgets. From `Backs`: the bound. From `Moves`: the least derivations.
use Rattle.std.specs.Prelude.{◌≡◌, refl, ◌≢◌, Bool, true, false, List, ℕ, zero, suc, ◌+◌, ◌*◌, ◌≤◌, ◌<◌, length}
use Rattle.std.proofs.Common.{ap, inl, inr, arith, eq-or-lt_of_le}
use Rattle.std.proofs.Math.Nat.{suc_inj}
use Rattle.spec.specs.Bytes.{ok, passed}
use Rattle.spec.specs.System.{System, Making, build, qualities_after, Outcome, run_of}
use Rattle.steps.specs.Rounds.{Backs, changed, quiet_same, changed-differs}
use Rattle.steps.proofs.Rounds.{bound}
use Rattle.steps.specs.Graph.{Closed, NodeCount, build-closed, build-passed, build-cut}
use Rattle.steps.specs.Run.{Ends, in_building, in_starting, in_rounds, run_ends}
use Rattle.steps.proofs.Outcomes.{complete-if}
use Rattle.steps.specs.Demand3.{FirstQuiet}

-- ---- the bound
unchanged : {N : Type 0} (S : System N) → Backs S → (ps : List N) → Closed S ps → (d : ℕ) → length ps ≤ d → changed S ps d ≡ false
unchanged S B ps closed d h = go (changed S ps d) refl
  where
    go : (x : Bool) → changed S ps d ≡ x → changed S ps d ≡ false
    go true k = absurd (omega (arith, bound S B ps closed d k))
    go false k = k

-- The round with index n, and every later one, changes nothing.
pub settled : {N : Type 0} (S : System N) (lim : ℕ) (B : Backs S) (p : N) (b c : ℕ) (ps : List N) → build S lim p b ≡ ok (passed ps c) → (d : ℕ) → length ps ≤ d → qualities_after S (suc d) ps ≡ qualities_after S d ps
settled S lim B p b c ps e d h = quiet_same S ps d (unchanged S B ps (build-closed S lim p b c ps e) d h)

module _ {N : Type 0} (S : System N) (M : Making N) (B : Backs S) (p : N) where
  -- A run whose full graph has n nodes and that is not refused is complete with 2n + (n + 1)(n + 1) checks.
  pub completes : (n : ℕ) → NodeCount S p n → (b : ℕ) (o : Outcome) → 2 * n + (n + 1) * (n + 1) ≤ b → run_of S M p b ≡ ok o → o.complete ≡ true
  completes n count b o h e = go (run_ends S M p b o e)
    where
      go : Ends S M p b o → o.complete ≡ true
      go (in_building root k s) = absurd (omega (arith, build-cut S M.limit p n count b k))
      go (in_starting root ps c k l s) = let (x, y) = build-passed S M.limit p n count b c ps k in absurd (omega arith)
      go (in_rounds ps c m k l f) =
          let (x, y) = build-passed S M.limit p n count b c ps k in
          complete-if S B ps m o (build-closed S M.limit p b c ps k) f (omega (arith, ap (λ (z : ℕ). suc z * suc z) x))

abbrev Earlier : {N : Type 0} → System N → List N → ℕ → Type 0
Earlier S ps r = (k : ℕ) → k < r → qualities_after S (suc k) ps ≢ qualities_after S k ps

-- There is one, and its index is n at most.
pub first-quiet : {N : Type 0} (S : System N) (lim : ℕ) (B : Backs S) (p : N) (b c : ℕ) (ps : List N) → build S lim p b ≡ ok (passed ps c) → (R : ℕ) × (R ≤ length ps) × FirstQuiet S ps R
first-quiet {N = N} S lim B p b c ps e = go (length ps) 0 (omega arith) (λ r h. absurd (omega arith))
  where
    go : (d r : ℕ) → r + d ≡ length ps → Earlier S ps r → (R : ℕ) × (R ≤ length ps) × FirstQuiet S ps R
    go zero r z h = (r, omega arith, record { earlier = h; quiet = quiet_same S ps r (unchanged S B ps (build-closed S lim p b c ps e) r (omega arith)) })
    go (suc d) r z h = by (changed S ps r) refl (λ g. go d (suc r) (omega arith) g)
      where
        by : (x : Bool) → changed S ps r ≡ x → (Earlier S ps (suc r) → (R : ℕ) × (R ≤ length ps) × FirstQuiet S ps R) → (R : ℕ) × (R ≤ length ps) × FirstQuiet S ps R
        by false k f = (r, omega arith, record { earlier = h; quiet = quiet_same S ps r k })
        by true k f = f (λ j l. elim (eq-or-lt_of_le l) [ inl m ↦ rw (suc_inj m) (changed-differs S ps r k) | inr m ↦ h j (omega arith) ])
