-- The rounds as a loop runs them: one round from a state, by what its turns come to; the fuel is out of sight.
use Rattle.std.specs.Prelude.{◌≡◌, Bool, length}
use Rattle.std.proofs.Math.Path.{refl, sym, ap}
use Rattle.std.proofs.Common.{◌∙◌, arith}
use Rattle.std.proofs.Math.Bool.{true, false}
use mathlib.Core.List.{List}
use Prim.Native.Nat.{ℕ, zero, suc, ◌+◌, ◌≤◌}
use Rattle.spec.specs.Bytes.{any, Res, ok, refused, ◌>>=◌, Checked, passed, cut_short}
use Rattle.spec.specs.System.{System, Making, look_up, Turn, changes, turns_of, Terms, turns_terms, Outcome, State, outcome, state_after, after_round, round_terms, rounds_from}
use Rattle.steps.specs.Checks.{spent-left, round-spends}
use Rattle.steps.specs.TurnsFrom.{turns-length}

-- the turns of a round from state s
abbrev pub turns_at : {N : Type 0} → System N → List N → State → List (Turn N)
turns_at S ps s = turns_of S ps s.qualities

-- what the turns come to, with b checks left after the round's first one
abbrev pub round_at : {N : Type 0} → System N → Making N → List N → State → ℕ → Res (Checked Terms)
round_at S M ps s b = turns_terms M (look_up S.same 0 ps s.terms) ps (turns_at S ps s) b s.pool

module _ {N : Type 0} (S : System N) (M : Making N) (ps : List N) where
  -- ---- with fuel
  pub rounds-none : (f : ℕ) (s : State) → s.budget ≡ 0 → rounds_from S M f ps s ≡ ok (outcome false ps s 0)
  unfolding rounds_from after_round round_terms
  rounds-none zero s e = refl
  rounds-none (suc f) s e = ap (λ (z : ℕ). round_terms S M ps s (turns_at S ps s) z >>= after_round (λ u. rounds_from S M f ps u) ps s (turns_at S ps s)) e

  pub rounds-some : (f b : ℕ) (s : State) → s.budget ≡ suc b → rounds_from S M (suc f) ps s ≡ (round_at S M ps s b >>= after_round (λ u. rounds_from S M f ps u) ps s (turns_at S ps s))
  unfolding rounds_from after_round round_terms
  rounds-some f b s e = ap (λ (z : ℕ). round_terms S M ps s (turns_at S ps s) z >>= after_round (λ u. rounds_from S M f ps u) ps s (turns_at S ps s)) e

  -- the checks of a finished round
  pub round-left : (b c : ℕ) (s : State) (r : Terms) → round_at S M ps s b ≡ ok (passed r c) → b ≡ length ps + c
  unfolding round_terms
  round-left b c s r e = omega (arith, spent-left (suc (length ps)) (suc b) (round_at S M ps s b) (round-spends S M ps s (turns_at S ps s) (suc b) (turns-length S ps s.qualities)) r c e)

  -- more fuel than checks changes nothing
  pub rounds-fuel : (f g : ℕ) (s : State) → s.budget ≤ f → s.budget ≤ g → rounds_from S M f ps s ≡ rounds_from S M g ps s
  unfolding after_round
  rounds-fuel zero g s hf hg = rounds-none zero s (omega arith) ∙ sym (rounds-none g s (omega arith))
  rounds-fuel (suc f) zero s hf hg = rounds-none (suc f) s (omega arith) ∙ sym (rounds-none zero s (omega arith))
  rounds-fuel (suc f) (suc g) s hf hg = by s.budget refl (λ u h k. rounds-fuel f g u h k)
    where
      ws : List (Turn N)
      ws = turns_at S ps s

      test : (x : Bool) (c : ℕ) (u : State) → rounds_from S M f ps u ≡ rounds_from S M g ps u → ◌≡◌ {A = Res Outcome} (elim x [ false ↦ ok (outcome true ps s c) | true ↦ rounds_from S M f ps u ]) (elim x [ false ↦ ok (outcome true ps s c) | true ↦ rounds_from S M g ps u ])
      test false c u e = refl
      test true c u e = e

      after : (b : ℕ) → s.budget ≡ suc b → (x : Res (Checked Terms)) → round_at S M ps s b ≡ x → ((u : State) → u.budget ≤ f → u.budget ≤ g → rounds_from S M f ps u ≡ rounds_from S M g ps u)
          → (x >>= after_round (λ u. rounds_from S M f ps u) ps s ws) ≡ (x >>= after_round (λ u. rounds_from S M g ps u) ps s ws)
      after b e (ok (passed r c)) z ih = let k = round-left b c s r z in test (any changes ws) c (state_after s ws r c) (ih (state_after s ws r c) (omega arith) (omega arith))
      after b e (ok cut_short) z ih = refl
      after b e (refused n) z ih = refl

      by : (b : ℕ) → s.budget ≡ b → ((u : State) → u.budget ≤ f → u.budget ≤ g → rounds_from S M f ps u ≡ rounds_from S M g ps u) → rounds_from S M (suc f) ps s ≡ rounds_from S M (suc g) ps s
      by zero e ih = rounds-none (suc f) s e ∙ sym (rounds-none (suc g) s e)
      by (suc b) e ih = rounds-some f b s e ∙ after b e (round_at S M ps s b) refl ih ∙ sym (rounds-some g b s e)

  -- ---- without fuel
  -- what the rounds from state s come to
  abbrev pub rounds_of : State → Res Outcome
  rounds_of s = rounds_from S M s.budget ps s

  -- the budget is the fuel
  pub rounds-of : (f : ℕ) (s : State) → s.budget ≤ f → rounds_from S M f ps s ≡ rounds_of s
  rounds-of f s h = rounds-fuel f s.budget s h (omega arith)

  -- the round's first check has expired
  pub rounds-expired : (s : State) → s.budget ≡ 0 → rounds_of s ≡ ok (outcome false ps s 0)
  rounds-expired s e = rounds-none s.budget s e

  module _ (s : State) (b : ℕ) (left : s.budget ≡ b + 1) where
    some : rounds_of s ≡ (round_at S M ps s b >>= after_round (λ u. rounds_from S M b ps u) ps s (turns_at S ps s))
    some = rounds-fuel s.budget (suc b) s (omega arith) (omega arith) ∙ rounds-some b b s (omega arith)

    by-turns : (x : Res (Checked Terms)) → round_at S M ps s b ≡ x → rounds_of s ≡ (x >>= after_round (λ u. rounds_from S M b ps u) ps s (turns_at S ps s))
    by-turns x e = some ∙ ap (λ (z : Res (Checked Terms)). z >>= after_round (λ u. rounds_from S M b ps u) ps s (turns_at S ps s)) e

    -- the round is refused, or cut short
    pub rounds-refused : (n : ℕ) → round_at S M ps s b ≡ refused n → rounds_of s ≡ refused n
    rounds-refused n e = by-turns (refused n) e

    pub rounds-cut : round_at S M ps s b ≡ ok cut_short → rounds_of s ≡ ok (outcome false ps s 0)
    unfolding after_round
    rounds-cut e = by-turns (ok cut_short) e

    -- "The run is complete at the first finished round without change."
    pub rounds-quiet : (r : Terms) (c : ℕ) → round_at S M ps s b ≡ ok (passed r c) → any changes (turns_at S ps s) ≡ false → rounds_of s ≡ ok (outcome true ps s c)
    unfolding after_round
    rounds-quiet r c e q = by-turns (ok (passed r c)) e ∙ ap {B = Res Outcome} (λ (z : Bool). elim z [ false ↦ ok (outcome true ps s c) | true ↦ rounds_from S M b ps (state_after s (turns_at S ps s) r c) ]) q

    -- a finished round that changed something
    pub rounds-next : (r : Terms) (c : ℕ) → round_at S M ps s b ≡ ok (passed r c) → any changes (turns_at S ps s) ≡ true → rounds_of s ≡ rounds_of (state_after s (turns_at S ps s) r c)
    unfolding after_round
    rounds-next r c e q =
        by-turns (ok (passed r c)) e ∙ ap {B = Res Outcome} (λ (z : Bool). elim z [ false ↦ ok (outcome true ps s c) | true ↦ rounds_from S M b ps (state_after s (turns_at S ps s) r c) ]) q
        ∙ rounds-of b (state_after s (turns_at S ps s) r c) (omega (arith, round-left b c s r e))
