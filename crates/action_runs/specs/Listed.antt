-- The runs of a structural action's pairs, each once, listed one after the other.
use Rattle.std.specs.Prelude.{◌≡◌, refl, List, [], ◌∷◌, map, ℕ, ◌+◌, ◌≤◌, ◌<◌, length, get_or, set}
use Rattle.std.proofs.Common.{sym, ap, ◌∙◌, arith}
use Rattle.std.proofs.lemmas.List.{length-map}
use Rattle.std.proofs.Math.ListN.{get_or-map}
use Rattle.spec.specs.Bytes.{Two}
use Rattle.spec.specs.Round.{plan_runs}
use Rattle.laws.specs.Buffers.{over, Filled, filled_more, filled-all}
use Rattle.id.specs.Tables.{get_d_any}
use Rattle.action_runs.specs.Runs.{runs_of}

pub ones-runs : (of : Two → ℕ) (ps : List Two) → runs_of of ps ≡ map (λ p. 16384 + of p) ps
unfolding plan_runs
ones-runs of [] = refl
ones-runs of (p ∷ ps) = ap (λ (l : List ℕ). (16384 + of p) ∷ l) (ones-runs of ps)

pub many-runs : (of : Two → ℕ) (ps : List Two) → length (runs_of of ps) ≡ length ps
many-runs of ps = ap (λ (l : List ℕ). length l) (ones-runs of ps) ∙ length-map ps (λ p. 16384 + of p)

run_at : (of : Two → ℕ) (ps : List Two) (k : ℕ) → k < length ps → get_or (runs_of of ps) k 0 ≡ 16384 + of (get_or ps k (0, 0))
run_at of ps k h =
    let f : Two → ℕ = λ p. 16384 + of p in
    ap (λ (l : List ℕ). get_or l k 0) (ones-runs of ps) ∙ get_d_any (map f ps) k 0 (f (0, 0)) (rw (length-map ps f) h) ∙ get_or-map f ps k (0, 0)

-- The first k runs stand in a buffer; what stands behind is as it was.
abbrev pub Listed : (Two → ℕ) → List Two → List ℕ → ℕ → List ℕ → Type 0
Listed of ps list₀ k list = Filled (runs_of of ps) list₀ k list

module _ (of : Two → ℕ) (ps : List Two) (list₀ : List ℕ) (k : ℕ) (list : List ℕ) (S : Listed of ps list₀ k list) where
  pub listed_more : k < length ps → k < length list → (l r x : ℕ) (list' : List ℕ) → l ≡ (get_or ps k (0, 0)).0 → r ≡ (get_or ps k (0, 0)).1 → x ≡ of (l, r)
      → list' ≡ set list k (16384 + x) → Listed of ps list₀ (k + 1) list'
  listed_more h b l r x list' e f u w =
      let p : (l, r) ≡ get_or ps k (0, 0) = λ i. (e i, f i) in
      rw w
      (filled_more (runs_of of ps) list₀ k list S (16384 + x) (omega (arith, many-runs of ps)) b
      (ap (λ (z : ℕ). 16384 + z) (u ∙ ap of p) ∙ sym (run_at of ps k h)))

  pub listed-all : length ps ≤ k → list ≡ over (runs_of of ps) list₀
  listed-all h = filled-all (runs_of of ps) list₀ k list S (omega (arith, many-runs of ps))
