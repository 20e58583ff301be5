-- The work buffers cleared.
use Rattle.std.specs.Prelude.{◌≡◌, List, ℕ, length, replicate}
use Rattle.std.proofs.Common.{ap, ◌∙◌}

-- "An accepted call clears the work buffers too (every number zero)"
pub record Cleared (graph₀ pairs₀ work₀ flow₀ terms₀ runs₀ graph' pairs' work' flow' terms' runs' : List ℕ) : Type 0 where
  pub graph : graph' ≡ replicate (length graph₀) 0
  pub pairs : pairs' ≡ replicate (length pairs₀) 0
  pub work : work' ≡ replicate (length work₀) 0
  pub flow : flow' ≡ replicate (length flow₀) 0
  pub terms : terms' ≡ replicate (length terms₀) 0
  pub runs : runs' ≡ replicate (length runs₀) 0

-- buffers of the same lengths, cleared
pub cleared-same : {graph pairs work flow terms runs graph₁ pairs₁ work₁ flow₁ terms₁ runs₁ graph' pairs' work' flow' terms' runs' : List ℕ} → Cleared graph₁ pairs₁ work₁ flow₁ terms₁ runs₁ graph' pairs' work' flow' terms' runs'
    → length graph₁ ≡ length graph → length pairs₁ ≡ length pairs → length work₁ ≡ length work → length flow₁ ≡ length flow → length terms₁ ≡ length terms → length runs₁ ≡ length runs
    → Cleared graph pairs work flow terms runs graph' pairs' work' flow' terms' runs'
cleared-same X a b c d e f = record {
  graph = X.graph ∙ again a;
  pairs = X.pairs ∙ again b;
  work = X.work ∙ again c;
  flow = X.flow ∙ again d;
  terms = X.terms ∙ again e;
  runs = X.runs ∙ again f;
}
  where
    again : {m n : ℕ} → m ≡ n → replicate {A = ℕ} m 0 ≡ replicate n 0
    again e = ap (λ (k : ℕ). replicate {A = ℕ} k 0) e
