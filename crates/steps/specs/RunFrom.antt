-- The run, part by part: by what the root's starting term, building, the starting terms and the rounds come to.
use Rattle.std.specs.Prelude.{◌≡◌, List, [], ℕ, length}
use Rattle.std.proofs.Math.Path.{ap}
use Rattle.std.proofs.Common.{◌∙◌}
use Rattle.spec.specs.Bytes.{Res, ok, refused, ◌>>=◌, Checked, passed, cut_short}
use Rattle.spec.specs.Pool.{Interned}
use Rattle.spec.specs.System.{System, Making, build, Terms, starting_terms, started, start_state, after_starting, after_building, run_of}
use Rattle.steps.specs.RoundsFrom.{rounds_of}

module _ {N : Type 0} (S : System N) (M : Making N) (p : N) (b : ℕ) where
  after-root : (x : Res Interned) → M.starting_term [] p ≡ x → run_of S M p b ≡ (x >>= λ root. build S M.limit p b >>= λ g. after_building S M b p root g)
  unfolding run_of
  after-root x e = ap (λ (z : Res Interned). z >>= λ root. build S M.limit p b >>= λ g. after_building S M b p root g) e

  -- the root's starting term is refused
  pub run-no-root : (n : ℕ) → M.starting_term [] p ≡ refused n → run_of S M p b ≡ refused n
  run-no-root n e = after-root (refused n) e

  module _ (root : Interned) (made : M.starting_term [] p ≡ ok root) where
    after-build : (x : Res (Checked (List N))) → build S M.limit p b ≡ x → run_of S M p b ≡ (x >>= λ g. after_building S M b p root g)
    after-build x e = after-root (ok root) made ∙ ap (λ (z : Res (Checked (List N))). z >>= λ g. after_building S M b p root g) e

    -- building is refused, or cut short
    pub run-no-graph : (n : ℕ) → build S M.limit p b ≡ refused n → run_of S M p b ≡ refused n
    run-no-graph n e = after-build (refused n) e

    pub run-cut-building : build S M.limit p b ≡ ok cut_short → run_of S M p b ≡ ok (started S b p root 1)
    unfolding after_building
    run-cut-building e = after-build (ok cut_short) e

-- ---- over a graph that is built in full
module _ {N : Type 0} (S : System N) (M : Making N) (b : ℕ) (p : N) (root : Interned) (ps : List N) (c : ℕ) where
  by-starting : (x : Res (Checked Terms)) → starting_terms M ps c root.pool ≡ x → after_building S M b p root (passed ps c) ≡ (x >>= after_starting S M b p root ps)
  unfolding after_building
  by-starting x e = ap (λ (z : Res (Checked Terms)). z >>= after_starting S M b p root ps) e

  -- a starting term is refused, or the starting terms are cut short
  pub built-refused : (n : ℕ) → starting_terms M ps c root.pool ≡ refused n → after_building S M b p root (passed ps c) ≡ refused n
  built-refused n e = by-starting (refused n) e

  pub built-cut : starting_terms M ps c root.pool ≡ ok cut_short → after_building S M b p root (passed ps c) ≡ ok (started S b p root (length ps))
  unfolding after_starting
  built-cut e = by-starting (ok cut_short) e

  -- the rounds decide
  pub built-rounds : (r : Terms) (d : ℕ) → starting_terms M ps c root.pool ≡ ok (passed r d) → after_building S M b p root (passed ps c) ≡ rounds_of S M ps (start_state S b ps r d)
  unfolding after_starting
  built-rounds r d e = by-starting (ok (passed r d)) e
