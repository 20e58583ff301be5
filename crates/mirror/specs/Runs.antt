-- (02, Paper 13) "Complete runs on (left, right) and (right, left), neither refused, must be shown to have equal pairs, rounds, size, mass and checks."
use Rattle.std.specs.Prelude.{◌≡◌, refl, Bool, true, false, ℕ, ◌+◌, eqb}
use Rattle.std.proofs.Common.{sym, ap, arith, eqb-true}
use Rattle.spec.specs.Bytes.{pick, Two}
use Rattle.spec.specs.Image.{Tables, best_size}
use Rattle.spec.specs.Round.{starting_quality}
use Rattle.laws.specs.Tests.{eqb_swap}
use Rattle.steps.specs.Quality.{two-eq}
use Rattle.mirror.specs.Transpose.{flip}

-- "Starting term: the best term of one class, mass 0; or the marked place Variants of two best terms, size and mass both their sum."
pub start-flip : (t : Tables) (p : Two) → starting_quality t (flip p) ≡ starting_quality t p
start-flip t p = rw (eqb_swap p.1 p.0) (go (eqb p.0 p.1) refl)
  where
    s : ℕ
    s = best_size t p.1 + best_size t p.0

    u : ℕ
    u = best_size t p.0 + best_size t p.1

    go : (x : Bool) → eqb p.0 p.1 ≡ x → ◌≡◌ {A = Two} (pick x (best_size t p.1, 0) (s, s)) (pick x (best_size t p.0, 0) (u, u))
    go true e = two-eq (ap (best_size t) (sym (eqb-true p.0 p.1 e))) refl
    go false e = let z : s ≡ u = omega arith in two-eq z z
