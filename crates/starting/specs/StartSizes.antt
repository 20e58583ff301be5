-- "Starting term: the best term of one class, mass 0; or the marked place Variants of two best terms, size and mass both their sum."
use Rattle.std.specs.Prelude.{◌≡◌, refl, ℕ, ◌+◌, ◌<◌, length}
use Rattle.std.proofs.Common.{arith, eq-eqb, ne_eqb}
use Rattle.spec.specs.Image.{Tables, best_size}
use Rattle.spec.specs.Round.{starting_quality}
use Rattle.laws.specs.Valid.{Valid}

module _ (t : Tables) (l r : ℕ) where
  pub size_same : l ≡ r → (starting_quality t (l, r)).0 ≡ best_size t l
  size_same e = rw (eq-eqb l r e) refl

  pub mass-same : l ≡ r → 0 ≡ (starting_quality t (l, r)).1
  mass-same e = rw (eq-eqb l r e) refl

  pub size-two : (l ≡ r → ⊥) → (starting_quality t (l, r)).0 ≡ best_size t l + best_size t r
  size-two d = rw (ne_eqb l r d) refl

  pub mass-two : (l ≡ r → ⊥) → (starting_quality t (l, r)).1 ≡ best_size t l + best_size t r
  mass-two d = rw (ne_eqb l r d) refl

pub sizes-fit : (t : Tables) (l r : ℕ) → Valid t → l < length t.classes → r < length t.classes → best_size t l + best_size t r < 4294967296
sizes-fit t l r v h k = let a = v.best.best_range l h in let b = v.best.best_range r k in omega arith
