-- "A class paired with itself has no actions."
use Rattle.std.specs.Prelude.{◌≡◌, true, [], ℕ, eqb}
use Rattle.std.proofs.Math.Path.{refl}
use Rattle.spec.specs.Bytes.{each}
use Rattle.spec.specs.Image.{Tables}
use Rattle.spec.specs.Action.{structural, transports, joins}

module _ (t : Tables) (l r : ℕ) (e : eqb l r ≡ true) where
  pub structural-none : structural t l r ≡ []
  unfolding structural
  structural-none = rw (e, structural) refl

  pub transports-none : transports t l r ≡ []
  unfolding transports
  transports-none = rw (e, transports) refl

  pub joins-none : joins t (l, r) ≡ []
  unfolding joins each
  joins-none = rw (structural-none, transports-none) refl
