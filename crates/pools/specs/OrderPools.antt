-- The tree of a choice's term does not depend on what else is in the pool: so interning only the final term of a turn changes no result.
use Rattle.std.specs.Prelude.{◌≡◌, ℕ, ◌<◌, length}
use Rattle.std.proofs.Common.{sym}
use Rattle.spec.specs.Pool.{Pool}
use Rattle.spec.specs.System.{Choice, stay, act}
use Rattle.spec.specs.Meaning.{In, tree_at}
use Rattle.pools.specs.PoolIntern.{Extends, extends-within, extends-tree}

-- number a of pool p and number b of pool q mean the same tree
pub record Same (p q : Pool) (a b : ℕ) : Type 0 where
  pub left : a < length p
  pub right : b < length q
  pub tree : tree_at p a ≡ tree_at q b

-- in a pool that has grown a number means what it meant
pub same-extends : {p q : Pool} → Extends p q → (a : ℕ) → a < length p → Same p q a a
same-extends g a h = record { left = h; right = extends-within g a h; tree = sym (extends-tree g a h) }

-- the places that a choice uses mean the same trees in both pools
abbrev pub SamePlaces : {N : Type 0} → Pool → Pool → (N → ℕ) → (N → ℕ) → Choice N → Type 0
SamePlaces p q of of' stay = Unit
SamePlaces {N} p q of of' (act a) = (c : N) → In c a.places → Same p q (of c) (of' c)

-- the places that a choice uses stand in the pool
abbrev pub PlacesWithin : {N : Type 0} → Pool → (N → ℕ) → Choice N → Type 0
PlacesWithin p of stay = Unit
PlacesWithin {N} p of (act a) = (c : N) → In c a.places → of c < length p
