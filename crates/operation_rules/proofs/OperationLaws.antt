-- The test of an operation entry, for each way out of it.
use mathlib.Core.Path.{◌≡◌, refl}
use mathlib.Core.Bool.{Bool, true, false}
use Prim.Native.Nat.{ℕ, ◌<◌, ◌≤◌}
use borrow.Author.Tests.{le-ltb, lt-ltb, eq-eqb, ne_eqb}
use lib.Dec.{eqb, ltb}
use Rattle.spec.specs.Bytes.{both, either, pick}
use Rattle.spec.specs.Image.{Operation, NO-IDENTITY, is_ac, is_commutative, operation_right}

module _ (classes : ℕ) (x : Operation) {k : ℕ} (kind : k ≡ x.kind) where
  pub kind-wrong : 10 ≤ k → false ≡ operation_right classes x
  kind-wrong h = rw (← kind, le-ltb k 10 h) refl

  module _ {f g : ℕ} (h : k < 10) (flag : f ≡ x.flag) (right : g ≡ pick (is_commutative k) 1 0) where
    pub flag-wrong : (f ≡ g → ⊥) → false ≡ operation_right classes x
    flag-wrong n = rw (← kind, lt-ltb k 10 h, ← flag, ← right, ne_eqb f g n) refl

    pub flag-right : {e : ℕ} {r : Bool} → f ≡ g → e ≡ x.identity → r ≡ either (eqb e NO-IDENTITY) (both (is_ac k) (ltb e classes)) → r ≡ operation_right classes x
    flag-right q i z = rw (← kind, lt-ltb k 10 h, ← flag, ← right, eq-eqb f g q, ← i) z

-- "a class of the image only for MSet and Set"
module _ (k e classes : ℕ) (n : e ≡ NO-IDENTITY → ⊥) where
  pub identity-kind : is_ac k ≡ false → false ≡ either (eqb e NO-IDENTITY) (both (is_ac k) (ltb e classes))
  identity-kind h = rw (ne_eqb e NO-IDENTITY n, h) refl

  pub identity-class : is_ac k ≡ true → ltb e classes ≡ either (eqb e NO-IDENTITY) (both (is_ac k) (ltb e classes))
  identity-class h = rw (ne_eqb e NO-IDENTITY n, h) refl
