-- A pair as one number, so that one comparison does for both. Assumes nothing.
use Rattle.std.specs.Prelude.{◌≡◌, refl, Bool, true, false, ℕ, ◌+◌, ◌*◌, ◌<◌, eqb}
use Rattle.std.proofs.Common.{arith, eqb-true, eq-eqb, ne_eqb}
use Rattle.std.proofs.lemmas.Bool.{eqb-false}
use Rattle.spec.specs.Bytes.{both, Two, same_two}

abbrev pub code_of : Two → ℕ
code_of p = p.0 + p.1 * 65536

-- two pairs are the same where their numbers are
pub same_code : (p q : Two) → p.0 < 65536 → q.0 < 65536 → eqb (code_of p) (code_of q) ≡ same_two p q
same_code p q f g = go (eqb p.0 q.0) refl (eqb p.1 q.1) refl
  where
    equal : p.0 ≡ q.0 → p.1 ≡ q.1 → code_of p ≡ code_of q
    equal a b = omega (arith, a, b)

    lefts : code_of p ≡ code_of q → p.0 ≡ q.0
    lefts e = omega (arith, e, f, g)

    rights : code_of p ≡ code_of q → p.1 ≡ q.1
    rights e = omega (arith, e, f, g)

    go : (t : Bool) → eqb p.0 q.0 ≡ t → (u : Bool) → eqb p.1 q.1 ≡ u → eqb (code_of p) (code_of q) ≡ both t u
    go true a true b = eq-eqb _ _ (equal (eqb-true _ _ a) (eqb-true _ _ b))
    go true a false b = ne_eqb _ _ (λ e. eqb-false _ _ b (rights e))
    go false a u b = ne_eqb _ _ (λ e. eqb-false _ _ a (lefts e))
