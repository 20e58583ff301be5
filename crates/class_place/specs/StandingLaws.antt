-- Laws of a class in a list of terms: where it stands, and with which count.
use Rattle.std.specs.Prelude.{◌≡◌, true, List, ℕ, ◌*◌, ◌/◌, ◌≤◌, ◌<◌, ltb, eqb, length, get_or}
use Rattle.std.proofs.Common.{sym, ap, ◌∙◌, arith, get_or-take}
use borrow.Author.Tests.{ltb-true, eqb-true}
use Rattle.spec.specs.Bytes.{Two}
use Rattle.spec.specs.Monomial.{Monomial}
use Rattle.laws.specs.Tests.{both_true}
use Rattle.monomial_terms.specs.Terms.{terms, held, position}
use Rattle.monomial_terms.specs.TermLaws.{two-each, held-full}
use Rattle.class_place.specs.Standing.{places, stands, count_there}

pub half-places : (s : List ℕ) → length s / 2 ≡ places s
half-places s = omega (arith, two-each s)

module _ (c : ℕ) (m : Monomial) where
  pub stands-there : stands c m ≡ true → (position c m < length m) × ((get_or m (position c m) (0, 0)).0 ≡ c)
  unfolding stands
  stands-there e =
      let (a, b) = (both_true (ltb (position c m) (length m)) (eqb (get_or m (position c m) (0, 0)).0 c)).0 e in
      (ltb-true (position c m) (length m) a, eqb-true (get_or m (position c m) (0, 0)).0 c b)

-- ---- the class at its place
module _ (c : ℕ) (s : List ℕ) (n p : ℕ) (b : 2 * n ≤ length s) (e : p ≡ position c (held n s)) where
  -- c stands there: before the list's end, with its count
  pub stands-before : stands c (held n s) ≡ true → p < n
  stands-before t = omega (arith, (stands-there c (held n s) t).0, held-full n s b)

  pub there : (y : ℕ) → stands c (held n s) ≡ true → y ≡ (get_or (terms s) p (0, 0)).1 → y ≡ count_there c (held n s)
  there y t f = f ∙ sym (ap (λ (x : Two). x.1) (get_or-take n (terms s) p (0, 0) (stands-before t))) ∙ ap (λ (i : ℕ). (get_or (held n s) i (0, 0)).1) e
