-- (02, Paper 7) An image whose counts are at most 4,294,967,295 together passes nothing over.
use Rattle.std.specs.Prelude.{◌≡◌, refl, Bool, not, ℕ, zero, suc, ◌≤◌, ltb, leb, eqb, take, drop}
use Rattle.std.proofs.Math.Path.{ap}
use Rattle.std.proofs.Common.{ap₂, arith, ltb-false, le-leb}
use Rattle.std.proofs.Math.Bool.{true, false}
use mathlib.Core.List.{List, [], ◌∷◌, map}
use Rattle.spec.specs.Bytes.{both, filter, each, sum, Two, In, here, there}
use Rattle.spec.specs.Image.{Tables, identity_of, children_of}
use Rattle.spec.specs.Monomial.{Monomial, MonomialPair, itself, total, both_itself, pad_pair, monomials_of, representation_pairs, narrow, wide, wide_pairs, count_once, skipped_under, COUNT}
use Rattle.spec.specs.Action.{ac_ops, skipped_at}
use Rattle.laws.specs.AcceptedLists.{all_of, no-entry}
use Rattle.laws.specs.AcceptedUses.{term-le}
use Rattle.laws.specs.Bag.{each_in}
use Rattle.laws.specs.Monomials.{total-insert, monomial-total, Padded, level, left, right, padded}
use Rattle.skips.specs.Members.{Of, member, alone, monomial-of}

-- the counts of all children together
unfoldable pub count_sum : Tables → ℕ
unfolding sum
count_sum t = sum (map (λ c. c.1) t.children)

abbrev pub large : Tables → Bool
large t = ltb COUNT (count_sum t)

-- ---- lists
sum-front : (n : ℕ) (l : List Two) → total (take n l) ≤ total l
unfolding total sum
sum-front zero l = omega arith
sum-front (suc n) [] = omega arith
sum-front (suc n) (x ∷ l) = omega (arith, sum-front n l)

sum_back : (n : ℕ) (l : List Two) → total (drop n l) ≤ total l
unfolding total sum
sum_back zero l = omega arith
sum_back (suc n) [] = omega arith
sum_back (suc n) (x ∷ l) = omega (arith, sum_back n l)

filter_none : {A : Type 0} (p : A → Bool) (l : List A) → ((x : A) → In x l → p x ≡ false) → filter p l ≡ []
unfolding filter
filter_none p [] h = refl
filter_none p (x ∷ l) h = rw (filter, h x here) (filter_none p l (λ y i. h y (there i)))

sum-none : (f : ℕ → ℕ) (l : List ℕ) → ((o : ℕ) → f o ≡ 0) → sum (map f l) ≡ 0
unfolding sum
sum-none f [] h = refl
sum-none f (o ∷ l) h = omega (arith, h o, sum-none f l h)

-- ---- nothing is wide
low_narrow : (m : Monomial) → total m ≤ COUNT → narrow m ≡ true
unfolding total
low_narrow m h = all_of (λ (t : Two). leb t.1 COUNT) m (λ t i. le-leb t.1 COUNT (omega (arith, term-le (λ (t : Two). t.1) m t i)))

itself-low : (c : ℕ) → total (itself c) ≤ COUNT
unfolding total sum
itself-low c = omega arith

module _ (t : Tables) (h : count_sum t ≤ COUNT) where
  low : (c o : ℕ) (m : Monomial) → In m (monomials_of t c o) → total m ≤ COUNT
  unfolding count_sum total
  low c o m i = go (monomial-of t c o m i)
    where
      go : Of t c m → total m ≤ COUNT
      go (member n j e) =
          rw e (omega (arith, monomial-total (children_of t n), sum-front n.count (drop n.first t.children), sum_back n.first t.children))
      go (alone e) = rw e (itself-low c)

  pair-narrow : (e : ℕ) (a b : Monomial) (p : MonomialPair) → total a ≤ COUNT → total b ≤ COUNT → Padded e a b p → wide p ≡ false
  pair-narrow e a b p u w d = ap₂ (λ (x y : Bool). not (both x y)) (low_narrow p.rows (rows d)) (low_narrow p.cols (cols d))
    where
      rows : Padded e a b p → total p.rows ≤ COUNT
      rows (level q x) = rw x u
      rows (left k n q x) = rw x (omega (arith, total-insert e k a))
      rows (right k n q x) = rw x u

      cols : Padded e a b p → total p.cols ≤ COUNT
      cols (level q x) = rw x w
      cols (left k n q x) = rw x w
      cols (right k n q x) = rw x (omega (arith, total-insert e k b))

  none-wide : (l r o : ℕ) (p : MonomialPair) → In p (representation_pairs t l r o) → wide p ≡ false
  unfolding representation_pairs
  none-wide l r o p i =
      let (a, j, q) = each_in {B = MonomialPair} (λ a. each (λ b. elim (both_itself l r a b) [ true ↦ [] | false ↦ pad_pair (identity_of t o) a b ]) (monomials_of t r o)) (monomials_of t l o) p i in
      let (b, k, s) = each_in {B = MonomialPair} (λ b. elim (both_itself l r a b) [ true ↦ [] | false ↦ pad_pair (identity_of t o) a b ]) (monomials_of t r o) p q in
      go a b (low l o a j) (low r o b k) (both_itself l r a b) s
    where
      go : (a b : Monomial) → total a ≤ COUNT → total b ≤ COUNT → (x : Bool) → In p (elim x [ true ↦ [] | false ↦ pad_pair (identity_of t o) a b ]) → wide p ≡ false
      go a b u w true s = absurd (no-entry s)
      go a b u w false s = pair-narrow (identity_of t o) a b p u w (padded (identity_of t o) a b p s)

  under_none : (l r o : ℕ) → skipped_under t l r o ≡ 0
  unfolding skipped_under wide_pairs count_once
  under_none l r o = ap (count_once []) (filter_none wide (representation_pairs t l r o) (none-wide l r o))

-- Nothing is passed over.
pub nothing-large : (t : Tables) → large t ≡ false → (l r : ℕ) → skipped_at t (l, r) ≡ 0
unfolding skipped_at
nothing-large t e l r = go (eqb l r)
  where
    go : (b : Bool) → ◌≡◌ {A = ℕ} (elim b [ true ↦ 0 | false ↦ sum (map (skipped_under t l r) (ac_ops t l r)) ]) 0
    go true = refl
    go false = sum-none (skipped_under t l r) (ac_ops t l r) (under_none t (ltb-false COUNT (count_sum t) e) l r)
