-- What add_at leaves.
use mathlib.Core.Path.{◌≡◌, refl, sym, ap, ◌∙◌}
use mathlib.Core.Bool.{true, false}
use mathlib.Core.List.{List, [], ◌∷◌, ◌++◌}
use Prim.Native.Nat.{ℕ, zero, suc, ◌+◌, ◌≤◌, ◌<◌, zero-le}
use native.Mathlib.Numerals.{add-one}
use native.Mathlib.Omega.{arith}
use lib.ListN.{length, take, drop, get_or, set, take-append-drop}
use lib.Seq.{paste, take-take, take-add, drop_at, length-take-le, set-append_left}
use Rattle.spec.specs.Bytes.{Two, sum}
use Rattle.spec.specs.Monomial.{Monomial, insert_add, total}
use Rattle.monomial_terms.specs.Terms.{terms, held, position, Holds, Roomy}
use Rattle.class_place.specs.Standing.{stands}
use Rattle.class_place.specs.StandingLaws.{stands-before, there}
use Rattle.child_list.specs.Adding.{Fits}
use Rattle.monomial_terms.specs.TermLaws.{two-each, held-full}
use Rattle.child_list.specs.AddLaws.{hit, miss, hit-length, miss-length}

-- ---- what add_at leaves
paste-split : (l : List Two) (p q : ℕ) (t : Two) → p + q < length l
    → paste l p (t ∷ drop p l) (suc q) ≡ (take p (take (p + q) l) ++ t ∷ drop p (take (p + q) l)) ++ drop (suc (p + q)) l
paste-split l p q t h =
    let i : p ≤ p + q = omega arith in
    let d : drop p (take (p + q) l) ≡ take q (drop p l) = rw take-add (drop_at (take p l) (take q (drop p l)) p (length-take-le p l (omega arith))) in
    let e : p + suc q ≡ suc (p + q) = omega arith in
    rw (take-take p (p + q) l, d, e) refl

module _ (n p c k : ℕ) (s u : List ℕ) (r : Fits n p c k s) where
  len : length (held n s) ≡ n
  len = held-full n s r.listed

  pub added-hit : (y : ℕ) → stands c (held n s) ≡ true → y ≡ (get_or (terms s) p (0, 0)).1 → terms u ≡ set (terms s) p (c, y + k) → Holds (insert_add c k (held n s)) s u n
  added-hit y t f w =
      let l : p < n = stands-before c s n p r.listed r.place t in
      let m : insert_add c k (held n s) ≡ set (held n s) p (c, y + k) = rw (r.place, there c s n p r.listed r.place y t f) (hit c k (held n s) t) in
      let ln : length (insert_add c k (held n s)) ≡ n = hit-length c k (held n s) t ∙ len in
      record {
        len = sym ln;
        whole = w ∙ rw (ln, m, ← set-append_left (held n s) (drop n (terms s)) p (c, y + k) (rw len l), take-append-drop n (terms s)) refl;
      }

  pub added-miss : (q : ℕ) → stands c (held n s) ≡ false → p + q ≡ n → terms u ≡ paste (terms s) p ((c, k) ∷ drop p (terms s)) (q + 1) → Holds (insert_add c k (held n s)) s u (n + 1)
  added-miss q t f w =
      let m : insert_add c k (held n s) ≡ take p (held n s) ++ (c, k) ∷ drop p (held n s) = rw r.place (miss c k (held n s) t) in
      let ln : length (insert_add c k (held n s)) ≡ suc n = miss-length c k (held n s) t ∙ ap suc len in
      record {
        len = rw add-one (sym ln);
        whole = w ∙ rw (add-one, ln, m, ← f) (paste-split (terms s) p q (c, k) (omega (arith, r.room t, two-each s)));
      }

-- ---- room
-- a count is at most the total
count-le : (m : Monomial) (i : ℕ) → (get_or m i (0, 0)).1 ≤ total m
unfolding total sum
count-le [] i = zero-le
count-le (t ∷ m) zero = omega arith
count-le (t ∷ m) (suc i) = omega (arith, count-le m i)

pub roomy-fits : (n p c k : ℕ) (s : List ℕ) → Roomy n k s → p ≡ position c (held n s) → p ≤ n → Fits n p c k s
roomy-fits n p c k s r e h = record {
  listed = omega (arith, r.numbers, r.room);
  place = e;
  within = h;
  room = λ t. omega (arith, r.numbers, r.room);
  count = λ t. omega (arith, r.fits, count-le (held n s) (position c (held n s)));
}
