-- The turns of the scan for the first count that is too large.
use mathlib.Core.Path.{◌≡◌, refl, ap, ◌∙◌}
use mathlib.Core.Bool.{true, false}
use mathlib.Core.List.{List, ◌∷◌}
use Prim.Native.Nat.{ℕ, suc, ◌+◌, ◌*◌, ◌/◌, ◌≤◌, ◌<◌, min}
use native.Mathlib.Omega.{arith}
use native.Mathlib.Numerals.{add-one}
use borrow.Author.Tests.{lt-ltb, le-ltb}
use lib.ListN.{length, drop, get_or, length-take, drop_of_length-le}
use lib.Seq.{drop-cons, get_or-take}
use Rattle.spec.specs.Bytes.{Two, place}
use Rattle.spec.specs.Monomial.{fails_at, COUNT}
use Rattle.monomial_terms.specs.Terms.{terms, held}
use Rattle.monomial_terms.specs.TermLaws.{two-each}
use Rattle.narrowing.specs.Narrowing.{narrowed_of}
use Rattle.narrowing.specs.NarrowLaws.{too_many}
use Rattle.std.proofs.Common.{Some, None}

-- no entry before i is too large
abbrev pub Upto : List ℕ → ℕ → ℕ → Type 0
Upto s n i = place too_many (held n s) ≡ i + place too_many (drop i (held n s))

-- y is the count at place i
module _ (s : List ℕ) (n i y : ℕ) (f : 2 * i + 1 < length s) (h : i < n) (e : y ≡ (get_or (terms s) i (0, 0)).1) (inv : Upto s n i) where
  long : i < length (held n s)
  long = rw (length-take n (terms s)) (omega (arith, two-each s))

  rest : drop i (held n s) ≡ get_or (terms s) i (0, 0) ∷ drop (suc i) (held n s)
  rest = drop-cons (held n s) i (0, 0) long ∙ ap (λ (t : Two). t ∷ drop (suc i) (held n s)) (get_or-take n (terms s) i (0, 0) h)

  pub upto-more : y ≤ COUNT → Upto s n (i + 1)
  unfolding place
  upto-more g =
      let z : too_many (get_or (terms s) i (0, 0)) ≡ false = le-ltb COUNT _ (rw e at g) in
      let p : place too_many (drop i (held n s)) ≡ suc (place too_many (drop (suc i) (held n s))) = rw (rest, place, z) refl in
      rw add-one (omega (arith, inv, p))

  pub fails-here : COUNT < y → Some i ≡ narrowed_of (fails_at (held n s))
  unfolding place fails_at
  fails-here g =
      let z : too_many (get_or (terms s) i (0, 0)) ≡ true = lt-ltb COUNT _ (rw e at g) in
      let p : place too_many (drop i (held n s)) ≡ 0 = rw (rest, place, z) refl in
      let q : place too_many (held n s) ≡ i = omega (arith, inv, p) in
      rw (q, lt-ltb i (length (held n s)) long) refl

-- past the last entry
module _ (s : List ℕ) (n i : ℕ) (inv : Upto s n i) where
  fits-past : length (held n s) ≤ i → None ≡ narrowed_of (fails_at (held n s))
  unfolding place fails_at
  fits-past h =
      let p : place too_many (drop i (held n s)) ≡ 0 = rw (drop_of_length-le (held n s) {i = i} h) refl in
      let q : place too_many (held n s) ≡ i = omega (arith, inv, p) in
      rw (q, le-ltb i (length (held n s)) h) refl

  pub fits_all : min n (length s / 2) ≤ i → None ≡ narrowed_of (fails_at (held n s))
  fits_all h = fits-past (rw (length-take n (terms s)) (omega (arith, two-each s)))
