-- The turns of the scans over one or two monomials in buffers, and what filling leaves.
use mathlib.Core.Path.{◌≡◌, refl, sym, ap, ◌∙◌}
use mathlib.Core.Bool.{Bool, true, false}
use mathlib.Core.List.{List, [], ◌∷◌}
use Prim.Native.Nat.{ℕ, suc, ◌+◌, ◌*◌, ◌-◌, ◌≤◌, ◌<◌}
use native.Mathlib.Omega.{arith}
use native.Mathlib.Numerals.{add-one}
use borrow.Author.Tests.{lt-ltb, le-ltb, eq-eqb, ne_eqb}
use lib.Dec.{ltb, eqb}
use lib.ListN.{length, drop, get_or, set, drop_of_length-le}
use lib.Seq.{drop-cons, get_or-take}
use Rattle.spec.specs.Bytes.{Two, pick, same_two, same_twos}
use Rattle.spec.specs.Image.{NO-IDENTITY}
use Rattle.spec.specs.Monomial.{Monomial, insert_add, total, fails_at, COUNT}
use Rattle.skips.specs.Facts.{FULL, filled, count_at, most}
use Rattle.skips.specs.Levels.{count-narrow}
use Rattle.monomial_terms.specs.Terms.{terms, held, Holds}
use Rattle.monomial_terms.specs.TermLaws.{held-full, held-is, grow}
use Rattle.monomial.specs.Places.{Made}
use Rattle.narrowing.specs.Narrowing.{narrowed_of}
use Rattle.narrowing.specs.NarrowLaws.{fits-narrow, fails-narrow}
use Rattle.std.proofs.Common.{Some, None}
use Rattle.padding.specs.Pad.{level_by}
use Rattle.skipped_under.specs.Told.{put_facts}

-- ---- term i of n, and those behind it
module _ (s : List ℕ) (n i : ℕ) (l : 2 * n ≤ length s) where
  rest : i < n → drop i (held n s) ≡ get_or (terms s) i (0, 0) ∷ drop (suc i) (held n s)
  rest h = drop-cons (held n s) i (0, 0) (rw (held-full n s l) h) ∙ ap (λ (t : Two). t ∷ drop (suc i) (held n s)) (get_or-take n (terms s) i (0, 0) h)

  none : n ≤ i → drop i (held n s) ≡ []
  none h = drop_of_length-le (held n s) {i = i} (rw (held-full n s l) h)

-- ---- two terms: a, b, p and q are what was read
module _ (t u : Two) (a b : ℕ) (e : a ≡ t.0) (f : b ≡ u.0) where
  pub term-class : (a ≡ b → ⊥) → false ≡ same_two t u
  term-class n = rw (← e, ← f, ne_eqb a b n) refl

  pub term-count : (p q : ℕ) → a ≡ b → p ≡ t.1 → q ≡ u.1 → eqb p q ≡ same_two t u
  term-count p q h g k = rw (← e, ← f, eq-eqb a b h, ← g, ← k) refl

-- ---- two monomials
pub same-uneven : (l m : List Two) → (length l ≡ length m → ⊥) → same_twos l m ≡ false
unfolding same_twos
same-uneven [] [] h = absurd (h refl)
same-uneven [] (u ∷ m) h = refl
same-uneven (t ∷ l) [] h = refl
same-uneven (t ∷ l) (u ∷ m) h = step (same_two t u) refl (same-uneven l m (λ e. h (ap suc e)))
  where
    step : (b : Bool) → same_two t u ≡ b → same_twos l m ≡ false → same_twos (t ∷ l) (u ∷ m) ≡ false
    step true e ih = rw (same_twos, e) ih
    step false e ih = rw (same_twos, e) refl

pub same-lengths : (s u : List ℕ) (n m : ℕ) → 2 * n ≤ length s → 2 * m ≤ length u → (n ≡ m → ⊥) → false ≡ same_twos (held n s) (held m u)
same-lengths s u n m l k h = sym (same-uneven (held n s) (held m u) (λ e. h (sym (held-full n s l) ∙ e ∙ held-full m u k)))

-- so far they are the same
abbrev pub Alike : List ℕ → ℕ → List ℕ → ℕ → ℕ → Type 0
Alike s n u m i = same_twos (drop i (held n s)) (drop i (held m u)) ≡ same_twos (held n s) (held m u)

module _ (s u : List ℕ) (n m i : ℕ) (l : 2 * n ≤ length s) (k : 2 * m ≤ length u) (e : n ≡ m) (inv : Alike s n u m i) where
  module _ (b : Bool) (h : i < n) (q : b ≡ same_two (get_or (terms s) i (0, 0)) (get_or (terms u) i (0, 0))) where
    pub same_stop : b ≡ false → false ≡ same_twos (held n s) (held m u)
    unfolding same_twos
    same_stop z =
        let y : same_two (get_or (terms s) i (0, 0)) (get_or (terms u) i (0, 0)) ≡ false = sym q ∙ z in
        let w : same_twos (drop i (held n s)) (drop i (held m u)) ≡ false = rw (rest s n i l h, rest u m i k (omega arith), same_twos, y) refl in
        sym w ∙ inv

    pub same_more : b ≡ true → Alike s n u m (i + 1)
    unfolding same_twos
    same_more z =
        let y : same_two (get_or (terms s) i (0, 0)) (get_or (terms u) i (0, 0)) ≡ true = sym q ∙ z in
        let w : same_twos (drop i (held n s)) (drop i (held m u)) ≡ same_twos (drop (suc i) (held n s)) (drop (suc i) (held m u)) = rw (rest s n i l h, rest u m i k (omega arith), same_twos, y) refl in
        rw add-one (sym w ∙ inv)

  pub same_end : n ≤ i → true ≡ same_twos (held n s) (held m u)
  unfolding same_twos
  same_end h =
      let w : same_twos (drop i (held n s)) (drop i (held m u)) ≡ true = rw (none s n i l h, none u m i k (omega arith)) refl in
      sym w ∙ inv

-- ---- the count of a class: a and v are what was read of a term
module _ (t : Two) (a c : ℕ) (e : a ≡ t.0) where
  pub count-here : (v : ℕ) → a ≡ c → v ≡ t.1 → v ≡ pick (eqb t.0 c) t.1 0
  count-here v h q = rw (← e, eq-eqb a c h) q

  pub count-not : (a ≡ c → ⊥) → 0 ≡ pick (eqb t.0 c) t.1 0
  count-not n = rw (← e, ne_eqb a c n) refl

module _ (s : List ℕ) (n c i : ℕ) (l : 2 * n ≤ length s) (inv : count_at c (drop i (held n s)) ≡ count_at c (held n s)) where
  module _ (a : ℕ) (h : i < n) (e : a ≡ (get_or (terms s) i (0, 0)).0) where
    pub count-stop : (v : ℕ) → c ≤ a → v ≡ pick (eqb (get_or (terms s) i (0, 0)).0 c) (get_or (terms s) i (0, 0)).1 0 → v ≡ count_at c (held n s)
    unfolding count_at
    count-stop v g q =
        let y : ltb (get_or (terms s) i (0, 0)).0 c ≡ false = rw (← e) (le-ltb a c g) in
        let w : count_at c (drop i (held n s)) ≡ pick (eqb (get_or (terms s) i (0, 0)).0 c) (get_or (terms s) i (0, 0)).1 0 = rw (rest s n i l h, count_at, y) refl in
        q ∙ sym w ∙ inv

    pub count-more : a < c → count_at c (drop (i + 1) (held n s)) ≡ count_at c (held n s)
    unfolding count_at
    count-more g =
        let y : ltb (get_or (terms s) i (0, 0)).0 c ≡ true = rw (← e) (lt-ltb a c g) in
        let w : count_at c (drop i (held n s)) ≡ count_at c (drop (suc i) (held n s)) = rw (rest s n i l h, count_at, y) refl in
        rw add-one (sym w ∙ inv)

  pub count-end : n ≤ i → 0 ≡ count_at c (held n s)
  unfolding count_at
  count-end h =
      let w : count_at c (drop i (held n s)) ≡ 0 = rw (none s n i l h) refl in
      sym w ∙ inv

-- ---- the greatest total
module _ (m : Monomial) (e : ℕ) where
  pub count_fits : (k x : ℕ) → None ≡ narrowed_of (fails_at m) → x ≡ e → k ≡ count_at x m → k ≤ COUNT
  count_fits k x h q z = rw z (count-narrow x m (fits-narrow m h))

  pub most-fits : (k x a : ℕ) → None ≡ narrowed_of (fails_at m) → x ≡ e → k ≡ count_at x m → a ≡ total m → a + (COUNT - k) ≡ most e m
  unfolding most
  most-fits k x a h q z g = rw (fits-narrow m h, z, q, g) refl

  pub most-fails : (i : ℕ) → Some i ≡ narrowed_of (fails_at m) → 0 ≡ most e m
  unfolding most
  most-fails i h = rw (fails-narrow m i h) refl

-- ---- a monomial written
pub made-small : (m : Monomial) (s u : List ℕ) (n : ℕ) → Made m s u n → total (held n u) ≤ FULL
made-small m s u n d = rw (held-is m s u n d.holds) d.small

-- its facts put: y, a and b are what was read
pub put_is : (m : Monomial) (e x y a b i n : ℕ) (s u f f' : List ℕ) → Made m s u n → y ≡ x → a ≡ total (held n u) → b ≡ most e (held n u)
    → f' ≡ set (set (set f (4 * i) y) (4 * i + 1) a) (4 * i + 2) b → f' ≡ put_facts e m x i f
put_is m e x y a b i n s u f f' d p q r h = rw (p, q, r, held-is m s u n d.holds) at h

-- its total read, and filled
module _ (m : Monomial) (e a : ℕ) (s u v : List ℕ) (n r : ℕ) (d : Made m s u n) (q : a ≡ total (held n u)) (g : Holds (level_by e (held n u) a FULL) u v r) where
  wrote : held n u ≡ m
  wrote = held-is m s u n d.holds

  pub fill-held : held r v ≡ filled e m
  fill-held = held-is _ u v r g ∙ rw (q, wrote) refl

  pub fill-few : r ≤ 65
  fill-few = omega (arith, g.len, few (ltb a FULL) (eqb e NO-IDENTITY), ap length wrote, d.holds.len, d.few)
    where
      few : (p x : Bool) → length (pick p (pick x (held n u) (insert_add e (FULL - a) (held n u))) (held n u)) ≤ length (held n u) + 1
      few true true = omega arith
      few true false = (grow e (FULL - a) (held n u)).1
      few false x = omega arith
