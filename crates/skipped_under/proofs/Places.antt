-- The walk over the places of a class, and the buffer that tells them.
use mathlib.Core.Path.{◌≡◌, refl, sym, ap, ◌∙◌}
use mathlib.Core.Logic.{◌⊎◌, ◌≢◌, inl, inr}
use mathlib.Core.Bool.{Bool, true}
use mathlib.Core.List.{List, [], ◌∷◌, map}
use Prim.Native.Nat.{ℕ, zero, suc, ◌+◌, ◌*◌, ◌≤◌, ◌<◌}
use native.Mathlib.Nat.{eq-or-lt_of_le}
use native.Mathlib.Omega.{arith}
use native.Mathlib.Numerals.{add-one}
use lib.ListN.{length, drop, get_or, set, length-set, length-drop, length-map}
use lib.Seq.{drop-cons, get_or-set_same, get_or-set_other}
use Rattle.spec.specs.Image.{Tables, tables_of, the_class}
use Rattle.spec.specs.Monomial.{Monomial, total, monomials_of}
use Rattle.laws.specs.Firsts.{passing, first_from, First, found, passing-stop, passing-end, first-within}
use Rattle.skips.specs.Facts.{FULL, most, kin, FactsOf}
use Rattle.skips.specs.Members.{Low}
use Rattle.laws.specs.Valid.{Valid}
use Rattle.image.specs.Loaded.{Loaded}
use Rattle.image.specs.declared.Image.{Image}
use Rattle.image.specs.declared.Span.{Span}
use Rattle.classes.specs.Spans.{member_span}
use Rattle.ac_ops.specs.AcOps.{end_of, span-within}
use Rattle.ac_repr.specs.Walk.{has_place, places_from}
use Rattle.monomial.specs.Places.{monomial_at}
use Rattle.ac_monomials.specs.Transports.{monomials-places}
use Rattle.skipped_pairs.specs.Held.{place_in, facts_in}
use Rattle.skipped_under.specs.Told.{places_of, put_facts, Told}

-- ---- the walk: n places are passed, and x is the next one
pub record Walked (P : ℕ → Bool) (ps : List ℕ) (end n x : ℕ) : Type 0 where
  pub rest : drop n ps ≡ passing P x (suc end)
  pub hits : x < suc end → P x ≡ true
  pub low : n ≤ x
  pub high : x ≤ suc end
  pub few : n ≤ length ps

pub walk_start : (t : Tables) (c o x first end : ℕ) → first ≡ (the_class t c).first → end ≡ end_of t c → x ≡ first_from (has_place t end o) first (suc end)
    → Walked (has_place t end o) (places_of t c o) end 0 x
unfolding places_from
walk_start t c o x first end a b z =
    let d : First (has_place t end o) first (suc end) x = found (has_place t end o) first (suc end) x z in
    record {
      rest = rw (← b, ← a) d.same;
      hits = d.hits;
      low = omega arith;
      high = rw z (first-within (has_place t end o) first (suc end) (omega arith));
      few = omega arith;
    }

module _ (P : ℕ → Bool) (ps : List ℕ) (end n x : ℕ) (w : Walked P ps end n x) where
  module _ (h : x ≤ end) where
    here : drop n ps ≡ x ∷ passing P (suc x) (suc end)
    here = w.rest ∙ passing-stop P x (suc end) (omega arith) (w.hits (omega arith))

    inside : n < length ps
    inside = let z : length (drop n ps) ≡ suc (length (passing P (suc x) (suc end))) = ap length here in omega (arith, z, length-drop n ps)

    split : get_or ps n 0 ∷ drop (suc n) ps ≡ x ∷ passing P (suc x) (suc end)
    split = sym (drop-cons ps n 0 inside) ∙ here

    pub place_is : x ≡ get_or ps n 0
    place_is = let z : get_or ps n 0 ∷ drop (suc n) ps ≡ x ∷ passing P (suc x) (suc end) = split in cc

    behind : drop (suc n) ps ≡ passing P (suc x) (suc end)
    behind = let z : get_or ps n 0 ∷ drop (suc n) ps ≡ x ∷ passing P (suc x) (suc end) = split in cc

    module _ (y : ℕ) (z : y ≡ first_from P (x + 1) (suc end)) where
      pub walk-rises : x < y
      walk-rises = omega (arith, (found P (x + 1) (suc end) y z).low)

      pub walk_more : Walked P ps end (n + 1) y
      walk_more =
          let d : First P (x + 1) (suc end) y = found P (x + 1) (suc end) y z in
          record {
            rest = rw add-one behind ∙ rw add-one at d.same;
            hits = d.hits;
            low = omega (arith, d.low, w.low);
            high = rw z (first-within P (x + 1) (suc end) (omega arith));
            few = omega (arith, inside);
          }

  pub walk_end : end < x → n ≡ length ps
  walk_end h =
      let z : length (drop n ps) ≡ 0 = ap length (w.rest ∙ passing-end P x (suc end) h) in
      omega (arith, z, length-drop n ps, w.few)

-- the members end at 1,024 at most
pub span-few : (s : List ℕ) (im : Image) (c : ℕ) (p : Span) → Loaded s im → Valid (tables_of s) → c < im.classes → p ≡ member_span (the_class (tables_of s) c) → p.to ≤ 1024
span-few s im c p l v h e = omega (arith, span-within s im c p l v h e, v.counts.few_members)

-- ---- three numbers written
module _ (f : List ℕ) (n x a b : ℕ) (h : 4 * n + 3 < length f) where
  abbrev put : List ℕ
  put = set (set (set f (4 * n) x) (4 * n + 1) a) (4 * n + 2) b

  long : length (set f (4 * n) x) ≡ length f
  long = length-set f (4 * n) x

  longer : length (set (set f (4 * n) x) (4 * n + 1) a) ≡ length f
  longer = length-set (set f (4 * n) x) (4 * n + 1) a ∙ long

  put_other : (j : ℕ) → j ≢ 4 * n → j ≢ 4 * n + 1 → j ≢ 4 * n + 2 → get_or put j 0 ≡ get_or f j 0
  put_other j p q r =
      get_or-set_other (set (set f (4 * n) x) (4 * n + 1) a) (4 * n + 2) j b 0 r
      ∙ get_or-set_other (set f (4 * n) x) (4 * n + 1) j a 0 q
      ∙ get_or-set_other f (4 * n) j x 0 p

  put-place : get_or put (4 * n) 0 ≡ x
  put-place =
      get_or-set_other (set (set f (4 * n) x) (4 * n + 1) a) (4 * n + 2) (4 * n) b 0 (λ e. omega arith)
      ∙ get_or-set_other (set f (4 * n) x) (4 * n + 1) (4 * n) a 0 (λ e. omega arith)
      ∙ get_or-set_same f (4 * n) x 0 (omega arith)

  put-total : get_or put (4 * n + 1) 0 ≡ a
  put-total =
      get_or-set_other (set (set f (4 * n) x) (4 * n + 1) a) (4 * n + 2) (4 * n + 1) b 0 (λ e. omega arith)
      ∙ get_or-set_same (set f (4 * n) x) (4 * n + 1) a 0 (omega (arith, long))

  put-most : get_or put (4 * n + 2) 0 ≡ b
  put-most = get_or-set_same (set (set f (4 * n) x) (4 * n + 1) a) (4 * n + 2) b 0 (omega (arith, longer))

-- ---- places told
pub told_none : (e : ℕ) (M : ℕ → Monomial) (ps f : List ℕ) → Told e M ps 0 0 f
told_none e M ps f = record {
  places = λ i h. absurd (omega arith);
  totals = λ i h. absurd (omega arith);
  mosts = λ i h. absurd (omega arith);
  small = λ i h. absurd (omega arith);
  kins = λ i h. absurd (omega arith);
}

module _ (e : ℕ) (M : ℕ → Monomial) (ps : List ℕ) (n x : ℕ) (f f' : List ℕ) (h : 4 * n + 3 < length f) (q : x ≡ get_or ps n 0) (z : f' ≡ put_facts e (M x) x n f)
    (s : total (M x) ≤ FULL) (d : Told e M ps n 0 f) where
  pub told_more : Told e M ps (n + 1) 0 f'
  told_more =
      rw z
      (record {
        places = λ i l. place i (eq-or-lt_of_le {n = i} {m = n} (omega arith));
        totals = λ i l. all i (eq-or-lt_of_le {n = i} {m = n} (omega arith));
        mosts = λ i l. upto i (eq-or-lt_of_le {n = i} {m = n} (omega arith));
        small = λ i l. little i (eq-or-lt_of_le {n = i} {m = n} (omega arith));
        kins = λ i l. absurd (omega arith);
      })
    where
      place : (i : ℕ) → (i ≡ n) ⊎ (i < n) → place_in (put_facts e (M x) x n f) i ≡ get_or ps i 0
      place i (inl p) = rw p (put-place f n x (total (M x)) (most e (M x)) h ∙ q)
      place i (inr p) = put_other f n x (total (M x)) (most e (M x)) h (4 * i) (λ r. omega arith) (λ r. omega arith) (λ r. omega arith) ∙ d.places i p

      all : (i : ℕ) → (i ≡ n) ⊎ (i < n) → (facts_in (put_facts e (M x) x n f)).total i ≡ total (M (get_or ps i 0))
      all i (inl p) = rw (p, ← q) (put-total f n x (total (M x)) (most e (M x)) h)
      all i (inr p) = put_other f n x (total (M x)) (most e (M x)) h (4 * i + 1) (λ r. omega arith) (λ r. omega arith) (λ r. omega arith) ∙ d.totals i p

      upto : (i : ℕ) → (i ≡ n) ⊎ (i < n) → (facts_in (put_facts e (M x) x n f)).most i ≡ most e (M (get_or ps i 0))
      upto i (inl p) = rw (p, ← q) (put-most f n x (total (M x)) (most e (M x)) h)
      upto i (inr p) = put_other f n x (total (M x)) (most e (M x)) h (4 * i + 2) (λ r. omega arith) (λ r. omega arith) (λ r. omega arith) ∙ d.mosts i p

      little : (i : ℕ) → (i ≡ n) ⊎ (i < n) → total (M (get_or ps i 0)) ≤ FULL
      little i (inl p) = rw (p, ← q) s
      little i (inr p) = d.small i p

-- ---- an entry of a list's image
pub map_at : {B : Type 0} (M : ℕ → B) (d : B) (ps : List ℕ) (i : ℕ) → i < length ps → get_or (map M ps) i d ≡ M (get_or ps i 0)
map_at M d [] i h = absurd (omega arith)
map_at M d (p ∷ ps) zero h = refl
map_at M d (p ∷ ps) (suc i) h = map_at M d ps i (omega arith)

-- ---- all told: the facts of the class's monomials
module _ (t : Tables) (c o e n : ℕ) (f : List ℕ) (b : end_of t c ≤ length t.members) (q : n ≡ length (places_of t c o)) (d : Told e (monomial_at t c) (places_of t c o) n n f) where
  abbrev ms : List Monomial
  ms = map (monomial_at t c) (places_of t c o)

  is : monomials_of t c o ≡ map (monomial_at t c) (places_of t c o)
  is = monomials-places t c o b

  many : length (map (monomial_at t c) (places_of t c o)) ≡ n
  many = length-map (places_of t c o) (monomial_at t c) ∙ sym q

  at : (i : ℕ) → i < n → get_or (map (monomial_at t c) (places_of t c o)) i [] ≡ monomial_at t c (get_or (places_of t c o) i 0)
  at i h = map_at (monomial_at t c) [] (places_of t c o) i (omega arith)

  pub all-many : n ≡ length (monomials_of t c o)
  all-many = rw is (sym many)

  pub all-facts : FactsOf e (monomials_of t c o) (facts_in f)
  all-facts =
      rw is
      (record {
        totals = λ i h. let l : i < n = omega (arith, many) in d.totals i l ∙ ap total (sym (at i l));
        mosts = λ i h. let l : i < n = omega (arith, many) in d.mosts i l ∙ ap (most e) (sym (at i l));
        kins = λ i h. let l : i < n = omega (arith, many) in d.kins i l ∙ ap (kin e ms) (sym (at i l));
      })

  pub all-low : Low (monomials_of t c o)
  all-low = rw is (λ i h. let l : i < n = omega (arith, many) in rw (at i l) (d.small i l))
