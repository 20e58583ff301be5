-- The answers of add_child, one law for each way out.
use mathlib.Core.Path.{◌≡◌, refl, sym, ap, ◌∙◌}
use mathlib.Core.Bool.{Bool, true, false}
use mathlib.Core.List.{List}
use Prim.Native.Nat.{ℕ, ◌+◌, ◌*◌, ◌/◌, ◌≤◌, ◌<◌, ◌^◌}
use native.Mathlib.Omega.{arith}
use borrow.Author.Tests.{lt-ltb, le-ltb, leb-true, leb-false}
use lib.Dec.{ltb, leb}
use lib.ListN.{length}
use Rattle.spec.specs.Bytes.{Two, pick}
use Rattle.spec.specs.Monomial.{Monomial, insert_add, monomial}
use Rattle.laws.specs.Tests.{clash}
use Rattle.laws.specs.Monomials.{monomial-more}
use Rattle.monomial_terms.specs.Terms.{rest, held, position, Holds}
use Rattle.monomial_terms.specs.TermLaws.{two-each, same-buffer, held-full}
use Rattle.class_place.specs.Standing.{places, stands, count_there}
use Rattle.class_place.specs.StandingLaws.{half-places}
use Rattle.child_list.specs.Adding.{count_with, added_of, laid, list_after, terms_after, read_after, Adds, Fits}
use Rattle.child_list.specs.AddLaws.{laid-terms, laid-rest, held-laid, hit-length, miss-length, hit-count, miss-count}
use Rattle.std.proofs.Common.{Result, Ok, Err}
use Rattle.child_list.specs.declared.Unadded.{Unadded}
use Rattle.child_list.specs.declared.Unadded.TheVariants.{Full, Overflow}

-- ---- a refusal leaves the list as it was
refused_as : (n c k : ℕ) (s : List ℕ) (r : Result ℕ Unadded) → r ≡ added_of n c k s → list_after r n c k s ≡ s → ((l : List Two) → held n s ≡ monomial l → held (terms_after r n) s ≡ monomial (read_after r c k l)) → Adds n c k s s r
refused_as n c k s r e f g = record { answer = e; list = rw (← e) (sym f); monomial-of = g }

-- the n terms have no places
pub adds-unlisted : (n c k : ℕ) (s : List ℕ) → length s / 2 < n → Adds n c k s s (Err Full)
unfolding added_of
adds-unlisted n c k s h = refused_as n c k s (Err Full) (sym (rw (lt-ltb (places s) n (omega (arith, half-places s))) refl)) refl (λ l e. e)

-- the n terms have places
module _ (n c k : ℕ) (s : List ℕ) (h : n ≤ length s / 2) where
  listed : 2 * n ≤ length s
  listed = omega (arith, two-each s)

  few : ltb (places s) n ≡ false
  few = le-ltb (places s) n (omega (arith, half-places s))

  len : length (held n s) ≡ n
  len = held-full n s listed

  pub adds-full : (x : Bool) → x ≡ pick (stands c (held n s)) false (leb (places s) n) → x ≡ true → Adds n c k s s (Err Full)
  unfolding added_of
  adds-full x e t = step (stands c (held n s)) refl (sym e ∙ t)
    where
      step : (b : Bool) → stands c (held n s) ≡ b → pick b false (leb (places s) n) ≡ true → Adds n c k s s (Err Full)
      step true q f = absurd (clash (sym f))
      step false q f =
          let g : places s < length (insert_add c k (held n s)) = omega (arith, leb-true (places s) n f, miss-length c k (held n s) q, len) in
          refused_as n c k s (Err Full) (sym (rw (few, lt-ltb (places s) (length (insert_add c k (held n s))) g) refl)) refl (λ l e. e)

  -- there is a place for it
  module _ (x : Bool) (e : x ≡ pick (stands c (held n s)) false (leb (places s) n)) (t : x ≡ false) where
    new-place : stands c (held n s) ≡ false → n < places s
    new-place q = let f : leb (places s) n ≡ false = rw q at (sym e ∙ t) in omega (arith, leb-false (places s) n f)

    fits : length (insert_add c k (held n s)) ≤ places s
    fits = step (stands c (held n s)) refl
      where
        step : (b : Bool) → stands c (held n s) ≡ b → length (insert_add c k (held n s)) ≤ places s
        step true q = omega (arith, hit-length c k (held n s) q, len, half-places s)
        step false q = omega (arith, miss-length c k (held n s) q, len, new-place q)

    placed : ltb (places s) (length (insert_add c k (held n s))) ≡ false
    placed = le-ltb (places s) (length (insert_add c k (held n s))) fits

    pub adds-overflow : (y : Bool) → y ≡ pick (stands c (held n s)) (leb (2 ^ 64) (count_there c (held n s) + k)) false → y ≡ true → Adds n c k s s (Err Overflow)
    unfolding added_of
    adds-overflow y f u = step (stands c (held n s)) refl (sym f ∙ u)
      where
        step : (b : Bool) → stands c (held n s) ≡ b → pick b (leb (2 ^ 64) (count_there c (held n s) + k)) false ≡ true → Adds n c k s s (Err Overflow)
        step true q g =
            let w : 2 ^ 64 ≤ count_with c k (held n s) = omega (arith, leb-true (2 ^ 64) (count_there c (held n s) + k) g, hit-count c k (held n s) q) in
            refused_as n c k s (Err Overflow) (sym (rw (few, placed, le-ltb (count_with c k (held n s)) (2 ^ 64) w) refl)) refl (λ l e. e)
        step false q g = absurd (clash (sym g))

    -- and its count has 64 bits
    module _ (b : k < 2 ^ 64) (y : Bool) (f : y ≡ pick (stands c (held n s)) (leb (2 ^ 64) (count_there c (held n s) + k)) false) (u : y ≡ false) where
      there-fits : stands c (held n s) ≡ true → count_there c (held n s) + k < 2 ^ 64
      there-fits q = let g : leb (2 ^ 64) (count_there c (held n s) + k) ≡ false = rw q at (sym f ∙ u) in leb-false (2 ^ 64) (count_there c (held n s) + k) g

      counted : count_with c k (held n s) < 2 ^ 64
      counted = step (stands c (held n s)) refl
        where
          step : (d : Bool) → stands c (held n s) ≡ d → count_with c k (held n s) < 2 ^ 64
          step true q = omega (arith, hit-count c k (held n s) q, there-fits q)
          step false q = omega (arith, miss-count c k (held n s) q)

      pub fits-at : (p : ℕ) → p ≡ position c (held n s) → p ≤ n → Fits n p c k s
      fits-at p g w = record { listed = listed; place = g; within = w; room = λ q. omega (arith, new-place q, two-each s); count = there-fits }

      pub adds-held : (s' : List ℕ) (m : ℕ) → Holds (insert_add c k (held n s)) s s' m × (rest s' ≡ rest s) → Adds n c k s s' (Ok m)
      unfolding added_of
      adds-held s' m (g, w) =
          let M : Monomial = insert_add c k (held n s) in
          let q : added_of n c k s ≡ Ok (length M) = rw (few, placed, lt-ltb (count_with c k (held n s)) (2 ^ 64) counted) refl in
          let z : s' ≡ laid M s = same-buffer s' (laid M s) (g.whole ∙ sym (laid-terms M s fits)) (w ∙ sym (laid-rest M s fits)) in
          record {
            answer = ap Ok g.len ∙ sym q;
            list = rw q z;
            monomial-of = λ l o. rw (z, g.len) (held-laid M s fits ∙ ap (insert_add c k) o ∙ sym (monomial-more l (c, k)));
          }
