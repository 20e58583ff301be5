-- The numbers in the work buffer.
use Rattle.std.specs.Prelude.{◌≡◌, refl, ◌≢◌, ◌⊎◌, Bool, true, false, List, [], ◌∷◌, ◌++◌, ℕ, zero, suc, ◌+◌, ◌*◌, ◌≤◌, ◌<◌, eqb, length, get_or, set, drop, replicate}
use Rattle.std.proofs.Common.{sym, ap, ◌∙◌, inl, inr, append_assoc, append-nil, not-suc-le-zero, eq-or-lt_of_le, arith, length-append, length-set, length-drop, get_or-set_same, get_or-set_other, ext_get_or, eqb-true, eq-eqb}
use Rattle.std.proofs.Math.Decide.{dec_lt}
use Rattle.std.proofs.lemmas.List.{length-replicate, get_or-replicate}
use Rattle.std.proofs.Math.ListN.{get_or-append, get_or-eq_default}
use Rattle.spec.specs.Bytes.{any, place, up_from}
use Rattle.spec.specs.Meaning.{In, here, there}
use Rattle.laws.specs.Lists.{in-nil, in-cons, in_left, in_right, in-append, Distinct, none, distinct-last, pigeon}
use Rattle.pools.specs.Pool.{get_d-last}
use Rattle.pools.specs.PoolIntern.{place-passes, place-first}
use Rattle.numbering.specs.Numbering.{order_from, order_in, settle, settle_all, cleared, Numbered, Walk}
use Rattle.numbering.specs.WalkLaws.{is_seen, not_seen}

-- ---- entries of a list of numbers
pub at_in : (l : List ℕ) (k : ℕ) → k < length l → In (get_or l k 0) l
at_in [] k h = absurd (not-suc-le-zero h)
at_in (x ∷ l) zero h = here
at_in (x ∷ l) (suc k) h = there (at_in l k (omega arith))

in-at : (a : ℕ) (l : List ℕ) → In a l → (k : ℕ) × (k < length l) × (get_or l k 0 ≡ a)
in-at a [] x' = elim x' [ ]
in-at a (x ∷ l) here = (0, omega arith, refl)
in-at a (x ∷ l) (there i) = let (k, h, e) = in-at a l i in (suc k, omega arith, e)

in-up : (n a b : ℕ) → a ≤ b → b < a + n → In b (up_from a n)
unfolding up_from
in-up zero a b h k = absurd (omega arith)
in-up (suc n) a b h k = elim (eq-or-lt_of_le {n = a} {m = b} h) [ inl e ↦ rw e here | inr l ↦ there (in-up n (suc a) b l (omega arith)) ]

length_up : (n a : ℕ) → length (up_from a n) ≡ n
unfolding up_from
length_up zero a = refl
length_up (suc n) a = ap suc (length_up n (suc a))

-- a number above 0 stands within the list
pub at-within : (w : List ℕ) (i : ℕ) → 0 < get_or w i 0 → i < length w
at-within w i h = go (dec_lt i (length w))
  where
    go : Dec (i < length w) → i < length w
    go (yes l) = l
    go (no l) = absurd (omega (arith, get_or-eq_default w 0 {n = i} (omega arith)))

-- distinct numbers below m are at most m
few-below : (m : ℕ) (l : List ℕ) → Distinct l → ((a : ℕ) → In a l → a < m) → length l ≤ m
few-below m l d h = let z = pigeon l (up_from 0 m) d (λ a i. in-up m 0 a (omega arith) (omega (arith, h a i))) in omega (arith, length_up m 0)

-- ---- the order
from-length : (n k : ℕ) (w : List ℕ) → length (order_from w k n) ≡ n
unfolding order_from
from-length zero k w = refl
from-length (suc n) k w = ap suc (from-length n (suc k) w)

from_at : (n k : ℕ) (w : List ℕ) (i : ℕ) → i < n → get_or (order_from w k n) i 0 ≡ get_or w (2 * (k + i) + 1) 0
unfolding order_from
from_at zero k w i h = absurd (not-suc-le-zero h)
from_at (suc n) k w zero h = let e : k + 0 ≡ k = omega arith in rw e refl
from_at (suc n) k w (suc i) h = let e : suc k + i ≡ k + suc i = omega arith in rw e at (from_at n (suc k) w i (omega arith))

pub order-length : (w : List ℕ) (n : ℕ) → length (order_in w n) ≡ n
order-length w n = from-length n 0 w

order-at : (w : List ℕ) (n i : ℕ) → i < n → get_or (order_in w n) i 0 ≡ get_or w (2 * i + 1) 0
order-at w n i h = let e : 0 + i ≡ i = omega arith in rw e at (from_at n 0 w i h)

module _ (m : ℕ) (w l : List ℕ) (N : Numbered m w l) where
  pub order_is : order_in w (length l) ≡ l
  order_is = ext_get_or 0 (order_in w (length l)) l (order-length w (length l))
      (λ i h. let q : i < length l = omega (arith, order-length w (length l)) in order-at w (length l) i q ∙ N.order i q)

  -- a listed term's number is its place in the list
  pub number_of : (a : ℕ) → In a l → get_or w (2 * a) 0 ≡ suc (place (eqb a) l)
  number_of a i =
      let (k, h, e) = in-at a l i in
      let b : place (eqb a) l < length l = omega (arith, place-first (eqb a) 0 l k h (eq-eqb a (get_or l k 0) (sym e))) in
      let q : a ≡ get_or l (place (eqb a) l) 0 = eqb-true a (get_or l (place (eqb a) l) 0) (place-passes (eqb a) 0 l b) in
      ap (λ (z : ℕ). get_or w (2 * z) 0) q ∙ N.number (place (eqb a) l) b

  pub place_at : (k : ℕ) → k < length l → place (eqb (get_or l k 0)) l ≡ k
  place_at k h = omega (arith, number_of (get_or l k 0) (at_in l k h), N.number k h)

  pub seen : (a : ℕ) → a < m → (get_or w (2 * a) 0 ≡ 0 → ⊥) → any (eqb a) l ≡ true
  seen a h n = go (any (eqb a) l) refl
    where
      go : (b : Bool) → any (eqb a) l ≡ b → any (eqb a) l ≡ true
      go true e = e
      go false e = absurd (n (N.others a h (not_seen a l e)))

  pub fresh : (a : ℕ) → get_or w (2 * a) 0 ≡ 0 → any (eqb a) l ≡ false
  fresh a n = go (any (eqb a) l) refl
    where
      go : (b : Bool) → any (eqb a) l ≡ b → any (eqb a) l ≡ false
      go true e = absurd (omega (arith, number_of a (is_seen a l e)))
      go false e = e

  pub few-listed : length l ≤ m
  few-listed = few-below m l N.once N.below

  -- there is a number for one more term
  pub one_more : (t : ℕ) → t < m → (In t l → ⊥) → length l < m
  one_more t h n =
      let z = few-below m (l ++ (t ∷ [])) (distinct-last l t N.once n) (λ a i. elim (in-append l i) [ inl j ↦ N.below a j | inr j ↦ elim (in-cons j) [ inl e ↦ rw e h | inr k ↦ absurd (in-nil k) ] ]) in
      omega (arith, length-append l (t ∷ []))

  module _ (t : ℕ) (h : t < m) (n : In t l → ⊥) where
    fits : 2 * length l + 1 < length (set w (2 * t) (length l + 1))
    fits = omega (arith, one_more t h n, N.room, length-set w (2 * t) (length l + 1))

    -- the two places that change
    at-term : get_or (settle w (length l) t) (2 * t) 0 ≡ suc (length l)
    at-term =
        get_or-set_other (set w (2 * t) (length l + 1)) (2 * length l + 1) (2 * t) t 0 (λ e. omega arith)
        ∙ get_or-set_same w (2 * t) (length l + 1) 0 (omega (arith, N.room)) ∙ (let e : length l + 1 ≡ suc (length l) = omega arith in e)

    at-order : get_or (settle w (length l) t) (2 * length l + 1) 0 ≡ t
    at-order = get_or-set_same (set w (2 * t) (length l + 1)) (2 * length l + 1) t 0 fits

    other : (i : ℕ) → i ≢ 2 * t → i ≢ 2 * length l + 1 → get_or (settle w (length l) t) i 0 ≡ get_or w i 0
    other i d e = get_or-set_other (set w (2 * t) (length l + 1)) (2 * length l + 1) i t 0 e ∙ get_or-set_other w (2 * t) i (length l + 1) 0 d

    cases : (k : ℕ) → k < length (l ++ (t ∷ [])) → (k ≡ length l) ⊎ (k < length l)
    cases k q = eq-or-lt_of_le {n = k} {m = length l} (omega (arith, length-append l (t ∷ [])))

    order-new : (k : ℕ) → (k ≡ length l) ⊎ (k < length l) → get_or (settle w (length l) t) (2 * k + 1) 0 ≡ get_or (l ++ (t ∷ [])) k 0
    order-new k (inl e) = rw e (at-order ∙ sym (get_d-last l t 0))
    order-new k (inr q) = other (2 * k + 1) (λ e. omega arith) (λ e. omega arith) ∙ N.order k q ∙ sym (get_or-append l (t ∷ []) 0 k q)

    number-new : (k : ℕ) → (k ≡ length l) ⊎ (k < length l) → get_or (settle w (length l) t) (2 * get_or (l ++ (t ∷ [])) k 0) 0 ≡ suc k
    number-new k (inl e) = rw e (ap (λ (z : ℕ). get_or (settle w (length l) t) (2 * z) 0) (get_d-last l t 0) ∙ at-term)
    number-new k (inr q) =
        let differ : get_or l k 0 ≢ t = λ e. n (rw e at (at_in l k q)) in
        ap (λ (z : ℕ). get_or (settle w (length l) t) (2 * z) 0) (get_or-append l (t ∷ []) 0 k q) ∙ other (2 * get_or l k 0) (λ e. differ (omega arith)) (λ e. omega arith) ∙ N.number k q

    pub numbered_more : Numbered m (settle w (length l) t) (l ++ (t ∷ []))
    numbered_more = record {
      room = omega (arith, N.room, length-set (set w (2 * t) (length l + 1)) (2 * length l + 1) t, length-set w (2 * t) (length l + 1));
      few = N.few;
      once = distinct-last l t N.once n;
      below = λ a i. elim (in-append l i) [ inl j ↦ N.below a j | inr j ↦ elim (in-cons j) [ inl e ↦ rw e h | inr k ↦ absurd (in-nil k) ] ];
      order = λ k q. order-new k (cases k q);
      number = λ k q. number-new k (cases k q);
      others = λ a q f. other (2 * a) (λ e. f (in_right l (let z : a ≡ t = omega arith in rw z here))) (λ e. omega arith) ∙ N.others a q (λ i. f (in_left (t ∷ []) i));
    }

-- ---- walks one after the other
settle-append : (l k w : List ℕ) (n : ℕ) → settle_all n (l ++ k) w ≡ settle_all (n + length l) k (settle_all n l w)
unfolding settle_all
settle-append [] k w n = let e : n ≡ n + 0 = omega arith in ap (λ (z : ℕ). settle_all z k w) e
settle-append (a ∷ l) k w n = let e : suc n + length l ≡ n + suc (length l) = omega arith in settle-append l k (settle w n a) (suc n) ∙ ap (λ (z : ℕ). settle_all z k (settle_all (suc n) l (settle w n a))) e

settle-length : (l w : List ℕ) (n : ℕ) → length (settle_all n l w) ≡ length w
unfolding settle_all
settle-length [] w n = refl
settle-length (a ∷ l) w n = omega (arith, settle-length l (settle w n a) (suc n), length-set (set w (2 * a) (n + 1)) (2 * n + 1) a, length-set w (2 * a) (n + 1))

pub walk-length : {m : ℕ} {v k w l : List ℕ} → Walk m v k w l → length w ≡ length v
walk-length {v = v} {k = k} A = ap length A.wrote ∙ settle-length A.new v (length k)

pub walk_none : {m : ℕ} {w l : List ℕ} → Numbered m w l → Walk m w l w l
unfolding settle_all
walk_none {l = l} N = record { numbered = N; new = []; grown = sym (append-nil l); wrote = refl }

pub walk-then : {m : ℕ} {v k w l x j : List ℕ} → Walk m v k w l → Walk m w l x j → Walk m v k x j
walk-then {v = v} {k = k} {l = l} A B = record {
  numbered = B.numbered;
  new = A.new ++ B.new;
  grown = B.grown ∙ ap (λ (z : List ℕ). z ++ B.new) A.grown ∙ append_assoc k A.new B.new;
  wrote =
      let e : length l ≡ length k + length A.new = ap length A.grown ∙ length-append k A.new in
      B.wrote ∙ ap (λ (z : List ℕ). settle_all (length l) B.new z) A.wrote ∙ ap (λ (z : ℕ). settle_all z B.new (settle_all (length k) A.new v)) e ∙ sym (settle-append A.new B.new v (length k));
}

pub walk_more : {m : ℕ} {v k w l : List ℕ} (t : ℕ) → Walk m v k w l → t < m → (In t l → ⊥) → Walk m v k (settle w (length l) t) (l ++ (t ∷ []))
unfolding settle_all
walk_more {m = m} {w = w} {l = l} t A h n = walk-then A (record { numbered = numbered_more m w l A.numbered t h n; new = t ∷ []; grown = refl; wrote = refl })

-- a cleared buffer
pub numbered-none : (m : ℕ) (w : List ℕ) → m ≤ 16384 → 2 * m ≤ length w → Numbered m (cleared (2 * m) w) []
numbered-none m w f r = record {
  room = omega (arith, length-append (replicate (2 * m) 0) (drop (2 * m) w), length-replicate {A = ℕ} (2 * m) 0, length-drop (2 * m) w);
  few = f;
  once = none;
  below = λ a i. absurd (in-nil i);
  order = λ k h. absurd (not-suc-le-zero h);
  number = λ k h. absurd (not-suc-le-zero h);
  others = λ a h i. get_or-append (replicate (2 * m) 0) (drop (2 * m) w) 0 (2 * a) (omega (arith, length-replicate {A = ℕ} (2 * m) 0)) ∙ get_or-replicate (2 * m) (2 * a) 0 0 (omega arith);
}
