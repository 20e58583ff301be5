-- A list or marked place closed on the words of a buffer.
use Rattle.std.specs.Prelude.{Option, Some, None, ◌≡◌, Bool, List, [], ◌∷◌, map, ltb, eqb}
use Rattle.std.proofs.Math.Path.{refl, ap}
use Rattle.std.proofs.Common.{◌∙◌, eq-or-lt_of_le}
use Rattle.std.proofs.Math.Logic.{inl, inr}
use Rattle.std.proofs.Math.Bool.{true, false}
use Prim.Native.Nat.{ℕ, zero, suc, ◌+◌, ◌-◌, ◌/◌, ◌%◌, ◌≤◌, ◌<◌}
use native.Mathlib.Omega.{arith}
use Rattle.std.proofs.Math.Dec.{leb}
use borrow.Author.Tests.{lt-leb, leb-true, leb-false, ltb-true, eqb-true}
use Rattle.std.proofs.Math.ListN.{get_or}
use Rattle.spec.specs.Bytes.{Limits, Two, pick}
use Rattle.spec.specs.Pool.{Pool}
use Rattle.terms.specs.Buffers.{count_in, part, unpack}
use Rattle.terms.specs.PartLaws.{part-cons, part-over}
use Rattle.card_terms.specs.Words.{Reached, Word, bracket, list_head, marked_head, child, Stack, intern_on, close_on, word_of, words_in}
use Rattle.card_terms.specs.Reading.{HeadFormed, head_node, Items, WordsBelow, Closes, Heads, Standing, Steps, StandingAt}
use Rattle.card_terms.specs.StandLaws.{word-left, word-child, words-top}

-- ---- the scan down to the head
pub record Scanning (frames : List ℕ) (top i : ℕ) : Type 0 where
  pub inside : i ≤ top
  pub closes : Closes (words_in frames i)
  pub items : (j : ℕ) → i ≤ j → j < top → (16384 ≤ get_or frames j 0) × (get_or frames j 0 < 32768)
  pub same : (lim : Limits) (p : Pool) → close_on lim p (words_in frames top) [] ≡ close_on lim p (words_in frames i) (map unpack (part frames i (top - i)))

-- the head's number
formed-by : (x : ℕ) (w : List Word) → (a : Bool) → ltb x 64 ≡ a → (b : Bool) → eqb x 128 ≡ b → Closes (pick a (list_head x) (pick b marked_head bracket) ∷ w)
    → HeadFormed x × ((lim : Limits) (p : Pool) (l : List Two) → close_on lim p (pick a (list_head x) (pick b marked_head bracket) ∷ w) l ≡ intern_on lim p (head_node x l) w)
unfolding Closes close_on
formed-by x w true e b f h =
    let q : x < 64 = ltb-true x 64 e in
    let c : x / 64 ≡ 0 = omega arith in
    let d : x % 64 ≡ x = omega arith in
    (inl q, λ lim p l. rw (c, d) refl)
formed-by x w false e true f h =
    let q : x ≡ 128 = eqb-true x 128 f in
    (inr q, λ lim p l. rw q refl)
formed-by x w false e false f h = absurd h

head-closes : (x : ℕ) (w : List Word) → x < 16384 → Closes (word_of x ∷ w) → HeadFormed x × ((lim : Limits) (p : Pool) (l : List Two) → close_on lim p (word_of x ∷ w) l ≡ intern_on lim p (head_node x l) w)
head-closes x w h = rw (lt-leb 32768 x (omega arith), lt-leb 16384 x h) (formed-by x w (ltb x 64) refl (eqb x 128) refl)

module _ (frames : List ℕ) (top : ℕ) where
  pub scan-start : Closes (words_in frames top) → Scanning frames top top
  unfolding part
  scan-start h = record { inside = omega arith; closes = h; items = λ j a b. absurd (omega arith); same = λ lim p. rw (part-over frames top top (omega arith)) refl }

  module _ (i : ℕ) (R : Scanning frames top i) where
    pub scan-some : 0 < i
    unfolding Closes words_in
    scan-some = go i R.closes
      where
        go : (n : ℕ) → Closes (words_in frames n) → 0 < n
        go zero h = absurd h
        go (suc n) h = omega arith

    here : Closes (word_of (get_or frames (i - 1) 0) ∷ words_in frames (i - 1))
    here = rw (words-top frames i scan-some) at R.closes

    small : get_or frames (i - 1) 0 < 32768
    unfolding Closes
    small = go (leb 32768 (get_or frames (i - 1) 0)) refl
      where
        go : (z : Bool) → leb 32768 (get_or frames (i - 1) 0) ≡ z → get_or frames (i - 1) 0 < 32768
        go true e = absurd (rw (word-left (get_or frames (i - 1) 0) (leb-true _ _ e)) at here)
        go false e = leb-false _ _ e

    pub scan-turn : 16384 ≤ get_or frames (i - 1) 0 → Scanning frames top (i - 1)
    unfolding Closes close_on
    scan-turn h =
        let z = scan-some in
        let x = get_or frames (i - 1) 0 in
        let w : words_in frames i ≡ child (get_or frames (i - 1) 0 - 16384) ∷ words_in frames (i - 1) = words-top frames i z ∙ ap (λ (a : Word). a ∷ words_in frames (i - 1)) (word-child (get_or frames (i - 1) 0) h small) in
        let e : i - 1 + 1 ≡ i = omega arith in
        let more : part frames (i - 1) (top - (i - 1)) ≡ get_or frames (i - 1) 0 ∷ part frames i (top - i) = rw e at (part-cons frames (i - 1) top (omega (arith, R.inside))) in
        let a : get_or frames (i - 1) 0 % 16384 ≡ get_or frames (i - 1) 0 - 16384 = omega (arith, small) in
        let b : get_or frames (i - 1) 0 / 16384 ≡ 1 = omega (arith, small) in record {
          inside = omega (arith, R.inside);
          closes = rw w at R.closes;
          items = items';
          same = λ lim p. R.same lim p ∙ rw (w, more, a, b) refl;
        }
      where
        items' : (j : ℕ) → i - 1 ≤ j → j < top → (16384 ≤ get_or frames j 0) × (get_or frames j 0 < 32768)
        items' j a b = elim (eq-or-lt_of_le {n = i - 1} {m = j} a) [ inl e ↦ rw (← e) (h, small) | inr l ↦ R.items j (omega arith) b ]

    pub scan-end : get_or frames (i - 1) 0 < 16384 → Heads frames top i
    scan-end h =
        let (f, g) = head-closes (get_or frames (i - 1) 0) (words_in frames (i - 1)) h here in record {
          some = scan-some;
          inside = R.inside;
          formed = f;
          items = R.items;
          closed = λ lim p. R.same lim p ∙ ap (λ (w : List Word). close_on lim p w (map unpack (part frames i (top - i)))) (words-top frames i scan-some) ∙ g lim p (map unpack (part frames i (top - i)));
        }

-- ---- the list or marked place closed
below-lower : (N : ℕ) (frames : List ℕ) (d k : ℕ) → WordsBelow N (words_in frames (k + d)) → WordsBelow N (words_in frames k)
unfolding WordsBelow words_in
below-lower N frames zero k b = let e : k + 0 ≡ k = omega arith in rw e at b
below-lower N frames (suc d) k b = let e : k + suc d ≡ suc (k + d) = omega arith in below-lower N frames d k (rw e at b).1

pub below-part : (N : ℕ) (frames : List ℕ) (n k : ℕ) → k ≤ n → WordsBelow N (words_in frames n) → WordsBelow N (words_in frames k)
below-part N frames n k h b = let e : k + (n - k) ≡ n = omega arith in below-lower N frames (n - k) k (rw e b)

below-items : (N : ℕ) (frames : List ℕ) (d k : ℕ) → ((j : ℕ) → k ≤ j → j < k + d → (16384 ≤ get_or frames j 0) × (get_or frames j 0 < 32768)) → WordsBelow N (words_in frames (k + d)) → Items N (part frames k d)
unfolding WordsBelow Items part words_in
below-items N frames zero k h b = tt
below-items N frames (suc d) k h b =
    let (x, y) = h k (omega arith) (omega arith) in
    let e : suc k + d ≡ k + suc d = omega arith in
    let f : k + suc d ≡ k + d + 1 = omega arith in
    let g : WordsBelow N (words_in frames (suc k)) = below-part N frames (k + suc d) (suc k) (omega arith) b in
    let z : get_or frames k 0 - 16384 < N = (rw (word-child (get_or frames k 0) x y) at g).0 in
    ((x, y, omega arith), below-items N frames d (suc k) (λ j p q. h j (omega arith) (omega arith)) (rw e b))

module _ (lim : Limits) (terms runs frames : List ℕ) (top r : ℕ) (Z : Standing lim terms runs frames top) (H : Heads frames top r) where
  pub head-stands : Standing lim terms runs frames (r - 1)
  head-stands = record { holds = Z.holds; rooms = Z.rooms; inside = omega (arith, Z.inside, H.inside); below = below-part (count_in terms) frames top (r - 1) (omega (arith, H.inside)) Z.below }

  pub head-items : Items (count_in terms) (part frames r (top - r))
  head-items =
      let e : r + (top - r) ≡ top = omega (arith, H.inside) in
      below-items (count_in terms) frames (top - r) r (λ j a b. H.items j a (rw e at b)) (rw e Z.below)

-- a lower stack is no higher
pub steps-most : {lim : Limits} {terms runs terms' runs' frames' : List ℕ} {a b : ℕ} {m : Reached Stack} {s : Option ℕ} → a ≤ b → Steps lim terms runs terms' runs' frames' a m s → Steps lim terms runs terms' runs' frames' b m s
steps-most {lim} {terms} {runs} {terms'} {runs'} {frames'} {a} {b} {m} {s} h X = record { reached = X.reached; grows = X.grows; stands = go s X.stands }
  where
    go : (s : Option ℕ) → StandingAt lim terms' runs' frames' a s → StandingAt lim terms' runs' frames' b s
    go (Some n) y = (y.0, omega (arith, y.1))
    go None y = tt
