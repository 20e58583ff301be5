-- "By precedence" on the words of a buffer: where it stops, and one turn.
use Rattle.std.specs.Prelude.{Option, Some, None, ◌≡◌, List, [], ◌∷◌, map, leb, ltb, eqb, length, get_or, set}
use Rattle.std.proofs.Math.Path.{refl, sym, ap}
use Rattle.std.proofs.Common.{ap₂, ◌∙◌, length-set}
use Rattle.std.proofs.Math.Bool.{Bool, true, false}
use Prim.Native.Nat.{ℕ, zero, suc, ◌+◌, ◌-◌, ◌/◌, ◌%◌, ◌≤◌, ◌<◌}
use native.Mathlib.Omega.{arith}
use borrow.Author.Tests.{le-leb, lt-leb, leb-true, leb-false}
use Rattle.std.proofs.Math.Seq.{get_or-set_same, get_or-set_other}
use Rattle.spec.specs.Bytes.{Limits, Two, pick}
use Rattle.spec.specs.Pool.{Pool, Interned, op_node}
use Rattle.terms.specs.Buffers.{count_in, part, unpack, pool_of}
use Rattle.formula.specs.Card.{operations, prec_of}
use Rattle.interning.specs.Growing.{Grows}
use Rattle.interning.specs.GrowLaws.{grows_then, grows_none}
use Rattle.card_terms.specs.Words.{Reached, whole, full, stuck, Word, bracket, list_head, marked_head, left_child, child, Stack, intern_at, intern_on, on_top, ◌>>=◌, reduce_on, reduce_top, word_of, words_in}
use Rattle.card_terms.specs.Reading.{head_node, Items, WordsBelow, Known, Topped, LeftBelow, reduced_once, Waits, Standing, Steps}
use Rattle.card_terms.specs.StandLaws.{word-left, word-child, words-top, words-set}

-- ---- steps one after the other
pub bind-bind : {A B C : Type 0} (m : Reached A) (f : A → Reached B) (g : B → Reached C) → ((m >>= f) >>= g) ≡ (m >>= λ a. f a >>= g)
bind-bind (whole a) f g = refl
bind-bind (full p) f g = refl
bind-bind stuck f g = refl

whole-inj : {A : Type 0} {a b : A} → whole a ≡ whole b → a ≡ b
whole-inj e = cc

pub words-two : (frames : List ℕ) (n : ℕ) → 2 ≤ n → words_in frames n ≡ word_of (get_or frames (n - 1) 0) ∷ word_of (get_or frames (n - 2) 0) ∷ words_in frames (n - 2)
words-two frames n h = let e : n - 1 - 1 ≡ n - 2 = omega arith in words-top frames n (omega arith) ∙ ap (λ (w : List Word). word_of (get_or frames (n - 1) 0) ∷ w) (rw e at (words-top frames (n - 1) (omega arith)))

-- ---- the word on top is no left child, the one below is known
pub top_small : (frames : List ℕ) (n : ℕ) → 0 < n → Topped (words_in frames n) → get_or frames (n - 1) 0 < 32768
top_small frames n h k = go (leb 32768 (get_or frames (n - 1) 0)) refl
  where
    go : (z : Bool) → leb 32768 (get_or frames (n - 1) 0) ≡ z → get_or frames (n - 1) 0 < 32768
    go true e = absurd (rw (words-top frames n h, word-left (get_or frames (n - 1) 0) (leb-true _ _ e)) at k)
    go false e = leb-false _ _ e

pub second-known : (t frames : List ℕ) (n : ℕ) → 2 ≤ n → Known t (words_in frames n) → 32768 ≤ get_or frames (n - 2) 0 → get_or frames (n - 2) 0 / 16384 - 2 < operations t
unfolding Known
second-known t frames n h k l = (rw (words-two frames n h, word-left (get_or frames (n - 2) 0) l) at k).1.0

-- ---- where nothing is to be finished
module _ (lim : Limits) (t : List ℕ) (m : ℕ) (p : Pool) where
  one-stops : (x : Word) → Topped (x ∷ []) → reduce_top lim t m p (x ∷ []) ≡ whole (p, x ∷ [])
  unfolding reduce_top
  one-stops bracket h = refl
  one-stops (list_head o) h = refl
  one-stops marked_head h = refl
  one-stops (left_child c o) h = absurd h
  one-stops (child c) h = refl

  pub few-stops : (frames : List ℕ) (n : ℕ) → n < 2 → Topped (words_in frames n) → reduce_top lim t m p (words_in frames n) ≡ whole (p, words_in frames n)
  unfolding words_in
  few-stops frames zero h k = absurd k
  few-stops frames (suc zero) h k = one-stops (word_of (get_or frames 0 0)) k
  few-stops frames (suc (suc n)) h k = absurd (omega arith)

  low-stops : (x : ℕ) (w : List Word) → x < 16384 → reduce_top lim t m p (word_of x ∷ w) ≡ whole (p, word_of x ∷ w)
  unfolding reduce_top
  low-stops x w h = rw (lt-leb 32768 x (omega arith), lt-leb 16384 x h) (go (ltb x 64) (eqb x 128))
    where
      go : (a b : Bool) → reduce_top lim t m p (pick a (list_head x) (pick b marked_head bracket) ∷ w) ≡ whole (p, pick a (list_head x) (pick b marked_head bracket) ∷ w)
      go true b = refl
      go false true = refl
      go false false = refl

  pub open-stops : (frames : List ℕ) (n : ℕ) → 0 < n → get_or frames (n - 1) 0 < 16384 → reduce_top lim t m p (words_in frames n) ≡ whole (p, words_in frames n)
  open-stops frames n h k = rw (words-top frames n h) (low-stops (get_or frames (n - 1) 0) (words_in frames (n - 1)) k)

  over-stops : (x : Word) (y : ℕ) (w : List Word) → Topped (x ∷ word_of y ∷ w) → y < 32768 → reduce_top lim t m p (x ∷ word_of y ∷ w) ≡ whole (p, x ∷ word_of y ∷ w)
  unfolding reduce_top reduce_on
  over-stops bracket y w h k = refl
  over-stops (list_head o) y w h k = refl
  over-stops marked_head y w h k = refl
  over-stops (left_child c o) y w h k = absurd h
  over-stops (child c) y w h k = rw (lt-leb 32768 y k) (go (leb 16384 y) (ltb y 64) (eqb y 128))
    where
      below : Bool → Bool → Bool → Word
      below a b d = pick a (child (y - 16384)) (pick b (list_head y) (pick d marked_head bracket))

      go : (a b d : Bool) → reduce_on lim t m p c (below a b d ∷ w) ≡ whole (p, child c ∷ below a b d ∷ w)
      go true b d = refl
      go false true d = refl
      go false false true = refl
      go false false false = refl

  pub second-stops : (frames : List ℕ) (n : ℕ) → 2 ≤ n → Topped (words_in frames n) → get_or frames (n - 2) 0 < 32768 → reduce_top lim t m p (words_in frames n) ≡ whole (p, words_in frames n)
  second-stops frames n h k l = rw (words-two frames n h) (over-stops (word_of (get_or frames (n - 1) 0)) (get_or frames (n - 2) 0) (words_in frames (n - 2)) (rw (words-two frames n h) at k) l)

  left-binds : (c b o : ℕ) (w : List Word) → m ≤ prec_of t o → reduce_top lim t m p (child c ∷ left_child b o ∷ w) ≡ (intern_on lim p (op_node o ((b, 1) ∷ (c, 1) ∷ [])) w >>= λ s. reduce_top lim t m s.0 s.1)
  unfolding reduce_top reduce_on
  left-binds c b o w h = rw (le-leb m (prec_of t o) h, reduce_on) (sym (bind-bind (intern_at lim p (op_node o ((b, 1) ∷ (c, 1) ∷ []))) _ _))

  left-looser : (c b o : ℕ) (w : List Word) → prec_of t o < m → reduce_top lim t m p (child c ∷ left_child b o ∷ w) ≡ whole (p, child c ∷ left_child b o ∷ w)
  unfolding reduce_top reduce_on
  left-looser c b o w h = rw (lt-leb m (prec_of t o) h, reduce_on) refl

  -- ---- two words on top: a term, and a left child below it
  module _ (frames : List ℕ) (n : ℕ) (L : LeftBelow frames n) where
    h : 2 ≤ n
    h = L.two

    k : 16384 ≤ get_or frames (n - 1) 0
    k = L.term

    small : get_or frames (n - 1) 0 < 32768
    small = L.small

    l : 32768 ≤ get_or frames (n - 2) 0
    l = L.left

    abbrev x : ℕ
    x = get_or frames (n - 1) 0

    abbrev y : ℕ
    y = get_or frames (n - 2) 0

    abbrev w : List Word
    w = words_in frames (n - 2)

    words : words_in frames n ≡ child (x - 16384) ∷ left_child (y % 16384) (y / 16384 - 2) ∷ w
    words = words-two frames n h ∙ ap₂ (λ (a b : Word). a ∷ b ∷ w) (word-child x k small) (word-left y l)

    pub left-stops : prec_of t (y / 16384 - 2) < m → reduce_top lim t m p (words_in frames n) ≡ whole (p, words_in frames n)
    left-stops q = rw words (left-looser (x - 16384) (y % 16384) (y / 16384 - 2) w q)

    -- the two terms as runs
    abbrev frames₁ : List ℕ
    frames₁ = set frames (n - 2) (16384 + y % 16384)

    pair : n ≤ length frames → part frames₁ (n - 2) (n - (n - 2)) ≡ (16384 + y % 16384) ∷ x ∷ []
    unfolding part
    pair q =
        let e : n - (n - 2) ≡ 2 = omega arith in
        let f : suc (n - 2) ≡ n - 1 = omega arith in
        rw (e, f, get_or-set_same frames (n - 2) (16384 + y % 16384) 0 (omega arith), get_or-set_other frames (n - 2) (n - 1) (16384 + y % 16384) 0 (λ z. omega arith)) refl

    pub pair-items : (N : ℕ) → n ≤ length frames → N ≤ 16384 → WordsBelow N (words_in frames n) → Items N (part frames₁ (n - 2) (n - (n - 2)))
    unfolding WordsBelow Items
    pair-items N q f b =
        let d : WordsBelow N (child (x - 16384) ∷ left_child (y % 16384) (y / 16384 - 2) ∷ w) = rw words at b in
        let e : x - 16384 < N = d.0 in
        let g : y % 16384 < N = d.1.0 in
        rw (pair q) ((omega arith, omega arith, omega arith), ((k, small, omega arith), tt))

    one : (a : ℕ) → 16384 ≤ a → a < 32768 → unpack a ≡ (a - 16384, 1)
    one a q r = let e : a % 16384 ≡ a - 16384 = omega arith in let f : a / 16384 ≡ 1 = omega arith in ap₂ (λ (i j : ℕ). (i, j)) e f

    pub pair-node : (v : ℕ) → v ≡ y / 16384 - 2 → n ≤ length frames → head_node v (map unpack (part frames₁ (n - 2) (n - (n - 2)))) ≡ op_node (y / 16384 - 2) ((y % 16384, 1) ∷ (x - 16384, 1) ∷ [])
    pair-node v e q =
        let a : 16384 + y % 16384 - 16384 ≡ y % 16384 = omega arith in
        let b : v / 64 ≡ 0 = omega (arith, L.known) in
        let d : v % 64 ≡ y / 16384 - 2 = omega (arith, L.known) in
        let runs : map unpack (part frames₁ (n - 2) (n - (n - 2))) ≡ (y % 16384, 1) ∷ (x - 16384, 1) ∷ [] = ap (map unpack) (pair q) ∙ ap₂ (λ (i j : Two). i ∷ j ∷ []) (one (16384 + y % 16384) (omega arith) (omega arith) ∙ ap (λ (i : ℕ). (i, 1)) a) (one x k small) in
        rw (b, d, runs) refl

    pub pair_turn : m ≤ prec_of t (y / 16384 - 2) → reduce_top lim t m p (words_in frames n) ≡ (reduced_once lim p frames n >>= λ s. reduce_top lim t m s.0 s.1)
    pair_turn g = rw words (left-binds (x - 16384) (y % 16384) (y / 16384 - 2) w g)

    -- what is below the two is below the term that they make
    pub once-rest : (N : ℕ) → WordsBelow N (words_in frames n) → WordsBelow N (words_in frames₁ (n - 2))
    unfolding WordsBelow
    once-rest N b =
        let d : WordsBelow N (child (x - 16384) ∷ left_child (y % 16384) (y / 16384 - 2) ∷ w) = rw words at b in
        rw (words-set frames (n - 2) (16384 + y % 16384) (n - 2) (omega arith)) d.1.1

    pub once-known : Known t (words_in frames n) → Known t w
    unfolding Known
    once-known b = let d : Known t (child (x - 16384) ∷ left_child (y % 16384) (y / 16384 - 2) ∷ w) = rw words at b in d.1.1

-- the last test
pub waits-by : (t : List ℕ) (m : ℕ) (frames : List ℕ) (n : ℕ) → LeftBelow frames n → (q : ℕ) → q ≡ prec_of t (get_or frames (n - 2) 0 / 16384 - 2) → (z : Bool) → leb m q ≡ z → Waits t m frames n z
waits-by t m frames n L q e true z = (L, rw e at (leb-true m q z))
waits-by t m frames n L q e false z = λ lim p. left-stops lim t m p frames n L (rw e at (leb-false m q z))

-- ---- the loop
-- a term on top
pub on-top : {q : Pool} {v w : List Word} (r : Reached Interned) → whole (q, v) ≡ (r >>= on_top w) → (a : ℕ) × (v ≡ child a ∷ w)
on-top (whole x) e = (x.term, ap (λ (s : Stack). s.1) (whole-inj e))
on-top (full p) e = absurd (let z : ◌≡◌ {A = ℕ} 0 1 = cc in omega arith)
on-top stuck e = absurd (let z : ◌≡◌ {A = ℕ} 0 1 = cc in omega arith)

pub record Reducing (lim : Limits) (t : List ℕ) (m : ℕ) (terms₀ runs₀ frames₀ : List ℕ) (top : ℕ) (terms runs frames : List ℕ) (n : ℕ) : Type 0 where
  pub long_terms : length terms ≡ length terms₀
  pub long_runs : length runs ≡ length runs₀
  pub long_frames : length frames ≡ length frames₀
  pub stands : Standing lim terms runs frames n
  pub known : Known t (words_in frames n)
  pub topped : Topped (words_in frames n)
  pub most : n ≤ top
  pub grows : Grows terms₀ runs₀ terms runs (pool_of terms runs)
  pub same : reduce_top lim t m (pool_of terms runs) (words_in frames n) ≡ reduce_top lim t m (pool_of terms₀ runs₀) (words_in frames₀ top)

module _ (lim : Limits) (t : List ℕ) (m : ℕ) (terms₀ runs₀ frames₀ : List ℕ) (top : ℕ) where
  pub reducing-start : Standing lim terms₀ runs₀ frames₀ top → Known t (words_in frames₀ top) → Topped (words_in frames₀ top) → Reducing lim t m terms₀ runs₀ frames₀ top terms₀ runs₀ frames₀ top
  reducing-start Z k l = record { long_terms = refl; long_runs = refl; long_frames = refl; stands = Z; known = k; topped = l; most = omega arith; grows = grows_none terms₀ runs₀ Z.holds; same = refl }

  module _ (terms runs frames : List ℕ) (n : ℕ) (R : Reducing lim t m terms₀ runs₀ frames₀ top terms runs frames n) where
    pub reducing-end : Waits t m frames n false → Steps lim terms₀ runs₀ terms runs frames top (reduce_top lim t m (pool_of terms₀ runs₀) (words_in frames₀ top)) (Some n)
    reducing-end h = record { reached = sym (h lim (pool_of terms runs)) ∙ R.same; grows = R.grows; stands = (R.stands, R.most) }

    module _ (h : Waits t m frames n true) (terms' runs' frames' : List ℕ) where
      goes_on : reduce_top lim t m (pool_of terms₀ runs₀) (words_in frames₀ top) ≡ (reduced_once lim (pool_of terms runs) frames n >>= λ s. reduce_top lim t m s.0 s.1)
      goes_on = sym R.same ∙ pair_turn lim t m (pool_of terms runs) frames n h.0 h.1

      pub reducing-full : (r : Option ℕ) → r ≡ None → Steps lim terms runs terms' runs' frames' (n - 2 + 1) (reduced_once lim (pool_of terms runs) frames n) r → Steps lim terms₀ runs₀ terms' runs' frames' top (reduce_top lim t m (pool_of terms₀ runs₀) (words_in frames₀ top)) None
      reducing-full r e X =
          let q : full (pool_of terms' runs') ≡ reduced_once lim (pool_of terms runs) frames n = rw e at X.reached in
          record { reached = ap (λ (z : Reached Stack). z >>= λ s. reduce_top lim t m s.0 s.1) q ∙ sym goes_on; grows = grows_then R.grows X.grows; stands = tt }

      module _ (r : Option ℕ) (k : ℕ) (e : r ≡ Some k) (X : Steps lim terms runs terms' runs' frames' (n - 2 + 1) (reduced_once lim (pool_of terms runs) frames n) r) where
        stood : Standing lim terms' runs' frames' k × (k ≤ n - 2 + 1)
        stood = rw e at X.stands

        pub reducing-less : k < n
        reducing-less = omega (arith, stood.1, h.0.two)

        pub reducing-turn : length terms' ≡ length terms → length runs' ≡ length runs → length frames' ≡ length frames → Reducing lim t m terms₀ runs₀ frames₀ top terms' runs' frames' k
        unfolding Known
        reducing-turn a b d =
            let q : whole (pool_of terms' runs', words_in frames' k) ≡ reduced_once lim (pool_of terms runs) frames n = rw e at X.reached in
            let (a', words) = on-top (intern_at lim (pool_of terms runs) (op_node (get_or frames (n - 2) 0 / 16384 - 2) ((get_or frames (n - 2) 0 % 16384, 1) ∷ (get_or frames (n - 1) 0 - 16384, 1) ∷ []))) q in record {
              long_terms = a ∙ R.long_terms;
              long_runs = b ∙ R.long_runs;
              long_frames = d ∙ R.long_frames;
              stands = stood.0;
              known = rw words (tt, once-known lim t m (pool_of terms runs) frames n h.0 R.known);
              topped = rw words tt;
              most = omega (arith, stood.1, R.most, h.0.two);
              grows = grows_then R.grows X.grows;
              same = ap (λ (z : Reached Stack). z >>= λ s. reduce_top lim t m s.0 s.1) q ∙ sym goes_on;
            }

-- ---- one turn: the two terms made runs, and entered
module _ (lim : Limits) (terms runs frames : List ℕ) (n : ℕ) (Z : Standing lim terms runs frames n) (L : LeftBelow frames n) where
  abbrev first : List ℕ
  first = set frames (n - 2) (16384 + get_or frames (n - 2) 0 % 16384)

  pub once-stands : Standing lim terms runs first (n - 2)
  once-stands = record {
    holds = Z.holds;
    rooms = Z.rooms;
    inside = omega (arith, length-set frames (n - 2) (16384 + get_or frames (n - 2) 0 % 16384), Z.inside);
    below = once-rest lim [] 0 [] frames n L (count_in terms) Z.below;
  }

  pub once-items : Items (count_in terms) (part first (n - 2) (n - (n - 2)))
  once-items = pair-items lim [] 0 [] frames n L (count_in terms) Z.inside Z.holds.few Z.below

  pub once-made : (v : ℕ) → v ≡ get_or frames (n - 2) 0 / 16384 - 2 → intern_on lim (pool_of terms runs) (head_node v (map unpack (part first (n - 2) (n - (n - 2))))) (words_in first (n - 2)) ≡ reduced_once lim (pool_of terms runs) frames n
  once-made v e = rw (pair-node lim [] 0 [] frames n L v e Z.inside, words-set frames (n - 2) (16384 + get_or frames (n - 2) 0 % 16384) (n - 2) (omega arith)) refl
