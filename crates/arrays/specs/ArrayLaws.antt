-- Laws of the arrays: entries of the lists that they stand for, and what one more entry does.
use Rattle.std.specs.Prelude.{◌≡◌, refl, ◌≢◌, List, [], ◌∷◌, ◌++◌, ℕ, zero, suc, ◌+◌, ◌*◌, ◌/◌, ◌%◌, ◌≤◌, ◌<◌, length, get_or, set}
use Rattle.std.proofs.Common.{sym, ap, ap₂, ◌∙◌, not-suc-le-zero, mul-le-mul, mul-le-mul_right, arith}
use Rattle.std.proofs.Math.ListN.{length-set}
use Rattle.std.proofs.Math.Seq.{get_or-set_same, get_or-set_other}
use Rattle.spec.specs.Bytes.{Two}
use Rattle.arrays.specs.Arrays.{number_in, key_of, unkey, unkeyed, qualities_from, terms_from, qualities_in, terms_in, given, quality_in, Known}

-- ---- places and keys
-- a pair of classes has its place in the index
pub place-lt : (w l r : ℕ) → l < w → r < w → l * w + r < w * w
place-lt w l r h k = omega (arith, mul-le-mul_right {m = suc l} {n = w} w h)

pub square : (w : ℕ) → w ≤ 256 → w * w ≤ 65536
square w h = omega (arith, mul-le-mul {n₁ = w} {m₁ = w} {n₂ = 256} {m₂ = 256} h h)

pub key-lt : (l r : ℕ) → l < 256 → r < 256 → key_of (l, r) < 65536
key-lt l r h k = omega arith

pub unkey-key : (p : Two) → p.1 < 256 → unkey (key_of p) ≡ p
unkey-key p h =
    let a : (p.0 * 256 + p.1) / 256 ≡ p.0 = omega arith in
    let b : (p.0 * 256 + p.1) % 256 ≡ p.1 = omega arith in
    ap₂ (λ (x y : ℕ). (x, y)) a b

-- ---- the pairs of the graph
pub unkeyed-length : (g : List ℕ) (i n : ℕ) → length (unkeyed g i n) ≡ n
unfolding unkeyed
unkeyed-length g i zero = refl
unkeyed-length g i (suc n) = ap suc (unkeyed-length g (suc i) n)

pub unkeyed-at : (g : List ℕ) (i n k : ℕ) → k < n → get_or (unkeyed g i n) k (0, 0) ≡ unkey (get_or g (i + k) 0)
unfolding unkeyed
unkeyed-at g i zero k h = absurd (not-suc-le-zero h)
unkeyed-at g i (suc n) zero h = let e : i ≡ i + 0 = omega arith in ap (λ (x : ℕ). unkey (get_or g x 0)) e
unkeyed-at g i (suc n) (suc k) h = let e : suc i + k ≡ i + suc k = omega arith in unkeyed-at g (suc i) n k (omega arith) ∙ ap (λ (x : ℕ). unkey (get_or g x 0)) e

pub unkeyed-cong : (g h : List ℕ) (i n : ℕ) → ((k : ℕ) → i ≤ k → k < i + n → get_or g k 0 ≡ get_or h k 0) → unkeyed g i n ≡ unkeyed h i n
unfolding unkeyed
unkeyed-cong g h i zero f = refl
unkeyed-cong g h i (suc n) f =
    ap₂ (λ (x : Two) (l : List Two). x ∷ l) (ap unkey (f i (omega arith) (omega arith))) (unkeyed-cong g h (suc i) n (λ k a b. f k (omega arith) (omega arith)))

pub unkeyed-snoc : (g : List ℕ) (i n : ℕ) → unkeyed g i (suc n) ≡ unkeyed g i n ++ (unkey (get_or g (i + n) 0) ∷ [])
unfolding unkeyed
unkeyed-snoc g i zero = let e : i ≡ i + 0 = omega arith in ap (λ (x : ℕ). unkey (get_or g x 0) ∷ []) e
unkeyed-snoc g i (suc n) =
    let e : suc i + n ≡ i + suc n = omega arith in
    ap (λ (l : List Two). unkey (get_or g i 0) ∷ l) (unkeyed-snoc g (suc i) n ∙ ap (λ (x : ℕ). unkeyed g (suc i) n ++ (unkey (get_or g x 0) ∷ [])) e)

-- ---- qualities and terms
pub qualities-length : (a : List ℕ) (i n : ℕ) → length (qualities_from a i n) ≡ n
unfolding qualities_from
qualities-length a i zero = refl
qualities-length a i (suc n) = ap suc (qualities-length a (i + 6) n)

pub terms-length : (a : List ℕ) (i n : ℕ) → length (terms_from a i n) ≡ n
unfolding terms_from
terms-length a i zero = refl
terms-length a i (suc n) = ap suc (terms-length a (i + 6) n)

pub quality-at : (a : List ℕ) (i n k : ℕ) → k < n → get_or (qualities_from a i n) k (0, 0) ≡ (get_or a (6 * k + i) 0, get_or a (6 * k + i + 1) 0)
unfolding qualities_from
quality-at a i zero k h = absurd (not-suc-le-zero h)
quality-at a i (suc n) zero h = let e : i ≡ 6 * 0 + i = omega arith in ap (λ (x : ℕ). (get_or a x 0, get_or a (x + 1) 0)) e
quality-at a i (suc n) (suc k) h =
    let e : 6 * k + (i + 6) ≡ 6 * suc k + i = omega arith in
    quality-at a (i + 6) n k (omega arith) ∙ ap (λ (x : ℕ). (get_or a x 0, get_or a (x + 1) 0)) e

pub term-at : (a : List ℕ) (i n k : ℕ) → k < n → get_or (terms_from a i n) k 0 ≡ get_or a (6 * k + i + 2) 0
unfolding terms_from
term-at a i zero k h = absurd (not-suc-le-zero h)
term-at a i (suc n) zero h = let e : i ≡ 6 * 0 + i = omega arith in ap (λ (x : ℕ). get_or a (x + 2) 0) e
term-at a i (suc n) (suc k) h =
    let e : 6 * k + (i + 6) ≡ 6 * suc k + i = omega arith in
    term-at a (i + 6) n k (omega arith) ∙ ap (λ (x : ℕ). get_or a (x + 2) 0) e

-- entry k + 1 from place i on is entry k from the next pair's place on
later : (a : List ℕ) (i k d : ℕ) → get_or a (6 * k + (i + 6) + d) 0 ≡ get_or a (6 * suc k + i + d) 0
later a i k d = let e : 6 * k + (i + 6) + d ≡ 6 * suc k + i + d = omega arith in ap (λ (z : ℕ). get_or a z 0) e

-- two arrays with the same entries; d is 0 for a size, 1 for a mass, 2 for a term
abbrev pub SameAt : List ℕ → List ℕ → ℕ → ℕ → ℕ → ℕ → Type 0
SameAt a b i j n d = (k : ℕ) → k < n → get_or a (6 * k + i + d) 0 ≡ get_or b (6 * k + j + d) 0

same-later : (a b : List ℕ) (i j n d : ℕ) → SameAt a b i j (suc n) d → SameAt a b (i + 6) (j + 6) n d
same-later a b i j n d h = λ k l. later a i k d ∙ h (suc k) (omega arith) ∙ sym (later b j k d)

same_first : (a b : List ℕ) (i j n d : ℕ) → SameAt a b i j (suc n) d → get_or a (i + d) 0 ≡ get_or b (j + d) 0
same_first a b i j n d h =
    let e : i + d ≡ 6 * 0 + i + d = omega arith in
    let f : 6 * 0 + j + d ≡ j + d = omega arith in
    ap (λ (z : ℕ). get_or a z 0) e ∙ h 0 (omega arith) ∙ ap (λ (z : ℕ). get_or b z 0) f

no_more : (a : List ℕ) (i : ℕ) → get_or a i 0 ≡ get_or a (i + 0) 0
no_more a i = let e : i ≡ i + 0 = omega arith in ap (λ (z : ℕ). get_or a z 0) e

pub qualities-cong : (a b : List ℕ) (i j n : ℕ) → SameAt a b i j n 0 → SameAt a b i j n 1 → qualities_from a i n ≡ qualities_from b j n
unfolding qualities_from
qualities-cong a b i j zero g h = refl
qualities-cong a b i j (suc n) g h =
    ap₂ (λ (x : Two) (l : List Two). x ∷ l) (ap₂ (λ (x y : ℕ). (x, y)) (no_more a i ∙ same_first a b i j n 0 g ∙ sym (no_more b j)) (same_first a b i j n 1 h))
    (qualities-cong a b (i + 6) (j + 6) n (same-later a b i j n 0 g) (same-later a b i j n 1 h))

pub terms-cong : (a b : List ℕ) (i j n : ℕ) → SameAt a b i j n 2 → terms_from a i n ≡ terms_from b j n
unfolding terms_from
terms-cong a b i j zero h = refl
terms-cong a b i j (suc n) h = ap₂ (λ (x : ℕ) (l : List ℕ). x ∷ l) (same_first a b i j n 2 h) (terms-cong a b (i + 6) (j + 6) n (same-later a b i j n 2 h))

pub qualities-snoc : (a : List ℕ) (i n : ℕ) → qualities_from a i (suc n) ≡ qualities_from a i n ++ ((get_or a (6 * n + i) 0, get_or a (6 * n + i + 1) 0) ∷ [])
unfolding qualities_from
qualities-snoc a i zero = let e : i ≡ 6 * 0 + i = omega arith in ap (λ (x : ℕ). (get_or a x 0, get_or a (x + 1) 0) ∷ []) e
qualities-snoc a i (suc n) =
    let e : 6 * n + (i + 6) ≡ 6 * suc n + i = omega arith in
    ap (λ (l : List Two). (get_or a i 0, get_or a (i + 1) 0) ∷ l)
    (qualities-snoc a (i + 6) n ∙ ap (λ (x : ℕ). qualities_from a (i + 6) n ++ ((get_or a x 0, get_or a (x + 1) 0) ∷ [])) e)

pub terms-snoc : (a : List ℕ) (i n : ℕ) → terms_from a i (suc n) ≡ terms_from a i n ++ (get_or a (6 * n + i + 2) 0 ∷ [])
unfolding terms_from
terms-snoc a i zero = let e : i ≡ 6 * 0 + i = omega arith in ap (λ (x : ℕ). get_or a (x + 2) 0 ∷ []) e
terms-snoc a i (suc n) =
    let e : 6 * n + (i + 6) ≡ 6 * suc n + i = omega arith in
    ap (λ (l : List ℕ). get_or a (i + 2) 0 ∷ l) (terms-snoc a (i + 6) n ∙ ap (λ (x : ℕ). terms_from a (i + 6) n ++ (get_or a (x + 2) 0 ∷ [])) e)

-- ---- one pair given its size, mass and term
module _ (pairs : List ℕ) (at size mass term : ℕ) where
  pub given-length : length (given pairs at size mass term) ≡ length pairs
  unfolding given
  given-length = simp length-set

  pub given-other : (i : ℕ) → i ≢ at → i ≢ at + 1 → i ≢ at + 2 → get_or (given pairs at size mass term) i 0 ≡ get_or pairs i 0
  unfolding given
  given-other i a b c =
      get_or-set_other (set (set pairs at size) (at + 1) mass) (at + 2) i term 0 c
      ∙ get_or-set_other (set pairs at size) (at + 1) i mass 0 b
      ∙ get_or-set_other pairs at i size 0 a

  module _ (h : at + 2 < length pairs) where
    pub given-size : get_or (given pairs at size mass term) at 0 ≡ size
    unfolding given
    given-size =
        get_or-set_other (set (set pairs at size) (at + 1) mass) (at + 2) at term 0 (omega arith)
        ∙ get_or-set_other (set pairs at size) (at + 1) at mass 0 (omega arith)
        ∙ get_or-set_same pairs at size 0 (omega arith)

    pub given-mass : get_or (given pairs at size mass term) (at + 1) 0 ≡ mass
    unfolding given
    given-mass =
        get_or-set_other (set (set pairs at size) (at + 1) mass) (at + 2) (at + 1) term 0 (omega arith)
        ∙ get_or-set_same (set pairs at size) (at + 1) mass 0 (simp length-set (omega arith))

    pub given-term : get_or (given pairs at size mass term) (at + 2) 0 ≡ term
    unfolding given
    given-term = get_or-set_same (set (set pairs at size) (at + 1) mass) (at + 2) term 0 (simp length-set (omega arith))

-- pair k is given its numbers, at 0 or at NEW: the list of the first k pairs has one more
module _ (pairs : List ℕ) (at k i size mass term : ℕ) (is : i ≡ 6 * k + at) (room : i + 2 < length pairs) where
  abbrev After : List ℕ
  After = given pairs i size mass term

  pub qualities-more : qualities_in After at (suc k) ≡ qualities_in pairs at k ++ ((size, mass) ∷ [])
  qualities-more =
      let e : 6 * k + at ≡ i = omega arith in
      qualities-snoc After at k
      ∙ ap₂ (λ (l : List Two) (q : Two). l ++ (q ∷ []))
      (qualities-cong After pairs at at k (λ j l. given-other pairs i size mass term (6 * j + at + 0) (omega arith) (omega arith) (omega arith)) (λ j l. given-other pairs i size mass term (6 * j + at + 1) (omega arith) (omega arith) (omega arith)))
      (ap (λ (z : ℕ). (get_or After z 0, get_or After (z + 1) 0)) e ∙ ap₂ (λ (x y : ℕ). (x, y)) (given-size pairs i size mass term room) (given-mass pairs i size mass term room))

  pub terms-more : terms_in After at (suc k) ≡ terms_in pairs at k ++ (term ∷ [])
  terms-more =
      let e : 6 * k + at ≡ i = omega arith in
      terms-snoc After at k
      ∙ ap₂ (λ (l : List ℕ) (q : ℕ). l ++ (q ∷ []))
      (terms-cong After pairs at at k (λ j l. given-other pairs i size mass term (6 * j + at + 2) (omega arith) (omega arith) (omega arith)))
      (ap (λ (z : ℕ). get_or After (z + 2) 0) e ∙ given-term pairs i size mass term room)

-- giving what the round at hand gives leaves what the round before gave, and the other way round
module _ (pairs : List ℕ) (k size mass term n : ℕ) where
  pub old-kept : (qualities_in (given pairs (6 * k + 3) size mass term) 0 n ≡ qualities_in pairs 0 n) × (terms_in (given pairs (6 * k + 3) size mass term) 0 n ≡ terms_in pairs 0 n)
  old-kept = (
    qualities-cong (given pairs (6 * k + 3) size mass term) pairs 0 0 n
        (λ j l. given-other pairs (6 * k + 3) size mass term (6 * j + 0 + 0) (omega arith) (omega arith) (omega arith))
        (λ j l. given-other pairs (6 * k + 3) size mass term (6 * j + 0 + 1) (omega arith) (omega arith) (omega arith)),
    terms-cong (given pairs (6 * k + 3) size mass term) pairs 0 0 n (λ j l. given-other pairs (6 * k + 3) size mass term (6 * j + 0 + 2) (omega arith) (omega arith) (omega arith)),
  )

-- ---- a pair of classes that is known
module _ (w : ℕ) (graph pairs : List ℕ) (K : Known w graph pairs) (l r : ℕ) (h : l < w) (k : r < w) where
  -- its place, and its six numbers
  pub known-place : l * w + r < length graph
  known-place = omega (arith, place-lt w l r h k, K.wide)

  pub known-below : 6 * number_in w graph (l, r) + 6 ≤ length pairs
  known-below = K.below (l * w + r) (place-lt w l r h k)

  pub known-low : (quality_in w graph pairs (l, r)).1 ≤ (quality_in w graph pairs (l, r)).0
  known-low = K.low (l * w + r) (place-lt w l r h k)
