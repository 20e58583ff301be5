-- Words in the buffer, and a term put on them.
use Rattle.std.specs.Prelude.{◌≡◌, refl, ℕ, zero, suc, ◌+◌, ◌*◌, ◌-◌, ◌/◌, ◌%◌, ◌^◌, ◌≤◌, ◌<◌, get_or, set, take, drop, Option, Some, None}
use Rattle.std.proofs.Math.Path.{ap, ap₂}
use Rattle.std.proofs.Common.{◌∙◌, le-leb, length-append, length-drop, drop_of_length-le, get_or-set_same, get_or-set_other, get_or-take, get_or-drop, length-take-le}
use mathlib.Core.List.{List, [], ◌∷◌, map, append-nil}
use native.Mathlib.Omega.{arith}
use Rattle.std.proofs.lemmas.Bool.{lt-leb}
use borrow.Rule.Slice.PartMut.{put_mid}
use borrow.Author.Rules.{part_to_end}
use Rattle.std.proofs.Math.ListN.{length, length-set, get_or-append}
use Rattle.spec.specs.Bytes.{Limits, sum}
use Rattle.spec.specs.Pool.{Pool, Node, Interned}
use Rattle.pools.specs.Pool.{RunsBelow, runs-below-nil, runs-below-cons}
use Rattle.pools.specs.PoolIntern.{extends-length}
use Rattle.terms.specs.Buffers.{count_in, part, unpack, pool_of}
use Rattle.terms.specs.PartLaws.{part-cong}
use Rattle.terms.specs.PoolLaws.{pool-length, rooms_same}
use Rattle.interning.specs.Growing.{Grows}
use Rattle.card_terms.specs.Words.{Reached, whole, Word, bracket, list_head, marked_head, left_child, child, intern_on, on_top, ◌>>=◌, word_of, words_in}
use Rattle.card_terms.specs.Reading.{Items, Enters, Placed, WordBelow, WordsBelow, Standing, Steps, TermIn}

-- ---- a word by its number
pub word-left : (x : ℕ) → 32768 ≤ x → word_of x ≡ left_child (x % 16384) (x / 16384 - 2)
word-left x h = rw (le-leb 32768 x h) refl

pub word-child : (x : ℕ) → 16384 ≤ x → x < 32768 → word_of x ≡ child (x - 16384)
word-child x h k = rw (lt-leb 32768 x k, le-leb 16384 x h) refl

pub word-term : (a : ℕ) → a < 16384 → word_of (16384 + a) ≡ child a
word-term a h = let e : 16384 + a - 16384 ≡ a = omega arith in word-child (16384 + a) (omega arith) (omega arith) ∙ ap child e

-- ---- the words of a buffer
pub words_same : (a b : List ℕ) (n : ℕ) → ((i : ℕ) → i < n → get_or a i 0 ≡ get_or b i 0) → words_in a n ≡ words_in b n
unfolding words_in
words_same a b zero h = refl
words_same a b (suc n) h = ap₂ (λ (x : ℕ) (w : List Word). word_of x ∷ w) (h n (omega arith)) (words_same a b n (λ i k. h i (omega arith)))

pub words-set : (frames : List ℕ) (i x n : ℕ) → n ≤ i → words_in (set frames i x) n ≡ words_in frames n
words-set frames i x n h = words_same (set frames i x) frames n (λ j k. get_or-set_other frames i j x 0 (λ e. omega arith))

pub words-push : (frames : List ℕ) (i x : ℕ) → i < length frames → words_in (set frames i x) (i + 1) ≡ word_of x ∷ words_in frames i
unfolding words_in
words-push frames i x h = let e : i + 1 ≡ suc i = omega arith in rw (e, get_or-set_same frames i x 0 h) (ap (λ (w : List Word). word_of x ∷ w) (words-set frames i x i (omega arith)))

pub words-top : (frames : List ℕ) (n : ℕ) → 0 < n → words_in frames n ≡ word_of (get_or frames (n - 1) 0) ∷ words_in frames (n - 1)
unfolding words_in
words-top frames n h = let e : n ≡ suc (n - 1) = omega arith in ap (words_in frames) e

-- more terms
word-grow : {n m : ℕ} → n ≤ m → (x : Word) → WordBelow n x → WordBelow m x
word-grow h bracket b = tt
word-grow h (list_head o) b = tt
word-grow h marked_head b = tt
word-grow h (left_child c o) b = omega arith
word-grow h (child c) b = omega arith

pub words-grow : {n m : ℕ} → n ≤ m → (w : List Word) → WordsBelow n w → WordsBelow m w
unfolding WordsBelow
words-grow h [] b = tt
words-grow h (x ∷ w) b = (word-grow h x b.0, words-grow h w b.1)

-- ---- a pool that grew
pub grows-count : {terms runs terms' runs' : List ℕ} {p : Pool} → Grows terms runs terms' runs' p → count_in terms ≤ count_in terms'
grows-count {terms} {runs} {terms'} {runs'} g = omega (arith, extends-length g.grown, pool-length terms runs, pool-length terms' runs', ap length g.pool)

-- ---- items
pub items-below : (n : ℕ) (l : List ℕ) → Items n l → RunsBelow n (map unpack l)
unfolding Items
items-below n [] h = runs-below-nil n
items-below n (x ∷ l) h = runs-below-cons {r = unpack x} (let (a, b, d) = h.0 in omega arith) (let (a, b, d) = h.0 in omega arith) (items-below n l h.1)

items-sum : (n : ℕ) (l : List ℕ) → Items n l → sum l ≤ length l * 32768
unfolding Items sum
items-sum n [] h = omega arith
items-sum n (x ∷ l) h = let (a, b, d) = h.0 in omega (arith, items-sum n l h.1)

pub items-fit : (n : ℕ) (l : List ℕ) → Items n l → length l < 2 ^ 48 → sum l < 2 ^ 64
items-fit n l h k = omega (arith, items-sum n l h)

pub term-most : (n : ℕ) → n ≤ 16384 → (r : Option ℕ) → TermIn n r → TermIn 16384 r
term-most n h (Some a) k = omega arith
term-most n h None k = tt

-- ---- a part of the buffer, lent and back
pub rest-long : (frames : List ℕ) (from : ℕ) → length (take (length frames - from) (drop from frames)) ≡ length frames - from
rest-long frames from = rw (part_to_end frames from) (length-drop from frames)

pub back_long : (frames ys : List ℕ) (from : ℕ) → from ≤ length frames → length ys ≡ length (take (length frames - from) (drop from frames)) → length (put_mid from (length frames - from) frames ys) ≡ length frames
back_long frames ys from h e =
    let d : length (drop from frames) ≤ length frames - from = rw length-drop (omega arith) in
    rw (drop_of_length-le (drop from frames) d, append-nil ys) (omega (arith, length-append (take from frames) ys, length-take-le from frames h, rest-long frames from))

pub part-drop : (frames : List ℕ) (from n : ℕ) → part (take (length frames - from) (drop from frames)) 0 n ≡ part frames from n
part-drop frames from n = rw (part_to_end frames from) (part-cong (drop from frames) frames 0 from n (λ i h. let z : 0 + i ≡ i = omega arith in rw z (get_or-drop from frames i 0)))

pub back-same : (frames ys : List ℕ) (from n : ℕ) → n ≤ from → from ≤ length frames → words_in (put_mid from (length frames - from) frames ys) n ≡ words_in frames n
back-same frames ys from n h k = words_same (put_mid from (length frames - from) frames ys) frames n at
  where
    at : (i : ℕ) → i < n → get_or (put_mid from (length frames - from) frames ys) i 0 ≡ get_or frames i 0
    at i q = get_or-append (take from frames) _ 0 i (omega (arith, length-take-le from frames k)) ∙ get_or-take from frames i 0 (omega arith)

-- ---- a term entered and put on the stack
module _ (lim : Limits) {terms runs frames : List ℕ} {to : ℕ} (Z : Standing lim terms runs frames to) {terms' runs' : List ℕ} (n : Node) (lt : length terms' ≡ length terms) (lr : length runs' ≡ length runs)
    (frames₁ : List ℕ) (same : words_in frames₁ to ≡ words_in frames to) (long : length frames₁ ≡ length frames) (room : to < length frames) (frames' : List ℕ) (s : Option ℕ) where
  pub enters-placed : (r : Option ℕ) → Enters lim terms runs terms' runs' n r → Placed frames₁ to r frames' s → Steps lim terms runs terms' runs' frames' (to + 1) (intern_on lim (pool_of terms runs) n (words_in frames to)) s
  unfolding WordsBelow
  enters-placed (Some a) X P =
      let f : count_in terms' ≤ 16384 = X.grows.holds.few in
      let small : a < 16384 = omega (arith, X.within) in
      let words : words_in frames' (to + 1) ≡ child a ∷ words_in frames to = ap (λ (l : List ℕ). words_in l (to + 1)) P.0 ∙ words-push frames₁ to (16384 + a) (omega arith) ∙ ap₂ (λ (x : Word) (w : List Word). x ∷ w) (word-term a small) same in
      rw P.1 (record {
        reached = ap (λ (w : List Word). whole (pool_of terms' runs', w)) words ∙ ap (λ (z : Reached Interned). z >>= on_top (words_in frames to)) X.reached;
        grows = X.grows;
        stands = (
          record {
            holds = X.grows.holds;
            rooms = rooms_same lt lr Z.rooms;
            inside = omega (arith, ap length P.0, length-set frames₁ to (16384 + a));
            below = rw words (X.within, words-grow (grows-count X.grows) (words_in frames to) Z.below);
          },
          omega arith,
        );
      })
  enters-placed None X P = rw P.1 (record { reached = ap (λ (z : Reached Interned). z >>= on_top (words_in frames to)) X.reached; grows = X.grows; stands = tt })
