-- Laws of the tests: bytes of a sign, two signs, every other sign.
use Rattle.std.specs.List.{list_all}
use lib.Pointwise.{pointwise}
use Rattle.std.proofs.Common.{nat_eq}
use Rattle.std.specs.Prelude.{◌≡◌, Bool, ltb, leb, eqb, get_or, drop}
use Rattle.std.proofs.Math.Path.{refl, sym, ap}
use Rattle.std.proofs.Common.{◌∙◌, add-one, drop_of_length-le, drop-drop, drop_at, take-add, get_or-take, get_or-drop, length-take-le}
use Rattle.std.proofs.Math.Bool.{true, false}
use mathlib.Core.List.{List, [], ◌∷◌, ◌++◌, append-nil}
use Prim.Native.Nat.{ℕ, suc, ◌+◌, ◌*◌, ◌-◌, ◌≤◌, ◌<◌}
use native.Mathlib.Omega.{arith}
use Rattle.std.proofs.Math.ListN.{length, take, length-map}
use Rattle.std.proofs.Math.Seq.{slice, slice-cons, slice_empty, drop-cons, take-take}
use borrow.Author.Tests.{lt-ltb, le-ltb, le-leb, lt-leb, eq-eqb, ne_eqb}
use Rattle.spec.specs.Bytes.{pick, both, either, all, up_from, within}
use Rattle.laws.specs.Buffers.{up-length, up_at, over}
use Rattle.formula.specs.Card.{operations, sign_field, word, sign, prec_of, letter, symbol, one_symbol, is_sign, same_bytes, well_padded, has_sign, shares_sign, own, proper, binding_of, bindings}
use Rattle.signs.specs.SignLaws.{entry_whole}
use Rattle.sign_judge.specs.Judging.{is_zero, shared}

-- ---- one byte
module _ (c : ℕ) where
  pub letter-low : c < 65 → false ≡ letter c
  letter-low h = rw (lt-leb 65 c h, lt-leb 97 c (omega arith)) refl

  pub letter-upper : 65 ≤ c → c ≤ 90 → true ≡ letter c
  letter-upper h k = rw (le-leb 65 c h, le-leb c 90 k) refl

  pub letter-between : 90 < c → c < 97 → false ≡ letter c
  letter-between h k = rw (le-leb 65 c (omega arith), lt-leb c 90 h, lt-leb 97 c k) refl

  pub letter-lower : 97 ≤ c → leb c 122 ≡ letter c
  letter-lower h = rw (le-leb 65 c (omega arith), lt-leb c 90 (omega arith), le-leb 97 c h) refl

pub symbol-last : (c : ℕ) → (c ≡ 43 → ⊥) → (c ≡ 45 → ⊥) → (c ≡ 42 → ⊥) → (c ≡ 47 → ⊥) → (c ≡ 60 → ⊥) → eqb c 62 ≡ symbol c
unfolding symbol
symbol-last c p q r s u = go (eqb c 43) (eqb c 45) (eqb c 42) (eqb c 47) (eqb c 60) (eqb c 62) (ne_eqb c 43 p) (ne_eqb c 45 q) (ne_eqb c 42 r) (ne_eqb c 47 s) (ne_eqb c 60 u)
  where
    same : (y : Bool) → y ≡ elim y [ true ↦ true | false ↦ false ]
    same true = refl
    same false = refl

    or : Bool → Bool → Bool
    or x y = elim x [ true ↦ true | false ↦ y ]

    go : (a b d e f g : Bool) → a ≡ false → b ≡ false → d ≡ false → e ≡ false → f ≡ false → g ≡ or a (or b (or d (or e (or f (or g false)))))
    go a b d e f g i j k l m = rw (i, j, k, l, m) (same g)

-- ---- bytes from one place up to another
-- the library's test of each item
pub all-is : (f : ℕ → Bool) (l : List ℕ) → list_all f l ≡ all f l
unfolding all
all-is f [] = refl
all-is f (x ∷ l) = go (f x) refl (all-is f l)
  where
    go : (b : Bool) → f x ≡ b → list_all f l ≡ all f l → list_all f (x ∷ l) ≡ all f (x ∷ l)
    go true e h = rw (e, all) h
    go false e h = rw (e, all) refl

module _ (f : ℕ → Bool) (l : List ℕ) where
  module _ (i t : ℕ) (h : i < t) (k : t ≤ length l) where
    pub slice-more : f (get_or l i 0) ≡ true → all f (slice i t l) ≡ all f (slice (i + 1) t l)
    unfolding all
    slice-more e = rw (add-one i, slice-cons i t l 0 h k, e, all) refl

    pub slice-fails : f (get_or l i 0) ≡ false → all f (slice i t l) ≡ false
    unfolding all
    slice-fails e = rw (slice-cons i t l 0 h k, e, all) refl

  pub slice-none : (i t : ℕ) → t ≤ i → i ≤ t → all f (slice i t l) ≡ true
  unfolding all
  slice-none i t h k = let e : i ≡ t = omega arith in rw (e, slice_empty t l) refl

-- ---- the bytes of a sign
word-front : (l : List ℕ) → word l ≡ take (length (word l)) l
unfolding word
word-front [] = refl
word-front (c ∷ l) = go (eqb c 0) refl (word-front l)
  where
    go : (b : Bool) → eqb c 0 ≡ b → word l ≡ take (length (word l)) l → word (c ∷ l) ≡ take (length (word (c ∷ l))) (c ∷ l)
    go true e ih = rw (e, word) refl
    go false e ih = rw (e, word) (ap (λ (z : List ℕ). c ∷ z) ih)

-- so many bytes behind a place
pub behind : (a n : ℕ) (t : List ℕ) → a ≤ length t → slice a (a + n) t ≡ take n (drop a t)
behind a n t h = ap (drop a) (take-add a n t) ∙ drop_at (take a t) (take n (drop a t)) a (length-take-le a t h)

pub all-between : (f : ℕ → Bool) (l : List ℕ) (a b : ℕ) → a ≤ b → b ≤ length l → list_all f (take (b - a) (drop a l)) ≡ all f (slice a b l)
all-between f l a b h k =
    let e : a + (b - a) ≡ b = omega arith in
    all-is f (take (b - a) (drop a l)) ∙ ap (all f) (sym (rw e at (behind a (b - a) l (omega arith))))

-- one byte, or more
one_byte : (w : List ℕ) → length w ≡ 1 → one_symbol w ≡ symbol (get_or w 0 0)
unfolding one_symbol
one_byte [] e = absurd (omega arith)
one_byte (c ∷ []) e = refl
one_byte (c ∷ d ∷ w) e = absurd (omega arith)

more_bytes : (w : List ℕ) → 1 < length w → one_symbol w ≡ false
unfolding one_symbol
more_bytes [] h = refl
more_bytes (c ∷ []) h = absurd (omega arith)
more_bytes (c ∷ d ∷ w) h = refl

-- an operation of the table: n is its sign's length
module _ (t : List ℕ) (o n : ℕ) (h : o < operations t) (e : n ≡ length (sign t o)) (k : n ≤ 8) where
  pub sign-slice : sign t o ≡ slice (9 + 9 * o) (9 + 9 * o + n) t
  unfolding sign
  sign-slice =
      let a = 9 + 9 * o in
      word-front (sign_field t o) ∙ ap (λ (z : ℕ). take z (sign_field t o)) (sym e) ∙ take-take n 8 (drop a t) k ∙ sym (behind a n t (omega (arith, entry_whole t o h)))

  pub sign-part : sign t o ≡ take n (drop (9 + 9 * o) t)
  sign-part = sign-slice ∙ behind (9 + 9 * o) n t (omega (arith, entry_whole t o h))

  rest-slice : drop (length (sign t o)) (sign_field t o) ≡ slice (9 + 9 * o + n) (9 + 9 * o + 8) t
  rest-slice =
      let a = 9 + 9 * o in
      ap (λ (z : ℕ). drop z (sign_field t o)) (sym e) ∙ ap (drop n) (sym (behind a 8 t (omega (arith, entry_whole t o h)))) ∙ drop-drop n a (take (a + 8) t)

  pub sign-at : (i : ℕ) → i < n → get_or (sign t o) i 0 ≡ get_or t (9 + 9 * o + i) 0
  sign-at i j =
      let a = 9 + 9 * o in
      ap (λ (z : List ℕ). get_or z i 0) (sign-slice ∙ behind a n t (omega (arith, entry_whole t o h))) ∙ get_or-take n (drop a t) i 0 j ∙ get_or-drop a t i 0

  tested : has_sign t o ≡ both (is_sign (sign t o)) (all is_zero (slice (9 + 9 * o + n) (9 + 9 * o + 8) t))
  unfolding has_sign well_padded
  tested = rw (lt-ltb o (operations t) h, rest-slice) refl

  pub not-padded : false ≡ all is_zero (slice (9 + 9 * o + n) (9 + 9 * o + 8) t) → false ≡ has_sign t o
  not-padded f = sym (tested ∙ rw (← f) (none (is_sign (sign t o))))
    where
      none : (b : Bool) → both b false ≡ false
      none true = refl
      none false = refl

  module _ (f : true ≡ all is_zero (slice (9 + 9 * o + n) (9 + 9 * o + 8) t)) where
    padded : has_sign t o ≡ is_sign (sign t o)
    padded = tested ∙ rw (← f) (whole (is_sign (sign t o)))
      where
        whole : (b : Bool) → both b true ≡ b
        whole true = refl
        whole false = refl

    pub no_byte : n ≡ 0 → false ≡ has_sign t o
    unfolding is_sign one_symbol
    no_byte z = sym (padded ∙ go (sign t o) (sym e ∙ z))
      where
        go : (w : List ℕ) → length w ≡ 0 → is_sign w ≡ false
        go [] q = refl
        go (c ∷ w) q = absurd (omega arith)

    pub by-letters : (n ≡ 0 → ⊥) → true ≡ all letter (slice (9 + 9 * o) (9 + 9 * o + n) t) → true ≡ has_sign t o
    unfolding is_sign
    by-letters z g = sym (padded ∙ rw (lt-ltb 0 (length (sign t o)) (omega arith), sign-slice, ← g) refl)

    module _ (g : false ≡ all letter (slice (9 + 9 * o) (9 + 9 * o + n) t)) where
      by_one : is_sign (sign t o) ≡ one_symbol (sign t o)
      unfolding is_sign
      by_one = let z : all letter (sign t o) ≡ false = ap (all letter) sign-slice ∙ sym g in go (ltb 0 (length (sign t o))) (all letter (sign t o)) z
        where
          go : (a b : Bool) → b ≡ false → either (both a b) (one_symbol (sign t o)) ≡ one_symbol (sign t o)
          go true b q = rw q refl
          go false b q = refl

      pub not-one : (n ≡ 0 → ⊥) → (n ≡ 1 → ⊥) → false ≡ has_sign t o
      not-one z y = sym (padded ∙ by_one ∙ more_bytes (sign t o) (omega arith))

      pub by-symbol : n ≡ 1 → symbol (get_or t (9 + 9 * o) 0) ≡ has_sign t o
      by-symbol y =
          let a : 9 + 9 * o + 0 ≡ 9 + 9 * o = omega arith in
          sym (padded ∙ by_one ∙ one_byte (sign t o) (sym e ∙ y) ∙ ap symbol (sign-at 0 (omega arith) ∙ ap (λ (z : ℕ). get_or t z 0) a))

-- ---- two signs
-- the library's comparison
pub pointwise-is : (w v : List ℕ) → pointwise nat_eq w v ≡ same_bytes w v
unfolding same_bytes
pointwise-is [] [] = refl
pointwise-is [] (d ∷ v) = refl
pointwise-is (c ∷ w) [] = refl
pointwise-is (c ∷ w) (d ∷ v) = go (eqb c d) refl (pointwise-is w v)
  where
    go : (b : Bool) → eqb c d ≡ b → pointwise nat_eq w v ≡ same_bytes w v → pointwise nat_eq (c ∷ w) (d ∷ v) ≡ same_bytes (c ∷ w) (d ∷ v)
    go true e h = rw (e, same_bytes) h
    go false e h = rw (e, same_bytes) refl

pub unlike-lengths : (w v : List ℕ) → (length w ≡ length v → ⊥) → false ≡ same_bytes w v
unfolding same_bytes
unlike-lengths [] [] n = absurd (n refl)
unlike-lengths [] (d ∷ v) n = refl
unlike-lengths (c ∷ w) [] n = refl
unlike-lengths (c ∷ w) (d ∷ v) n = go (eqb c d) refl (unlike-lengths w v (λ e. n (ap suc e)))
  where
    go : (b : Bool) → eqb c d ≡ b → false ≡ same_bytes w v → false ≡ same_bytes (c ∷ w) (d ∷ v)
    go true e ih = rw (e, same_bytes) ih
    go false e ih = rw (e, same_bytes) refl

module _ (w v : List ℕ) (i : ℕ) (h : i < length w) (k : i < length v) where
  pub bytes-more : get_or w i 0 ≡ get_or v i 0 → same_bytes (drop i w) (drop i v) ≡ same_bytes (drop (i + 1) w) (drop (i + 1) v)
  unfolding same_bytes
  bytes-more e = rw (add-one i, drop-cons w i 0 h, drop-cons v i 0 k, eq-eqb (get_or w i 0) (get_or v i 0) e, same_bytes) refl

  pub bytes-differ : (get_or w i 0 ≡ get_or v i 0 → ⊥) → same_bytes (drop i w) (drop i v) ≡ false
  unfolding same_bytes
  bytes-differ n = rw (drop-cons w i 0 h, drop-cons v i 0 k, ne_eqb (get_or w i 0) (get_or v i 0) n, same_bytes) refl

pub bytes-end : (w v : List ℕ) (i : ℕ) → length w ≤ i → length v ≤ i → same_bytes (drop i w) (drop i v) ≡ true
unfolding same_bytes
bytes-end w v i h k = rw (drop_of_length-le w h, drop_of_length-le v k) refl

-- ---- every other operation
abbrev pub alone : List ℕ → ℕ → ℕ → Bool
alone t o q = pick (eqb q o) true (pick (shares_sign t o q) false true)

-- the operations from q on, of n
abbrev pub alone_from : List ℕ → ℕ → ℕ → ℕ → Bool
alone_from t o n q = all (alone t o) (up_from q (n - q))

pub alone-start : (t : List ℕ) (o n : ℕ) → n ≡ operations t → own t o ≡ alone_from t o n 0
unfolding own
alone-start t o n e = let z : n - 0 ≡ operations t = omega arith in rw z refl

module _ (t : List ℕ) (o n q : ℕ) (h : q < n) where
  alone-step : alone t o q ≡ pick (shared t o q) false true
  alone-step = go (eqb q o)
    where
      go : (b : Bool) → pick b true (pick (shares_sign t o q) false true) ≡ pick (pick b false (shares_sign t o q)) false true
      go true = refl
      go false = refl

  pub alone-more : false ≡ shared t o q → alone_from t o n q ≡ alone_from t o n (q + 1)
  unfolding all up_from
  alone-more e =
      let z : n - q ≡ suc (n - (q + 1)) = omega arith in
      let y : alone t o q ≡ true = alone-step ∙ ap (λ (b : Bool). pick b false true) (sym e) in
      rw (z, y, up_from, all) (rw (add-one q) refl)

  pub alone-fails : true ≡ shared t o q → alone_from t o n q ≡ false
  unfolding all up_from
  alone-fails e =
      let z : n - q ≡ suc (n - (q + 1)) = omega arith in
      let y : alone t o q ≡ false = alone-step ∙ ap (λ (b : Bool). pick b false true) (sym e) in
      rw (z, y, up_from, all) refl

pub alone-end : (t : List ℕ) (o n q : ℕ) → n ≤ q → alone_from t o n q ≡ true
unfolding all up_from
alone-end t o n q h = let z : n - q ≡ 0 = omega arith in rw z refl

-- ---- an operation's precedence, or 0
module _ (t : List ℕ) (o : ℕ) where
  unsigned : has_sign t o ≡ false → binding_of t o ≡ 0
  unfolding proper
  unsigned e = rw e refl

  pub unknown : operations t ≤ o → 0 ≡ binding_of t o
  unfolding has_sign
  unknown h = sym (unsigned (rw (le-ltb o (operations t) h) refl))

  pub no_sign : false ≡ has_sign t o → 0 ≡ binding_of t o
  no_sign e = sym (unsigned (sym e))

  pub not_own : false ≡ own t o → 0 ≡ binding_of t o
  unfolding proper
  not_own e = sym (go (has_sign t o))
    where
      go : (b : Bool) → pick (both b (both (own t o) (within 1 9 (prec_of t o)))) (prec_of t o) 0 ≡ 0
      go true = rw (← e) refl
      go false = refl

  unbound : within 1 9 (prec_of t o) ≡ false → binding_of t o ≡ 0
  unfolding proper
  unbound e = go (has_sign t o) (own t o)
    where
      go : (a b : Bool) → pick (both a (both b (within 1 9 (prec_of t o)))) (prec_of t o) 0 ≡ 0
      go true true = rw e refl
      go true false = refl
      go false b = refl

  pub too-low : prec_of t o ≡ 0 → 0 ≡ binding_of t o
  too-low e = sym (unbound (rw (lt-leb 1 (prec_of t o) (omega arith)) refl))

  pub too-high : 9 < prec_of t o → 0 ≡ binding_of t o
  too-high h = sym (unbound (rw (le-leb 1 (prec_of t o) (omega arith), lt-leb (prec_of t o) 9 h) refl))

  pub bound : true ≡ has_sign t o → true ≡ own t o → (prec_of t o ≡ 0 → ⊥) → prec_of t o ≤ 9 → prec_of t o ≡ binding_of t o
  unfolding proper
  bound e f g h = sym (rw (← e, ← f, le-leb 1 (prec_of t o) (omega arith), le-leb (prec_of t o) 9 h) refl)

-- ---- of each operation
module _ (t : List ℕ) where
  pub bindings-length : length (bindings t) ≡ 64
  unfolding bindings
  bindings-length = length-map (up_from 0 64) (binding_of t) ∙ up-length 64 0

  pub bindings-at : (o : ℕ) → o < 64 → get_or (bindings t) o 0 ≡ binding_of t o
  unfolding bindings
  bindings-at o h = up_at (binding_of t) 64 0 o 0 h ∙ ap (binding_of t) (omega arith)

  pub bindings-whole : (list : List ℕ) → length list ≡ 64 → over (bindings t) list ≡ bindings t
  bindings-whole list e = let h : length list ≤ length (bindings t) = omega (arith, bindings-length) in ap (λ (z : List ℕ). bindings t ++ z) (drop_of_length-le list h) ∙ append-nil (bindings t)
