-- (02, Paper 2) "the lowest-numbered class holding a literal that also stands in another class": it holds one, no lower class does, and it is the first class that holds a literal of a later one.
use Rattle.std.specs.Prelude.{◌≡◌, refl, ◌↔◌, ◌≢◌, Bool, true, false, List, ◌++◌, ℕ, ◌+◌, ◌-◌, ◌≤◌, ◌<◌, length, get_or, take}
use Rattle.std.proofs.Common.{sym, ap, ◌∙◌, length-drop, get_or-take, get_or-drop, length-take-le}
use Rattle.std.proofs.Math.Logic.{inl, inr}
use Rattle.std.proofs.Math.Decide.{dec_lt, ℕ_discrete}
use native.Mathlib.Omega.{arith}
use Rattle.std.proofs.Math.ListN.{drop}
use Rattle.spec.specs.Bytes.{refused}
use Rattle.spec.specs.Image.{Tables, Class, literals_apart, doubled_in, doubled_elsewhere, lowest_doubled, the_class, kind_of, image_of, tables_of}
use Rattle.spec.specs.Meaning.{In, HoldsDoubled}
use Rattle.laws.specs.Tests.{clash, is_false}
use Rattle.laws.specs.Lists.{in_left, in_right, in-append}
use Rattle.laws.specs.AcceptedLists.{at_in, in-at}
use Rattle.laws.specs.AcceptedLiterals.{none, Shared, doubled-said, doubled-test, apart-rule}
use Rattle.laws.specs.Valid.{ten}
use Rattle.laws.specs.Accepted.{refused-in-its-case}
use Rattle.laws.specs.Firsts.{first_from, found, first-within, first-skips}

module _ (t : Tables) where
  abbrev n : ℕ
  n = length t.classes

  -- ---- two classes that share a literal
  shared : {c : ℕ} (H : HoldsDoubled t c) → Shared t (the_class t c) (the_class t H.other)
  shared H = record { one = H.here; two = H.there; of = H.of; too = H.too; literal = H.literal; operation = H.alike.0; value = H.alike.1 }

  holds : (c d : ℕ) → c ≢ d → c < n → d < n → Shared t (the_class t c) (the_class t d) → HoldsDoubled t c
  holds c d a h k s = record { other = d; two = a; within = (h, k); here = s.one; there = s.two; of = s.of; too = s.too; literal = s.literal; alike = (s.operation, s.value) }

  turned : {c : ℕ} (H : HoldsDoubled t c) → HoldsDoubled t H.other
  turned {c} H = record {
    other = c;
    two = λ e. H.two (sym e);
    within = (H.within.1, H.within.0);
    here = H.there;
    there = H.here;
    of = H.too;
    too = H.of;
    literal = sym (ap (kind_of t) H.alike.0) ∙ H.literal;
    alike = (sym H.alike.0, sym H.alike.1);
  }

  -- ---- the classes before class c, and those behind it
  in-before : (c d : ℕ) → d < c → c < n → In (the_class t d) (take c t.classes)
  in-before c d b h = rw (← get_or-take c t.classes d none b) (in-at (take c t.classes) d none (omega (arith, length-take-le c t.classes (omega arith))))

  in-behind : (c d : ℕ) → c < d → d < n → In (the_class t d) (drop (c + 1) t.classes)
  in-behind c d b h =
      let j : c + 1 + (d - (c + 1)) ≡ d = omega arith in
      let e : get_or (drop (c + 1) t.classes) (d - (c + 1)) none ≡ the_class t d = get_or-drop (c + 1) t.classes (d - (c + 1)) none ∙ ap (the_class t) j in
      rw (← e) (in-at (drop (c + 1) t.classes) (d - (c + 1)) none (omega (arith, length-drop (c + 1) t.classes)))

  before_at : (c : ℕ) {x : Class} → c < n → In x (take c t.classes) → (d : ℕ) × (d < c) × (x ≡ the_class t d)
  before_at c h i =
      let (d, b, q) = at_in none i in
      let k : d < c = omega (arith, b, length-take-le c t.classes (omega arith)) in
      (d, k, sym q ∙ get_or-take c t.classes d none k)

  behind-at : (c : ℕ) {x : Class} → In x (drop (c + 1) t.classes) → (d : ℕ) × (c < d) × (d < n) × (x ≡ the_class t d)
  behind-at c i =
      let (j, b, q) = at_in none i in
      (c + 1 + j, omega arith, omega (arith, b, length-drop (c + 1) t.classes), sym q ∙ get_or-drop (c + 1) t.classes j none)

  -- ---- a literal of class c stands in a later class
  abbrev pub doubled_later : ℕ → Bool
  doubled_later c = doubled_in t (the_class t c) (drop (c + 1) t.classes)

  later-said : (c : ℕ) → c < n → doubled_later c ≡ true → HoldsDoubled t c
  later-said c h e =
      let (x, i, s) = doubled-said t (the_class t c) (drop (c + 1) t.classes) e in
      let (d, b, k, q) = behind-at c i in
      holds c d (λ z. omega arith) h k (rw q at s)

  later-test : (c : ℕ) (H : HoldsDoubled t c) → c < H.other → doubled_later c ≡ true
  later-test c H b = doubled-test t (the_class t c) (drop (c + 1) t.classes) (the_class t H.other) (in-behind c H.other b H.within.1) (shared H)

  -- ---- .. in another class
  elsewhere-said : (c : ℕ) → c < n → doubled_elsewhere t c ≡ true → HoldsDoubled t c
  unfolding doubled_elsewhere
  elsewhere-said c h e =
      let (x, i, s) = doubled-said t (the_class t c) (take c t.classes ++ drop (c + 1) t.classes) e in
      elim (in-append (take c t.classes) i) [
        | inl j ↦ let (d, b, q) = before_at c h j in holds c d (λ z. omega arith) h (omega arith) (rw q at s)
        | inr j ↦ let (d, b, k, q) = behind-at c j in holds c d (λ z. omega arith) h k (rw q at s)
      ]

  elsewhere-test : (c : ℕ) → HoldsDoubled t c → doubled_elsewhere t c ≡ true
  unfolding doubled_elsewhere
  elsewhere-test c H = doubled-test t (the_class t c) (take c t.classes ++ drop (c + 1) t.classes) (the_class t H.other) (go (dec_lt H.other c) (dec_lt c H.other)) (shared H)
    where
      go : Dec (H.other < c) → Dec (c < H.other) → In (the_class t H.other) (take c t.classes ++ drop (c + 1) t.classes)
      go (yes b) k = in_left (drop (c + 1) t.classes) (in-before c H.other b H.within.0)
      go (no b) (yes k) = in_right (take c t.classes) (in-behind c H.other k H.within.1)
      go (no b) (no k) = absurd (H.two (omega arith))

  pub elsewhere-rule : (c : ℕ) → c < n → (doubled_elsewhere t c ≡ true) ↔ HoldsDoubled t c
  elsewhere-rule c h = (elsewhere-said c h, elsewhere-test c)

  -- ---- the lowest
  lowest-first : lowest_doubled t ≡ first_from (doubled_elsewhere t) 0 n
  unfolding lowest_doubled first_from
  lowest-first = let z : n - 0 ≡ n = omega arith in rw z (omega arith)

  pub lowest-within : lowest_doubled t ≤ n
  lowest-within = rw lowest-first (first-within (doubled_elsewhere t) 0 n (omega arith))

  -- it holds such a literal
  pub lowest-holds : lowest_doubled t < n → HoldsDoubled t (lowest_doubled t)
  lowest-holds h = elsewhere-said (lowest_doubled t) h ((found (doubled_elsewhere t) 0 n (lowest_doubled t) lowest-first).hits h)

  -- no lower class does
  pub lowest-least : (c : ℕ) → HoldsDoubled t c → lowest_doubled t ≤ c
  lowest-least c H = go (dec_lt c (lowest_doubled t))
    where
      go : Dec (c < lowest_doubled t) → lowest_doubled t ≤ c
      go (yes l) = absurd (clash (sym (elsewhere-test c H) ∙ first-skips (doubled_elsewhere t) 0 n (omega arith) c (omega arith) (rw lowest-first at l)))
      go (no l) = omega arith

  -- no other class is both
  pub lowest-is : (c : ℕ) → HoldsDoubled t c → ((d : ℕ) → HoldsDoubled t d → c ≤ d) → c ≡ lowest_doubled t
  lowest-is c H least =
      let a = lowest-least c H in
      let b = least (lowest_doubled t) (lowest-holds (omega (arith, a, H.within.0))) in omega arith

  -- rule 10 is kept exactly where there is none
  pub lowest-none : (literals_apart t t.classes ≡ true) ↔ (lowest_doubled t ≡ n)
  lowest-none = (said, test)
    where
      said : literals_apart t t.classes ≡ true → lowest_doubled t ≡ n
      said e = go (dec_lt (lowest_doubled t) n)
        where
          go : Dec (lowest_doubled t < n) → lowest_doubled t ≡ n
          go (yes h) =
              let H = lowest-holds h in
              absurd (H.two (((apart-rule t).0 e).apart (lowest_doubled t) H.other H.here H.there h H.within.1 H.of H.too H.literal H.alike.0 H.alike.1))
          go (no h) = omega (arith, lowest-within)

      test : lowest_doubled t ≡ n → literals_apart t t.classes ≡ true
      test e = (apart-rule t).1 (record { apart = λ c d m k hc hd i j z o v. go c d (λ a. holds c d a hc hd (record { one = m; two = k; of = i; too = j; literal = z; operation = o; value = v })) (ℕ_discrete c d) })
        where
          go : (c d : ℕ) → (c ≢ d → HoldsDoubled t c) → Dec (c ≡ d) → c ≡ d
          go c d f (yes q) = q
          go c d f (no a) = absurd (omega (arith, e, lowest-least c (f a), (f a).within.0))

  pub lowest-some : (literals_apart t t.classes ≡ false) ↔ (lowest_doubled t < n)
  lowest-some = (
    λ e. go e (dec_lt (lowest_doubled t) n),
    λ h. is_false (literals_apart t t.classes) (λ e. absurd (omega (arith, h, lowest-none.0 e))),
  )
    where
      go : literals_apart t t.classes ≡ false → Dec (lowest_doubled t < n) → lowest_doubled t < n
      go e (yes h) = h
      go e (no h) = absurd (clash (sym (lowest-none.1 (omega (arith, lowest-within))) ∙ e))

  -- ---- it is the first class that holds a literal of a later one: the other class that holds it is not lower
  lowest-later : lowest_doubled t < n → doubled_later (lowest_doubled t) ≡ true
  lowest-later h =
      let H = lowest-holds h in
      later-test (lowest_doubled t) H (omega (arith, lowest-least H.other (turned H), H.two))

  pub first-later : first_from doubled_later 0 n ≡ lowest_doubled t
  first-later = omega (arith, below (dec_lt (lowest_doubled t) f), above (dec_lt f n))
    where
      f : ℕ
      f = first_from doubled_later 0 n

      most : f ≤ n
      most = first-within doubled_later 0 n (omega arith)

      below : Dec (lowest_doubled t < f) → f ≤ lowest_doubled t
      below (yes l) = absurd (clash (sym (lowest-later (omega (arith, l, most))) ∙ first-skips doubled_later 0 n (omega arith) (lowest_doubled t) (omega arith) l))
      below (no l) = omega arith

      above : Dec (f < n) → lowest_doubled t ≤ f
      above (yes h) = lowest-least f (later-said f h ((found doubled_later 0 n f refl).hits h))
      above (no h) = omega (arith, h, lowest-within)

-- ---- of an image that is refused by 10
pub doubled-refused : (s : List ℕ) → image_of s ≡ refused 10 → HoldsDoubled (tables_of s) (lowest_doubled (tables_of s))
doubled-refused s e =
    let broken = ((refused-in-its-case s 10).0 e).3 in
    lowest-holds (tables_of s) ((lowest-some (tables_of s)).0 (is_false (literals_apart (tables_of s) (tables_of s).classes) (λ a. broken (ten refl ((apart-rule (tables_of s)).0 a)))))
