-- 10: "No literal (operation and value) stands in two classes": the test and its record.
use Rattle.std.specs.Prelude.{◌≡◌, ◌↔◌, Bool, true, false, ℕ, zero, suc, ◌<◌, eqb, length, get_or}
use Rattle.std.proofs.Math.Path.{refl}
use Rattle.std.proofs.Common.{sym, ap, ◌∙◌, suc-le-suc, zero-le, not-suc-le-zero, le_of_suc-le-suc, arith}
use mathlib.Core.List.{List, [], ◌∷◌}
use Rattle.std.proofs.Math.Decide.{dec_lt}
use borrow.Author.Tests.{eqb-true, eq-eqb}
use Rattle.spec.specs.Bytes.{both, any, Two, same_two}
use Rattle.spec.specs.Image.{Tables, Class, Member, Lit, literals_apart, doubled_in, has_literal, kind_of, members_in, members_of}
use Rattle.spec.specs.Meaning.{In}
use Rattle.laws.specs.Tests.{both_true, clash, is_false}
use Rattle.laws.specs.AcceptedLists.{any-in, any_of, at_in, in-at}
use Rattle.laws.specs.Valid.{Apart}

-- where no class stands
abbrev pub none : Class
none = record { first = 0; count = 0; best = 0; size = 0 }

module _ (t : Tables) where
  -- member m is the literal v
  abbrev pub is_literal : Two → Member → Bool
  is_literal v m = both (eqb (kind_of t m.op) Lit) (same_two v (m.op, m.value))

  pub literal-rule : (o v : ℕ) (m : Member) → is_literal (o, v) m ≡ true ↔ (kind_of t m.op ≡ Lit) × (o ≡ m.op) × (v ≡ m.value)
  literal-rule o v m = (
    λ e.
        let (a, r) = (both_true (eqb (kind_of t m.op) Lit) (same_two (o, v) (m.op, m.value))).0 e in
        let (b, c) = (both_true (eqb o m.op) (eqb v m.value)).0 r in
        (eqb-true (kind_of t m.op) Lit a, eqb-true o m.op b, eqb-true v m.value c),
    λ h.
        (both_true (eqb (kind_of t m.op) Lit) (same_two (o, v) (m.op, m.value))).1 (
          eq-eqb (kind_of t m.op) Lit h.0,
          (both_true (eqb o m.op) (eqb v m.value)).1 (eq-eqb o m.op h.1, eq-eqb v m.value h.2),
        ),
  )

  -- a literal that classes c and d share
  pub record Shared (c d : Class) : Type 0 where
    pub one : Member
    pub two : Member
    pub of : In one (members_in t c)
    pub too : In two (members_in t d)
    pub literal : kind_of t one.op ≡ Lit
    pub operation : one.op ≡ two.op
    pub value : one.value ≡ two.value

  pub doubled-said : (c : Class) (l : List Class) → doubled_in t c l ≡ true → (d : Class) × In d l × Shared c d
  unfolding doubled_in has_literal
  doubled-said c l e =
      let (m, i, q) = any-in (λ m. both (eqb (kind_of t m.op) Lit) (any (has_literal t (m.op, m.value)) l)) (members_in t c) e in
      let (k, r) = (both_true (eqb (kind_of t m.op) Lit) (any (has_literal t (m.op, m.value)) l)).0 q in
      let (d, j, p) = any-in (has_literal t (m.op, m.value)) l r in
      let (n, h, z) = any-in (is_literal (m.op, m.value)) (members_in t d) p in
      let (x, y, w) = (literal-rule m.op m.value n).0 z in
      (d, j, record { one = m; two = n; of = i; too = h; literal = eqb-true (kind_of t m.op) Lit k; operation = y; value = w })

  pub doubled-test : (c : Class) (l : List Class) (d : Class) → In d l → Shared c d → doubled_in t c l ≡ true
  unfolding doubled_in has_literal
  doubled-test c l d j s =
      any_of (λ m. both (eqb (kind_of t m.op) Lit) (any (has_literal t (m.op, m.value)) l)) (members_in t c) s.one s.of
      ((both_true (eqb (kind_of t s.one.op) Lit) (any (has_literal t (s.one.op, s.one.value)) l)).1 (
        eq-eqb (kind_of t s.one.op) Lit s.literal,
        any_of (has_literal t (s.one.op, s.one.value)) l d j
            (any_of (is_literal (s.one.op, s.one.value)) (members_in t d) s.two s.too
            ((literal-rule s.one.op s.one.value s.two).1 (sym (ap (kind_of t) s.operation) ∙ s.literal, s.operation, s.value))),
      ))

  if-not : (b a : Bool) → elim b [ true ↦ false | false ↦ a ] ≡ true ↔ (b ≡ false) × (a ≡ true)
  if-not true a = (λ e. absurd (clash (sym e)), λ h. absurd (clash h.0))
  if-not false a = (λ e. (refl, e), λ h. h.1)

  pub apart_cons : (c : Class) (l : List Class) → literals_apart t (c ∷ l) ≡ true ↔ (doubled_in t c l ≡ false) × (literals_apart t l ≡ true)
  unfolding literals_apart
  apart_cons c l = if-not (doubled_in t c l) (literals_apart t l)

  list-said : (l : List Class) → literals_apart t l ≡ true → (i j : ℕ) → i < j → j < length l → Shared (get_or l i none) (get_or l j none) → ⊥
  list-said [] e i j h k s = not-suc-le-zero k
  list-said (c ∷ l) e zero zero h k s = not-suc-le-zero h
  list-said (c ∷ l) e (suc i) zero h k s = not-suc-le-zero h
  list-said (c ∷ l) e zero (suc j) h k s =
      clash (sym (doubled-test c l (get_or l j none) (in-at l j none (le_of_suc-le-suc k)) s) ∙ ((apart_cons c l).0 e).0)
  list-said (c ∷ l) e (suc i) (suc j) h k s = list-said l ((apart_cons c l).0 e).1 i j (le_of_suc-le-suc h) (le_of_suc-le-suc k) s

  list-test : (l : List Class) → ((i j : ℕ) → i < j → j < length l → Shared (get_or l i none) (get_or l j none) → ⊥) → literals_apart t l ≡ true
  unfolding literals_apart
  list-test [] h = refl
  list-test (c ∷ l) h =
      (apart_cons c l).1 (
        is_false (doubled_in t c l) (λ e.
            let (d, p, s) = doubled-said c l e in
            let (j, b, q) = at_in none p in h 0 (suc j) (suc-le-suc zero-le) (suc-le-suc b) (rw q s)),
        list-test l (λ i j a b. h (suc i) (suc j) (suc-le-suc a) (suc-le-suc b)),
      )

  apart-said : literals_apart t t.classes ≡ true → Apart t
  apart-said e = record { apart = λ c d m n hc hd i j k o v. equal c d m n hc hd i j k o v (dec_lt c d) (dec_lt d c) }
    where
      equal : (c d : ℕ) (m n : Member) → c < length t.classes → d < length t.classes → In m (members_of t c) → In n (members_of t d)
          → kind_of t m.op ≡ Lit → m.op ≡ n.op → m.value ≡ n.value → Dec (c < d) → Dec (d < c) → c ≡ d
      equal c d m n hc hd i j k o v (yes h) g =
          absurd (list-said t.classes e c d h hd (record { one = m; two = n; of = i; too = j; literal = k; operation = o; value = v }))
      equal c d m n hc hd i j k o v (no h) (yes g) =
          absurd (list-said t.classes e d c g hc
          (record { one = n; two = m; of = j; too = i; literal = sym (ap (kind_of t) o) ∙ k; operation = sym o; value = sym v }))
      equal c d m n hc hd i j k o v (no h) (no g) = omega arith

  apart-test : Apart t → literals_apart t t.classes ≡ true
  apart-test v =
      list-test t.classes (λ i j h k s.
      let e = v.apart i j s.one s.two (omega arith) k s.of s.too s.literal s.operation s.value in omega arith)

  pub apart-rule : literals_apart t t.classes ≡ true ↔ Apart t
  apart-rule = (apart-said, apart-test)
