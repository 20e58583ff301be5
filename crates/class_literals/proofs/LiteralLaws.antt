-- The test of doubled literals, for each way out of a turn.
use mathlib.Core.Path.{◌≡◌, refl, sym, ap, ◌∙◌}
use mathlib.Core.Bool.{Bool, true, false}
use mathlib.Core.List.{List, [], ◌∷◌, map}
use Prim.Native.Nat.{ℕ, zero, suc, ◌+◌, ◌≤◌, ◌<◌}
use native.Mathlib.Nat.{not-suc-le-zero, le_of_suc-le-suc}
use native.Mathlib.Numerals.{add-one}
use native.Mathlib.Omega.{arith}
use borrow.Author.Tests.{eqb-true, eq-eqb, ne_eqb}
use lib.Dec.{eqb}
use lib.ListN.{length, get_or, drop}
use Rattle.spec.specs.Bytes.{Two, any, both, same_two}
use Rattle.spec.specs.Image.{Tables, Class, Member, Lit, doubled_in, has_literal, kind_of, members_of, spans_follow, tables_of, the_class, the_member}
use Rattle.laws.specs.Tests.{both_true}
use Rattle.laws.specs.AcceptedLists.{follow-cons}
use Rattle.laws.specs.AcceptedLiterals.{is_literal}
use Rattle.laws.specs.AcceptedSpans.{follow-rule, class-span, class-spans-length, classes-within, part_length, part_at}
use Rattle.laws.specs.AcceptedTurns.{any-go, any-stop, any-end, later-literals}
use Rattle.laws.specs.Valid.{Follow, class_spans}
use Rattle.image.specs.Loaded.{Loaded, classes-many}
use Rattle.image.specs.declared.Image.{Image}

-- the spans after span i
follow-rest : (end at : ℕ) (l : List Two) (i : ℕ) → i < length l → spans_follow end at l ≡ true
    → spans_follow end ((get_or l i (0, 0)).0 + (get_or l i (0, 0)).1) (drop (suc i) l) ≡ true
follow-rest end at [] i h e = absurd (not-suc-le-zero h)
follow-rest end at (s ∷ l) zero h e =
    let (q, r) = (both_true (eqb s.0 at) (spans_follow end (at + s.1) l)).0 (sym (follow-cons end at s l) ∙ e) in
    let here : at ≡ s.0 = sym (eqb-true s.0 at q) in rw here at r
follow-rest end at (s ∷ l) (suc i) h e =
    let (q, r) = (both_true (eqb s.0 at) (spans_follow end (at + s.1) l)).0 (sym (follow-cons end at s l) ∙ e) in
    follow-rest end (at + s.1) l i (le_of_suc-le-suc h) r

map-drop : {A B : Type 0} (f : A → B) (l : List A) (i : ℕ) → map f (drop i l) ≡ drop i (map f l)
map-drop f [] zero = refl
map-drop f [] (suc i) = refl
map-drop f (x ∷ l) zero = refl
map-drop f (x ∷ l) (suc i) = map-drop f l i

-- a literal stands in a class after class c exactly where it stands after the members of class c
pub after-class : (t : Tables) (v : Two) (c : ℕ) → c < length t.classes → Follow (length t.members) (class_spans t)
    → any (has_literal t v) (drop (suc c) t.classes) ≡ any (is_literal t v) (drop ((the_class t c).first + (the_class t c).count) t.members)
after-class t v c h f =
    let e = follow-rest (length t.members) 0 (class_spans t) c (rw (class-spans-length t) h) ((follow-rule (length t.members) (class_spans t)).1 f) in
    let g = rw (class-span t c, ← map-drop {B = Two} (λ (c : Class). (c.first, c.count)) t.classes (suc c)) at e in
    later-literals t v ((the_class t c).first + (the_class t c).count) (drop (suc c) t.classes) g

-- ---- a member as a literal
none : (a b : Bool) → b ≡ false → both a b ≡ false
none true b e = e
none false b e = refl

module _ (t : Tables) (x : Member) (o v : ℕ) (literal : kind_of t o ≡ Lit) {w : ℕ} (value : w ≡ x.value) where
  pub other-value : (w ≡ v → ⊥) → false ≡ is_literal t (o, v) x
  other-value n =
      sym (none (eqb (kind_of t x.op) Lit) (same_two (o, v) (x.op, x.value))
      (none (eqb o x.op) (eqb v x.value) (ne_eqb v x.value (λ e. n (value ∙ sym e)))))

  module _ {p : ℕ} (same : w ≡ v) (op : p ≡ x.op) where
    pub other-op : (p ≡ o → ⊥) → false ≡ is_literal t (o, v) x
    other-op n =
        sym (none (eqb (kind_of t x.op) Lit) (same_two (o, v) (x.op, x.value))
        (rw (ne_eqb o x.op (λ e. n (op ∙ sym e))) refl))

    pub same-literal : p ≡ o → true ≡ is_literal t (o, v) x
    same-literal e =
        let q : x.op ≡ o = sym op ∙ e in
        rw (q, eq-eqb (kind_of t o) Lit literal, eq-eqb o o refl, eq-eqb v x.value (sym same ∙ value)) refl

-- a member that is a literal, or not
module _ (t : Tables) (x : Member) (to : ℕ) {o k : ℕ} (op : o ≡ x.op) (kind : k ≡ kind_of t o) where
  abbrev doubled_from : Bool
  doubled_from = both (eqb (kind_of t x.op) Lit) (any (is_literal t (x.op, x.value)) (drop to t.members))

  pub no-literal : (k ≡ Lit → ⊥) → false ≡ doubled_from
  no-literal n = rw (ne_eqb (kind_of t x.op) Lit (λ e. n (kind ∙ ap (kind_of t) op ∙ e))) refl

  pub a-literal : {r : Bool} {v : ℕ} → k ≡ Lit → v ≡ x.value → r ≡ any (is_literal t (o, v)) (drop to t.members) → r ≡ doubled_from
  a-literal e q h =
      rw (eq-eqb (kind_of t x.op) Lit (sym (ap (kind_of t) op) ∙ sym kind ∙ e)) (rw (op, q) at h)

-- ---- the members of class c, by their numbers in the table
abbrev no_member : Member
no_member = record { op = 0; value = 0; first = 0; count = 0 }

-- member m is a literal that stands in a class after class c
abbrev pub doubled_after : Tables → ℕ → Member → Bool
doubled_after t c m = both (eqb (kind_of t m.op) Lit) (any (has_literal t (m.op, m.value)) (drop (c + 1) t.classes))

pub class-start : (t : Tables) (c : ℕ) → doubled_in t (the_class t c) (drop (c + 1) t.classes) ≡ any (doubled_after t c) (drop 0 (members_of t c))
unfolding doubled_in
class-start t c = refl

module _ (t : Tables) (c : ℕ) (h : c < length t.classes) (f : Follow (length t.members) (class_spans t)) (i : ℕ) where
  long : length (members_of t c) ≡ (the_class t c).count
  long = part_length t.members (the_class t c).first (the_class t c).count (classes-within t f c h)

  module _ {a n : ℕ} {r : Bool} (first : a ≡ (the_class t c).first) (count : n ≡ (the_class t c).count) (b : i < n)
      (member : r
      ≡ both (eqb (kind_of t (the_member t (a + i)).op) Lit)
      (any (is_literal t ((the_member t (a + i)).op, (the_member t (a + i)).value)) (drop (a + n) t.members))) where
    entry : get_or (members_of t c) i no_member ≡ the_member t (a + i)
    entry =
        part_at t.members (the_class t c).first (the_class t c).count i no_member (omega arith)
        ∙ ap (λ (k : ℕ). the_member t (k + i)) (sym first)

    here : doubled_after t c (get_or (members_of t c) i no_member) ≡ r
    here =
        rw (entry, add-one c, after-class t ((the_member t (a + i)).op, (the_member t (a + i)).value) c h f, ← first, ← count) (sym member)

    pub class-stop : r ≡ true → any (doubled_after t c) (drop i (members_of t c)) ≡ true
    class-stop e = any-stop (doubled_after t c) (members_of t c) i no_member (omega (arith, long)) (here ∙ e)

    pub class-go : r ≡ false → any (doubled_after t c) (drop (i + 1) (members_of t c)) ≡ any (doubled_after t c) (drop i (members_of t c))
    class-go e = any-go (doubled_after t c) (members_of t c) i no_member (omega (arith, long)) (here ∙ e)

  pub class-end : (the_class t c).count ≤ i → any (doubled_after t c) (drop i (members_of t c)) ≡ false
  class-end b = any-end (doubled_after t c) (members_of t c) i (omega (arith, long))

-- a class of the image
pub class-there : (s : List ℕ) (im : Image) {c : ℕ} → Loaded s im → c < im.classes → c < length (tables_of s).classes
class-there s im l h = omega (arith, classes-many s im l)
