-- The tests of spans, members and order, for each way out of a turn.
use mathlib.Core.Path.{◌≡◌, refl, sym, ap, ◌∙◌}
use mathlib.Core.Bool.{Bool, true, false}
use mathlib.Core.List.{List, ◌∷◌, map}
use Prim.Native.Nat.{ℕ, ◌+◌, ◌<◌, ◌≤◌}
use native.Mathlib.Omega.{arith}
use borrow.Author.Tests.{le-ltb, lt-ltb, le-leb, lt-leb, eq-eqb, ne_eqb}
use lib.Dec.{leb, eqb}
use lib.ListN.{length, get_or, drop}
use Rattle.spec.specs.Bytes.{Two, all}
use Rattle.spec.specs.Image.{Tables, Class, Member, Lit, member_right, members_in, kind_of, rises, spans_follow, spans_right, the_member}
use Rattle.laws.specs.Valid.{class_spans, member_spans}
use Rattle.laws.specs.AcceptedRules.{ops-length, ops-at}
use Rattle.laws.specs.AcceptedTurns.{follow-go, follow-stop, rises-go, rises-stop, rises-end}

-- ---- a span (f, n), read from entry i
module _ (end at : ℕ) (l : List Two) (i : ℕ) {a b f : ℕ} (h : i < length l) (entry : get_or l i (0, 0) ≡ (a, b)) (first : f ≡ a) where
  begins : (get_or l i (0, 0)).0 ≡ f
  begins = ap (λ (x : Two). x.0) entry ∙ sym first

  pub span-go : {n : ℕ} → n ≡ b → f ≡ at → spans_follow end (at + n) (drop (i + 1) l) ≡ spans_follow end at (drop i l)
  span-go q e =
      let z : (get_or l i (0, 0)).1 ≡ _ = ap (λ (x : Two). x.1) entry ∙ sym q in
      rw z at (follow-go end at l i h (begins ∙ e))

  pub span-stop : (f ≡ at → ⊥) → spans_follow end at (drop i l) ≡ false
  span-stop n = follow-stop end at l i h (λ e. n (sym begins ∙ e))

-- ---- operation number, child count, literal field
module _ (t : Tables) (x : Member) {o n : ℕ} (many : length t.operations ≡ n) (op : o ≡ x.op) where
  pub op-wrong : n ≤ o → false ≡ member_right t x
  op-wrong h = rw (many, ← op, le-ltb o n h) refl

  module _ {k : ℕ} (count : k ≡ x.count) (h : o < n) where
    pub count-wrong : 64 < k → false ≡ member_right t x
    count-wrong g = rw (many, ← op, lt-ltb o n h, ← count, lt-leb k 64 g) refl

    module _ {v : ℕ} (value : v ≡ x.value) (g : k ≤ 64) where
      pub value-zero : v ≡ 0 → true ≡ member_right t x
      value-zero e = rw (many, ← op, lt-ltb o n h, ← count, le-leb k 64 g, ← value, eq-eqb v 0 e) refl

      pub value-other : {q : ℕ} → (v ≡ 0 → ⊥) → q ≡ kind_of t o → eqb q Lit ≡ member_right t x
      value-other e r = rw (many, ← op, lt-ltb o n h, ← count, le-leb k 64 g, ← value, ne_eqb v 0 e, r) refl

-- ---- the order of the operations of class x
module _ (t : Tables) (x : Class) (w : x.first + x.count ≤ length t.members) (last i : ℕ) where
  abbrev ops : List ℕ
  ops = map (λ m. m.op) (members_in t x)

  module _ {f o : ℕ} (first : f ≡ x.first) (h : i < x.count) (op : o ≡ (the_member t (f + i)).op) where
    entry : get_or ops i 0 ≡ o
    entry = ops-at t x w i h ∙ ap (λ (k : ℕ). (the_member t (k + i)).op) (sym first) ∙ sym op

    pub order-stop : o < last → rises (last ∷ drop i ops) ≡ false
    order-stop g = rises-stop last ops i (omega (arith, ops-length t x w)) (omega (arith, entry))

    pub order-go : last ≤ o → rises (o ∷ drop (i + 1) ops) ≡ rises (last ∷ drop i ops)
    order-go g = rw entry at (rises-go last ops i (omega (arith, ops-length t x w)) (omega (arith, entry)))

  pub order-end : x.count ≤ i → rises (last ∷ drop i ops) ≡ true
  order-end h = rises-end last ops i (omega (arith, ops-length t x w))

-- ---- rule 7, part after part
module _ (t : Tables) (classes : spans_follow (length t.members) 0 (class_spans t) ≡ true) where
  pub children-break : spans_follow (length t.children) 0 (member_spans t) ≡ false → false ≡ spans_right t
  unfolding spans_right
  children-break h = rw (classes, h) refl

  module _ (members : spans_follow (length t.children) 0 (member_spans t) ≡ true) where
    pub count-breaks : all (λ c. leb 1 c.count) t.classes ≡ false → false ≡ spans_right t
    unfolding spans_right
    count-breaks h = rw (classes, members, h) refl

    module _ (some : all (λ c. leb 1 c.count) t.classes ≡ true) where
      pub member-breaks : all (member_right t) t.members ≡ false → false ≡ spans_right t
      unfolding spans_right
      member-breaks h = rw (classes, members, some, h) refl

      pub order-left : {r : Bool} → all (member_right t) t.members ≡ true → r ≡ all (λ c. rises (map (λ m. m.op) (members_in t c))) t.classes → r ≡ spans_right t
      unfolding spans_right
      order-left h e = rw (classes, members, some, h) e

pub classes-break : (t : Tables) → spans_follow (length t.members) 0 (class_spans t) ≡ false → false ≡ spans_right t
unfolding spans_right
classes-break t h = rw h refl
