-- Laws of the scans for marked classes, and of what `touch_all` leaves.
use Rattle.std.specs.Prelude.{◌≡◌, Bool, true, false, ℕ, ◌<◌, ltb, length, get_or}
use Rattle.std.proofs.Math.Path.{refl, sym, ap}
use Rattle.std.proofs.Common.{◌∙◌, zero-add, eq-eqb, ne_eqb}
use mathlib.Core.List.{List, [], ◌∷◌}
use Rattle.std.proofs.Math.ListN.{take, length-map}
use Rattle.std.proofs.Math.Seq.{slice, take-length}
use Rattle.spec.specs.Bytes.{pick, both, either, any, each, up_from, Two}
use Rattle.spec.specs.Image.{Tables, Operation, Member, NO-IDENTITY, the_class, the_member, members_of, children_of}
use Rattle.spec.specs.Monomial.{classes}
use Rattle.laws.specs.Tests.{either-false, either-swap}
use Rattle.laws.specs.Valid.{Valid}
use Rattle.laws.specs.AcceptedLists.{any-cons}
use Rattle.laws.specs.AcceptedTurns.{any_append}
use Rattle.laws.specs.AcceptedUses.{members_within, children_within}
use Rattle.laws.specs.Scans.{part_slice, any-map, any-each}
use Rattle.laws.specs.Buffers.{up-length, up_at, over, over-at}
use Rattle.lgg.specs.Parts.{identity_in, identities, with_itself, parts_of}
use Rattle.classes.specs.Spans.{member_span}
use Rattle.members.specs.Spans.{child_span}
use Rattle.image.specs.declared.Span.{Span}
use Rattle.changes.specs.Marks.{marked_in, non_empty, live_of}

-- ---- what the scans go through
-- a child of a marked class
abbrev pub marked_child : List ℕ → Two → Bool
marked_child marks r = marked_in marks r.0

-- a member with such a child
abbrev pub marked_member : Tables → List ℕ → Member → Bool
marked_member t marks m = any (marked_in marks) (classes (children_of t m))

module _ (t : Tables) (v : Valid t) (marks : List ℕ) (x : Span) where
  pub children-scanned : (m : ℕ) → m < length t.members → x ≡ child_span (the_member t m) → any (marked_child marks) (slice x.from x.to t.children) ≡ marked_member t marks (the_member t m)
  children-scanned m h e =
      ap (λ (y : Span). any (marked_child marks) (slice y.from y.to t.children)) e
      ∙ ap (any (marked_child marks)) (part_slice t.children (the_member t m).first (the_member t m).count (children_within t v m h))
      ∙ sym (any-map (marked_in marks) (λ r. r.0) (children_of t (the_member t m)))

  pub members-scanned : (c : ℕ) → c < length t.classes → x ≡ member_span (the_class t c) → any (marked_member t marks) (slice x.from x.to t.members) ≡ any (marked_in marks) (each (λ m. classes (children_of t m)) (members_of t c))
  members-scanned c h e =
      ap (λ (y : Span). any (marked_member t marks) (slice y.from y.to t.members)) e
      ∙ ap (any (marked_member t marks)) (part_slice t.members (the_class t c).first (the_class t c).count (members_within t v c h))
      ∙ sym (any-each (marked_in marks) (λ m. classes (children_of t m)) (members_of t c))

-- ---- tests
either_true : (b : Bool) → either b true ≡ true
either_true true = refl
either_true false = refl

-- ---- identities
-- an operation whose identity passes
abbrev pub with_identity : (ℕ → Bool) → Operation → Bool
with_identity p o = any p (identity_in o)

module _ (p : ℕ → Bool) where
  pub operations-scanned : (t : Tables) (n : ℕ) → n ≡ length t.operations → any (with_identity p) (slice 0 n t.operations) ≡ any p (identities t)
  unfolding identities
  operations-scanned t n e =
      ap (any (with_identity p)) (ap (λ (k : ℕ). take k t.operations) e ∙ take-length t.operations)
      ∙ sym (any-each p identity_in t.operations)

  module _ (o : Operation) {e : ℕ} (q : e ≡ o.identity) where
    pub identity-none : e ≡ NO-IDENTITY → with_identity p o ≡ false
    unfolding any
    identity-none z = rw (eq-eqb o.identity NO-IDENTITY (sym q ∙ z)) refl

    pub identity-some : (e ≡ NO-IDENTITY → ⊥) → with_identity p o ≡ p e
    unfolding any
    identity-some z = rw (ne_eqb o.identity NO-IDENTITY (λ y. z (q ∙ y)), ← q) (any-cons p e [] ∙ either-false (p e))

  -- ---- the parts of a class
  any-itself : (c : ℕ) (l : List ℕ) → any p (with_itself c l) ≡ either (any p l) (both (non_empty l) (p c))
  unfolding with_itself any
  any-itself c [] = refl
  any-itself c (e ∷ l) = any-cons p c (e ∷ l) ∙ either-swap (p c) (any p (e ∷ l))

  module _ (t : Tables) (c : ℕ) where
    abbrev members : Bool
    members = any p (each (λ m. classes (children_of t m)) (members_of t c))

    parts-any : any p (parts_of t c) ≡ either members (either (any p (identities t)) (both (non_empty (identities t)) (p c)))
    unfolding parts_of
    parts-any = any_append p (each (λ m. classes (children_of t m)) (members_of t c)) (with_itself c (identities t)) ∙ ap (either members) (any-itself c (identities t))

    -- for each way out of `touched`
    pub parts-identity : any p (identities t) ≡ true → any p (parts_of t c) ≡ true
    parts-identity e = parts-any ∙ ap (λ (b : Bool). either members (either b (both (non_empty (identities t)) (p c)))) e ∙ either_true members

    module _ (e : any p (identities t) ≡ false) where
      pub parts-itself : both (non_empty (identities t)) (p c) ≡ true → any p (parts_of t c) ≡ true
      parts-itself f = parts-any ∙ (λ i. either members (either (e i) (f i))) ∙ either_true members

      pub parts-members : both (non_empty (identities t)) (p c) ≡ false → any p (parts_of t c) ≡ members
      parts-members f = parts-any ∙ (λ i. either members (either (e i) (f i))) ∙ either-false members

-- ---- what `touch_all` leaves
module _ (t : Tables) (marks : List ℕ) where
  pub live-length : length (live_of t marks) ≡ length t.classes
  unfolding live_of
  live-length = length-map (up_from 0 (length t.classes)) (λ c. pick (any (marked_in marks) (parts_of t c)) 1 0) ∙ up-length (length t.classes) 0

  pub live-entry : (c : ℕ) → c < length t.classes → get_or (live_of t marks) c 0 ≡ pick (any (marked_in marks) (parts_of t c)) 1 0
  unfolding live_of
  live-entry c h = up_at (λ c. pick (any (marked_in marks) (parts_of t c)) 1 0) (length t.classes) 0 c 0 h ∙ ap (λ (k : ℕ). pick (any (marked_in marks) (parts_of t k)) 1 0) (zero-add c)

  -- a class is marked as live exactly if its actions are over a marked class
  pub live_at : (live live' : List ℕ) → live' ≡ over (live_of t marks) live → (c : ℕ) → c < length t.classes → marked_in live' c ≡ any (marked_in marks) (parts_of t c)
  live_at live live' e c h =
      ap (λ (l : List ℕ). marked_in l c) e
      ∙ ap (ltb 0) (over-at (live_of t marks) live c (rw live-length h) ∙ live-entry c h)
      ∙ mark (any (marked_in marks) (parts_of t c))
    where
      mark : (b : Bool) → ltb 0 (pick b 1 0) ≡ b
      mark true = refl
      mark false = refl
