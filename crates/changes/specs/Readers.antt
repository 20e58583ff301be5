-- What an accepted image says of the numbers that its readers give.
use Rattle.std.specs.Prelude.{◌≡◌, refl, List, ℕ, ◌≤◌, ◌<◌, length}
use Rattle.std.proofs.Common.{ap, ◌∙◌, arith}
use Rattle.spec.specs.Image.{Tables, NO-IDENTITY, tables_of, the_class, the_member, identity_of}
use Rattle.laws.specs.Valid.{Valid}
use Rattle.laws.specs.AcceptedUses.{members_within, children_within, children-of}
use Rattle.image.specs.Loaded.{Loaded, the_child, operations-many, classes-many, members-many}
use Rattle.classes.specs.Spans.{member_span}
use Rattle.members.specs.Spans.{child_span}
use Rattle.image.specs.declared.Image.{Image}
use Rattle.image.specs.declared.Span.{Span}

module _ (s : List ℕ) (im : Image) (l : Loaded s im) (v : Valid (tables_of s)) where
  abbrev t : Tables
  t = tables_of s

  -- "classes (1 to 256)"
  pub class-few : {c : ℕ} → c < im.classes → c < 256
  class-few h = omega (arith, classes-many s im l, v.counts.few_classes)

  pub identity-few : (o : ℕ) {e : ℕ} → o < im.operations → e ≡ identity_of t o → (e ≡ NO-IDENTITY → ⊥) → e < 256
  identity-few o h e n = omega (arith, e, (v.operations.identities o (omega (arith, operations-many s im l)) (λ z. n (e ∙ z))).1, v.counts.few_classes)

  -- ---- the members of a class, the children of a member
  module _ (x : Span) where
    pub members-end : (c : ℕ) → c < im.classes → x ≡ member_span (the_class t c) → x.to ≤ length t.members
    members-end c h e = omega (arith, ap (λ (y : Span). y.to) e, members_within t v c (omega (arith, classes-many s im l)))

    module _ (m : ℕ) (h : m < im.members) (e : x ≡ child_span (the_member t m)) where
      within : m < length t.members
      within = omega (arith, members-many s im l)

      pub children-end : x.to ≤ length t.children
      children-end = omega (arith, ap (λ (y : Span). y.to) e, children_within t v m within)

      pub child-few : (k : ℕ) {c : ℕ} → x.from ≤ k → k < x.to → c ≡ (the_child t k).0 → c < 256
      child-few k a b q =
          let i = (children-of t v m (the_child t k) within).1 (k, omega (arith, ap (λ (y : Span). y.from) e), omega (arith, ap (λ (y : Span). y.to) e), refl) in
          omega (arith, q, v.children.child_class m (the_child t k) within i, v.counts.few_classes)
