-- An entry of a table is the record at the offset that the readers compute.
use Rattle.std.specs.Prelude.{◌≡◌, refl, List, ℕ, ◌+◌, ◌*◌, ◌<◌}
use Rattle.spec.specs.Image.{tables_of, operation_at, class_at, member_at, child_at, the_operation, the_class, the_member, HEADER, OPERATION-BYTES, CLASS-BYTES, MEMBER-BYTES, CHILD-BYTES}
use Rattle.laws.specs.Entries.{operation-at, class-at, member-at, child-at}
use Rattle.image.specs.Loaded.{Loaded, the_child}
use Rattle.image.specs.declared.Image.{Image}
use Rattle.image.specs.declared.Span.{Span}

module _ (s : List ℕ) (im : Image) (l : Loaded s im) (k : ℕ) where
  pub operation-is : k < im.operations → the_operation (tables_of s) k ≡ operation_at s (HEADER + k * OPERATION-BYTES)
  operation-is h = operation-at s k (rw l.operations at h)

  pub class-is : k < im.classes → the_class (tables_of s) k ≡ class_at s (im.class0 + k * CLASS-BYTES)
  class-is h = rw l.class0 (class-at s k (rw l.classes at h))

  pub member_is : k < im.members → the_member (tables_of s) k ≡ member_at s (im.member0 + k * MEMBER-BYTES)
  member_is h = rw l.member0 (member-at s k (rw l.members at h))

  pub child-is : k < im.children → the_child (tables_of s) k ≡ child_at s (im.child0 + k * CHILD-BYTES)
  child-is h = rw l.child0 (child-at s k (rw l.children at h))

-- a span from its two fields
pub span-is : {a n first count : ℕ} → a ≡ first → n ≡ count → ◌≡◌ {A = Span} (record { from = a; to = a + n }) (record { from = first; to = first + count })
span-is e f = rw (e, f) refl
