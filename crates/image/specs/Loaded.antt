-- What the readers ask: the bytes are long enough for the tables that the header counts, and the struct holds the header's counts and the tables' offsets.
use Rattle.std.specs.Prelude.{◌≡◌, refl, List, ℕ, ◌≤◌, length, get_or}
use Rattle.std.proofs.Common.{sym, ◌∙◌}
use Rattle.spec.specs.Bytes.{Two}
use Rattle.spec.specs.Image.{Tables, tables_of, operation_count, class_count, member_count, child_count, classes_from, members_from, children_from, image_end}
use Rattle.laws.specs.Entries.{operations-length, classes-length, members-length, children-length}
use Rattle.image.specs.Layout.{layout_of}
use Rattle.image.specs.declared.Image.{Image}

pub record Loaded (s : List ℕ) (im : Image) : Type 0 where
  pub operations : im.operations ≡ operation_count s
  pub classes : im.classes ≡ class_count s
  pub members : im.members ≡ member_count s
  pub children : im.children ≡ child_count s
  pub class0 : im.class0 ≡ classes_from s
  pub member0 : im.member0 ≡ members_from s
  pub child0 : im.child0 ≡ children_from s
  pub whole : image_end s ≤ length s

pub loaded : (s : List ℕ) → image_end s ≤ length s → Loaded s (layout_of (operation_count s) (class_count s) (member_count s) (child_count s))
loaded s h = record { operations = refl; classes = refl; members = refl; children = refl; class0 = refl; member0 = refl; child0 = refl; whole = h }

-- entry k of the table of children: a class and its count
abbrev pub the_child : Tables → ℕ → Two
the_child t k = get_or t.children k (0, 0)

-- the struct's counts are the tables' lengths
module _ (s : List ℕ) (im : Image) (l : Loaded s im) where
  pub operations-many : length (tables_of s).operations ≡ im.operations
  operations-many = operations-length s ∙ sym l.operations

  pub classes-many : length (tables_of s).classes ≡ im.classes
  classes-many = classes-length s ∙ sym l.classes

  pub members-many : length (tables_of s).members ≡ im.members
  members-many = members-length s ∙ sym l.members

  pub children-many : length (tables_of s).children ≡ im.children
  children-many = children-length s ∙ sym l.children
