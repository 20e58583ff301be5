-- An entry of a table is the record at its offset: links the tables of the definitions with the bytes that the code reads.
use Rattle.std.specs.Prelude.{◌≡◌, refl, List, ℕ, zero, suc, ◌+◌, ◌*◌, ◌<◌, length, get_or}
use Rattle.std.proofs.Common.{ap, ◌∙◌, not-suc-le-zero, le_of_suc-le-suc, arith}
use Rattle.spec.specs.Image.{entries, tables_of, operation_at, class_at, member_at, child_at, operation_count, class_count, member_count, child_count, classes_from, members_from, children_from, the_operation, the_class, the_member, HEADER, OPERATION-BYTES, CLASS-BYTES, MEMBER-BYTES, CHILD-BYTES}

pub entries-length : {A : Type 0} (at : ℕ → A) (w n i : ℕ) → length (entries at w n i) ≡ n
unfolding entries
entries-length at w zero i = refl
entries-length at w (suc n) i = ap suc (entries-length at w n (i + w))

pub entries-entry : {A : Type 0} (at : ℕ → A) (w n i k : ℕ) (d : A) → k < n → get_or (entries at w n i) k d ≡ at (i + k * w)
unfolding entries
entries-entry at w zero i k d h = absurd (not-suc-le-zero h)
entries-entry at w (suc n) i zero d h = ap at (omega arith)
entries-entry at w (suc n) i (suc k) d h = entries-entry at w n (i + w) k d (le_of_suc-le-suc h) ∙ ap at (omega arith)

-- ---- how long the four tables are
module _ (s : List ℕ) where
  pub operations-length : length (tables_of s).operations ≡ operation_count s
  unfolding tables_of
  operations-length = entries-length (operation_at s) OPERATION-BYTES (operation_count s) HEADER

  pub classes-length : length (tables_of s).classes ≡ class_count s
  unfolding tables_of
  classes-length = entries-length (class_at s) CLASS-BYTES (class_count s) (classes_from s)

  pub members-length : length (tables_of s).members ≡ member_count s
  unfolding tables_of
  members-length = entries-length (member_at s) MEMBER-BYTES (member_count s) (members_from s)

  pub children-length : length (tables_of s).children ≡ child_count s
  unfolding tables_of
  children-length = entries-length (child_at s) CHILD-BYTES (child_count s) (children_from s)

-- ---- an entry and its bytes
module _ (s : List ℕ) (k : ℕ) where
  pub operation-at : k < operation_count s → the_operation (tables_of s) k ≡ operation_at s (HEADER + k * OPERATION-BYTES)
  unfolding tables_of
  operation-at h = entries-entry (operation_at s) OPERATION-BYTES (operation_count s) HEADER k _ h

  pub class-at : k < class_count s → the_class (tables_of s) k ≡ class_at s (classes_from s + k * CLASS-BYTES)
  unfolding tables_of
  class-at h = entries-entry (class_at s) CLASS-BYTES (class_count s) (classes_from s) k _ h

  pub member-at : k < member_count s → the_member (tables_of s) k ≡ member_at s (members_from s + k * MEMBER-BYTES)
  unfolding tables_of
  member-at h = entries-entry (member_at s) MEMBER-BYTES (member_count s) (members_from s) k _ h

  pub child-at : k < child_count s → get_or (tables_of s).children k (0, 0) ≡ child_at s (children_from s + k * CHILD-BYTES)
  unfolding tables_of
  child-at h = entries-entry (child_at s) CHILD-BYTES (child_count s) (children_from s) k _ h
