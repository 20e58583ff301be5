-- Where rule 7 holds, what a class or a member spans stands in the tables.
use Rattle.std.specs.Prelude.{◌≡◌, List, ℕ, ◌+◌, ◌<◌, ◌≤◌, length, get_or}
use Rattle.std.proofs.Common.{sym, ap, ◌∙◌, arith}
use Rattle.spec.specs.Image.{Tables, Member, children_of, tables_of, the_class, the_member}
use Rattle.laws.specs.Valid.{Follow, Spans, class_spans}
use Rattle.laws.specs.AcceptedSpans.{classes-within, members-within, part_length, part_at}
use Rattle.image.specs.Loaded.{Loaded, the_child, operations-many, classes-many, members-many, children-many}
use Rattle.image.specs.declared.Image.{Image}

-- ---- the members of a class are members of the image
pub class-room : (s : List ℕ) (im : Image) {c f n : ℕ} → Loaded s im → Follow (length (tables_of s).members) (class_spans (tables_of s)) → c < im.classes
    → f ≡ (the_class (tables_of s) c).first → n ≡ (the_class (tables_of s) c).count → f + n ≤ im.members
class-room s im {c} l v h p q =
    omega (arith, p, q, members-many s im l, classes-within (tables_of s) v c (omega (arith, classes-many s im l)))

-- ---- the children of member x, by their numbers in the table
module _ (t : Tables) (x : Member) where
  pub own-long : x.first + x.count ≤ length t.children → length (children_of t x) ≡ x.count
  own-long w = part_length t.children x.first x.count w

  pub own_at : {f : ℕ} (i : ℕ) → f ≡ x.first → i < x.count → get_or (children_of t x) i (0, 0) ≡ the_child t (f + i)
  own_at i first h = part_at t.children x.first x.count i (0, 0) h ∙ ap (λ (k : ℕ). the_child t (k + i)) (sym first)

-- ---- a member of the image
module _ (s : List ℕ) (im : Image) {m : ℕ} (l : Loaded s im) (v : Spans (tables_of s)) (h : m < im.members) where
  pub member-there : m < length (tables_of s).members
  member-there = omega (arith, members-many s im l)

  pub own-within : (the_member (tables_of s) m).first + (the_member (tables_of s) m).count ≤ length (tables_of s).children
  own-within = members-within (tables_of s) v.members_follow m member-there

  pub own_room : {f n : ℕ} → f ≡ (the_member (tables_of s) m).first → n ≡ (the_member (tables_of s) m).count → f + n ≤ im.children
  own_room p q = omega (arith, p, q, children-many s im l, own-within)

  pub op_room : {o : ℕ} → o ≡ (the_member (tables_of s) m).op → o < im.operations
  op_room p = omega (arith, p, operations-many s im l, v.operation_within m member-there)
