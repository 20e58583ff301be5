-- 8, for one member: "the arity of each kind", and each child entry
use Rattle.std.specs.Prelude.{◌≡◌, refl, Bool}
use Rattle.spec.specs.Bytes.{all, both}
use Rattle.spec.specs.Image.{Tables, Member, arity_right, child_right, children_of, children_right, kind_of}

abbrev pub member_children_right : Tables → Member → Bool
member_children_right t m = both (arity_right (kind_of t m.op) m.count) (all (child_right t (kind_of t m.op)) (children_of t m))

pub children-right : (t : Tables) → children_right t ≡ all (member_children_right t) t.members
unfolding children_right
children-right t = refl
