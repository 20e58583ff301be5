-- "Spans follow one another without gaps and use up the tables": what that says of the members of a class and of the children of a member.
use Rattle.std.specs.Prelude.{◌≡◌, ◌↔◌, true, List, [], ◌∷◌, map, ℕ, zero, suc, ◌+◌, ◌-◌, ◌≤◌, ◌<◌, length, get_or, take, drop}
use Rattle.std.proofs.Common.{sym, ap, ◌∙◌, not-suc-le-zero, le_of_suc-le-suc, arith, length-drop, get_or-take, get_or-drop, length-take-le}
use Rattle.std.proofs.lemmas.List.{length-map}
use Rattle.std.proofs.Math.ListN.{get_or-map}
use Rattle.spec.specs.Bytes.{sum, Two}
use Rattle.spec.specs.Image.{Tables, Class, Member, spans_follow, the_class, the_member}
use Rattle.spec.specs.Meaning.{In}
use Rattle.laws.specs.AcceptedLists.{at_in, in-at, follow-said, follow-test}
use Rattle.laws.specs.Valid.{Follow, class_spans, member_spans}

pub follow-rule : (end : ℕ) (l : List Two) → spans_follow end 0 l ≡ true ↔ Follow end l
follow-rule end l = (
  λ e.
      let (b, f) = follow-said end 0 l e in
      record { begins = λ i h. omega (arith, b i h); ends = omega (arith, f) },
  λ v. follow-test end 0 l (λ i h. omega (arith, v.begins i h), omega (arith, v.ends)),
)

-- ---- a span ends within the table
sum-take : (l : List ℕ) (i : ℕ) → i < length l → sum (take i l) + get_or l i 0 ≤ sum l
unfolding sum
sum-take [] i h = absurd (not-suc-le-zero h)
sum-take (x ∷ l) zero h = omega arith
sum-take (x ∷ l) (suc i) h = omega (arith, sum-take l i (le_of_suc-le-suc h))

pub span-within : (end : ℕ) (l : List Two) → Follow end l → (i : ℕ) → i < length l → (get_or l i (0, 0)).0 + (get_or l i (0, 0)).1 ≤ end
span-within end l f i h =
    let k : get_or (map (λ s. s.1) l) i 0 ≡ (get_or l i (0, 0)).1 = get_or-map (λ s. s.1) l i (0, 0) in
    let b : i < length (map (λ s. s.1) l) = rw (length-map l (λ (s : Two). s.1)) h in
    omega (arith, f.begins i h, f.ends, k, sum-take (map (λ s. s.1) l) i b)

module _ (t : Tables) where
  pub class-spans-length : length (class_spans t) ≡ length t.classes
  class-spans-length = length-map {B = Two} t.classes (λ (c : Class). (c.first, c.count))

  pub member-spans-length : length (member_spans t) ≡ length t.members
  member-spans-length = length-map {B = Two} t.members (λ (m : Member). (m.first, m.count))

  pub class-span : (c : ℕ) → get_or (class_spans t) c (0, 0) ≡ ((the_class t c).first, (the_class t c).count)
  class-span c = get_or-map (λ c. (c.first, c.count)) t.classes c _

  pub member-span : (m : ℕ) → get_or (member_spans t) m (0, 0) ≡ ((the_member t m).first, (the_member t m).count)
  member-span m = get_or-map (λ m. (m.first, m.count)) t.members m _

  pub classes-within : Follow (length t.members) (class_spans t) → (c : ℕ) → c < length t.classes
      → (the_class t c).first + (the_class t c).count ≤ length t.members
  classes-within f c h =
      rw (class-span c) at (span-within (length t.members) (class_spans t) f c (rw class-spans-length h))

  pub members-within : Follow (length t.children) (member_spans t) → (m : ℕ) → m < length t.members
      → (the_member t m).first + (the_member t m).count ≤ length t.children
  members-within f m h =
      rw (member-span m) at (span-within (length t.children) (member_spans t) f m (rw member-spans-length h))

-- ---- a part of a table, by the table's numbers
pub part_length : {A : Type 0} (l : List A) (first count : ℕ) → first + count ≤ length l → length (take count (drop first l)) ≡ count
part_length l first count h = length-take-le count (drop first l) (rw length-drop (omega arith))

pub part_at : {A : Type 0} (l : List A) (first count i : ℕ) (d : A) → i < count → get_or (take count (drop first l)) i d ≡ get_or l (first + i) d
part_at l first count i d h = get_or-take count (drop first l) i d h ∙ get_or-drop first l i d

-- an entry of a part has a number of the table within the part
pub part-in : {A : Type 0} (l : List A) (first count : ℕ) (d x : A) → first + count ≤ length l → In x (take count (drop first l))
    ↔ (i : ℕ) × (first ≤ i) × (i < first + count) × (get_or l i d ≡ x)
part-in l first count d x h = (
  λ p.
      let (i, b, e) = at_in d p in
      let b' : i < count = omega (arith, b, part_length l first count h) in
      (first + i, omega arith, omega arith, sym (part_at l first count i d b') ∙ e),
  λ q.
      let (i, a, b, e) = q in
      let w : first + (i - first) ≡ i = omega arith in
      let b' : i - first < count = omega arith in
      let z : get_or (take count (drop first l)) (i - first) d ≡ x = part_at l first count (i - first) d b' ∙ ap (λ (k : ℕ). get_or l k d) w ∙ e in
      rw z at (in-at (take count (drop first l)) (i - first) d (omega (arith, part_length l first count h))),
)
