-- What an accepted image guarantees, in the forms that the other laws use.
use Rattle.std.specs.Prelude.{◌≡◌, refl, ◌↔◌, ◌≢◌, List, [], ◌∷◌, map, ℕ, ◌+◌, ◌*◌, ◌≤◌, ◌<◌, length, get_or}
use Rattle.std.proofs.Common.{sym, ap, ◌∙◌, arith}
use Rattle.std.proofs.Math.Nat.{mul-le-mul_right}
use Rattle.spec.specs.Bytes.{Two, sum}
use Rattle.spec.specs.Image.{Tables, Member, arities, FREE, MSet, Lit, the_class, the_member, kind_of, best_size, best_member, members_of, children_of, size_over}
use Rattle.spec.specs.Meaning.{In, here, there}
use Rattle.laws.specs.AcceptedLists.{no-entry}
use Rattle.laws.specs.AcceptedSpans.{classes-within, members-within, part-in, part_length, part_at}
use Rattle.laws.specs.Valid.{Valid}

-- a term is at most the sum
pub term-le : {A : Type 0} (f : A → ℕ) (l : List A) (x : A) → In x l → f x ≤ sum (map f l)
unfolding sum
term-le f [] x i = absurd (no-entry i)
term-le f (y ∷ l) x here = omega arith
term-le f (y ∷ l) x (there i) = omega (arith, term-le f l x i)

module _ (t : Tables) (v : Valid t) where
  -- ---- spans
  pub members_within : (c : ℕ) → c < length t.classes → (the_class t c).first + (the_class t c).count ≤ length t.members
  members_within = classes-within t v.spans.classes_follow

  pub children_within : (m : ℕ) → m < length t.members → (the_member t m).first + (the_member t m).count ≤ length t.children
  children_within = members-within t v.spans.members_follow

  pub members-of : (c : ℕ) (m : Member) → c < length t.classes → In m (members_of t c)
      ↔ (i : ℕ) × ((the_class t c).first ≤ i) × (i < (the_class t c).first + (the_class t c).count) × (the_member t i ≡ m)
  members-of c m h = part-in t.members (the_class t c).first (the_class t c).count _ m (members_within c h)

  pub members-length-of : (c : ℕ) → c < length t.classes → length (members_of t c) ≡ (the_class t c).count
  members-length-of c h = part_length t.members (the_class t c).first (the_class t c).count (members_within c h)

  pub member-of-at : (c i : ℕ) (d : Member) → i < (the_class t c).count → get_or (members_of t c) i d ≡ get_or t.members ((the_class t c).first + i) d
  member-of-at c i d h = part_at t.members (the_class t c).first (the_class t c).count i d h

  -- a member of a class has a number
  pub member-number : (c : ℕ) (m : Member) → c < length t.classes → In m (members_of t c) → (i : ℕ) × (i < length t.members) × (the_member t i ≡ m)
  member-number c m h p =
      let (i, a, b, e) = (members-of c m h).0 p in
      let w = members_within c h in (i, omega arith, e)

  pub children-of : (m : ℕ) (k : Two) → m < length t.members → In k (children_of t (the_member t m))
      ↔ (i : ℕ) × ((the_member t m).first ≤ i) × (i < (the_member t m).first + (the_member t m).count) × (get_or t.children i (0, 0) ≡ k)
  children-of m k h = part-in t.children (the_member t m).first (the_member t m).count (0, 0) k (children_within m h)

  pub child-of-at : (m i : ℕ) (d : Two) → i < (the_member t m).count → get_or (children_of t (the_member t m)) i d ≡ get_or t.children ((the_member t m).first + i) d
  child-of-at m i d h = part_at t.children (the_member t m).first (the_member t m).count i d h

  -- ---- a member by its number
  pub children-length-at : (m : ℕ) → m < length t.members → length (children_of t (the_member t m)) ≡ (the_member t m).count
  children-length-at m h = part_length t.children (the_member t m).first (the_member t m).count (children_within m h)

  pub kind_at : (m : ℕ) → m < length t.members → kind_of t (the_member t m).op < 10
  kind_at m h = v.operations.kinds (the_member t m).op (v.spans.operation_within m h)

  -- ---- a member of a class
  module _ (c : ℕ) (h : c < length t.classes) (m : Member) (p : In m (members_of t c)) where
    pub member-operation : m.op < length t.operations
    member-operation = let (i, b, e) = member-number c m h p in rw e at (v.spans.operation_within i b)

    pub member-kind : kind_of t m.op < 10
    member-kind = v.operations.kinds m.op member-operation

    pub member-value : kind_of t m.op ≢ Lit → m.value ≡ 0
    member-value = let (i, b, e) = member-number c m h p in rw e at (v.spans.literal_field i b)

    pub children-count : length (children_of t m) ≡ m.count
    children-count = let (i, b, e) = member-number c m h p in rw e at (children-length-at i b)

    pub children-few : length (children_of t m) ≤ 64
    children-few =
        let (i, b, e) = member-number c m h p in
        let f : m.count ≤ 64 = rw e at (v.spans.few_own_children i b) in omega (arith, children-count)

    -- "Plain0 and Lit have 0 children, Plain1 has 1, Plain2 and SPair have 2, Plain3 has 3"
    pub children-arity : get_or arities (kind_of t m.op) FREE ≢ FREE → length (children_of t m) ≡ get_or arities (kind_of t m.op) FREE
    children-arity f =
        let (i, b, e) = member-number c m h p in
        let q : get_or arities (kind_of t m.op) FREE ≢ FREE → m.count ≡ get_or arities (kind_of t m.op) FREE = rw e at (v.children.arity i b) in
        children-count ∙ q f

    pub child-class : (k : Two) → In k (children_of t m) → k.0 < length t.classes
    child-class k q = let (i, b, e) = member-number c m h p in v.children.child_class i k b (rw e q)

    pub child-count : (k : Two) → In k (children_of t m) → 1 ≤ k.1
    child-count k q = let (i, b, e) = member-number c m h p in v.children.child_count i k b (rw e q)

    -- "only MSet may exceed 1"
    pub child-single : (k : Two) → In k (children_of t m) → kind_of t m.op ≢ MSet → k.1 ≡ 1
    child-single k q n =
        let (i, b, e) = member-number c m h p in
        v.children.single i k b (rw e q) (λ z. n (sym (ap (λ (x : Member). kind_of t x.op) e) ∙ z))

  -- ---- best members
  module _ (c : ℕ) (h : c < length t.classes) where
    pub best-in : In (best_member t c) (members_of t c)
    best-in = let (a, b) = v.best.best_within c h in (members-of c (best_member t c) h).1 ((the_class t c).best, a, b, refl)

    pub best-number : (the_class t c).best < length t.members
    best-number = let (a, b) = v.best.best_within c h in omega (arith, members_within c h)

    pub some-member : 1 ≤ length (members_of t c)
    some-member = omega (arith, members-length-of c h, v.spans.some_own_member c h)

    -- best sizes fall strictly along the best member's children
    pub best-falls : (k : Two) → In k (children_of t (best_member t c)) → best_size t k.0 < best_size t c
    unfolding size_over
    best-falls k p =
        let one : 1 ≤ k.1 = child-count c h (best_member t c) best-in k p in
        let less = term-le (λ (x : Two). x.1 * best_size t x.0) (children_of t (best_member t c)) k p in
        omega (arith, v.best.best_equation c h, less, mul-le-mul_right {m = 1} {n = k.1} (best_size t k.0) one)
