-- What a valid image says of a class's members, of their children, and of the best one.
use Rattle.std.proofs.Common.{ap, ◌∙◌, not-suc-le-zero, arith, length-take, length-drop}
use Rattle.std.specs.Prelude.{◌≡◌, ◌≢◌, List, [], ◌∷◌, map, ℕ, zero, suc, ◌+◌, ◌*◌, ◌≤◌, ◌<◌, length, get_or, take, drop}
use Rattle.std.proofs.Math.Nat.{mul-le-mul_right}
use Rattle.std.proofs.Math.Decide.{dec_lt}
use Rattle.std.proofs.lemmas.List.{length-map}
use Rattle.std.proofs.Math.ListN.{get_or-map, get_or-eq_default}
use Rattle.spec.specs.Bytes.{Two, sum}
use Rattle.spec.specs.Image.{NO-IDENTITY, Operation, identity_of, Tables, Member, MSet, arities, FREE, the_class, the_member, kind_of, best_size, members_of, children_of, best_member, size_over}
use Rattle.spec.specs.Meaning.{In, here, there}
use Rattle.laws.specs.Valid.{Valid, Follow, class_spans, member_spans}
use Rattle.laws.specs.Bag.{in_span, span-in}

-- a span ends within its table
take-sum : (l : List ℕ) (i : ℕ) → i < length l → sum (take i l) + get_or l i 0 ≤ sum l
unfolding sum
take-sum [] i h = absurd (not-suc-le-zero h)
take-sum (x ∷ l) zero h = omega arith
take-sum (x ∷ l) (suc i) h = omega (arith, take-sum l i (omega arith))

span_fits : (end : ℕ) (spans : List Two) → Follow end spans → (i : ℕ) → i < length spans → (get_or spans i (0, 0)).0 + (get_or spans i (0, 0)).1 ≤ end
span_fits end spans f i h =
    let c = get_or-map (λ s. s.1) spans i (0, 0) in
    omega (arith, f.begins i h, f.ends, take-sum (map (λ s. s.1) spans) i (omega (arith, length-map spans (λ s. s.1))))

abbrev pub IsClass : Tables → ℕ → Type 0
IsClass t c = c < length t.classes

abbrev pub IsPair : Tables → Two → Type 0
IsPair t p = IsClass t p.0 × IsClass t p.1

module _ (t : Tables) (v : Valid t) where
  class-fits : (c : ℕ) → c < length t.classes → (the_class t c).first + (the_class t c).count ≤ length t.members
  class-fits c h = rw (get_or-map {B = Two} (λ k. (k.first, k.count)) t.classes c (record { first = 0; count = 0; best = 0; size = 0 })) at
      (span_fits (length t.members) (class_spans t) v.spans.classes_follow c (omega (arith, length-map {B = Two} t.classes (λ k. (k.first, k.count)))))

  member-fits : (m : ℕ) → m < length t.members → (the_member t m).first + (the_member t m).count ≤ length t.children
  member-fits m h = rw (get_or-map {B = Two} (λ k. (k.first, k.count)) t.members m (record { op = 0; value = 0; first = 0; count = 0 })) at
      (span_fits (length t.children) (member_spans t) v.spans.members_follow m (omega (arith, length-map {B = Two} t.members (λ k. (k.first, k.count)))))

  pub member-number : (m : Member) (c : ℕ) → In m (members_of t c) → (i : ℕ) × (i < length t.members) × (m ≡ the_member t i)
  member-number m c i = span-in t.members (the_class t c).first (the_class t c).count _ i

  pub children-length : (m : Member) (c : ℕ) → In m (members_of t c) → length (children_of t m) ≡ m.count
  children-length m c i =
      let (k, h, e) = member-number m c i in
      rw e (omega (arith, length-take (the_member t k).count (drop (the_member t k).first t.children), length-drop (the_member t k).first t.children, member-fits k h))

  pub child-within : (m : Member) (c : ℕ) → In m (members_of t c) → (d : Two) → In d (children_of t m) → d.0 < length t.classes
  child-within m c i d j = let (k, h, e) = member-number m c i in v.children.child_class k d h (rw e at j)

  pub child-counted : (m : Member) (c : ℕ) → In m (members_of t c) → (d : Two) → In d (children_of t m) → 1 ≤ d.1
  child-counted m c i d j = let (k, h, e) = member-number m c i in v.children.child_count k d h (rw e at j)

  pub child-single : (m : Member) (c : ℕ) → In m (members_of t c) → kind_of t m.op ≢ MSet → (d : Two) → In d (children_of t m) → d.1 ≡ 1
  child-single m c i n d j = let (k, h, e) = member-number m c i in v.children.single k d h (rw e at j) (rw e at n)

  pub member-arity : (m : Member) (c : ℕ) → In m (members_of t c) → get_or arities (kind_of t m.op) FREE ≢ FREE → length (children_of t m) ≡ get_or arities (kind_of t m.op) FREE
  member-arity m c i n = let (k, h, e) = member-number m c i in children-length m c i ∙ rw e (v.children.arity k h (rw e at n))

  -- "best member by its number in the member table"
  pub best-in : (c : ℕ) → c < length t.classes → In (best_member t c) (members_of t c)
  best-in c h = let (a, b) = v.best.best_within c h in in_span t.members (the_class t c).first (the_class t c).count (the_class t c).best _ a b (omega (arith, class-fits c h))

  -- best sizes fall along the best members' children
  size-part : (d : Two) (l : List Two) → In d l → 1 ≤ d.1 → best_size t d.0 ≤ sum (map (λ c. c.1 * best_size t c.0) l)
  unfolding sum
  size-part d l (here {l = m}) h = omega (arith, mul-le-mul_right (best_size t d.0) h)
  size-part d l (there {l = m} i) h = omega (arith, size-part d m i h)

  pub best-falls : (c : ℕ) → c < length t.classes → (d : Two) → In d (children_of t (best_member t c)) → best_size t d.0 < best_size t c
  unfolding size_over
  best-falls c h d i = omega (arith, v.best.best_equation c h, size-part d (children_of t (best_member t c)) i (child-counted (best_member t c) c (best-in c h) d i))

  -- "a class of the image only for MSet and Set"
  pub identity-class : (o : ℕ) → identity_of t o ≢ NO-IDENTITY → IsClass t (identity_of t o)
  identity-class o n = go (dec_lt o (length t.operations))
    where
      go : Dec (o < length t.operations) → IsClass t (identity_of t o)
      go (yes h) = (v.operations.identities o h n).1
      go (no h) = absurd (n (ap (λ (z : Operation). z.identity) (get_or-eq_default t.operations (record { kind = 0; flag = 0; identity = NO-IDENTITY }) {n = o} (omega arith))))
