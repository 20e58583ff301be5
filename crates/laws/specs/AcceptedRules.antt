-- One law for each rule of the table of refusals: its test passes exactly where its record of Valid holds.
use Rattle.std.specs.Prelude.{◌≡◌, ◌↔◌, ◌≢◌, true, List, map, ℕ, suc, ◌+◌, ◌≤◌, ◌<◌, ltb, eqb, get_or}
use Rattle.std.proofs.Common.{ap, ◌∙◌, inl, inr, zero-le, arith}
use Rattle.std.proofs.Math.Decide.{ℕ_discrete}
use borrow.Author.Tests.{ltb-true, leb-true, eqb-true, eqb-false, lt-ltb, le-leb, eq-eqb, ne_eqb}
use Rattle.std.proofs.Math.Dec.{leb}
use Rattle.std.proofs.Math.ListN.{length, get_or-map}
use Rattle.std.proofs.lemmas.List.{length-map}
use Rattle.spec.specs.Bytes.{both, all, be4, pick, Two, within}
use Rattle.spec.specs.Image.{Tables, Operation, Class, Member, HEADER, BEST-SIZE, NO-IDENTITY, Lit, MSet, FREE, OPERATIONS, CLASSES, MEMBERS, CHILDREN, arities, is_ac, is_commutative, tables_of, counts_right, operation_right, member_right, child_right, arity_right, spans_right, children_right, best_right, spans_follow, rises, size_over, the_operation, the_class, the_member, kind_of, members_in, children_of, operation_count, class_count, member_count, child_count}
use Rattle.spec.specs.Meaning.{In}
use Rattle.laws.specs.Tests.{both_true, either-else, either_true}
use Rattle.laws.specs.Entries.{operations-length, classes-length, members-length, children-length}
use Rattle.laws.specs.AcceptedLists.{all_in, all_of, all-at, all_from, rises-said, rises-test}
use Rattle.laws.specs.AcceptedSpans.{follow-rule, classes-within, part_length, part_at}
use Rattle.laws.specs.Valid.{Counts, Operations, Spans, Children, Best, class_spans, member_spans}

-- ---- 2
pub length-rule : (s : List ℕ) → both (leb HEADER (length s)) (eqb (be4 s 0 + 4) (length s)) ≡ true ↔ (HEADER ≤ length s) × (be4 s 0 + 4 ≡ length s)
length-rule s = (
  λ e.
      let (a, b) = (both_true (leb HEADER (length s)) (eqb (be4 s 0 + 4) (length s))).0 e in
      (leb-true HEADER (length s) a, eqb-true (be4 s 0 + 4) (length s) b),
  λ h. (both_true (leb HEADER (length s)) (eqb (be4 s 0 + 4) (length s))).1 (le-leb HEADER (length s) h.0, eq-eqb (be4 s 0 + 4) (length s) h.1),
)

-- ---- 3 and 5
pub equal-rule : (a b : ℕ) → eqb a b ≡ true ↔ (a ≡ b)
equal-rule a b = (eqb-true a b, eq-eqb a b)

-- ---- 4
within-rule : (low high x : ℕ) → within low high x ≡ true ↔ (low ≤ x) × (x ≤ high)
within-rule low high x = (
  λ e. let (a, b) = (both_true (leb low x) (leb x high)).0 e in (leb-true low x a, leb-true x high b),
  λ h. (both_true (leb low x) (leb x high)).1 (le-leb low x h.0, le-leb x high h.1),
)

module _ (s : List ℕ) where
  counts-said : counts_right s ≡ true → Counts (tables_of s)
  counts-said e =
      let (a, r) = (both_true (within 1 OPERATIONS (operation_count s)) _).0 e in
      let (b, q) = (both_true (within 1 CLASSES (class_count s)) _).0 r in
      let (c, d) = (both_true (within 1 MEMBERS (member_count s)) (within 0 CHILDREN (child_count s))).0 q in
      record {
        some_operation = rw (operations-length s) ((within-rule 1 OPERATIONS (operation_count s)).0 a).0;
        few_operations = rw (operations-length s) ((within-rule 1 OPERATIONS (operation_count s)).0 a).1;
        some_class = rw (classes-length s) ((within-rule 1 CLASSES (class_count s)).0 b).0;
        few_classes = rw (classes-length s) ((within-rule 1 CLASSES (class_count s)).0 b).1;
        some_member = rw (members-length s) ((within-rule 1 MEMBERS (member_count s)).0 c).0;
        few_members = rw (members-length s) ((within-rule 1 MEMBERS (member_count s)).0 c).1;
        few_children = rw (children-length s) ((within-rule 0 CHILDREN (child_count s)).0 d).1;
      }

  counts-test : Counts (tables_of s) → counts_right s ≡ true
  counts-test v =
      (both_true (within 1 OPERATIONS (operation_count s)) _).1 (
        (within-rule 1 OPERATIONS (operation_count s)).1 (rw (operations-length s) at v.some_operation, rw (operations-length s) at v.few_operations),
        (both_true (within 1 CLASSES (class_count s)) _).1 (
          (within-rule 1 CLASSES (class_count s)).1 (rw (classes-length s) at v.some_class, rw (classes-length s) at v.few_classes),
          (both_true (within 1 MEMBERS (member_count s)) (within 0 CHILDREN (child_count s))).1 (
            (within-rule 1 MEMBERS (member_count s)).1 (rw (members-length s) at v.some_member, rw (members-length s) at v.few_members),
            (within-rule 0 CHILDREN (child_count s)).1 (zero-le, rw (children-length s) at v.few_children),
          ),
        ),
      )

  pub counts-rule : counts_right s ≡ true ↔ Counts (tables_of s)
  counts-rule = (counts-said, counts-test)

-- ---- 6
module _ (classes : ℕ) (o : Operation) where
  abbrev OperationHolds : Type 0
  OperationHolds =
      (o.kind < 10)
      × (o.flag ≡ pick (is_commutative o.kind) 1 0)
      × (o.identity ≢ NO-IDENTITY → (is_ac o.kind ≡ true) × (o.identity < classes))

  operation-said : operation_right classes o ≡ true → OperationHolds
  operation-said e =
      let (a, r) = (both_true (ltb o.kind 10) _).0 e in
      let (b, q) = (both_true (eqb o.flag (pick (is_commutative o.kind) 1 0)) _).0 r in (
        ltb-true o.kind 10 a,
        eqb-true o.flag (pick (is_commutative o.kind) 1 0) b,
        λ n.
            let (c, d) = (both_true (is_ac o.kind) (ltb o.identity classes)).0
            ((either-else (eqb o.identity NO-IDENTITY) _).0 q (ne_eqb o.identity NO-IDENTITY n)) in
            (c, ltb-true o.identity classes d),
      )

  operation-test : OperationHolds → operation_right classes o ≡ true
  operation-test h =
      (both_true (ltb o.kind 10) _).1 (
        lt-ltb o.kind 10 h.0,
        (both_true (eqb o.flag (pick (is_commutative o.kind) 1 0)) _).1 (
          eq-eqb o.flag (pick (is_commutative o.kind) 1 0) h.1,
          (either-else (eqb o.identity NO-IDENTITY) _).1 (λ e.
              let (c, d) = h.2 (eqb-false o.identity NO-IDENTITY e) in
              (both_true (is_ac o.kind) (ltb o.identity classes)).1 (c, lt-ltb o.identity classes d)),
        ),
      )

module _ (t : Tables) where
  operations-said : all (operation_right (length t.classes)) t.operations ≡ true → Operations t
  operations-said e = record { kinds = λ o h. (holds o h).0; flags = λ o h. (holds o h).1; identities = λ o h. (holds o h).2 }
    where
      holds : (o : ℕ) → o < length t.operations → OperationHolds (length t.classes) (the_operation t o)
      holds o h =
          operation-said (length t.classes) (the_operation t o) (all-at (operation_right (length t.classes)) t.operations _ e o h)

  operations-test : Operations t → all (operation_right (length t.classes)) t.operations ≡ true
  operations-test v =
      all_from (operation_right (length t.classes)) t.operations _ (λ o h.
      operation-test (length t.classes) (the_operation t o) (v.kinds o h, v.flags o h, v.identities o h))

  pub operations-rule : all (operation_right (length t.classes)) t.operations ≡ true ↔ Operations t
  operations-rule = (operations-said, operations-test)

-- ---- 7
module _ (t : Tables) (m : Member) where
  abbrev MemberHolds : Type 0
  MemberHolds = (m.op < length t.operations) × (m.count ≤ 64) × (kind_of t m.op ≢ Lit → m.value ≡ 0)

  member-said : member_right t m ≡ true → MemberHolds
  member-said e =
      let (a, r) = (both_true (ltb m.op (length t.operations)) _).0 e in
      let (b, q) = (both_true (leb m.count 64) _).0 r in (
        ltb-true m.op (length t.operations) a,
        leb-true m.count 64 b,
        λ n. elim ((either_true (eqb m.value 0) (eqb (kind_of t m.op) Lit)).0 q) [
          | inl z ↦ eqb-true m.value 0 z
          | inr k ↦ absurd (n (eqb-true (kind_of t m.op) Lit k))
        ],
      )

  member-test : MemberHolds → member_right t m ≡ true
  member-test h =
      (both_true (ltb m.op (length t.operations)) _).1 (
        lt-ltb m.op (length t.operations) h.0,
        (both_true (leb m.count 64) _).1 (
          le-leb m.count 64 h.1,
          (either-else (eqb m.value 0) (eqb (kind_of t m.op) Lit)).1 (λ e.
              eq-eqb (kind_of t m.op) Lit (elim (ℕ_discrete (kind_of t m.op) Lit) [
                | yes k ↦ k
                | no n ↦ absurd (eqb-false m.value 0 e (h.2 n))
              ])),
        ),
      )

module _ (t : Tables) (c : Class) (w : c.first + c.count ≤ length t.members) where
  pub ops-length : length (map (λ m. m.op) (members_in t c)) ≡ c.count
  ops-length = length-map {B = ℕ} (members_in t c) (λ (m : Member). m.op) ∙ part_length t.members c.first c.count w

  pub ops-at : (i : ℕ) → i < c.count → get_or (map (λ m. m.op) (members_in t c)) i 0 ≡ (the_member t (c.first + i)).op
  ops-at i h =
      get_or-map (λ (m : Member). m.op) (members_in t c) i _ ∙ ap (λ (m : Member). m.op) (part_at t.members c.first c.count i _ h)

  abbrev RisesHere : Type 0
  RisesHere = (i : ℕ) → suc i < c.count → (the_member t (c.first + i)).op ≤ (the_member t (c.first + suc i)).op

  order-said : rises (map (λ m. m.op) (members_in t c)) ≡ true → RisesHere
  order-said e i h =
      let r = rises-said (map (λ m. m.op) (members_in t c)) e i (rw ops-length h) in
      omega (arith, r, ops-at i (omega arith), ops-at (suc i) h)

  order-test : RisesHere → rises (map (λ m. m.op) (members_in t c)) ≡ true
  order-test v =
      rises-test (map (λ m. m.op) (members_in t c)) (λ i h.
      let b : suc i < c.count = rw ops-length at h in omega (arith, v i b, ops-at i (omega arith), ops-at (suc i) b))

module _ (t : Tables) where
  spans-said : spans_right t ≡ true → Spans t
  unfolding spans_right
  spans-said e =
      let (a, r) = (both_true (spans_follow (length t.members) 0 (class_spans t)) _).0 e in
      let (b, q) = (both_true (spans_follow (length t.children) 0 (member_spans t)) _).0 r in
      let (c, p) = (both_true (all (λ c. leb 1 c.count) t.classes) _).0 q in
      let (d, o) = (both_true (all (member_right t) t.members) (all (λ c. rises (map (λ m. m.op) (members_in t c))) t.classes)).0 p in
      let f = (follow-rule (length t.members) (class_spans t)).0 a in
      record {
        classes_follow = f;
        members_follow = (follow-rule (length t.children) (member_spans t)).0 b;
        some_own_member = λ k h. leb-true 1 (the_class t k).count (all-at (λ c. leb 1 c.count) t.classes _ c k h);
        few_own_children = λ k h. (member-said t (the_member t k) (all-at (member_right t) t.members _ d k h)).1;
        operation_within = λ k h. (member-said t (the_member t k) (all-at (member_right t) t.members _ d k h)).0;
        literal_field = λ k h. (member-said t (the_member t k) (all-at (member_right t) t.members _ d k h)).2;
        rising = λ k i h.
            order-said t (the_class t k) (classes-within t f k h)
            (all-at (λ c. rises (map (λ m. m.op) (members_in t c))) t.classes _ o k h) i;
      }

  spans-test : Spans t → spans_right t ≡ true
  unfolding spans_right
  spans-test v =
      (both_true (spans_follow (length t.members) 0 (class_spans t)) _).1 (
        (follow-rule (length t.members) (class_spans t)).1 v.classes_follow,
        (both_true (spans_follow (length t.children) 0 (member_spans t)) _).1 (
          (follow-rule (length t.children) (member_spans t)).1 v.members_follow,
          (both_true (all (λ c. leb 1 c.count) t.classes) _).1 (
            all_from (λ c. leb 1 c.count) t.classes _ (λ k h. le-leb 1 (the_class t k).count (v.some_own_member k h)),
            (both_true (all (member_right t) t.members) (all (λ c. rises (map (λ m. m.op) (members_in t c))) t.classes)).1 (
              all_from (member_right t) t.members _ (λ k h.
                  member-test t (the_member t k) (v.operation_within k h, v.few_own_children k h, v.literal_field k h)),
              all_from (λ c. rises (map (λ m. m.op) (members_in t c))) t.classes _ (λ k h.
                  order-test t (the_class t k) (classes-within t v.classes_follow k h) (λ i. v.rising k i h)),
            ),
          ),
        ),
      )

  pub spans-rule : spans_right t ≡ true ↔ Spans t
  spans-rule = (spans-said, spans-test)

-- ---- 8
module _ (t : Tables) (kind : ℕ) (c : Two) where
  abbrev ChildHolds : Type 0
  ChildHolds = (c.0 < length t.classes) × (1 ≤ c.1) × (kind ≢ MSet → c.1 ≡ 1)

  child-said : child_right t kind c ≡ true → ChildHolds
  child-said e =
      let (a, r) = (both_true (ltb c.0 (length t.classes)) _).0 e in
      let (b, q) = (both_true (leb 1 c.1) _).0 r in (
        ltb-true c.0 (length t.classes) a,
        leb-true 1 c.1 b,
        λ n. elim ((either_true (eqb c.1 1) (eqb kind MSet)).0 q) [
          | inl z ↦ eqb-true c.1 1 z
          | inr k ↦ absurd (n (eqb-true kind MSet k))
        ],
      )

  child-test : ChildHolds → child_right t kind c ≡ true
  child-test h =
      (both_true (ltb c.0 (length t.classes)) _).1 (
        lt-ltb c.0 (length t.classes) h.0,
        (both_true (leb 1 c.1) _).1 (
          le-leb 1 c.1 h.1,
          (either-else (eqb c.1 1) (eqb kind MSet)).1 (λ e.
              eq-eqb kind MSet (elim (ℕ_discrete kind MSet) [ yes k ↦ k | no n ↦ absurd (eqb-false c.1 1 e (h.2 n)) ])),
        ),
      )

arity-rule : (kind n : ℕ) → arity_right kind n ≡ true ↔ (get_or arities kind FREE ≢ FREE → n ≡ get_or arities kind FREE)
arity-rule kind n = (
  λ e f. eqb-true n (get_or arities kind FREE)
      ((either-else (eqb (get_or arities kind FREE) FREE) _).0 e (ne_eqb (get_or arities kind FREE) FREE f)),
  λ h. (either-else (eqb (get_or arities kind FREE) FREE) _).1 (λ e.
      eq-eqb n (get_or arities kind FREE) (h (eqb-false (get_or arities kind FREE) FREE e))),
)

module _ (t : Tables) where
  abbrev kind_at : ℕ → ℕ
  kind_at m = kind_of t (the_member t m).op

  children-said : children_right t ≡ true → Children t
  unfolding children_right
  children-said e =
      record {
        arity = λ m h. (arity-rule (kind_at m) (the_member t m).count).0 (parts m h).0;
        child_class = λ m c h i. (holds m c h i).0;
        child_count = λ m c h i. (holds m c h i).1;
        single = λ m c h i. (holds m c h i).2;
      }
    where
      parts : (m : ℕ) → m < length t.members
          → (arity_right (kind_at m) (the_member t m).count ≡ true) × (all (child_right t (kind_at m)) (children_of t (the_member t m)) ≡ true)
      parts m h =
          (both_true (arity_right (kind_at m) (the_member t m).count) (all (child_right t (kind_at m)) (children_of t (the_member t m)))).0
          (all-at (λ m. both (arity_right (kind_of t m.op) m.count) (all (child_right t (kind_of t m.op)) (children_of t m))) t.members _ e m h)

      holds : (m : ℕ) (c : Two) → m < length t.members → In c (children_of t (the_member t m)) → ChildHolds t (kind_at m) c
      holds m c h i = child-said t (kind_at m) c (all_in (child_right t (kind_at m)) (children_of t (the_member t m)) (parts m h).1 c i)

  children-test : Children t → children_right t ≡ true
  unfolding children_right
  children-test v =
      all_from (λ m. both (arity_right (kind_of t m.op) m.count) (all (child_right t (kind_of t m.op)) (children_of t m))) t.members _ (λ m h.
      (both_true (arity_right (kind_at m) (the_member t m).count) (all (child_right t (kind_at m)) (children_of t (the_member t m)))).1 (
        (arity-rule (kind_at m) (the_member t m).count).1 (v.arity m h),
        all_of (child_right t (kind_at m)) (children_of t (the_member t m)) (λ c i.
            child-test t (kind_at m) c (v.child_class m c h i, v.child_count m c h i, v.single m c h i)),
      ))

  pub children-rule : children_right t ≡ true ↔ Children t
  children-rule = (children-said, children-test)

-- ---- 9
module _ (t : Tables) (c : Class) where
  abbrev BestHolds : Type 0
  BestHolds =
      ((c.first ≤ c.best) × (c.best < c.first + c.count))
      × ((1 ≤ c.size) × (c.size ≤ BEST-SIZE))
      × (c.size ≡ size_over t (children_of t (the_member t c.best)))

  best-said : best_right t c ≡ true → BestHolds
  unfolding best_right
  best-said e =
      let (a, r) = (both_true (both (leb c.first c.best) (ltb c.best (c.first + c.count))) _).0 e in
      let (b, q) = (both_true (within 1 BEST-SIZE c.size) (eqb c.size (size_over t (children_of t (the_member t c.best))))).0 r in
      let (x, y) = (both_true (leb c.first c.best) (ltb c.best (c.first + c.count))).0 a in (
        (leb-true c.first c.best x, ltb-true c.best (c.first + c.count) y),
        (within-rule 1 BEST-SIZE c.size).0 b,
        eqb-true c.size (size_over t (children_of t (the_member t c.best))) q,
      )

  best-test : BestHolds → best_right t c ≡ true
  unfolding best_right
  best-test h =
      (both_true (both (leb c.first c.best) (ltb c.best (c.first + c.count))) _).1 (
        (both_true (leb c.first c.best) (ltb c.best (c.first + c.count))).1
            (le-leb c.first c.best h.0.0, lt-ltb c.best (c.first + c.count) h.0.1),
        (both_true (within 1 BEST-SIZE c.size) (eqb c.size (size_over t (children_of t (the_member t c.best))))).1 (
          (within-rule 1 BEST-SIZE c.size).1 h.1,
          eq-eqb c.size (size_over t (children_of t (the_member t c.best))) h.2,
        ),
      )

module _ (t : Tables) where
  best-all-said : all (best_right t) t.classes ≡ true → Best t
  best-all-said e = record { best_within = λ c h. (holds c h).0; best_range = λ c h. (holds c h).1; best_equation = λ c h. (holds c h).2 }
    where
      holds : (c : ℕ) → c < length t.classes → BestHolds t (the_class t c)
      holds c h = best-said t (the_class t c) (all-at (best_right t) t.classes _ e c h)

  best-all-test : Best t → all (best_right t) t.classes ≡ true
  best-all-test v =
      all_from (best_right t) t.classes _ (λ c h. best-test t (the_class t c) (v.best_within c h, v.best_range c h, v.best_equation c h))

  pub best-rule : all (best_right t) t.classes ≡ true ↔ Best t
  best-rule = (best-all-said, best-all-test)
