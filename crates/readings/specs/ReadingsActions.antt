-- What the actions of a pair join covers both classes: by position, SPair both ways, and by the rows and columns of a plan.
use Rattle.std.specs.Prelude.{◌≡◌, ◌≢◌, ◌⊎◌, length}
use Rattle.std.proofs.Math.Path.{refl}
use Rattle.std.proofs.Common.{sym, ap, ◌∙◌, arith, eqb-true}
use Rattle.std.proofs.Math.Logic.{inl, inr}
use Rattle.std.proofs.Math.Bool.{Bool, true, false}
use mathlib.Core.List.{List, [], ◌∷◌, ◌++◌, map}
use Prim.Native.Nat.{ℕ}
use Rattle.std.proofs.Math.Dec.{eqb}
use Rattle.std.proofs.lemmas.Bool.{eqb-false}
use Rattle.std.proofs.Math.ListN.{get_or}
use Rattle.std.proofs.lemmas.List.{length-map}
use Rattle.spec.specs.Bytes.{Two, pick, both, either, each, filter, any, up_from}
use Rattle.spec.specs.Image.{Tables, Member, SPair, Lit, NO-IDENTITY, arities, is_ac, is_commutative, kind_of, identity_of, members_of, children_of}
use Rattle.spec.specs.Monomial.{Monomial, MonomialPair, classes, insert_add, monomial, itself, monomials_of, pad_pair, both_itself, representation_pairs, narrow, narrow_pairs}
use Rattle.spec.specs.Action.{Action, TransportAction, zip, by_position, straight_and_crossed, alignments, align_members, structural, ac_ops, transports, cell_pairs, joins}
use Rattle.spec.specs.Round.{ones, problem_over}
use Rattle.spec.specs.Meaning.{In, occurs, count_in, Side, member, Plan}
use Rattle.spec.specs.Meaning as M
use Rattle.laws.specs.Tests.{both_true, clash}
use Rattle.laws.specs.Valid.{Valid}
use Rattle.laws.specs.Monomials.{count-insert, monomial-counts, Padded, level, left, right, padded}
use Rattle.laws.specs.Bag.{each_in, filter-in}
use Rattle.laws.specs.BagCount.{spread, spread-ones, occurs-written, written-ones}
use Rattle.lgg.specs.BagPlan.{plan-rows, plan-columns}
use Rattle.readings.specs.ReadingsNode.{Covers, in_order, any_order}
use Rattle.laws.specs.BestMembers.{child-single, member-arity}
use Rattle.laws.specs.Lists.{map-in, in-append, in-cons, in-nil}

-- operation o over the places ps, with counts x, is an action of pair p: its left classes cover the left class, its right ones the right
pub record Legal (t : Tables) (p : Two) (o : ℕ) (ps : List Two) (x : List ℕ) : Type 0 where
  pub left : Covers t o p.0 (spread (map (λ c. c.0) ps) x)
  pub right : Covers t o p.1 (spread (map (λ c. c.1) ps) x)

-- ---- lists of the two sides
zip-left : (xs ys : List ℕ) → length xs ≡ length ys → map (λ c. c.0) (zip xs ys) ≡ xs
unfolding zip
zip-left [] ys e = refl
zip-left (x ∷ xs) [] e = absurd (omega arith)
zip-left (x ∷ xs) (y ∷ ys) e = ap (λ (z : List ℕ). x ∷ z) (zip-left xs ys (omega arith))

zip-right : (xs ys : List ℕ) → length xs ≡ length ys → map (λ c. c.1) (zip xs ys) ≡ ys
unfolding zip
zip-right [] [] e = refl
zip-right [] (y ∷ ys) e = absurd (omega arith)
zip-right (x ∷ xs) [] e = absurd (omega arith)
zip-right (x ∷ xs) (y ∷ ys) e = ap (λ (z : List ℕ). y ∷ z) (zip-right xs ys (omega arith))

two-of : (xs : List ℕ) → length xs ≡ 2 → xs ≡ get_or xs 0 0 ∷ get_or xs 1 0 ∷ []
two-of [] e = absurd (omega arith)
two-of (a ∷ []) e = absurd (omega arith)
two-of (a ∷ b ∷ []) e = refl
two-of (a ∷ b ∷ c ∷ l) e = absurd (omega arith)

pub once : (ps : List Two) (f : Two → ℕ) → spread (map f ps) (ones ps) ≡ map f ps
once ps f = spread-ones (map f ps) ps (length-map ps f)

module _ (t : Tables) (v : Valid t) where
  -- ---- structural actions
  -- "pair children by position"
  pub in_place : (m : Member) (o c : ℕ) → In m (members_of t c) → o ≡ m.op → is_commutative (kind_of t o) ≡ false → kind_of t o ≢ Lit → Covers t o c (classes (children_of t m))
  in_place m o c i e n z = in_order m i e n z refl

  -- SPair: two child classes, in either order
  pub either_way : (m : Member) (o c : ℕ) → In m (members_of t c) → o ≡ m.op → kind_of t o ≡ SPair → (a b : ℕ) → ((k : ℕ) → occurs k (a ∷ b ∷ []) ≡ occurs k (classes (children_of t m))) → Covers t o c (a ∷ b ∷ [])
  either_way m o c i e s a b h =
      any_order (children_of t m) (member m i (sym e) refl) (rw s refl)
      (λ k. h k ∙ ap (occurs k) (sym (written-ones (children_of t m) (child-single t v m c i (rw (← e, s) (λ z. omega arith))))) ∙ occurs-written k (children_of t m))

  pub pair-classes : (m : Member) (c : ℕ) → In m (members_of t c) → kind_of t m.op ≡ SPair → classes (children_of t m) ≡ get_or (classes (children_of t m)) 0 0 ∷ get_or (classes (children_of t m)) 1 0 ∷ []
  unfolding arities
  pair-classes m c i s = two-of (classes (children_of t m)) (length-map (children_of t m) (λ z. z.0) ∙ member-arity t v m c i (rw s (λ z. omega arith)) ∙ rw s refl)

  record Aligned (l r : ℕ) (a : Action) : Type 0 where
    left : Covers t a.op l (map (λ c. c.0) a.pairs)
    right : Covers t a.op r (map (λ c. c.1) a.pairs)

  by-position : (m n : Member) (o l r : ℕ) → In m (members_of t l) → In n (members_of t r) → o ≡ m.op → o ≡ n.op → is_commutative (kind_of t o) ≡ false → kind_of t o ≢ Lit
      → (a : Action) → In a (by_position o (classes (children_of t m)) (classes (children_of t n))) → Aligned l r a
  unfolding by_position
  by-position m n o l r i j e f k w a h = go (eqb (length (classes (children_of t m))) (length (classes (children_of t n)))) refl h
    where
      whole : Action
      whole = record { op = o; pairs = zip (classes (children_of t m)) (classes (children_of t n)) }

      go : (b : Bool) → eqb (length (classes (children_of t m))) (length (classes (children_of t n))) ≡ b → In a (pick b (whole ∷ []) []) → Aligned l r a
      go false z h = absurd (in-nil h)
      go true z h =
          let len = eqb-true _ _ z in
          elim (in-cons h) [
            | inl q ↦ rw q (record { left = rw (zip-left (classes (children_of t m)) (classes (children_of t n)) len) (in_place m o l i e k w); right = rw (zip-right (classes (children_of t m)) (classes (children_of t n)) len) (in_place n o r j f k w) })
            | inr q ↦ absurd (in-nil q)
          ]

  both_ways : (m n : Member) (o l r : ℕ) → In m (members_of t l) → In n (members_of t r) → o ≡ m.op → o ≡ n.op → kind_of t o ≡ SPair
      → (a : Action) → In a (straight_and_crossed o (classes (children_of t m)) (classes (children_of t n))) → Aligned l r a
  unfolding straight_and_crossed occurs
  both_ways m n o l r i j e f s α h = go (either (eqb a b) (eqb c d)) h
    where
      a : ℕ
      a = get_or (classes (children_of t m)) 0 0

      b : ℕ
      b = get_or (classes (children_of t m)) 1 0

      c : ℕ
      c = get_or (classes (children_of t n)) 0 0

      d : ℕ
      d = get_or (classes (children_of t n)) 1 0

      lefts : Covers t o l (a ∷ b ∷ [])
      lefts = either_way m o l i e s a b (λ k. ap (occurs k) (sym (pair-classes m l i (rw (← e) s))))

      straight : (k : ℕ) → occurs k (c ∷ d ∷ []) ≡ occurs k (classes (children_of t n))
      straight k = ap (occurs k) (sym (pair-classes n r j (rw (← f) s)))

      crossed : (x : Bool) → In α (pick x [] (record { op = o; pairs = (a, d) ∷ (b, c) ∷ [] } ∷ [])) → Aligned l r α
      crossed true h = absurd (in-nil h)
      crossed false h = elim (in-cons h) [
        | inl q ↦ rw q (record { left = lefts; right = either_way n o r j f s d c (λ k. omega (arith, straight k)) })
        | inr q ↦ absurd (in-nil q)
      ]

      go : (x : Bool) → In α (record { op = o; pairs = (a, c) ∷ (b, d) ∷ [] } ∷ pick x [] (record { op = o; pairs = (a, d) ∷ (b, c) ∷ [] } ∷ [])) → Aligned l r α
      go x h = elim (in-cons h) [ inl q ↦ rw q (record { left = lefts; right = either_way n o r j f s c d straight }) | inr q ↦ crossed x q ]

  pub neither : (k : ℕ) → eqb k SPair ≡ false → is_ac k ≡ false → is_commutative k ≡ false
  neither k a b = rw (a, b) refl

  pub either_left : (a b : Bool) → either a b ≡ false → a ≡ false
  either_left false b e = refl
  either_left true b e = e

  neither_right : (a b : Bool) → either a b ≡ false → b ≡ false
  neither_right false b e = e
  neither_right true b e = absurd (clash e)

  member-aligned : (m n : Member) (l r : ℕ) → In m (members_of t l) → In n (members_of t r) → (a : Action) → In a (align_members t m n) → Aligned l r a
  unfolding align_members alignments
  member-aligned m n l r i j a h = go (eqb m.op n.op) refl (eqb k SPair) refl (either (is_ac k) (eqb k Lit)) refl h
    where
      k : ℕ
      k = kind_of t m.op

      xs : List ℕ
      xs = classes (children_of t m)

      ys : List ℕ
      ys = classes (children_of t n)

      go : (x : Bool) → eqb m.op n.op ≡ x → (y : Bool) → eqb k SPair ≡ y → (z : Bool) → either (is_ac k) (eqb k Lit) ≡ z
          → In a (elim x [ true ↦ pick y (straight_and_crossed m.op xs ys) (pick z [] (by_position m.op xs ys)) | false ↦ [] ]) → Aligned l r a
      go false p y q z u h = absurd (in-nil h)
      go true p true q z u h = both_ways m n m.op l r i j refl (eqb-true _ _ p) (eqb-true _ _ q) a h
      go true p false q true u h = absurd (in-nil h)
      go true p false q false u h = by-position m n m.op l r i j refl (eqb-true _ _ p) (neither k q (either_left (is_ac k) (eqb k Lit) u)) (λ z. eqb-false k Lit (neither_right (is_ac k) (eqb k Lit) u) z) a h

  -- An action of a pair, each place once.
  pub structural-legal : (p : Two) (a : Action) → In a (structural t p.0 p.1) → Legal t p a.op a.pairs (ones a.pairs)
  unfolding structural joins
  structural-legal p a h = legal (go (eqb p.0 p.1) h)
    where
      go : (b : Bool) → In a (elim b [ true ↦ [] | false ↦ each (λ m. each (align_members t m) (members_of t p.1)) (members_of t p.0) ]) → Aligned p.0 p.1 a
      go true h = absurd (in-nil h)
      go false h =
          let (m, i, h') = each_in (λ m. each (align_members t m) (members_of t p.1)) (members_of t p.0) a h in
          let (n, j, h'') = each_in (align_members t m) (members_of t p.1) a h' in
          member-aligned m n p.0 p.1 i j a h''

      legal : Aligned p.0 p.1 a → Legal t p a.op a.pairs (ones a.pairs)
      legal A = record {
        left = rw (once a.pairs (λ c. c.0)) A.left;
        right = rw (once a.pairs (λ c. c.1)) A.right;
      }

  -- ---- transports
  -- monomial m is what class c is under operation o
  pub record Stands (c o : ℕ) (m : Monomial) : Type 0 where
    pub of : List Two
    pub side : Side t c o of
    pub count : (k : ℕ) → count_in k m ≡ count_in k of

  monomial-stands : (c o : ℕ) (m : Monomial) → In m (monomials_of t c o) → Stands c o m
  unfolding monomials_of
  monomial-stands c o m h = go (in-append (map (λ n. monomial (children_of t n)) (filter (λ n. eqb n.op o) (members_of t c))) h)
    where
      its : (b : Bool) → eqb (identity_of t o) NO-IDENTITY ≡ b → In m (pick b [] (itself c ∷ [])) → Stands c o m
      its true z h = absurd (in-nil h)
      its false z h = elim (in-cons h) [
        | inl e ↦ rw e (record { of = itself c; side = M.itself (eqb-false _ _ z); count = λ k. refl })
        | inr j ↦ absurd (in-nil j)
      ]

      go : In m (map (λ n. monomial (children_of t n)) (filter (λ n. eqb n.op o) (members_of t c))) ⊎ In m (pick (eqb (identity_of t o) NO-IDENTITY) [] (itself c ∷ [])) → Stands c o m
      go (inl h) =
          let (n, i, e) = map-in (λ n. monomial (children_of t n)) (filter (λ n. eqb n.op o) (members_of t c)) m h in
          let (j, f) = filter-in (λ n. eqb n.op o) (members_of t c) i in
          rw (← e) (record { of = children_of t n; side = member n j (eqb-true _ _ f) refl; count = λ k. monomial-counts k (children_of t n) })
      go (inr h) = its (eqb (identity_of t o) NO-IDENTITY) refl h

  -- "identity children may be added"
  padded-stands : (c o n : ℕ) (m : Monomial) → identity_of t o ≢ NO-IDENTITY → Stands c o m → Stands c o (insert_add (identity_of t o) n m)
  unfolding count_in
  padded-stands c o n m h s = record {
    of = (identity_of t o, n) ∷ s.of;
    side = M.padded n h refl s.side;
    count = λ k. omega (arith, count-insert k (identity_of t o) n m, s.count k);
  }

  pair-stands : (l r o : ℕ) (a b : Monomial) → Stands l o a → Stands r o b → (m : MonomialPair) → Padded (identity_of t o) a b m → Stands l o m.rows × Stands r o m.cols
  pair-stands l r o a b A B m (level h e) = rw e (A, B)
  pair-stands l r o a b A B m (left k n h e) = rw e (padded-stands l o k a n A, B)
  pair-stands l r o a b A B m (right k n h e) = rw e (A, padded-stands r o k b n B)

  sides-stand : (l r o : ℕ) (m : MonomialPair) → In m (representation_pairs t l r o) → Stands l o m.rows × Stands r o m.cols
  unfolding representation_pairs
  sides-stand l r o m h =
      let (a, i, h') = each_in (λ a. each (λ b. pairs a b) (monomials_of t r o)) (monomials_of t l o) m h in
      let (b, j, h'') = each_in (λ b. pairs a b) (monomials_of t r o) m h' in
      go a b (both_itself l r a b) (monomial-stands l o a i) (monomial-stands r o b j) h''
    where
      by : Bool → Monomial → Monomial → List MonomialPair
      by x a b = elim x [ true ↦ [] | false ↦ pad_pair (identity_of t o) a b ]

      pairs : Monomial → Monomial → List MonomialPair
      pairs a b = by (both_itself l r a b) a b

      go : (a b : Monomial) (x : Bool) → Stands l o a → Stands r o b → In m (by x a b) → Stands l o m.rows × Stands r o m.cols
      go a b true A B h = absurd (in-nil h)
      go a b false A B h = pair-stands l r o a b A B m (padded (identity_of t o) a b m h)

  either-right : (a b : Bool) → b ≡ true → either a b ≡ true
  either-right true b e = refl
  either-right false b e = e

  free-operation : (l r o : ℕ) → In o (ac_ops t l r) → is_commutative (kind_of t o) ≡ true
  unfolding ac_ops
  free-operation l r o i =
      either-right (eqb (kind_of t o) SPair) (is_ac (kind_of t o))
      ((both_true (is_ac (kind_of t o)) (used o)).0 (filter-in (λ z. both (is_ac (kind_of t z)) (used z)) (up_from 0 (length t.operations)) i).1).0
    where
      used : ℕ → Bool
      used z = any (λ n. eqb n.op z) (members_of t l ++ members_of t r)

  -- A transport of a pair: of an operation whose order is free, over what the two classes are under it.
  pub record Carries (l r : ℕ) (a : TransportAction) : Type 0 where
    pub free : is_commutative (kind_of t a.op) ≡ true
    pub rows : Stands l a.op a.sides.rows
    pub cols : Stands r a.op a.sides.cols

  pub transport-carries : (l r : ℕ) (a : TransportAction) → In a (transports t l r) → Carries l r a
  unfolding transports narrow_pairs
  transport-carries l r a h = go (eqb l r) h
    where
      pairs_of : ℕ → List TransportAction
      pairs_of o = map (λ m. record { op = o; sides = m }) (narrow_pairs (representation_pairs t l r o))

      go : (b : Bool) → In a (elim b [ true ↦ [] | false ↦ each pairs_of (ac_ops t l r) ]) → Carries l r a
      go true h = absurd (in-nil h)
      go false h =
          let (o, i, h') = each_in pairs_of (ac_ops t l r) a h in
          let (m, j, e) = map-in (λ m. record { op = o; sides = m }) (narrow_pairs (representation_pairs t l r o)) a h' in
          let (x, y) = sides-stand l r o m (filter-in (λ p. both (narrow p.rows) (narrow p.cols)) (representation_pairs t l r o) j).0 in
          rw (← e) (record { free = free-operation l r o i; rows = x; cols = y })

  -- A transport of a pair by a plan.
  pub transport-legal : (p : Two) (a : TransportAction) → In a (transports t p.0 p.1) → (qs : List Two) (x : List ℕ) → Plan (problem_over a qs) x → Legal t p a.op (cell_pairs a.sides) x
  unfolding joins
  transport-legal p a h qs x plan = legal (transport-carries p.0 p.1 a h)
    where
      legal : Carries p.0 p.1 a → Legal t p a.op (cell_pairs a.sides) x
      legal C = record {
        left = any_order C.rows.of C.rows.side C.free (λ k. plan-rows a qs x plan k ∙ C.rows.count k);
        right = any_order C.cols.of C.cols.side C.free (λ k. plan-columns a qs x plan k ∙ C.cols.count k);
      }
