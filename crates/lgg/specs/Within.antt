-- What a pair of classes joins is made of the classes of members' children, of identities, and of the two classes themselves.
use Rattle.std.specs.Prelude.{◌≡◌, ◌≢◌, Bool, ltb, length}
use Rattle.std.proofs.Math.Path.{refl}
use Rattle.std.proofs.Common.{sym, ap, ◌∙◌, inl, inr, arith, eqb-true}
use Rattle.std.proofs.Math.Bool.{true, false}
use mathlib.Core.List.{List, [], ◌∷◌, ◌++◌, map}
use Prim.Native.Nat.{ℕ, zero, suc, ◌+◌, ◌-◌, ◌<◌}
use Rattle.std.proofs.Math.Dec.{eqb}
use Rattle.std.proofs.Math.ListN.{get_or}
use Rattle.std.proofs.lemmas.Bool.{eqb-false}
use Rattle.spec.specs.Bytes.{pick, either, filter, each, Two}
use Rattle.spec.specs.Image.{Tables, Member, NO-IDENTITY, SPair, Lit, is_ac, kind_of, identity_of, members_of, children_of}
use Rattle.spec.specs.Monomial.{Monomial, MonomialPair, pair_of, insert_add, add_all, monomial, classes, itself, total, monomials_of, pad_pair, both_itself, representation_pairs, narrow_pairs}
use Rattle.spec.specs.Action.{Action, TransportAction, zip, by_position, straight_and_crossed, alignments, align_members, structural, ac_ops, transports, cell_pairs, joins}
use Rattle.spec.specs.Pairs.{pairs}
use Rattle.spec.specs.Meaning.{In, here, there, Reachable}
use Rattle.laws.specs.Valid.{Valid}
use Rattle.laws.specs.BestMembers.{IsClass, IsPair, identity-class, child-within}
use Rattle.steps.specs.Graph.{reach-all}
use Rattle.laws.specs.Lists.{in-nil, in-cons, in-append, map-in}
use Rattle.laws.specs.Bag.{each_in, filter-in}

-- ---- every entry of a list
abbrev pub All : {A : Type 0} → (A → Type 0) → List A → Type 0
All P l = (x : _) → In x l → P x

module _ {A : Type 0} (P : A → Type 0) where
  all_nil : All P []
  all_nil x i = absurd (in-nil i)

  all_cons : (y : A) (l : List A) → P y → All P l → All P (y ∷ l)
  all_cons y l h k x i = elim (in-cons i) [ inl e ↦ rw e h | inr j ↦ k x j ]

  all_append : (l m : List A) → All P l → All P m → All P (l ++ m)
  all_append l m h k x i = elim (in-append l i) [ inl j ↦ h x j | inr j ↦ k x j ]

  all-each : {B : Type 0} (f : B → List A) (l : List B) → ((b : B) → In b l → All P (f b)) → All P (each f l)
  all-each f l h x i = let (b, j, k) = each_in f l x i in h b j x k

  all_map : {B : Type 0} (f : B → A) (l : List B) → ((b : B) → In b l → P (f b)) → All P (map f l)
  all_map f l h x i = let (a, j, e) = map-in f l x i in rw (← e) (h a j)

  all_filter : (f : A → Bool) (l : List A) → All P l → All P (filter f l)
  all_filter f l h x i = h x (filter-in f l i).0

-- ---- K holds of what the actions of class c may join on its side: the classes of its members' children and, where an operation has an identity, the class itself and the identity.
pub record Over (t : Tables) (K : ℕ → Type 0) (c : ℕ) : Type 0 where
  pub children : (m : Member) → In m (members_of t c) → (r : Two) → In r (children_of t m) → K r.0
  -- an SPair's two classes, by their places
  pub two : (m : Member) → In m (members_of t c) → kind_of t m.op ≡ SPair → (i : ℕ) → i < 2 → K (get_or (classes (children_of t m)) i 0)
  pub own : (o : ℕ) → identity_of t o ≢ NO-IDENTITY → K c
  pub identity : (o : ℕ) → identity_of t o ≢ NO-IDENTITY → K (identity_of t o)

-- ---- monomials of a class
module _ (K : ℕ → Type 0) where
  abbrev Key : Two → Type 0
  Key c = K c.0

  abbrev Mono : Monomial → Type 0
  Mono m = All Key m

  insert-in : (c k : ℕ) (m : Monomial) → K c → Mono m → Mono (insert_add c k m)
  unfolding insert_add
  insert-in c k [] h f = all_cons Key (c, k) [] h (all_nil Key)
  insert-in c k (x ∷ m) h f = go (ltb x.0 c) (eqb x.0 c) (insert-in c k m h (λ y i. f y (there i)))
    where
      go : (a b : Bool) → Mono (insert_add c k m) → Mono (elim a [ true ↦ x ∷ insert_add c k m | false ↦ pick b ((c, x.1 + k) ∷ m) ((c, k) ∷ x ∷ m) ])
      go true b ih = all_cons Key x (insert_add c k m) (f x here) ih
      go false true ih = all_cons Key (c, x.1 + k) m h (λ y i. f y (there i))
      go false false ih = all_cons Key (c, k) (x ∷ m) h f

  add-in : (m : Monomial) (l : List Two) → Mono m → Mono l → Mono (add_all m l)
  unfolding add_all
  add-in m [] f g = f
  add-in m (x ∷ l) f g = add-in (insert_add x.0 x.1 m) l (insert-in x.0 x.1 m (g x here) f) (λ y i. g y (there i))

  module _ (t : Tables) (c : ℕ) (h : Over t K c) where
    classes-in : (m : Member) → In m (members_of t c) → All K (classes (children_of t m))
    classes-in m i = all_map K (λ r. r.0) (children_of t m) (h.children m i)

    monomials-in : (o : ℕ) → All Mono (monomials_of t c o)
    unfolding monomials_of
    monomials-in o =
        all_append Mono (map (λ m. monomial (children_of t m)) (filter (λ m. eqb m.op o) (members_of t c))) (pick (eqb (identity_of t o) NO-IDENTITY) [] (itself c ∷ []))
        (all_map Mono (λ m. monomial (children_of t m)) (filter (λ m. eqb m.op o) (members_of t c)) (λ m i. add-in [] (children_of t m) (all_nil Key) (h.children m (filter-in (λ n. eqb n.op o) (members_of t c) i).0)))
        (go (eqb (identity_of t o) NO-IDENTITY) refl)
      where
        go : (b : Bool) → eqb (identity_of t o) NO-IDENTITY ≡ b → All Mono (pick b [] (itself c ∷ []))
        go true e = all_nil Mono
        go false e = all_cons Mono (itself c) [] (all_cons Key (c, 1) [] (h.own o (eqb-false (identity_of t o) NO-IDENTITY e)) (all_nil Key)) (all_nil Mono)

-- ---- L holds on the left, R on the right
module _ (L R : ℕ → Type 0) where
  abbrev pub Both : Two → Type 0
  Both p = L p.0 × R p.1

  zip_in : (xs ys : List ℕ) → All L xs → All R ys → All Both (zip xs ys)
  unfolding zip
  zip_in [] ys h k = all_nil Both
  zip_in (x ∷ xs) [] h k = all_nil Both
  zip_in (x ∷ xs) (y ∷ ys) h k = all_cons Both (x, y) (zip xs ys) (h x here, k y here) (zip_in xs ys (λ z i. h z (there i)) (λ z i. k z (there i)))

  abbrev Joins : Action → Type 0
  Joins a = All Both a.pairs

  alignments-in : (kind o : ℕ) (xs ys : List ℕ) → All L xs → All R ys → (kind ≡ SPair → (i : ℕ) → i < 2 → L (get_or xs i 0)) → (kind ≡ SPair → (i : ℕ) → i < 2 → R (get_or ys i 0)) → All Joins (alignments kind o xs ys)
  unfolding alignments by_position straight_and_crossed
  alignments-in kind o xs ys h k f g = go (eqb kind SPair) (either (is_ac kind) (eqb kind Lit)) (eqb (length xs) (length ys)) (either (eqb (get_or xs 0 0) (get_or xs 1 0)) (eqb (get_or ys 0 0) (get_or ys 1 0))) (eqb-true kind SPair)
    where
      a : Action
      a = record { op = o; pairs = (get_or xs 0 0, get_or ys 0 0) ∷ (get_or xs 1 0, get_or ys 1 0) ∷ [] }

      b : Action
      b = record { op = o; pairs = (get_or xs 0 0, get_or ys 1 0) ∷ (get_or xs 1 0, get_or ys 0 0) ∷ [] }

      c : Action
      c = record { op = o; pairs = zip xs ys }

      two : (i j : ℕ) → i < 2 → j < 2 → kind ≡ SPair → (m n : ℕ) → m < 2 → n < 2 → All Both ((get_or xs i 0, get_or ys j 0) ∷ (get_or xs m 0, get_or ys n 0) ∷ [])
      two i j hi hj e m n hm hn =
          all_cons Both (get_or xs i 0, get_or ys j 0) ((get_or xs m 0, get_or ys n 0) ∷ []) (f e i hi, g e j hj)
          (all_cons Both (get_or xs m 0, get_or ys n 0) [] (f e m hm, g e n hn) (all_nil Both))

      a_in : kind ≡ SPair → Joins a
      a_in e = two 0 0 (omega arith) (omega arith) e 1 1 (omega arith) (omega arith)

      b-in : kind ≡ SPair → Joins b
      b-in e = two 0 1 (omega arith) (omega arith) e 1 0 (omega arith) (omega arith)

      go : (x y z w : Bool) → (x ≡ true → kind ≡ SPair) → All Joins (pick x (a ∷ pick w [] (b ∷ [])) (pick y [] (pick z (c ∷ []) [])))
      go true y z true e = all_cons Joins a [] (a_in (e refl)) (all_nil Joins)
      go true y z false e = all_cons Joins a (b ∷ []) (a_in (e refl)) (all_cons Joins b [] (b-in (e refl)) (all_nil Joins))
      go false true z w e = all_nil Joins
      go false false true w e = all_cons Joins c [] (zip_in xs ys h k) (all_nil Joins)
      go false false false w e = all_nil Joins

  abbrev Sides : MonomialPair → Type 0
  Sides m = Mono L m.rows × Mono R m.cols

  abbrev Cells : TransportAction → Type 0
  Cells a = All Both (cell_pairs a.sides)

  cells_in : (m : MonomialPair) → Sides m → All Both (cell_pairs m)
  unfolding cell_pairs
  cells_in m (h, k) =
      all-each Both (λ a. map (λ b. (a, b)) (classes m.cols)) (classes m.rows)
      (λ a i. all_map Both (λ b. (a, b)) (classes m.cols) (λ b j. (all_map L (λ c. c.0) m.rows h a i, all_map R (λ c. c.0) m.cols k b j)))

  module _ (t : Tables) (p : Two) (h : Over t L p.0) (k : Over t R p.1) where
    -- ---- structural actions
    structural-in : All Joins (structural t p.0 p.1)
    unfolding structural align_members
    structural-in = go (eqb p.0 p.1)
      where
        align : (a b : Member) → In a (members_of t p.0) → In b (members_of t p.1) → (x : Bool) → (x ≡ true → a.op ≡ b.op) → All Joins (elim x [ true ↦ alignments (kind_of t a.op) a.op (classes (children_of t a)) (classes (children_of t b)) | false ↦ [] ])
        align a b i j true e =
            alignments-in (kind_of t a.op) a.op (classes (children_of t a)) (classes (children_of t b)) (classes-in L t p.0 h a i) (classes-in R t p.1 k b j)
            (h.two a i) (λ s. k.two b j (ap (kind_of t) (sym (e refl)) ∙ s))
        align a b i j false e = all_nil Joins

        go : (x : Bool) → All Joins (elim x [ true ↦ [] | false ↦ each (λ a. each (align_members t a) (members_of t p.1)) (members_of t p.0) ])
        go true = all_nil Joins
        go false =
            all-each Joins (λ a. each (align_members t a) (members_of t p.1)) (members_of t p.0)
            (λ a i. all-each Joins (align_members t a) (members_of t p.1) (λ b j. align a b i j (eqb a.op b.op) (eqb-true a.op b.op)))

    -- ---- transports
    pad-in : (o : ℕ) (l r : Monomial) → Mono L l → Mono R r → All Sides (pad_pair (identity_of t o) l r)
    unfolding pad_pair
    pad-in o l r f g = go (eqb (total l) (total r)) (eqb (identity_of t o) NO-IDENTITY) refl (ltb (total l) (total r))
      where
        a : Monomial
        a = insert_add (identity_of t o) (total r - total l) l

        b : Monomial
        b = insert_add (identity_of t o) (total l - total r) r

        go : (x y : Bool) → eqb (identity_of t o) NO-IDENTITY ≡ y → (z : Bool) → All Sides (pick x (pair_of l r ∷ []) (pick y [] (pick z (pair_of a r ∷ []) (pair_of l b ∷ []))))
        go true y e z = all_cons Sides (pair_of l r) [] (f, g) (all_nil Sides)
        go false true e z = all_nil Sides
        go false false e true = all_cons Sides (pair_of a r) [] (insert-in L (identity_of t o) (total r - total l) l (h.identity o (eqb-false (identity_of t o) NO-IDENTITY e)) f, g) (all_nil Sides)
        go false false e false = all_cons Sides (pair_of l b) [] (f, insert-in R (identity_of t o) (total l - total r) r (k.identity o (eqb-false (identity_of t o) NO-IDENTITY e)) g) (all_nil Sides)

    pairs-in : (o : ℕ) → All Sides (representation_pairs t p.0 p.1 o)
    unfolding representation_pairs
    pairs-in o =
        all-each Sides (λ a. each (λ b. cell a b) (monomials_of t p.1 o)) (monomials_of t p.0 o)
        (λ a i. all-each Sides (λ b. cell a b) (monomials_of t p.1 o) (λ b j. go a b (both_itself p.0 p.1 a b) (monomials-in L t p.0 h o a i) (monomials-in R t p.1 k o b j)))
      where
        cell : Monomial → Monomial → List MonomialPair
        cell a b = elim (both_itself p.0 p.1 a b) [ true ↦ [] | false ↦ pad_pair (identity_of t o) a b ]

        go : (a b : Monomial) (x : Bool) → Mono L a → Mono R b → All Sides (elim x [ true ↦ [] | false ↦ pad_pair (identity_of t o) a b ])
        go a b true f g = all_nil Sides
        go a b false f g = pad-in o a b f g

    transports-in : All Cells (transports t p.0 p.1)
    unfolding transports narrow_pairs
    transports-in = go (eqb p.0 p.1)
      where
        make : ℕ → List TransportAction
        make o = map (λ m. record { op = o; sides = m }) (narrow_pairs (representation_pairs t p.0 p.1 o))

        go : (x : Bool) → All Cells (elim x [ true ↦ [] | false ↦ each make (ac_ops t p.0 p.1) ])
        go true = all_nil Cells
        go false =
            all-each Cells make (ac_ops t p.0 p.1)
            (λ o i. all_map Cells (λ m. record { op = o; sides = m }) (narrow_pairs (representation_pairs t p.0 p.1 o)) (λ m j. cells_in m (all_filter Sides _ (representation_pairs t p.0 p.1 o) (pairs-in o) m j)))

    -- what a pair joins
    pub joins-in : All Both (joins t p)
    unfolding joins
    joins-in =
        all_append Both (each (λ a. a.pairs) (structural t p.0 p.1)) (each (λ a. cell_pairs a.sides) (transports t p.0 p.1))
        (all-each Both (λ a. a.pairs) (structural t p.0 p.1) structural-in)
        (all-each Both (λ a. cell_pairs a.sides) (transports t p.0 p.1) transports-in)

-- ---- K holds of 0, of the classes of members' children, and of the identities: what is reachable from a pair of such classes is one
module _ (t : Tables) (K : ℕ → Type 0) (zero_in : K 0) (children-in : (c : ℕ) (m : Member) → In m (members_of t c) → (r : Two) → In r (children_of t m) → K r.0)
    (identity-in : (o : ℕ) → identity_of t o ≢ NO-IDENTITY → K (identity_of t o)) where
  get_at : (l : List ℕ) (i : ℕ) → All K l → K (get_or l i 0)
  get_at [] i h = zero_in
  get_at (x ∷ l) zero h = h x here
  get_at (x ∷ l) (suc i) h = get_at l i (λ y j. h y (there j))

  over-all : (c : ℕ) → K c → Over t K c
  over-all c h = record {
    children = children-in c;
    two = λ m j s i l. get_at (classes (children_of t m)) i (all_map K (λ r. r.0) (children_of t m) (children-in c m j));
    own = λ o e. h;
    identity = identity-in;
  }

  -- what such a pair joins is one
  pub joined-in : (q : Two) → Both K K q → (c : Two) → In c (joins t q) → Both K K c
  joined-in q (a, b) c i = joins-in K K t q (over-all q.0 a) (over-all q.1 b) c i

  pub reachable-in : (root : Two) → Both K K root → (p : Two) → Reachable t root p → Both K K p
  reachable-in root h p r = reach-all (pairs t) (Both K K) (λ q c k i. joined-in q k c i) root h p r

-- ---- classes of the image
module _ (t : Tables) (v : Valid t) where
  -- What a pair of classes of the image joins are pairs of classes of the image.
  pub joins-within : (p : Two) → IsPair t p → (c : Two) → In c (joins t p) → IsPair t c
  joins-within = joined-in t (IsClass t) v.counts.some_class (λ c m i r j. child-within t v m c i r j) (identity-class t v)

  -- so every reachable pair is one
  pub reach-within : (p q : Two) → IsPair t p → Reachable t p q → IsPair t q
  reach-within p q h r = reach-all (pairs t) (IsPair t) (λ x c k i. joins-within x k c i) p h q r
