-- What a turn's choice names: places that the pair joins, a count for each, an operation of the image.
use Rattle.std.specs.Prelude.{◌≡◌, refl, ◌⊎◌, ltb, leb, get_or, drop}
use Rattle.std.proofs.Common.{sym, ap₂, ◌∙◌, mul-le-mul, arith, leb-true, length-take}
use Rattle.std.proofs.Math.Logic.{inl, inr}
use Rattle.std.proofs.Math.Bool.{Bool, true, false}
use mathlib.Core.List.{List, [], ◌∷◌, map}
use Rattle.std.proofs.Math.Option.{some}
use Prim.Native.Nat.{ℕ, zero, suc, ◌+◌, ◌*◌, ◌-◌, ◌≤◌, ◌<◌, max}
use Rattle.std.proofs.Math.Decide.{dec_lt}
use Rattle.std.proofs.Math.Dec.{eqb}
use Rattle.std.proofs.Math.ListN.{length, get_or-eq_default}
use Rattle.spec.specs.Bytes.{pick, both, either, all, each, filter, up_from, Two}
use Rattle.spec.specs.Image.{Tables, Member, SPair, Lit, NO-IDENTITY, is_ac, kind_of, identity_of, members_of, children_of, the_member}
use Rattle.spec.specs.Monomial.{Monomial, MonomialPair, insert_add, add_all, monomial, classes, counts, itself, monomials_of, pad_pair, both_itself, representation_pairs, COUNT, narrow, narrow_pairs}
use Rattle.spec.specs.Transport.{solve_cells, row_flow}
use Rattle.spec.specs.Action.{Action, TransportAction, zip, by_position, straight_and_crossed, alignments, align_members, structural, ac_ops, transports, cell_pairs, joins}
use Rattle.spec.specs.Pairs.{pairs}
use Rattle.spec.specs.Round.{ones, problem_over, Act, of_action, of_plan, act, turn_of}
use Rattle.spec.specs.Meaning.{In, Plan}
use Rattle.laws.specs.Tests.{both_true, clash}
use Rattle.laws.specs.Valid.{Valid}
use Rattle.laws.specs.Monomials.{Padded, level, left, right, padded}
use Rattle.flow.specs.Sums.{sum-term}
use Rattle.flow.specs.Queue.{in-upFrom}
use Rattle.flow.specs.Theorems.{margins}
use Rattle.laws.specs.Lists.{in-nil, in-cons, in-append, map-in, length-map}
use Rattle.laws.specs.Bag.{each_in, filter-in}
use Rattle.laws.specs.Grids.{cells-length}
use Rattle.laws.specs.BestMembers.{member-number}
use Rattle.steps.specs.Turn as turn
use Rattle.steps.specs.Turn.{turn-chosen}
use Rattle.lgg.specs.Moves.{each-offer, action-joins, transport-joins, pair_reads}

-- ---- a turn's choice is one of its actions
module _ (P : Act → Type 0) where
  pub turn-choice : (t : Tables) (q : Two → Two) (p : Two) → ((a : Action) → In a (structural t p.0 p.1) → P (of_action a))
      → ((a : TransportAction) → In a (transports t p.0 p.1) → (x : List ℕ) → solve_cells (problem_over a (map q (cell_pairs a.sides))) ≡ some x → P (of_plan a x))
      → (a : Act) → (turn_of t q p).choice ≡ act a → P a
  turn-choice t q p f g a e = each-offer P t q p f g a (turn-chosen (pairs t) q p a e)

-- the places that a turn chose are joined
pub choice-joins : (t : Tables) (q : Two → Two) (p : Two) (a : Act) → (turn_of t q p).choice ≡ act a → (c : Two) → In c a.places → In c (joins t p)
choice-joins t = turn.choice-joins (pairs t) (pair_reads t).inside

-- ---- what the actions of a pair are made of
zip_length : (xs ys : List ℕ) → length (zip xs ys) ≤ length xs
unfolding zip
zip_length [] ys = omega arith
zip_length (x ∷ xs) [] = omega arith
zip_length (x ∷ xs) (y ∷ ys) = omega (arith, zip_length xs ys)

abbrev Aligned : ℕ → ℕ → Action → Type 0
Aligned o n a = (a.op ≡ o) × (length a.pairs ≤ max n 2)

alignments-made : (kind o : ℕ) (xs ys : List ℕ) (a : Action) → In a (alignments kind o xs ys) → Aligned o (length xs) a
unfolding alignments by_position straight_and_crossed
alignments-made kind o xs ys a i = go (eqb kind SPair) (either (is_ac kind) (eqb kind Lit)) (eqb (length xs) (length ys)) (either (eqb (get_or xs 0 0) (get_or xs 1 0)) (eqb (get_or ys 0 0) (get_or ys 1 0))) i
  where
    one : (b : Action) → Aligned o (length xs) b → In a (b ∷ []) → Aligned o (length xs) a
    one b h j = elim (in-cons j) [ inl e ↦ rw e h | inr k ↦ absurd (in-nil k) ]

    straight : Action
    straight = record { op = o; pairs = (get_or xs 0 0, get_or ys 0 0) ∷ (get_or xs 1 0, get_or ys 1 0) ∷ [] }

    crossed : Action
    crossed = record { op = o; pairs = (get_or xs 0 0, get_or ys 1 0) ∷ (get_or xs 1 0, get_or ys 0 0) ∷ [] }

    whole : Action
    whole = record { op = o; pairs = zip xs ys }

    go : (x y z w : Bool) → In a (pick x (straight ∷ pick w [] (crossed ∷ [])) (pick y [] (pick z (whole ∷ []) []))) → Aligned o (length xs) a
    go true y z true j = one straight (refl, omega arith) j
    go true y z false j = elim (in-cons j) [ inl e ↦ rw e (refl, omega arith) | inr k ↦ one crossed (refl, omega arith) k ]
    go false true z w j = absurd (in-nil j)
    go false false true w j = one whole (refl, omega (arith, zip_length xs ys)) j
    go false false false w j = absurd (in-nil j)

pub structural-made : (t : Tables) (l r : ℕ) (a : Action) → In a (structural t l r) → (m : Member) × In m (members_of t l) × Aligned m.op (length (children_of t m)) a
unfolding structural align_members
structural-made t l r a h = go (eqb l r) h
  where
    align : (m n : Member) (x : Bool) → In a (elim x [ true ↦ alignments (kind_of t m.op) m.op (classes (children_of t m)) (classes (children_of t n)) | false ↦ [] ]) → Aligned m.op (length (children_of t m)) a
    align m n true j =
        let (e, f) = alignments-made (kind_of t m.op) m.op (classes (children_of t m)) (classes (children_of t n)) a j in
        (e, omega (arith, length-map (λ (c : Two). c.0) (children_of t m)))
    align m n false j = absurd (in-nil j)

    go : (b : Bool) → In a (elim b [ true ↦ [] | false ↦ each (λ m. each (align_members t m) (members_of t r)) (members_of t l) ]) → (m : Member) × In m (members_of t l) × Aligned m.op (length (children_of t m)) a
    go true h = absurd (in-nil h)
    go false h =
        let (m, i, h') = each_in (λ m. each (align_members t m) (members_of t r)) (members_of t l) a h in
        let (n, j, h'') = each_in (align_members t m) (members_of t r) a h' in
        (m, i, align m n (eqb m.op n.op) h'')

insert-length : (c k : ℕ) (m : Monomial) → length (insert_add c k m) ≤ suc (length m)
unfolding insert_add
insert-length c k [] = omega arith
insert-length c k (x ∷ m) = go (ltb x.0 c) (eqb x.0 c) (insert-length c k m)
  where
    go : (a b : Bool) → length (insert_add c k m) ≤ suc (length m) → length {A = Two} (elim a [ true ↦ x ∷ insert_add c k m | false ↦ pick b ((c, x.1 + k) ∷ m) ((c, k) ∷ x ∷ m) ]) ≤ suc (suc (length m))
    go true b ih = omega arith
    go false true ih = omega arith
    go false false ih = omega arith

add-length : (m : Monomial) (l : List Two) → length (add_all m l) ≤ length m + length l
unfolding add_all
add-length m [] = omega arith
add-length m (x ∷ l) = omega (arith, add-length (insert_add x.0 x.1 m) l, insert-length x.0 x.1 m)

abbrev FewSides : MonomialPair → Type 0
FewSides m = (length m.rows ≤ 65) × (length m.cols ≤ 65)

-- a transport: an operation of the image over at most 65 rows and columns, whose counts fit
pub record TransportMade (t : Tables) (a : TransportAction) : Type 0 where
  pub operation : a.op < length t.operations
  pub few_rows : length a.sides.rows ≤ 65
  pub few_columns : length a.sides.cols ≤ 65
  pub narrow_rows : narrow a.sides.rows ≡ true
  pub narrow_columns : narrow a.sides.cols ≡ true

module _ (t : Tables) (v : Valid t) where
  pub children-few : (m : Member) (c : ℕ) → In m (members_of t c) → length (children_of t m) ≤ 64
  children-few m c i = let (k, h, e) = member-number t v m c i in let z = v.spans.few_own_children k h in rw e (omega (arith, length-take (the_member t k).count (drop (the_member t k).first t.children)))

  member-op : (m : Member) (c : ℕ) → In m (members_of t c) → m.op < length t.operations
  member-op m c i = let (k, h, e) = member-number t v m c i in rw e (v.spans.operation_within k h)

  monomial-few : (c o : ℕ) (m : Monomial) → In m (monomials_of t c o) → length m ≤ 64
  unfolding monomials_of
  monomial-few c o m h = go (in-append (map (λ n. monomial (children_of t n)) (filter (λ n. eqb n.op o) (members_of t c))) h)
    where
      its : (b : Bool) → In m (pick b [] (itself c ∷ [])) → length m ≤ 64
      its true h = absurd (in-nil h)
      its false h = elim (in-cons h) [ inl e ↦ rw e (omega arith) | inr j ↦ absurd (in-nil j) ]

      go : In m (map (λ n. monomial (children_of t n)) (filter (λ n. eqb n.op o) (members_of t c))) ⊎ In m (pick (eqb (identity_of t o) NO-IDENTITY) [] (itself c ∷ [])) → length m ≤ 64
      go (inl h) =
          let (n, i, e) = map-in (λ n. monomial (children_of t n)) (filter (λ n. eqb n.op o) (members_of t c)) m h in
          let f = children-few n c (filter-in (λ n. eqb n.op o) (members_of t c) i).0 in
          rw (← e) (omega (arith, add-length [] (children_of t n)))
      go (inr h) = its (eqb (identity_of t o) NO-IDENTITY) h

  padded-few : (e : ℕ) (a b : Monomial) (m : MonomialPair) → length a ≤ 64 → length b ≤ 64 → Padded e a b m → FewSides m
  padded-few e a b m h k (level x y) = rw y (omega arith, omega arith)
  padded-few e a b m h k (left n z x y) = rw y (omega (arith, insert-length e n a), omega arith)
  padded-few e a b m h k (right n z x y) = rw y (omega arith, omega (arith, insert-length e n b))

  sides-few : (l r o : ℕ) (m : MonomialPair) → In m (representation_pairs t l r o) → FewSides m
  unfolding representation_pairs
  sides-few l r o m h =
      let (a, i, h') = each_in (λ a. each (λ b. cell a b) (monomials_of t r o)) (monomials_of t l o) m h in
      let (b, j, h'') = each_in (λ b. cell a b) (monomials_of t r o) m h' in
      go a b (both_itself l r a b) (monomial-few l o a i) (monomial-few r o b j) h''
    where
      by : Bool → Monomial → Monomial → List MonomialPair
      by x a b = elim x [ true ↦ [] | false ↦ pad_pair (identity_of t o) a b ]

      cell : Monomial → Monomial → List MonomialPair
      cell a b = by (both_itself l r a b) a b

      go : (a b : Monomial) (x : Bool) → length a ≤ 64 → length b ≤ 64 → In m (by x a b) → FewSides m
      go a b true h k i = absurd (in-nil i)
      go a b false h k i = padded-few (identity_of t o) a b m h k (padded (identity_of t o) a b m i)

  pub transport-made : (l r : ℕ) (a : TransportAction) → In a (transports t l r) → TransportMade t a
  unfolding transports narrow_pairs ac_ops
  transport-made l r a h = go (eqb l r) h
    where
      pairs_of : ℕ → List TransportAction
      pairs_of o = map (λ m. record { op = o; sides = m }) (narrow_pairs (representation_pairs t l r o))

      go : (b : Bool) → In a (elim b [ true ↦ [] | false ↦ each pairs_of (ac_ops t l r) ]) → TransportMade t a
      go true h = absurd (in-nil h)
      go false h =
          let (o, i, h') = each_in pairs_of (ac_ops t l r) a h in
          let (m, j, e) = map-in (λ m. record { op = o; sides = m }) (narrow_pairs (representation_pairs t l r o)) a h' in
          let (k, f) = filter-in (λ p. both (narrow p.rows) (narrow p.cols)) (representation_pairs t l r o) j in
          let (x, y) = sides-few l r o m k in
          let (c, d) = (both_true (narrow m.rows) (narrow m.cols)).0 f in
          let u = (in-upFrom (length t.operations) 0 o (filter-in _ (up_from 0 (length t.operations)) i).0).1 in
          rw (← e) (record { operation = omega arith; few_rows = x; few_columns = y; narrow_rows = c; narrow_columns = d })

-- ---- what a choice names
-- a place of a grid by its row and its column
in-grid : (m n k : ℕ) → k < m * n → (i : ℕ) × (j : ℕ) × (i < m) × (j < n) × (k ≡ i * n + j)
in-grid zero n k h = absurd (omega arith)
in-grid (suc m) n k h = go (dec_lt k n) (λ d. in-grid m n (k - n) d)
  where
    go : Dec (k < n) → (k - n < m * n → (i : ℕ) × (j : ℕ) × (i < m) × (j < n) × (k - n ≡ i * n + j)) → (i : ℕ) × (j : ℕ) × (i < suc m) × (j < n) × (k ≡ i * n + j)
    go (yes l) ih = (0, k, omega arith, l, omega arith)
    go (no l) ih = let (i, j, a, b, e) = ih (omega arith) in (suc i, j, omega arith, b, omega arith)

narrow_at : (m : Monomial) (i : ℕ) → narrow m ≡ true → get_or (counts m) i 0 ≤ COUNT
unfolding all
narrow_at [] i e = omega arith
narrow_at (x ∷ m) i e = go (leb x.1 COUNT) refl i e (λ j f. narrow_at m j f)
  where
    go : (b : Bool) → leb x.1 COUNT ≡ b → (i : ℕ) → elim b [ true ↦ narrow m | false ↦ false ] ≡ true → ((j : ℕ) → narrow m ≡ true → get_or (counts m) j 0 ≤ COUNT) → get_or (counts (x ∷ m)) i 0 ≤ COUNT
    go false z i e ih = absurd (clash (sym e))
    go true z zero e ih = leb-true x.1 COUNT z
    go true z (suc i) e ih = ih i e

-- every count of a plan fits, where the rows' do
plan-narrow : (a : TransportAction) (qs : List Two) (x : List ℕ) → narrow a.sides.rows ≡ true → Plan (problem_over a qs) x → (k : ℕ) → get_or x k 0 ≤ COUNT
unfolding row_flow
plan-narrow a qs x e n k = go (dec_lt k (length x))
  where
    rows : ℕ
    rows = length (counts a.sides.rows)

    cols : ℕ
    cols = length (counts a.sides.cols)

    go : Dec (k < length x) → get_or x k 0 ≤ COUNT
    go (no l) = rw (get_or-eq_default x 0 {n = k} (omega arith)) (omega arith)
    go (yes l) =
        let (i, j, hi, hj, f) = in-grid rows cols k (omega (arith, n.long)) in
        let r = n.rows i hi in
        let s = sum-term cols (λ c. get_or x (i * cols + c) 0) j hj in
        let u = narrow_at a.sides.rows i e in
        rw f (omega arith)

ones-at : (ps : List Two) (k : ℕ) → get_or (ones ps) k 0 ≤ 1
ones-at [] k = omega arith
ones-at (p ∷ ps) zero = omega arith
ones-at (p ∷ ps) (suc k) = ones-at ps k

-- What a choice `act a` of pair p's turn names.
pub record Placed (t : Tables) (p : Two) (a : Act) : Type 0 where
  -- every place is joined by the pair
  pub joined : (c : Two) → In c a.places → In c (joins t p)
  -- one count for each place, and it fits a number of 4 bytes
  pub long : length a.counts ≡ length a.places
  pub counted : (k : ℕ) → get_or a.counts k 0 ≤ COUNT
  pub operation : a.op < length t.operations
  -- at most 65 × 65
  pub few : length a.places ≤ 4225

module _ (t : Tables) (v : Valid t) where
  pub turn-placed : (q : Two → Two) (p : Two) (a : Act) → (turn_of t q p).choice ≡ act a → Placed t p a
  turn-placed q p = turn-choice (Placed t p) t q p
      (λ a i. let (m, j, z) = structural-made t p.0 p.1 a i in record {
        joined = action-joins t p a i;
        long = length-map (λ c. 1) a.pairs;
        counted = λ k. omega (arith, ones-at a.pairs k);
        operation = rw z.0 (member-op t v m p.0 j);
        few = omega (arith, children-few t v m p.0 j, z.1);
      })
      (λ a i x e.
      let M = transport-made t v p.0 p.1 a i in
      let n = margins (problem_over a (map q (cell_pairs a.sides))) x e in record {
        joined = transport-joins t p a i;
        long = n.long ∙ ap₂ (λ (a b : ℕ). a * b) (length-map (λ (c : Two). c.1) a.sides.rows) (length-map (λ (c : Two). c.1) a.sides.cols) ∙ sym (cells-length a.sides);
        counted = plan-narrow a (map q (cell_pairs a.sides)) x M.narrow_rows n;
        operation = M.operation;
        few = omega (arith, cells-length a.sides, mul-le-mul {n₁ = length a.sides.rows} {m₁ = length a.sides.cols} {n₂ = 65} {m₂ = 65} M.few_rows M.few_columns);
      })
