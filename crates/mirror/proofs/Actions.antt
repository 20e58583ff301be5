-- (02, Paper 13) "Sellers also enter the two fleets in either order": every action of (right, left) is one of (left, right) turned round.
use Rattle.std.specs.Prelude.{◌≡◌, refl, Bool, true, false, List, [], ◌∷◌, map, ℕ, ◌-◌, ltb, eqb}
use Rattle.std.proofs.Common.{sym, ◌∙◌, subst, inl, inr, arith, ltb-true, ltb-false, eqb-true}
use Rattle.std.proofs.lemmas.Bool.{eqb-false}
use Rattle.spec.specs.Bytes.{pick, both, either, each, In, here, Two, same_twos}
use Rattle.spec.specs.Image.{Tables, Member, NO-IDENTITY, SPair, Lit, is_ac, kind_of, identity_of, members_of, children_of}
use Rattle.spec.specs.Monomial.{Monomial, MonomialPair, pair_of, classes, insert_add, total, itself, monomials_of, pad_pair, both_itself, representation_pairs, narrow, narrow_pairs}
use Rattle.spec.specs.Action.{Action, TransportAction, by_position, straight_and_crossed, alignments, align_members, structural, ac_ops, transports, cell_pairs, joins}
use Rattle.laws.specs.Tests.{clash, both-swap, eqb_swap}
use Rattle.laws.specs.Lists.{in-nil, in-cons, in-append, in_map, map-in, in-each}
use Rattle.laws.specs.Bag.{each_in, filter-in, in-filter, perm_in}
use Rattle.lgg.specs.Moves.{action-joins, transport-joins}
use Rattle.mirror.specs.Transpose.{flip, turn_sides, turn_transport}
use Rattle.mirror.specs.Actions.{Turned, by-position, both_ways, ops-turn}

align : (kind o : ℕ) (xs ys : List ℕ) (a : Action) → In a (alignments kind o xs ys) → Turned a (alignments kind o ys xs)
unfolding alignments
align kind o xs ys a i = go (eqb kind SPair) (either (is_ac kind) (eqb kind Lit)) i
  where
    go : (x y : Bool) → In a (pick x (straight_and_crossed o xs ys) (pick y [] (by_position o xs ys))) → Turned a (pick x (straight_and_crossed o ys xs) (pick y [] (by_position o ys xs)))
    go true y j = both_ways o xs ys a j
    go false true j = absurd (in-nil j)
    go false false j = by-position o xs ys a j

-- "Where both classes have a member of the operation"
align-members : (t : Tables) (m n : Member) (a : Action) → In a (align_members t m n) → Turned a (align_members t n m)
unfolding align_members
align-members t m n a i = rw (eqb_swap n.op m.op, align_members) (go (eqb m.op n.op) refl i)
  where
    xs : List ℕ
    xs = classes (children_of t m)

    ys : List ℕ
    ys = classes (children_of t n)

    go : (x : Bool) → eqb m.op n.op ≡ x → In a (elim x [ true ↦ alignments (kind_of t m.op) m.op xs ys | false ↦ [] ]) → Turned a (elim x [ true ↦ alignments (kind_of t n.op) n.op ys xs | false ↦ [] ])
    go true e j = subst (λ o. Turned a (alignments (kind_of t o) o ys xs)) (eqb-true m.op n.op e) (align (kind_of t m.op) m.op xs ys a j)
    go false e j = absurd (in-nil j)

pub turn-action : (t : Tables) (l r : ℕ) (a : Action) → In a (structural t l r) → Turned a (structural t r l)
unfolding structural
turn-action t l r a i = rw (eqb_swap r l, structural) (go (eqb l r) i)
  where
    all : ℕ → ℕ → List Action
    all l r = each (λ m. each (align_members t m) (members_of t r)) (members_of t l)

    go : (x : Bool) → In a (elim x [ true ↦ [] | false ↦ all l r ]) → Turned a (elim x [ true ↦ [] | false ↦ all r l ])
    go true j = absurd (in-nil j)
    go false j =
        let (m, im, k) = each_in (λ m. each (align_members t m) (members_of t r)) (members_of t l) a j in
        let (n, jn, h) = each_in (align_members t m) (members_of t r) a k in
        let (b, ib, s) = align-members t m n a h in
        (b, in-each (λ m. each (align_members t m) (members_of t l)) (members_of t r) n b jn (in-each (align_members t n) (members_of t l) m b im ib), s)

-- ---- transports
-- "Unequal totals are padded with the identity; without one there is no pair."
pad-turn : (e : ℕ) (l r : Monomial) (m : MonomialPair) → In m (pad_pair e l r) → In (turn_sides m) (pad_pair e r l)
unfolding pad_pair
pad-turn e l r m i = rw (eqb_swap (total r) (total l)) (go (eqb (total l) (total r)) refl (eqb e NO-IDENTITY) (ltb (total l) (total r)) refl (ltb (total r) (total l)) refl i)
  where
    L : Monomial
    L = insert_add e (total r - total l) l

    R : Monomial
    R = insert_add e (total l - total r) r

    one : (u : MonomialPair) → In m (u ∷ []) → In (turn_sides m) (turn_sides u ∷ [])
    one u j = elim (in-cons j) [ inl z ↦ rw z here | inr z ↦ absurd (in-nil z) ]

    go : (x : Bool) → eqb (total l) (total r) ≡ x → (y z : Bool) → ltb (total l) (total r) ≡ z → (w : Bool) → ltb (total r) (total l) ≡ w
        → In m (pick x (pair_of l r ∷ []) (pick y [] (pick z (pair_of L r ∷ []) (pair_of l R ∷ []))))
        → In (turn_sides m) (pick x (pair_of r l ∷ []) (pick y [] (pick w (pair_of R l ∷ []) (pair_of r L ∷ []))))
    go true ex y z ez w ew j = one (pair_of l r) j
    go false ex true z ez w ew j = absurd (in-nil j)
    go false ex false true ez false ew j = one (pair_of L r) j
    go false ex false false ez true ew j = one (pair_of l R) j
    go false ex false true ez true ew j = absurd (omega (arith, ltb-true (total l) (total r) ez, ltb-true (total r) (total l) ew))
    go false ex false false ez false ew j = let n : total l ≡ total r → ⊥ = eqb-false (total l) (total r) ex in absurd (omega (arith, ltb-false (total l) (total r) ez, ltb-false (total r) (total l) ew))

-- "each monomial pair, except both classes as themselves once"
pub pairs-turn : (t : Tables) (l r o : ℕ) (m : MonomialPair) → In m (representation_pairs t l r o) → In (turn_sides m) (representation_pairs t r l o)
unfolding representation_pairs
pairs-turn t l r o m i =
    let (a, ia, k) = each_in (λ a. each (λ b. joint l r a b) (monomials_of t r o)) (monomials_of t l o) m i in
    let (b, jb, h) = each_in (λ b. joint l r a b) (monomials_of t r o) m k in
    in-each (λ b. each (λ a. joint r l b a) (monomials_of t l o)) (monomials_of t r o) b (turn_sides m) jb
    (in-each (λ a. joint r l b a) (monomials_of t l o) a (turn_sides m) ia (go a b (both_itself l r a b) (both_itself r l b a) (both-swap (same_twos a (itself l)) (same_twos b (itself r))) h))
  where
    joint : ℕ → ℕ → Monomial → Monomial → List MonomialPair
    joint l r a b = elim (both_itself l r a b) [ true ↦ [] | false ↦ pad_pair (identity_of t o) a b ]

    go : (a b : Monomial) (x y : Bool) → x ≡ y → In m (elim x [ true ↦ [] | false ↦ pad_pair (identity_of t o) a b ]) → In (turn_sides m) (elim y [ true ↦ [] | false ↦ pad_pair (identity_of t o) b a ])
    go a b true y e j = absurd (in-nil j)
    go a b false true e j = absurd (clash (sym e))
    go a b false false e j = pad-turn (identity_of t o) a b m j

-- "A pair with a count above 4,294,967,295 on either side is skipped."
narrow-turn : (l k : List MonomialPair) (m : MonomialPair) → ((n : MonomialPair) → In n l → In (turn_sides n) k) → In m (narrow_pairs l) → In (turn_sides m) (narrow_pairs k)
unfolding narrow_pairs
narrow-turn l k m f i =
    let (j, e) = filter-in (λ p. both (narrow p.rows) (narrow p.cols)) l i in
    in-filter (λ p. both (narrow p.rows) (narrow p.cols)) k (f m j) (both-swap (narrow m.cols) (narrow m.rows) ∙ e)

pub turn-transport : (t : Tables) (l r : ℕ) (a : TransportAction) → In a (transports t l r) → In (turn_transport a) (transports t r l)
unfolding transports
turn-transport t l r a i = rw (eqb_swap r l, transports) (go (eqb l r) i)
  where
    make : ℕ → ℕ → ℕ → List TransportAction
    make l r o = map (λ m. record { op = o; sides = m }) (narrow_pairs (representation_pairs t l r o))

    go : (x : Bool) → In a (elim x [ true ↦ [] | false ↦ each (make l r) (ac_ops t l r) ]) → In (turn_transport a) (elim x [ true ↦ [] | false ↦ each (make r l) (ac_ops t r l) ])
    go true j = absurd (in-nil j)
    go false j =
        let (o, io, k) = each_in (make l r) (ac_ops t l r) a j in
        let (m, jm, e) = map-in (λ m. record { op = o; sides = m }) (narrow_pairs (representation_pairs t l r o)) a k in
        subst (λ z. In (turn_transport z) (each (make r l) (ac_ops t r l))) e
        (in-each (make r l) (ac_ops t r l) o (record { op = o; sides = turn_sides m }) (subst (λ z. In o z) (ops-turn t l r) io)
        (in_map (λ m. record { op = o; sides = m }) (narrow-turn (representation_pairs t l r o) (representation_pairs t r l o) m (λ n h. pairs-turn t l r o n h) jm)))

-- ---- what a pair joins
cells-turn : (m : MonomialPair) (c : Two) → In c (cell_pairs m) → In (flip c) (cell_pairs (turn_sides m))
unfolding cell_pairs
cells-turn m c i =
    let (a, ia, k) = each_in (λ a. map (λ b. (a, b)) (classes m.cols)) (classes m.rows) c i in
    let (b, jb, e) = map-in (λ b. (a, b)) (classes m.cols) c k in
    rw (← e) (in-each (λ b. map (λ a. (b, a)) (classes m.rows)) (classes m.cols) b (b, a) jb (in_map (λ a. (b, a)) ia))

pub turn-joins : (t : Tables) (p c : Two) → In c (joins t p) → In (flip c) (joins t (flip p))
unfolding joins
turn-joins t p c i = elim (in-append (each (λ a. a.pairs) (structural t p.0 p.1)) i) [ inl j ↦ one j | inr j ↦ two j ]
  where
    one : In c (each (λ a. a.pairs) (structural t p.0 p.1)) → In (flip c) (joins t (flip p))
    one j =
        let (a, ia, k) = each_in (λ a. a.pairs) (structural t p.0 p.1) c j in
        let (b, ib, s) = turn-action t p.0 p.1 a ia in
        action-joins t (flip p) b ib (flip c) (perm_in s.pairs (in_map flip k))

    two : In c (each (λ a. cell_pairs a.sides) (transports t p.0 p.1)) → In (flip c) (joins t (flip p))
    two j =
        let (a, ia, k) = each_in (λ a. cell_pairs a.sides) (transports t p.0 p.1) c j in
        transport-joins t (flip p) (turn_transport a) (turn-transport t p.0 p.1 a ia) (flip c) (cells-turn a.sides c k)
