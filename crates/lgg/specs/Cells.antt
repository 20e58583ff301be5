-- The cells of a transport are distinct pairs of the graph: so rows × columns are no more than the graph's pairs, and need no limit of their own.
use Rattle.std.specs.Prelude.{◌≡◌, ◌⊎◌, length}
use Rattle.std.proofs.Common.{sym, ap, ◌∙◌, inl, inr, arith}
use Rattle.std.proofs.Math.Bool.{Bool, true, false}
use mathlib.Core.List.{List, [], ◌∷◌, ◌++◌, map}
use Prim.Native.Nat.{ℕ, suc, ◌≤◌}
use Rattle.std.proofs.Math.Dec.{eqb}
use Rattle.spec.specs.Bytes.{pick, both, filter, each, Two, Limits}
use Rattle.spec.specs.Image.{Tables, identity_of, members_of, children_of, NO-IDENTITY}
use Rattle.spec.specs.Monomial.{Monomial, MonomialPair, monomial, monomials_of, classes, itself, both_itself, pad_pair, narrow, narrow_pairs, representation_pairs}
use Rattle.spec.specs.Action.{TransportAction, ac_ops, transports, cell_pairs}
use Rattle.spec.specs.Pairs.{pairs}
use Rattle.spec.specs.Meaning.{In, here, there}
use Rattle.laws.specs.Monomials.{Rising, end, more, rising-insert, monomial-rises, Padded, level, left, right, padded}
use Rattle.laws.specs.Lists as L
use Rattle.laws.specs.Lists.{in-nil, in-cons, in-append, map-in, Distinct, none, pigeon}
use Rattle.laws.specs.Bag.{each_in, filter-in}
use Rattle.steps.specs.Graph.{Closed}
use Rattle.lgg.specs.Moves.{transport-joins}

-- ---- rows and columns rise
pick-in : {A : Type 0} (b : Bool) (x y : A) → In y (pick b [] (x ∷ [])) → y ≡ x
pick-in true x y i = absurd (in-nil i)
pick-in false x y i = elim (in-cons i) [ inl e ↦ e | inr j ↦ absurd (in-nil j) ]

module _ (t : Tables) where
  monomials-rise : (c o : ℕ) (m : Monomial) → In m (monomials_of t c o) → Rising 0 m
  unfolding monomials_of
  monomials-rise c o m i = go (in-append own i)
    where
      own : List Monomial
      own = map (λ e. monomial (children_of t e)) (filter (λ e. eqb e.op o) (members_of t c))

      go : In m own ⊎ In m (pick (eqb (identity_of t o) NO-IDENTITY) [] (itself c ∷ [])) → Rising 0 m
      go (inl j) = let (e, k, z) = map-in (λ e. monomial (children_of t e)) (filter (λ e. eqb e.op o) (members_of t c)) m j in rw (← z) (monomial-rises (children_of t e))
      go (inr j) = rw (pick-in (eqb (identity_of t o) NO-IDENTITY) (itself c) m j) (more {b = 0} {t = (c, 1)} {m = []} (omega arith) end)

  padded-rise : (e : ℕ) (l r : Monomial) (p : MonomialPair) → Rising 0 l → Rising 0 r → Padded e l r p → Rising 0 p.rows × Rising 0 p.cols
  padded-rise e l r p a b (level h x) = rw x (a, b)
  padded-rise e l r p a b (left k n h x) = rw x (rising-insert 0 e k l (omega arith) a, b)
  padded-rise e l r p a b (right k n h x) = rw x (a, rising-insert 0 e k r (omega arith) b)

  sides-rise : (l r o : ℕ) (m : MonomialPair) → In m (representation_pairs t l r o) → Rising 0 m.rows × Rising 0 m.cols
  unfolding representation_pairs
  sides-rise l r o m i =
      let (a, j, h) = each_in (λ a. each (cell a) (monomials_of t r o)) (monomials_of t l o) m i in
      let (b, k, g) = each_in (cell a) (monomials_of t r o) m h in
      go a b (both_itself l r a b) (monomials-rise l o a j) (monomials-rise r o b k) g
    where
      by : Bool → Monomial → Monomial → List MonomialPair
      by x a b = elim x [ true ↦ [] | false ↦ pad_pair (identity_of t o) a b ]

      cell : Monomial → Monomial → List MonomialPair
      cell a b = by (both_itself l r a b) a b

      go : (a b : Monomial) (x : Bool) → Rising 0 a → Rising 0 b → In m (by x a b) → Rising 0 m.rows × Rising 0 m.cols
      go a b true A B h = absurd (in-nil h)
      go a b false A B h = padded-rise (identity_of t o) a b m A B (padded (identity_of t o) a b m h)

  pub transports-rise : (l r : ℕ) (a : TransportAction) → In a (transports t l r) → Rising 0 a.sides.rows × Rising 0 a.sides.cols
  unfolding transports narrow_pairs
  transports-rise l r a h = go (eqb l r) h
    where
      pairs_of : ℕ → List TransportAction
      pairs_of o = map (λ m. record { op = o; sides = m }) (narrow_pairs (representation_pairs t l r o))

      go : (b : Bool) → In a (elim b [ true ↦ [] | false ↦ each pairs_of (ac_ops t l r) ]) → Rising 0 a.sides.rows × Rising 0 a.sides.cols
      go true h = absurd (in-nil h)
      go false h =
          let (o, i, h') = each_in pairs_of (ac_ops t l r) a h in
          let (m, j, e) = map-in (λ m. record { op = o; sides = m }) (narrow_pairs (representation_pairs t l r o)) a h' in
          rw (← e) (sides-rise l r o m (filter-in (λ p. both (narrow p.rows) (narrow p.cols)) (representation_pairs t l r o) j).0)

-- ---- so each cell stands once
rising-above : (b : ℕ) (m : Monomial) (c : ℕ) → Rising b m → In c (classes m) → b ≤ c
rising-above b [] c end i = absurd (in-nil i)
rising-above b (t ∷ m) c (more h r) i = elim (in-cons i) [ inl e ↦ omega (arith, e) | inr j ↦ omega (arith, rising-above (suc t.0) m c r j) ]

rising-once : (b : ℕ) (m : Monomial) → Rising b m → Distinct (classes m)
rising-once b [] end = none
rising-once b (t ∷ m) (more h r) = L.more {x = t.0} {l = classes m} (λ i. absurd (omega (arith, rising-above (suc t.0) m t.0 r i))) (rising-once (suc t.0) m r)

row-once : (a : ℕ) (ys : List ℕ) → Distinct ys → Distinct {A = Two} (map (λ b. (a, b)) ys)
row-once a [] none = none
row-once a (y ∷ ys) (L.more f d) = L.more (λ i. let (z, j, e) = map-in {B = Two} (λ b. (a, b)) ys (a, y) i in f (rw (ap (λ (p : Two). p.1) e) at j)) (row-once a ys d)

append-once : (l m : List Two) → Distinct l → Distinct m → ((x : Two) → In x l → In x m → ⊥) → Distinct (l ++ m)
append-once [] m none e f = e
append-once (x ∷ l) m (L.more g d) e f = L.more {x = x} {l = l ++ m} (λ i. elim (in-append l {m = m} i) [ inl j ↦ g j | inr j ↦ f x here j ]) (append-once l m d e (λ y i j. f y (there i) j))

grid-once : (xs ys : List ℕ) → Distinct xs → Distinct ys → Distinct {A = Two} (each (λ a. map (λ b. (a, b)) ys) xs)
unfolding each
grid-once [] ys none e = none
grid-once (x ∷ xs) ys (L.more f d) e =
    append-once (map (λ b. (x, b)) ys) (each (λ a. map (λ b. (a, b)) ys) xs) (row-once x ys e) (grid-once xs ys d e)
    (λ p i j. let (b, k, z) = map-in {B = Two} (λ b. (x, b)) ys p i in
    let (a, m, n) = each_in (λ a. map (λ b. (a, b)) ys) xs p j in
    let (c, q, w) = map-in {B = Two} (λ b. (a, b)) ys p n in
    f (rw (ap (λ (u : Two). u.0) w ∙ sym (ap (λ (u : Two). u.0) z)) at m))

-- ---- rows × columns of a transport of a pair of the graph
-- no transport of the pair has more cells than the limit of pairs
abbrev pub CellsFit : Limits → Tables → Two → Type 0
CellsFit lim t p = (a : TransportAction) → In a (transports t p.0 p.1) → length (cell_pairs a.sides) ≤ lim.pairs

module _ (t : Tables) (ps : List Two) (closed : Closed (pairs t) ps) (p : Two) (i : In p ps) (a : TransportAction) (h : In a (transports t p.0 p.1)) where
  pub cells-within : length (cell_pairs a.sides) ≤ length ps
  unfolding cell_pairs
  cells-within =
      let (x, y) = transports-rise t p.0 p.1 a h in
      pigeon (cell_pairs a.sides) ps (grid-once (classes a.sides.rows) (classes a.sides.cols) (rising-once 0 a.sides.rows x) (rising-once 0 a.sides.cols y))
      (λ q j. closed p q i (transport-joins t p a h q j))
