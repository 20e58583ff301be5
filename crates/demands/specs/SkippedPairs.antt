-- (02, Paper 7) The monomial pairs of two classes: which are skipped, that the others are the transport actions, and what the number of those skipped counts.
use Rattle.std.specs.Prelude.{◌≡◌, refl, ◌≢◌, ◌↔◌, Bool, true, false, not, List, [], ◌∷◌, ◌++◌, map, ℕ, zero, suc, ◌+◌, ◌≤◌, ◌<◌, leb, eqb, length}
use Rattle.std.proofs.Common.{sym, ap, ◌∙◌, subst, inl, inr, arith, length-append, leb-true, leb-false, eqb-true}
use Rattle.std.proofs.lemmas.Bool.{eqb-false}
use Rattle.spec.specs.Bytes.{both, all, filter, each, sum, up_from, In, here, there, Two}
use Rattle.spec.specs.Image.{Tables}
use Rattle.spec.specs.Monomial.{Monomial, MonomialPair, representation_pairs, COUNT, narrow, narrow_pairs, wide, wide_pairs, skipped_under}
use Rattle.spec.specs.Action.{Action, TransportAction, structural, ac_ops, transports, cell_pairs, skipped_at}
use Rattle.spec.specs.System as system
use Rattle.spec.specs.Pairs.{starting_quality, ones, problem_over, pairs}
use Rattle.spec.specs.Meaning as meaning
use Rattle.spec.specs.Meaning.{Plan, Move, Reachable}
use Rattle.laws.specs.Tests.{clash}
use Rattle.laws.specs.Lists.{in-nil, in-cons, in_left, in_right, in-append, in_map, map-in, in-each, length-map, Distinct, none, more, distinct-map}
use Rattle.laws.specs.Bag.{each_in, filter-in, in-filter}
use Rattle.skips.specs.Counted.{Once, nothing, also, Counted, counted}
use Rattle.steps.specs.Rounds.{Moves, LeastOf}
use Rattle.lgg.specs.Moves.{pair-moves}

-- ---- "A pair with a count above 4,294,967,295 on either side is skipped."
abbrev pub Skipped : MonomialPair → Type 0
Skipped m = (e : Two) × In e (m.rows ++ m.cols) × (COUNT < e.1)

-- the test of the definitions says it
narrow-says : (m : Monomial) (b : Bool) → narrow m ≡ b → elim b as (λ _. Type 0) [ true ↦ (e : Two) → In e m → e.1 ≤ COUNT | false ↦ (e : Two) × In e m × (COUNT < e.1) ]
unfolding all
narrow-says [] true z = λ e i. absurd (in-nil i)
narrow-says [] false z = absurd (clash z)
narrow-says (t ∷ m) b z = go (leb t.1 COUNT) refl b z (λ c y. narrow-says m c y)
  where
    go : (x : Bool) → leb t.1 COUNT ≡ x → (b : Bool) → elim x [ true ↦ narrow m | false ↦ false ] ≡ b
        → ((c : Bool) → narrow m ≡ c → elim c as (λ _. Type 0) [ true ↦ (e : Two) → In e m → e.1 ≤ COUNT | false ↦ (e : Two) × In e m × (COUNT < e.1) ])
        → elim b as (λ _. Type 0) [ true ↦ (e : Two) → In e (t ∷ m) → e.1 ≤ COUNT | false ↦ (e : Two) × In e (t ∷ m) × (COUNT < e.1) ]
    go true p true z ih = λ e i. elim (in-cons i) [ inl q ↦ omega (arith, ap (λ (x : Two). x.1) q, leb-true t.1 COUNT p) | inr j ↦ ih true z e j ]
    go true p false z ih = let (e, i, h) = ih false z in (e, there i, h)
    go false p true z ih = absurd (clash (sym z))
    go false p false z ih = (t, here, leb-false t.1 COUNT p)

pub skipped-test : (m : MonomialPair) → (wide m ≡ true) ↔ Skipped m
skipped-test m = go (narrow m.rows) (narrow m.cols) refl refl
  where
    go : (a b : Bool) → narrow m.rows ≡ a → narrow m.cols ≡ b → (not (both a b) ≡ true) ↔ Skipped m
    go true true p q = ((λ z. absurd (clash (sym z))), λ (e, i, h). elim (in-append m.rows i) [ inl j ↦ absurd (omega (arith, narrow-says m.rows true p e j)) | inr j ↦ absurd (omega (arith, narrow-says m.cols true q e j)) ])
    go true false p q = (λ z. let (e, i, h) = narrow-says m.cols false q in (e, in_right m.rows i, h), λ s. refl)
    go false b p q = (λ z. let (e, i, h) = narrow-says m.rows false p in (e, in_left m.cols i, h), λ s. refl)

-- ---- the monomial pairs of a pair of classes, skipped or not: "An MSet or Set operation of either class" over two monomials, "except both classes as themselves once"; "A class paired with itself has no actions."
pub record Joint (t : Tables) (p : Two) (a : TransportAction) : Type 0 where
  pub different : p.0 ≢ p.1
  pub operation : In a.op (ac_ops t p.0 p.1)
  pub sides : In a.sides (representation_pairs t p.0 p.1 a.op)

not-skipped : (m : MonomialPair) → both (narrow m.rows) (narrow m.cols) ≡ true → Skipped m → ⊥
not-skipped m w s = clash (sym ((skipped-test m).1 s) ∙ ap not w)

not_wide : (b : Bool) → (not b ≡ true → ⊥) → b ≡ true
not_wide true f = refl
not_wide false f = absurd (f refl)

abbrev pub over : ℕ → MonomialPair → TransportAction
over o m = record { op = o; sides = m }

-- "acts by transport over each monomial pair": over each that is not skipped, and no other
pub transport-where : (t : Tables) (p : Two) (a : TransportAction) → In a (transports t p.0 p.1) ↔ (Joint t p a × (Skipped a.sides → ⊥))
unfolding transports narrow_pairs
transport-where t p a = (λ i. go (eqb p.0 p.1) refl i, λ h. by (eqb p.0 p.1) refl h.0 h.1)
  where
    go : (b : Bool) → eqb p.0 p.1 ≡ b → In a (elim b [ true ↦ [] | false ↦ each (λ o. map (λ m. over o m) (narrow_pairs (representation_pairs t p.0 p.1 o))) (ac_ops t p.0 p.1) ]) → Joint t p a × (Skipped a.sides → ⊥)
    go true e i = absurd (in-nil i)
    go false e i =
        let (o, j, k) = each_in (λ o. map (λ m. over o m) (narrow_pairs (representation_pairs t p.0 p.1 o))) (ac_ops t p.0 p.1) a i in
        let (m, u, q) = map-in (λ m. over o m) (narrow_pairs (representation_pairs t p.0 p.1 o)) a k in
        let (v, w) = filter-in (λ m. both (narrow m.rows) (narrow m.cols)) (representation_pairs t p.0 p.1 o) u in
        rw (← q) (record { different = eqb-false p.0 p.1 e; operation = j; sides = v }, not-skipped m w)

    by : (b : Bool) → eqb p.0 p.1 ≡ b → Joint t p a → (Skipped a.sides → ⊥) → In a (elim b [ true ↦ [] | false ↦ each (λ o. map (λ m. over o m) (narrow_pairs (representation_pairs t p.0 p.1 o))) (ac_ops t p.0 p.1) ])
    by true e J f = absurd (J.different (eqb-true p.0 p.1 e))
    by false e J f =
        in-each (λ o. map (λ m. over o m) (narrow_pairs (representation_pairs t p.0 p.1 o))) (ac_ops t p.0 p.1) a.op a J.operation
        (in_map (λ m. over a.op m) (in-filter (λ m. both (narrow m.rows) (narrow m.cols)) (representation_pairs t p.0 p.1 a.op) J.sides (not_wide (both (narrow a.sides.rows) (narrow a.sides.cols)) (λ z. f ((skipped-test a.sides).0 z)))))

-- ---- "derivations without the skipped pairs": an action of pair p is an alignment, or any whole-number plan over a monomial pair of it that is not skipped
pub data MoveWithout (t : Tables) (p : Two) : List Two → List ℕ → Type 0 where
  aligned : {ps : List Two} {x : List ℕ} (a : Action) → In a (structural t p.0 p.1) → ps ≡ a.pairs → x ≡ ones a.pairs → MoveWithout t p ps x
  planned : {ps : List Two} {x : List ℕ} (a : TransportAction) → Joint t p a → (Skipped a.sides → ⊥) → ps ≡ cell_pairs a.sides → Plan (problem_over a (map (starting_quality t) ps)) x → MoveWithout t p ps x

-- the definition's moves are these
pub moves-without : (t : Tables) (p : Two) (ps : List Two) (x : List ℕ) → Move t p ps x ↔ MoveWithout t p ps x
moves-without t p ps x = (λ m. to m, λ m. back m)
  where
    to : Move t p ps x → MoveWithout t p ps x
    to (meaning.aligned a i e f) = aligned a i e f
    to (meaning.planned a i e n) = let (J, f) = (transport-where t p a).0 i in planned a J f e n

    back : MoveWithout t p ps x → Move t p ps x
    back (aligned a i e f) = meaning.aligned a i e f
    back (planned a J f e n) = meaning.planned a ((transport-where t p a).1 (J, f)) e n

abbrev pub Without : Tables → ℕ → Two → Two → Type 0
Without t h p z = system.Derivation (pairs t) (MoveWithout t) h p z

-- z is the quality of such a derivation of height at most h, and every such derivation has at least as much
abbrev pub LeastWithout : Tables → ℕ → Two → Two → Type 0
LeastWithout t h p z = LeastOf (pairs t) (MoveWithout t) h p z

pub without-moves : (t : Tables) → Moves (pairs t) (MoveWithout t)
without-moves t = record {
  sound = λ q p a i. (moves-without t p a.places a.counts).0 ((pair-moves t).sound q p a i);
  best = λ q p cs x m. (pair-moves t).best q p cs x ((moves-without t p cs x).1 m);
  joined = λ p cs x m. (pair-moves t).joined p cs x ((moves-without t p cs x).1 m);
  rising = (pair-moves t).rising;
}

-- ---- what is counted
-- n things are P: there is a list of them all, each once
pub record Many {A : Type 0} (P : A → Type 0) (n : ℕ) : Type 0 where
  pub those : List A
  pub once : Distinct those
  pub exactly : (x : A) → In x those ↔ P x
  pub many : length those ≡ n

append-once : {A : Type 0} (l m : List A) → Distinct l → Distinct m → ((x : A) → In x l → In x m → ⊥) → Distinct (l ++ m)
append-once [] m none b f = b
append-once (x ∷ l) m (more g a) b f = more {x = x} {l = l ++ m} (λ i. elim (in-append l i) [ inl j ↦ g j | inr j ↦ f x here j ]) (append-once l m a b (λ y i j. f y (there i) j))

-- by kinds: of each kind b so many as f says, of all together their sum
pub many-sum : {A B : Type 0} (kind : A → B) (f : B → ℕ) (P : A → Type 0) (l : List B) → Distinct l → ((b : B) → In b l → Many (λ x. (kind x ≡ b) × P x) (f b)) → Many (λ x. In (kind x) l × P x) (sum (map f l))
unfolding sum
many-sum kind f P [] d h = record { those = []; once = none; exactly = λ x. ((λ i. absurd (in-nil i)), λ z. absurd (in-nil z.0)); many = refl }
many-sum {A = A} {B = B} kind f P (b ∷ l) (more n d) h = go (h b here) (many-sum kind f P l d (λ c i. h c (there i)))
  where
    go : Many (λ x. (kind x ≡ b) × P x) (f b) → Many (λ x. In (kind x) l × P x) (sum (map f l)) → Many (λ x. In (kind x) (b ∷ l) × P x) (f b + sum (map f l))
    go M N = record {
      those = M.those ++ N.those;
      once = append-once M.those N.those M.once N.once (λ x i j. n (subst (λ c. In c l) ((M.exactly x).0 i).0 ((N.exactly x).0 j).0));
      exactly = λ x. (
        λ i. elim (in-append M.those i) [ inl j ↦ (let (e, p) = (M.exactly x).0 j in (rw e here, p)) | inr j ↦ (let (k, p) = (N.exactly x).0 j in (there k, p)) ],
        λ (i, p). elim (in-cons i) [ inl e ↦ in_left N.those ((M.exactly x).1 (e, p)) | inr j ↦ in_right M.those ((N.exactly x).1 (j, p)) ],
      );
      many = omega (arith, length-append M.those N.those, M.many, N.many);
    }

-- one for one
many-map : {A B : Type 0} (g : A → B) (P : A → Type 0) (Q : B → Type 0) (n : ℕ) → ((x y : A) → g x ≡ g y → x ≡ y) → ((x : A) → P x → Q (g x)) → ((y : B) → Q y → (x : A) × P x × (g x ≡ y)) → Many P n → Many Q n
many-map {A = A} {B = B} g P Q n one to from M = record {
  those = map g M.those;
  once = distinct-map g one M.those M.once;
  exactly = λ y. (
    λ i. (let (x, j, e) = map-in g M.those y i in subst Q e (to x ((M.exactly x).0 j))),
    λ q. (let (x, p, e) = from y q in subst (λ z. In z (map g M.those)) e (in_map g ((M.exactly x).1 p))),
  );
  many = length-map g M.those ∙ M.many;
}

-- .. what they are may be said otherwise
pub many-same : {A : Type 0} (P Q : A → Type 0) (n : ℕ) → ((x : A) → P x ↔ Q x) → Many P n → Many Q n
many-same P Q n f M = record { those = M.those; once = M.once; exactly = λ x. ((λ i. (f x).0 ((M.exactly x).0 i)), λ q. (M.exactly x).1 ((f x).1 q)); many = M.many }

pub many-none : {A : Type 0} (P : A → Type 0) (n : ℕ) → Many P n → n ≡ 0 → (x : A) → P x → ⊥
many-none {A = A} P n M e x p = go M.those (M.many ∙ e) ((M.exactly x).1 p)
  where
    go : (l : List A) → length l ≡ 0 → In x l → ⊥
    go [] z i = in-nil i
    go (y ∷ l) z i = absurd (omega arith)

-- ---- each operation is tried once
up-later : (x a n : ℕ) → In x (up_from a n) → a ≤ x
unfolding up_from
up-later x a zero i = absurd (in-nil i)
up-later x a (suc n) i = elim (in-cons i) [ inl e ↦ omega arith | inr j ↦ omega (arith, up-later x (suc a) n j) ]

up-once : (a n : ℕ) → Distinct (up_from a n)
unfolding up_from
up-once a zero = none
up-once a (suc n) = more {x = a} {l = up_from (suc a) n} (λ i. absurd (omega (arith, up-later a (suc a) n i))) (up-once (suc a) n)

filter-once : {A : Type 0} (f : A → Bool) (l : List A) → Distinct l → Distinct (filter f l)
unfolding filter
filter-once f [] none = none
filter-once {A = A} f (x ∷ l) (more g d) = go (f x) (filter-once f l d)
  where
    go : (b : Bool) → Distinct (filter f l) → Distinct {A = A} (elim b [ true ↦ x ∷ filter f l | false ↦ filter f l ])
    go true h = more (λ i. g (filter-in f l i).0) h
    go false h = h

ops-once : (t : Tables) (l r : ℕ) → Distinct (ac_ops t l r)
unfolding ac_ops
ops-once t l r = filter-once _ (up_from 0 (length t.operations)) (up-once 0 (length t.operations))

-- ---- "A pair that, after padding, occurs again for the same left class, right class and operation is counted once."
-- of one operation: the different skipped pairs
once-distinct : (l : List MonomialPair) → Once l → Distinct l
once-distinct [] nothing = none
once-distinct (p ∷ l) (also f o) = more f (once-distinct l o)

pub many-under : (t : Tables) (l r o : ℕ) → Many (λ m. In m (representation_pairs t l r o) × Skipped m) (skipped_under t l r o)
unfolding skipped_under wide_pairs
many-under t l r o = record {
  those = c.those;
  once = once-distinct c.those c.once;
  exactly = λ m. (
    λ i. (let (j, w) = filter-in wide (representation_pairs t l r o) (c.from m i) in (j, (skipped-test m).0 w)),
    λ (j, s). elim (c.all m (in-filter wide (representation_pairs t l r o) j ((skipped-test m).1 s))) [ inl z ↦ absurd (clash (sym z)) | inr i ↦ i ],
  );
  many = c.many;
}
  where
    c : Counted [] (wide_pairs (representation_pairs t l r o)) (skipped_under t l r o)
    c = counted [] (wide_pairs (representation_pairs t l r o))

-- a monomial pair of a pair of classes under an operation
pub record Place : Type 0 where
  pub pair : Two
  pub act : TransportAction

abbrev pub SkippedPlace : Tables → Place → Type 0
SkippedPlace t x = Joint t x.pair x.act × Skipped x.act.sides

-- of one pair of classes: over its operations
pub many-at : (t : Tables) (p : Two) → Many (λ x. (x.pair ≡ p) × SkippedPlace t x) (skipped_at t p)
unfolding skipped_at
many-at t p = go (eqb p.0 p.1) refl
  where
    put : ℕ → MonomialPair → Place
    put o m = record { pair = p; act = over o m }

    one : (o : ℕ) (x y : MonomialPair) → put o x ≡ put o y → x ≡ y
    one o x y e = ap (λ (z : Place). z.act.sides) e

    go : (b : Bool) → eqb p.0 p.1 ≡ b → Many (λ x. (x.pair ≡ p) × SkippedPlace t x) (elim b [ true ↦ 0 | false ↦ sum (map (skipped_under t p.0 p.1) (ac_ops t p.0 p.1)) ])
    go true e = record { those = []; once = none; exactly = λ x. ((λ i. absurd (in-nil i)), λ (q, s). absurd (s.0.different (rw q (eqb-true p.0 p.1 e)))); many = refl }
    go false e =
        many-same (λ x. In x.act.op (ac_ops t p.0 p.1) × ((x.pair ≡ p) × SkippedPlace t x)) (λ x. (x.pair ≡ p) × SkippedPlace t x) (sum (map (skipped_under t p.0 p.1) (ac_ops t p.0 p.1)))
        (λ x. ((λ z. z.1), λ z. (subst (λ q. In x.act.op (ac_ops t q.0 q.1)) z.0 z.1.0.operation, z)))
        (many-sum (λ x. x.act.op) (skipped_under t p.0 p.1) (λ x. (x.pair ≡ p) × SkippedPlace t x) (ac_ops t p.0 p.1) (ops-once t p.0 p.1)
        (λ o j. many-map (put o) (λ m. In m (representation_pairs t p.0 p.1 o) × Skipped m) (λ x. (x.act.op ≡ o) × ((x.pair ≡ p) × SkippedPlace t x)) (skipped_under t p.0 p.1 o) (one o)
        (λ m z. (refl, (refl, (record { different = eqb-false p.0 p.1 e; operation = j; sides = z.0 }, z.1))))
        (λ x z. back o x z.0 z.1.0 z.1.1) (many-under t p.0 p.1 o)))
      where
        back : (o : ℕ) (x : Place) → x.act.op ≡ o → x.pair ≡ p → SkippedPlace t x → (m : MonomialPair) × (In m (representation_pairs t p.0 p.1 o) × Skipped m) × (put o m ≡ x)
        back o x f q s = (
          x.act.sides,
          (subst (λ z. In x.act.sides (representation_pairs t p.0 p.1 z)) f (subst (λ z. In x.act.sides (representation_pairs t z.0 z.1 x.act.op)) q s.0.sides), s.1),
          λ i. record { pair = sym q i; act = record { op = sym f i; sides = x.act.sides } },
        )
