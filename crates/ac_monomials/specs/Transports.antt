-- The walk goes through the transports of two classes, each once and in order: what `first` and `next` lead through is what the definitions list.
use Rattle.std.specs.Prelude.{◌≡◌, Bool, take, drop, Option, Some, None}
use Rattle.std.proofs.Math.Path.{refl, sym, ap}
use Rattle.std.proofs.Common.{◌∙◌, drop-cons}
use Rattle.std.proofs.Math.Bool.{true, false}
use mathlib.Core.List.{List, [], ◌∷◌, ◌++◌, map, append_assoc}
use Prim.Native.Nat.{ℕ, zero, suc, ◌+◌, ◌-◌, ◌≤◌, ◌<◌}
use Rattle.std.proofs.Math.Nat.{sub-zero}
use native.Mathlib.Omega.{arith}
use borrow.Author.Tests.{lt-ltb, le-ltb}
use Rattle.std.proofs.Math.Dec.{ltb, eqb}
use Rattle.std.proofs.Math.ListN.{length}
use Rattle.spec.specs.Bytes.{pick, both, filter, each, up_from}
use Rattle.spec.specs.Image.{Tables, NO-IDENTITY, identity_of, the_class, the_member, children_of}
use Rattle.spec.specs.Monomial.{Monomial, MonomialPair, monomial, itself, monomials_of, pad_pair, both_itself, representation_pairs, narrow, narrow_pairs}
use Rattle.spec.specs.Action.{TransportAction, ac_ops, transports}
use Rattle.laws.specs.Valid.{Valid}
use Rattle.laws.specs.AcceptedUses.{members_within}
use Rattle.monomial.specs.Places.{monomial_at}
use Rattle.ac_repr.specs.Walk.{has_place, places_from, walk_at, row, rows, pairs_from, walks, all_walks, after_of, left_of, Stepped}
use Rattle.laws.specs.Firsts.{passing}
use Rattle.ac_ops.specs.AcOps.{end_of, ac_op}
use Rattle.ac_monomials.specs.Actions.{action_over, actions_at}
use Rattle.ac_repr.specs.declared.Walk.{Walk}

-- ---- lists, one after the other
each_append : {A B : Type 0} (f : A → List B) (a b : List A) → each f (a ++ b) ≡ each f a ++ each f b
unfolding each
each_append f [] b = refl
each_append f (x ∷ a) b = rw (each_append f a b) (sym (append_assoc (f x) (each f a) (each f b)))

each_map : {A B C : Type 0} (f : B → List C) (g : A → B) (l : List A) → each f (map g l) ≡ each (λ x. f (g x)) l
unfolding each
each_map f g [] = refl
each_map {C = C} f g (x ∷ l) = ap (λ (m : List C). f (g x) ++ m) (each_map f g l)

map-append : {A B : Type 0} (g : A → B) (a b : List A) → map g (a ++ b) ≡ map g a ++ map g b
map-append g [] b = refl
map-append {B = B} g (x ∷ a) b = ap (λ (m : List B). g x ∷ m) (map-append g a b)

each_same : {A B : Type 0} (f g : A → List B) (l : List A) → ((x : A) → f x ≡ g x) → each f l ≡ each g l
unfolding each
each_same f g [] h = refl
each_same f g (x ∷ l) h = rw (h x, each_same f g l h) refl

map_each : {A B C : Type 0} (g : B → C) (f : A → List B) (l : List A) → map g (each f l) ≡ each (λ x. map g (f x)) l
unfolding each
map_each g f [] = refl
map_each {C = C} g f (x ∷ l) = map-append g (f x) (each f l) ∙ ap (λ (m : List C). map g (f x) ++ m) (map_each g f l)

each-each : {A B C : Type 0} (f : B → List C) (g : A → List B) (l : List A) → each f (each g l) ≡ each (λ x. each f (g x)) l
unfolding each
each-each f g [] = refl
each-each {C = C} f g (x ∷ l) = each_append f (g x) (each g l) ∙ ap (λ (m : List C). each f (g x) ++ m) (each-each f g l)

filter-append : {A : Type 0} (p : A → Bool) (a b : List A) → filter p (a ++ b) ≡ filter p a ++ filter p b
unfolding filter
filter-append p [] b = refl
filter-append {A} p (x ∷ a) b = step (p x) refl (filter-append p a b)
  where
    step : (q : Bool) → p x ≡ q → filter p (a ++ b) ≡ filter p a ++ filter p b → filter p ((x ∷ a) ++ b) ≡ filter p (x ∷ a) ++ filter p b
    step true e ih = rw (filter, e) (ap (λ (m : List A). x ∷ m) ih)
    step false e ih = rw (filter, e) ih

filter-each : {A B : Type 0} (p : B → Bool) (f : A → List B) (l : List A) → filter p (each f l) ≡ each (λ x. filter p (f x)) l
unfolding filter each
filter-each p f [] = refl
filter-each {A} {B} p f (x ∷ l) = filter-append p (f x) (each f l) ∙ ap (λ (m : List B). filter p (f x) ++ m) (filter-each p f l)

-- ---- the monomials of a class under an operation stand at its places
module _ (t : Tables) (c o : ℕ) (b : end_of t c ≤ length t.members) where
  monomial-end : (a : ℕ) → end_of t c ≤ a → monomial_at t c a ≡ itself c
  unfolding monomial_at
  monomial-end a h = rw (le-ltb a (end_of t c) h, monomial_at) refl

  monomial-member : (a : ℕ) → a < end_of t c → monomial_at t c a ≡ monomial (children_of t (the_member t a))
  unfolding monomial_at
  monomial-member a h = rw (lt-ltb a (end_of t c) h, monomial_at) refl

  at-end : (a : ℕ) → a ≡ end_of t c
      → map (monomial_at t c) (filter (has_place t (end_of t c) o) (a ∷ [])) ≡ pick (eqb (identity_of t o) NO-IDENTITY) [] (itself c ∷ [])
  unfolding filter
  at-end a e = step (eqb (identity_of t o) NO-IDENTITY) refl
    where
      m : ltb a (end_of t c) ≡ false
      m = le-ltb a (end_of t c) (omega arith)

      n : ltb (end_of t c) a ≡ false
      n = le-ltb (end_of t c) a (omega arith)

      step : (q : Bool) → eqb (identity_of t o) NO-IDENTITY ≡ q
          → map (monomial_at t c) (filter (has_place t (end_of t c) o) (a ∷ [])) ≡ pick (eqb (identity_of t o) NO-IDENTITY) [] (itself c ∷ [])
      step true z = rw (filter, m, n, z) refl
      step false z = rw (filter, m, n, z) (ap (λ (x : Monomial). x ∷ []) (monomial-end a (omega arith)))

  at-members : (n a : ℕ) → a + n ≡ end_of t c
      → map (monomial_at t c) (filter (has_place t (end_of t c) o) (up_from a (suc n)))
      ≡ map (λ m. monomial (children_of t m)) (filter (λ m. eqb m.op o) (take n (drop a t.members))) ++ pick (eqb (identity_of t o) NO-IDENTITY) [] (itself c ∷ [])
  unfolding filter up_from
  at-members zero a e = at-end a (omega arith)
  at-members (suc n) a e = step (eqb (the_member t a).op o) refl (at-members n (suc a) (omega arith))
    where
      h : a < length t.members
      h = omega arith

      m : ltb a (end_of t c) ≡ true
      m = lt-ltb a (end_of t c) (omega arith)

      d : drop a t.members ≡ the_member t a ∷ drop (suc a) t.members
      d = drop-cons t.members a _ h

      step : (q : Bool) → eqb (the_member t a).op o ≡ q
          → map (monomial_at t c) (filter (has_place t (end_of t c) o) (up_from (suc a) (suc n)))
          ≡ map (λ m. monomial (children_of t m)) (filter (λ m. eqb m.op o) (take n (drop (suc a) t.members))) ++ pick (eqb (identity_of t o) NO-IDENTITY) [] (itself c ∷ [])
          → map (monomial_at t c) (filter (has_place t (end_of t c) o) (up_from a (suc (suc n))))
          ≡ map (λ m. monomial (children_of t m)) (filter (λ m. eqb m.op o) (take (suc n) (drop a t.members))) ++ pick (eqb (identity_of t o) NO-IDENTITY) [] (itself c ∷ [])
      step true z ih = rw (d, filter, m, z) (rw (monomial-member a (omega arith)) (ap (λ (l : List Monomial). monomial (children_of t (the_member t a)) ∷ l) ih))
      step false z ih = rw (d, filter, m, z) ih

  pub monomials-places : monomials_of t c o ≡ map (monomial_at t c) (places_from t (end_of t c) o (the_class t c).first)
  unfolding monomials_of places_from passing
  monomials-places =
      let e : suc (end_of t c) - (the_class t c).first ≡ suc (the_class t c).count = omega arith in
      rw e (sym (at-members (the_class t c).count (the_class t c).first refl))

-- ---- an operation's pairs
abbrev fits : MonomialPair → Bool
fits p = both (narrow p.rows) (narrow p.cols)

abbrev action : ℕ → MonomialPair → TransportAction
action o m = record { op = o; sides = m }

-- the pairs of two lists of monomials
module _ (t : Tables) (l r o : ℕ) where
  abbrev pairs : Monomial → Monomial → List MonomialPair
  pairs a b = elim (both_itself l r a b) [ true ↦ [] | false ↦ pad_pair (identity_of t o) a b ]

  over-row : (a : Monomial) (ys : List Monomial) → map (action o) (filter fits (each (pairs a) ys)) ≡ each (action_over t l r o a) ys
  unfolding action_over narrow_pairs
  over-row a ys =
      ap (λ (m : List MonomialPair). map (action o) m) (filter-each fits (pairs a) ys)
      ∙ map_each (action o) (λ b. filter fits (pairs a b)) ys

  over-pairs : (xs ys : List Monomial) → map (action o) (filter fits (each (λ a. each (pairs a) ys) xs)) ≡ each (λ a. each (action_over t l r o a) ys) xs
  over-pairs xs ys =
      ap (λ (m : List MonomialPair). map (action o) m) (filter-each fits (λ a. each (pairs a) ys) xs)
      ∙ map_each (action o) (λ a. filter fits (each (pairs a) ys)) xs
      ∙ each_same (λ a. map (action o) (filter fits (each (pairs a) ys))) (λ a. each (action_over t l r o a) ys) xs (λ a. over-row a ys)

  -- the same by places
  by-places : (xs ys : List ℕ) → each (λ a. each (action_over t l r o a) (map (monomial_at t r) ys)) (map (monomial_at t l) xs)
      ≡ each (actions_at t l r) (each (λ a. map (walk_at o a) ys) xs)
  unfolding actions_at
  by-places xs ys =
      each_map (λ a. each (action_over t l r o a) (map (monomial_at t r) ys)) (monomial_at t l) xs
      ∙ each_same (λ a. each (action_over t l r o (monomial_at t l a)) (map (monomial_at t r) ys)) (λ a. each (actions_at t l r) (map (walk_at o a) ys)) xs
      (λ a. each_map (action_over t l r o (monomial_at t l a)) (monomial_at t r) ys ∙ sym (each_map (actions_at t l r) (walk_at o a) ys))
      ∙ sym (each-each (actions_at t l r) (λ a. map (walk_at o a) ys) xs)

  pub operation-pairs : end_of t l ≤ length t.members → end_of t r ≤ length t.members
      → map (action o) (narrow_pairs (representation_pairs t l r o)) ≡ each (actions_at t l r) (rows t l r o (the_class t l).first)
  unfolding narrow_pairs representation_pairs rows row
  operation-pairs a b =
      over-pairs (monomials_of t l o) (monomials_of t r o)
      ∙ rw (monomials-places t l o a, monomials-places t r o b) (by-places (places_from t (end_of t l) o (the_class t l).first) (places_from t (end_of t r) o (the_class t r).first))

-- ---- all of them
-- the operations that `next_op` finds one after the other
pub operations-all : (t : Tables) (l r : ℕ) → ac_ops t l r ≡ passing (ac_op t l r) 0 (length t.operations)
unfolding ac_ops passing ac_op
operations-all t l r = rw (sub-zero (length t.operations)) refl

module _ (t : Tables) (v : Valid t) (l r : ℕ) (a : l < length t.classes) (b : r < length t.classes) where
  by-operations : each (λ o. map (action o) (narrow_pairs (representation_pairs t l r o))) (ac_ops t l r) ≡ each (actions_at t l r) (pairs_from t l r 0)
  unfolding pairs_from
  by-operations =
      rw (operations-all t l r)
      (each_same (λ o. map (action o) (narrow_pairs (representation_pairs t l r o))) (λ o. each (actions_at t l r) (rows t l r o (the_class t l).first)) (passing (ac_op t l r) 0 (length t.operations))
      (λ o. operation-pairs t l r o (members_within t v l a) (members_within t v r b))
      ∙ sym (each-each (actions_at t l r) (λ o. rows t l r o (the_class t l).first) (passing (ac_op t l r) 0 (length t.operations))))

  -- "An MSet or Set operation of either class acts by transport over each monomial pair": the walk from the first pair on gives them all, in order
  pub transports-walk : transports t l r ≡ each (actions_at t l r) (all_walks t l r)
  unfolding transports all_walks each
  transports-walk = step (eqb l r) refl
    where
      step : (q : Bool) → eqb l r ≡ q → transports t l r ≡ each (actions_at t l r) (all_walks t l r)
      step true e = rw (transports, all_walks, e) refl
      step false e = rw (transports, all_walks, e) by-operations

-- ---- what a caller of `first` and `next` knows: the actions that are left at a step
unfoldable pub actions_left : Tables → ℕ → ℕ → Option Walk → List TransportAction
unfolding each actions_at walks
actions_left t l r x = each (actions_at t l r) (left_of (walks t l r) x)

module _ (t : Tables) (l r : ℕ) where
  -- at the first step, all
  pub left-first : (x : Option Walk) → Valid t → l < length t.classes → r < length t.classes → Stepped t l r (walks t l r) (all_walks t l r) x → transports t l r ≡ actions_left t l r x
  unfolding actions_left
  left-first x v a b d = transports-walk t v l r a b ∙ ap (λ (m : List Walk). each (actions_at t l r) m) d.left

  -- at a pair of places its own action, if there is one, and those left at the next step
  pub left-next : (w : Walk) (x : Option Walk) → Stepped t l r (walks t l r) (walks t l r (after_of w)) x → actions_left t l r (Some w) ≡ actions_at t l r w ++ actions_left t l r x
  unfolding actions_left each
  left-next w x d = ap (λ (m : List Walk). actions_at t l r w ++ each (actions_at t l r) m) d.left

  -- at the end, none
  pub left_end : actions_left t l r None ≡ []
  unfolding actions_left each
  left_end = refl
