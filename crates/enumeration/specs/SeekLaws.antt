-- What the walk finds: all structural actions, one after the other.
use Rattle.std.specs.Prelude.{◌≡◌, Bool, true, false, eqb, ltb, length, get_or, Option, Some, None}
use Rattle.std.proofs.Math.Path.{refl, sym, ap}
use Rattle.std.proofs.Common.{◌∙◌, add-one, arith, ltb-true, ltb-false, drop_of_length-le, drop-cons}
use mathlib.Core.List.{List, [], ◌∷◌, ◌++◌}
use Prim.Native.Nat.{ℕ, zero, suc, ◌+◌, ◌-◌, ◌≤◌, ◌<◌}
use Rattle.std.proofs.Math.ListN.{drop}
use Rattle.std.proofs.Math.Seq.{slice, slice-cons}
use Rattle.spec.specs.Bytes.{pick, either, each}
use Rattle.spec.specs.Image.{Tables, Member, SPair, Lit, is_ac, kind_of, tables_of, the_class, the_member, members_of, children_of}
use Rattle.spec.specs.Monomial.{classes}
use Rattle.spec.specs.Action.{Action, zip, by_position, straight_and_crossed, alignments, align_members, structural}
use Rattle.laws.specs.Valid.{Valid}
use Rattle.laws.specs.AcceptedUses.{members_within}
use Rattle.laws.specs.Scans.{part_slice, slice_over}
use Rattle.image.specs.Loaded.{Loaded, classes-many}
use Rattle.image.specs.declared.Image.{Image}
use Rattle.actions.specs.Place.{Stands, actions_at, action_at, after_of}
use Rattle.enumeration.specs.Remaining.{end_of, row_from, rows_from, list_from, found_in, StandsFound}
use Rattle.enumeration.specs.Seek.{start_of, next_right, seek_row, seek_right_of, next_left, or_else, seek_rows, seek_of}
use Rattle.actions.specs.declared.State.{State}

-- what `the_member` gives past the table
abbrev none : Member
none = record { op = 0; value = 0; first = 0; count = 0 }

-- ---- what is left of the left member at w with the right members before `to`, and what seeking finds of it
unfoldable row_at : Tables → ℕ → State → List Action
unfolding row_from
row_at t to w = row_from t (the_member t w.left) w.past (slice w.right to t.members)

abbrev found_row : Tables → ℕ → Option State → List Action
found_row t to (Some v) = action_at t v ∷ row_at t to (after_of v)
found_row t to None = []

abbrev SameLeft : ℕ → Option State → Type 0
SameLeft i (Some v) = v.left ≡ i
SameLeft i None = Unit

row-whole : (t : Tables) (a : Member) (l : List Member) → each (align_members t a) l ≡ row_from t a 0 l
unfolding row_from each
row-whole t a [] = refl
row-whole t a (b ∷ l) = refl

module _ (t : Tables) (to : ℕ) (k : to ≤ length t.members) (w : State) where
  abbrev rest : ℕ → List Member
  rest j = slice j to t.members

  row_cons : (n : ℕ) → w.right < to → row_from t (the_member t w.left) n (rest w.right) ≡ drop n (actions_at t w) ++ row_from t (the_member t w.left) 0 (rest (w.right + 1))
  unfolding row_from
  row_cons n h =
      rw (slice-cons w.right to t.members none h k, add-one) (ap (λ (x : List Action). drop n (actions_at t w) ++ x) (row-whole t (the_member t w.left) (slice (suc w.right) to t.members)))

  -- no action is left of the two members
  row_more : w.right < to → length (actions_at t w) ≤ w.past → row_at t to (record { left = w.left; right = w.right + 1; past = 0 }) ≡ row_at t to w
  unfolding row_at
  row_more h e =
      sym (row_cons w.past h ∙ ap (λ (x : List Action). x ++ row_from t (the_member t w.left) 0 (rest (w.right + 1))) (drop_of_length-le (actions_at t w) e))

  -- one is
  row-found : w.right < to → w.past < length (actions_at t w) → row_at t to w ≡ found_row t to (Some w)
  unfolding row_at
  row-found h e =
      row_cons w.past h
      ∙ ap (λ (x : List Action). x ++ row_from t (the_member t w.left) 0 (rest (w.right + 1))) (drop-cons (actions_at t w) w.past (record { op = 0; pairs = [] }) e)
      ∙ ap (λ (n : ℕ). action_at t w ∷ (drop n (actions_at t w) ++ row_from t (the_member t w.left) 0 (rest (w.right + 1)))) (sym (add-one w.past))
      ∙ ap (λ (x : List Action). action_at t w ∷ x) (sym (row_cons (w.past + 1) h))

  row-end : to ≤ w.right → row_at t to w ≡ found_row t to None
  unfolding row_at row_from
  row-end h = rw (slice_over w.right to t.members k h) refl

-- two members give two actions at most
few-pick : (b : Bool) (l m : List Action) → length l ≤ 1 → length m ≤ 1 → length (pick b l m) ≤ 1
few-pick true l m h k = h
few-pick false l m h k = k

few-by : (o : ℕ) (xs ys : List ℕ) (same p q : Bool) → length {A = Action} (elim same [ true ↦ pick p (straight_and_crossed o xs ys) (pick q [] (by_position o xs ys)) | false ↦ [] ]) ≤ 2
unfolding straight_and_crossed by_position
few-by o xs ys false p q = omega arith
few-by o xs ys true true q =
    omega (arith, few-pick (either (eqb (get_or xs 0 0) (get_or xs 1 0)) (eqb (get_or ys 0 0) (get_or ys 1 0))) [] (record { op = o; pairs = (get_or xs 0 0, get_or ys 1 0) ∷ (get_or xs 1 0, get_or ys 0 0) ∷ [] } ∷ []) (omega arith) (omega arith))
few-by o xs ys true false true = omega arith
few-by o xs ys true false false = omega (arith, few-pick (eqb (length xs) (length ys)) (record { op = o; pairs = zip xs ys } ∷ []) [] (omega arith) (omega arith))

align-few : (t : Tables) (a b : Member) → length (align_members t a b) ≤ 2
unfolding align_members alignments
align-few t a b = few-by a.op (classes (children_of t a)) (classes (children_of t b)) (eqb a.op b.op) (eqb (kind_of t a.op) SPair) (either (is_ac (kind_of t a.op)) (eqb (kind_of t a.op) Lit))

-- x is what seeking finds of the left member at w
record RowFound (t : Tables) (to : ℕ) (w : State) (x : Option State) : Type 0 where
  list : row_at t to w ≡ found_row t to x
  stands : StandsFound t x
  same : SameLeft w.left x

module _ (t : Tables) (to : ℕ) (k : to ≤ length t.members) where
  row_step : (w : State) (n : ℕ) (b : Bool) → ltb w.past (length (actions_at t w)) ≡ b → w.right < to → w.left < length t.members → RowFound t to (next_right w) (seek_row t n (next_right w))
      → RowFound t to w (elim b [ true ↦ Some w | false ↦ seek_row t n (next_right w) ])
  row_step w n true q h g f =
      let m : w.past < length (actions_at t w) = ltb-true _ _ q in
      record {
        list = row-found t to k w h m;
        stands = record { left = g; right = omega arith; more = m; few = omega (arith, align-few t (the_member t w.left) (the_member t w.right)) };
        same = refl;
      }
  row_step w n false q h g f = record { list = sym (row_more t to k w h (ltb-false _ _ q)) ∙ f.list; stands = f.stands; same = f.same }

  row-seek : (n : ℕ) (w : State) → to - w.right ≡ n → w.left < length t.members → RowFound t to w (seek_row t n w)
  unfolding seek_row
  row-seek zero w e g = record { list = row-end t to k w (omega arith); stands = tt; same = tt }
  row-seek (suc n) w e g = row_step w n (ltb w.past (length (actions_at t w))) refl (omega arith) g (row-seek n (next_right w) (omega arith) g)

-- ---- the left members of class l, all with those of class r
each_rows : (t : Tables) (r : ℕ) (l : List Member) → each (λ x. each (align_members t x) (members_of t r)) l ≡ rows_from t r 0 (members_of t r) l
unfolding rows_from each
each_rows t r [] = refl
each_rows t r (a ∷ l) = ap (λ (x : List Action). x ++ each (λ x. each (align_members t x) (members_of t r)) l) (row-whole t a (members_of t r))

module _ (t : Tables) (l r : ℕ) (kl : end_of t l ≤ length t.members) (kr : end_of t r ≤ length t.members) where
  abbrev lefts : ℕ → List Member
  lefts i = slice i (end_of t l) t.members

  all_right : slice (the_class t r).first (end_of t r) t.members ≡ members_of t r
  all_right = part_slice t.members (the_class t r).first (the_class t r).count kr

  abbrev next : ℕ → State
  next i = record { left = i; right = (the_class t r).first; past = 0 }

  rows_next : (i : ℕ) → each (λ x. each (align_members t x) (members_of t r)) (lefts i) ≡ list_from t l r (next i)
  unfolding list_from
  rows_next i = rw all_right (each_rows t r (lefts i))

  rows-cons : (w : State) → w.left < end_of t l → list_from t l r w ≡ row_at t (end_of t r) w ++ list_from t l r (next (w.left + 1))
  unfolding list_from row_at rows_from
  rows-cons w h =
      rw (slice-cons w.left (end_of t l) t.members none h kl, add-one) (ap (λ (x : List Action). row_at t (end_of t r) w ++ x) (rows_next (suc w.left)))

  -- none is left of the left member
  list-more : (w : State) → w.left < end_of t l → row_at t (end_of t r) w ≡ found_row t (end_of t r) None → list_from t l r (next (w.left + 1)) ≡ list_from t l r w
  list-more w h e = sym (rows-cons w h ∙ ap (λ (x : List Action). x ++ list_from t l r (next (w.left + 1))) e)

  -- one is
  list-found : (w v : State) → w.left < end_of t l → row_at t (end_of t r) w ≡ found_row t (end_of t r) (Some v) → v.left ≡ w.left → list_from t l r w ≡ found_in t l r (Some v)
  list-found w v h e g =
      rows-cons w h
      ∙ ap (λ (x : List Action). x ++ list_from t l r (next (w.left + 1))) e
      ∙ ap (λ (x : List Action). action_at t v ∷ x) (rw (← g) (sym (rows-cons (after_of v) (rw g h))))

  list-end : (w : State) → end_of t l ≤ w.left → list_from t l r w ≡ found_in t l r None
  unfolding list_from rows_from
  list-end w h = rw (slice_over w.left (end_of t l) t.members kl h) refl

  -- ---- the start
  start_is : (b : Bool) → list_from t l r (next (pick b (end_of t l) (the_class t l).first)) ≡ elim b [ true ↦ [] | false ↦ each (λ a. each (align_members t a) (members_of t r)) (members_of t l) ]
  start_is true = list-end (next (end_of t l)) (omega arith)
  start_is false = sym (rows_next (the_class t l).first) ∙ ap (λ (x : List Member). each (λ x. each (align_members t x) (members_of t r)) x) (part_slice t.members (the_class t l).first (the_class t l).count kl)

  -- ---- every left member from w on
  abbrev Found : State → Option State → Type 0
  Found w x = (list_from t l r w ≡ found_in t l r x) × StandsFound t x

  rows_step : (w : State) (x y : Option State) → w.left < end_of t l → RowFound t (end_of t r) w x → Found (next_left t r w) y → Found w (or_else x y)
  rows_step w (Some v) y h f g = (list-found w v h f.list f.same, f.stands)
  rows_step w None y h f g = (sym (list-more w h f.list) ∙ g.0, g.1)

  rows-found : (n : ℕ) (w : State) → end_of t l - w.left ≡ n → Found w (seek_rows t r n w)
  unfolding seek_rows
  rows-found zero w e = (list-end w (omega arith), tt)
  rows-found (suc n) w e = rows_step w (seek_right_of t (end_of t r) w) (seek_rows t r n (next_left t r w)) (omega arith) (row-seek t (end_of t r) kr (end_of t r - w.right) w refl (omega arith)) (rows-found n (next_left t r w) (omega arith))

-- ---- of an accepted image
module _ {s : List ℕ} {im : Image} (L : Loaded s im) (ok : Valid (tables_of s)) {l r : ℕ} (hl : l < im.classes) (hr : r < im.classes) where
  abbrev T : Tables
  T = tables_of s

  end-within : (c : ℕ) → c < im.classes → end_of T c ≤ length T.members
  end-within c h = members_within T ok c (omega (arith, classes-many s im L))

  -- all structural actions are left at the start
  pub start-list : {x : State} → x ≡ start_of T l r → list_from T l r x ≡ structural T l r
  unfolding structural
  start-list e = ap (list_from T l r) e ∙ start_is T l r (end-within l hl) (end-within r hr) (eqb l r)

  module _ (w : State) {x : Option State} (e : x ≡ seek_of T l r w) where
    found : Found T l r (end-within l hl) (end-within r hr) w x
    found = rw e (rows-found T l r (end-within l hl) (end-within r hr) (end_of T l - w.left) w refl)

    -- the action found is the first of those that are left, and the others are left behind it
    pub seek-list : list_from T l r w ≡ found_in T l r x
    seek-list = found.0

    pub seek-stands : StandsFound T x
    seek-stands = found.1

    -- the state found
    pub found-stands : (v : State) → x ≡ Some v → Stands T v
    found-stands v f = rw f at seek-stands

    pub found-fewer : (v : State) → x ≡ Some v → length (list_from T l r (after_of v)) < length (list_from T l r w)
    found-fewer v f = omega (arith, ap (λ (z : List Action). length z) (seek-list ∙ ap (found_in T l r) f))
