-- Sorting in place is `sort_runs`.
use Rattle.std.specs.Prelude.{◌≡◌, Bool, true, false, List, [], ◌∷◌, ◌++◌, map, ℕ, zero, suc, ◌+◌, ◌-◌, ◌%◌, ◌≤◌, ◌<◌, length, get_or, set}
use Rattle.std.proofs.Math.Path.{refl}
use Rattle.std.proofs.Common.{sym, ap, ◌∙◌, append_assoc, not-suc-le-zero, length-append, length-set, take-append-drop, get_or-drop, take-suc-set, drop-set-lt, drop_at, length-take-le, get_or-take, drop-cons, get_or-append-add, drop-drop, take-take}
use native.Mathlib.Omega.{arith}
use Rattle.std.proofs.Math.ListN.{take, drop, get_or-append}
use Rattle.std.proofs.lemmas.List.{set_split, take-append-le}
use Rattle.spec.specs.Bytes.{sum, Two}
use Rattle.term_order.specs.Comparing.{order_of}
use Rattle.std.specs.Ordering.{is_gt}
use Rattle.std.specs.declared.cmp.Ordering.TheVariants as O
use Rattle.spec.specs.Pool.{Pool, Order, less, equal, greater, structural_cmp, is_greater, insert_run, sort_runs}
use Rattle.spec.specs.Meaning.{In, here, there}
use Rattle.pools.specs.Pool.{RunsBelow, runs-below-cons, runs-below-nil}
use Rattle.pools.specs.PoolSort.{sort-perm, perm-below}
use Rattle.terms.specs.Buffers.{part, unpack}
use Rattle.action_term.specs.Sorting.{insert_number, sort_numbers, within}
use Rattle.terms.specs.PartLaws.{part_length, part-cons, part-over, part-cong, part-front}

-- ---- against the definitions
insert-unpack : (p : Pool) (x : ℕ) (l : List ℕ) → map unpack (insert_number p x l) ≡ insert_run p (unpack x) (map unpack l)
unfolding insert_number insert_run
insert-unpack p x [] = refl
insert-unpack p x (y ∷ l) = go (is_greater (structural_cmp (length p) p (x % 16384) (y % 16384))) (insert-unpack p x l)
  where
    go : (b : Bool) → map unpack (insert_number p x l) ≡ insert_run p (unpack x) (map unpack l)
        → map unpack (elim b [ true ↦ y ∷ insert_number p x l | false ↦ x ∷ y ∷ l ]) ≡ (elim b [ true ↦ unpack y ∷ insert_run p (unpack x) (map unpack l) | false ↦ unpack x ∷ unpack y ∷ map unpack l ])
    go true ih = ap (λ (t : List Two). unpack y ∷ t) ih
    go false ih = refl

pub sorted-runs : (p : Pool) (l : List ℕ) → map unpack (sort_numbers p l) ≡ sort_runs p (map unpack l)
unfolding sort_numbers sort_runs
sorted-runs p [] = refl
sorted-runs p (x ∷ l) = insert-unpack p x (sort_numbers p l) ∙ ap (insert_run p (unpack x)) (sorted-runs p l)

insert-measures : (p : Pool) (x : ℕ) (l : List ℕ) → (length (insert_number p x l) ≡ suc (length l)) × (sum (insert_number p x l) ≡ x + sum l)
unfolding insert_number sum
insert-measures p x [] = (refl, refl)
insert-measures p x (y ∷ l) = go (is_greater (structural_cmp (length p) p (x % 16384) (y % 16384))) (insert-measures p x l)
  where
    go : (b : Bool) → (length (insert_number p x l) ≡ suc (length l)) × (sum (insert_number p x l) ≡ x + sum l)
        → (length {A = ℕ} (elim b [ true ↦ y ∷ insert_number p x l | false ↦ x ∷ y ∷ l ]) ≡ suc (suc (length l))) × (sum (elim b [ true ↦ y ∷ insert_number p x l | false ↦ x ∷ y ∷ l ]) ≡ x + (y + sum l))
    go true (a, b) = (omega arith, omega arith)
    go false (a, b) = (refl, refl)

pub sort-length : (p : Pool) (l : List ℕ) → length (sort_numbers p l) ≡ length l
unfolding sort_numbers
sort-length p [] = refl
sort-length p (x ∷ l) = omega (arith, (insert-measures p x (sort_numbers p l)).0, sort-length p l)

pub sort-sum : (p : Pool) (l : List ℕ) → sum (sort_numbers p l) ≡ sum l
unfolding sort_numbers sum
sort-sum p [] = refl
sort-sum p (x ∷ l) = omega (arith, (insert-measures p x (sort_numbers p l)).1, sort-sum p l)

pub sort-below : (p : Pool) (i : ℕ) (l : List ℕ) → RunsBelow i (map unpack l) → RunsBelow i (map unpack (sort_numbers p l))
sort-below p i l b = rw (sorted-runs p l) (perm-below (sort-perm p (map unpack l)) b)

pub part-in : (l : List ℕ) (a n k : ℕ) → k < n → In (unpack (get_or l (a + k) 0)) (map unpack (part l a n))
unfolding part
part-in l a zero k h = absurd (not-suc-le-zero h)
part-in l a (suc n) zero h = let e : a + 0 ≡ a = omega arith in rw e here
part-in l a (suc n) (suc k) h = let e : a + suc k ≡ suc a + k = omega arith in rw e (there (part-in l (suc a) n k (omega arith)))

pub in-part : (l : List ℕ) (n k : ℕ) → k < n → In (unpack (get_or l k 0)) (map unpack (part l 0 n))
in-part l n k h = let e : 0 + k ≡ k = omega arith in rw e at (part-in l 0 n k h)

below_of : (N : ℕ) (l : List ℕ) (a n : ℕ) → ((k : ℕ) → k < n → ((unpack (get_or l (a + k) 0)).0 < N) × (1 ≤ (unpack (get_or l (a + k) 0)).1)) → RunsBelow N (map unpack (part l a n))
unfolding part
below_of N l a zero h = runs-below-nil N
below_of N l a (suc n) h =
    let e : a + 0 ≡ a = omega arith in
    let (x, y) = rw e at (h 0 (omega arith)) in
    runs-below-cons {r = unpack (get_or l a 0)} x y (below_of N l (suc a) n (λ k q. rest k q))
  where
    rest : (k : ℕ) → k < n → ((unpack (get_or l (suc a + k) 0)).0 < N) × (1 ≤ (unpack (get_or l (suc a + k) 0)).1)
    rest k q = let e : suc a + k ≡ a + suc k = omega arith in rw e (h (suc k) (omega arith))

pub below_parts : (N : ℕ) (l : List ℕ) (n i : ℕ) → i ≤ n → RunsBelow N (map unpack (part l 0 n)) → RunsBelow N (map unpack (part l i (n - i)))
below_parts N l n i h b = below_of N l i (n - i) (λ k q. (b.earlier _ (in-part l n (i + k) (omega arith)), b.counted _ (in-part l n (i + k) (omega arith))))

-- ---- one step of an insertion
insert-before : (p : Pool) (x y : ℕ) (l : List ℕ) → is_greater (structural_cmp (length p) p (x % 16384) (y % 16384)) ≡ false → insert_number p x (y ∷ l) ≡ x ∷ y ∷ l
unfolding insert_number
insert-before p x y l e = rw (insert_number, e) refl

insert-behind : (p : Pool) (x y : ℕ) (l : List ℕ) → is_greater (structural_cmp (length p) p (x % 16384) (y % 16384)) ≡ true → insert_number p x (y ∷ l) ≡ y ∷ insert_number p x l
unfolding insert_number
insert-behind p x y l e = rw (insert_number, e) refl

pub part-drop : (l : List ℕ) (i n : ℕ) → i ≤ n → n ≤ length l → part l i (n - i) ++ drop n l ≡ drop i l
part-drop l i n h k = go (n - i) i refl h
  where
    go : (d i : ℕ) → n - i ≡ d → i ≤ n → part l i (n - i) ++ drop n l ≡ drop i l
    go zero i e h = let z : i ≡ n = omega arith in rw (part-over l i n (omega arith)) (ap (λ (q : ℕ). drop q l) (sym z))
    go (suc d) i e h =
        let z : i + 1 ≡ suc i = omega arith in
        rw (part-cons l i n (omega arith)) (ap (λ (t : List ℕ). get_or l i 0 ∷ t) (go d (i + 1) (omega arith) (omega arith)) ∙ rw z (sym (drop-cons l i 0 (omega arith))))

-- the place j where x is to be stored, when the runs behind i up to j have moved one to the front
pub record Moving (p : Pool) (l₀ : List ℕ) (i n x : ℕ) (list : List ℕ) (j : ℕ) : Type 0 where
  pub from : i ≤ j
  pub before : j < n
  pub long : length list ≡ length l₀
  pub front : take i l₀ ++ insert_number p x (part l₀ (i + 1) (n - (i + 1))) ≡ take j list ++ insert_number p x (part l₀ (j + 1) (n - (j + 1)))
  pub rest : drop (j + 1) list ≡ drop (j + 1) l₀

pub moving-start : (p : Pool) (l₀ : List ℕ) (i n x : ℕ) → i < n → Moving p l₀ i n x l₀ i
moving-start p l₀ i n x h = record { from = omega arith; before = h; long = refl; front = refl; rest = refl }

module _ (p : Pool) (l₀ : List ℕ) (i n x : ℕ) (list : List ℕ) (j : ℕ) (M : Moving p l₀ i n x list j) (fits : n ≤ length l₀) where
  -- x stays at j where the runs behind it come after it
  stored : insert_number p x (part l₀ (j + 1) (n - (j + 1))) ≡ x ∷ part l₀ (j + 1) (n - (j + 1)) → set list j x ≡ within l₀ i n (insert_number p x (part l₀ (i + 1) (n - (i + 1))))
  stored e =
      let z : suc j ≡ j + 1 = omega arith in
      let h = M.before in
      set_split list j x (omega (arith, M.long))
      ∙ rw (z, M.rest, ← part-drop l₀ (j + 1) n (omega arith) fits) (sym (append_assoc (take j list) (x ∷ part l₀ (j + 1) (n - (j + 1))) (drop n l₀)))
      ∙ ap (λ (t : List ℕ). take j list ++ t ++ drop n l₀) (sym e)
      ∙ ap (λ (t : List ℕ). t ++ drop n l₀) (sym M.front)
      ∙ append_assoc (take i l₀) (insert_number p x (part l₀ (i + 1) (n - (i + 1)))) (drop n l₀)

  pub moving-end : n ≤ j + 1 → set list j x ≡ within l₀ i n (insert_number p x (part l₀ (i + 1) (n - (i + 1))))
  unfolding insert_number part
  moving-end h = stored (let e : n - (j + 1) ≡ 0 = omega arith in rw e refl)

  next-at : j + 1 < n → get_or list (j + 1) 0 ≡ get_or l₀ (j + 1) 0
  next-at h = sym (at list) ∙ ap (λ (t : List ℕ). get_or t 0 0) M.rest ∙ at l₀
    where
      at : (l : List ℕ) → get_or (drop (j + 1) l) 0 0 ≡ get_or l (j + 1) 0
      at l = let z : j + 1 + 0 ≡ j + 1 = omega arith in rw z at (get_or-drop (j + 1) l 0 0)

  -- both runs that are compared name terms
  pub moving-left : (N : ℕ) → RunsBelow N (map unpack (part l₀ i (n - i))) → get_or l₀ i 0 % 16384 < N
  moving-left N b = let h = M.before in let f = M.from in let e : i + 0 ≡ i = omega arith in b.earlier (unpack (get_or l₀ i 0)) (rw e at (part-in l₀ i (n - i) 0 (omega arith)))

  pub moving-right : (N : ℕ) → j + 1 < n → RunsBelow N (map unpack (part l₀ i (n - i))) → get_or list (j + 1) 0 % 16384 < N
  moving-right N h b =
      let f = M.from in
      let e : i + (j + 1 - i) ≡ j + 1 = omega arith in
      rw (next-at h) (b.earlier (unpack (get_or l₀ (j + 1) 0)) (rw e at (part-in l₀ i (n - i) (j + 1 - i) (omega arith))))

  pub moving-stop : j + 1 < n → is_greater (structural_cmp (length p) p (x % 16384) (get_or list (j + 1) 0 % 16384)) ≡ false → set list j x ≡ within l₀ i n (insert_number p x (part l₀ (i + 1) (n - (i + 1))))
  moving-stop h e = stored (rw (part-cons l₀ (j + 1) n h) (insert-before p x (get_or l₀ (j + 1) 0) _ (rw (next-at h) at e)))

  pub moving-turn : j + 1 < n → is_greater (structural_cmp (length p) p (x % 16384) (get_or list (j + 1) 0 % 16384)) ≡ true → Moving p l₀ i n x (set list j (get_or list (j + 1) 0)) (j + 1)
  moving-turn h e =
      let b = M.before in
      let f = M.from in
      let z : j + 1 ≡ suc j = omega arith in
      let k : j < length list = omega (arith, M.long) in record {
        from = omega arith;
        before = h;
        long = length-set list j (get_or list (j + 1) 0) ∙ M.long;
        front =
            M.front
            ∙ ap (λ (t : List ℕ). take j list ++ t) (rw (part-cons l₀ (j + 1) n h) (insert-behind p x (get_or l₀ (j + 1) 0) _ (rw (next-at h) at e)))
            ∙ sym (append_assoc (take j list) (get_or l₀ (j + 1) 0 ∷ []) _)
            ∙ ap (λ (t : List ℕ). t ++ insert_number p x (part l₀ (j + 1 + 1) (n - (j + 1 + 1)))) (ap (λ (y : ℕ). take j list ++ (y ∷ [])) (sym (next-at h)) ∙ sym (take-suc-set list j (get_or list (j + 1) 0) k) ∙ ap (λ (q : ℕ). take q (set list j (get_or list (j + 1) 0))) (sym z));
        rest = drop-set-lt (j + 1 + 1) list j (get_or list (j + 1) 0) (omega arith) ∙ further;
      }
    where
      further : drop (j + 1 + 1) list ≡ drop (j + 1 + 1) l₀
      further = sym (drop-drop 1 (j + 1) list) ∙ ap (λ (t : List ℕ). drop 1 t) M.rest ∙ drop-drop 1 (j + 1) l₀

-- ---- the loop that sorts: the runs from i on are sorted
module _ (l₀ : List ℕ) (i n : ℕ) (S : List ℕ) (many : length S ≡ n - i) (h : i ≤ n) (fits : n ≤ length l₀) where
  front_long : length (take i l₀) ≡ i
  front_long = length-take-le i l₀ (omega arith)

  within-take : (k : ℕ) → k ≤ i → take k (within l₀ i n S) ≡ take k l₀
  within-take k q = take-append-le k (take i l₀) (S ++ drop n l₀) (omega (arith, front_long)) ∙ take-take k i l₀ q

  within-at : (k : ℕ) → k < i → get_or (within l₀ i n S) k 0 ≡ get_or l₀ k 0
  within-at k q = get_or-append (take i l₀) (S ++ drop n l₀) 0 k (omega (arith, front_long)) ∙ get_or-take i l₀ k 0 q

  within-part : part (within l₀ i n S) i (n - i) ≡ S
  within-part = part-cong (within l₀ i n S) (S ++ drop n l₀) i 0 (n - i) at ∙ part-front S (drop n l₀) (n - i) (sym many)
    where
      at : (k : ℕ) → k < n - i → get_or (within l₀ i n S) (i + k) 0 ≡ get_or (S ++ drop n l₀) (0 + k) 0
      at k q = let e : i + k ≡ length (take i l₀) + k = omega (arith, front_long) in let z : 0 + k ≡ k = omega arith in rw (e, z) (get_or-append-add (take i l₀) (S ++ drop n l₀) k 0)

  within-drop : drop n (within l₀ i n S) ≡ drop n l₀
  within-drop = ap (λ (t : List ℕ). drop n t) (sym (append_assoc (take i l₀) S (drop n l₀))) ∙ drop_at (take i l₀ ++ S) (drop n l₀) n (omega (arith, length-append (take i l₀) S, front_long, many))

pub sort-start : (p : Pool) (l₀ : List ℕ) (n : ℕ) → l₀ ≡ within l₀ n n (sort_numbers p (part l₀ n (n - n)))
unfolding sort_numbers
sort-start p l₀ n = rw (part-over l₀ n n (omega arith)) (sym (take-append-drop n l₀))

module _ (p : Pool) (l₀ list : List ℕ) (i k n : ℕ) (e : i ≡ k + 1) (h : i ≤ n) (fits : n ≤ length l₀) (W : list ≡ within l₀ i n (sort_numbers p (part l₀ i (n - i)))) where
  long : length (sort_numbers p (part l₀ i (n - i))) ≡ n - i
  long = sort-length p (part l₀ i (n - i)) ∙ part_length l₀ i (n - i)

  head-is : get_or list k 0 ≡ get_or l₀ k 0
  head-is = rw W (within-at l₀ i n (sort_numbers p (part l₀ i (n - i))) long h fits k (omega arith))

  rest-is : part list (k + 1) (n - (k + 1)) ≡ sort_numbers p (part l₀ (k + 1) (n - (k + 1)))
  rest-is = rw (← e, W) (within-part l₀ i n (sort_numbers p (part l₀ i (n - i))) long h fits)

  pub sort-turn : (list' : List ℕ) → list' ≡ within list k n (insert_number p (get_or list k 0) (part list (k + 1) (n - (k + 1)))) → list' ≡ within l₀ k n (sort_numbers p (part l₀ k (n - k)))
  unfolding sort_numbers
  sort-turn list' q =
      let a : take k list ≡ take k l₀ = rw W (within-take l₀ i n (sort_numbers p (part l₀ i (n - i))) long h fits k (omega arith)) in
      let b : drop n list ≡ drop n l₀ = rw W (within-drop l₀ i n (sort_numbers p (part l₀ i (n - i))) long h fits) in
      q ∙ rw (a, b, head-is, rest-is, part-cons l₀ k n (omega arith)) refl

  pub sort-requires : (N : ℕ) → RunsBelow N (map unpack (part l₀ 0 n)) → RunsBelow N (map unpack (part list k (n - k)))
  sort-requires N b =
      rw (part-cons list k n (omega arith), head-is, rest-is)
      (runs-below-cons {r = unpack (get_or l₀ k 0)} (b.earlier _ (in-part l₀ n k (omega arith))) (b.counted _ (in-part l₀ n k (omega arith)))
      (sort-below p N (part l₀ (k + 1) (n - (k + 1))) (below_parts N l₀ n (k + 1) (omega arith) b)))

pub sort-end : (p : Pool) (l₀ : List ℕ) (n : ℕ) → within l₀ 0 n (sort_numbers p (part l₀ 0 (n - 0))) ≡ sort_numbers p (part l₀ 0 n) ++ drop (length (sort_numbers p (part l₀ 0 n))) l₀
sort-end p l₀ n = let z : n - 0 ≡ n = omega arith in rw (z, sort-length p (part l₀ 0 n), part_length l₀ 0 n) refl

-- ---- the answer of a comparison
pub less-not : (o : Order) → order_of o ≡ O.Less → false ≡ is_greater o
less-not less e = refl
less-not equal e = refl
less-not greater e = cc

pub equal-not : (o : Order) → order_of o ≡ O.Equal → false ≡ is_greater o
equal-not less e = refl
equal-not equal e = refl
equal-not greater e = cc

pub greater-is : (o : Order) → order_of o ≡ O.Greater → true ≡ is_greater o
greater-is less e = cc
greater-is equal e = cc
greater-is greater e = refl

pub gt-greater : (o : Order) → is_gt (order_of o) ≡ is_greater o
gt-greater less = refl
gt-greater equal = refl
gt-greater greater = refl
