-- Joining in place is `join_runs`.
use Rattle.std.specs.Prelude.{◌≡◌, refl, Bool, true, false, List, [], ◌∷◌, ◌++◌, map, ℕ, zero, suc, ◌+◌, ◌*◌, ◌-◌, ◌/◌, ◌%◌, ◌^◌, ◌≤◌, ◌<◌, ◌⊎◌, eqb, length, get_or, set, take, drop}
use Rattle.std.proofs.Common.{sym, ap, ap₂, ◌∙◌, append_assoc, inl, inr, not-suc-le-zero, eq-or-lt_of_le, arith, eqb-true, eq-eqb, ne_eqb, length-append, get_or-append-add, get_or-drop, drop-drop}
use Rattle.std.proofs.lemmas.Bool.{eqb-false}
use Rattle.std.proofs.lemmas.List.{set_split}
use Rattle.std.proofs.Math.Seq.{drop-append-add}
use Rattle.spec.specs.Bytes.{pick, sum, Two}
use Rattle.laws.specs.Lists.{map_snoc}
use Rattle.spec.specs.Pool.{join_to, join_runs, op_node}
use Rattle.terms.specs.Buffers.{part, unpack, node_of}
use Rattle.joining.specs.Joining.{append_number, join_numbers, over, Begins, joined_in}
use Rattle.terms.specs.PartLaws.{part_length, part-snoc, part-take, part-front}

-- ---- a run at the end of joined runs
abbrev append_run : List Two → Two → List Two
append_run [] r = r ∷ []
append_run (s ∷ []) r = pick (eqb s.0 r.0) ((s.0, s.1 + r.1) ∷ []) (s ∷ r ∷ [])
append_run (s ∷ u ∷ l) r = s ∷ append_run (u ∷ l) r

add-unpack : (y x : ℕ) → unpack (y + x / 16384 * 16384) ≡ ((unpack y).0, (unpack y).1 + (unpack x).1)
add-unpack y x =
    let e : (y + x / 16384 * 16384) % 16384 ≡ y % 16384 = omega arith in
    let f : (y + x / 16384 * 16384) / 16384 ≡ y / 16384 + x / 16384 = omega arith in
    ap₂ (λ (a b : ℕ). (a, b)) e f

append-unpack : (l : List ℕ) (x : ℕ) → map unpack (append_number l x) ≡ append_run (map unpack l) (unpack x)
unfolding append_number
append-unpack [] x = refl
append-unpack (y ∷ []) x = go (eqb (y % 16384) (x % 16384))
  where
    go : (t : Bool) → map unpack (pick t ((y + x / 16384 * 16384) ∷ []) (y ∷ x ∷ [])) ≡ pick t (((unpack y).0, (unpack y).1 + (unpack x).1) ∷ []) (unpack y ∷ unpack x ∷ [])
    go true = ap (λ (r : Two). r ∷ []) (add-unpack y x)
    go false = refl
append-unpack (y ∷ z ∷ l) x = ap (λ (t : List Two). unpack y ∷ t) (append-unpack (z ∷ l) x)

-- joining from the left and from the right
two-assoc : (a b c d : ℕ) → ◌≡◌ {A = Two} (a, b + (c + d)) (a, b + c + d)
two-assoc a b c d = let e : b + (c + d) ≡ b + c + d = omega arith in ap (λ (z : ℕ). (a, z)) e

join_one : (x s r : Two) → join_to x (append_run (s ∷ []) r) ≡ append_run (join_to x (s ∷ [])) r
join_one x s r = go (eqb s.0 r.0) refl (eqb x.0 s.0) refl
  where
    go : (a : Bool) → eqb s.0 r.0 ≡ a → (b : Bool) → eqb x.0 s.0 ≡ b → join_to x (pick a ((s.0, s.1 + r.1) ∷ []) (s ∷ r ∷ [])) ≡ append_run (pick b ((x.0, x.1 + s.1) ∷ []) (x ∷ s ∷ [])) r
    go true p true q = let e : eqb x.0 r.0 ≡ true = eq-eqb x.0 r.0 (eqb-true _ _ q ∙ eqb-true _ _ p) in rw (q, e) (ap (λ (z : Two). z ∷ []) (two-assoc x.0 x.1 s.1 r.1))
    go true p false q = rw (q, p) refl
    go false p true q = let e : eqb x.0 r.0 ≡ false = ne_eqb x.0 r.0 (λ z. eqb-false _ _ p (sym (eqb-true _ _ q) ∙ z)) in rw (q, e) refl
    go false p false q = rw (q, p) refl

join-append : (x : Two) (l : List Two) (r : Two) → join_to x (append_run l r) ≡ append_run (join_to x l) r
join-append x [] r = refl
join-append x (s ∷ []) r = join_one x s r
join-append x (s ∷ u ∷ l) r = go (eqb x.0 s.0)
  where
    go : (b : Bool) → pick b ((x.0, x.1 + s.1) ∷ append_run (u ∷ l) r) (x ∷ s ∷ append_run (u ∷ l) r) ≡ append_run (pick b ((x.0, x.1 + s.1) ∷ u ∷ l) (x ∷ s ∷ u ∷ l)) r
    go true = refl
    go false = refl

join_runs-snoc : (l : List Two) (r : Two) → join_runs (l ++ (r ∷ [])) ≡ append_run (join_runs l) r
unfolding join_runs
join_runs-snoc [] r = refl
join_runs-snoc (x ∷ l) r = ap (join_to x) (join_runs-snoc l r) ∙ join-append x (join_runs l) r

pub join_numbers-snoc : (a l : List ℕ) (x : ℕ) → join_numbers a (l ++ (x ∷ [])) ≡ append_number (join_numbers a l) x
unfolding join_numbers
join_numbers-snoc a [] x = refl
join_numbers-snoc a (y ∷ l) x = join_numbers-snoc (append_number a y) l x

joined-part : (list : List ℕ) (n : ℕ) → map unpack (joined_in list n) ≡ join_runs (map unpack (part list 0 n))
unfolding join_numbers join_runs part
joined-part list zero = refl
joined-part list (suc n) =
    ap (λ (l : List ℕ). map unpack (join_numbers [] l)) (part-snoc list 0 n)
    ∙ ap (map unpack) (join_numbers-snoc [] (part list 0 n) (get_or list (0 + n) 0))
    ∙ append-unpack (joined_in list n) (get_or list (0 + n) 0)
    ∙ ap (λ (l : List Two). append_run l (unpack (get_or list (0 + n) 0))) (joined-part list n)
    ∙ sym (join_runs-snoc (map unpack (part list 0 n)) (unpack (get_or list (0 + n) 0)))
    ∙ sym (ap join_runs (ap (map unpack) (part-snoc list 0 n) ∙ map_snoc unpack (part list 0 n) (get_or list (0 + n) 0)))

-- the joined runs are `join_runs` of the runs
pub joined-runs : (list : List ℕ) (n : ℕ) → map unpack (joined_in list n) ≡ join_runs (map unpack (part list 0 n))
joined-runs list n = joined-part list n

-- ---- lengths and sums
pub append-length : (l : List ℕ) (x : ℕ) → (length l ≤ length (append_number l x)) × (length (append_number l x) ≤ length l + 1)
unfolding append_number
append-length [] x = (omega arith, omega arith)
append-length (y ∷ []) x = go (eqb (y % 16384) (x % 16384))
  where
    go : (t : Bool) → (1 ≤ length (pick t ((y + x / 16384 * 16384) ∷ []) (y ∷ x ∷ []))) × (length (pick t ((y + x / 16384 * 16384) ∷ []) (y ∷ x ∷ [])) ≤ 1 + 1)
    go true = (omega arith, omega arith)
    go false = (omega arith, omega arith)
append-length (y ∷ z ∷ l) x = let (a, b) = append-length (z ∷ l) x in (omega arith, omega arith)

append-sum : (l : List ℕ) (x : ℕ) → sum (append_number l x) ≤ sum l + x
unfolding append_number sum
append-sum [] x = omega arith
append-sum (y ∷ []) x = go (eqb (y % 16384) (x % 16384))
  where
    go : (t : Bool) → sum (pick t ((y + x / 16384 * 16384) ∷ []) (y ∷ x ∷ [])) ≤ y + 0 + x
    go true = omega arith
    go false = omega arith
append-sum (y ∷ z ∷ l) x = omega (arith, append-sum (z ∷ l) x)

sum-snoc : (l : List ℕ) (x : ℕ) → sum (l ++ (x ∷ [])) ≡ sum l + x
unfolding sum
sum-snoc [] x = omega arith
sum-snoc (y ∷ l) x = omega (arith, sum-snoc l x)

pub join-sum : (list : List ℕ) (n : ℕ) → sum (joined_in list n) ≤ sum (part list 0 n)
unfolding part join_numbers
join-sum list zero = omega arith
join-sum list (suc n) =
    let e = ap sum (join_numbers-snoc [] (part list 0 n) (get_or list (0 + n) 0)) in
    rw (part-snoc list 0 n) (omega (arith, append-sum (joined_in list n) (get_or list (0 + n) 0), join-sum list n, sum-snoc (part list 0 n) (get_or list (0 + n) 0), e))

sum-part : (list : List ℕ) (n i : ℕ) → i < n → sum (part list 0 i) + get_or list i 0 ≤ sum (part list 0 n)
sum-part list zero i h = absurd (not-suc-le-zero h)
sum-part list (suc n) i h = let z : 0 + n ≡ n = omega arith in rw (part-snoc list 0 n, z) (go (eq-or-lt_of_le {n = i} {m = n} (omega arith)) (λ k. sum-part list n i k))
  where
    go : (i ≡ n) ⊎ (i < n) → (i < n → sum (part list 0 i) + get_or list i 0 ≤ sum (part list 0 n)) → sum (part list 0 i) + get_or list i 0 ≤ sum (part list 0 n ++ (get_or list n 0 ∷ []))
    go (inl e) ih = rw e (omega (arith, sum-snoc (part list 0 n) (get_or list n 0)))
    go (inr k) ih = omega (arith, ih k, sum-snoc (part list 0 n) (get_or list n 0))

-- ---- in the buffer
over-set : (list : List ℕ) (k v : ℕ) → k < length list → set list k v ≡ over (part list 0 k ++ (v ∷ [])) list
over-set list k v h =
    let e : length (part list 0 k ++ (v ∷ [])) ≡ suc k = omega (arith, length-append (part list 0 k) (v ∷ []), part_length list 0 k) in
    rw (e, part-take list k (omega arith)) (set_split list k v h ∙ sym (append_assoc (take k list) (v ∷ []) (drop (suc k) list)))

append-last : (l : List ℕ) (y x : ℕ) → append_number (l ++ (y ∷ [])) x ≡ l ++ pick (eqb (y % 16384) (x % 16384)) ((y + x / 16384 * 16384) ∷ []) (y ∷ x ∷ [])
unfolding append_number
append-last [] y x = refl
append-last (z ∷ []) y x = refl
append-last (z ∷ w ∷ l) y x = ap (λ (t : List ℕ). z ∷ t) (append-last (w ∷ l) y x)

module _ (list : List ℕ) (x : ℕ) where
  pub append-none : 0 < length list → Begins (append_number (part list 0 0) x) list (set list 0 x) 1
  unfolding append_number part
  append-none h = record { many = refl; numbers = over-set list 0 x h }

  last-is : (m : ℕ) → 0 < m → part list 0 m ≡ part list 0 (m - 1) ++ (get_or list (m - 1) 0 ∷ [])
  last-is m z = let e : m ≡ suc (m - 1) = omega arith in let f : 0 + (m - 1) ≡ m - 1 = omega arith in ap (part list 0) e ∙ rw f at (part-snoc list 0 (m - 1))

  pub append-same : (m : ℕ) → 0 < m → m ≤ length list → get_or list (m - 1) 0 % 16384 ≡ x % 16384
      → Begins (append_number (part list 0 m) x) list (set list (m - 1) (get_or list (m - 1) 0 + x / 16384 * 16384)) m
  append-same m z h e =
      let q : append_number (part list 0 m) x ≡ part list 0 (m - 1) ++ ((get_or list (m - 1) 0 + x / 16384 * 16384) ∷ []) = ap (λ (l : List ℕ). append_number l x) (last-is m z) ∙ append-last (part list 0 (m - 1)) (get_or list (m - 1) 0) x ∙ rw (eq-eqb (get_or list (m - 1) 0 % 16384) (x % 16384) e) refl in
      rw q (record {
        many = omega (arith, length-append (part list 0 (m - 1)) ((get_or list (m - 1) 0 + x / 16384 * 16384) ∷ []), part_length list 0 (m - 1));
        numbers = over-set list (m - 1) (get_or list (m - 1) 0 + x / 16384 * 16384) (omega arith);
      })

  pub append-other : (m : ℕ) → 0 < m → m < length list → (get_or list (m - 1) 0 % 16384 ≡ x % 16384 → ⊥) → Begins (append_number (part list 0 m) x) list (set list m x) (m + 1)
  append-other m z h e =
      let q : append_number (part list 0 m) x ≡ part list 0 m ++ (x ∷ []) = ap (λ (l : List ℕ). append_number l x) (last-is m z) ∙ append-last (part list 0 (m - 1)) (get_or list (m - 1) 0) x ∙ rw (ne_eqb (get_or list (m - 1) 0 % 16384) (x % 16384) e) (sym (append_assoc (part list 0 (m - 1)) (get_or list (m - 1) 0 ∷ []) (x ∷ [])) ∙ ap (λ (l : List ℕ). l ++ (x ∷ [])) (sym (last-is m z))) in
      rw q (record { many = omega (arith, length-append (part list 0 m) (x ∷ []), part_length list 0 m); numbers = over-set list m x h })

  pub append-fits : (m : ℕ) → 0 < m → sum (part list 0 m) + x < 2 ^ 64 → get_or list (m - 1) 0 + x / 16384 * 16384 < 2 ^ 64
  append-fits m z h = omega (arith, ap sum (last-is m z), sum-snoc (part list 0 (m - 1)) (get_or list (m - 1) 0))

-- ---- the loop that joins
module _ (l₀ list : List ℕ) (i m : ℕ) (B : Begins (joined_in l₀ i) l₀ list m) (few : m ≤ i) where
  joined_is : part list 0 m ≡ joined_in l₀ i
  joined_is = rw B.numbers (part-front (joined_in l₀ i) (drop (length (joined_in l₀ i)) l₀) m B.many)

  over-at : get_or list i 0 ≡ get_or l₀ i 0
  over-at =
      let e : i ≡ length (joined_in l₀ i) + (i - m) = omega (arith, B.many) in
      let f : m + (i - m) ≡ i = omega arith in
      ap (λ (t : List ℕ). get_or t i 0) B.numbers
      ∙ ap (λ (z : ℕ). get_or (over (joined_in l₀ i) l₀) z 0) e
      ∙ get_or-append-add (joined_in l₀ i) (drop (length (joined_in l₀ i)) l₀) (i - m) 0
      ∙ get_or-drop (length (joined_in l₀ i)) l₀ (i - m) 0
      ∙ rw (← B.many, f) refl

  over-drop : (k : ℕ) → m ≤ k → drop k list ≡ drop k l₀
  over-drop k h =
      let e : k ≡ length (joined_in l₀ i) + (k - m) = omega (arith, B.many) in
      let f : m + (k - m) ≡ k = omega arith in
      ap (λ (t : List ℕ). drop k t) B.numbers
      ∙ ap (λ (z : ℕ). drop z (over (joined_in l₀ i) l₀)) e
      ∙ drop-append-add (joined_in l₀ i) (drop (length (joined_in l₀ i)) l₀) (k - m)
      ∙ drop-drop (k - m) (length (joined_in l₀ i)) l₀
      ∙ rw (← B.many, f) refl

  next-is : append_number (part list 0 m) (get_or list i 0) ≡ joined_in l₀ (i + 1)
  next-is =
      let e : i + 1 ≡ suc i = omega arith in
      let z : 0 + i ≡ i = omega arith in
      rw (e, part-snoc l₀ 0 i, z) (ap₂ append_number joined_is over-at ∙ sym (join_numbers-snoc [] (part l₀ 0 i) (get_or l₀ i 0)))

  pub join-turn : (list' : List ℕ) (r : ℕ) → Begins (append_number (part list 0 m) (get_or list i 0)) list list' r → Begins (joined_in l₀ (i + 1)) l₀ list' r
  join-turn list' r C =
      let a : m ≤ length (append_number (part list 0 m) (get_or list i 0)) = omega (arith, (append-length (part list 0 m) (get_or list i 0)).0, part_length list 0 m) in
      rw (← next-is) (record { many = C.many; numbers = C.numbers ∙ ap (λ (t : List ℕ). append_number (part list 0 m) (get_or list i 0) ++ t) (over-drop (length (append_number (part list 0 m) (get_or list i 0))) a) })

  pub join-few : (list' : List ℕ) (r : ℕ) → Begins (append_number (part list 0 m) (get_or list i 0)) list list' r → r ≤ i + 1
  join-few list' r C = omega (arith, C.many, (append-length (part list 0 m) (get_or list i 0)).1, part_length list 0 m)

  pub join-fits : (n : ℕ) → i < n → sum (part l₀ 0 n) < 2 ^ 64 → sum (part list 0 m) + get_or list i 0 < 2 ^ 64
  join-fits n h s = omega (arith, ap sum joined_is, over-at, join-sum l₀ i, sum-part l₀ n i h)

pub join-start : (list : List ℕ) → Begins (joined_in list 0) list list 0
unfolding join_numbers part
join-start list = record { many = refl; numbers = refl }

pub begins-fits : {l list list' : List ℕ} {n : ℕ} → Begins l list list' n → n ≤ length list'
begins-fits {l} {list} b = rw b.numbers (omega (arith, b.many, length-append l (drop (length l) list)))

-- an operation's node by its numbers
pub op-node : (o : ℕ) (l : List ℕ) (m : List Two) → o < 64 → map unpack l ≡ join_runs m → node_of o 0 l ≡ op_node o m
op-node o l m h e = let a : o / 64 ≡ 0 = omega arith in let b : o % 64 ≡ o = omega arith in rw (a, b, e) refl
