-- (02, Paper 7) how many monomial pairs two classes can have: the count of those skipped fits the listing's numbers (up to 4,294,967,295), and the code's.
use Rattle.std.specs.Prelude.{◌≡◌, refl, ◌≢◌, Bool, true, false, List, [], ◌∷◌, map, eqb, ltb, get_or}
use Rattle.std.proofs.Common.{sym, ap, ◌∙◌, arith, not-suc-le-zero, mul-le-mul, length-append}
use Prim.Native.Nat.{ℕ, zero, suc, ◌+◌, ◌*◌, ◌≤◌, ◌<◌}
use Rattle.std.proofs.Math.Decide.{dec_lt, ℕ_discrete}
use borrow.Author.Tests.{eqb-true, eq-eqb, ne_eqb}
use Rattle.std.proofs.Math.ListN.{length, get_or-map}
use Rattle.std.proofs.lemmas.List.{length-map}
use Rattle.spec.specs.Bytes.{pick, any, filter, each, sum, up_from, Two}
use Rattle.spec.specs.Image.{Tables, Member, MEMBERS, NO-IDENTITY, identity_of, the_class, members_of, children_of}
use Rattle.spec.specs.Monomial.{Monomial, MonomialPair, monomial, monomials_of, itself, pad_pair, both_itself, representation_pairs, wide_pairs, same_pair, count_once, skipped_under, total}
use Rattle.spec.specs.Action.{ac_ops, skipped_at}
use Rattle.laws.specs.Valid.{Valid, class_spans}
use Rattle.laws.specs.AcceptedSpans.{class-span}
use Rattle.laws.specs.AcceptedUses.{members-length-of}

-- ---- lengths
filter-few : {A : Type 0} (p : A → Bool) (l : List A) → length (filter p l) ≤ length l
unfolding filter
filter-few p [] = omega arith
filter-few {A = A} p (x ∷ l) = go (p x) (filter-few p l)
  where
    go : (b : Bool) → length (filter p l) ≤ length l → length {A = A} (elim b [ true ↦ x ∷ filter p l | false ↦ filter p l ]) ≤ suc (length l)
    go true h = omega arith
    go false h = omega arith

each-few : {A B : Type 0} (f : A → List B) (k : ℕ) (l : List A) → ((x : A) → length (f x) ≤ k) → length (each f l) ≤ length l * k
unfolding each
each-few f k [] h = omega arith
each-few f k (x ∷ l) h = omega (arith, length-append (f x) (each f l), h x, each-few f k l h)

count-few : (seen l : List MonomialPair) → count_once seen l ≤ length l
unfolding count_once
count-few seen [] = omega arith
count-few seen (p ∷ l) = go (any (same_pair p) seen) (count-few seen l) (count-few (p ∷ seen) l)
  where
    go : (b : Bool) → count_once seen l ≤ length l → count_once (p ∷ seen) l ≤ length l → elim b [ true ↦ count_once seen l | false ↦ suc (count_once (p ∷ seen) l) ] ≤ suc (length l)
    go true a b = omega arith
    go false a b = omega arith

pad-one : (e : ℕ) (a b : Monomial) → length (pad_pair e a b) ≤ 1
unfolding pad_pair
pad-one e a b = go _ _ _ (eqb (total a) (total b)) (eqb e NO-IDENTITY) (ltb (total a) (total b))
  where
    go : (x y z : MonomialPair) (p q r : Bool) → length {A = MonomialPair} (pick p (x ∷ []) (pick q [] (pick r (y ∷ []) (z ∷ [])))) ≤ 1
    go x y z true q r = omega arith
    go x y z false true r = omega arith
    go x y z false false true = omega arith
    go x y z false false false = omega arith

-- ---- of one operation
abbrev of_op : Tables → ℕ → ℕ → ℕ
of_op t c o = length (filter (λ m. eqb m.op o) (members_of t c))

monomials-few : (t : Tables) (c o : ℕ) → length (monomials_of t c o) ≤ suc (of_op t c o)
unfolding monomials_of
monomials-few t c o =
    omega (
      arith,
      length-append (map (λ m. monomial (children_of t m)) (filter (λ m. eqb m.op o) (members_of t c))) (pick (eqb (identity_of t o) NO-IDENTITY) [] (itself c ∷ [])),
      length-map (filter (λ m. eqb m.op o) (members_of t c)) (λ (m : Member). monomial (children_of t m)),
      one (eqb (identity_of t o) NO-IDENTITY),
    )
  where
    one : (b : Bool) → length (pick b [] (itself c ∷ [])) ≤ 1
    one true = omega arith
    one false = omega arith

under-few : (t : Tables) (l r o : ℕ) → skipped_under t l r o ≤ suc (of_op t l o) * suc (of_op t r o)
unfolding skipped_under wide_pairs representation_pairs
under-few t l r o =
    let a = count-few [] (wide_pairs (representation_pairs t l r o)) in
    let b : length (wide_pairs (representation_pairs t l r o)) ≤ length (representation_pairs t l r o) = filter-few _ (representation_pairs t l r o) in
    let c = each-few {B = MonomialPair} (λ a. each (λ b. elim (both_itself l r a b) [ true ↦ [] | false ↦ pad_pair (identity_of t o) a b ]) (monomials_of t r o)) (length (monomials_of t r o) * 1) (monomials_of t l o)
    (λ a. each-few {B = MonomialPair} (λ b. elim (both_itself l r a b) [ true ↦ [] | false ↦ pad_pair (identity_of t o) a b ]) 1 (monomials_of t r o) (λ b. one a b (both_itself l r a b))) in
    let d = mul-le-mul {n₁ = length (monomials_of t l o)} {m₁ = length (monomials_of t r o) * 1} {n₂ = suc (of_op t l o)} {m₂ = suc (of_op t r o)} (monomials-few t l o) (omega (arith, monomials-few t r o)) in
    omega (arith, a, b, c, d)
  where
    one : (a b : Monomial) (x : Bool) → length {A = MonomialPair} (elim x [ true ↦ [] | false ↦ pad_pair (identity_of t o) a b ]) ≤ 1
    one a b true = omega arith
    one a b false = pad-one (identity_of t o) a b

-- ---- over the operations
sum-filter : (f : ℕ → ℕ) (p : ℕ → Bool) (l : List ℕ) → sum (map f (filter p l)) ≤ sum (map f l)
unfolding filter sum
sum-filter f p [] = omega arith
sum-filter f p (x ∷ l) = go (p x) (sum-filter f p l)
  where
    go : (b : Bool) → sum (map f (filter p l)) ≤ sum (map f l) → sum (map f (elim b [ true ↦ x ∷ filter p l | false ↦ filter p l ])) ≤ f x + sum (map f l)
    go true h = omega arith
    go false h = omega arith

grid : (f x y : ℕ → ℕ) (l : List ℕ) → ((o : ℕ) → f o ≤ suc (x o) * suc (y o)) → sum (map f l) ≤ sum (map x l) * sum (map y l) + sum (map x l) + sum (map y l) + length l
unfolding sum
grid f x y [] h = omega arith
grid f x y (o ∷ l) h = omega (arith, h o, grid f x y l h)

hit : ℕ → ℕ → ℕ
hit x o = pick (eqb x o) 1 0

hits-none : (x a n : ℕ) → x < a → sum (map (hit x) (up_from a n)) ≡ 0
unfolding up_from sum hit
hits-none x a zero h = refl
hits-none x a (suc n) h = rw (ne_eqb x a (λ z. omega arith)) (omega (arith, hits-none x (suc a) n (omega arith)))

hits-one : (x a n : ℕ) → sum (map (hit x) (up_from a n)) ≤ 1
unfolding up_from sum hit
hits-one x a zero = omega arith
hits-one x a (suc n) = go (eqb x a) refl (hits-one x (suc a) n) (λ h. hits-none x (suc a) n h)
  where
    go : (b : Bool) → eqb x a ≡ b → sum (map (hit x) (up_from (suc a) n)) ≤ 1 → (x < suc a → sum (map (hit x) (up_from (suc a) n)) ≡ 0) → pick b 1 0 + sum (map (hit x) (up_from (suc a) n)) ≤ 1
    go true e h k = omega (arith, k (omega (arith, eqb-true x a e)))
    go false e h k = omega arith

-- each member is of one operation
abbrev among : List Member → ℕ → ℕ
among ms o = length (filter (λ m. eqb m.op o) ms)

among-cons : (m : Member) (ms : List Member) (l : List ℕ) → sum (map (among (m ∷ ms)) l) ≡ sum (map (hit m.op) l) + sum (map (among ms) l)
unfolding sum filter hit
among-cons m ms [] = refl
among-cons m ms (o ∷ l) = omega (arith, among-cons m ms l, one (eqb m.op o))
  where
    one : (b : Bool) → length {A = Member} (elim b [ true ↦ m ∷ filter (λ m. eqb m.op o) ms | false ↦ filter (λ m. eqb m.op o) ms ]) ≡ pick b 1 0 + length (filter (λ m. eqb m.op o) ms)
    one true = omega arith
    one false = omega arith

among_none : (l : List ℕ) → sum (map (among []) l) ≡ 0
unfolding sum filter
among_none [] = refl
among_none (o ∷ l) = omega (arith, among_none l)

ops-few : (ms : List Member) (a n : ℕ) → sum (map (among ms) (up_from a n)) ≤ length ms
ops-few [] a n = omega (arith, among_none (up_from a n))
ops-few (m ∷ ms) a n = omega (arith, among-cons m ms (up_from a n), hits-one m.op a n, ops-few ms a n)

up-many : (a n : ℕ) → length (up_from a n) ≡ n
unfolding up_from
up-many a zero = refl
up-many a (suc n) = ap suc (up-many (suc a) n)

-- ---- two classes have at most 1,024 members together
term-at : (l : List ℕ) (i : ℕ) → get_or l i 0 ≤ sum l
unfolding sum
term-at [] i = omega arith
term-at (x ∷ l) zero = omega arith
term-at (x ∷ l) (suc i) = omega (arith, term-at l i)

two-terms : (l : List ℕ) (i j : ℕ) → i < j → get_or l i 0 + get_or l j 0 ≤ sum l
unfolding sum
two-terms [] i j h = omega arith
two-terms (x ∷ l) i zero h = absurd (not-suc-le-zero h)
two-terms (x ∷ l) zero (suc j) h = omega (arith, term-at l j)
two-terms (x ∷ l) (suc i) (suc j) h = omega (arith, two-terms l i j (omega arith))

module _ (t : Tables) (v : Valid t) (l r : ℕ) (hl : l < length t.classes) (hr : r < length t.classes) (n : l ≢ r) where
  sizes : List ℕ
  sizes = map (λ s. s.1) (class_spans t)

  size-at : (c : ℕ) → get_or (map (λ (s : Two). s.1) (class_spans t)) c 0 ≡ (the_class t c).count
  size-at c = get_or-map (λ (s : Two). s.1) (class_spans t) c (0, 0) ∙ ap (λ (s : Two). s.1) (class-span t c)

  members-few : length (members_of t l) + length (members_of t r) ≤ MEMBERS
  members-few = go (dec_lt l r) (dec_lt r l)
    where
      total-few : sum (map (λ (s : Two). s.1) (class_spans t)) ≤ MEMBERS
      total-few = omega (arith, v.spans.classes_follow.ends, v.counts.few_members)

      go : Dec (l < r) → Dec (r < l) → length (members_of t l) + length (members_of t r) ≤ MEMBERS
      go (yes h) k = omega (arith, two-terms (map (λ (s : Two). s.1) (class_spans t)) l r h, size-at l, size-at r, members-length-of t v l hl, members-length-of t v r hr, total-few)
      go (no h) (yes k) = omega (arith, two-terms (map (λ (s : Two). s.1) (class_spans t)) r l k, size-at l, size-at r, members-length-of t v l hl, members-length-of t v r hr, total-few)
      go (no h) (no k) = absurd (n (omega arith))

  -- with X and Y members in all at most 1,024: one of the two is at most 512
  product-few : (X Y : ℕ) → X + Y ≤ MEMBERS → X * Y ≤ 524288
  product-few X Y h = go (dec_lt 512 X)
    where
      go : Dec (512 < X) → X * Y ≤ 524288
      go (yes k) = omega (arith, mul-le-mul {n₁ = X} {m₁ = Y} {n₂ = 1024} {m₂ = 512} (omega arith) (omega arith))
      go (no k) = omega (arith, mul-le-mul {n₁ = X} {m₁ = Y} {n₂ = 512} {m₂ = 1024} (omega arith) (omega arith))

  -- two different classes skip at most 525,376 pairs
  pub skipped-few : skipped_at t (l, r) ≤ 525376
  unfolding skipped_at ac_ops
  skipped-few = rw (skipped_at, ne_eqb l r n) (omega (arith, filtered, over, products, ops-few (members_of t l) 0 O, ops-few (members_of t r) 0 O, up-many 0 O, members-few, v.counts.few_operations))
    where
      O : ℕ
      O = length t.operations

      filtered : sum (map (skipped_under t l r) (ac_ops t l r)) ≤ sum (map (skipped_under t l r) (up_from 0 (length t.operations)))
      filtered = sum-filter (skipped_under t l r) _ (up_from 0 (length t.operations))

      over : sum (map (skipped_under t l r) (up_from 0 (length t.operations)))
          ≤ sum (map (among (members_of t l)) (up_from 0 (length t.operations))) * sum (map (among (members_of t r)) (up_from 0 (length t.operations)))
          + sum (map (among (members_of t l)) (up_from 0 (length t.operations))) + sum (map (among (members_of t r)) (up_from 0 (length t.operations))) + length (up_from 0 (length t.operations))
      over = grid (skipped_under t l r) (among (members_of t l)) (among (members_of t r)) (up_from 0 (length t.operations)) (λ o. under-few t l r o)

      products : sum (map (among (members_of t l)) (up_from 0 (length t.operations))) * sum (map (among (members_of t r)) (up_from 0 (length t.operations))) ≤ 524288
      products = product-few (sum (map (among (members_of t l)) (up_from 0 (length t.operations)))) (sum (map (among (members_of t r)) (up_from 0 (length t.operations))))
          (omega (arith, ops-few (members_of t l) 0 (length t.operations), ops-few (members_of t r) 0 (length t.operations), members-few))

-- a class paired with itself skips none
pub skipped-self : (t : Tables) (c : ℕ) → skipped_at t (c, c) ≡ 0
unfolding skipped_at
skipped-self t c = rw (skipped_at, eq-eqb c c refl) refl

-- no pair of classes skips more
pub pair-few : (t : Tables) → Valid t → (l r : ℕ) → l < length t.classes → r < length t.classes → skipped_at t (l, r) ≤ 525376
pair-few t v l r hl hr = go (ℕ_discrete l r)
  where
    go : Dec (l ≡ r) → skipped_at t (l, r) ≤ 525376
    go (yes e) = let z : skipped_at t (l, r) ≡ 0 = ap (λ (c : ℕ). skipped_at t (l, c)) (sym e) ∙ skipped-self t l in omega (arith, z)
    go (no n) = skipped-few t v l r hl hr n
