-- (02, Paper 7) the number of pairs passed over, from three numbers of each monomial.
use Rattle.std.proofs.Math.Path.{◌≡◌, refl, sym, ap, ap₂}
use Rattle.std.proofs.Common.{◌∙◌, inl, inr, arith, lt-ltb, le-ltb, eq-eqb, ne_eqb, le-leb, take-suc}
use Rattle.std.specs.Prelude.{◌≢◌, ◌⊎◌, true, not, ltb, leb, eqb, length, get_or, take}
use Rattle.std.proofs.Math.Bool.{Bool, false}
use mathlib.Core.List.{List, [], ◌∷◌, ◌++◌, append_assoc, append-nil}
use Prim.Native.Nat.{ℕ, zero, suc, ◌+◌, ◌≤◌, ◌<◌, max}
use Rattle.std.proofs.Math.Decide.{ℕ_discrete, dec_lt}
use Rattle.std.proofs.lemmas.Bool.{lt-leb}
use Rattle.std.proofs.Math.Seq.{take-length}
use Rattle.spec.specs.Bytes.{pick, both, either, any, each, sum_to, same_twos, here}
use Rattle.spec.specs.Image.{Tables, NO-IDENTITY, identity_of}
use Rattle.spec.specs.Monomial.{Monomial, MonomialPair, pad_pair, pair_of, both_itself, total, wide, wide_pairs, same_pair, count_once, monomials_of, representation_pairs, skipped_under}
use Rattle.laws.specs.Tests.{clash, is_false}
use Rattle.laws.specs.AcceptedLists.{in-at, at_in}
use Rattle.laws.specs.Valid.{Valid}
use Rattle.skips.specs.Facts.{level_to, FULL, Facts, FactsOf, common, over, kin_within, again, counts, skipped_by}
use Rattle.skips.specs.Repeated.{level-full, pad-level, pad-left, pad-right, pad-none, Pads, pads-said, pairs_at, not_itself, occurs-earlier}
use Rattle.skips.specs.Counted.{count_from, count-turns}
use Rattle.skips.specs.Kin.{Fine, leveled, scan-is, scan-levels, self-is, narrow-is}
use Rattle.skips.specs.Members.{Low, positive_of}

-- ---- counting along a list
count-append : (earlier l m : List MonomialPair) → count_from earlier (l ++ m) ≡ count_from earlier l + count_from (earlier ++ l) m
unfolding count_from
count-append earlier [] m = omega (arith, ap (λ (z : List MonomialPair). count_from z m) (append-nil earlier))
count-append earlier (p ∷ l) m =
    let z = ap (λ (z : List MonomialPair). count_from z m) (append_assoc earlier (p ∷ []) l) in
    omega (arith, count-append (earlier ++ (p ∷ [])) l m, z)

each_append : {A B : Type 0} (f : A → List B) (a b : List A) → each f (a ++ b) ≡ each f a ++ each f b
unfolding each
each_append f [] b = refl
each_append f (x ∷ a) b = rw (each_append f a b) (sym (append_assoc (f x) (each f a) (each f b)))

-- one entry more
each_last : {A B : Type 0} (f : A → List B) (l : List A) (k : ℕ) (d : A) → k < length l → each f (take (suc k) l) ≡ each f (take k l) ++ f (get_or l k d)
unfolding each
each_last {B = B} f l k d h =
    ap (each f) (take-suc l k d h)
    ∙ each_append f (take k l) (get_or l k d ∷ [])
    ∙ ap (λ (m : List B). each f (take k l) ++ m) (append-nil (f (get_or l k d)))

-- ---- the pair of left monomial i and right monomial j
max-is : (a b : ℕ) → pick (ltb a b) b a ≡ max a b
max-is a b = go (dec_lt a b)
  where
    go : Dec (a < b) → pick (ltb a b) b a ≡ max a b
    go (yes h) = rw (lt-ltb a b h) (omega arith)
    go (no h) = rw (le-ltb a b (omega arith)) (omega arith)

not-both : (n a b : ℕ) → not (both (leb n a) (leb n b)) ≡ either (ltb a n) (ltb b n)
not-both n a b = go (dec_lt a n) (dec_lt b n)
  where
    go : Dec (a < n) → Dec (b < n) → not (both (leb n a) (leb n b)) ≡ either (ltb a n) (ltb b n)
    go (yes h) k = rw (lt-ltb a n h, lt-leb n a h) refl
    go (no h) (yes k) = rw (le-ltb a n (omega arith), le-leb n a (omega arith), lt-ltb b n k, lt-leb n b k) refl
    go (no h) (no k) = rw (le-ltb a n (omega arith), le-leb n a (omega arith), le-ltb b n (omega arith), le-leb n b (omega arith)) refl

regroup : (a b c : Bool) → either (either a b) c ≡ either a (either b c)
regroup true b c = refl
regroup false b c = refl

module _ (e l r : ℕ) (xs ys : List Monomial) (f g : Facts) (F : FactsOf e xs f) (G : FactsOf e ys g) (ox : Fine xs) (oy : Fine ys) where
  -- the pairs before it
  abbrev before : ℕ → ℕ → List MonomialPair
  before i j = each (λ a. each (pairs_at e l r a) ys) (take i xs) ++ each (pairs_at e l r (get_or xs i [])) (take j ys)

  module _ (i j : ℕ) (hi : i < length xs) (hj : j < length ys) where
    abbrev x : Monomial
    x = get_or xs i []

    abbrev y : Monomial
    y = get_or ys j []

    abbrev M : ℕ
    M = common f g i j

    M-is : M ≡ max (total x) (total y)
    M-is = max-is (f.total i) (g.total j) ∙ ap₂ max (F.totals i hi) (G.totals j hj)

    small : M ≤ FULL
    small = omega (arith, M-is, ox.small x (in-at xs i [] hi), oy.small y (in-at ys j [] hj))

    -- without an identity and with unequal totals there is no pair
    none_then : e ≡ NO-IDENTITY → total x ≢ total y → over e f g i j ≡ false
    none_then z n = rw (F.totals i hi, G.totals j hj, ne_eqb (total x) (total y) n, eq-eqb e NO-IDENTITY z) refl

    module _ (c : (total x ≡ total y) ⊎ (e ≢ NO-IDENTITY)) where
      abbrev p : MonomialPair
      p = pair_of (level_to e M x) (level_to e M y)

      id-x : e ≡ NO-IDENTITY → total x ≡ M
      id-x z = elim c [ inl q ↦ omega (arith, M-is) | inr n ↦ absurd (n z) ]

      id-y : e ≡ NO-IDENTITY → total y ≡ M
      id-y z = elim c [ inl q ↦ omega (arith, M-is) | inr n ↦ absurd (n z) ]

      low_x : total x ≤ M
      low_x = omega (arith, M-is)

      low-y : total y ≤ M
      low-y = omega (arith, M-is)

      padded : pad_pair e x y ≡ p ∷ []
      padded = go (dec_lt (total x) (total y)) (dec_lt (total y) (total x)) c
        where
          pair : {a b a' b' : Monomial} → a ≡ a' → b ≡ b' → pair_of a b ∷ [] ≡ pair_of a' b' ∷ []
          pair u v = ap₂ {C = List MonomialPair} (λ (a b : Monomial). pair_of a b ∷ []) u v

          go : Dec (total x < total y) → Dec (total y < total x) → (total x ≡ total y) ⊎ (e ≢ NO-IDENTITY) → pad_pair e x y ≡ p ∷ []
          go (yes h) k (inl q) = absurd (omega arith)
          go (yes h) k (inr n) = pad-left e x y n h ∙ pair (ap (λ (z : ℕ). level_to e z x) (omega (arith, M-is))) (sym (level-full e M y (omega (arith, M-is))))
          go (no h) (yes k) (inl q) = absurd (omega arith)
          go (no h) (yes k) (inr n) = pad-right e x y n k ∙ pair (sym (level-full e M x (omega (arith, M-is)))) (ap (λ (z : ℕ). level_to e z y) (omega (arith, M-is)))
          go (no h) (no k) d = pad-level e x y (omega arith) ∙ pair (sym (level-full e M x (omega (arith, M-is)))) (sym (level-full e M y (omega (arith, M-is))))

      pads : Pads e x y p
      pads = pads-said e x y p (rw padded here)

      total-rows : total (level_to e M x) ≡ M
      total-rows = leveled e M xs ox small x (in-at xs i [] hi) low_x id-x

      total-cols : total (level_to e M y) ≡ M
      total-cols = leveled e M ys oy small y (in-at ys j [] hj) low-y id-y

      wide_is : wide p ≡ over e f g i j
      wide_is =
          ap₂ (λ (a b : Bool). not (both a b)) (narrow-is e M xs ox f F small i hi low_x id-x) (narrow-is e M ys oy g G small j hj low-y id-y)
          ∙ not-both M (f.most i) (g.most j)
          ∙ ap (λ (b : Bool). both b (either (ltb (f.most i) M) (ltb (g.most j) M))) (sym (there-is c))
        where
          there-is : (total x ≡ total y) ⊎ (e ≢ NO-IDENTITY) → either (eqb (f.total i) (g.total j)) (not (eqb e NO-IDENTITY)) ≡ true
          there-is (inl q) = rw (eq-eqb (f.total i) (g.total j) (omega (arith, F.totals i hi, G.totals j hj))) refl
          there-is (inr n) = rw (ne_eqb e NO-IDENTITY n) (last (eqb (f.total i) (g.total j)))
            where
              last : (b : Bool) → either b true ≡ true
              last true = refl
              last false = refl

      again-is : wide p ≡ true → any (same_pair p) (before i j) ≡ again f g (length ys) i j
      unfolding again
      again-is w =
          occurs-earlier e l r p w (total-rows ∙ sym total-cols) x y pads (take i xs) ys (take j ys) (in-at ys j [] hj)
          ∙ regroup A (both B C) D
          ∙ ap₂ either (scan-is e M xs ox f F small i hi low_x id-x i (omega arith))
          (ap₂ either
          (ap₂ both (scan-levels e M xs ox f F small i hi low_x id-x i (total (level_to e M x)) (omega arith) total-rows)
          (ap (any (λ b. same_twos b (level_to e M y))) (sym (take-length ys)) ∙ scan-is e M ys oy g G small j hj low-y id-y (length ys) (omega arith)))
          (ap₂ (λ (s : Bool) (t : Bool). pick s t (any (λ b. same_twos b (level_to e M y)) (take j ys))) (self-is e M xs ox f F small i hi low_x id-x)
          (scan-levels e M ys oy g G small j hj low-y id-y j (total (level_to e M x)) (omega arith) total-rows)
          ∙ ap (pick (eqb (f.total i) M) (kin_within g j j M)) (scan-is e M ys oy g G small j hj low-y id-y j (omega arith))))
        where
          A : Bool
          A = any (λ a. same_twos a (level_to e M x)) (take i xs)

          B : Bool
          B = any (λ a. same_twos (level_to e (total (level_to e M x)) a) (level_to e M x)) (take i xs)

          C : Bool
          C = any (λ b. same_twos b (level_to e M y)) ys

          D : Bool
          D = pick (same_twos x (level_to e M x)) (any (λ b. same_twos (level_to e (total (level_to e M x)) b) (level_to e M y)) (take j ys)) (any (λ b. same_twos b (level_to e M y)) (take j ys))

    -- its turn
    turn_is : count_from (before i j) (pairs_at e l r x y) ≡ pick (counts e f g (length ys) i j) 1 0
    unfolding count_from counts
    turn_is = go (ℕ_discrete (total x) (total y)) (ℕ_discrete e NO-IDENTITY)
      where
        nothing : over e f g i j ≡ false → ◌≡◌ {A = ℕ} 0 (pick (both (over e f g i j) (not (again f g (length ys) i j))) 1 0)
        nothing z = sym (ap (λ (b : Bool). pick (both b (not (again f g (length ys) i j))) 1 0) z)

        one : (c : (total x ≡ total y) ⊎ (e ≢ NO-IDENTITY)) (w : Bool) → wide (p c) ≡ w
            → pick (both w (not (any (same_pair (p c)) (before i j)))) 1 0 + 0 ≡ pick (both (over e f g i j) (not (again f g (length ys) i j))) 1 0
        one c true w = omega (arith, ap₂ {C = ℕ} (λ (a b : Bool). pick (both a (not b)) 1 0) (sym w ∙ wide_is c) (again-is c w))
        one c false w = nothing (sym (wide_is c) ∙ w)

        some : (c : (total x ≡ total y) ⊎ (e ≢ NO-IDENTITY)) (b : Bool) → both_itself l r x y ≡ b
            → count_from (before i j) (elim b [ true ↦ [] | false ↦ pad_pair e x y ]) ≡ pick (both (over e f g i j) (not (again f g (length ys) i j))) 1 0
        some c true b = nothing (sym (wide_is c) ∙ is_false (wide (p c)) (λ w. clash (sym b ∙ not_itself e l r x y (p c) w (padded c))))
        some c false b = ap (count_from (before i j)) (padded c) ∙ one c (wide (p c)) refl

        none : (b : Bool) → pad_pair e x y ≡ [] → count_from (before i j) (elim b [ true ↦ [] | false ↦ pad_pair e x y ]) ≡ 0
        none true z = refl
        none false z = ap (count_from (before i j)) z

        go : Dec (total x ≡ total y) → Dec (e ≡ NO-IDENTITY) → count_from (before i j) (pairs_at e l r x y) ≡ pick (both (over e f g i j) (not (again f g (length ys) i j))) 1 0
        go (yes q) b = some (inl q) (both_itself l r x y) refl
        go (no q) (no n) = some (inr n) (both_itself l r x y) refl
        go (no q) (yes z) = none (both_itself l r x y) (pad-none e x y z q) ∙ nothing (none_then z q)

  -- ---- the walk
  row_is : (i : ℕ) → i < length xs → (j : ℕ) → j ≤ length ys
      → count_from (each (λ a. each (pairs_at e l r a) ys) (take i xs)) (each (pairs_at e l r (get_or xs i [])) (take j ys)) ≡ sum_to j (λ j. pick (counts e f g (length ys) i j) 1 0)
  unfolding count_from each sum_to
  row_is i hi zero hj = refl
  row_is i hi (suc j) hj =
      let E = each (λ a. each (pairs_at e l r a) ys) (take i xs) in
      let q = pairs_at e l r (get_or xs i []) in
      ap (count_from E) (each_last q ys j [] (omega arith))
      ∙ count-append E (each q (take j ys)) (q (get_or ys j []))
      ∙ ap₂ (λ (a b : ℕ). a + b) (row_is i hi j (omega arith)) (turn_is i j hi (omega arith))

  rows_are : (i : ℕ) → i ≤ length xs → count_from [] (each (λ a. each (pairs_at e l r a) ys) (take i xs)) ≡ sum_to i (λ i. sum_to (length ys) (λ j. pick (counts e f g (length ys) i j) 1 0))
  unfolding count_from each sum_to
  rows_are zero hi = refl
  rows_are (suc i) hi =
      let E = each (λ a. each (pairs_at e l r a) ys) (take i xs) in
      ap (count_from []) (each_last (λ a. each (pairs_at e l r a) ys) xs i [] (omega arith))
      ∙ count-append [] E (each (pairs_at e l r (get_or xs i [])) ys)
      ∙ ap₂ (λ (a b : ℕ). a + b) (rows_are i (omega arith))
      (ap (λ (m : List Monomial). count_from E (each (pairs_at e l r (get_or xs i [])) m)) (sym (take-length ys)) ∙ row_is i (omega arith) (length ys) (omega arith))

  -- The number of pairs passed over, by the facts of the monomials.
  pub by-facts : count_once [] (wide_pairs (each (λ a. each (λ b. elim (both_itself l r a b) [ true ↦ [] | false ↦ pad_pair e a b ]) ys) xs)) ≡ skipped_by e f g (length xs) (length ys)
  unfolding skipped_by
  by-facts =
      let all : List Monomial → List MonomialPair = λ m. each (λ a. each (pairs_at e l r a) ys) m in
      count-turns (all xs) ∙ ap (λ (m : List Monomial). count_from [] (all m)) (sym (take-length xs)) ∙ rows_are (length xs) (omega arith)

-- ---- of an accepted image
module _ (t : Tables) (v : Valid t) where
  fine : (c o : ℕ) → c < length t.classes → Low (monomials_of t c o) → Fine (monomials_of t c o)
  fine c o h low = record { positive = positive_of t v c o h; small = λ m i. let (k, b, e) = at_in [] i in rw e at (low k b) }

  -- What is passed over for two classes under one operation.
  pub skipped-under : (l r o : ℕ) → l < length t.classes → r < length t.classes → Low (monomials_of t l o) → Low (monomials_of t r o) → (f g : Facts)
      → FactsOf (identity_of t o) (monomials_of t l o) f → FactsOf (identity_of t o) (monomials_of t r o) g
      → skipped_under t l r o ≡ skipped_by (identity_of t o) f g (length (monomials_of t l o)) (length (monomials_of t r o))
  unfolding skipped_under representation_pairs
  skipped-under l r o hl hr kl kr f g F G = by-facts (identity_of t o) l r (monomials_of t l o) (monomials_of t r o) f g F G (fine l o hl kl) (fine r o hr kr)
