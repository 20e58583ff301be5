-- (02, Paper 7) "A pair that, after padding, occurs again for the same left class, right class and operation is counted once": when it occurs again, told by three scans and not by looking at all earlier pairs.
use Rattle.std.specs.Prelude.{◌≡◌, ◌≢◌, ◌⊎◌, Bool, ℕ, ◌-◌, ◌≤◌, ◌<◌, ltb, eqb}
use Rattle.std.proofs.Math.Path.{refl, ap}
use Rattle.std.proofs.Common.{sym, ap₂, ◌∙◌, inl, inr, arith}
use Rattle.std.proofs.Math.Bool.{true, false}
use mathlib.Core.List.{List, [], ◌∷◌, ◌++◌}
use Rattle.std.proofs.Math.Decide.{dec_lt, ℕ_discrete}
use borrow.Author.Tests.{ltb-false, eqb-true, lt-ltb, le-ltb, eq-eqb, ne_eqb}
use Rattle.spec.specs.Bytes.{pick, both, either, all, any, each, sum, Two, same_two, same_twos, In, here, there}
use Rattle.spec.specs.Image.{NO-IDENTITY}
use Rattle.spec.specs.Monomial.{Monomial, MonomialPair, insert_add, total, itself, pair_of, pad_pair, both_itself, wide, same_pair}
use Rattle.laws.specs.Tests.{clash, is_false, both_true, either_true}
use Rattle.laws.specs.AcceptedLists.{any-in, any_of, no-entry}
use Rattle.laws.specs.AcceptedTurns.{any_append}
use Rattle.laws.specs.Scans.{any-each}
use Rattle.laws.specs.Monomials.{total-insert}
use Rattle.skips.specs.Facts.{level_to}

-- ---- the tests of equality
two_is : (p q : Two) → same_two p q ≡ true → p ≡ q
two_is p q e = let (a, b) = (both_true (eqb p.0 q.0) (eqb p.1 q.1)).0 e in ap₂ {C = Two} (λ (x y : ℕ). (x, y)) (eqb-true p.0 q.0 a) (eqb-true p.1 q.1 b)

two-same : (p : Two) → same_two p p ≡ true
two-same p = (both_true (eqb p.0 p.0) (eqb p.1 p.1)).1 (eq-eqb p.0 p.0 refl, eq-eqb p.1 p.1 refl)

pub twos-is : (l m : List Two) → same_twos l m ≡ true → l ≡ m
unfolding same_twos
twos-is [] [] e = refl
twos-is [] (q ∷ m) e = absurd (clash (sym e))
twos-is (p ∷ l) [] e = absurd (clash (sym e))
twos-is (p ∷ l) (q ∷ m) e = go (same_two p q) refl e (λ z. twos-is l m z)
  where
    go : (b : Bool) → same_two p q ≡ b → elim b [ true ↦ same_twos l m | false ↦ false ] ≡ true → (same_twos l m ≡ true → l ≡ m) → p ∷ l ≡ q ∷ m
    go true x z ih = ap₂ (λ (a : Two) (b : List Two). a ∷ b) (two_is p q x) (ih z)
    go false x z ih = absurd (clash (sym z))

pub twos-same : (l : List Two) → same_twos l l ≡ true
unfolding same_twos
twos-same [] = refl
twos-same (p ∷ l) = rw (same_twos, two-same p) (twos-same l)

pub same-is : (p q : MonomialPair) → same_pair p q ≡ true → p ≡ q
same-is p q e = let (a, b) = (both_true (same_twos p.rows q.rows) (same_twos p.cols q.cols)).0 e in ap₂ {C = MonomialPair} (λ (x y : Monomial). pair_of x y) (twos-is p.rows q.rows a) (twos-is p.cols q.cols b)

pub same-same : (p : MonomialPair) → same_pair p p ≡ true
same-same p = (both_true (same_twos p.rows p.rows) (same_twos p.cols p.cols)).1 (twos-same p.rows, twos-same p.cols)

-- ---- padding one side to a total
module _ (e : ℕ) where
  pub level-full : (T : ℕ) (m : Monomial) → T ≤ total m → level_to e T m ≡ m
  level-full T m h = rw (le-ltb (total m) T h) refl

  pub level-none : (T : ℕ) (m : Monomial) → e ≡ NO-IDENTITY → level_to e T m ≡ m
  level-none T m z = go (ltb (total m) T)
    where
      go : (b : Bool) → pick b (pick (eqb e NO-IDENTITY) m (insert_add e (T - total m) m)) m ≡ m
      go true = rw (eq-eqb e NO-IDENTITY z) refl
      go false = refl

  pub level-total : (T : ℕ) (m : Monomial) → e ≢ NO-IDENTITY → total m ≤ T → total (level_to e T m) ≡ T
  level-total T m n h = go (ltb (total m) T) refl
    where
      go : (b : Bool) → ltb (total m) T ≡ b → total (pick b (pick (eqb e NO-IDENTITY) m (insert_add e (T - total m) m)) m) ≡ T
      go true q = rw (ne_eqb e NO-IDENTITY n) (omega (arith, total-insert e (T - total m) m))
      go false q = omega (arith, ltb-false (total m) T q)

  -- what levels to a monomial of total T has at most that total; where it is less, there is an identity
  pub level-most : (T : ℕ) (m r : Monomial) → level_to e T m ≡ r → total r ≡ T → total m ≤ T
  level-most T m r q h = go (dec_lt T (total m))
    where
      go : Dec (T < total m) → total m ≤ T
      go (yes l) = let z : m ≡ r = sym (level-full T m (omega arith)) ∙ q in absurd (omega (arith, ap total z))
      go (no l) = omega arith

  level-identity : (T : ℕ) (m r : Monomial) → level_to e T m ≡ r → total r ≡ T → total m < T → e ≢ NO-IDENTITY
  level-identity T m r q h l n = let z : m ≡ r = sym (level-none T m n) ∙ q in omega (arith, ap total z)

  -- ---- the padded pair, by the common total
  pub pad-level : (x y : Monomial) → total x ≡ total y → pad_pair e x y ≡ pair_of x y ∷ []
  unfolding pad_pair
  pad-level x y h = rw (eq-eqb (total x) (total y) h) refl

  pub pad-left : (x y : Monomial) → e ≢ NO-IDENTITY → total x < total y → pad_pair e x y ≡ pair_of (level_to e (total y) x) y ∷ []
  unfolding pad_pair
  pad-left x y n h = rw (ne_eqb (total x) (total y) (λ z. omega arith), ne_eqb e NO-IDENTITY n, lt-ltb (total x) (total y) h) refl

  pub pad-right : (x y : Monomial) → e ≢ NO-IDENTITY → total y < total x → pad_pair e x y ≡ pair_of x (level_to e (total x) y) ∷ []
  unfolding pad_pair
  pad-right x y n h = rw (ne_eqb (total x) (total y) (λ z. omega arith), ne_eqb e NO-IDENTITY n, le-ltb (total x) (total y) (omega arith), lt-ltb (total y) (total x) h) refl

  pub pad-none : (x y : Monomial) → e ≡ NO-IDENTITY → total x ≢ total y → pad_pair e x y ≡ []
  unfolding pad_pair
  pad-none x y n h = rw (ne_eqb (total x) (total y) h, eq-eqb e NO-IDENTITY n) refl

  -- the padded pair of x and y is p: both level to its total, and one of them has it already
  pub record Pads (x y : Monomial) (p : MonomialPair) : Type 0 where
    pub rows : level_to e (total p.rows) x ≡ p.rows
    pub cols : level_to e (total p.rows) y ≡ p.cols
    pub whole : (x ≡ p.rows) ⊎ (y ≡ p.cols)

  only : {A : Type 0} {x y : A} {l : List A} → l ≡ y ∷ [] → In x l → x ≡ y
  only q i = go (rw q at i)
    where
      go : {A : Type 0} {x y : A} → In x (y ∷ []) → x ≡ y
      go here = refl
      go (there j) = absurd (no-entry j)

  pub pads-said : (x y : Monomial) (p : MonomialPair) → In p (pad_pair e x y) → Pads x y p
  pads-said x y p i = go (ℕ_discrete (total x) (total y)) (ℕ_discrete e NO-IDENTITY) (dec_lt (total x) (total y))
    where
      go : Dec (total x ≡ total y) → Dec (e ≡ NO-IDENTITY) → Dec (total x < total y) → Pads x y p
      go (yes h) n l = let z = only (pad-level x y h) i in rw z (record { rows = level-full (total x) x (omega arith); cols = level-full (total x) y (omega arith); whole = inl refl })
      go (no h) (yes n) l = absurd (no-entry (rw (pad-none x y n h) at i))
      go (no h) (no n) (yes l) =
          let z = only (pad-left x y n l) i in
          let T = level-total (total y) x n (omega arith) in
          rw z (record { rows = ap (λ (k : ℕ). level_to e k x) T; cols = level-full (total (level_to e (total y) x)) y (omega (arith, T)); whole = inr refl })
      go (no h) (no n) (no l) =
          let z = only (pad-right x y n (omega arith)) i in
          rw z (record { rows = level-full (total x) x (omega arith); cols = refl; whole = inl refl })

  pub pads-test : (x y : Monomial) (p : MonomialPair) → total p.rows ≡ total p.cols → Pads x y p → pad_pair e x y ≡ p ∷ []
  pads-test x y p t d = go (ℕ_discrete (total x) (total y)) (dec_lt (total x) (total y))
    where
      T : ℕ
      T = total p.rows

      most_x : total x ≤ total p.rows
      most_x = level-most (total p.rows) x p.rows d.rows refl

      most_y : total y ≤ total p.rows
      most_y = level-most (total p.rows) y p.cols d.cols (sym t)

      one : (total x ≡ total p.rows) ⊎ (total y ≡ total p.rows)
      one = elim d.whole [ inl z ↦ inl (ap total z) | inr z ↦ inr (ap total z ∙ sym t) ]

      pair : {a b : Monomial} → a ≡ p.rows → b ≡ p.cols → pair_of a b ∷ [] ≡ p ∷ []
      pair u v = ap₂ {C = List MonomialPair} (λ (a b : Monomial). pair_of a b ∷ []) u v

      go : Dec (total x ≡ total y) → Dec (total x < total y) → pad_pair e x y ≡ p ∷ []
      go (yes h) l =
          let k : total x ≡ total p.rows = elim one [ inl z ↦ z | inr z ↦ h ∙ z ] in
          pad-level x y h ∙ pair (sym (level-full (total p.rows) x (omega arith)) ∙ d.rows) (sym (level-full (total p.rows) y (omega arith)) ∙ d.cols)
      go (no h) (yes l) =
          let k : total y ≡ total p.rows = elim one [ inl z ↦ absurd (omega (arith, most_y)) | inr z ↦ z ] in
          pad-left x y (level-identity (total p.rows) x p.rows d.rows refl (omega arith)) l
          ∙ pair (ap (λ (z : ℕ). level_to e z x) k ∙ d.rows) (sym (level-full (total p.rows) y (omega arith)) ∙ d.cols)
      go (no h) (no l) =
          let k : total x ≡ total p.rows = elim one [ inl z ↦ z | inr z ↦ absurd (h (omega (arith, most_x))) ] in
          pad-right x y (level-identity (total p.rows) y p.cols d.cols (sym t) (omega arith)) (omega arith)
          ∙ pair (sym (level-full (total p.rows) x (omega arith)) ∙ d.rows) (ap (λ (z : ℕ). level_to e z y) k ∙ d.cols)

-- ---- a pair that is skipped never comes from both classes as themselves
module _ (e l r : ℕ) where
  -- the padded pair of two monomials of classes l and r, if there is one
  abbrev pub pairs_at : Monomial → Monomial → List MonomialPair
  pairs_at x y = elim (both_itself l r x y) [ true ↦ [] | false ↦ pad_pair e x y ]

  itself-pads : (x y : Monomial) → both_itself l r x y ≡ true → pad_pair e x y ≡ pair_of (itself l) (itself r) ∷ []
  unfolding pad_pair total sum
  itself-pads x y b =
      let (a, c) = (both_true (same_twos x (itself l)) (same_twos y (itself r))).0 b in
      rw (twos-is x (itself l) a, twos-is y (itself r) c) refl

  pub not_itself : (x y : Monomial) (p : MonomialPair) → wide p ≡ true → pad_pair e x y ≡ p ∷ [] → both_itself l r x y ≡ false
  unfolding all
  not_itself x y p w q = is_false (both_itself l r x y) (λ b.
      let z : p ≡ pair_of (itself l) (itself r) = heads (sym q ∙ itself-pads x y b) in
      clash (sym w ∙ ap wide z))
    where
      heads : {a b : MonomialPair} → a ∷ [] ≡ b ∷ [] → a ≡ b
      heads z = cc

  module _ (p : MonomialPair) (w : wide p ≡ true) (t : total p.rows ≡ total p.cols) where
    pub at-said : (x y : Monomial) → any (same_pair p) (pairs_at x y) ≡ true → Pads e x y p
    unfolding any
    at-said x y q = go (both_itself l r x y) q
      where
        go : (b : Bool) → any (same_pair p) (elim b [ true ↦ [] | false ↦ pad_pair e x y ]) ≡ true → Pads e x y p
        go true z = absurd (clash (sym z))
        go false z = let (s, i, u) = any-in (same_pair p) (pad_pair e x y) z in pads-said e x y p (rw (sym (same-is p s u)) at i)

    pub at_test : (x y : Monomial) → Pads e x y p → any (same_pair p) (pairs_at x y) ≡ true
    unfolding any
    at_test x y d = let q = pads-test e x y p t d in go (both_itself l r x y) (not_itself x y p w q) (any_of (same_pair p) (pad_pair e x y) p (in_one q) (same-same p))
      where
        go : (b : Bool) → b ≡ false → any (same_pair p) (pad_pair e x y) ≡ true → any (same_pair p) (elim b [ true ↦ [] | false ↦ pad_pair e x y ]) ≡ true
        go true z q = absurd (clash z)
        go false z q = q

        in_one : {m : List MonomialPair} → m ≡ p ∷ [] → In p m
        in_one z = rw z here

    -- ---- the three scans
    abbrev levels : Monomial → Monomial → Bool
    levels m x = same_twos (level_to e (total p.rows) x) m

    -- beside an earlier left place: it is the rows themselves, or it levels to them and some right place is the columns themselves
    abbrev pub in_rows : List Monomial → List Monomial → Bool
    in_rows xs ys = either (any (λ x. same_twos x p.rows) xs) (both (any (levels p.rows) xs) (any (λ y. same_twos y p.cols) ys))

    -- beside the same left place x: an earlier right place that levels to the columns where x is the rows themselves, and that is the columns themselves where not
    abbrev pub in_row : Monomial → List Monomial → Bool
    in_row x ys = pick (same_twos x p.rows) (any (levels p.cols) ys) (any (λ y. same_twos y p.cols) ys)

    -- x and y are the places at hand: xs the left places before it, ys all right places, zs those before y
    module _ (x y : Monomial) (here-now : Pads e x y p) (xs ys zs : List Monomial) (mine : In y ys) where
      abbrev pub earlier : List MonomialPair
      earlier = each (λ a. each (pairs_at a) ys) xs ++ each (pairs_at x) zs

      rows-said : any (λ a. any (same_pair p) (each (pairs_at a) ys)) xs ≡ true → in_rows xs ys ≡ true
      rows-said q =
          let (a, i, u) = any-in (λ a. any (same_pair p) (each (pairs_at a) ys)) xs q in
          let (b, j, v) = any-in (λ b. any (same_pair p) (pairs_at a b)) ys (sym (any-each (same_pair p) (pairs_at a) ys) ∙ u) in
          let d = at-said a b v in
          (either_true (any (λ x. same_twos x p.rows) xs) (both (any (levels p.rows) xs) (any (λ y. same_twos y p.cols) ys))).1
          (elim d.whole [
            | inl z ↦ inl (any_of (λ x. same_twos x p.rows) xs a i (rw z (twos-same p.rows)))
            | inr z ↦ inr ((both_true (any (levels p.rows) xs) (any (λ y. same_twos y p.cols) ys)).1 (any_of (levels p.rows) xs a i (rw d.rows (twos-same p.rows)), any_of (λ y. same_twos y p.cols) ys b j (rw z (twos-same p.cols))))
          ])

      rows-test : in_rows xs ys ≡ true → any (λ a. any (same_pair p) (each (pairs_at a) ys)) xs ≡ true
      rows-test q = elim ((either_true (any (λ x. same_twos x p.rows) xs) (both (any (levels p.rows) xs) (any (λ y. same_twos y p.cols) ys))).0 q) [
        | inl z ↦ (let (a, i, u) = any-in (λ x. same_twos x p.rows) xs z in let s : a ≡ p.rows = twos-is a p.rows u in found a i y mine (record { rows = ap (level_to e (total p.rows)) s ∙ level-full e (total p.rows) p.rows (omega arith); cols = here-now.cols; whole = inl s }))
        | inr z ↦ (let (g, h) = (both_true (any (levels p.rows) xs) (any (λ y. same_twos y p.cols) ys)).0 z in
            let (a, i, u) = any-in (levels p.rows) xs g in
            let (b, j, v) = any-in (λ y. same_twos y p.cols) ys h in
            let s : b ≡ p.cols = twos-is b p.cols v in
            found a i b j (record { rows = twos-is (level_to e (total p.rows) a) p.rows u; cols = ap (level_to e (total p.rows)) s ∙ level-full e (total p.rows) p.cols (omega (arith, t)); whole = inr s }))
      ]
        where
          found : (a : Monomial) → In a xs → (b : Monomial) → In b ys → Pads e a b p → any (λ a. any (same_pair p) (each (pairs_at a) ys)) xs ≡ true
          found a i b j d = any_of (λ a. any (same_pair p) (each (pairs_at a) ys)) xs a i (any-each (same_pair p) (pairs_at a) ys ∙ any_of (λ b. any (same_pair p) (pairs_at a b)) ys b j (at_test a b d))

      row-said : any (λ b. any (same_pair p) (pairs_at x b)) zs ≡ true → in_row x zs ≡ true
      row-said q = let (b, j, v) = any-in (λ b. any (same_pair p) (pairs_at x b)) zs q in go b j (at-said x b v) (same_twos x p.rows) refl
        where
          go : (b : Monomial) → In b zs → Pads e x b p → (s : Bool) → same_twos x p.rows ≡ s → pick s (any (levels p.cols) zs) (any (λ y. same_twos y p.cols) zs) ≡ true
          go b j d true z = any_of (levels p.cols) zs b j (rw d.cols (twos-same p.cols))
          go b j d false z = elim d.whole [
            | inl u ↦ absurd (clash (sym (twos-same p.rows) ∙ ap (λ (m : Monomial). same_twos m p.rows) (sym u) ∙ z))
            | inr u ↦ any_of (λ y. same_twos y p.cols) zs b j (rw u (twos-same p.cols))
          ]

      row-test : in_row x zs ≡ true → any (λ b. any (same_pair p) (pairs_at x b)) zs ≡ true
      row-test q = go (same_twos x p.rows) refl q
        where
          go : (s : Bool) → same_twos x p.rows ≡ s → pick s (any (levels p.cols) zs) (any (λ y. same_twos y p.cols) zs) ≡ true → any (λ b. any (same_pair p) (pairs_at x b)) zs ≡ true
          go true z u =
              let (b, j, v) = any-in (levels p.cols) zs u in
              any_of (λ b. any (same_pair p) (pairs_at x b)) zs b j (at_test x b (record { rows = here-now.rows; cols = twos-is (level_to e (total p.rows) b) p.cols v; whole = inl (twos-is x p.rows z) }))
          go false z u =
              let (b, j, v) = any-in (λ y. same_twos y p.cols) zs u in
              let s : b ≡ p.cols = twos-is b p.cols v in
              any_of (λ b. any (same_pair p) (pairs_at x b)) zs b j (at_test x b (record { rows = here-now.rows; cols = ap (level_to e (total p.rows)) s ∙ level-full e (total p.rows) p.cols (omega (arith, t)); whole = inr s }))

      -- A pair that is skipped occurs earlier exactly where the scans find it.
      pub occurs-earlier : any (same_pair p) earlier ≡ either (in_rows xs ys) (in_row x zs)
      occurs-earlier =
          any_append (same_pair p) (each (λ a. each (pairs_at a) ys) xs) (each (pairs_at x) zs)
          ∙ ap₂ either (any-each (same_pair p) (λ a. each (pairs_at a) ys) xs ∙ alike (rows-said, rows-test)) (any-each (same_pair p) (pairs_at x) zs ∙ alike (row-said, row-test))
        where
          alike : {a b : Bool} → (a ≡ true → b ≡ true) × (b ≡ true → a ≡ true) → a ≡ b
          alike {a} {b} h = go a b h
            where
              go : (a b : Bool) → (a ≡ true → b ≡ true) × (b ≡ true → a ≡ true) → a ≡ b
              go true b h = sym (h.0 refl)
              go false true h = h.1 refl
              go false false h = refl
