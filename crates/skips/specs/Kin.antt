-- (02, Paper 7) kin numbers: which monomials of a list are the same after padding, told by their numbers.
use Rattle.std.specs.Prelude.{◌≡◌, Bool, leb, eqb, get_or, take}
use Rattle.std.proofs.Math.Path.{refl, sym, ap}
use Rattle.std.proofs.Common.{ap₂, ◌∙◌, not-suc-le-zero, leb-true, eqb-true, eq-eqb, le-leb}
use Rattle.std.proofs.Math.Bool.{true, false}
use mathlib.Core.List.{List, [], ◌∷◌}
use Prim.Native.Nat.{ℕ, zero, suc, ◌+◌, ◌≤◌, ◌<◌}
use native.Mathlib.Omega.{arith}
use Rattle.std.proofs.Math.Decide.{ℕ_discrete}
use Rattle.std.proofs.Math.ListN.{length}
use Rattle.spec.specs.Bytes.{both, either, any, place, up_from, same_twos, In, here, there}
use Rattle.spec.specs.Image.{NO-IDENTITY}
use Rattle.spec.specs.Monomial.{Monomial, total, narrow}
use Rattle.laws.specs.Tests.{both_true}
use Rattle.laws.specs.AcceptedLists.{in-at, any-cons}
use Rattle.skips.specs.Facts.{level_to, FULL, filled, kin, Facts, FactsOf, kin_with, kin_within}
use Rattle.skips.specs.Repeated.{twos-is, twos-same, level-full, level-none, level-total, level-most}
use Rattle.skips.specs.Levels.{Positive, level-filled, most-tells}

alike : (a b : Bool) → (a ≡ true → b ≡ true) → (b ≡ true → a ≡ true) → a ≡ b
alike true b f g = sym (f refl)
alike false true f g = g refl
alike false false f g = refl

-- ---- the first that passes
module _ {A : Type 0} (p : A → Bool) (d : A) where
  place-hit : (l : List A) → place p l < length l → p (get_or l (place p l) d) ≡ true
  unfolding place
  place-hit [] h = absurd (not-suc-le-zero h)
  place-hit (x ∷ l) h = go (p x) refl h (place-hit l)
    where
      go : (b : Bool) → p x ≡ b → elim b [ true ↦ 0 | false ↦ suc (place p l) ] < suc (length l) → (place p l < length l → p (get_or l (place p l) d) ≡ true)
          → p (get_or (x ∷ l) (elim b [ true ↦ 0 | false ↦ suc (place p l) ]) d) ≡ true
      go true q k ih = q
      go false q k ih = ih (omega arith)

  place-there : (l : List A) (x : A) → In x l → p x ≡ true → place p l < length l
  unfolding place
  place-there [] x x4 h = elim x4 [ ]
  place-there (y ∷ l) x here h = rw (place, h) (omega arith)
  place-there (y ∷ l) x (there j) h = go (p y) (place-there l x j h)
    where
      go : (b : Bool) → place p l < length l → elim b [ true ↦ 0 | false ↦ suc (place p l) ] < suc (length l)
      go true ih = omega arith
      go false ih = omega arith

-- Two monomials of a list have one kin number exactly if they are the same when filled.
module _ (e : ℕ) (ms : List Monomial) (x y : Monomial) (i : In x ms) (j : In y ms) where
  kin-said : kin e ms x ≡ kin e ms y → filled e x ≡ filled e y
  unfolding kin
  kin-said q =
      let a = place-hit (λ z. same_twos (filled e x) (filled e z)) [] ms (place-there (λ z. same_twos (filled e x) (filled e z)) [] ms x i (twos-same (filled e x))) in
      let b = place-hit (λ z. same_twos (filled e y) (filled e z)) [] ms (place-there (λ z. same_twos (filled e y) (filled e z)) [] ms y j (twos-same (filled e y))) in
      twos-is (filled e x) (filled e (get_or ms (kin e ms x) [])) a
      ∙ ap (λ (k : ℕ). filled e (get_or ms k [])) q
      ∙ sym (twos-is (filled e y) (filled e (get_or ms (kin e ms y) [])) b)

  kin-test : filled e x ≡ filled e y → kin e ms x ≡ kin e ms y
  unfolding kin
  kin-test q = ap (λ (f : Monomial). place (λ z. same_twos f (filled e z)) ms) q

-- ---- a list of monomials and its numbers
pub record Fine (ms : List Monomial) : Type 0 where
  pub positive : (m : Monomial) → In m ms → Positive m
  pub small : (m : Monomial) → In m ms → total m ≤ FULL

-- x is padded to the total n, and n is a total of the image
module _ (e n : ℕ) (ms : List Monomial) (o : Fine ms) (s : n ≤ FULL) (x : Monomial) (i : In x ms) (h : total x ≤ n) (id : e ≡ NO-IDENTITY → total x ≡ n) where
  pub leveled : total (level_to e n x) ≡ n
  leveled = go (ℕ_discrete e NO-IDENTITY)
    where
      go : Dec (e ≡ NO-IDENTITY) → total (level_to e n x) ≡ n
      go (yes z) = ap total (level-none e n x z) ∙ id z
      go (no z) = level-total e n x z h

  module _ (y : Monomial) (j : In y ms) where
    levels-said : level_to e n y ≡ level_to e n x → (filled e y ≡ filled e x) × (total y ≤ n)
    levels-said q = (go (ℕ_discrete e NO-IDENTITY), low)
      where
        low : total y ≤ n
        low = level-most e n y (level_to e n x) q leveled

        go : Dec (e ≡ NO-IDENTITY) → filled e y ≡ filled e x
        go (yes z) = ap (filled e) (sym (level-none e n y z) ∙ q ∙ level-none e n x z)
        go (no z) = (level-filled e n y x (o.positive y j) (o.positive x i) low h s z).0 q

    levels-test : filled e y ≡ filled e x → total y ≤ n → level_to e n y ≡ level_to e n x
    levels-test q k = go (ℕ_discrete e NO-IDENTITY)
      where
        go : Dec (e ≡ NO-IDENTITY) → level_to e n y ≡ level_to e n x
        go (yes z) = ap (level_to e n) (sym (level-none e FULL y z) ∙ q ∙ level-none e FULL x z)
        go (no z) = (level-filled e n y x (o.positive y j) (o.positive x i) k h s z).1 q

    -- it levels to the same: kin, and its total at most n
    kin-levels : same_twos (level_to e n y) (level_to e n x) ≡ both (eqb (kin e ms y) (kin e ms x)) (leb (total y) n)
    kin-levels = alike (same_twos (level_to e n y) (level_to e n x)) (both (eqb (kin e ms y) (kin e ms x)) (leb (total y) n)) (λ q.
        let (a, b) = levels-said (twos-is (level_to e n y) (level_to e n x) q) in
        (both_true (eqb (kin e ms y) (kin e ms x)) (leb (total y) n)).1 (eq-eqb (kin e ms y) (kin e ms x) (kin-test e ms y x j i a), le-leb (total y) n b))
        (λ q.
        let (a, b) = (both_true (eqb (kin e ms y) (kin e ms x)) (leb (total y) n)).0 q in
        rw (levels-test (kin-said e ms y x j i (eqb-true (kin e ms y) (kin e ms x) a)) (leb-true (total y) n b)) (twos-same (level_to e n x)))

    -- it is that monomial itself: kin, and its total n
    kin-is : same_twos y (level_to e n x) ≡ both (eqb (kin e ms y) (kin e ms x)) (eqb (total y) n)
    kin-is = alike (same_twos y (level_to e n x)) (both (eqb (kin e ms y) (kin e ms x)) (eqb (total y) n)) (λ q.
        let z = twos-is y (level_to e n x) q in
        let t : total y ≡ n = ap total z ∙ leveled in
        let (a, b) = levels-said (level-full e n y (omega arith) ∙ z) in
        (both_true (eqb (kin e ms y) (kin e ms x)) (eqb (total y) n)).1 (eq-eqb (kin e ms y) (kin e ms x) (kin-test e ms y x j i a), eq-eqb (total y) n t))
        (λ q.
        let (a, b) = (both_true (eqb (kin e ms y) (kin e ms x)) (eqb (total y) n)).0 q in
        let t : total y ≡ n = eqb-true (total y) n b in
        let z : y ≡ level_to e n x = sym (level-full e n y (omega arith)) ∙ levels-test (kin-said e ms y x j i (eqb-true (kin e ms y) (kin e ms x) a)) (omega arith) in
        ap (λ (m : Monomial). same_twos m (level_to e n x)) z ∙ twos-same (level_to e n x))

-- ---- a scan of the first n, by their numbers
any-upto : {A : Type 0} (p : A → Bool) (q : ℕ → Bool) (d : A) (n b : ℕ) (l : List A) → n ≤ length l → ((k : ℕ) → k < n → q (b + k) ≡ p (get_or l k d)) → any p (take n l) ≡ any q (up_from b n)
unfolding any up_from
any-upto p q d zero b l h f = refl
any-upto p q d (suc n) b [] h f = absurd (not-suc-le-zero h)
any-upto p q d (suc n) b (x ∷ l) h f =
    let z : q b ≡ p x = ap q (omega arith) ∙ f 0 (omega arith) in
    any-cons p x (take n l)
    ∙ ap₂ either (sym z) (any-upto p q d n (suc b) l (omega arith) (λ k c. ap q (omega arith) ∙ f (suc k) (omega arith)))
    ∙ sym (any-cons q b (up_from (suc b) n))

-- ---- one side: monomial i, padded to n
module _ (e n : ℕ) (ms : List Monomial) (o : Fine ms) (h : Facts) (H : FactsOf e ms h) (s : n ≤ FULL) (i : ℕ) (hi : i < length ms) (low : total (get_or ms i []) ≤ n) (id : e ≡ NO-IDENTITY → total (get_or ms i []) ≡ n) where
  abbrev pub mine : Monomial
  mine = get_or ms i []

  pub scan-is : (k : ℕ) → k ≤ length ms → any (λ a. same_twos a (level_to e n mine)) (take k ms) ≡ kin_with h k i n
  unfolding kin_with
  scan-is k b = any-upto (λ a. same_twos a (level_to e n mine)) (λ a. both (eqb (h.kin a) (h.kin i)) (eqb (h.total a) n)) [] k 0 ms b (λ a c.
      let w : a < length ms = omega arith in
      let z : 0 + a ≡ a = omega arith in
      rw (z, H.kins a w, H.kins i hi, H.totals a w) (sym (kin-is e n ms o s mine (in-at ms i [] hi) low id (get_or ms a []) (in-at ms a [] w))))

  pub scan-levels : (k T : ℕ) → k ≤ length ms → T ≡ n → any (λ a. same_twos (level_to e T a) (level_to e n mine)) (take k ms) ≡ kin_within h k i n
  unfolding kin_within
  scan-levels k T b t = ap (λ (T : ℕ). any (λ a. same_twos (level_to e T a) (level_to e n mine)) (take k ms)) t ∙ any-upto (λ a. same_twos (level_to e n a) (level_to e n mine)) (λ a. both (eqb (h.kin a) (h.kin i)) (leb (h.total a) n)) [] k 0 ms b (λ a c.
      let w : a < length ms = omega arith in
      let z : 0 + a ≡ a = omega arith in
      rw (z, H.kins a w, H.kins i hi, H.totals a w) (sym (kin-levels e n ms o s mine (in-at ms i [] hi) low id (get_or ms a []) (in-at ms a [] w))))

  pub self-is : same_twos mine (level_to e n mine) ≡ eqb (h.total i) n
  self-is =
      kin-is e n ms o s mine (in-at ms i [] hi) low id mine (in-at ms i [] hi)
      ∙ ap₂ both (eq-eqb (kin e ms mine) (kin e ms mine) refl) (ap (λ (t : ℕ). eqb t n) (sym (H.totals i hi)))

  pub narrow-is : narrow (level_to e n mine) ≡ leb n (h.most i)
  narrow-is = most-tells e n mine low (λ z. sym (id z)) ∙ ap (leb n) (sym (H.mosts i hi))
