-- The loops over runs that `structural_cmp` needs, and what the first differing children decide.
use Rattle.std.specs.Prelude.{◌≡◌, ◌≢◌, length, get_or}
use Rattle.std.proofs.Math.Path.{refl, sym, ap, ap₂}
use Rattle.std.proofs.Common.{◌∙◌, lt_of_not-le}
use mathlib.Core.List.{List, [], ◌∷◌, map}
use Prim.Native.Nat.{ℕ, zero, suc, ◌+◌, ◌-◌, ◌/◌, ◌%◌, ◌≤◌, ◌<◌}
use Rattle.std.proofs.Math.Decide.{ℕ_discrete, dec_lt}
use native.Mathlib.Omega.{arith}
use borrow.Author.Tests.{eq-eqb, ne_eqb, lt-ltb, le-ltb}
use Rattle.spec.specs.Bytes.{sum, Two}
use Rattle.spec.specs.Pool.{Order, past, runs_cmp, expanded_length}
use Rattle.spec.specs.Meaning.{here, there}
use Rattle.pools.specs.Pool.{Joined, more, joined-tail, RunsBelow, runs-below-tail}
use Rattle.terms.specs.Buffers.{part, unpack}
use Rattle.term_order.specs.Comparing.{times_of, head_child, apart_numbers, diff_numbers, Differs}
use Rattle.terms.specs.PartLaws.{part-cons, part-over}
use Rattle.term_order.specs.declared.Children.{Children}

-- ---- expanded lengths
pub times-sum : (l : List ℕ) → times_of l ≤ sum l
unfolding times_of sum
times-sum [] = omega arith
times-sum (x ∷ l) = omega (arith, times-sum l)

pub times-expanded : (l : List ℕ) → expanded_length (map unpack l) ≡ times_of l
unfolding times_of sum
times-expanded [] = refl
times-expanded (x ∷ l) = ap (λ (z : ℕ). x / 16384 + z) (times-expanded l)

pub times-turn : (l : List ℕ) (i n : ℕ) → i < n → times_of (part l i (n - i)) ≡ get_or l i 0 / 16384 + times_of (part l (i + 1) (n - (i + 1)))
unfolding times_of
times-turn l i n h = rw (part-cons l i n h) refl

pub times-end : (l : List ℕ) (i n : ℕ) → n ≤ i → times_of (part l i (n - i)) ≡ 0
unfolding times_of
times-end l i n h = rw (part-over l i n h) refl

-- ---- the first children that differ
pub head_at : (l : List ℕ) (i n : ℕ) → i < n → get_or l i 0 % 16384 ≡ head_child (part l i (n - i))
head_at l i n h = rw (part-cons l i n h) refl

pub head-none : (l : List ℕ) (i n : ℕ) → n ≤ i → 0 ≡ head_child (part l i (n - i))
head-none l i n h = rw (part-over l i n h) refl

module _ (x : ℕ) (l : List ℕ) (y : ℕ) (m : List ℕ) where
  pub apart-children : (x % 16384 ≡ y % 16384 → ⊥) → apart_numbers x l y m ≡ (x % 16384, y % 16384)
  apart-children d = rw (ne_eqb (x % 16384) (y % 16384) d) refl

  pub apart-shorter : x % 16384 ≡ y % 16384 → x / 16384 < y / 16384 → apart_numbers x l y m ≡ (head_child l, y % 16384)
  apart-shorter e h = rw (eq-eqb (x % 16384) (y % 16384) e, lt-ltb (x / 16384) (y / 16384) h) refl

  pub apart-longer : x % 16384 ≡ y % 16384 → y / 16384 ≤ x / 16384 → apart_numbers x l y m ≡ (x % 16384, head_child m)
  apart-longer e h = rw (eq-eqb (x % 16384) (y % 16384) e, le-ltb (x / 16384) (y / 16384) h) refl

pub diff-same : (x : ℕ) (l : List ℕ) (y : ℕ) (m : List ℕ) → x ≡ y → diff_numbers (x ∷ l) (y ∷ m) ≡ diff_numbers l m
unfolding diff_numbers
diff-same x l y m e = rw (diff_numbers, eq-eqb x y e) refl

pub diff-other : (x : ℕ) (l : List ℕ) (y : ℕ) (m : List ℕ) → (x ≡ y → ⊥) → diff_numbers (x ∷ l) (y ∷ m) ≡ apart_numbers x l y m
unfolding diff_numbers
diff-other x l y m d = rw (diff_numbers, ne_eqb x y d) refl

pub differs-by : {r : Children} {d : Two} {a b : ℕ} → d ≡ (a, b) → r.left ≡ a → r.right ≡ b → Differs r d
differs-by e f g = rw e (record { left = f; right = g })

module _ (l : List ℕ) (i m j n : ℕ) where
  abbrev diff : Two
  diff = diff_numbers (part l i (m - i)) (part l j (n - j))

  pub diff-none : m ≤ i → diff ≡ (0, 0)
  unfolding diff_numbers
  diff-none h = rw (part-over l i m h) refl

  pub diff-past : i < m → n ≤ j → diff ≡ (0, 0)
  unfolding diff_numbers
  diff-past h k = rw (part-cons l i m h, part-over l j n k) refl

  pub diff-turn : i < m → j < n → get_or l i 0 ≡ get_or l j 0 → diff ≡ diff_numbers (part l (i + 1) (m - (i + 1))) (part l (j + 1) (n - (j + 1)))
  diff-turn h k e = rw (part-cons l i m h, part-cons l j n k) (diff-same (get_or l i 0) _ (get_or l j 0) _ e)

  pub diff-apart : i < m → j < n → (get_or l i 0 ≡ get_or l j 0 → ⊥) → diff ≡ apart_numbers (get_or l i 0) (part l (i + 1) (m - (i + 1))) (get_or l j 0) (part l (j + 1) (n - (j + 1)))
  diff-apart h k d = rw (part-cons l i m h, part-cons l j n k) (diff-other (get_or l i 0) _ (get_or l j 0) _ d)

-- ---- they decide: on two joined lists of the same expanded length that are not the same
pub record Decides (f : ℕ) (cmp : ℕ → ℕ → Order) (l m : List ℕ) (i j : ℕ) (d : Two) : Type 0 where
  pub order : runs_cmp f cmp (map unpack l) (map unpack m) ≡ cmp d.0 d.1
  pub left : d.0 < i
  pub right : d.1 < j
  pub apart : d.0 ≢ d.1

joined-apart : {r s : Two} {l : List Two} → Joined (r ∷ s ∷ l) → r.0 ≢ s.0
joined-apart (more h j) = h

past-none : (a n m : ℕ) (l : List Two) → n ≤ m → past a n m l ≡ l
past-none a n m l h = rw (le-ltb m n h) refl

past-some : (a n m : ℕ) (l : List Two) → m < n → past a n m l ≡ (a, n - m) ∷ l
past-some a n m l h = rw (lt-ltb m n h) refl

module _ (cmp : ℕ → ℕ → Order) where
  cmp-other : (f : ℕ) (r s : Two) (l m : List Two) → (r.0 ≡ s.0 → ⊥) → runs_cmp (suc f) cmp (r ∷ l) (s ∷ m) ≡ cmp r.0 s.0
  unfolding runs_cmp
  cmp-other f r s l m d = rw (runs_cmp, ne_eqb r.0 s.0 d) refl

  cmp-same : (f : ℕ) (r s : Two) (l m : List Two) → r.0 ≡ s.0 → runs_cmp (suc f) cmp (r ∷ l) (s ∷ m) ≡ runs_cmp f cmp (past r.0 r.1 s.1 l) (past s.0 s.1 r.1 m)
  unfolding runs_cmp
  cmp-same f r s l m e = rw (runs_cmp, eq-eqb r.0 s.0 e) refl

module _ (cmp : ℕ → ℕ → Order) (i j : ℕ) where
  -- the runs have one child, and the left one is shorter: the next child on the left decides
  shorter : (f x : ℕ) (l : List ℕ) (y : ℕ) (m : List ℕ) → Joined (map unpack (x ∷ l)) → RunsBelow i (map unpack (x ∷ l)) → RunsBelow j (map unpack (y ∷ m)) → times_of (x ∷ l) ≡ times_of (y ∷ m)
      → x % 16384 ≡ y % 16384 → x / 16384 < y / 16384 → length (x ∷ l) + length (y ∷ m) ≤ suc f → Decides (suc f) cmp (x ∷ l) (y ∷ m) i j (head_child l, y % 16384)
  unfolding times_of
  shorter f x [] y m J A B e c h n = absurd (omega arith)
  shorter zero x (t ∷ l) y m J A B e c h n = absurd (omega arith)
  shorter (suc f) x (t ∷ l) y m J A B e c h n =
      let d : t % 16384 ≡ y % 16384 → ⊥ = λ q. joined-apart J (c ∙ sym q) in record {
        order = cmp-same cmp (suc f) (unpack x) (unpack y) (map unpack (t ∷ l)) (map unpack m) c
            ∙ ap₂ (λ (u w : List Two). runs_cmp (suc f) cmp u w) (past-none (x % 16384) (x / 16384) (y / 16384) (map unpack (t ∷ l)) (omega arith)) (past-some (y % 16384) (y / 16384) (x / 16384) (map unpack m) h)
            ∙ cmp-other cmp f (unpack t) (y % 16384, y / 16384 - x / 16384) (map unpack l) (map unpack m) d;
        left = A.earlier (unpack t) (there here);
        right = B.earlier (unpack y) here;
        apart = d;
      }

  longer : (f x : ℕ) (l : List ℕ) (y : ℕ) (m : List ℕ) → Joined (map unpack (y ∷ m)) → RunsBelow i (map unpack (x ∷ l)) → RunsBelow j (map unpack (y ∷ m)) → times_of (x ∷ l) ≡ times_of (y ∷ m)
      → x % 16384 ≡ y % 16384 → y / 16384 < x / 16384 → length (x ∷ l) + length (y ∷ m) ≤ suc f → Decides (suc f) cmp (x ∷ l) (y ∷ m) i j (x % 16384, head_child m)
  unfolding times_of
  longer f x l y [] K A B e c h n = absurd (omega arith)
  longer zero x l y (t ∷ m) K A B e c h n = absurd (omega arith)
  longer (suc f) x l y (t ∷ m) K A B e c h n =
      let d : x % 16384 ≡ t % 16384 → ⊥ = λ q. joined-apart K (sym c ∙ q) in record {
        order = cmp-same cmp (suc f) (unpack x) (unpack y) (map unpack l) (map unpack (t ∷ m)) c
            ∙ ap₂ (λ (u w : List Two). runs_cmp (suc f) cmp u w) (past-some (x % 16384) (x / 16384) (y / 16384) (map unpack l) h) (past-none (y % 16384) (y / 16384) (x / 16384) (map unpack (t ∷ m)) (omega arith))
            ∙ cmp-other cmp f (x % 16384, x / 16384 - y / 16384) (unpack t) (map unpack l) (map unpack m) d;
        left = A.earlier (unpack x) here;
        right = B.earlier (unpack t) (there here);
        apart = d;
      }

  pub decides : (f : ℕ) (l m : List ℕ) → Joined (map unpack l) → Joined (map unpack m) → RunsBelow i (map unpack l) → RunsBelow j (map unpack m) → times_of l ≡ times_of m → (l ≡ m → ⊥)
      → length l + length m ≤ f → Decides f cmp l m i j (diff_numbers l m)
  unfolding times_of
  decides f [] [] J K A B e d h = absurd (d refl)
  decides f [] (y ∷ m) J K A B e d h = let c = B.counted (unpack y) here in absurd (omega arith)
  decides f (x ∷ l) [] J K A B e d h = let c = A.counted (unpack x) here in absurd (omega arith)
  decides zero (x ∷ l) (y ∷ m) J K A B e d h = absurd (omega arith)
  decides (suc f) (x ∷ l) (y ∷ m) J K A B e d h =
      go (ℕ_discrete x y) (ℕ_discrete (x % 16384) (y % 16384)) (dec_lt (x / 16384) (y / 16384))
      (λ q. decides f l m (joined-tail J) (joined-tail K) (runs-below-tail A) (runs-below-tail B) (same_rest q) (λ z. d (ap₂ (λ (a : ℕ) (t : List ℕ). a ∷ t) q z)) (omega arith))
    where
      same_rest : x ≡ y → times_of l ≡ times_of m
      same_rest q = let z : x / 16384 ≡ y / 16384 = ap (λ (k : ℕ). k / 16384) q in omega arith

      go : Dec (x ≡ y) → Dec (x % 16384 ≡ y % 16384) → Dec (x / 16384 < y / 16384) → (x ≡ y → Decides f cmp l m i j (diff_numbers l m)) → Decides (suc f) cmp (x ∷ l) (y ∷ m) i j (diff_numbers (x ∷ l) (y ∷ m))
      go (yes q) c t ih =
          let I = ih q in
          let z : x / 16384 ≡ y / 16384 = ap (λ (k : ℕ). k / 16384) q in
          rw (diff-same x l y m q) (record {
            order = cmp-same cmp f (unpack x) (unpack y) (map unpack l) (map unpack m) (ap (λ (k : ℕ). k % 16384) q)
                ∙ ap₂ (λ (u w : List Two). runs_cmp f cmp u w) (past-none (x % 16384) (x / 16384) (y / 16384) (map unpack l) (omega arith)) (past-none (y % 16384) (y / 16384) (x / 16384) (map unpack m) (omega arith))
                ∙ I.order;
            left = I.left;
            right = I.right;
            apart = I.apart;
          })
      go (no q) (no c) t ih =
          rw (diff-other x l y m q, apart-children x l y m c) (record { order = cmp-other cmp f (unpack x) (unpack y) (map unpack l) (map unpack m) c; left = A.earlier (unpack x) here; right = B.earlier (unpack y) here; apart = c })
      go (no q) (yes c) (yes t) ih = rw (diff-other x l y m q, apart-shorter x l y m c t) (shorter f x l y m J A B e c t h)
      go (no q) (yes c) (no t) ih =
          let u : y / 16384 < x / 16384 = above q c t in
          rw (diff-other x l y m q, apart-longer x l y m c (omega arith)) (longer f x l y m K A B e c u h)
        where
          above : (x ≡ y → ⊥) → x % 16384 ≡ y % 16384 → (x / 16384 < y / 16384 → ⊥) → y / 16384 < x / 16384
          above q c t = lt_of_not-le (λ k. q (same k))
            where
              same : x / 16384 ≤ y / 16384 → x ≡ y
              same k = let z : y / 16384 ≤ x / 16384 = omega arith in omega arith
