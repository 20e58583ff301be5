-- What padding leaves in two buffers, one law for each way out.
use mathlib.Core.Path.{◌≡◌, refl, sym, ◌∙◌}
use mathlib.Core.Bool.{Bool, true, false}
use mathlib.Core.List.{List, [], ◌∷◌}
use Prim.Native.Nat.{ℕ, ◌+◌, ◌-◌, ◌≤◌, ◌<◌}
use native.Mathlib.Omega.{arith}
use borrow.Author.Tests.{lt-ltb, le-ltb, eq-eqb, ne_eqb, eqb-true}
use lib.Dec.{ltb, eqb}
use lib.ListN.{length}
use Rattle.spec.specs.Bytes.{pick, sum, same_twos}
use Rattle.spec.specs.Image.{NO-IDENTITY}
use Rattle.spec.specs.Monomial.{Monomial, insert_add, total, itself, both_itself}
use Rattle.laws.specs.Tests.{both_true}
use Rattle.monomial_terms.specs.Terms.{terms, held, front, Holds, Roomy}
use Rattle.padding.specs.Pad.{level_by, levelled, unmatched, both_narrow, padded_of, answer_of, Pads, Paddable}
use Rattle.monomial.specs.Places.{TOTAL}
use Rattle.std.proofs.Common.{Option, Some, None}
use Rattle.monomial_terms.specs.TermLaws.{held-length, held-is, held_same, grow}

-- ---- level: the smaller one gets what it lacks
module _ (m : Monomial) (id a b : ℕ) (s u : List ℕ) (r : ℕ) where
  pub level-more : (x : ℕ) → a < b → (id ≡ NO-IDENTITY → ⊥) → x ≡ id → Holds (insert_add x (b - a) m) s u r → Holds (level_by id m a b) s u r
  level-more x h n e d = rw (lt-ltb a b h, ne_eqb id NO-IDENTITY n, ← e) d

  pub level-none : id ≡ NO-IDENTITY → Holds m s u r → Holds (level_by id m a b) s u r
  level-none e d = step (ltb a b)
    where
      step : (p : Bool) → Holds (pick p (pick (eqb id NO-IDENTITY) m (insert_add id (b - a) m)) m) s u r
      step true = rw (eq-eqb id NO-IDENTITY e) d
      step false = d

  pub level-same : b ≤ a → Holds m s u r → Holds (level_by id m a b) s u r
  level-same h d = rw (le-ltb a b h) d

pub level-room : (n a b : ℕ) (s : List ℕ) → length s ≡ 130 → n ≤ 64 → a ≡ total (held n s) → b ≤ TOTAL → a < b → Roomy n (b - a) s
level-room n a b s l f e g h = record { numbers = l; room = omega arith; fits = omega (arith, e) }

-- ---- pad
levelled-is : (id a b : ℕ) (A B : Monomial) → a ≡ total A → b ≡ total B → level_by id A a b ≡ levelled id A B
unfolding levelled
levelled-is id a b A B e f = rw (e, f) refl

levelled-few : (id : ℕ) (A B : Monomial) → length (levelled id A B) ≤ length A + 1
unfolding levelled
levelled-few id A B = step (ltb (total A) (total B)) (eqb id NO-IDENTITY)
  where
    step : (p q : Bool) → length (pick p (pick q A (insert_add id (total B - total A) A)) A) ≤ length A + 1
    step true true = omega arith
    step true false = (grow id (total B - total A) A).1
    step false q = omega arith

-- after both have been levelled
module _ (id n m a b : ℕ) (s u s' u' : List ℕ) (k l : ℕ) (p : Paddable n m s u) (e : a ≡ total (held n s)) (f : b ≡ total (held m u))
    (d : Holds (level_by id (held n s) a b) s s' k) (g : Holds (level_by id (held m u) b a) u u' l) where
  A : Monomial
  A = held n s

  B : Monomial
  B = held m u

  rows : Holds (levelled id (held n s) (held m u)) s s' k
  rows = rw (← levelled-is id a b (held n s) (held m u) e f) d

  cols : Holds (levelled id (held m u) (held n s)) u u' l
  cols = rw (← levelled-is id b a (held m u) (held n s) f e) g

  few-rows : k ≤ 65
  few-rows = omega (arith, rows.len, levelled-few id (held n s) (held m u), held-length n s p.numbers_left (omega (arith, p.few_left)), p.few_left)

  few-cols : l ≤ 65
  few-cols = omega (arith, cols.len, levelled-few id (held m u) (held n s), held-length m u p.numbers_right (omega (arith, p.few_right)), p.few_right)

  narrow-are : (x : Bool) → x ≡ both_narrow (held k s') (held l u') → x ≡ both_narrow (levelled id (held n s) (held m u)) (levelled id (held m u) (held n s))
  narrow-are x h = rw (held-is _ s s' k rows, held-is _ u u' l cols) at h

  pub pads-pair : (x y : Bool) → x ≡ unmatched id a b → x ≡ false → y ≡ both_narrow (held k s') (held l u') → y ≡ true
      → Pads (padded_of id (held n s) (held m u)) id (held n s) (held m u) s u s' u' (Some (k, l))
  unfolding padded_of
  pads-pair x y h i j w =
      let q : unmatched id (total (held n s)) (total (held m u)) ≡ false = rw (← e, ← f) (sym h ∙ i) in
      let r : both_narrow (levelled id (held n s) (held m u)) (levelled id (held m u) (held n s)) ≡ true = sym (narrow-are y j) ∙ w in
      record { answer = rw (q, r, rows.len, cols.len) refl; rows = rows.whole; cols = cols.whole; few = (few-rows, few-cols) }

  pub pads-wide : (x y : Bool) → x ≡ unmatched id a b → x ≡ false → y ≡ both_narrow (held k s') (held l u') → y ≡ false
      → Pads (padded_of id (held n s) (held m u)) id (held n s) (held m u) s u s' u' None
  unfolding padded_of
  pads-wide x y h i j w =
      let q : unmatched id (total (held n s)) (total (held m u)) ≡ false = rw (← e, ← f) (sym h ∙ i) in
      let r : both_narrow (levelled id (held n s) (held m u)) (levelled id (held m u) (held n s)) ≡ false = sym (narrow-are y j) ∙ w in
      record { answer = rw (q, r) refl; rows = rows.whole; cols = cols.whole; few = tt }

-- no padding: nothing is written
levelled-no : (id : ℕ) (A B : Monomial) → id ≡ NO-IDENTITY → levelled id A B ≡ A
unfolding levelled
levelled-no id A B e = step (ltb (total A) (total B))
  where
    step : (p : Bool) → pick p (pick (eqb id NO-IDENTITY) A (insert_add id (total B - total A) A)) A ≡ A
    step true = rw (eq-eqb id NO-IDENTITY e) refl
    step false = refl

levelled-even : (id : ℕ) (A B : Monomial) → total A ≡ total B → levelled id A B ≡ A
unfolding levelled
levelled-even id A B e = rw (le-ltb (total A) (total B) (omega arith)) refl

module _ (id n m : ℕ) (s u : List ℕ) (p : Paddable n m s u) where
  same : (l : Monomial) (k : ℕ) (v : List ℕ) → l ≡ held k v → length v ≡ 130 → k ≤ 64 → terms v ≡ front l (terms v)
  same l k v e h i = rw e (held_same k v h (omega arith)).whole

  pub pads-unmatched : (x : Bool) (a b : ℕ) → a ≡ total (held n s) → b ≡ total (held m u) → x ≡ unmatched id a b → x ≡ true
      → Pads (padded_of id (held n s) (held m u)) id (held n s) (held m u) s u s u None
  unfolding padded_of
  pads-unmatched x a b e f h i =
      let q : unmatched id (total (held n s)) (total (held m u)) ≡ true = rw (← e, ← f) (sym h ∙ i) in
      let z : id ≡ NO-IDENTITY = none (eqb (total (held n s)) (total (held m u))) q in
      record {
        answer = rw q refl;
        rows = same (levelled id (held n s) (held m u)) n s (levelled-no id (held n s) (held m u) z) p.numbers_left p.few_left;
        cols = same (levelled id (held m u) (held n s)) m u (levelled-no id (held m u) (held n s) z) p.numbers_right p.few_right;
        few = tt;
      }
    where
      none : (t : Bool) → pick t false (eqb id NO-IDENTITY) ≡ true → id ≡ NO-IDENTITY
      none true h = absurd (let z : ◌≡◌ {A = ℕ} 0 1 = cc in omega arith)
      none false h = eqb-true id NO-IDENTITY h

-- ---- both classes as themselves
itself-total : (m : Monomial) (c : ℕ) → same_twos m (itself c) ≡ true → total m ≡ 1
unfolding same_twos total sum
itself-total [] c h = absurd (let z : ◌≡◌ {A = ℕ} 0 1 = cc in omega arith)
itself-total (t ∷ []) c h = step (eqb t.0 c) refl (eqb t.1 1) refl
  where
    step : (p : Bool) → eqb t.0 c ≡ p → (q : Bool) → eqb t.1 1 ≡ q → t.1 + 0 ≡ 1
    step true e true f = omega (arith, eqb-true t.1 1 f)
    step true e false f = absurd (let z : ◌≡◌ {A = Bool} true false = sym h ∙ rw (same_twos, e, f) refl in let y : ◌≡◌ {A = ℕ} 0 1 = cc in omega arith)
    step false e q f = absurd (let z : ◌≡◌ {A = Bool} true false = sym h ∙ rw (same_twos, e) refl in let y : ◌≡◌ {A = ℕ} 0 1 = cc in omega arith)
itself-total (t ∷ v ∷ m) c h = step (eqb t.0 c) refl (eqb t.1 1) refl
  where
    step : (p : Bool) → eqb t.0 c ≡ p → (q : Bool) → eqb t.1 1 ≡ q → t.1 + (v.1 + sum (Rattle.spec.specs.Monomial.counts m)) ≡ 1
    step true e true f = absurd (let z : ◌≡◌ {A = Bool} true false = sym h ∙ rw (same_twos, e, f) refl in let y : ◌≡◌ {A = ℕ} 0 1 = cc in omega arith)
    step true e false f = absurd (let z : ◌≡◌ {A = Bool} true false = sym h ∙ rw (same_twos, e, f) refl in let y : ◌≡◌ {A = ℕ} 0 1 = cc in omega arith)
    step false e q f = absurd (let z : ◌≡◌ {A = Bool} true false = sym h ∙ rw (same_twos, e) refl in let y : ◌≡◌ {A = ℕ} 0 1 = cc in omega arith)

module _ (id l r n m : ℕ) (s u : List ℕ) (p : Paddable n m s u) where
  pub pads-itself : (x : Bool) → x ≡ both_itself l r (held n s) (held m u) → x ≡ true
      → Pads (answer_of l r id (held n s) (held m u)) id (held n s) (held m u) s u s u None
  unfolding answer_of
  pads-itself x h i =
      let q : both_itself l r (held n s) (held m u) ≡ true = sym h ∙ i in
      let (y, z) = (both_true (same_twos (held n s) (itself l)) (same_twos (held m u) (itself r))).0 q in
      let a : total (held n s) ≡ 1 = itself-total (held n s) l y in
      let b : total (held m u) ≡ 1 = itself-total (held m u) r z in
      record {
        answer = rw q refl;
        rows = same id n m s u p (levelled id (held n s) (held m u)) n s (levelled-even id (held n s) (held m u) (a ∙ sym b)) p.numbers_left p.few_left;
        cols = same id n m s u p (levelled id (held m u) (held n s)) m u (levelled-even id (held m u) (held n s) (b ∙ sym a)) p.numbers_right p.few_right;
        few = tt;
      }

  pub pads-other : (x : Bool) (s' u' : List ℕ) (y : Option (ℕ × ℕ)) → x ≡ both_itself l r (held n s) (held m u) → x ≡ false
      → Pads (padded_of id (held n s) (held m u)) id (held n s) (held m u) s u s' u' y
      → Pads (answer_of l r id (held n s) (held m u)) id (held n s) (held m u) s u s' u' y
  unfolding answer_of
  pads-other x s' u' y h i d =
      let q : both_itself l r (held n s) (held m u) ≡ false = sym h ∙ i in
      record { answer = rw q d.answer; rows = d.rows; cols = d.cols; few = d.few }
