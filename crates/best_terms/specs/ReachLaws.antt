-- The classes that a class reaches through best members, marked in any order of visits.
use Rattle.std.specs.Prelude.{◌≡◌, eqb, length, get_or}
use Rattle.std.proofs.Math.Path.{refl, ap}
use Rattle.std.proofs.Common.{sym, ◌∙◌, not-suc-le-zero, length-set, get_or-set_same, get_or-set_other}
use Rattle.std.proofs.Math.Bool.{Bool, true, false}
use mathlib.Core.List.{List, [], ◌∷◌, ◌++◌}
use Prim.Native.Nat.{ℕ, zero, suc, ◌+◌, ◌-◌, ◌≤◌, ◌<◌}
use Rattle.std.proofs.Math.Decide.{ℕ_discrete}
use native.Mathlib.Omega.{arith}
use borrow.Author.Tests.{eq-eqb, ne_eqb}
use Rattle.std.proofs.Math.ListN.{set}
use Rattle.spec.specs.Bytes.{Two}
use Rattle.spec.specs.Image.{Tables, children_of, best_member, best_size}
use Rattle.spec.specs.Meaning.{In, here, there}
use Rattle.laws.specs.Valid.{Valid}
use Rattle.laws.specs.BestMembers.{best-in, best-falls, child-within}
use Rattle.best_terms.specs.Reaching.{mark, marks_of, reach_all, reach_in, reach}

-- what visiting a class of size n changes
pub record Reached (t : Tables) (n : ℕ) (m m' : List ℕ) : Type 0 where
  pub long : length m' ≡ length m
  pub more : (d : ℕ) → 0 < get_or m d 0 → 0 < get_or m' d 0
  pub above : (d : ℕ) → n < best_size t d → get_or m' d 0 ≡ get_or m d 0

reached-refl : (t : Tables) (n : ℕ) (m : List ℕ) → Reached t n m m
reached-refl t n m = record { long = refl; more = λ d h. h; above = λ d h. refl }

module _ (t : Tables) (v : Valid t) where
  abbrev kids : ℕ → List Two
  kids c = children_of t (best_member t c)

  kid-within : (c : ℕ) → c < length t.classes → (e : Two) → In e (kids c) → e.0 < length t.classes
  kid-within c h e i = child-within t v (best_member t c) c (best-in t v c h) e i

  -- ---- the definition without its fuel
  all_same : (f g : List ℕ → ℕ → List ℕ) (l : List Two) → ((e : Two) → In e l → (m : List ℕ) → f m e.0 ≡ g m e.0) → (m : List ℕ) → reach_all f m l ≡ reach_all g m l
  unfolding reach_all
  all_same f g [] h m = refl
  all_same f g (e ∷ l) h m = rw (h e here m) (all_same f g l (λ d i. h d (there i)) (g m e.0))

  fuel-same : (f g : ℕ) (m : List ℕ) (c : ℕ) → c < length t.classes → best_size t c ≤ f → best_size t c ≤ g → reach_in f t m c ≡ reach_in g t m c
  unfolding reach_in
  fuel-same zero g m c h a b = let z = (v.best.best_range c h).0 in absurd (omega arith)
  fuel-same (suc f) zero m c h a b = let z = (v.best.best_range c h).0 in absurd (omega arith)
  fuel-same (suc f) (suc g) m c h a b =
      go (eqb (get_or m c 0) 0)
      (all_same (reach_in f t) (reach_in g t) (kids c) (λ e i q. let z = best-falls t v c h e i in fuel-same f g q e.0 (kid-within c h e i) (omega arith) (omega arith)) m)
    where
      by : Bool → List ℕ → List ℕ
      by b k = elim b [ true ↦ set k c 1 | false ↦ m ]

      go : (b : Bool) → reach_all (reach_in f t) m (kids c) ≡ reach_all (reach_in g t) m (kids c) → by b (reach_all (reach_in f t) m (kids c)) ≡ by b (reach_all (reach_in g t) m (kids c))
      go true e = ap (λ (z : List ℕ). set z c 1) e
      go false e = refl

  reach_step : (m : List ℕ) (c : ℕ) → c < length t.classes → get_or m c 0 ≡ 0 → reach t m c ≡ set (reach_all (reach t) m (kids c)) c 1
  unfolding reach_in
  reach_step m c h u =
      let z = (v.best.best_range c h).0 in
      let e : best_size t c ≡ suc (best_size t c - 1) = omega arith in
      rw (e, reach_in, eq-eqb (get_or m c 0) 0 u)
      (ap (λ (k : List ℕ). set k c 1) (all_same (reach_in (best_size t c - 1) t) (reach t) (kids c) (λ d i q. let f = best-falls t v c h d i in fuel-same (best_size t c - 1) (best_size t d.0) q d.0 (kid-within c h d i) (omega arith) (omega arith)) m))

  pub reach-marked : (m : List ℕ) (c : ℕ) → c < length t.classes → 0 < get_or m c 0 → reach t m c ≡ m
  unfolding reach_in
  reach-marked m c h u =
      let z = (v.best.best_range c h).0 in
      let e : best_size t c ≡ suc (best_size t c - 1) = omega arith in
      rw (e, reach_in, ne_eqb (get_or m c 0) 0 (λ q. omega arith)) refl

  -- ---- what a visit changes
  reached-all : (n : ℕ) (l : List Two) → ((e : Two) → In e l → (m : List ℕ) → Reached t n m (reach t m e.0)) → (m : List ℕ) → Reached t n m (reach_all (reach t) m l)
  unfolding reach_all
  reached-all n [] h m = reached-refl t n m
  reached-all n (e ∷ l) h m =
      let A = h e here m in
      let B = reached-all n l (λ d i. h d (there i)) (reach t m e.0) in record {
        long = B.long ∙ A.long;
        more = λ d z. B.more d (A.more d z);
        above = λ d z. B.above d z ∙ A.above d z;
      }

  wider : {n k : ℕ} {m m' : List ℕ} → n ≤ k → Reached t n m m' → Reached t k m m'
  wider h R = record { long = R.long; more = R.more; above = λ d z. R.above d (omega arith) }

  reached-in : (N c : ℕ) → best_size t c ≤ N → c < length t.classes → (m : List ℕ) → Reached t (best_size t c) m (reach t m c)
  reached-in zero c n h m = let z = (v.best.best_range c h).0 in absurd (omega arith)
  reached-in (suc N) c n h m =
      go (ℕ_discrete (get_or m c 0) 0)
      (reached-all (best_size t c) (kids c) (λ e i q. let f = best-falls t v c h e i in wider (omega arith) (reached-in N e.0 (omega arith) (kid-within c h e i) q)) m)
    where
      go : Dec (get_or m c 0 ≡ 0) → Reached t (best_size t c) m (reach_all (reach t) m (kids c)) → Reached t (best_size t c) m (reach t m c)
      go (no u) R = rw (reach-marked m c h (omega arith)) (reached-refl t (best_size t c) m)
      go (yes u) R = rw (reach_step m c h u) (record {
        long = length-set (reach_all (reach t) m (kids c)) c 1 ∙ R.long;
        more = λ d z. rw (get_or-set_other (reach_all (reach t) m (kids c)) c d 1 0 (λ e. omega (arith, ap (λ (i : ℕ). get_or m i 0) e))) (R.more d z);
        above = λ d z. get_or-set_other (reach_all (reach t) m (kids c)) c d 1 0 (λ e. omega (arith, ap (λ (i : ℕ). best_size t i) e)) ∙ R.above d z;
      })

  pub reached : (c : ℕ) → c < length t.classes → (m : List ℕ) → Reached t (best_size t c) m (reach t m c)
  reached c h m = reached-in (best_size t c) c (omega arith) h m

  pub reach-there : (m : List ℕ) (c : ℕ) → c < length t.classes → c < length m → 0 < get_or (reach t m c) c 0
  reach-there m c h k = go (ℕ_discrete (get_or m c 0) 0)
    where
      R : Reached t (best_size t c) m (reach_all (reach t) m (kids c))
      R = reached-all (best_size t c) (kids c) (λ e i q. let f = best-falls t v c h e i in wider (omega arith) (reached e.0 (kid-within c h e i) q)) m

      go : Dec (get_or m c 0 ≡ 0) → 0 < get_or (reach t m c) c 0
      go (no u) = rw (reach-marked m c h (omega arith)) (omega arith)
      go (yes u) = rw (reach_step m c h u, get_or-set_same (reach_all (reach t) m (kids c)) c 1 0 (omega (arith, R.long))) (omega arith)

  -- ---- children that have their marks are passed over
  skip : (es l : List Two) (m : List ℕ) → ((e : Two) → In e es → (e.0 < length t.classes) × (0 < get_or m e.0 0)) → reach_all (reach t) m (es ++ l) ≡ reach_all (reach t) m l
  unfolding reach_all
  skip [] l m h = refl
  skip (e ∷ es) l m h = let (a, b) = h e here in ap (λ (z : List ℕ). reach_all (reach t) z (es ++ l)) (reach-marked m e.0 a b) ∙ skip es l m (λ d i. h d (there i))

  skip_all : (es : List Two) (m : List ℕ) → ((e : Two) → In e es → (e.0 < length t.classes) × (0 < get_or m e.0 0)) → reach_all (reach t) m es ≡ m
  unfolding reach_all
  skip_all [] m h = refl
  skip_all (e ∷ es) m h = let (a, b) = h e here in rw (reach-marked m e.0 a b) (skip_all es m (λ d i. h d (there i)))

  reach-one : (m : List ℕ) (x : Two) (l : List Two) → reach_all (reach t) m (x ∷ l) ≡ reach_all (reach t) (reach t m x.0) l
  unfolding reach_all
  reach-one m x l = refl

  -- a child may be visited first
  pub reach-down : (m : List ℕ) (c : ℕ) → c < length t.classes → get_or m c 0 ≡ 0 → (es ls : List Two) (x : Two) → kids c ≡ es ++ (x ∷ ls) → ((e : Two) → In e es → (e.0 < length t.classes) × (0 < get_or m e.0 0))
      → In x (kids c) → x.0 < length m → reach t m c ≡ reach t (reach t m x.0) c
  reach-down m c h u es ls x s b i k =
      let w = kid-within c h x i in
      let R = reached x.0 w m in
      let u₁ : get_or (reach t m x.0) c 0 ≡ 0 = R.above c (best-falls t v c h x i) ∙ u in
      let m₁ = reach t m x.0 in
      reach_step m c h u
      ∙ ap (λ (z : List ℕ). set z c 1) (ap (reach_all (reach t) m) s ∙ skip es (x ∷ ls) m b ∙ reach-one m x ls)
      ∙ sym
      (reach_step m₁ c h u₁
      ∙ ap (λ (z : List ℕ). set z c 1)
      (ap (reach_all (reach t) m₁) s ∙ skip es (x ∷ ls) m₁ (λ e j. let (p, q) = b e j in (p, R.more e.0 q)) ∙ reach-one m₁ x ls ∙ ap (λ (z : List ℕ). reach_all (reach t) z ls) (reach-marked m₁ x.0 w (reach-there m x.0 w k))))

  -- all children have their marks
  pub reach-built : (m : List ℕ) (c : ℕ) → c < length t.classes → get_or m c 0 ≡ 0 → ((e : Two) → In e (kids c) → 0 < get_or m e.0 0) → reach t m c ≡ set m c 1
  reach-built m c h u b = reach_step m c h u ∙ ap (λ (z : List ℕ). set z c 1) (skip_all (kids c) m (λ e i. (kid-within c h e i, b e i)))

-- ---- marks of kept numbers
pub mark-none : (best : List ℕ) (c : ℕ) → get_or best c 0 ≡ 0 → get_or (marks_of best) c 0 ≡ 0
mark-none [] c e = refl
mark-none (x ∷ l) zero e = rw (eq-eqb x 0 e) refl
mark-none (x ∷ l) (suc c) e = mark-none l c e

pub mark-some : (best : List ℕ) (c : ℕ) → 0 < get_or best c 0 → get_or (marks_of best) c 0 ≡ 1
mark-some [] c h = absurd (not-suc-le-zero h)
mark-some (x ∷ l) zero h = rw (ne_eqb x 0 (λ e. omega arith)) refl
mark-some (x ∷ l) (suc c) h = mark-some l c h

pub marks-set : (best : List ℕ) (c a : ℕ) → marks_of (set best c (a + 1)) ≡ set (marks_of best) c 1
marks-set [] c a = refl
marks-set (x ∷ l) zero a = rw (ne_eqb (a + 1) 0 (λ e. omega arith)) refl
marks-set (x ∷ l) (suc c) a = ap (λ (z : List ℕ). mark x ∷ z) (marks-set l c a)

-- ---- the classes that wait
unfoldable pub reach_on : Tables → List ℕ → List ℕ → List ℕ
unfolding reach_in
reach_on t [] m = m
reach_on t (q ∷ st) m = reach_on t st (reach t m q)

pub reach-on-end : (t : Tables) (m : List ℕ) → reach_on t [] m ≡ m
unfolding reach_on
reach-on-end t m = refl

pub reach-on-next : (t : Tables) (q : ℕ) (st m : List ℕ) → reach_on t (q ∷ st) m ≡ reach_on t st (reach t m q)
unfolding reach_on
reach-on-next t q st m = refl
