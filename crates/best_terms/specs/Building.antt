-- `build_best_term`: the class at hand, the classes that wait for it, and what is left to do.
use Rattle.std.specs.Prelude.{◌≡◌, refl, ◌⊎◌, ℕ, zero, suc, ◌+◌, ◌*◌, ◌-◌, ◌≤◌, ◌<◌, eqb, get_or, set, take, drop, Option, Some, None}
use Rattle.std.proofs.Common.{sym, ap, ◌∙◌, inl, inr, not-suc-le-zero, eq-or-lt_of_le, eq-eqb, ne_eqb, get_or-set_same, get_or-set_other}
use mathlib.Core.List.{List, [], ◌∷◌, ◌++◌, map}
use Rattle.std.proofs.Math.Decide.{ℕ_discrete}
use native.Mathlib.Omega.{arith}
use Rattle.std.proofs.Math.ListN.{length}
use Rattle.std.proofs.lemmas.List.{length-map}
use Rattle.std.proofs.Math.Seq.{split_at, take-length}
use Rattle.spec.specs.Bytes.{Limits, Two, pick, Res, ok, refused, ◌>>=◌}
use Rattle.spec.specs.Image.{Tables, Lit, arities, kind_of, best_size, children_of, best_member, the_member, the_class, tables_of}
use Rattle.spec.specs.Pool.{Pool, Interned, interned, intern, child_terms, best_term}
use Rattle.spec.specs.Meaning.{In, here, there}
use Rattle.laws.specs.Valid.{Valid}
use Rattle.laws.specs.AcceptedUses.{members_within, children_within, child-of-at, children-length-at}
use Rattle.image.specs.Loaded.{Loaded, the_child, operations-many, classes-many, members-many, children-many}
use Rattle.image.specs.declared.Image.{Image}
use Rattle.laws.specs.Results.{ok-inj, refused-ok}
use Rattle.laws.specs.Lists.{in-nil}
use Rattle.pools.specs.Pool.{PoolValid}
use Rattle.pools.specs.PoolIntern.{Extends, extends-refl}
use Rattle.laws.specs.BestMembers.{best-in, best-falls, child-within, child-counted, member-arity, children-length}
use Rattle.terms.specs.Buffers.{pool_of, count_in}
use Rattle.terms.specs.Chains.{Holds}
use Rattle.interning.specs.Interning.{entered_of, pool_after}
use Rattle.interning.specs.Growing.{Grows}
use Rattle.interning.specs.GrowLaws.{grows_none, grows_then}
use Rattle.best_terms.specs.Reaching.{mark, marks_of, reach}
use Rattle.best_terms.specs.ReachLaws.{reach-marked, reach-down, reach-built, mark-none, mark-some, marks-set, reach_on, reach-on-end, reach-on-next}
use Rattle.op_terms.specs.Members.{Gives, kept_run, member_node, MemberReady}
use Rattle.best_terms.specs.Bests.{Kept}
use Rattle.terms.specs.PoolLaws.{pool-length}
use Rattle.best_terms.specs.BestLaws.{best-again, best-literal, best-node, children-built, down-ok, down-refused, onward, onward-end, onward-down, onward-up, onward-refused}

-- the classes that wait: each is larger than the one before it, and unbuilt
pub data Linked (t : Tables) (best waiting : List ℕ) : ℕ → List ℕ → Type 0 where
  bottom : {c : ℕ} → get_or waiting c 0 ≡ 0 → Linked t best waiting c []
  upper : {c q : ℕ} {st : List ℕ} → get_or waiting c 0 ≡ q + 1 → best_size t c < best_size t q → q < length t.classes → get_or best q 0 ≡ 0 → Linked t best waiting q st → Linked t best waiting c (q ∷ st)

module _ (lim : Limits) (t : Tables) (v : Valid t) where
  -- ---- kept terms
  kept-within : (terms runs best : List ℕ) → Holds terms runs → Kept lim t (pool_of terms runs) best → (c : ℕ) → c < length t.classes → 0 < get_or best c 0 → get_or best c 0 ≤ count_in terms
  kept-within terms runs best H K c h z = omega (arith, (best-again lim t v (pool_of terms runs) c _ h H.valid (K c h z)).within, pool-length terms runs)

  pub kept-grows : (p q : Pool) (best : List ℕ) → PoolValid p → PoolValid q → Extends p q → Kept lim t p best → Kept lim t q best
  kept-grows p q best w y g K c h z = (best-again lim t v p c _ h w (K c h z)).again q g y

  -- the first class that is built of a kept list
  kept_set : (p : Pool) (best : List ℕ) (c a : ℕ) → c < length best → best_term lim t p c ≡ ok (interned p a) → Kept lim t p best → Kept lim t p (set best c (a + 1))
  kept_set p best c a l e K d h z = go (ℕ_discrete d c)
    where
      go : Dec (d ≡ c) → best_term lim t p d ≡ ok (interned p (get_or (set best c (a + 1)) d 0 - 1))
      go (yes q) = let s : a + 1 - 1 ≡ a = omega arith in rw (q, get_or-set_same best c (a + 1) 0 l, s) e
      go (no q) = rw (get_or-set_other best c d (a + 1) 0 q) (K d h (rw (get_or-set_other best c d (a + 1) 0 q) at z))

  -- ---- a class whose children are built
  not-literal : (c : ℕ) → c < length t.classes → (x : Two) → In x (children_of t (best_member t c)) → kind_of t (best_member t c).op ≡ Lit → ⊥
  unfolding arities
  not-literal c h x i k = none (children_of t (best_member t c)) (member-arity t v (best_member t c) c (best-in t v c h) (rw k (λ z. omega arith)) ∙ rw k refl) i
    where
      none : (l : List Two) → length l ≡ 0 → In x l → ⊥
      none [] e i = in-nil i
      none (y ∷ l) e i = omega arith

  pub built-term : (p : Pool) (best : List ℕ) (c : ℕ) → c < length t.classes → Kept lim t p best → ((e : Two) → In e (children_of t (best_member t c)) → 0 < get_or best e.0 0)
      → best_term lim t p c ≡ intern lim p (member_node t best (best_member t c))
  built-term p best c h K b = go (ℕ_discrete (kind_of t (best_member t c).op) Lit)
    where
      all : child_terms (best_term lim t) p (children_of t (best_member t c)) ≡ ok (record { pool = p; runs = map (kept_run best) (children_of t (best_member t c)) })
      all = children-built lim t v p (λ d. get_or best d 0 - 1) (children_of t (best_member t c)) (λ e i. K e.0 (child-within t v (best_member t c) c (best-in t v c h) e i) (b e i))

      go : Dec (kind_of t (best_member t c).op ≡ Lit) → best_term lim t p c ≡ intern lim p (member_node t best (best_member t c))
      go (yes k) = best-literal lim t v p c h k ∙ rw (eq-eqb (kind_of t (best_member t c).op) Lit k) refl
      go (no k) = best-node lim t v p c h k ∙ rw (ne_eqb (kind_of t (best_member t c).op) Lit k, all) refl

  -- ---- the waiting classes are not disturbed
  linked-waiting : (best waiting : List ℕ) (x w c : ℕ) (st : List ℕ) → best_size t x < best_size t c → Linked t best waiting c st → Linked t best (set waiting x w) c st
  linked-waiting best waiting x w c st h (bottom e) = bottom (get_or-set_other waiting x c w 0 (λ z. apart c z h) ∙ e)
    where
      apart : (c : ℕ) → c ≡ x → best_size t x < best_size t c → ⊥
      apart c z h = let y = ap (λ (d : ℕ). best_size t d) z in omega arith
  linked-waiting best waiting x w c st h (upper e l k u r) = upper (get_or-set_other waiting x c w 0 (λ z. apart c z h) ∙ e) l k u (linked-waiting best waiting x w _ _ (omega arith) r)
    where
      apart : (c : ℕ) → c ≡ x → best_size t x < best_size t c → ⊥
      apart c z h = let y = ap (λ (d : ℕ). best_size t d) z in omega arith

  linked-best : (best waiting : List ℕ) (x w c : ℕ) (st : List ℕ) → best_size t x ≤ best_size t c → Linked t best waiting c st → Linked t (set best x w) waiting c st
  linked-best best waiting x w c st h (bottom e) = bottom e
  linked-best best waiting x w c st h (upper {q = q} e l k u r) = upper e l k (get_or-set_other best x q w 0 (λ z. apart z) ∙ u) (linked-best best waiting x w _ _ (omega arith) r)
    where
      apart : q ≡ x → ⊥
      apart z = let y = ap (λ (d : ℕ). best_size t d) z in omega arith

-- ---- how many classes are unbuilt
unfoldable pub zeros : List ℕ → ℕ
zeros [] = 0
zeros (x ∷ l) = pick (eqb x 0) 1 0 + zeros l

pub zeros-set : (l : List ℕ) (i x : ℕ) → i < length l → get_or l i 0 ≡ 0 → (x ≡ 0 → ⊥) → zeros l ≡ suc (zeros (set l i x))
unfolding zeros
zeros-set [] i x h e d = absurd (not-suc-le-zero h)
zeros-set (y ∷ l) zero x h e d = rw (eq-eqb y 0 e, ne_eqb x 0 d) (omega arith)
zeros-set (y ∷ l) (suc i) x h e d = omega (arith, zeros-set l i x (omega arith) e d)

-- what was kept stays, and past the classes nothing changes
pub record Keeps (t : Tables) (best best' : List ℕ) : Type 0 where
  pub stays : (d : ℕ) → 0 < get_or best d 0 → get_or best' d 0 ≡ get_or best d 0
  pub rest : (d : ℕ) → length t.classes ≤ d → get_or best' d 0 ≡ get_or best d 0

pub keeps-refl : (t : Tables) (best : List ℕ) → Keeps t best best
keeps-refl t best = record { stays = λ d h. refl; rest = λ d h. refl }

pub keeps_then : {t : Tables} {best best₁ best₂ : List ℕ} → Keeps t best best₁ → Keeps t best₁ best₂ → Keeps t best best₂
keeps_then K L = record { stays = λ d h. L.stays d (rw (K.stays d h) h) ∙ K.stays d h; rest = λ d h. L.rest d h ∙ K.rest d h }

keeps-set : (t : Tables) (best best₁ : List ℕ) (c x : ℕ) → c < length t.classes → get_or best₁ c 0 ≡ 0 → Keeps t best best₁ → Keeps t best (set best₁ c x)
keeps-set t best best₁ c x h u K = record {
  stays = λ d z. get_or-set_other best₁ c d x 0 (λ e. omega (arith, ap (λ (i : ℕ). get_or best₁ i 0) e, K.stays d z)) ∙ K.stays d z;
  rest = λ d z. get_or-set_other best₁ c d x 0 (λ e. omega arith) ∙ K.rest d z;
}

-- ---- the state of the walk
pub record Walk (lim : Limits) (t : Tables) (terms₀ runs₀ best₀ : List ℕ) (class : ℕ) (terms runs best waiting : List ℕ) (c : ℕ) : Type 0 where
  pub stack : List ℕ
  pub holds : Holds terms runs
  pub kept : Kept lim t (pool_of terms runs) best
  pub within : c < length t.classes
  pub unbuilt : get_or best c 0 ≡ 0
  pub linked : Linked t best waiting c stack
  pub same : best_term lim t (pool_of terms₀ runs₀) class ≡ (best_term lim t (pool_of terms runs) c >>= onward lim t stack)
  pub grows : Grows terms₀ runs₀ terms runs (pool_of terms runs)
  pub keeps : Keeps t best₀ best
  pub marks : reach t (marks_of best₀) class ≡ reach_on t stack (reach t (marks_of best) c)

shift : (lim : Limits) (t : Tables) (c : ℕ) {x y : Pool} {a b : ℕ} → y ≡ x → b ≡ a → best_term lim t x c ≡ ok (interned x b) → best_term lim t y c ≡ ok (interned y a)
shift lim t c e f h = rw (e, ← f) h

pub grown-to : {x y z : Pool} → y ≡ z → Extends x z → Extends x y
grown-to e g = rw e g

-- what `build_best_term` gives
pub record Builds (lim : Limits) (t : Tables) (terms₀ runs₀ best₀ : List ℕ) (class : ℕ) (terms' runs' best' : List ℕ) (r : Option ℕ) : Type 0 where
  pub answer : r ≡ entered_of (best_term lim t (pool_of terms₀ runs₀) class)
  pub holds : Holds terms' runs'
  pub kept : Kept lim t (pool_of terms' runs') best'
  pub pool : (a : Interned) → best_term lim t (pool_of terms₀ runs₀) class ≡ ok a → pool_of terms' runs' ≡ a.pool
  pub grows : Grows terms₀ runs₀ terms' runs' (pool_of terms' runs')
  pub keeps : Keeps t best₀ best'
  pub marks : (a : Interned) → best_term lim t (pool_of terms₀ runs₀) class ≡ ok a → marks_of best' ≡ reach t (marks_of best₀) class

pub full-told : (m : Res Interned) → None ≡ entered_of m → (n : ℕ) × (m ≡ refused n)
full-told (ok r) e = let z : ◌≡◌ {A = ℕ} 0 1 = cc in absurd (omega arith)
full-told (refused n) e = (n, refl)

pub term_told : (m : Res Interned) (a : ℕ) → Some a ≡ entered_of m → (r : Interned) × (m ≡ ok r) × (r.term ≡ a)
term_told (ok r) a e = (r, refl, cc)
term_told (refused n) a e = let z : ◌≡◌ {A = ℕ} 0 1 = cc in absurd (omega arith)

pub walk_start : (lim : Limits) (t : Tables) (class : ℕ) (terms runs best : List ℕ) → Holds terms runs → Kept lim t (pool_of terms runs) best → class < length t.classes → get_or best class 0 ≡ 0
    → (waiting : List ℕ) → get_or waiting class 0 ≡ 0 → Walk lim t terms runs best class terms runs best waiting class
walk_start lim t class terms runs best H K h u waiting z = record { stack = []; holds = H; kept = K; within = h; unbuilt = u; linked = bottom z; same = sym (onward-end lim t (best_term lim t (pool_of terms runs) class)); grows = grows_none terms runs H; keeps = keeps-refl t best; marks = sym (reach-on-end t (reach t (marks_of best) class)) }

-- child number i of the class at hand, all earlier ones built
split-kids : (l : List Two) (i : ℕ) → i < length l → l ≡ take i l ++ (get_or l i (0, 0) ∷ drop (suc i) l)
split-kids l i h = split_at l i (0, 0) h

in_take : (l : List Two) (i : ℕ) (e : Two) → In e (take i l) → (j : ℕ) × (j < i) × (e ≡ get_or l j (0, 0))
in_take [] zero e q = absurd (in-nil q)
in_take [] (suc i) e q = absurd (in-nil q)
in_take (x ∷ l) zero e q = absurd (in-nil q)
in_take (x ∷ l) (suc i) e (here {l = m}) = (0, omega arith, refl)
in_take (x ∷ l) (suc i) e (there {l = m} q) = let (j, h, r) = in_take l i e q in (suc j, omega arith, r)

in_all : (l : List Two) (i : ℕ) (e : Two) → In e (take i l) → In e l
in_all [] zero e q = q
in_all [] (suc i) e q = q
in_all (x ∷ l) zero e q = absurd (in-nil q)
in_all (x ∷ l) (suc i) e (here {l = m}) = here
in_all (x ∷ l) (suc i) e (there {l = m} q) = there (in_all l i e q)

in-child : (l : List Two) (i : ℕ) → i < length l → In (get_or l i (0, 0)) l
in-child [] i h = absurd (not-suc-le-zero h)
in-child (x ∷ l) zero h = here
in-child (x ∷ l) (suc i) h = there (in-child l i (omega arith))

module _ (lim : Limits) (t : Tables) (v : Valid t) (terms₀ runs₀ best₀ : List ℕ) (class : ℕ) (terms runs best waiting : List ℕ) (c : ℕ) (W : Walk lim t terms₀ runs₀ best₀ class terms runs best waiting c) where
  abbrev L : List Two
  L = children_of t (best_member t c)

  -- the inner loop is left for the outer one: child i is still unbuilt
  pub walk-down : (i x : ℕ) → i < length L → x ≡ (get_or L i (0, 0)).0 → ((j : ℕ) → j < i → 0 < get_or best (get_or L j (0, 0)).0 0) → get_or best x 0 ≡ 0 → x < length waiting → x < length best → Walk lim t terms₀ runs₀ best₀ class terms runs best (set waiting x (c + 1)) x
  walk-down i x h e b u l lb = record {
    stack = c ∷ W.stack;
    holds = W.holds;
    kept = W.kept;
    within = rw e (child-within t v (best_member t c) c (best-in t v c W.within) (get_or L i (0, 0)) (in-child L i h));
    unbuilt = u;
    linked = upper (get_or-set_same waiting x (c + 1) 0 l) falls W.within W.unbuilt (linked-waiting lim t v best waiting x (c + 1) c W.stack falls W.linked);
    same = W.same ∙ onward-down lim t (pool_of terms runs) c x W.stack (λ a q. down-ok lim t v (pool_of terms runs) W.holds.valid (get_or L i (0, 0)) inside T c W.within plain (take i L) (drop (suc i) L) (split-kids L i h) built a (rw e at q)) (λ n q. down-refused lim t v (pool_of terms runs) W.holds.valid (get_or L i (0, 0)) inside T c W.within plain (take i L) (drop (suc i) L) (split-kids L i h) built n (rw e at q));
    grows = W.grows;
    keeps = W.keeps;
    marks = W.marks ∙ ap (reach_on t W.stack) first ∙ sym (reach-on-next t c W.stack (reach t (marks_of best) x));
  }
    where
      T : ℕ → ℕ
      T d = get_or best d 0 - 1

      falls : best_size t x < best_size t c
      falls = rw e (best-falls t v c W.within (get_or L i (0, 0)) (in-child L i h))

      inside : (get_or L i (0, 0)).0 < length t.classes
      inside = child-within t v (best_member t c) c (best-in t v c W.within) (get_or L i (0, 0)) (in-child L i h)

      plain : kind_of t (best_member t c).op ≡ Lit → ⊥
      plain = not-literal lim t v c W.within (get_or L i (0, 0)) (in-child L i h)

      built : (d : Two) → In d (take i L) → (d.0 < length t.classes) × (best_term lim t (pool_of terms runs) d.0 ≡ ok (interned (pool_of terms runs) (T d.0)))
      built d q =
          let (j, k, r) = in_take L i d q in
          let w : d.0 < length t.classes = child-within t v (best_member t c) c (best-in t v c W.within) d (in_all L i d q) in
          (w, W.kept d.0 w (rw r (b j k)))

      fits : (get_or L i (0, 0)).0 < length (marks_of best)
      fits = omega (arith, e, lb, length-map best mark)

      first : reach t (marks_of best) c ≡ reach t (reach t (marks_of best) x) c
      first = rw e (reach-down t v (marks_of best) c W.within (mark-none best c W.unbuilt) (take i L) (drop (suc i) L) (get_or L i (0, 0)) (split-kids L i h) (λ d q. let (j, k, r) = in_take L i d q in ((built d q).0, omega (arith, mark-some best d.0 (rw r (b j k))))) (in-child L i h) fits)

  -- ---- the class at hand is built
  pub walk-ready : (n : ℕ) → n ≡ length best → length t.classes ≤ n → (the_class t c).best < length t.members → ((e : Two) → In e L → 0 < get_or best e.0 0) → MemberReady t best (count_in terms) (the_class t c).best
  walk-ready n en hn hm b = record {
    many = children-length t v (best_member t c) c (best-in t v c W.within);
    few = v.spans.few_own_children (the_class t c).best hm;
    classes = λ e i. let z = child-within t v (best_member t c) c (best-in t v c W.within) e i in omega arith;
    counted = child-counted t v (best_member t c) c (best-in t v c W.within);
    built = λ e i. (b e i, kept-within lim t v terms runs best W.holds W.kept e.0 (child-within t v (best_member t c) c (best-in t v c W.within) e i) (b e i));
  }

  all-built : (n : ℕ) → length L ≤ n → ((j : ℕ) → j < n → 0 < get_or best (get_or L j (0, 0)).0 0) → (e : Two) → In e L → 0 < get_or best e.0 0
  all-built n h b e i = let (j, k, r) = in_take L (length L) e (rw (← take-length L) at i) in rw r (b j (omega arith))

  module _ (b : (e : Two) → In e L → 0 < get_or best e.0 0) (terms' runs' : List ℕ) where
    is-intern : best_term lim t (pool_of terms runs) c ≡ intern lim (pool_of terms runs) (member_node t best (best_member t c))
    is-intern = built-term lim t v (pool_of terms runs) best c W.within W.kept b

    now-grows : {r : Option ℕ} → Gives terms runs terms' runs' (intern lim (pool_of terms runs) (member_node t best (best_member t c))) r → Grows terms₀ runs₀ terms' runs' (pool_of terms' runs')
    now-grows G = grows_then W.grows (rw (← G.pool) at G.grows)

    pub walk-full : Gives terms runs terms' runs' (intern lim (pool_of terms runs) (member_node t best (best_member t c))) None → Builds lim t terms₀ runs₀ best₀ class terms' runs' best None
    walk-full G =
        let (n, e) = full-told _ G.answer in
        let q : best_term lim t (pool_of terms₀ runs₀) class ≡ refused n = W.same ∙ onward-refused lim t (pool_of terms runs) c W.stack n (is-intern ∙ e) in record {
          answer = rw q refl;
          holds = G.holds;
          kept = rw (G.pool ∙ ap (pool_after (pool_of terms runs)) e) W.kept;
          pool = λ a z. absurd (refused-ok (sym q ∙ z));
          grows = now-grows G;
          keeps = W.keeps;
          marks = λ a z. absurd (refused-ok (sym q ∙ z));
        }

    module _ (a : ℕ) (fits : c < length best) (G : Gives terms runs terms' runs' (intern lim (pool_of terms runs) (member_node t best (best_member t c))) (Some a)) where
      told : (r : Interned) × (best_term lim t (pool_of terms runs) c ≡ ok r) × (r.term ≡ a) × (pool_of terms' runs' ≡ r.pool)
      told = let (r, e, f) = term_told _ a G.answer in (r, is-intern ∙ e, f, G.pool ∙ ap (pool_after (pool_of terms runs)) e)

      done-again : best_term lim t (pool_of terms' runs') c ≡ ok (interned (pool_of terms' runs') a)
      done-again =
          let (r, e, f, g) = told in
          let A = best-again lim t v (pool_of terms runs) c r W.within W.holds.valid e in
          shift lim t c g f (A.again r.pool (extends-refl r.pool) A.valid)

      done-kept : Kept lim t (pool_of terms' runs') (set best c (a + 1))
      done-kept =
          let (r, e, f, g) = told in
          let A = best-again lim t v (pool_of terms runs) c r W.within W.holds.valid e in
          kept_set lim t v (pool_of terms' runs') best c a fits done-again (kept-grows lim t v (pool_of terms runs) (pool_of terms' runs') best W.holds.valid G.holds.valid (grown-to g A.grown) W.kept)

      pub done-small : a < 16384
      done-small = let (r, e, f, g) = told in omega (arith, (best-again lim t v (pool_of terms runs) c r W.within W.holds.valid e).within, ap length g, pool-length terms' runs', G.holds.few)

      done-keeps : Keeps t best₀ (set best c (a + 1))
      done-keeps = keeps-set t best₀ best c (a + 1) W.within W.unbuilt W.keeps

      done-marks : marks_of (set best c (a + 1)) ≡ reach t (marks_of best) c
      done-marks = marks-set best c a ∙ sym (reach-built t v (marks_of best) c W.within (mark-none best c W.unbuilt) (λ e i. omega (arith, mark-some best e.0 (b e i))))

      pub walk_end : get_or waiting c 0 ≡ 0 → Builds lim t terms₀ runs₀ best₀ class terms' runs' (set best c (a + 1)) (Some a)
      walk_end z = go W.stack W.linked W.same W.marks
        where
          go : (st : List ℕ) → Linked t best waiting c st → best_term lim t (pool_of terms₀ runs₀) class ≡ (best_term lim t (pool_of terms runs) c >>= onward lim t st) → reach t (marks_of best₀) class ≡ reach_on t st (reach t (marks_of best) c) → Builds lim t terms₀ runs₀ best₀ class terms' runs' (set best c (a + 1)) (Some a)
          go st (bottom y) s ms =
              let (r, e, f, g) = told in
              let q : best_term lim t (pool_of terms₀ runs₀) class ≡ ok r = s ∙ onward-end lim t (best_term lim t (pool_of terms runs) c) ∙ e in record {
                answer = rw (q, f) refl;
                holds = G.holds;
                kept = done-kept;
                pool = λ x y. g ∙ ap (λ (i : Interned). i.pool) (ok-inj (sym q ∙ y));
                grows = now-grows G;
                keeps = done-keeps;
                marks = λ x y. done-marks ∙ sym (ms ∙ reach-on-end t (reach t (marks_of best) c));
              }
          go st (upper y l k u m) s ms = absurd (omega arith)

      pub walk_up : (q : ℕ) → get_or waiting c 0 ≡ q + 1 → Walk lim t terms₀ runs₀ best₀ class terms' runs' (set best c (a + 1)) waiting q
      walk_up q z = go W.stack W.linked W.same W.marks
        where
          go : (st : List ℕ) → Linked t best waiting c st → best_term lim t (pool_of terms₀ runs₀) class ≡ (best_term lim t (pool_of terms runs) c >>= onward lim t st) → reach t (marks_of best₀) class ≡ reach_on t st (reach t (marks_of best) c) → Walk lim t terms₀ runs₀ best₀ class terms' runs' (set best c (a + 1)) waiting q
          go st (bottom y) s ms = absurd (omega arith)
          go st (upper {q = x} {st = m} y l k u n) s ms =
              let (r, e, f, g) = told in
              let same : x ≡ q = omega arith in
              let apart : x ≡ c → ⊥ = λ w. smaller x w l in
              rw (← same) (record {
                stack = m;
                holds = G.holds;
                kept = done-kept;
                within = k;
                unbuilt = get_or-set_other best c x (a + 1) 0 apart ∙ u;
                linked = linked-best lim t v best waiting c (a + 1) x m (omega arith) n;
                same = s ∙ onward-up lim t (pool_of terms runs) c x m r e ∙ ap (λ (w : Pool). best_term lim t w x >>= onward lim t m) (sym g);
                grows = now-grows G;
                keeps = done-keeps;
                marks = ms ∙ reach-on-next t x m (reach t (marks_of best) c) ∙ ap (λ (z : List ℕ). reach_on t m (reach t z x)) (sym done-marks);
              })
            where
              smaller : (x : ℕ) → x ≡ c → best_size t c < best_size t x → ⊥
              smaller x w l = let d = ap (λ (i : ℕ). best_size t i) w in omega arith

-- ---- a turn of the code: member m of class c, its n children from child k on
module _ (lim : Limits) (s : List ℕ) (im : Image) (Ld : Loaded s im) (v : Valid (tables_of s)) (terms₀ runs₀ best₀ : List ℕ) (class : ℕ) (terms runs best waiting : List ℕ) (c : ℕ) (W : Walk lim (tables_of s) terms₀ runs₀ best₀ class terms runs best waiting c) (lb : length best ≡ 256) where
  abbrev t : Tables
  t = tables_of s

  pub turn-class : c < im.classes
  turn-class = omega (arith, W.within, classes-many s im Ld)

  pub turn-fits : c < 256
  turn-fits = omega (arith, W.within, v.counts.few_classes)

  best-there : (the_class t c).best < length t.members
  best-there = let (a, b) = v.best.best_within c W.within in omega (arith, members_within t v c W.within)

  module _ (m : ℕ) (em : m ≡ (the_class t c).best) where
    pub turn-member : m < im.members
    turn-member = omega (arith, best-there, members-many s im Ld)

    module _ (k n : ℕ) (ek : k ≡ (the_member t m).first) (en : n ≡ (the_member t m).count) where
      abbrev K : List Two
      K = children_of t (best_member t c)

      kid : (i : ℕ) → i < n → get_or K i (0, 0) ≡ the_child t (k + i)
      kid i h = rw (ek, em) (child-of-at t v (the_class t c).best i (0, 0) (omega (arith, en, ap (λ (z : ℕ). (the_member t z).count) em)))

      long : length K ≡ n
      long = children-length-at t v (the_class t c).best best-there ∙ ap (λ (z : ℕ). (the_member t z).count) (sym em) ∙ sym en

      pub turn-child : (i : ℕ) → i < n → k + i < im.children
      turn-child i h = omega (arith, children_within t v (the_class t c).best best-there, children-many s im Ld, en, ek, ap (λ (z : ℕ). (the_member t z).count) em, ap (λ (z : ℕ). (the_member t z).first) em)

      pub turn_inside : (i : ℕ) → i < n → (the_child t (k + i)).0 < 256
      turn_inside i h = omega (arith, ap (λ (e : Two). e.0) (kid i h), child-within t v (best_member t c) c (best-in t v c W.within) (get_or K i (0, 0)) (in-child K i (omega (arith, long))), v.counts.few_classes)

      before : (i : ℕ) → i ≤ n → ((j : ℕ) → j < i → 0 < get_or best (the_child t (k + j)).0 0) → (j : ℕ) → j < i → 0 < get_or best (get_or K j (0, 0)).0 0
      before i h b j l = rw (kid j (omega arith)) (b j l)

      whole : ((j : ℕ) → j < n → 0 < get_or best (the_child t (k + j)).0 0) → (e : Two) → In e K → 0 < get_or best e.0 0
      whole b = all-built lim t v terms₀ runs₀ best₀ class terms runs best waiting c W n (omega (arith, long)) (before n (omega arith) b)

      pub turn-ready : ((j : ℕ) → j < n → 0 < get_or best (the_child t (k + j)).0 0) → ((the_member t m).op < im.operations) × (im.operations ≤ 64) × MemberReady t best (count_in terms) m
      turn-ready b = (
        omega (arith, v.spans.operation_within (the_class t c).best best-there, operations-many s im Ld, ap (λ (z : ℕ). (the_member t z).op) em),
        omega (arith, v.counts.few_operations, operations-many s im Ld),
        rw em (walk-ready lim t v terms₀ runs₀ best₀ class terms runs best waiting c W 256 (sym lb) v.counts.few_classes best-there (whole b)),
      )

      pub turn-falls : (i d : ℕ) → i < n → d ≡ (the_child t (k + i)).0 → best_size t d < best_size t c
      turn-falls i d h e = rw (e ∙ ap (λ (z : Two). z.0) (sym (kid i h))) (best-falls t v c W.within (get_or K i (0, 0)) (in-child K i (omega (arith, long))))

      pub turn-down : (i d : ℕ) → i < n → d ≡ (the_child t (k + i)).0 → ((j : ℕ) → j < i → 0 < get_or best (the_child t (k + j)).0 0) → get_or best d 0 ≡ 0 → d < length waiting → Walk lim t terms₀ runs₀ best₀ class terms runs best (set waiting d (c + 1)) d
      turn-down i d h e b u l = walk-down lim t v terms₀ runs₀ best₀ class terms runs best waiting c W i d (omega (arith, long)) (e ∙ ap (λ (z : Two). z.0) (sym (kid i h))) (before i (omega arith) b) u l (omega (arith, turn_inside i h, ap (λ (z : ℕ). z) e))

      module _ (b : (j : ℕ) → j < n → 0 < get_or best (the_child t (k + j)).0 0) (terms' runs' : List ℕ) where
        pub turn-full : Gives terms runs terms' runs' (intern lim (pool_of terms runs) (member_node t best (the_member t m))) None → Builds lim t terms₀ runs₀ best₀ class terms' runs' best None
        turn-full G = walk-full lim t v terms₀ runs₀ best₀ class terms runs best waiting c W (whole b) terms' runs' (rw em at G)

        module _ (a : ℕ) (G : Gives terms runs terms' runs' (intern lim (pool_of terms runs) (member_node t best (the_member t m))) (Some a)) where
          fits : c < length best
          fits = omega (arith, turn-fits)

          pub turn_small : a < 16384
          turn_small = done-small lim t v terms₀ runs₀ best₀ class terms runs best waiting c W (whole b) terms' runs' a fits (rw em at G)

          pub turn_end : get_or waiting c 0 ≡ 0 → Builds lim t terms₀ runs₀ best₀ class terms' runs' (set best c (a + 1)) (Some a)
          turn_end z = walk_end lim t v terms₀ runs₀ best₀ class terms runs best waiting c W (whole b) terms' runs' a fits (rw em at G) z

          pub turn_up : (q : ℕ) → get_or waiting c 0 ≡ q + 1 → Walk lim t terms₀ runs₀ best₀ class terms' runs' (set best c (a + 1)) waiting q
          turn_up q z = walk_up lim t v terms₀ runs₀ best₀ class terms runs best waiting c W (whole b) terms' runs' a fits (rw em at G) q z

          -- one class fewer is unbuilt, and sizes stay below the weight
          pub turn-less : (q : ℕ) → q < length t.classes → zeros (set best c (a + 1)) * 2147483647 + best_size t q < zeros best * 2147483647 + best_size t c
          turn-less q h = omega (arith, zeros-set best c (a + 1) fits W.unbuilt (λ e. omega arith), (v.best.best_range q h).1)

pub more-built : (best : List ℕ) (t : Tables) (k i d : ℕ) → d ≡ (the_child t (k + i)).0 → 0 < get_or best d 0 → ((j : ℕ) → j < i → 0 < get_or best (the_child t (k + j)).0 0) → (j : ℕ) → j < i + 1 → 0 < get_or best (the_child t (k + j)).0 0
more-built best t k i d e h b j l = go (eq-or-lt_of_le {n = j} {m = i} (omega arith))
  where
    go : (j ≡ i) ⊎ (j < i) → 0 < get_or best (the_child t (k + j)).0 0
    go (inl q) = rw (q, ← e) h
    go (inr q) = b j q

-- a class that is built already
pub walk_kept : (lim : Limits) (t : Tables) (terms runs best : List ℕ) (c : ℕ) → Holds terms runs → Kept lim t (pool_of terms runs) best → c < length t.classes → 0 < get_or best c 0
    → (b : ℕ) → b ≡ get_or best c 0 → Valid t → Builds lim t terms runs best c terms runs best (Some (b - 1))
walk_kept lim t terms runs best c H K h z b e v =
    let q = K c h z in record {
      answer = rw (q, e) refl;
      holds = H;
      kept = K;
      pool = λ a y. ap (λ (i : Interned). i.pool) (ok-inj (sym q ∙ y));
      grows = grows_none terms runs H;
      keeps = keeps-refl t best;
      marks = λ a y. sym (reach-marked t v (marks_of best) c h (omega (arith, mark-some best c z)));
    }
