-- `evaluate_generalize_action`: "the best term of one class; or the marked place Variants of two best terms".
use Rattle.std.specs.Prelude.{◌≡◌, List, map, ℕ, zero, suc, ◌+◌, ◌<◌, length, get_or, replicate, Option, Some, None}
use Rattle.std.proofs.Math.Path.{refl}
use Rattle.std.proofs.Common.{sym, ap, ap₂, ◌∙◌, not-suc-le-zero, arith, ext_get_or}
use Rattle.std.proofs.Math.Decide.{ℕ_discrete, dec_lt}
use borrow.Author.Tests.{eq-eqb, ne_eqb}
use Rattle.std.proofs.lemmas.List.{length-map}
use Rattle.spec.specs.Bytes.{Limits, Two, up_from, Res, ok, refused, ◌>>=◌}
use Rattle.spec.specs.Image.{Tables}
use Rattle.spec.specs.Pool.{Pool, Node, variants_node, Interned, intern, best_term, starting_term}
use Rattle.laws.specs.Valid.{Valid}
use Rattle.laws.specs.Results.{refused-ok}
use Rattle.pools.specs.Pool.{PoolValid, variants-valid}
use Rattle.pools.specs.PoolIntern.{extends-within}
use Rattle.pools.proofs.PoolIntern.{intern-enters}
use Rattle.terms.specs.Buffers.{pool_of, count_in}
use Rattle.terms.specs.Chains.{Holds}
use Rattle.interning.specs.Interning.{entered_of, pool_after}
use Rattle.interning.specs.Growing.{Grows}
use Rattle.interning.specs.GrowLaws.{grows_then}
use Rattle.best_terms.specs.Reaching.{mark, marks_of, reach, number_of, best_after, bests_after}
use Rattle.best_terms.specs.ReachLaws.{reach-marked, reach-there, mark-none, mark-some}
use Rattle.op_terms.specs.Members.{Gives}
use Rattle.best_terms.specs.Bests.{Kept}
use Rattle.term_clearing.specs.Cleared.{Cleared}
use Rattle.terms.specs.PoolLaws.{pool-length}
use Rattle.best_terms.specs.BestLaws.{best-again}
use Rattle.best_terms.specs.Building.{Builds, Keeps, keeps_then, full-told, term_told, kept-grows, grown-to}

-- The starting term of a pair of classes: entered, or refusal 13 with every number zero.
pub record Starts (lim : Limits) (t : Tables) (c : Two) (terms runs best terms' runs' best' : List ℕ) (r : Option ℕ) : Type 0 where
  pub answer : r ≡ entered_of (starting_term lim t (pool_of terms runs) c)
  pub grows : (a : Interned) → starting_term lim t (pool_of terms runs) c ≡ ok a → Grows terms runs terms' runs' a.pool
  pub best_is : (a : Interned) → starting_term lim t (pool_of terms runs) c ≡ ok a → best' ≡ bests_after lim t a.pool best c
  pub kept : (a : Interned) → starting_term lim t (pool_of terms runs) c ≡ ok a → Kept lim t a.pool best'
  pub cleared : (n : ℕ) → starting_term lim t (pool_of terms runs) c ≡ refused n → Cleared terms runs best terms' runs' best'

-- the same before a refusal clears the buffers
pub record Makes (lim : Limits) (t : Tables) (c : Two) (terms runs best terms' runs' best' : List ℕ) (r : Option ℕ) : Type 0 where
  pub answer : r ≡ entered_of (starting_term lim t (pool_of terms runs) c)
  pub holds : Holds terms' runs'
  pub kept : Kept lim t (pool_of terms' runs') best'
  pub pool : (a : Interned) → starting_term lim t (pool_of terms runs) c ≡ ok a → pool_of terms' runs' ≡ a.pool
  pub grows : Grows terms runs terms' runs' (pool_of terms' runs')
  pub keeps : Keeps t best best'
  pub marks : (a : Interned) → starting_term lim t (pool_of terms runs) c ≡ ok a → marks_of best' ≡ reach t (reach t (marks_of best) c.0) c.1

module _ (lim : Limits) (t : Tables) (p : Pool) (l r : ℕ) where
  starting-same : l ≡ r → starting_term lim t p (l, r) ≡ best_term lim t p l
  unfolding starting_term
  starting-same e = rw (starting_term, eq-eqb l r e) refl

  starting-two : (l ≡ r → ⊥) → starting_term lim t p (l, r) ≡ (best_term lim t p l >>= (λ a. best_term lim t a.pool r >>= (λ b. intern lim b.pool (variants_node a.term b.term))))
  unfolding starting_term
  starting-two d = rw (starting_term, ne_eqb l r d) refl

from-refused : {lim : Limits} {t : Tables} {c : Two} {terms runs best terms' runs' best' : List ℕ} {n : ℕ} → starting_term lim t (pool_of terms runs) c ≡ refused n → Holds terms' runs' → Kept lim t (pool_of terms' runs') best'
    → Grows terms runs terms' runs' (pool_of terms' runs') → Keeps t best best' → Makes lim t c terms runs best terms' runs' best' None
from-refused q h k g s = record { answer = rw q refl; holds = h; kept = k; pool = λ a z. absurd (refused-ok (sym q ∙ z)); grows = g; keeps = s; marks = λ a z. absurd (refused-ok (sym q ∙ z)) }

module _ (lim : Limits) (t : Tables) (terms runs best : List ℕ) (l r : ℕ) (terms₁ runs₁ best₁ : List ℕ) where
  abbrev p : Pool
  p = pool_of terms runs

  pub start-full : Builds lim t terms runs best l terms₁ runs₁ best₁ None → Makes lim t (l, r) terms runs best terms₁ runs₁ best₁ None
  start-full X = let (n, e) = full-told _ X.answer in from-refused {n = n} (go (ℕ_discrete l r) n e) X.holds X.kept X.grows X.keeps
    where
      go : Dec (l ≡ r) → (n : ℕ) → best_term lim t p l ≡ refused n → starting_term lim t p (l, r) ≡ refused n
      go (yes q) n e = starting-same lim t p l r q ∙ e
      go (no q) n e = starting-two lim t p l r q ∙ rw e refl

  module _ (a : ℕ) (X : Builds lim t terms runs best l terms₁ runs₁ best₁ (Some a)) where
    pub start-same : Valid t → l < length t.classes → l < length best → l ≡ r → Makes lim t (l, r) terms runs best terms₁ runs₁ best₁ (Some a)
    start-same v hl hb e = record {
      answer = X.answer ∙ sym (ap entered_of (starting-same lim t p l r e));
      holds = X.holds;
      kept = X.kept;
      pool = λ x q. X.pool x (sym (starting-same lim t p l r e) ∙ q);
      grows = X.grows;
      keeps = X.keeps;
      marks = λ x q. X.marks x (sym (starting-same lim t p l r e) ∙ q) ∙ sym (rw (← e) (reach-marked t v (reach t (marks_of best) l) l hl (reach-there t v (marks_of best) l hl (omega (arith, length-map best mark)))));
    }

    one : (x : Interned) × (best_term lim t p l ≡ ok x) × (x.term ≡ a) × (pool_of terms₁ runs₁ ≡ x.pool)
    one = let (x, e, f) = term_told _ a X.answer in (x, e, f, X.pool x e)

    module _ (d : l ≡ r → ⊥) (terms₂ runs₂ best₂ : List ℕ) where
      pub start-full-second : Builds lim t terms₁ runs₁ best₁ r terms₂ runs₂ best₂ None → Makes lim t (l, r) terms runs best terms₂ runs₂ best₂ None
      start-full-second Y =
          let (x, e, f, g) = one in
          let (n, k) = full-told _ Y.answer in
          let q : best_term lim t x.pool r ≡ refused n = ap (λ (z : Pool). best_term lim t z r) (sym g) ∙ k in
          from-refused {n = n} (starting-two lim t p l r d ∙ rw (e, q) refl) Y.holds Y.kept (grows_then X.grows Y.grows) (keeps_then X.keeps Y.keeps)

      module _ (v : Valid t) (w : PoolValid p) (hl : l < length t.classes) (hr : r < length t.classes) (b : ℕ) (Y : Builds lim t terms₁ runs₁ best₁ r terms₂ runs₂ best₂ (Some b)) where
        two : (y : Interned) × (best_term lim t (pool_of terms₁ runs₁) r ≡ ok y) × (y.term ≡ b) × (pool_of terms₂ runs₂ ≡ y.pool)
        two = let (y, e, f) = term_told _ b Y.answer in (y, e, f, Y.pool y e)

        pub start-within : (a < count_in terms₂) × (b < count_in terms₂)
        start-within =
            let (x, e, f, g) = one in
            let (y, k, m, n) = two in
            let A = best-again lim t v p l x hl w e in
            let B = best-again lim t v (pool_of terms₁ runs₁) r y hr X.holds.valid k in
            let i : x.term < length (pool_of terms₁ runs₁) = omega (arith, A.within, ap length g) in
            (omega (arith, extends-within B.grown x.term i, ap length n, pool-length terms₂ runs₂), omega (arith, B.within, ap length n, pool-length terms₂ runs₂))

        pub start-marked : (terms₃ runs₃ : List ℕ) (o : Option ℕ) → Gives terms₂ runs₂ terms₃ runs₃ (intern lim (pool_of terms₂ runs₂) (variants_node a b)) o → Makes lim t (l, r) terms runs best terms₃ runs₃ best₂ o
        start-marked terms₃ runs₃ o G = record {
          answer = G.answer ∙ sym (ap entered_of is);
          holds = G.holds;
          kept = keeps (intern lim (pool_of terms₂ runs₂) (variants_node a b)) refl;
          pool = λ x q. G.pool ∙ ap (pool_after (pool_of terms₂ runs₂)) (sym is ∙ q);
          grows = grows_then X.grows (grows_then Y.grows (rw (← G.pool) at G.grows));
          keeps = keeps_then X.keeps Y.keeps;
          marks = λ x q. let (y, k, m, n) = two in let (z, e, f, g) = one in Y.marks y k ∙ ap (λ (u : List ℕ). reach t u r) (X.marks z e);
        }
          where
            is : starting_term lim t p (l, r) ≡ intern lim (pool_of terms₂ runs₂) (variants_node a b)
            is =
                let (x, e, f, g) = one in
                let (y, k, m, n) = two in
                let q : best_term lim t x.pool r ≡ ok y = ap (λ (z : Pool). best_term lim t z r) (sym g) ∙ k in
                starting-two lim t p l r d ∙ rw (e, q) refl ∙ ap₂ (λ (z : Pool) (u : Node). intern lim z u) (sym n) (ap₂ variants_node f m)

            keeps : (m : Res Interned) → intern lim (pool_of terms₂ runs₂) (variants_node a b) ≡ m → Kept lim t (pool_of terms₃ runs₃) best₂
            keeps (ok x) e =
                let (i, j) = start-within in
                let N = intern-enters lim (pool_of terms₂ runs₂) (variants_node a b) x Y.holds.valid (variants-valid (length (pool_of terms₂ runs₂)) a b (omega (arith, pool-length terms₂ runs₂)) (omega (arith, pool-length terms₂ runs₂))) e in
                kept-grows lim t v (pool_of terms₂ runs₂) (pool_of terms₃ runs₃) best₂ Y.holds.valid G.holds.valid (grown-to (G.pool ∙ ap (pool_after (pool_of terms₂ runs₂)) e) N.grown) Y.kept
            keeps (refused n) e = rw (G.pool ∙ ap (pool_after (pool_of terms₂ runs₂)) e) Y.kept

-- ---- the kept numbers
up-length : (a n : ℕ) → length (up_from a n) ≡ n
unfolding up_from
up-length a zero = refl
up-length a (suc n) = ap suc (up-length (suc a) n)

up_at : (f : ℕ → ℕ) (a n i : ℕ) → i < n → get_or (map f (up_from a n)) i 0 ≡ f (a + i)
unfolding up_from
up_at f a zero i h = absurd (not-suc-le-zero h)
up_at f a (suc n) zero h = let e : a ≡ a + 0 = omega arith in ap f e
up_at f a (suc n) (suc i) h = let e : suc a + i ≡ a + suc i = omega arith in up_at f (suc a) n i (omega arith) ∙ ap f e

pub bests-are : (lim : Limits) (t : Tables) (p : Pool) (best best' : List ℕ) (c : Two) → length best' ≡ length best → Keeps t best best' → Kept lim t p best' → marks_of best' ≡ reach t (reach t (marks_of best) c.0) c.1 → best' ≡ bests_after lim t p best c
unfolding bests_after
bests-are lim t p best best' c long S K M =
    ext_get_or 0 best' (map (best_after lim t p best c) (up_from 0 (length best))) (long ∙ sym (length-map (up_from 0 (length best)) (best_after lim t p best c) ∙ up-length 0 (length best))) (λ i h. at i (ℕ_discrete (get_or best i 0) 0) (ℕ_discrete (get_or best' i 0) 0) ∙ sym (up_at (best_after lim t p best c) 0 (length best) i (omega arith) ∙ zero-first i))
  where
    zero-first : (i : ℕ) → best_after lim t p best c (0 + i) ≡ best_after lim t p best c i
    zero-first i = let e : 0 + i ≡ i = omega arith in ap (best_after lim t p best c) e

    number : (i : ℕ) → (get_or best i 0 ≡ 0) → (get_or best' i 0 ≡ 0 → ⊥) → Dec (i < length t.classes) → get_or best' i 0 ≡ number_of (best_term lim t p i)
    number i u z (yes h) = rw (K i h (omega arith)) (omega arith)
    number i u z (no h) = absurd (z (S.rest i (omega arith) ∙ u))

    at : (i : ℕ) → Dec (get_or best i 0 ≡ 0) → Dec (get_or best' i 0 ≡ 0) → get_or best' i 0 ≡ best_after lim t p best c i
    at i (no u) z = rw (ne_eqb (get_or best i 0) 0 u) (S.stays i (omega arith))
    at i (yes u) (yes z) = rw (eq-eqb (get_or best i 0) 0 u, ← M, mark-none best' i z) z
    at i (yes u) (no z) = rw (eq-eqb (get_or best i 0) 0 u, ← M, mark-some best' i (omega arith)) (number i u z (dec_lt i (length t.classes)))

-- ---- the ways out
pub starts-cleared : (terms runs best terms₁ runs₁ best₁ : List ℕ) → length terms₁ ≡ length terms → length runs₁ ≡ length runs → length best₁ ≡ length best → (terms₂ runs₂ best₂ : List ℕ) → Cleared terms₁ runs₁ best₁ terms₂ runs₂ best₂ → Cleared terms runs best terms₂ runs₂ best₂
starts-cleared terms runs best terms₁ runs₁ best₁ lt lr lb terms₂ runs₂ best₂ z = (z.0 ∙ ap (λ (k : ℕ). replicate k 0) lt, z.1 ∙ ap (λ (k : ℕ). replicate k 0) lr, z.2 ∙ ap (λ (k : ℕ). replicate k 0) lb)

module _ (lim : Limits) (t : Tables) (c : Two) (terms runs best terms₁ runs₁ best₁ : List ℕ) where
  pub starts-made : (a : ℕ) → length best₁ ≡ length best → Makes lim t c terms runs best terms₁ runs₁ best₁ (Some a) → Starts lim t c terms runs best terms₁ runs₁ best₁ (Some a)
  starts-made a long X =
      let (y, e, f) = term_told _ a X.answer in record {
        answer = X.answer;
        grows = λ x q. rw (← X.pool x q) X.grows;
        best_is = λ x q. bests-are lim t x.pool best best₁ c long X.keeps (rw (X.pool x q) at X.kept) (X.marks x q);
        kept = λ x q. rw (X.pool x q) at X.kept;
        cleared = λ n q. absurd (refused-ok (sym q ∙ e));
      }

  pub starts-full : length terms₁ ≡ length terms → length runs₁ ≡ length runs → length best₁ ≡ length best → Makes lim t c terms runs best terms₁ runs₁ best₁ None
      → (terms₂ runs₂ best₂ : List ℕ) → Cleared terms₁ runs₁ best₁ terms₂ runs₂ best₂ → Starts lim t c terms runs best terms₂ runs₂ best₂ None
  starts-full lt lr lb X terms₂ runs₂ best₂ z =
      let (n, e) = full-told _ X.answer in record {
        answer = X.answer;
        grows = λ x q. absurd (refused-ok (sym e ∙ q));
        best_is = λ x q. absurd (refused-ok (sym e ∙ q));
        kept = λ x q. absurd (refused-ok (sym e ∙ q));
        cleared = λ n q. starts-cleared terms runs best terms₁ runs₁ best₁ lt lr lb terms₂ runs₂ best₂ z;
      }

-- nothing is kept in zeros
pub kept-none : (lim : Limits) (t : Tables) (p : Pool) (n : ℕ) → Kept lim t p (replicate n 0)
kept-none lim t p n c h z = absurd (go n c z)
  where
    go : (n c : ℕ) → 0 < get_or (replicate n 0) c 0 → ⊥
    go zero c z = not-suc-le-zero z
    go (suc n) zero z = not-suc-le-zero z
    go (suc n) (suc c) z = go n c z

-- what is kept stays so while the pool grows
pub kept-later : (lim : Limits) (t : Tables) → Valid t → (best : List ℕ) {terms runs terms' runs' : List ℕ} {p : Pool} → Holds terms runs → Grows terms runs terms' runs' p → Kept lim t (pool_of terms runs) best → Kept lim t (pool_of terms' runs') best
kept-later lim t v best {terms} {runs} {terms'} {runs'} H G K = kept-grows lim t v (pool_of terms runs) (pool_of terms' runs') best H.valid G.holds.valid (grown-to G.pool G.grown) K

bests-length : (lim : Limits) (t : Tables) (p : Pool) (best : List ℕ) (c : Two) → length (bests_after lim t p best c) ≡ length best
unfolding bests_after
bests-length lim t p best c = length-map (up_from 0 (length best)) (best_after lim t p best c) ∙ up-length 0 (length best)

-- what the next starting term asks
pub starts-next : {lim : Limits} {t : Tables} {c : Two} {terms runs best terms' runs' best' : List ℕ} {r : Option ℕ} → Starts lim t c terms runs best terms' runs' best' r → (a : Interned) → starting_term lim t (pool_of terms runs) c ≡ ok a
    → Holds terms' runs' × (length best' ≡ length best) × Kept lim t (pool_of terms' runs') best'
starts-next {lim} {t} {c} {terms} {runs} {best} S a e = ((S.grows a e).holds, ap length (S.best_is a e) ∙ bests-length lim t a.pool best c, rw (S.grows a e).pool (S.kept a e))
