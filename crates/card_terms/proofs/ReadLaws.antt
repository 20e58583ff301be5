-- The loop over a text's marks.
use Rattle.std.specs.Prelude.{◌≡◌, refl, ◌≢◌, Bool, leb, get_or, drop, Option, Some, None}
use Rattle.std.proofs.Math.Path.{sym, ap}
use Rattle.std.proofs.Common.{◌∙◌, arith, drop-cons}
use Rattle.std.proofs.Math.Bool.{true, false}
use mathlib.Core.List.{List, [], ◌∷◌}
use Prim.Native.Nat.{ℕ, zero, suc, ◌+◌, ◌-◌, ◌≤◌, ◌<◌}
use Rattle.std.proofs.Math.ListN.{length}
use Rattle.spec.specs.Bytes.{Limits, Two, Res, ok, refused}
use Rattle.spec.specs.Pool.{Pool, Node, Interned, intern, op_node, lit_node}
use Rattle.laws.specs.Results.{refused-ok, ok-inj, bind_ok}
use Rattle.laws.specs.Tests.{both_true}
use Rattle.terms.specs.Buffers.{pool_of}
use Rattle.interning.specs.Growing.{Grows}
use Rattle.interning.specs.GrowLaws.{grows_then, grows_none}
use Rattle.formula.specs.Card as card
use Rattle.formula.specs.Card.{Tree, Trees, lit, two, many, none, also, operations, prec_of, left_level, proper_mark}
use Rattle.formula.specs.Reader.{read_marks}
use Rattle.formula.specs.Lexer.{mark_at, stands_at, is_nil, before, cut, read_text, marked_node}
use Rattle.formula_laws.specs.Lexing.{of-proper}
use Rattle.card_cut.specs.Cutting.{mark_of, Cuts}
use Rattle.card_cut.specs.CutLaws.{mark-behind, mark-cut, nothing-cut, all-cut}
use Rattle.card_cut.specs.declared.Mark.{Mark}
use Rattle.card_terms.specs.Words.{Reached, whole, full, stuck, ◌>>=◌, reached_by, intern_at, enter_at, enter_all_at, enter_read, enter_text, Word, bracket, list_head, marked_head, left_child, child, Stack, on_top, intern_on, reduce_on, reduce_top, turn_left, close_on, shut_on, step_on, only_term, run_on, word_of, words_in}
use Rattle.card_terms.specs.Reading.{Known, Topped, Standing, Steps, Ends, Reads}
use Rattle.card_terms.specs.StandLaws.{word-child}
use Rattle.card_terms.specs.StepLaws.{not_stuck, topped-of, turn-some}
use Rattle.card_terms.proofs.StackLaws.{marks-enter}

-- ---- the operations of left children stay the table's
module _ (t : List ℕ) where
  abbrev pub KnownAt : Reached Stack → Type 0
  KnownAt (whole s) = Known t s.1
  KnownAt (full p) = Unit
  KnownAt stuck = Unit

  known-bind : {A : Type 0} (m : Reached A) (f : A → Reached Stack) → ((a : A) → KnownAt (f a)) → KnownAt (m >>= f)
  known-bind (whole a) f h = h a
  known-bind (full p) f h = tt
  known-bind stuck f h = tt

  known-then : (m : Reached Stack) (f : Stack → Reached Stack) → KnownAt m → ((s : Stack) → Known t s.1 → KnownAt (f s)) → KnownAt (m >>= f)
  known-then (whole a) f k h = h a k
  known-then (full p) f k h = tt
  known-then stuck f k h = tt

  known_on : (lim : Limits) (p : Pool) (n : Node) (w : List Word) → Known t w → KnownAt (intern_on lim p n w)
  unfolding Known
  known_on lim p n w k = known-bind (intern_at lim p n) (on_top w) (λ x. (tt, k))

  known-reduce : (lim : Limits) (m : ℕ) (w : List Word) (p : Pool) (c : ℕ) → Known t w → KnownAt (reduce_on lim t m p c w)
  unfolding Known reduce_on
  known-reduce lim m [] p c k = (tt, tt)
  known-reduce lim m (bracket ∷ w) p c k = (tt, k)
  known-reduce lim m (list_head o ∷ w) p c k = (tt, k)
  known-reduce lim m (marked_head ∷ w) p c k = (tt, k)
  known-reduce lim m (child b ∷ w) p c k = (tt, k)
  known-reduce lim m (left_child b o ∷ w) p c k = go (leb m (prec_of t o)) (λ q x. known-reduce lim m w q x k.1)
    where
      go : (z : Bool) → ((q : Pool) (x : ℕ) → KnownAt (reduce_on lim t m q x w))
          → KnownAt (elim z as (λ _. Reached Stack) [ true ↦ (intern_at lim p (op_node o ((b, 1) ∷ (c, 1) ∷ [])) >>= λ x. reduce_on lim t m x.pool x.term w) | false ↦ whole (p, child c ∷ left_child b o ∷ w) ])
      go true ih = known-bind (intern_at lim p (op_node o ((b, 1) ∷ (c, 1) ∷ []))) _ (λ x. ih x.pool x.term)
      go false ih = (tt, k)

  known-top : (lim : Limits) (m : ℕ) (p : Pool) (w : List Word) → Known t w → KnownAt (reduce_top lim t m p w)
  unfolding Known reduce_top
  known-top lim m p [] k = tt
  known-top lim m p (bracket ∷ w) k = k
  known-top lim m p (list_head o ∷ w) k = k
  known-top lim m p (marked_head ∷ w) k = k
  known-top lim m p (left_child b o ∷ w) k = tt
  known-top lim m p (child c ∷ w) k = known-reduce lim m w p c k.1

  known-close : (lim : Limits) (p : Pool) (w : List Word) (l : List Two) → Known t w → KnownAt (close_on lim p w l)
  unfolding Known close_on
  known-close lim p [] l k = tt
  known-close lim p (bracket ∷ w) l k = tt
  known-close lim p (list_head o ∷ w) l k = known_on lim p (op_node o l) w k.1
  known-close lim p (marked_head ∷ w) l k = known_on lim p (marked_node l) w k.1
  known-close lim p (left_child b o ∷ w) l k = tt
  known-close lim p (child c ∷ w) l k = known-close lim p w ((c, 1) ∷ l) k.1

  known-turn : (o : ℕ) → o < operations t → (s : Stack) → Known t s.1 → KnownAt (turn_left o s)
  unfolding Known turn_left
  known-turn o h (p, []) k = tt
  known-turn o h (p, bracket ∷ w) k = tt
  known-turn o h (p, list_head q ∷ w) k = tt
  known-turn o h (p, marked_head ∷ w) k = tt
  known-turn o h (p, left_child b q ∷ w) k = tt
  known-turn o h (p, child c ∷ w) k = (h, k.1)

  known-shut : (s : Stack) → Known t s.1 → KnownAt (shut_on s)
  unfolding Known shut_on
  known-shut (p, []) k = tt
  known-shut (p, x ∷ []) k = tt
  known-shut (p, x ∷ y ∷ w) k = (k.0, k.1.1)

  pub known_step : (lim : Limits) (p : Pool) (w : List Word) (c : card.Mark) → proper_mark t c ≡ true → Known t w → KnownAt (step_on lim t (p, w) c)
  unfolding Known step_on proper_mark
  known_step lim p w (card.literal v o) e k = known_on lim p (lit_node o v) w k
  known_step lim p w (card.between o) e k = known-then (reduce_top lim t (left_level t (prec_of t o)) p w) (turn_left o) (known-top lim (left_level t (prec_of t o)) p w k) (known-turn o (of-proper t o e).known)
  known_step lim p w (card.list o) e k = (tt, k)
  known_step lim p w card.next e k = known-top lim 0 p w k
  known_step lim p w card.close e k = known-then (reduce_top lim t 0 p w) _ (known-top lim 0 p w k) (λ s h. known-close lim s.0 s.1 [] h)
  known_step lim p w card.opens e k = (tt, k)
  known_step lim p w card.shuts e k = known-then (reduce_top lim t 0 p w) shut_on (known-top lim 0 p w k) known-shut
  known_step lim p w card.begin e k = (tt, k)
  known_step lim p w card.or e k = known-top lim 0 p w k
  known_step lim p w card.end e k = known-then (reduce_top lim t 0 p w) _ (known-top lim 0 p w k) (λ s h. known-close lim s.0 s.1 [] h)

-- ---- entering a tree is never stuck
whole-stuck : {A : Type 0} {a : A} → whole a ≢ stuck
whole-stuck e = let z : ◌≡◌ {A = ℕ} 0 1 = cc in omega arith

full-stuck : {A : Type 0} {p : Pool} → ◌≢◌ {A = Reached A} (full p) stuck
full-stuck e = let z : ◌≡◌ {A = ℕ} 0 1 = cc in omega arith

bind-free : {A B : Type 0} (m : Reached A) (f : A → Reached B) → m ≢ stuck → ((a : A) → f a ≢ stuck) → (m >>= f) ≢ stuck
bind-free (whole a) f h k = k a
bind-free (full p) f h k = full-stuck
bind-free stuck f h k = absurd (h refl)

module _ (lim : Limits) where
  intern-free : (p : Pool) (n : Node) → intern_at lim p n ≢ stuck
  unfolding intern_at
  intern-free p n = go (intern lim p n)
    where
      go : (r : Res Interned) → reached_by p r ≢ stuck
      go (ok x) = whole-stuck
      go (refused c) = full-stuck

  mutual
    unfolding enter_at

    enter-free : (a : Tree) (p : Pool) → enter_at lim p a ≢ stuck
    enter-free (lit o v) p = intern-free p (lit_node o v)
    enter-free (two o a b) p = bind-free (enter_at lim p a) _ (enter-free a p) (λ x. bind-free (enter_at lim x.pool b) _ (enter-free b x.pool) (λ y. intern-free y.pool (op_node o ((x.term, 1) ∷ (y.term, 1) ∷ []))))
    enter-free (many o l) p = bind-free (enter_all_at lim p l) _ (all-free l p) (λ k. intern-free k.pool (op_node o k.runs))
    enter-free (card.marked l) p = bind-free (enter_all_at lim p l) _ (all-free l p) (λ k. intern-free k.pool (marked_node k.runs))

    all-free : (l : Trees) (p : Pool) → enter_all_at lim p l ≢ stuck
    all-free none p = whole-stuck
    all-free (also a l) p = bind-free (enter_at lim p a) _ (enter-free a p) (λ x. bind-free (enter_all_at lim x.pool l) _ (all-free l x.pool) (λ k. whole-stuck))

-- ---- the loop: what is ahead enters the text's term
pub record Entering (lim : Limits) (t s : List ℕ) (terms₀ runs₀ frames₀ : List ℕ) (terms runs frames : List ℕ) (at top : ℕ) : Type 0 where
  pub long_terms : length terms ≡ length terms₀
  pub long_runs : length runs ≡ length runs₀
  pub long_frames : length frames ≡ length frames₀
  pub stands : Standing lim terms runs frames top
  pub known : Known t (words_in frames top)
  pub low : top ≤ at
  pub inside : at ≤ length s
  pub grows : Grows terms₀ runs₀ terms runs (pool_of terms runs)
  pub free : enter_text lim t (pool_of terms₀ runs₀) s ≢ stuck
  pub fuel : ℕ
  pub rest : List card.Mark
  pub cuts : cut fuel t (drop at s) ≡ ok rest
  pub same : run_on lim t (pool_of terms runs, words_in frames top) rest ≡ enter_text lim t (pool_of terms₀ runs₀) s

-- the first mark of what is ahead
pub record Ahead (lim : Limits) (t s : List ℕ) (p : Pool) (w : List Word) (m : Mark) (e : ℕ) (r : Reached Interned) : Type 0 where
  pub fuel : ℕ
  pub rest : List card.Mark
  pub cuts : cut fuel t (drop e s) ≡ ok rest
  pub same : (step_on lim t (p, w) (mark_of m) >>= λ z. run_on lim t z rest) ≡ r

before-ok : (c : card.Mark) (r : Res (List card.Mark)) (l : List card.Mark) → before c r ≡ ok l → (k : List card.Mark) × (r ≡ ok k) × (l ≡ c ∷ k)
before-ok c (ok k) l e = (k, refl, sym (ok-inj e))
before-ok c (refused n) l e = absurd (refused-ok e)

nil-no : (s : List ℕ) (at : ℕ) → at < length s → is_nil (drop at s) ≡ false
nil-no s at h = ap is_nil (drop-cons s at 0 h)

no_fuel : (t s : List ℕ) (at : ℕ) (l : List card.Mark) → at < length s → cut 0 t (drop at s) ≡ ok l → ⊥
unfolding cut
no_fuel t s at l h e = refused-ok (rw (nil-no s at h) at e)

module _ (lim : Limits) (t s : List ℕ) (terms₀ runs₀ frames₀ : List ℕ) where
  abbrev final : Reached Interned
  final = enter_text lim t (pool_of terms₀ runs₀) s

  pub entering-start : Reads t s → Standing lim terms₀ runs₀ frames₀ 0 → Entering lim t s terms₀ runs₀ frames₀ terms₀ runs₀ frames₀ 0 0
  unfolding read_text enter_text Known words_in
  entering-start (a, e) Z =
      let (r, f, g) = bind_ok (cut (length s) t s) (read_marks t) a e in
      let q : final ≡ enter_at lim (pool_of terms₀ runs₀) a = ap (enter_read lim (pool_of terms₀ runs₀)) e in record {
        long_terms = refl;
        long_runs = refl;
        long_frames = refl;
        stands = Z;
        known = tt;
        low = omega arith;
        inside = omega arith;
        grows = grows_none terms₀ runs₀ Z.holds;
        free = λ z. enter-free lim a (pool_of terms₀ runs₀) (sym q ∙ z);
        fuel = length s;
        rest = r;
        cuts = f;
        same = marks-enter lim t r (pool_of terms₀ runs₀) a g ∙ sym q;
      }

  module _ (terms runs frames : List ℕ) (at top : ℕ) (R : Entering lim t s terms₀ runs₀ frames₀ terms runs frames at top) where
    -- a mark stands there
    pub entering-some : at < length s → Cuts t s at None → ⊥
    entering-some h X = go R.fuel R.cuts
      where
        go : (f : ℕ) → cut f t (drop at s) ≡ ok R.rest → ⊥
        go zero e = no_fuel t s at R.rest h e
        go (suc f) e = refused-ok (sym (nothing-cut t s at h f X) ∙ e)

    module _ (h : at < length s) (m : Mark) (e : ℕ) (X : Cuts t s at (Some (m, e))) where
      pub entering-ahead : Ahead lim t s (pool_of terms runs) (words_in frames top) m e final
      unfolding run_on
      entering-ahead = go R.fuel R.cuts
        where
          go : (f : ℕ) → cut f t (drop at s) ≡ ok R.rest → Ahead lim t s (pool_of terms runs) (words_in frames top) m e final
          go zero q = absurd (no_fuel t s at R.rest h q)
          go (suc f) q =
              let (k, c, l) = before-ok (mark_of m) (cut f t (drop e s)) R.rest (sym (mark-cut t s at h f m e X) ∙ q) in
              record { fuel = f; rest = k; cuts = c; same = ap (run_on lim t (pool_of terms runs, words_in frames top)) (sym l) ∙ R.same }

      pub entering-proper : proper_mark t (mark_of m) ≡ true
      unfolding stands_at
      entering-proper = rw (← X.1) at ((both_true (proper_mark t (mark_at t (drop at s))) _).0 X.0).0

      pub entering-free : step_on lim t (pool_of terms runs, words_in frames top) (mark_of m) ≢ stuck
      entering-free q = R.free (sym entering-ahead.same ∙ ap (λ (z : Reached Stack). z >>= λ y. run_on lim t y entering-ahead.rest) q)

      module _ {terms' runs' frames' : List ℕ} {r : Option ℕ} (Y : Steps lim terms runs terms' runs' frames' (top + 1) (step_on lim t (pool_of terms runs, words_in frames top) (mark_of m)) r) where
        pub entering-stop : r ≡ None → Ends terms₀ runs₀ terms' runs' final None
        entering-stop q =
            let z : full (pool_of terms' runs') ≡ step_on lim t (pool_of terms runs, words_in frames top) (mark_of m) = rw q at Y.reached in
            record { reached = ap (λ (v : Reached Stack). v >>= λ y. run_on lim t y entering-ahead.rest) z ∙ entering-ahead.same; grows = grows_then R.grows Y.grows }

        pub entering-turn : (n : ℕ) → r ≡ Some n → length terms' ≡ length terms → length runs' ≡ length runs → length frames' ≡ length frames → Entering lim t s terms₀ runs₀ frames₀ terms' runs' frames' e n
        entering-turn n q a b d =
            let z : whole (pool_of terms' runs', words_in frames' n) ≡ step_on lim t (pool_of terms runs, words_in frames top) (mark_of m) = rw q at Y.reached in
            let st : Standing lim terms' runs' frames' n × (n ≤ top + 1) = rw q at Y.stands in
            let (behind, within) = mark-behind t s at h m e X in record {
              long_terms = a ∙ R.long_terms;
              long_runs = b ∙ R.long_runs;
              long_frames = d ∙ R.long_frames;
              stands = st.0;
              known = rw (← z) at (known_step t lim (pool_of terms runs) (words_in frames top) (mark_of m) entering-proper R.known);
              low = omega (arith, st.1, R.low);
              inside = within;
              grows = grows_then R.grows Y.grows;
              free = R.free;
              fuel = entering-ahead.fuel;
              rest = entering-ahead.rest;
              cuts = entering-ahead.cuts;
              same = ap (λ (v : Reached Stack). v >>= λ y. run_on lim t y entering-ahead.rest) z ∙ entering-ahead.same;
            }

    -- the last mark was read
    module _ (h : length s ≤ at) where
      pub entering-last : (reduce_top lim t 0 (pool_of terms runs) (words_in frames top) >>= only_term) ≡ final
      unfolding run_on
      entering-last = ap (run_on lim t (pool_of terms runs, words_in frames top)) (ok-inj (sym (all-cut R.fuel t s at h) ∙ R.cuts)) ∙ R.same

      pub entering-end : {terms' runs' : List ℕ} {r : Option ℕ} → Ends terms runs terms' runs' (run_on lim t (pool_of terms runs, words_in frames top) []) r → Ends terms₀ runs₀ terms' runs' final r
      unfolding run_on
      entering-end Y = record { reached = Y.reached ∙ entering-last; grows = grows_then R.grows Y.grows }

      pub ending-free : run_on lim t (pool_of terms runs, words_in frames top) [] ≢ stuck
      unfolding run_on
      ending-free q = R.free (sym entering-last ∙ q)

-- ---- the one term that is left
pub record Only (frames : List ℕ) (n : ℕ) : Type 0 where
  pub one : n ≡ 1
  pub term : 16384 ≤ get_or frames 0 0
  pub small : get_or frames 0 0 < 32768

only-turns : (p : Pool) (x : Word) (w : List Word) → only_term (p, x ∷ w) ≢ stuck → turn_left 0 (p, x ∷ w) ≢ stuck
unfolding only_term turn_left
only-turns p bracket w h = absurd (h refl)
only-turns p (list_head o) w h = absurd (h refl)
only-turns p marked_head w h = absurd (h refl)
only-turns p (left_child c o) w h = absurd (h refl)
only-turns p (child c) w h = whole-stuck

two-stuck : (p : Pool) (x y : Word) (w : List Word) → only_term (p, x ∷ y ∷ w) ≡ stuck
unfolding only_term
two-stuck p bracket y w = refl
two-stuck p (list_head o) y w = refl
two-stuck p marked_head y w = refl
two-stuck p (left_child c o) y w = refl
two-stuck p (child c) y w = refl

only_of : (p : Pool) (frames : List ℕ) (n : ℕ) → only_term (p, words_in frames n) ≢ stuck → Only frames n
unfolding only_term words_in
only_of p frames zero h = absurd (h refl)
only_of p frames (suc zero) h = let q = turn-some 0 p frames 1 (only-turns p (word_of (get_or frames 0 0)) [] h) in record { one = refl; term = q.1; small = q.2 }
only_of p frames (suc (suc n)) h = absurd (h (two-stuck p (word_of (get_or frames (suc n) 0)) (word_of (get_or frames n 0)) (words_in frames n)))

module _ (lim : Limits) (t terms runs frames : List ℕ) (top : ℕ) (free : run_on lim t (pool_of terms runs, words_in frames top) [] ≢ stuck) where
  pub last-topped : Topped (words_in frames top)
  unfolding run_on
  last-topped = topped-of lim t 0 (pool_of terms runs) (words_in frames top) (not_stuck _ only_term free)

  module _ (terms' runs' frames' : List ℕ) (s : Option ℕ) (Y : Steps lim terms runs terms' runs' frames' top (reduce_top lim t 0 (pool_of terms runs) (words_in frames top)) s) where
    pub last-full : s ≡ None → Ends terms runs terms' runs' (run_on lim t (pool_of terms runs, words_in frames top) []) None
    unfolding run_on
    last-full q =
        let z : full (pool_of terms' runs') ≡ reduce_top lim t 0 (pool_of terms runs) (words_in frames top) = rw q at Y.reached in
        record { reached = ap (λ (v : Reached Stack). v >>= only_term) z; grows = Y.grows }

    module _ (n : ℕ) (q : s ≡ Some n) where
      here : whole (pool_of terms' runs', words_in frames' n) ≡ reduce_top lim t 0 (pool_of terms runs) (words_in frames top)
      here = rw q at Y.reached

      pub last-only : Only frames' n
      unfolding run_on
      last-only = only_of (pool_of terms' runs') frames' n (λ e. free (sym (ap (λ (v : Reached Stack). v >>= only_term) here) ∙ e))

      pub last-inside : n ≤ length frames'
      last-inside = (rw q at Y.stands).0.inside

      pub last-term : (a : ℕ) → a ≡ get_or frames' 0 0 - 16384 → Ends terms runs terms' runs' (run_on lim t (pool_of terms runs, words_in frames top) []) (Some a)
      unfolding run_on only_term words_in
      last-term a e =
          let w : words_in frames' n ≡ child a ∷ [] = ap (words_in frames') last-only.one ∙ ap (λ (x : Word). x ∷ []) (word-child (get_or frames' 0 0) last-only.term last-only.small ∙ ap child (sym e)) in
          record { reached = ap (λ (v : List Word). only_term (pool_of terms' runs', v)) (sym w) ∙ ap (λ (v : Reached Stack). v >>= only_term) here; grows = Y.grows }
