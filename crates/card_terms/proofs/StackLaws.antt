-- The stack of trees entered is the stack of pool numbers, mark by mark; so a text read into a pool at once is its term entered.
use Rattle.std.specs.Prelude.{◌≡◌, ◌≢◌, leb, eqb}
use Rattle.std.proofs.Math.Path.{refl, sym, ap}
use Rattle.std.proofs.Common.{◌∙◌}
use Rattle.std.proofs.Math.Bool.{Bool, true, false}
use mathlib.Core.List.{List, [], ◌∷◌, ◌++◌, append-nil}
use Prim.Native.Nat.{ℕ}
use Rattle.spec.specs.Bytes.{Two, Limits, ok, pick}
use Rattle.spec.specs.Pool.{Pool, op_node, Children}
use Rattle.laws.specs.Results.{refused-ok, ok-inj}
use Rattle.formula.specs.Card as card
use Rattle.formula.specs.Card.{Tree, two, many, Trees, none, also, count, branches, Mark, literal, between, list, next, close, opens, shuts, begin, or, end, prec_of, left_level}
use Rattle.formula.specs.Reader.{Frame, left, in_list, in_marked, State, wants, has, wrong, snoc, Top, reduce, next_item, close_list, next_branch, close_marked, close_bracket, close_empty, step, run, alone, finish, read_marks}
use Rattle.formula.specs.Reader as reader
use Rattle.formula.specs.Lexer.{marked_node}
use Rattle.card_terms.specs.Words.{Reached, whole, full, stuck, ◌>>=◌, intern_at, enter_at, enter_all_at, Word, bracket, list_head, marked_head, left_child, child, Stack, on_top, reduce_on, reduce_top, turn_left, close_on, shut_on, step_on, only_term, run_on}
use Rattle.card_terms.specs.ReduceLaws.{bind-bind}

-- ---- steps one after the other
bind-cong : {A B : Type 0} (m : Reached A) (f g : A → Reached B) → ((a : A) → f a ≡ g a) → (m >>= f) ≡ (m >>= g)
bind-cong (whole a) f g h = h a
bind-cong (full p) f g h = refl
bind-cong stuck f g h = refl

bind-whole : {A : Type 0} (m : Reached A) → (m >>= whole) ≡ m
bind-whole (whole a) = refl
bind-whole (full p) = refl
bind-whole stuck = refl

module _ (lim : Limits) where
  -- ---- trees entered on a stack: one after the other
  unfoldable items_at : Trees → Pool → List Word → Reached Stack
  unfolding enter_at
  items_at none p w = whole (p, w)
  items_at (also a l) p w = enter_at lim p a >>= λ x. items_at l x.pool (child x.term ∷ w)

  -- a stack of trees, from below
  unfoldable stack_at : List Frame → Pool → Reached Stack
  unfolding items_at
  stack_at [] p = whole (p, [])
  stack_at (reader.bracket ∷ k) p = stack_at k p >>= λ s. whole (s.0, bracket ∷ s.1)
  stack_at (left a o ∷ k) p = stack_at k p >>= λ s. enter_at lim s.0 a >>= λ x. whole (x.pool, left_child x.term o ∷ s.1)
  stack_at (in_list o l ∷ k) p = stack_at k p >>= λ s. items_at l s.0 (list_head o ∷ s.1)
  stack_at (in_marked l ∷ k) p = stack_at k p >>= λ s. items_at l s.0 (marked_head ∷ s.1)

  abbrev has_at : List Frame → Tree → Pool → Reached Stack
  has_at k a p = stack_at k p >>= λ s. enter_at lim s.0 a >>= on_top s.1

  unfoldable state_at : State → Pool → Reached Stack
  unfolding stack_at
  state_at (wants k) p = stack_at k p
  state_at (has k a) p = has_at k a p
  state_at wrong p = stuck

  items-snoc : (l : Trees) (a : Tree) (p : Pool) (w : List Word) → items_at (snoc l a) p w ≡ (items_at l p w >>= λ s. enter_at lim s.0 a >>= on_top s.1)
  unfolding items_at snoc
  items-snoc none a p w = refl
  items-snoc (also b l) a p w = bind-cong (enter_at lim p b) _ _ (λ x. items-snoc l a x.pool (child x.term ∷ w)) ∙ sym (bind-bind (enter_at lim p b) _ _)

  -- ---- a list or marked place closed
  close-items : (l : Trees) (p : Pool) (w : List Word) (m : List Two) → (items_at l p w >>= λ s. close_on lim s.0 s.1 m) ≡ (enter_all_at lim p l >>= λ k. close_on lim k.pool w (k.runs ++ m))
  unfolding items_at enter_all_at close_on
  close-items none p w m = refl
  close-items (also a l) p w m =
      bind-bind (enter_at lim p a) _ _
      ∙ bind-cong (enter_at lim p a) _ _ (λ x. close-items l x.pool (child x.term ∷ w) m ∙ sym (bind-bind (enter_all_at lim x.pool l) _ _))
      ∙ sym (bind-bind (enter_at lim p a) _ _)

  -- ---- "by precedence"
  module _ (t : List ℕ) (m : ℕ) where
    has-reduce : (r : Reached Stack) (a : Tree) → ((r >>= λ s. enter_at lim s.0 a >>= on_top s.1) >>= λ s. reduce_top lim t m s.0 s.1) ≡ (r >>= λ s. enter_at lim s.0 a >>= λ x. reduce_on lim t m x.pool x.term s.1)
    unfolding reduce_top
    has-reduce r a = bind-bind r _ _ ∙ bind-cong r _ _ (λ s. bind-bind (enter_at lim s.0 a) _ _)

    -- nothing to finish on a list or marked place
    items-stop : (l : Trees) (a : Tree) (p : Pool) (w : List Word) → ((q : Pool) (c : ℕ) → reduce_on lim t m q c w ≡ whole (q, child c ∷ w))
        → (items_at l p w >>= λ s. enter_at lim s.0 a >>= λ x. reduce_on lim t m x.pool x.term s.1) ≡ (items_at l p w >>= λ s. enter_at lim s.0 a >>= on_top s.1)
    unfolding items_at reduce_on
    items-stop none a p w h = bind-cong (enter_at lim p a) _ _ (λ x. h x.pool x.term)
    items-stop (also b l) a p w h =
        bind-bind (enter_at lim p b) _ _
        ∙ bind-cong (enter_at lim p b) _ _ (λ x. items-stop l a x.pool (child x.term ∷ w) (λ q c. refl))
        ∙ sym (bind-bind (enter_at lim p b) _ _)

    reduce-at : (k : List Frame) (a : Tree) (p : Pool) → has_at (reduce t m k a).frames (reduce t m k a).value p ≡ (has_at k a p >>= λ s. reduce_top lim t m s.0 s.1)
    unfolding reduce stack_at reduce_top reduce_on enter_at
    reduce-at [] a p = sym (has-reduce (whole (p, [])) a)
    reduce-at (reader.bracket ∷ k) a p = bind-bind (stack_at k p) _ _ ∙ sym (bind-bind (stack_at k p) _ _) ∙ sym (has-reduce (stack_at (reader.bracket ∷ k) p) a)
    reduce-at (in_list o l ∷ k) a p =
        bind-bind (stack_at k p) _ _
        ∙ bind-cong (stack_at k p) _ _ (λ s. sym (items-stop l a s.0 (list_head o ∷ s.1) (λ q c. refl)))
        ∙ sym (bind-bind (stack_at k p) _ _)
        ∙ sym (has-reduce (stack_at (in_list o l ∷ k) p) a)
    reduce-at (in_marked l ∷ k) a p =
        bind-bind (stack_at k p) _ _
        ∙ bind-cong (stack_at k p) _ _ (λ s. sym (items-stop l a s.0 (marked_head ∷ s.1) (λ q c. refl)))
        ∙ sym (bind-bind (stack_at k p) _ _)
        ∙ sym (has-reduce (stack_at (in_marked l ∷ k) p) a)
    reduce-at (left b o ∷ k) a p = go (leb m (prec_of t o)) (reduce-at k (two o b a) p) ∙ sym two-step ∙ sym (has-reduce (stack_at (left b o ∷ k) p) a)
      where
        after : Bool → Pool → ℕ → ℕ → List Word → Reached Stack
        after z q x y w = elim z [
          | true ↦ (intern_at lim q (op_node o ((x, 1) ∷ (y, 1) ∷ [])) >>= λ r. reduce_on lim t m r.pool r.term w)
          | false ↦ whole (q, child y ∷ left_child x o ∷ w)
        ]

        both : Bool → Reached Stack
        both z = stack_at k p >>= λ s. enter_at lim s.0 b >>= λ x. enter_at lim x.pool a >>= λ y. after z y.pool x.term y.term s.1

        two-step : (stack_at (left b o ∷ k) p >>= λ s. enter_at lim s.0 a >>= λ y. reduce_on lim t m y.pool y.term s.1) ≡ both (leb m (prec_of t o))
        two-step = bind-bind (stack_at k p) _ _ ∙ bind-cong (stack_at k p) _ _ (λ s. bind-bind (enter_at lim s.0 b) _ _)

        finished : Bool → Top
        finished z = elim z [ true ↦ reduce t m k (two o b a) | false ↦ reader.top (left b o ∷ k) a ]

        go : (z : Bool) → has_at (reduce t m k (two o b a)).frames (reduce t m k (two o b a)).value p ≡ (has_at k (two o b a) p >>= λ s. reduce_top lim t m s.0 s.1) → has_at (finished z).frames (finished z).value p ≡ both z
        go true ih = ih ∙ has-reduce (stack_at k p) (two o b a) ∙ bind-cong (stack_at k p) _ _ (λ s. bind-bind (enter_at lim s.0 b) _ _ ∙ bind-cong (enter_at lim s.0 b) _ _ (λ x. bind-bind (enter_at lim x.pool a) _ _))
        go false ih = bind-bind (stack_at k p) _ _ ∙ bind-cong (stack_at k p) _ _ (λ s. bind-bind (enter_at lim s.0 b) _ _)

  -- ---- the marks, each where it does not go wrong
  snoc-list : (o : ℕ) (l : Trees) (k : List Frame) (a : Tree) (p : Pool) → stack_at (in_list o (snoc l a) ∷ k) p ≡ has_at (in_list o l ∷ k) a p
  unfolding stack_at
  snoc-list o l k a p = bind-cong (stack_at k p) _ _ (λ s. items-snoc l a s.0 (list_head o ∷ s.1)) ∙ sym (bind-bind (stack_at k p) _ _)

  snoc-marked : (l : Trees) (k : List Frame) (a : Tree) (p : Pool) → stack_at (in_marked (snoc l a) ∷ k) p ≡ has_at (in_marked l ∷ k) a p
  unfolding stack_at
  snoc-marked l k a p = bind-cong (stack_at k p) _ _ (λ s. items-snoc l a s.0 (marked_head ∷ s.1)) ∙ sym (bind-bind (stack_at k p) _ _)

  empty-at : (t : List ℕ) (k : List Frame) (p : Pool) → close_empty k ≢ wrong → state_at (close_empty k) p ≡ (stack_at k p >>= λ s. step_on lim t s close)
  unfolding state_at close_empty step_on reduce_top close_on enter_at items_at
  empty-at t [] p h = absurd (h refl)
  empty-at t (reader.bracket ∷ k) p h = absurd (h refl)
  empty-at t (left b o ∷ k) p h = absurd (h refl)
  empty-at t (in_list o none ∷ k) p h = sym (bind-bind (stack_at k p) _ _)
  empty-at t (in_list o (also b l) ∷ k) p h = absurd (h refl)
  empty-at t (in_marked l ∷ k) p h = absurd (h refl)

  next-at : (k : List Frame) (a : Tree) (p : Pool) → next_item k a ≢ wrong → state_at (next_item k a) p ≡ has_at k a p
  unfolding state_at next_item
  next-at [] a p h = absurd (h refl)
  next-at (reader.bracket ∷ k) a p h = absurd (h refl)
  next-at (left b o ∷ k) a p h = absurd (h refl)
  next-at (in_list o l ∷ k) a p h = snoc-list o l k a p
  next-at (in_marked l ∷ k) a p h = absurd (h refl)

  or_at : (k : List Frame) (a : Tree) (p : Pool) → next_branch k a ≢ wrong → state_at (next_branch k a) p ≡ has_at k a p
  unfolding state_at next_branch
  or_at [] a p h = absurd (h refl)
  or_at (reader.bracket ∷ k) a p h = absurd (h refl)
  or_at (left b o ∷ k) a p h = absurd (h refl)
  or_at (in_list o l ∷ k) a p h = absurd (h refl)
  or_at (in_marked l ∷ k) a p h = snoc-marked l k a p

  abbrev closed : Stack → Reached Stack
  closed s = close_on lim s.0 s.1 []

  close_at : (k : List Frame) (a : Tree) (p : Pool) → close_list k a ≢ wrong → state_at (close_list k a) p ≡ (has_at k a p >>= closed)
  unfolding state_at close_list close_on enter_at
  close_at [] a p h = absurd (h refl)
  close_at (reader.bracket ∷ k) a p h = absurd (h refl)
  close_at (left b o ∷ k) a p h = absurd (h refl)
  close_at (in_marked l ∷ k) a p h = absurd (h refl)
  close_at (in_list o l ∷ k) a p h = go (eqb (count (snoc l a)) 2) h
    where
      runs-only : (s : Stack) (r : Children) → (intern_at lim r.pool (op_node o r.runs) >>= on_top s.1) ≡ close_on lim r.pool (list_head o ∷ s.1) (r.runs ++ [])
      runs-only s r = rw (append-nil r.runs) refl

      go : (z : Bool) → pick z wrong (has k (many o (snoc l a))) ≢ wrong → state_at (pick z wrong (has k (many o (snoc l a)))) p ≡ (has_at (in_list o l ∷ k) a p >>= closed)
      go true f = absurd (f refl)
      go false f =
          bind-cong (stack_at k p) _ _ (λ s. bind-bind (enter_all_at lim s.0 (snoc l a)) _ _ ∙ bind-cong (enter_all_at lim s.0 (snoc l a)) _ _ (runs-only s) ∙ sym (close-items (snoc l a) s.0 (list_head o ∷ s.1) []))
          ∙ sym (bind-bind (stack_at k p) _ _)
          ∙ ap (λ (z : Reached Stack). z >>= closed) (snoc-list o l k a p)

  end-at : (k : List Frame) (a : Tree) (p : Pool) → close_marked k a ≢ wrong → state_at (close_marked k a) p ≡ (has_at k a p >>= closed)
  unfolding state_at close_marked close_on enter_at
  end-at [] a p h = absurd (h refl)
  end-at (reader.bracket ∷ k) a p h = absurd (h refl)
  end-at (left b o ∷ k) a p h = absurd (h refl)
  end-at (in_list o l ∷ k) a p h = absurd (h refl)
  end-at (in_marked l ∷ k) a p h = go (branches (count (snoc l a))) h
    where
      runs-only : (s : Stack) (r : Children) → (intern_at lim r.pool (marked_node r.runs) >>= on_top s.1) ≡ close_on lim r.pool (marked_head ∷ s.1) (r.runs ++ [])
      runs-only s r = rw (append-nil r.runs) refl

      go : (z : Bool) → pick z (has k (card.marked (snoc l a))) wrong ≢ wrong → state_at (pick z (has k (card.marked (snoc l a))) wrong) p ≡ (has_at (in_marked l ∷ k) a p >>= closed)
      go false f = absurd (f refl)
      go true f =
          bind-cong (stack_at k p) _ _ (λ s. bind-bind (enter_all_at lim s.0 (snoc l a)) _ _ ∙ bind-cong (enter_all_at lim s.0 (snoc l a)) _ _ (runs-only s) ∙ sym (close-items (snoc l a) s.0 (marked_head ∷ s.1) []))
          ∙ sym (bind-bind (stack_at k p) _ _)
          ∙ ap (λ (z : Reached Stack). z >>= closed) (snoc-marked l k a p)

  shut_at : (k : List Frame) (a : Tree) (p : Pool) → close_bracket k a ≢ wrong → state_at (close_bracket k a) p ≡ (has_at k a p >>= shut_on)
  unfolding state_at close_bracket shut_on stack_at
  shut_at [] a p h = absurd (h refl)
  shut_at (reader.bracket ∷ k) a p h =
      bind-cong (stack_at k p) _ _ (λ s. sym (bind-bind (enter_at lim s.0 a) _ _)) ∙ sym (bind-bind (stack_at k p) _ _) ∙ ap (λ (z : Reached Stack). z >>= shut_on) (sym (bind-bind (stack_at k p) _ _))
  shut_at (left b o ∷ k) a p h = absurd (h refl)
  shut_at (in_list o l ∷ k) a p h = absurd (h refl)
  shut_at (in_marked l ∷ k) a p h = absurd (h refl)

  left_at : (o : ℕ) (k : List Frame) (a : Tree) (p : Pool) → stack_at (left a o ∷ k) p ≡ (has_at k a p >>= turn_left o)
  unfolding stack_at turn_left
  left_at o k a p = bind-cong (stack_at k p) _ _ (λ s. sym (bind-bind (enter_at lim s.0 a) _ _)) ∙ sym (bind-bind (stack_at k p) _ _)

  step-at : (t : List ℕ) (u : State) (c : Mark) (p : Pool) → step t u c ≢ wrong → state_at (step t u c) p ≡ (state_at u p >>= λ s. step_on lim t s c)
  unfolding state_at step step_on enter_at items_at
  step-at t (wants k) (literal v o) p h = refl
  step-at t (wants k) (between o) p h = absurd (h refl)
  step-at t (wants k) (list o) p h = refl
  step-at t (wants k) next p h = absurd (h refl)
  step-at t (wants k) close p h = empty-at t k p h
  step-at t (wants k) opens p h = refl
  step-at t (wants k) shuts p h = absurd (h refl)
  step-at t (wants k) begin p h = refl
  step-at t (wants k) or p h = absurd (h refl)
  step-at t (wants k) end p h = absurd (h refl)
  step-at t (has k a) (literal v o) p h = absurd (h refl)
  step-at t (has k a) (between o) p h = left_at o (reduce t (left_level t (prec_of t o)) k a).frames (reduce t (left_level t (prec_of t o)) k a).value p ∙ ap (λ (z : Reached Stack). z >>= turn_left o) (reduce-at t (left_level t (prec_of t o)) k a p) ∙ bind-bind (has_at k a p) _ _
  step-at t (has k a) (list o) p h = absurd (h refl)
  step-at t (has k a) next p h = next-at (reduce t 0 k a).frames (reduce t 0 k a).value p h ∙ reduce-at t 0 k a p
  step-at t (has k a) close p h = close_at (reduce t 0 k a).frames (reduce t 0 k a).value p h ∙ ap (λ (z : Reached Stack). z >>= closed) (reduce-at t 0 k a p) ∙ bind-bind (has_at k a p) _ _
  step-at t (has k a) opens p h = absurd (h refl)
  step-at t (has k a) shuts p h = shut_at (reduce t 0 k a).frames (reduce t 0 k a).value p h ∙ ap (λ (z : Reached Stack). z >>= shut_on) (reduce-at t 0 k a p) ∙ bind-bind (has_at k a p) _ _
  step-at t (has k a) begin p h = absurd (h refl)
  step-at t (has k a) or p h = or_at (reduce t 0 k a).frames (reduce t 0 k a).value p h ∙ reduce-at t 0 k a p
  step-at t (has k a) end p h = end-at (reduce t 0 k a).frames (reduce t 0 k a).value p h ∙ ap (λ (z : Reached Stack). z >>= closed) (reduce-at t 0 k a p) ∙ bind-bind (has_at k a p) _ _
  step-at t wrong c p h = absurd (h refl)

  -- ---- the whole text
  run-wrong : (t : List ℕ) (r : List Mark) → run t wrong r ≡ wrong
  unfolding run
  run-wrong t [] = refl
  run-wrong t (c ∷ r) = run-wrong t r

  finish-at : (t : List ℕ) (u : State) (p : Pool) (a : Tree) → finish t u ≡ ok a → (state_at u p >>= λ s. run_on lim t s []) ≡ enter_at lim p a
  unfolding finish state_at run_on alone stack_at only_term
  finish-at t (wants k) p a e = absurd (refused-ok e)
  finish-at t wrong p a e = absurd (refused-ok e)
  finish-at t (has k b) p a e = sym (bind-bind (has_at k b p) _ _) ∙ ap (λ (z : Reached Stack). z >>= only_term) (sym (reduce-at t 0 k b p)) ∙ go (reduce t 0 k b).frames (reduce t 0 k b).value e
    where
      go : (k : List Frame) (b : Tree) → alone k b ≡ ok a → (has_at k b p >>= only_term) ≡ enter_at lim p a
      go [] b q = bind-bind (enter_at lim p b) _ _ ∙ bind-whole (enter_at lim p b) ∙ ap (enter_at lim p) (ok-inj q)
      go (f ∷ k) b q = absurd (refused-ok q)

  run_at : (t : List ℕ) (r : List Mark) (u : State) (p : Pool) (a : Tree) → finish t (run t u r) ≡ ok a → (state_at u p >>= λ s. run_on lim t s r) ≡ enter_at lim p a
  unfolding run run_on finish
  run_at t [] u p a e = finish-at t u p a e
  run_at t (c ∷ r) u p a e =
      sym (bind-bind (state_at u p) _ _) ∙ ap (λ (z : Reached Stack). z >>= λ s. run_on lim t s r) (sym (step-at t u c p (λ q. wrong-not q))) ∙ run_at t r (step t u c) p a e
    where
      wrong-not : step t u c ≡ wrong → ⊥
      wrong-not q = refused-ok (sym (ap (finish t) (ap (λ (z : State). run t z r) q ∙ run-wrong t r)) ∙ e)

  -- Marks that are read as a tree enter it.
  pub marks-enter : (t : List ℕ) (r : List Mark) (p : Pool) (a : Tree) → read_marks t r ≡ ok a → run_on lim t (p, []) r ≡ enter_at lim p a
  unfolding read_marks state_at stack_at
  marks-enter t r p a e = run_at t r (wants []) p a e
