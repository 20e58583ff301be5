-- Reading into a pool at once: the stack with pool numbers in place of trees, and each mark's step on it.
use Rattle.std.specs.Prelude.{true, false, List, [], ◌∷◌, ℕ, zero, suc, ◌-◌, ◌/◌, ◌%◌, ltb, leb, eqb, get_or}
use Rattle.spec.specs.Bytes.{Two, Limits, Res, ok, refused, pick}
use Rattle.spec.specs.Pool.{Pool, Node, Interned, interned, intern, op_node, lit_node, Children}
use Rattle.formula.specs.Card as card
use Rattle.formula.specs.Card.{Tree, lit, two, many, Trees, none, also, Mark, prec_of, left_level}
use Rattle.formula.specs.Lexer.{marked_node, read_text}

-- what was reached: the whole; or refusal 13, with the pool up to it; or the marks are no formula's
pub data Reached (A : Type 0) : Type 0 where
  whole : A → Reached A
  full : Pool → Reached A
  stuck : Reached A

infixl 10 ◌>>=◌
abbrev pub ◌>>=◌ : {A B : Type 0} → Reached A → (A → Reached B) → Reached B
◌>>=◌ (whole a) f = f a
◌>>=◌ (full p) f = full p
◌>>=◌ stuck f = stuck

-- as a result: 13; 17
abbrev pub result_of : {A : Type 0} → Reached A → Res A
result_of (whole a) = ok a
result_of (full p) = refused 13
result_of stuck = refused 17

abbrev pub reached_by : Pool → Res Interned → Reached Interned
reached_by p (ok x) = whole x
reached_by p (refused n) = full p

unfoldable pub intern_at : Limits → Pool → Node → Reached Interned
unfolding intern
intern_at lim p n = reached_by p (intern lim p n)

-- `enter`, with the pool that a refusal comes at
unfoldable mutual
  unfolding intern_at

  pub enter_at : Limits → Pool → Tree → Reached Interned
  enter_at lim p (lit o v) = intern_at lim p (lit_node o v)
  enter_at lim p (two o a b) = do
    x ← enter_at lim p a
    y ← enter_at lim x.pool b
    intern_at lim y.pool (op_node o ((x.term, 1) ∷ (y.term, 1) ∷ []))
  enter_at lim p (many o l) = do
    k ← enter_all_at lim p l
    intern_at lim k.pool (op_node o k.runs)
  enter_at lim p (card.marked l) = do
    k ← enter_all_at lim p l
    intern_at lim k.pool (marked_node k.runs)

  pub enter_all_at : Limits → Pool → Trees → Reached Children
  enter_all_at lim p none = whole (record { pool = p; runs = [] })
  enter_all_at lim p (also a l) = do
    x ← enter_at lim p a
    k ← enter_all_at lim x.pool l
    whole (record { pool = k.pool; runs = (x.term, 1) ∷ k.runs })

-- a text's term entered
abbrev pub enter_read : Limits → Pool → Res Tree → Reached Interned
enter_read lim p (ok a) = enter_at lim p a
enter_read lim p (refused n) = stuck

unfoldable pub enter_text : Limits → List ℕ → Pool → List ℕ → Reached Interned
unfolding enter_at read_text
enter_text lim t p s = enter_read lim p (read_text t s)

-- ---- the stack, its top first: what is not finished, and the terms that were read
pub data Word : Type 0 where
  bracket : Word
  list_head : ℕ → Word
  marked_head : Word
  -- a left child with its operation
  left_child : ℕ → ℕ → Word
  -- any other term
  child : ℕ → Word

abbrev pub Stack : Type 0
Stack = Pool × List Word

-- the term that was entered last on top
abbrev pub on_top : List Word → Interned → Reached Stack
on_top w x = whole (x.pool, child x.term ∷ w)

abbrev pub intern_on : Limits → Pool → Node → List Word → Reached Stack
intern_on lim p n w = intern_at lim p n >>= on_top w

-- "by precedence": everything on the left that binds at least as much as m is finished; c is the term on top
unfoldable pub reduce_on : Limits → List ℕ → ℕ → Pool → ℕ → List Word → Reached Stack
unfolding intern_at
reduce_on lim t m p c [] = whole (p, child c ∷ [])
reduce_on lim t m p c (bracket ∷ w) = whole (p, child c ∷ bracket ∷ w)
reduce_on lim t m p c (list_head o ∷ w) = whole (p, child c ∷ list_head o ∷ w)
reduce_on lim t m p c (marked_head ∷ w) = whole (p, child c ∷ marked_head ∷ w)
reduce_on lim t m p c (child b ∷ w) = whole (p, child c ∷ child b ∷ w)
reduce_on lim t m p c (left_child b o ∷ w) = elim (leb m (prec_of t o)) [
  | true ↦ (intern_at lim p (op_node o ((b, 1) ∷ (c, 1) ∷ [])) >>= λ x. reduce_on lim t m x.pool x.term w)
  | false ↦ whole (p, child c ∷ left_child b o ∷ w)
]

unfoldable pub reduce_top : Limits → List ℕ → ℕ → Pool → List Word → Reached Stack
unfolding reduce_on
reduce_top lim t m p [] = stuck
reduce_top lim t m p (bracket ∷ w) = whole (p, bracket ∷ w)
reduce_top lim t m p (list_head o ∷ w) = whole (p, list_head o ∷ w)
reduce_top lim t m p (marked_head ∷ w) = whole (p, marked_head ∷ w)
reduce_top lim t m p (left_child b o ∷ w) = stuck
reduce_top lim t m p (child c ∷ w) = reduce_on lim t m p c w

-- the term on top is the left child of an operation
unfoldable pub turn_left : ℕ → Stack → Reached Stack
turn_left o (p, []) = stuck
turn_left o (p, bracket ∷ w) = stuck
turn_left o (p, list_head q ∷ w) = stuck
turn_left o (p, marked_head ∷ w) = stuck
turn_left o (p, left_child b q ∷ w) = stuck
turn_left o (p, child c ∷ w) = whole (p, left_child c o ∷ w)

-- the terms on top, l those above them, are the children of the list or marked place below them
unfoldable pub close_on : Limits → Pool → List Word → List Two → Reached Stack
unfolding intern_at
close_on lim p [] l = stuck
close_on lim p (bracket ∷ w) l = stuck
close_on lim p (list_head o ∷ w) l = intern_on lim p (op_node o l) w
close_on lim p (marked_head ∷ w) l = intern_on lim p (marked_node l) w
close_on lim p (left_child b o ∷ w) l = stuck
close_on lim p (child c ∷ w) l = close_on lim p w ((c, 1) ∷ l)

-- the bracket below the term on top goes
unfoldable pub shut_on : Stack → Reached Stack
shut_on (p, []) = stuck
shut_on (p, x ∷ []) = stuck
shut_on (p, x ∷ y ∷ w) = whole (p, x ∷ w)

unfoldable pub step_on : Limits → List ℕ → Stack → Mark → Reached Stack
unfolding intern_at reduce_top turn_left close_on shut_on
step_on lim t s (card.literal v o) = intern_on lim s.0 (lit_node o v) s.1
step_on lim t s (card.between o) = reduce_top lim t (left_level t (prec_of t o)) s.0 s.1 >>= turn_left o
step_on lim t s (card.list o) = whole (s.0, list_head o ∷ s.1)
step_on lim t s card.next = reduce_top lim t 0 s.0 s.1
step_on lim t s card.close = reduce_top lim t 0 s.0 s.1 >>= λ r. close_on lim r.0 r.1 []
step_on lim t s card.opens = whole (s.0, bracket ∷ s.1)
step_on lim t s card.shuts = reduce_top lim t 0 s.0 s.1 >>= shut_on
step_on lim t s card.begin = whole (s.0, marked_head ∷ s.1)
step_on lim t s card.or = reduce_top lim t 0 s.0 s.1
step_on lim t s card.end = reduce_top lim t 0 s.0 s.1 >>= λ r. close_on lim r.0 r.1 []

unfoldable pub only_term : Stack → Reached Interned
only_term (p, []) = stuck
only_term (p, bracket ∷ w) = stuck
only_term (p, list_head q ∷ w) = stuck
only_term (p, marked_head ∷ w) = stuck
only_term (p, left_child b q ∷ w) = stuck
only_term (p, child c ∷ []) = whole (interned p c)
only_term (p, child c ∷ x ∷ w) = stuck

-- the marks one after the other, then the one term that is left
unfoldable pub run_on : Limits → List ℕ → Stack → List Mark → Reached Interned
unfolding step_on reduce_top only_term
run_on lim t s [] = reduce_top lim t 0 s.0 s.1 >>= only_term
run_on lim t s (c ∷ r) = step_on lim t s c >>= λ z. run_on lim t z r

-- ---- a word as a number: below 16,384 what is open (a list's operation, 128 a marked place, any other a bracket); a term as a run of 1; a left child as a run of 2 and its operation
abbrev pub word_of : ℕ → Word
word_of x = pick (leb 32768 x) (left_child (x % 16384) (x / 16384 - 2)) (pick (leb 16384 x) (child (x - 16384)) (pick (ltb x 64) (list_head x) (pick (eqb x 128) marked_head bracket)))

-- the first n numbers of a buffer
unfoldable pub words_in : List ℕ → ℕ → List Word
words_in frames zero = []
words_in frames (suc n) = word_of (get_or frames n 0) ∷ words_in frames n
