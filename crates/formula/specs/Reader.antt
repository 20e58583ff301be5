-- Paper 1, "read it back by precedence": marks from the left, over a stack of what is not finished.
use Rattle.std.specs.Prelude.{true, false, List, [], ◌∷◌, ℕ, leb, eqb}
use Rattle.spec.specs.Bytes.{pick, Res, ok, refused}
use Rattle.formula.specs.Card.{Tree, lit, two, many, marked, Trees, none, also, count, branches, Mark, literal, between, list, next, close, opens, shuts, begin, or, end, prec_of, left_level}

unfoldable pub snoc : Trees → Tree → Trees
snoc none a = also a none
snoc (also b l) a = also b (snoc l a)

-- what is not finished: a bracket; a left child with its operation; a list or a marked place with what it has so far
pub data Frame : Type 0 where
  bracket : Frame
  left : Tree → ℕ → Frame
  in_list : ℕ → Trees → Frame
  in_marked : Trees → Frame

pub record Top : Type 0 where
  pub frames : List Frame
  pub value : Tree

abbrev pub top : List Frame → Tree → Top
top k a = record { frames = k; value = a }

-- a child is wanted, or one was read, or the marks are no formula's
pub data State : Type 0 where
  wants : List Frame → State
  has : List Frame → Tree → State
  wrong : State

-- "by precedence": everything on the left that binds at least as much as m is finished
unfoldable pub reduce : List ℕ → ℕ → List Frame → Tree → Top
reduce t m [] a = top [] a
reduce t m (bracket ∷ k) a = top (bracket ∷ k) a
reduce t m (in_list o l ∷ k) a = top (in_list o l ∷ k) a
reduce t m (in_marked l ∷ k) a = top (in_marked l ∷ k) a
reduce t m (left b o ∷ k) a = elim (leb m (prec_of t o)) [ true ↦ reduce t m k (two o b a) | false ↦ top (left b o ∷ k) a ]

abbrev pub push : ℕ → Top → State
push o s = wants (left s.value o ∷ s.frames)

-- `[` and at once `]`
unfoldable pub close_empty : List Frame → State
close_empty [] = wrong
close_empty (bracket ∷ k) = wrong
close_empty (left b o ∷ k) = wrong
close_empty (in_list o none ∷ k) = has k (many o none)
close_empty (in_list o (also b l) ∷ k) = wrong
close_empty (in_marked l ∷ k) = wrong

unfoldable pub next_item : List Frame → Tree → State
unfolding snoc
next_item [] a = wrong
next_item (bracket ∷ k) a = wrong
next_item (left b o ∷ k) a = wrong
next_item (in_list o l ∷ k) a = wants (in_list o (snoc l a) ∷ k)
next_item (in_marked l ∷ k) a = wrong

unfoldable pub close_list : List Frame → Tree → State
unfolding count snoc
close_list [] a = wrong
close_list (bracket ∷ k) a = wrong
close_list (left b o ∷ k) a = wrong
close_list (in_list o l ∷ k) a = pick (eqb (count (snoc l a)) 2) wrong (has k (many o (snoc l a)))
close_list (in_marked l ∷ k) a = wrong

unfoldable pub next_branch : List Frame → Tree → State
unfolding snoc
next_branch [] a = wrong
next_branch (bracket ∷ k) a = wrong
next_branch (left b o ∷ k) a = wrong
next_branch (in_list o l ∷ k) a = wrong
next_branch (in_marked l ∷ k) a = wants (in_marked (snoc l a) ∷ k)

unfoldable pub close_marked : List Frame → Tree → State
unfolding count snoc
close_marked [] a = wrong
close_marked (bracket ∷ k) a = wrong
close_marked (left b o ∷ k) a = wrong
close_marked (in_list o l ∷ k) a = wrong
close_marked (in_marked l ∷ k) a = pick (branches (count (snoc l a))) (has k (marked (snoc l a))) wrong

unfoldable pub close_bracket : List Frame → Tree → State
close_bracket [] a = wrong
close_bracket (bracket ∷ k) a = has k a
close_bracket (left b o ∷ k) a = wrong
close_bracket (in_list o l ∷ k) a = wrong
close_bracket (in_marked l ∷ k) a = wrong

abbrev pub at : (List Frame → Tree → State) → Top → State
at f s = f s.frames s.value

unfoldable pub step : List ℕ → State → Mark → State
unfolding reduce close_empty next_item close_list next_branch close_marked close_bracket
step t (wants k) (literal v o) = has k (lit o v)
step t (wants k) (between o) = wrong
step t (wants k) (list o) = wants (in_list o none ∷ k)
step t (wants k) next = wrong
step t (wants k) close = close_empty k
step t (wants k) opens = wants (bracket ∷ k)
step t (wants k) shuts = wrong
step t (wants k) begin = wants (in_marked none ∷ k)
step t (wants k) or = wrong
step t (wants k) end = wrong
step t (has k a) (literal v o) = wrong
step t (has k a) (between o) = push o (reduce t (left_level t (prec_of t o)) k a)
step t (has k a) (list o) = wrong
step t (has k a) next = at next_item (reduce t 0 k a)
step t (has k a) close = at close_list (reduce t 0 k a)
step t (has k a) opens = wrong
step t (has k a) shuts = at close_bracket (reduce t 0 k a)
step t (has k a) begin = wrong
step t (has k a) or = at next_branch (reduce t 0 k a)
step t (has k a) end = at close_marked (reduce t 0 k a)
step t wrong c = wrong

unfoldable pub run : List ℕ → State → List Mark → State
unfolding step
run t s [] = s
run t s (c ∷ r) = run t (step t s c) r

-- "17 for a text that is not a formula"
unfoldable pub alone : List Frame → Tree → Res Tree
alone [] a = ok a
alone (f ∷ k) a = refused 17

unfoldable pub finish : List ℕ → State → Res Tree
unfolding alone reduce
finish t (wants k) = refused 17
finish t (has k a) = alone (reduce t 0 k a).frames (reduce t 0 k a).value
finish t wrong = refused 17

unfoldable pub read_marks : List ℕ → List Mark → Res Tree
unfolding finish run
read_marks t s = finish t (run t (wants []) s)
