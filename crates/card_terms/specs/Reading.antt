-- What the steps of the code say of the buffers.
use Rattle.std.specs.Prelude.{◌≡◌, ◌⊎◌, Bool, true, false, List, [], ◌∷◌, map, ℕ, ◌+◌, ◌-◌, ◌/◌, ◌%◌, ◌≤◌, ◌<◌, length, get_or, set, Option, Some, None}
use Rattle.spec.specs.Bytes.{Two, Limits, ok}
use Rattle.spec.specs.Pool.{Pool, Node, Interned, interned, join_runs, op_node}
use Rattle.terms.specs.Buffers.{count_in, part, unpack, pool_of}
use Rattle.terms.specs.Chains.{Holds, Rooms}
use Rattle.interning.specs.Growing.{Grows}
use Rattle.formula.specs.Card.{Tree, operations, prec_of}
use Rattle.formula.specs.Lexer.{read_text}
use Rattle.card_terms.specs.Words.{Reached, whole, full, intern_at, Word, bracket, list_head, marked_head, left_child, child, Stack, intern_on, reduce_top, close_on, words_in}

-- ---- a node by its head and its runs, not joined yet: an operation, or a marked place
abbrev pub HeadFormed : ℕ → Type 0
HeadFormed h = (h < 64) ⊎ (h ≡ 128)

abbrev pub head_node : ℕ → List Two → Node
head_node h l = record { head = h / 64; op = h % 64; value = 0; runs = join_runs l }

-- runs of 1 of terms below n
abbrev pub Item : ℕ → ℕ → Type 0
Item n x = (16384 ≤ x) × (x < 32768) × (x < 16384 + n)

unfoldable pub Items : ℕ → List ℕ → Type 0
Items n [] = Unit
Items n (x ∷ l) = Item n x × Items n l

-- ---- a term entered, or refusal 13 at the pool that was reached
abbrev pub reached_term : Option ℕ → Pool → Reached Interned
reached_term (Some a) p = whole (interned p a)
reached_term None p = full p

abbrev pub TermIn : ℕ → Option ℕ → Type 0
TermIn n (Some a) = a < n
TermIn n None = Unit

pub record Enters (lim : Limits) (terms runs terms' runs' : List ℕ) (n : Node) (r : Option ℕ) : Type 0 where
  pub reached : reached_term r (pool_of terms' runs') ≡ intern_at lim (pool_of terms runs) n
  pub grows : Grows terms runs terms' runs' (pool_of terms' runs')
  pub within : TermIn (count_in terms') r

-- The buffers after all that was entered towards a term.
pub record Ends (terms runs terms' runs' : List ℕ) (m : Reached Interned) (r : Option ℕ) : Type 0 where
  pub reached : reached_term r (pool_of terms' runs') ≡ m
  pub grows : Grows terms runs terms' runs' (pool_of terms' runs')

-- it is put on the stack as a run of 1
abbrev pub Placed : List ℕ → ℕ → Option ℕ → List ℕ → Option ℕ → Type 0
Placed frames to (Some a) frames' s = (frames' ≡ set frames to (16384 + a)) × (s ≡ Some (to + 1))
Placed frames to None frames' s = (frames' ≡ frames) × (s ≡ None)

-- ---- the stack
-- its terms are below n
abbrev pub WordBelow : ℕ → Word → Type 0
WordBelow n bracket = Unit
WordBelow n (list_head o) = Unit
WordBelow n marked_head = Unit
WordBelow n (left_child c o) = c < n
WordBelow n (child c) = c < n

unfoldable pub WordsBelow : ℕ → List Word → Type 0
WordsBelow n [] = Unit
WordsBelow n (x ∷ w) = WordBelow n x × WordsBelow n w

-- the operations of its left children are the table's
abbrev pub WordKnown : List ℕ → Word → Type 0
WordKnown t bracket = Unit
WordKnown t (list_head o) = Unit
WordKnown t marked_head = Unit
WordKnown t (left_child c o) = o < operations t
WordKnown t (child c) = Unit

unfoldable pub Known : List ℕ → List Word → Type 0
Known t [] = Unit
Known t (x ∷ w) = WordKnown t x × Known t w

-- what is on top is no left child
abbrev pub Topped : List Word → Type 0
Topped [] = ⊥
Topped (bracket ∷ w) = Unit
Topped (list_head o ∷ w) = Unit
Topped (marked_head ∷ w) = Unit
Topped (left_child c o ∷ w) = ⊥
Topped (child c ∷ w) = Unit

-- a list or a marked place is below the terms on top
unfoldable pub Closes : List Word → Type 0
Closes [] = ⊥
Closes (bracket ∷ w) = ⊥
Closes (list_head o ∷ w) = Unit
Closes (marked_head ∷ w) = Unit
Closes (left_child c o ∷ w) = ⊥
Closes (child c ∷ w) = Closes w

-- The buffers hold a pool with room within the limits, and a stack over it.
pub record Standing (lim : Limits) (terms runs frames : List ℕ) (top : ℕ) : Type 0 where
  pub holds : Holds terms runs
  pub rooms : Rooms lim terms runs
  pub inside : top ≤ length frames
  pub below : WordsBelow (count_in terms) (words_in frames top)

abbrev pub StandingAt : Limits → List ℕ → List ℕ → List ℕ → ℕ → Option ℕ → Type 0
StandingAt lim terms runs frames most (Some n) = Standing lim terms runs frames n × (n ≤ most)
StandingAt lim terms runs frames most None = Unit

abbrev pub reached_stack : Option ℕ → Pool → List ℕ → Reached Stack
reached_stack (Some n) p frames = whole (p, words_in frames n)
reached_stack None p frames = full p

-- The buffers after steps that reach m: no more than `most` words.
pub record Steps (lim : Limits) (terms runs terms' runs' frames' : List ℕ) (most : ℕ) (m : Reached Stack) (s : Option ℕ) : Type 0 where
  pub reached : reached_stack s (pool_of terms' runs') frames' ≡ m
  pub grows : Grows terms runs terms' runs' (pool_of terms' runs')
  pub stands : StandingAt lim terms' runs' frames' most s

-- ---- where the items of the list or marked place on top begin
pub record Heads (frames : List ℕ) (top r : ℕ) : Type 0 where
  pub some : 0 < r
  pub inside : r ≤ top
  pub formed : HeadFormed (get_or frames (r - 1) 0)
  pub items : (i : ℕ) → r ≤ i → i < top → (16384 ≤ get_or frames i 0) × (get_or frames i 0 < 32768)
  pub closed : (lim : Limits) (p : Pool) → close_on lim p (words_in frames top) [] ≡ intern_on lim p (head_node (get_or frames (r - 1) 0) (map unpack (part frames r (top - r)))) (words_in frames (r - 1))

-- ---- a term on top, and a left child below it
pub record LeftBelow (frames : List ℕ) (n : ℕ) : Type 0 where
  pub two : 2 ≤ n
  pub term : 16384 ≤ get_or frames (n - 1) 0
  pub small : get_or frames (n - 1) 0 < 32768
  pub left : 32768 ≤ get_or frames (n - 2) 0
  pub known : get_or frames (n - 2) 0 / 16384 - 2 < 64

-- the two as an operation's term
abbrev pub reduced_once : Limits → Pool → List ℕ → ℕ → Reached Stack
reduced_once lim p frames n = intern_on lim p (op_node (get_or frames (n - 2) 0 / 16384 - 2) ((get_or frames (n - 2) 0 % 16384, 1) ∷ (get_or frames (n - 1) 0 - 16384, 1) ∷ [])) (words_in frames (n - 2))

-- whether they are to be finished at m
abbrev pub Waits : List ℕ → ℕ → List ℕ → ℕ → Bool → Type 0
Waits t m frames n true = LeftBelow frames n × (m ≤ prec_of t (get_or frames (n - 2) 0 / 16384 - 2))
Waits t m frames n false = (lim : Limits) (p : Pool) → reduce_top lim t m p (words_in frames n) ≡ whole (p, words_in frames n)

-- a text that is a formula
abbrev pub Reads : List ℕ → List ℕ → Type 0
Reads t s = (a : Tree) × (read_text t s ≡ ok a)
