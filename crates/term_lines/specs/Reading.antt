-- A line's parts as the code reads them, and what the functions answer: the rest of the text stands at the place that they answer, the runs at the front of a buffer.
use Rattle.std.specs.Prelude.{Option, Result, Ok, Err, ◌≡◌, true, false, List, [], ◌∷◌, map, ℕ, ◌≤◌, ◌<◌, ltb, eqb, length, drop}
use Rattle.spec.specs.Bytes.{pick, both, Two, text, ok, refused, rule, ◌>>=◌}
use Rattle.spec.specs.Pool.{Node, OP, LIT, VARIANTS, RUNS, expanded_length}
use Rattle.formula.specs.Lines.{Cut, cut_word, cut_number, runs_at}
use Rattle.terms.specs.Buffers.{part, unpack, node_of}
use Rattle.text_cut.specs.Cutting.{number_of, NumberBehind}
use Rattle.term_lines.specs.declared.Fault.{Fault}
use Rattle.term_lines.specs.declared.Fault.TheVariants as F

-- ---- one run
unfoldable pub cut_child : ℕ → ℕ → List ℕ → Cut ℕ
cut_child k last s = do
  a ← cut_word (text " ") s
  c ← cut_number 16383 a
  _ ← rule 17 (both (ltb c.0 k) (pick (eqb c.0 last) false true))
  ok c

unfoldable pub cut_count : ℕ → List ℕ → Cut ℕ
cut_count left s = do
  b ← cut_word (text ":") s
  n ← cut_number left b
  _ ← rule 17 (ltb 0 n.0)
  ok n

pub record CutsChild (k last : ℕ) (s : List ℕ) (at : ℕ) (r : Option (ℕ × ℕ)) : Type 0 where
  pub answer : number_of s r ≡ cut_child k last (drop at s)
  pub behind : NumberBehind 16383 s at r

pub record CutsCount (left : ℕ) (s : List ℕ) (at : ℕ) (r : Option (ℕ × ℕ)) : Type 0 where
  pub answer : number_of s r ≡ cut_count left (drop at s)
  pub behind : NumberBehind left s at r

-- ---- the runs of a line
abbrev pub runs_of : List ℕ → List ℕ → Result (ℕ × ℕ × ℕ) Fault → Cut (List Two)
runs_of s list (Ok (n, t, e)) = ok (map unpack (part list 0 n), drop e s)
runs_of s list (Err F.Broken) = refused 17
runs_of s list (Err F.Full) = refused 13

-- the place is a place of the text behind `at`; the counts together
abbrev pub RunsBehind : List ℕ → ℕ → List ℕ → Result (ℕ × ℕ × ℕ) Fault → Type 0
RunsBehind s at list (Ok (n, t, e)) = (at < e) × (e ≤ length s) × (n ≤ RUNS) × (t ≡ expanded_length (map unpack (part list 0 n)))
RunsBehind s at list (Err F.Broken) = Unit
RunsBehind s at list (Err F.Full) = Unit

pub record CutsRuns (k : ℕ) (s : List ℕ) (at : ℕ) (list : List ℕ) (r : Result (ℕ × ℕ × ℕ) Fault) : Type 0 where
  pub answer : runs_of s list r ≡ runs_at k (drop at s)
  pub behind : RunsBehind s at list r

-- ---- the three forms of a line behind its first word; a marked place from its word on
unfoldable pub lit_at : List ℕ → Cut Node
lit_at s = do
  o ← cut_number 63 s
  b ← cut_word (text " ") o.1
  v ← cut_number 4294967295 b
  e ← cut_word (10 ∷ []) v.1
  ok (record { head = LIT; op = o.0; value = v.0; runs = [] }, e)

unfoldable pub op_at : ℕ → List ℕ → Cut Node
op_at k s = do
  o ← cut_number 63 s
  l ← runs_at k o.1
  ok (record { head = OP; op = o.0; value = 0; runs = l.0 }, l.1)

unfoldable pub variants_at : ℕ → List ℕ → Cut Node
variants_at k s = do
  a ← cut_word (text " variants") s
  l ← runs_at k a
  _ ← rule 17 (eqb (expanded_length l.0) 2)
  ok (record { head = VARIANTS; op = 0; value = 0; runs = l.0 }, l.1)

-- ---- a line's node
abbrev pub line_of : List ℕ → List ℕ → Result (ℕ × ℕ × ℕ × ℕ) Fault → Cut Node
line_of s list (Ok (h, v, n, e)) = ok (node_of h v (part list 0 n), drop e s)
line_of s list (Err F.Broken) = refused 17
line_of s list (Err F.Full) = refused 13

abbrev pub LineBehind : List ℕ → ℕ → Result (ℕ × ℕ × ℕ × ℕ) Fault → Type 0
LineBehind s at (Ok (h, v, n, e)) = (at < e) × (e ≤ length s) × (n ≤ RUNS)
LineBehind s at (Err F.Broken) = Unit
LineBehind s at (Err F.Full) = Unit

-- what the definitions cut there
pub record CutsLine (m : Cut Node) (s : List ℕ) (at : ℕ) (list : List ℕ) (r : Result (ℕ × ℕ × ℕ × ℕ) Fault) : Type 0 where
  pub answer : line_of s list r ≡ m
  pub behind : LineBehind s at r
