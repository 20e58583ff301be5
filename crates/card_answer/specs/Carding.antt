-- What the parts of program `card` leave for each other.
use Rattle.std.specs.Prelude.{Result, Ok, Err, ◌≡◌, true, List, [], ◌∷◌, ◌++◌, ℕ, ◌+◌, ◌-◌, ◌≤◌, length, take, drop, set}
use Rattle.spec.specs.Bytes.{be2, be4, place, Res, ok, refused, rule, ◌>>=◌}
use Rattle.spec.specs.Pool.{Pool, RUNS}
use Rattle.spec.specs.Run.{document_limits}
use Rattle.spec.specs.Merge.{OUTPUT, merge_of}
use Rattle.formula.specs.Lexer.{write_card}
use Rattle.formula.specs.Lines.{read_lines}
use Rattle.formula.specs.Programs.{tabled, table_of, behind, asked, LISTING, behind_first, card_written}
use Rattle.terms.specs.Buffers.{pool_of}
use Rattle.terms.specs.Chains.{Holds, Rooms}
use Rattle.contract.specs.Merges.{fit_of}
use Rattle.frames.specs.Frame.{refusal_bytes}
use Rattle.frames.specs.Printing.{Front}
use Rattle.card_contract.specs.Calls.{Answers}
use Rattle.card_contract.specs.declared.Answer.{Answer}
use Rattle.card_contract.specs.declared.Answer.TheVariants.{Text, Refused}
use Rattle.term_lines.specs.declared.Fault.{Fault}
use Rattle.term_lines.specs.declared.Fault.TheVariants as F

-- room for the runs of a line, and for the pool
pub record Staged (list terms runs : List ℕ) : Type 0 where
  pub staged : RUNS ≤ length list
  pub rooms : Rooms document_limits terms runs

-- .. and for the merge
pub record Lent (graph pairs work flow terms runs : List ℕ) : Type 0 where
  pub fit : fit_of 256 (length graph) (length pairs) (length work) (length flow) (length terms) (length runs) ≡ true
  pub marks : 32768 ≤ length graph
  pub staged : Staged work terms runs

-- what was read of lines, as the answer
abbrev pub merged_as : Result Unit Fault → Result Unit ℕ
merged_as (Ok tt) = Ok tt
merged_as (Err F.Broken) = Err 17
merged_as (Err F.Full) = Err 13

-- the pool that the buffers hold, or a refusal
abbrev pub merged_of : Pool → Result Unit ℕ → Res Pool
merged_of p (Ok tt) = ok p
merged_of p (Err k) = refused k

-- what is read of a listing's lines
pub record ReadsBehind (listing terms' runs' : List ℕ) (r : Result Unit ℕ) : Type 0 where
  pub answer : merged_of (pool_of terms' runs') r ≡ read_lines document_limits (behind_first listing)
  pub holds : Holds terms' runs'

-- what is read of the merge that the input q of program `merge` asks for
abbrev pub lines_asked : List ℕ → Res Pool
lines_asked q = merge_of true (take (be4 q 0 + 4) q) (be2 q (be4 q 0 + 4)) (be2 q (be4 q 0 + 4 + 2)) (be4 q (be4 q 0 + 4 + 4)) LISTING >>= λ l. read_lines document_limits (behind_first l)

pub record LoadsMerge (q terms' runs' : List ℕ) (r : Result Unit ℕ) : Type 0 where
  pub answer : merged_of (pool_of terms' runs') r ≡ lines_asked q
  pub holds : r ≡ Ok tt → Holds terms' runs'

-- ---- the answer, without its line feed
unfoldable pub card_asked : List ℕ → Res (List ℕ)
unfolding merge_of place read_lines write_card
card_asked s = do
  _ ← rule 2 (tabled s)
  _ ← rule 2 (asked (behind s))
  p ← lines_asked (behind s)
  write_card (table_of s) p (length p - 1) OUTPUT

-- so many bytes, no more than a card has
abbrev pub Short : Answer → Type 0
Short (Text n) = n ≤ OUTPUT
Short (Refused k) = Unit

pub record AnswersCard (s out out' : List ℕ) (r : Answer) : Type 0 where
  pub answers : Answers (card_asked s) out out' r
  pub short : Short r

-- what is printed of an answer: a card is there already, and gets its line feed
abbrev pub Feeds : List ℕ → List ℕ → Answer → ℕ → Type 0
Feeds out out' (Text n) r = (r ≡ n + 1) × (out' ≡ set out n 10)
Feeds out out' (Refused k) r = Front (refusal_bytes k) out out' r

-- what the program writes
abbrev pub Responds : List ℕ → List ℕ → List ℕ → ℕ → Type 0
Responds input out out' r = Front (card_written input) out out' r
