-- What writing a card leaves: "in writing 18 comes before 14"; after a refusal the output is as it was.
use Rattle.std.specs.Prelude.{Result, Ok, Err, ◌≡◌, List, ℕ, ◌≤◌, length, take}
use Rattle.spec.specs.Bytes.{Res, ok, refused}
use Rattle.spec.specs.Merge.{output_after}
use Rattle.formula.specs.Lexer.{write_card}
use Rattle.terms.specs.Buffers.{pool_of, count_in}
use Rattle.card_judge.specs.Bound.{cleared}
use Rattle.card_writer.specs.declared.Unwritten.{Unwritten}
use Rattle.card_writer.specs.declared.Unwritten.TheVariants as U

-- the first n bytes of the output afterwards, or the refusal
abbrev pub answer_of : List ℕ → Result ℕ Unwritten → Res (List ℕ)
answer_of out (Ok n) = ok (take n out)
answer_of out (Err U.Unsigned) = refused 18
answer_of out (Err U.Full) = refused 14

abbrev pub Inside : List ℕ → Result ℕ Unwritten → Type 0
Inside out (Ok n) = n ≤ length out
Inside out (Err U.Unsigned) = Unit
Inside out (Err U.Full) = Unit

pub record Writes (t terms runs : List ℕ) (root : ℕ) (marks out marks' out' : List ℕ) (r : Result ℕ Unwritten) : Type 0 where
  pub answer : answer_of out' r ≡ write_card t (pool_of terms runs) root (length out)
  pub output : out' ≡ output_after out (write_card t (pool_of terms runs) root (length out))
  pub inside : Inside out' r
  pub marked : marks' ≡ cleared (count_in terms) marks
