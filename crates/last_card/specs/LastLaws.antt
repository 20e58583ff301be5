-- What was written of a card, as the answer of a call.
use Rattle.std.specs.Prelude.{Result, Ok, Err, ◌≡◌, List, ℕ, length}
use Rattle.formula.specs.Lexer.{write_card}
use Rattle.terms.specs.Buffers.{pool_of, count_in}
use Rattle.card_judge.specs.Bound.{cleared}
use Rattle.card_contract.specs.Calls.{Answers}
use Rattle.card_contract.specs.declared.Answer.{Answer}
use Rattle.card_contract.specs.declared.Answer.TheVariants.{Text, Refused}
use Rattle.card_writer.specs.Writes.{Writes}
use Rattle.card_writer.specs.declared.Unwritten.{Unwritten}
use Rattle.card_writer.specs.declared.Unwritten.TheVariants as U

abbrev pub answer_as : Result ℕ Unwritten → Answer
answer_as (Ok n) = Text n
answer_as (Err U.Unsigned) = Refused 18
answer_as (Err U.Full) = Refused 14

answers-as : (t terms runs : List ℕ) (root : ℕ) (marks out marks' out' : List ℕ) (w : Result ℕ Unwritten) → Writes t terms runs root marks out marks' out' w → Answers (write_card t (pool_of terms runs) root (length out)) out out' (answer_as w)
answers-as t terms runs root marks out marks' out' (Ok n) A = record { answer = A.answer; output = A.output; inside = A.inside }
answers-as t terms runs root marks out marks' out' (Err U.Unsigned) A = record { answer = A.answer; output = A.output; inside = tt }
answers-as t terms runs root marks out marks' out' (Err U.Full) A = record { answer = A.answer; output = A.output; inside = tt }

pub answers-last : (t terms runs : List ℕ) (root last : ℕ) (marks out marks' out' : List ℕ) (w : Result ℕ Unwritten) (a : Answer) → root ≡ last → a ≡ answer_as w → Writes t terms runs root marks out marks' out' w
    → Answers (write_card t (pool_of terms runs) last (length out)) out out' a × (marks' ≡ cleared (count_in terms) marks)
answers-last t terms runs root last marks out marks' out' w a e f A = (rw (f, ← e) (answers-as t terms runs root marks out marks' out' w A), A.marked)
