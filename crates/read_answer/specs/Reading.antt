-- What program `read_card` writes for an input, as a function on lent buffers.
use Rattle.std.specs.Prelude.{◌≡◌, true, List, ℕ, length}
use Rattle.spec.specs.Run.{document_limits}
use Rattle.formula.specs.Lines.{lines_of_card}
use Rattle.formula.specs.Programs.{table_of, behind, unended, lines_program}
use Rattle.frames.specs.Frame.{refusal_bytes}
use Rattle.frames.specs.Printing.{Front}
use Rattle.card_contract.specs.Calls.{fit_of, Answers}
use Rattle.card_contract.specs.declared.Answer.{Answer}
use Rattle.card_contract.specs.declared.Answer.TheVariants.{Text, Refused}

-- the buffers that the program lends
pub record Lent (frames marks terms runs : List ℕ) : Type 0 where
  pub fit : fit_of 65536 (length frames) (length marks) (length terms) (length runs) ≡ true

-- the call for an input with a table
abbrev pub Asks : List ℕ → List ℕ → List ℕ → Answer → Type 0
Asks s out out' r = Answers (lines_of_card document_limits (table_of s) (unended (behind s)) (length out)) out out' r

-- what is printed of an answer: lines are there already
abbrev pub Prints : List ℕ → List ℕ → Answer → ℕ → Type 0
Prints out out' (Text n) r = (r ≡ n) × (out' ≡ out)
Prints out out' (Refused k) r = Front (refusal_bytes k) out out' r

-- what the program writes
abbrev pub Responds : List ℕ → List ℕ → List ℕ → ℕ → Type 0
Responds input out out' r = Front (lines_program input) out out' r
