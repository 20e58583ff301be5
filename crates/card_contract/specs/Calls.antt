-- What the two calls about cards give and leave: the contracts of `card_of_lines` and `lines_of_card` (crate cards).
use Rattle.std.specs.Prelude.{◌≡◌, Bool, List, ℕ, ◌≤◌, ltb, leb, length, take}
use Rattle.spec.specs.Bytes.{both, work_after, Res, ok, refused, ◌>>=◌, rule}
use Rattle.spec.specs.Run.{document_limits}
use Rattle.spec.specs.Merge.{output_after}
use Rattle.formula.specs.Lines.{card_of_lines, lines_of_card}
use Rattle.card_contract.specs.declared.Answer.{Answer}
use Rattle.card_contract.specs.declared.Answer.TheVariants.{Text, Refused}

-- the first n bytes of the output buffer afterwards, or "Returned"
abbrev pub answer_of : List ℕ → Answer → Res (List ℕ)
answer_of out (Text n) = ok (take n out)
answer_of out (Refused k) = refused k

abbrev pub Inside : List ℕ → Answer → Type 0
Inside out (Text n) = n ≤ length out
Inside out (Refused k) = Unit

-- The work buffers: whether none is below its length (docs/BUFFERS.md). `frames` has one number for each byte of a card that is read, since no paper limits a text, and 65,536 for the runs of a line.
abbrev pub fit_of : ℕ → ℕ → ℕ → ℕ → ℕ → Bool
fit_of least frames marks terms runs = both (leb least frames) (both (leb 32768 marks) (both (leb 66562 terms) (leb 65536 runs)))

abbrev pub fits_lines : List ℕ → List ℕ → List ℕ → List ℕ → Bool
fits_lines frames marks terms runs = fit_of 65536 (length frames) (length marks) (length terms) (length runs)

-- (a text of 2^48 bytes has no frames: they would take more than the address space)
abbrev pub fits_text : List ℕ → List ℕ → List ℕ → List ℕ → List ℕ → Bool
fits_text text frames marks terms runs = both (ltb (length text) 281474976710656) (fit_of (length text) (length frames) (length marks) (length terms) (length runs))

-- 1, then what the lines or the text give: "in writing 18 comes before 14", "in reading 17 comes before 13"
unfoldable pub card_call : Bool → List ℕ → List ℕ → ℕ → Res (List ℕ)
unfolding card_of_lines
card_call fit table lines room = do
  _ ← rule 1 fit
  card_of_lines document_limits table lines room

unfoldable pub read_call : Bool → List ℕ → List ℕ → ℕ → Res (List ℕ)
unfolding lines_of_card
read_call fit table text room = do
  _ ← rule 1 fit
  lines_of_card document_limits table text room

-- A call that comes to m: its answer, and the output buffer before and after it.
pub record Answers (m : Res (List ℕ)) (out out' : List ℕ) (r : Answer) : Type 0 where
  pub answer : answer_of out' r ≡ m
  pub output : out' ≡ output_after out m
  pub inside : Inside out' r

-- the card of a listing's lines; the lines of a card
abbrev pub Cards : List ℕ → List ℕ → Bool → List ℕ → List ℕ → Answer → Type 0
Cards table lines fit out out' r = Answers (card_call fit table lines (length out)) out out' r

abbrev pub Reads : List ℕ → List ℕ → Bool → List ℕ → List ℕ → Answer → Type 0
Reads table text fit out out' r = Answers (read_call fit table text (length out)) out out' r

-- The work buffers before and after: "every number zero", and as they were where one was too short.
pub record Cleared (fit : Bool) (a a' b b' c c' d d' : List ℕ) : Type 0 where
  pub frames : a' ≡ work_after 0 fit a
  pub marks : b' ≡ work_after 0 fit b
  pub terms : c' ≡ work_after 0 fit c
  pub runs : d' ≡ work_after 0 fit d
