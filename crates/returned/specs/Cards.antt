-- (02, Paper 1) What a call of `tariff_card` or `tariff_read_card`, the C interface, returns: each case of the answer as numbers.
use Rattle.std.specs.Prelude.{◌≡◌, refl, ◌≢◌, Bool, List, ℕ, ◌≤◌, length}
use Rattle.spec.specs.Bytes.{Res}
use Rattle.spec.specs.Merge.{output_after}
use Rattle.card_contract.specs.Calls.{card_call, read_call}
use Rattle.card_contract.specs.declared.Answer.{Answer}
use Rattle.card_contract.specs.declared.Answer.TheVariants.{Text, Refused}
use Rattle.returned.specs.declared.Returned.{Returned}
use Rattle.returned.specs.declared.CardLengths.{CardLengths}
use Rattle.returned.specs.Returns.{result_of}

-- 0 for a text; a class is said of no card
abbrev pub card_numbers : Answer → Returned
card_numbers (Text n) = record { number = 0; bytes = n; class = 0 }
card_numbers (Refused k) = record { number = k; bytes = 0; class = 0 }

-- A call that comes to m. `out`, `out'`: the output buffer before and after the call.
pub record ReturnsText (m : Res (List ℕ)) (out out' : List ℕ) (r : Returned) : Type 0 where
  pub result : result_of out' r ≡ m
  pub output : out' ≡ output_after out m
  -- the text's bytes are all in the output buffer
  pub room : r.bytes ≤ length out'
  -- the table of refusals
  pub table : r.number ≤ 18
  -- what says nothing is 0
  pub no_text : r.number ≢ 0 → r.bytes ≡ 0
  pub no-class : r.class ≡ 0

-- the card of a listing's lines; the lines of a card. `fit`: no work buffer is below its length.
abbrev pub ReturnsCard : List ℕ → List ℕ → Bool → List ℕ → List ℕ → Returned → Type 0
ReturnsCard table lines fit out out' r = ReturnsText (card_call fit table lines (length out)) out out' r

abbrev pub ReturnsRead : List ℕ → List ℕ → Bool → List ℕ → List ℕ → Returned → Type 0
ReturnsRead table text fit out out' r = ReturnsText (read_call fit table text (length out)) out out' r

-- The lengths of the work buffers that are the same for every text (docs/BUFFERS.md).
abbrev pub card_lengths : CardLengths
card_lengths = record { marks = 32768; terms = 66562; runs = 65536 }

-- the numbers of the header
said-text : card_numbers (Text 3) ≡ record { number = 0; bytes = 3; class = 0 }
said-text = refl

said-refused : card_numbers (Refused 17) ≡ record { number = 17; bytes = 0; class = 0 }
said-refused = refl
