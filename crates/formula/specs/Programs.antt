-- Programs `card` and `read_card`: from the bytes of their input to the bytes that they write; and the card of a merge.
use Rattle.std.specs.Prelude.{Bool, true, List, [], ◌∷◌, ◌++◌, ℕ, suc, ◌+◌, ltb, leb, eqb, length, take, drop}
use Rattle.spec.specs.Bytes.{pick, both, be2, be4, place, Limits, Res, ok, ◌>>=◌, rule}
use Rattle.spec.specs.Image.{image_of}
use Rattle.spec.specs.Transport.{plan_size, plan_mass}
use Rattle.spec.specs.Action.{joins}
use Rattle.spec.specs.Pool.{starting_term}
use Rattle.spec.specs.System as system
use Rattle.spec.specs.Pairs.{offers_of, action_term}
use Rattle.spec.specs.Run.{Outcome, limits_for, document_limits, run_of}
use Rattle.spec.specs.Merge.{INPUT, OUTPUT, merge_of, printed}
use Rattle.spec.specs.declared.Caller.{Caller}
use Rattle.spec.specs.declared.Caller.TheVariants.{Desk}
use Rattle.formula.specs.Lexer.{write_card}
use Rattle.formula.specs.Lines.{card_of_lines, lines_of_card}

-- ---- the card of a merge: `merge_under` (crate spec) with a card in place of the listing. "1 to 11, then 12 and 13 as met", 18, 14
unfoldable pub outcome_under : Limits → List ℕ → ℕ → ℕ → ℕ → Res Outcome
unfolding image_of system.run_of action_term joins offers_of plan_mass plan_size starting_term
outcome_under lim image left right budget = do
  t ← image_of image
  _ ← rule 11 (both (ltb left (length t.classes)) (ltb right (length t.classes)))
  run_of lim t (left, right) budget

unfoldable pub card_for : Caller → List ℕ → List ℕ → ℕ → ℕ → ℕ → ℕ → Res (List ℕ)
unfolding outcome_under write_card
card_for c t image left right budget room = do
  o ← outcome_under (limits_for c) image left right budget
  write_card t o.pool o.root room

-- ---- the input of both: a 4-byte length, a table of so many bytes, and what follows; "input above 65,536 bytes is `refused 2`"
abbrev pub tabled : List ℕ → Bool
tabled s = both (leb (length s) INPUT) (both (leb 4 (length s)) (leb (be4 s 0 + 4) (length s)))

abbrev pub table_of : List ℕ → List ℕ
table_of s = take (be4 s 0) (drop 4 s)

abbrev pub behind : List ℕ → List ℕ
behind s = drop (be4 s 0 + 4) s

-- ---- program `card`: the table, then what program `merge` reads; "prints the card and a line feed, or `refused N`"
abbrev pub asked : List ℕ → Bool
asked q = both (leb 4 (length q)) (eqb (be4 q 0 + 4 + 8) (length q))

unfoldable pub card_to : List ℕ → Res (List ℕ)
unfolding card_for
card_to s = do
  _ ← rule 2 (tabled s)
  let q = behind s
  let n = be4 q 0 + 4
  _ ← rule 2 (asked q)
  c ← card_for Desk (table_of s) (take n q) (be2 q n) (be2 q (n + 2)) (be4 q (n + 4)) OUTPUT
  ok (c ++ (10 ∷ []))

unfoldable pub card_program : List ℕ → List ℕ
unfolding card_to printed
card_program s = printed (card_to s)

-- The same by way of the listing, as the code does it: the merge's listing is written into a buffer of LISTING bytes, its lines are read, and the card of their term is written. Crate own_lines proves that it is the same wherever the listing has room there.
abbrev pub LISTING : ℕ
LISTING = 400000

-- the lines behind the first one
abbrev pub behind_first : List ℕ → List ℕ
behind_first l = drop (suc (place (eqb 10) l)) l

unfoldable pub card_by_lines : List ℕ → Res (List ℕ)
unfolding card_of_lines merge_of place
card_by_lines s = do
  _ ← rule 2 (tabled s)
  let q = behind s
  let n = be4 q 0 + 4
  _ ← rule 2 (asked q)
  l ← merge_of true (take n q) (be2 q n) (be2 q (n + 2)) (be4 q (n + 4)) LISTING
  c ← card_of_lines document_limits (table_of s) (behind_first l) OUTPUT
  ok (c ++ (10 ∷ []))

unfoldable pub card_written : List ℕ → List ℕ
unfolding card_by_lines printed
card_written s = printed (card_by_lines s)

-- ---- program `read_card`: the table, then a text, "one line feed at its end is dropped"; "prints the lines of the term's listing (without a first line), or `refused N`"
unfoldable pub unended : List ℕ → List ℕ
unended [] = []
unended (c ∷ []) = pick (eqb c 10) [] (c ∷ [])
unended (c ∷ d ∷ s) = c ∷ unended (d ∷ s)

unfoldable pub lines_to : List ℕ → Res (List ℕ)
unfolding lines_of_card unended
lines_to s = do
  _ ← rule 2 (tabled s)
  lines_of_card document_limits (table_of s) (unended (behind s)) OUTPUT

unfoldable pub lines_program : List ℕ → List ℕ
unfolding lines_to printed
lines_program s = printed (lines_to s)
