-- Programs `card` and `read_card` by evaluation: image E (document 01) with a table, and every way to break the frame.
use Rattle.std.specs.Prelude.{◌≡◌, refl, List, [], ◌∷◌, ◌++◌, ℕ, ◌/◌, ◌%◌, length, replicate, take}
use Rattle.spec.specs.Bytes.{text}
use Rattle.spec.specs.Asked.{hex}
use Rattle.formula.specs.Cases.{entry}
use Rattle.formula.specs.Programs.{card_program, card_by_lines, card_to, lines_program, unended}

unfoldable image_e : List ℕ
unfolding hex
image_e = hex "000000790100020004000400040900ffff0200ffff0000000100000000000100010001000100000001000200010002000000030003000100030000000300000000000500000000000000000007000000000001000000000000000200010000000000020002000000000001000100000001000000000001000000000001"

-- operation 0 has no sign, operation 1 `+` with precedence 1; nine groupings to the left
abbrev table : List ℕ
table = replicate 9 0 ++ (entry "" 0 ++ entry "+" 1)

-- a table with its length; a query of left, right and a budget below 256
abbrev framed : List ℕ → List ℕ
framed t = 0 ∷ 0 ∷ length t / 256 ∷ length t % 256 ∷ t

abbrev query : ℕ → ℕ → ℕ → List ℕ
query l r b = 0 ∷ l ∷ 0 ∷ r ∷ 0 ∷ 0 ∷ 0 ∷ b ∷ []

abbrev input : List ℕ → List ℕ → List ℕ
input t q = framed t ++ (image_e ++ q)

-- "prints the card and a line feed, or `refused N`": complete, cut short; 11; 18 for `+` without a sign; no table at all; a missing query, an overlong one; a table that is shorter than its length; nothing; the merge's own refusals
cards : (card_program (input table (query 2 3 14)) ≡ text "5#0 + {7#0 | 5#0}\n")
    × (card_program (input table (query 2 3 0)) ≡ text "{5#0 + 7#0 | 5#0 + 5#0}\n")
    × (card_program (input table (query 0 0 14)) ≡ text "5#0\n")
    × (card_program (input [] (query 0 1 14)) ≡ text "{5#0 | 7#0}\n")
    × (card_program (input table (query 2 4 14)) ≡ text "refused 11\n")
    × (card_program (input (take 26 table) (query 2 3 14)) ≡ text "refused 18\n")
    × (card_program (input [] (query 2 3 14)) ≡ text "refused 18\n")
    × (card_program (framed table ++ image_e) ≡ text "refused 2\n")
    × (card_program (input table (query 2 3 14) ++ (0 ∷ [])) ≡ text "refused 2\n")
    × (card_program (0 ∷ 0 ∷ 0 ∷ 1 ∷ []) ≡ text "refused 2\n")
    × (card_program [] ≡ text "refused 2\n")
    × (card_program (framed table) ≡ text "refused 2\n")
    × (card_program (framed table ++ (0 ∷ 0 ∷ 0 ∷ 0 ∷ query 2 3 14)) ≡ text "refused 2\n")
unfolding text entry image_e card_program
cards = (refl, refl, refl, refl, refl, refl, refl, refl, refl, refl, refl, refl, refl)

-- by way of the listing the same
by_lines : (card_by_lines (input table (query 2 3 14)) ≡ card_to (input table (query 2 3 14)))
    × (card_by_lines (input table (query 2 3 2)) ≡ card_to (input table (query 2 3 2)))
    × (card_by_lines (input [] (query 2 3 14)) ≡ card_to (input [] (query 2 3 14)))
unfolding text entry image_e card_to card_by_lines
by_lines = (refl, refl, refl)

-- "one line feed at its end is dropped": one only
ends : (unended (text "a\n") ≡ text "a") × (unended (text "a") ≡ text "a") × (unended (text "a\n\n") ≡ text "a\n") × (unended (text "\n") ≡ []) × (unended [] ≡ []) × (unended (text "\na") ≡ text "\na")
unfolding text unended
ends = (refl, refl, refl, refl, refl, refl)

-- "prints the lines of the term's listing (without a first line), or `refused N`"
lines : (lines_program (framed table ++ text "5#0 + {7#0 | 5#0}\n") ≡ text "0 lit 0 5\n1 lit 0 7\n2 variants 1:1 0:1\n3 op 1 0:1 2:1\n")
    × (lines_program (framed table ++ text "(5#0) + 5#0") ≡ text "0 lit 0 5\n1 op 1 0:2\n")
    × (lines_program (framed table ++ text "5#0\n\n") ≡ text "refused 17\n")
    × (lines_program (framed table ++ text "\n") ≡ text "refused 17\n")
    × (lines_program (framed table) ≡ text "refused 17\n")
    × (lines_program (framed [] ++ text "5#0 + 5#0") ≡ text "refused 17\n")
    × (lines_program (0 ∷ 0 ∷ 0 ∷ []) ≡ text "refused 2\n")
    × (lines_program (0 ∷ 0 ∷ 0 ∷ 1 ∷ []) ≡ text "refused 2\n")
    × (lines_program (0 ∷ 0 ∷ 0 ∷ 0 ∷ text "5#0") ≡ text "0 lit 0 5\n")
unfolding text entry lines_program
lines = (refl, refl, refl, refl, refl, refl, refl, refl, refl)

-- 65,536 bytes are read, one more is `refused 2`; 65,536 bytes of a text that is no formula are 17
long : (lines_program (0 ∷ 0 ∷ 0 ∷ 0 ∷ replicate 65532 40) ≡ text "refused 17\n") × (lines_program (0 ∷ 0 ∷ 0 ∷ 0 ∷ replicate 65533 40) ≡ text "refused 2\n")
unfolding text lines_program
long = (refl, refl)
