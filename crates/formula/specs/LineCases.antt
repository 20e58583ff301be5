-- Lines of a listing read, by evaluation: the listings that the README shows, and every edge of a line.
use Rattle.std.specs.Prelude.{◌≡◌, refl, List, [], ◌∷◌, ◌++◌, ℕ, replicate}
use Prim.Native.String.{String}
use Rattle.spec.specs.Bytes.{text, each, Limits, Res, ok, refused}
use Rattle.spec.specs.Pool.{Pool, Node, op_node, lit_node, join_runs}
use Rattle.spec.specs.Listing.{lines_of, term_line, visit_term}
use Rattle.formula.specs.Lexer.{marked_node}
use Rattle.formula.specs.Lines.{cut_number, cut_runs, add_lines, read_lines, card_of_lines, lines_of_card}
use Rattle.formula.specs.Cases.{entry}

-- "a term beyond 16,384 or a run beyond 65,536"
abbrev limits : Limits
limits = record { pairs = 4096; terms = 16384; runs = 65536 }

-- so many terms and runs
abbrev within : ℕ → ℕ → Limits
within m n = record { pairs = 4096; terms = m; runs = n }

abbrev read : String → Res Pool
read s = read_lines limits (text s)

-- ---- whole listings, behind their first lines
abbrev five : Node
five = lit_node 0 5

abbrev seven : Node
seven = lit_node 0 7

abbrev image_e : String
image_e = "0 lit 0 5\n1 lit 0 7\n2 variants 1:1 0:1\n3 op 1 0:1 2:1\n"

abbrev pool_e : Pool
pool_e = five ∷ seven ∷ marked_node ((1, 1) ∷ (0, 1) ∷ []) ∷ op_node 1 ((0, 1) ∷ (2, 1) ∷ []) ∷ []

abbrev airport : String
airport = "0 op 2\n1 lit 0 40\n2 lit 0 55\n3 variants 1:1 2:1\n4 op 3 0:1 3:1\n5 lit 0 180\n6 op 1\n7 op 3 5:1 6:1\n8 lit 0 350\n9 lit 0 0\n10 lit 0 500\n11 variants 9:1 10:1\n12 op 4 4:1 7:1 8:1 11:1\n"

abbrev pool_airport : Pool
pool_airport = op_node 2 [] ∷ lit_node 0 40 ∷ lit_node 0 55 ∷ marked_node ((1, 1) ∷ (2, 1) ∷ []) ∷ op_node 3 ((0, 1) ∷ (3, 1) ∷ []) ∷ lit_node 0 180 ∷ op_node 1 [] ∷ op_node 3 ((5, 1) ∷ (6, 1) ∷ []) ∷ lit_node 0 350 ∷ lit_node 0 0 ∷ lit_node 0 500 ∷ marked_node ((9, 1) ∷ (10, 1) ∷ []) ∷ op_node 4 ((4, 1) ∷ (7, 1) ∷ (8, 1) ∷ (11, 1) ∷ []) ∷ []

-- read, and printed again
listings : (read image_e ≡ ok pool_e)
    × (lines_of pool_e 3 ≡ text image_e)
    × (read airport ≡ ok pool_airport)
    × (lines_of pool_airport 12 ≡ text airport)
unfolding text read_lines each term_line visit_term join_runs
listings = (refl, refl, refl, refl)

-- no text; an empty line, before, behind and between; a line feed that is missing, at the end and between; a carriage return; a tab
feeds : (read "" ≡ refused 17)
    × (read "\n" ≡ refused 17)
    × (read "\n0 lit 0 5\n" ≡ refused 17)
    × (read "0 lit 0 5\n\n" ≡ refused 17)
    × (read "0 lit 0 5\n\n1 lit 0 7\n" ≡ refused 17)
    × (read "0 lit 0 5" ≡ refused 17)
    × (read "0 lit 0 5\n1 lit 0 7" ≡ refused 17)
    × (read "0 lit 0 51 lit 0 7\n" ≡ refused 17)
    × (read "0 op 2" ≡ refused 17)
    × (read "0 op 2 " ≡ refused 17)
    × (read "0 lit 0 5\r\n" ≡ refused 17)
    × (read "0 op 2\r\n" ≡ refused 17)
    × (read "0\tlit 0 5\n" ≡ refused 17)
    × (read "0 lit 0 5\n" ≡ ok (five ∷ []))
    × (read "0 op 2\n" ≡ ok (op_node 2 [] ∷ []))
unfolding text read_lines join_runs
feeds = (refl, refl, refl, refl, refl, refl, refl, refl, refl, refl, refl, refl, refl, refl, refl)

-- a line's number: another one, a leading zero, none, a sign; ten lines and one more
numbers : (read "1 lit 0 5\n" ≡ refused 17)
    × (read "0 lit 0 5\n0 lit 0 7\n" ≡ refused 17)
    × (read "0 lit 0 5\n2 lit 0 7\n" ≡ refused 17)
    × (read "00 lit 0 5\n" ≡ refused 17)
    × (read "0 lit 0 5\n01 lit 0 7\n" ≡ refused 17)
    × (read " lit 0 5\n" ≡ refused 17)
    × (read "lit 0 5\n" ≡ refused 17)
    × (read "+0 lit 0 5\n" ≡ refused 17)
    × (read "x lit 0 5\n" ≡ refused 17)
    × (read "0 op 0\n1 op 1\n2 op 2\n3 op 3\n4 op 4\n5 op 5\n6 op 6\n7 op 7\n8 op 8\n9 op 9\n10 op 10\n" ≡ ok (op_node 0 [] ∷ op_node 1 [] ∷ op_node 2 [] ∷ op_node 3 [] ∷ op_node 4 [] ∷ op_node 5 [] ∷ op_node 6 [] ∷ op_node 7 [] ∷ op_node 8 [] ∷ op_node 9 [] ∷ op_node 10 [] ∷ []))
    × (read "0 op 0\n1 op 1\n2 op 2\n3 op 3\n4 op 4\n5 op 5\n6 op 6\n7 op 7\n8 op 8\n9 op 9\n1 op 10\n" ≡ refused 17)
    × (read "0 op 0\n1 op 1\n2 op 2\n3 op 3\n4 op 4\n5 op 5\n6 op 6\n7 op 7\n8 op 8\n9 op 9\n100 op 10\n" ≡ refused 17)
unfolding text read_lines join_runs
numbers = (refl, refl, refl, refl, refl, refl, refl, refl, refl, refl, refl, refl)

-- a missing space, two spaces, a space in front and behind; other words
spaces : (read "0lit 0 5\n" ≡ refused 17)
    × (read "0 lit0 5\n" ≡ refused 17)
    × (read "0 lit 05\n" ≡ refused 17)
    × (read "0 lit 0\n" ≡ refused 17)
    × (read "0 lit 0 \n" ≡ refused 17)
    × (read "0 lit\n" ≡ refused 17)
    × (read "0  lit 0 5\n" ≡ refused 17)
    × (read "0 lit  0 5\n" ≡ refused 17)
    × (read "0 lit 0  5\n" ≡ refused 17)
    × (read "0 lit 0 5 \n" ≡ refused 17)
    × (read " 0 lit 0 5\n" ≡ refused 17)
    × (read "0 op\n" ≡ refused 17)
    × (read "0 op \n" ≡ refused 17)
    × (read "0 op2\n" ≡ refused 17)
    × (read "0 op  2\n" ≡ refused 17)
    × (read "0 op 2 \n" ≡ refused 17)
    × (read "0 Lit 0 5\n" ≡ refused 17)
    × (read "0 literal 0 5\n" ≡ refused 17)
    × (read "0 ops 2\n" ≡ refused 17)
    × (read "0 lit 0 5\n1 variants0:2\n" ≡ refused 17)
    × (read "0 lit 0 5\n1 variant 0:2\n" ≡ refused 17)
    × (read "0 lit 0 5\n1 variantss 0:2\n" ≡ refused 17)
    × (read "0 lit 0 5\n1 variants  0:2\n" ≡ refused 17)
    × (read "0 lit 0 5\n1 variants 0:2 \n" ≡ refused 17)
    × (read "0 5\n" ≡ refused 17)
    × (read "0\n" ≡ refused 17)
unfolding text read_lines join_runs
spaces = (refl, refl, refl, refl, refl, refl, refl, refl, refl, refl, refl, refl, refl, refl, refl, refl, refl, refl, refl, refl, refl, refl, refl, refl, refl, refl)

-- a literal: no leading zero, no sign, nothing behind; operations up to 63, values up to 4,294,967,295
literals : (read "0 lit 00 5\n" ≡ refused 17)
    × (read "0 lit 01 5\n" ≡ refused 17)
    × (read "0 lit 0 05\n" ≡ refused 17)
    × (read "0 lit 0 00\n" ≡ refused 17)
    × (read "0 lit 0 -5\n" ≡ refused 17)
    × (read "0 lit 0 5a\n" ≡ refused 17)
    × (read "0 lit x 5\n" ≡ refused 17)
    × (read "0 lit 0 5\n1 lit 0 7 0:1\n" ≡ refused 17)
    × (read "0 lit 63 0\n" ≡ ok (lit_node 63 0 ∷ []))
    × (read "0 lit 64 0\n" ≡ refused 17)
    × (read "0 lit 0 4294967295\n" ≡ ok (lit_node 0 4294967295 ∷ []))
    × (read "0 lit 0 4294967296\n" ≡ refused 17)
    × (read "0 lit 0 42949672950\n" ≡ refused 17)
    × (read "0 lit 0 9999999999999999999999999999999999999999\n" ≡ refused 17)
    × (read "0 lit 9999999999999999999999999999999999999999 0\n" ≡ refused 17)
    × (read "0 op 63\n" ≡ ok (op_node 63 [] ∷ []))
    × (read "0 op 64\n" ≡ refused 17)
    × (read "0 op 063\n" ≡ refused 17)
unfolding text read_lines join_runs
literals = (refl, refl, refl, refl, refl, refl, refl, refl, refl, refl, refl, refl, refl, refl, refl, refl, refl, refl)

-- children: lines before, not its own, not a later one; neighbours are not the same line
children : (read "0 op 1 0:1\n" ≡ refused 17)
    × (read "0 lit 0 5\n1 op 1 1:1\n" ≡ refused 17)
    × (read "0 lit 0 5\n1 op 1 2:1\n" ≡ refused 17)
    × (read "0 lit 0 5\n1 op 1 0:1 1:1\n" ≡ refused 17)
    × (read "0 lit 0 5\n1 op 1 16384:1\n" ≡ refused 17)
    × (read "0 lit 0 5\n1 op 1 9999999999999999999999999999999999999999:1\n" ≡ refused 17)
    × (read "0 lit 0 5\n1 op 1 00:1\n" ≡ refused 17)
    × (read "0 lit 0 5\n1 variants 0:1 1:1\n" ≡ refused 17)
    × (read "0 lit 0 5\n1 op 1 0:1\n" ≡ ok (five ∷ op_node 1 ((0, 1) ∷ []) ∷ []))
    × (read "0 lit 0 5\n1 op 1 0:1 0:1\n" ≡ refused 17)
    × (read "0 lit 0 5\n1 lit 0 7\n2 op 1 0:1 1:1 1:1\n" ≡ refused 17)
    × (read "0 lit 0 5\n1 variants 0:1 0:1\n" ≡ refused 17)
    × (read "0 lit 0 5\n1 lit 0 7\n2 op 1 0:1 1:1 0:1\n" ≡ ok (five ∷ seven ∷ op_node 1 ((0, 1) ∷ (1, 1) ∷ (0, 1) ∷ []) ∷ []))
    × (read "0 lit 0 5\n1 lit 0 7\n2 op 1 1:1 0:1\n" ≡ ok (five ∷ seven ∷ op_node 1 ((1, 1) ∷ (0, 1) ∷ []) ∷ []))
unfolding text read_lines join_runs
children = (refl, refl, refl, refl, refl, refl, refl, refl, refl, refl, refl, refl, refl, refl)

-- runs: child, colon, count, one space before each
runs : (read "0 lit 0 5\n1 op 1 0\n" ≡ refused 17)
    × (read "0 lit 0 5\n1 op 1 0:\n" ≡ refused 17)
    × (read "0 lit 0 5\n1 op 1 :1\n" ≡ refused 17)
    × (read "0 lit 0 5\n1 op 1 0;1\n" ≡ refused 17)
    × (read "0 lit 0 5\n1 op 1 0 1\n" ≡ refused 17)
    × (read "0 lit 0 5\n1 op 1 0: 1\n" ≡ refused 17)
    × (read "0 lit 0 5\n1 op 1 0 :1\n" ≡ refused 17)
    × (read "0 lit 0 5\n1 op 10:1\n" ≡ refused 17)
    × (read "0 lit 0 5\n1 op 1  0:1\n" ≡ refused 17)
    × (read "0 lit 0 5\n1 op 1 0:1 \n" ≡ refused 17)
    × (read "0 lit 0 5\n1 op 1 0:1x\n" ≡ refused 17)
    × (read "0 lit 0 5\n1 lit 0 7\n2 op 1 0:1,1:1\n" ≡ refused 17)
    × (read "0 lit 0 5\n1 lit 0 7\n2 op 1 0:11:1\n" ≡ refused 17)
    × (read "0 lit 0 5\n1 lit 0 7\n2 op 1 0:1  1:1\n" ≡ refused 17)
unfolding text read_lines join_runs
runs = (refl, refl, refl, refl, refl, refl, refl, refl, refl, refl, refl, refl, refl, refl)

-- counts: from 1, without a leading zero, together at most 279,172,874,175
counts : (read "0 lit 0 5\n1 op 1 0:0\n" ≡ refused 17)
    × (read "0 lit 0 5\n1 op 1 0:00\n" ≡ refused 17)
    × (read "0 lit 0 5\n1 op 1 0:01\n" ≡ refused 17)
    × (read "0 lit 0 5\n1 op 1 0:279172874175\n" ≡ ok (five ∷ op_node 1 ((0, 279172874175) ∷ []) ∷ []))
    × (read "0 lit 0 5\n1 op 1 0:279172874176\n" ≡ refused 17)
    × (read "0 lit 0 5\n1 op 1 0:2791728741750\n" ≡ refused 17)
    × (read "0 lit 0 5\n1 op 1 0:9999999999999999999999999999999999999999\n" ≡ refused 17)
    × (read "0 lit 0 5\n1 lit 0 7\n2 op 1 0:279172874174 1:1\n" ≡ ok (five ∷ seven ∷ op_node 1 ((0, 279172874174) ∷ (1, 1) ∷ []) ∷ []))
    × (read "0 lit 0 5\n1 lit 0 7\n2 op 1 0:1 1:279172874174\n" ≡ ok (five ∷ seven ∷ op_node 1 ((0, 1) ∷ (1, 279172874174) ∷ []) ∷ []))
    × (read "0 lit 0 5\n1 lit 0 7\n2 op 1 0:279172874174 1:2\n" ≡ refused 17)
    × (read "0 lit 0 5\n1 lit 0 7\n2 op 1 0:1 1:279172874175\n" ≡ refused 17)
    × (read "0 lit 0 5\n1 lit 0 7\n2 op 1 0:279172874175 1:1\n" ≡ refused 17)
    × (read "0 lit 0 5\n1 lit 0 7\n2 op 1 0:279172874175 1:0\n" ≡ refused 17)
    × (read "0 lit 0 5\n1 lit 0 7\n2 op 1 0:279172874173 1:1 0:1\n" ≡ ok (five ∷ seven ∷ op_node 1 ((0, 279172874173) ∷ (1, 1) ∷ (0, 1) ∷ []) ∷ []))
    × (read "0 lit 0 5\n1 lit 0 7\n2 op 1 0:279172874173 1:1 0:2\n" ≡ refused 17)
unfolding text read_lines join_runs
counts = (refl, refl, refl, refl, refl, refl, refl, refl, refl, refl, refl, refl, refl, refl, refl)

-- a marked place: two branches, as one run of 2 or as two runs; not none, one or three
marked : (read "0 variants\n" ≡ refused 17)
    × (read "0 lit 0 5\n1 variants\n" ≡ refused 17)
    × (read "0 lit 0 5\n1 variants 0:1\n" ≡ refused 17)
    × (read "0 lit 0 5\n1 variants 0:2\n" ≡ ok (five ∷ marked_node ((0, 2) ∷ []) ∷ []))
    × (read "0 lit 0 5\n1 lit 0 7\n2 variants 1:1 0:1\n" ≡ ok (five ∷ seven ∷ marked_node ((1, 1) ∷ (0, 1) ∷ []) ∷ []))
    × (read "0 lit 0 5\n1 variants 0:3\n" ≡ refused 17)
    × (read "0 lit 0 5\n1 lit 0 7\n2 variants 0:1 1:2\n" ≡ refused 17)
    × (read "0 lit 0 5\n1 lit 0 7\n2 variants 0:2 1:1\n" ≡ refused 17)
    × (read "0 lit 0 5\n1 lit 0 7\n2 variants 0:1 1:1 0:1\n" ≡ refused 17)
    × (read "0 lit 0 5\n1 variants 3 0:2\n" ≡ refused 17)
unfolding text read_lines join_runs
marked = (refl, refl, refl, refl, refl, refl, refl, refl, refl, refl)

-- "Equal lines .. get a no": 17; lines that differ in one number alone do not
equals : (read "0 lit 0 5\n1 lit 0 5\n" ≡ refused 17)
    × (read "0 op 2\n1 op 2\n" ≡ refused 17)
    × (read "0 lit 0 5\n1 lit 0 7\n2 lit 0 5\n" ≡ refused 17)
    × (read "0 lit 0 5\n1 op 1 0:1\n2 op 1 0:1\n" ≡ refused 17)
    × (read "0 lit 0 5\n1 variants 0:2\n2 variants 0:2\n" ≡ refused 17)
    × (read "0 lit 0 5\n1 lit 1 5\n" ≡ ok (five ∷ lit_node 1 5 ∷ []))
    × (read "0 lit 2 0\n1 op 2\n" ≡ ok (lit_node 2 0 ∷ op_node 2 [] ∷ []))
    × (read "0 lit 0 5\n1 op 0 0:2\n2 variants 0:2\n" ≡ ok (five ∷ op_node 0 ((0, 2) ∷ []) ∷ marked_node ((0, 2) ∷ []) ∷ []))
    × (read "0 lit 0 5\n1 op 1 0:1\n2 op 1 0:2\n" ≡ ok (five ∷ op_node 1 ((0, 1) ∷ []) ∷ op_node 1 ((0, 2) ∷ []) ∷ []))
unfolding text read_lines join_runs
equals = (refl, refl, refl, refl, refl, refl, refl, refl, refl)

-- 13: one term and one run beyond the limits; refusals as met, line by line, and 17 within a line; an equal line is 17 where the pool is full too
limited : (read_lines (within 2 0) (text "0 lit 0 5\n1 lit 0 7\n") ≡ ok (five ∷ seven ∷ []))
    × (read_lines (within 1 0) (text "0 lit 0 5\n1 lit 0 7\n") ≡ refused 13)
    × (read_lines (within 0 0) (text "0 lit 0 5\n1 lit 0 7\n") ≡ refused 13)
    × (read_lines (within 0 0) (text "") ≡ refused 17)
    × (read_lines (within 1 0) (text "0 lit 0 5\n1 lit 0 7\nx") ≡ refused 13)
    × (read_lines (within 1 0) (text "0 lit 0 5\n1 lit 0 x\n") ≡ refused 17)
    × (read_lines (within 1 0) (text "0 lit 0 5\n1 lit 0 5\n") ≡ refused 17)
    × (read_lines (within 3 2) (text "0 lit 0 5\n1 lit 0 7\n2 op 1 0:9 1:1\n") ≡ ok (five ∷ seven ∷ op_node 1 ((0, 9) ∷ (1, 1) ∷ []) ∷ []))
    × (read_lines (within 3 1) (text "0 lit 0 5\n1 lit 0 7\n2 op 1 0:9 1:1\n") ≡ refused 13)
    × (read_lines (within 3 1) (text "0 lit 0 5\n1 lit 0 7\n2 op 1 0:9 1:1 2:1\n") ≡ refused 17)
unfolding text read_lines join_runs
limited = (refl, refl, refl, refl, refl, refl, refl, refl, refl, refl)

-- a run beyond those that a line may have: 13, tested behind its count; children up to 16,383; fuel that ends
free : (cut_runs 9 2 2 100 2 (text " 0:1 1:1\nx") ≡ ok ((0, 1) ∷ (1, 1) ∷ [], text "x"))
    × (cut_runs 9 2 2 100 1 (text " 0:1 1:1\n") ≡ refused 13)
    × (cut_runs 9 2 2 100 0 (text "\n") ≡ ok ([], []))
    × (cut_runs 9 2 2 100 1 (text " 0:1 1:1x") ≡ refused 13)
    × (cut_runs 9 2 2 100 1 (text " 0:1 1:0\n") ≡ refused 17)
    × (cut_runs 9 2 2 100 1 (text " 0:1 2:1\n") ≡ refused 17)
    × (cut_runs 9 2 2 100 1 (text " 0:1x1:1\n") ≡ refused 17)
    × (cut_runs 2 2 2 100 9 (text " 0:1 1:1\n") ≡ refused 17)
    × (cut_runs 3 2 2 100 9 (text " 0:1 1:1\n") ≡ ok ((0, 1) ∷ (1, 1) ∷ [], []))
    × (cut_runs 9 20000 20000 100 9 (text " 16383:1\n") ≡ ok ((16383, 1) ∷ [], []))
    × (cut_runs 9 20000 20000 100 9 (text " 16384:1\n") ≡ refused 17)
    × (add_lines limits 1 [] (text "0 lit 0 5\n1 lit 0 7\n") ≡ refused 17)
    × (add_lines limits 2 [] (text "0 lit 0 5\n1 lit 0 7\n") ≡ ok (five ∷ seven ∷ []))
    × (add_lines limits 2 [] [] ≡ ok [])
unfolding text cut_runs add_lines join_runs
free = (refl, refl, refl, refl, refl, refl, refl, refl, refl, refl, refl, refl, refl, refl)

-- a number on its own: what stands behind it is left
number : (cut_number 12 (text "12:3") ≡ ok (12, text ":3"))
    × (cut_number 11 (text "12:3") ≡ refused 17)
    × (cut_number 99 (text "012") ≡ refused 17)
    × (cut_number 99 (text "0:3") ≡ ok (0, text ":3"))
    × (cut_number 0 (text "0") ≡ ok (0, []))
    × (cut_number 99 (text "") ≡ refused 17)
    × (cut_number 99 (text "x") ≡ refused 17)
    × (cut_number 99 (text "1/2") ≡ ok (1, text "/2"))
    × (cut_number 999 (text "90:9") ≡ ok (90, text ":9"))
    × (cut_number 16383 (text "16383") ≡ ok (16383, []))
    × (cut_number 16383 (text "16384") ≡ refused 17)
unfolding text cut_number
number = (refl, refl, refl, refl, refl, refl, refl, refl, refl, refl, refl)

-- ---- cards of lines, lines of cards: the example of 02, Paper 1
abbrev table : List ℕ
table = replicate 9 0 ++ (entry "" 0 ++ (entry "km" 1 ++ (entry "wait" 1 ++ (entry "+" 1 ++ entry "*" 2))))

abbrev paper : String
paper = "0 lit 0 3\n1 op 1\n2 op 2\n3 op 3 1:1 2:1\n4 op 4 0:1 3:1\n"

abbrev card : String
card = "3#0 * (km[] + wait[])"

-- the last line is the formula; room that is exactly enough, and one byte less
both_ways : (card_of_lines limits table (text paper) 21 ≡ ok (text card))
    × (card_of_lines limits table (text paper) 20 ≡ refused 14)
    × (lines_of_card limits table (text card) 54 ≡ ok (text paper))
    × (lines_of_card limits table (text card) 53 ≡ refused 14)
    × (card_of_lines limits table (text "0 lit 0 5\n1 lit 0 7\n") 3 ≡ ok (text "7#0"))
    × (card_of_lines limits [] (text image_e) 99 ≡ refused 18)
    × (card_of_lines limits table (text "0 lit 0 5\n1 variants 0:2\n") 99 ≡ ok (text "{5#0 | 5#0}"))
    × (lines_of_card limits [] (text "{5#0 | 5#0}") 99 ≡ ok (text "0 lit 0 5\n1 variants 0:2\n"))
    × (lines_of_card limits table (text "((km[])) + km[]") 99 ≡ ok (text "0 op 1\n1 op 3 0:2\n"))
unfolding text entry card_of_lines lines_of_card
both_ways = (refl, refl, refl, refl, refl, refl, refl, refl, refl)

-- 17 before 18 before 14 in writing, 17 before 13 before 14 in reading; 13 as met
order : (card_of_lines limits [] (text "0 op 1") 0 ≡ refused 17)
    × (card_of_lines limits [] [] 0 ≡ refused 17)
    × (card_of_lines limits [] (text "0 op 1\n") 0 ≡ refused 18)
    × (card_of_lines limits [] (text "0 op 1\n1 lit 0 5\n") 0 ≡ refused 14)
    × (card_of_lines limits table (text "0 op 1\n") 0 ≡ refused 14)
    × (card_of_lines limits table (text "0 op 1\n") 4 ≡ ok (text "km[]"))
    × (card_of_lines (within 0 0) [] (text "0 op 1\n") 0 ≡ refused 13)
    × (lines_of_card (within 0 0) table (text "km[") 0 ≡ refused 17)
    × (lines_of_card (within 0 0) table (text "km[]") 0 ≡ refused 13)
    × (lines_of_card limits table (text "km[]") 0 ≡ refused 14)
    × (lines_of_card limits [] (text "km[]") 0 ≡ refused 17)
unfolding text entry card_of_lines lines_of_card
order = (refl, refl, refl, refl, refl, refl, refl, refl, refl, refl, refl)
