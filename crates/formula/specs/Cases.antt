-- Paper 1 by evaluation: its example, and every edge that it names.
use Rattle.std.specs.Prelude.{◌≡◌, refl, List, [], ◌∷◌, ◌++◌, ℕ, ◌-◌, length, replicate, take}
use Prim.Native.String.{String}
use Rattle.spec.specs.Bytes.{text, Limits, Res, ok, refused}
use Rattle.spec.specs.Pool.{Pool, interned, op_node, lit_node, variants_node, join_runs}
use Rattle.formula.specs.Card.{Tree, lit, two, many, none, also, spell, write}
use Rattle.formula.specs.Lexer.{read_text, read_card, write_card}

-- "a term beyond 16,384 or a run beyond 65,536"
abbrev limits : Limits
limits = record { pairs = 4096; terms = 16384; runs = 65536 }

-- an operation's nine bytes
unfoldable pub entry : String → ℕ → List ℕ
unfolding text
entry s p = text s ++ (replicate (8 - length (text s)) 0 ++ (p ∷ []))

-- all precedences group to the left but for 3
abbrev table : List ℕ
table = 0 ∷ 0 ∷ 1 ∷ 0 ∷ 0 ∷ 0 ∷ 0 ∷ 0 ∷ 0 ∷ entry "" 0 ++ (entry "km" 1 ++ (entry "wait" 1 ++ (entry "+" 1 ++ (entry "*" 2 ++ (entry "-" 1 ++ (entry "max" 3 ++ entry "sum" 9))))))

-- 0 km[], 1 wait[], 2 0 + 1, 3 literal 3 of operation 0, 4 3 * 2, 5 the run 3 twice under *, 6 a sum of four, 7 a marked place, 8 one of equal branches
abbrev pool : Pool
pool = op_node 1 [] ∷ op_node 2 [] ∷ op_node 3 ((0, 1) ∷ (1, 1) ∷ []) ∷ lit_node 0 3 ∷ op_node 4 ((3, 1) ∷ (2, 1) ∷ []) ∷ op_node 4 ((3, 2) ∷ []) ∷ op_node 7 ((0, 1) ∷ (3, 3) ∷ []) ∷ variants_node 2 5 ∷ variants_node 3 3 ∷ []

-- "infix notation, `3#0 * (km[] + wait[])`"; "counts written out"; "a list, `sum[a; b; c]`"; "Variants print as `{a | b}`"
written : (write_card table pool 4 21 ≡ ok (text "3#0 * (km[] + wait[])"))
    × (write_card table pool 5 99 ≡ ok (text "3#0 * 3#0"))
    × (write_card table pool 6 99 ≡ ok (text "sum[km[]; 3#0; 3#0; 3#0]"))
    × (write_card table pool 7 99 ≡ ok (text "{km[] + wait[] | 3#0 * 3#0}"))
    × (write_card table pool 8 99 ≡ ok (text "{3#0 | 3#0}"))
unfolding text entry write_card join_runs
written = (refl, refl, refl, refl, refl)

-- read back, into the same pool and into an empty one; with further brackets; 13 where the pool is full is in Entering's `enter`
read_back : (read_card limits table pool (text "3#0 * (km[] + wait[])") ≡ ok (interned pool 4))
    × (read_card limits table pool (text "((3#0) * ((km[]) + (wait[])))") ≡ ok (interned pool 4))
    × (read_card limits table pool (text "sum[km[]; 3#0; (3#0); 3#0]") ≡ ok (interned pool 6))
    × (read_card limits table pool (text "{3#0 | 3#0}") ≡ ok (interned pool 8))
    × (read_card limits table [] (text "3#0 * 3#0") ≡ ok (interned (lit_node 0 3 ∷ op_node 4 ((0, 2) ∷ []) ∷ []) 1))
    × (read_card limits table [] (text "(km[] + wait[]) * 3#0") ≡ ok (interned (op_node 1 [] ∷ op_node 2 [] ∷ op_node 3 ((0, 1) ∷ (1, 1) ∷ []) ∷ lit_node 0 3 ∷ op_node 4 ((2, 1) ∷ (3, 1) ∷ []) ∷ []) 4))
unfolding text entry read_card join_runs
read_back = (refl, refl, refl, refl, refl, refl)

-- grouping: one precedence, two operations, to the left; precedence 3 to the right; higher binds first
abbrev a : Tree
a = lit 0 1

abbrev b : Tree
b = lit 0 2

abbrev c : Tree
c = lit 0 3

grouped : (read_text table (text "1#0 - 2#0 + 3#0") ≡ ok (two 3 (two 5 a b) c))
    × (read_text table (text "1#0 + 2#0 - 3#0") ≡ ok (two 5 (two 3 a b) c))
    × (read_text table (text "1#0 max 2#0 max 3#0") ≡ ok (two 6 a (two 6 b c)))
    × (read_text table (text "1#0 + 2#0 * 3#0") ≡ ok (two 3 a (two 4 b c)))
    × (read_text table (text "1#0 * 2#0 + 3#0") ≡ ok (two 3 (two 4 a b) c))
    × (spell table (write table 0 (two 5 a (two 3 b c))) ≡ text "1#0 - (2#0 + 3#0)")
    × (spell table (write table 0 (two 6 (two 6 a b) c)) ≡ text "(1#0 max 2#0) max 3#0")
    × (spell table (write table 0 (two 6 a (two 6 b c))) ≡ text "1#0 max 2#0 max 3#0")
    × (spell table (write table 0 (two 4 (two 3 a b) (two 6 b c))) ≡ text "(1#0 + 2#0) * 2#0 max 3#0")
    × (spell table (write table 0 (many 6 (also (two 3 a b) none))) ≡ text "max[1#0 + 2#0]")
unfolding text entry read_text spell write
grouped = (refl, refl, refl, refl, refl, refl, refl, refl, refl, refl)

-- "17 for a text that is not a formula": no text; a list of two; one branch, three branches; spaces; numbers; unknown, missing and doubled signs; brackets
refusals : (read_text table (text "") ≡ refused 17)
    × (read_text table (text "sum[1#0; 2#0]") ≡ refused 17)
    × (read_text table (text "{1#0}") ≡ refused 17)
    × (read_text table (text "{1#0 | 2#0 | 3#0}") ≡ refused 17)
    × (read_text table (text "1#0+2#0") ≡ refused 17)
    × (read_text table (text "1#0  + 2#0") ≡ refused 17)
    × (read_text table (text " 1#0") ≡ refused 17)
    × (read_text table (text "1#0 ") ≡ refused 17)
    × (read_text table (text "sum[1#0;2#0;3#0]") ≡ refused 17)
    × (read_text table (text "01#0") ≡ refused 17)
    × (read_text table (text "1#00") ≡ refused 17)
    × (read_text table (text "4294967296#0") ≡ refused 17)
    × (read_text table (text "1#64") ≡ refused 17)
    × (read_text table (text "1#") ≡ refused 17)
    × (read_text table (text "#1") ≡ refused 17)
    × (read_text table (text "1#01#0") ≡ refused 17)
    × (read_text table (text "km") ≡ refused 17)
    × (read_text table (text "kn[]") ≡ refused 17)
    × (read_text table (text "KM[]") ≡ refused 17)
    × (read_text table (text "km[1#0; ]") ≡ refused 17)
    × (read_text table (text "()") ≡ refused 17)
    × (read_text table (text "(1#0") ≡ refused 17)
    × (read_text table (text "1#0)") ≡ refused 17)
    × (read_text table (text "[1#0]") ≡ refused 17)
    × (read_text table (text "{1#0 | 2#0]") ≡ refused 17)
    × (read_text table (text "1#0 / 2#0") ≡ refused 17)
    × (read_text table (text "1#0 + + 2#0") ≡ refused 17)
unfolding text entry read_text
refusals = (refl, refl, refl, refl, refl, refl, refl, refl, refl, refl, refl, refl, refl, refl, refl, refl, refl, refl, refl, refl, refl, refl, refl, refl, refl, refl, refl)

-- what is a formula, though it looks odd
accepted : (read_text table (text "4294967295#63") ≡ ok (lit 63 4294967295))
    × (read_text table (text "0#0") ≡ ok (lit 0 0))
    × (read_text table (text "((1#0))") ≡ ok a)
    × (read_text table (text "+[1#0]") ≡ ok (many 3 (also a none)))
    × (read_text table (text "1#0 - -[2#0]") ≡ ok (two 5 a (many 5 (also b none))))
    × (read_text table (text "km[] km km[]") ≡ ok (two 1 (many 1 none) (many 1 none)))
unfolding text entry read_text
accepted = (refl, refl, refl, refl, refl, refl)

-- "18 for an operation in the term without a proper sign of its own and precedence; in writing 18 comes before 14"
abbrev groups : List ℕ
groups = replicate 9 0

abbrev of_one : List ℕ → Res (List ℕ)
of_one t = write_card t (op_node 0 [] ∷ []) 0 0

signs : (of_one (groups ++ entry "ab" 1) ≡ refused 14)
    × (of_one (groups ++ entry "abcdefgh" 9) ≡ refused 14)
    × (of_one (groups ++ entry "<" 1) ≡ refused 14)
    × (of_one (groups ++ entry "" 1) ≡ refused 18)
    × (of_one (groups ++ entry "ab" 0) ≡ refused 18)
    × (of_one (groups ++ entry "ab" 10) ≡ refused 18)
    × (of_one (groups ++ entry "a1" 1) ≡ refused 18)
    × (of_one (groups ++ entry "<>" 1) ≡ refused 18)
    × (of_one (groups ++ entry "a+" 1) ≡ refused 18)
    × (of_one (groups ++ entry "(" 1) ≡ refused 18)
    × (of_one (groups ++ (97 ∷ 0 ∷ 98 ∷ 0 ∷ 0 ∷ 0 ∷ 0 ∷ 0 ∷ 1 ∷ [])) ≡ refused 18)
    × (of_one (groups ++ (0 ∷ 97 ∷ 0 ∷ 0 ∷ 0 ∷ 0 ∷ 0 ∷ 0 ∷ 1 ∷ [])) ≡ refused 18)
    × (of_one (groups ++ (entry "ab" 1 ++ entry "ab" 2)) ≡ refused 18)
    × (of_one (groups ++ (entry "ab" 1 ++ entry "ab" 0)) ≡ refused 18)
    × (of_one (groups ++ (entry "ab" 1 ++ entry "AB" 1)) ≡ refused 14)
    × (of_one (groups ++ take 8 (entry "ab" 1)) ≡ refused 18)
    × (of_one (groups ++ (entry "ab" 1 ++ take 8 (entry "ab" 1))) ≡ refused 14)
    × (of_one [] ≡ refused 18)
    -- a literal needs no sign, and an operation above 63 is none
    × (write_card [] (lit_node 63 7 ∷ []) 0 4 ≡ ok (text "7#63"))
    × (write_card [] (lit_node 63 7 ∷ []) 0 3 ≡ refused 14)
    × (write_card [] (lit_node 64 7 ∷ []) 0 0 ≡ refused 18)
unfolding text entry write_card join_runs
signs = (refl, refl, refl, refl, refl, refl, refl, refl, refl, refl, refl, refl, refl, refl, refl, refl, refl, refl, refl, refl, refl)

-- "in reading 17 comes before 13": a pool of 16,384 entries, that hold literal 9 alone
abbrev full : Pool
full = replicate 16384 (lit_node 9 9)

full_pool : (read_card limits table full (text "1#0") ≡ refused 13) × (read_card limits table full (text "1#0 +") ≡ refused 17) × (read_card limits table full (text "(9#9)") ≡ ok (interned full 0))
unfolding text entry read_card join_runs
full_pool = (refl, refl, refl)

-- a child is wanted behind a sign, not right behind `[`
hanging : (read_text table (text "sum[1#0 + ]") ≡ refused 17) × (read_text table (text "sum[]") ≡ ok (many 7 none))
unfolding text entry read_text
hanging = (refl, refl)
