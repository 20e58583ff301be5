-- The lines of a listing behind its first line, read: a term for each line, over the lines before it. What `card` writes a card of, and what `read_card` gives back.
use Rattle.std.specs.Prelude.{true, false, List, [], ◌∷◌, ℕ, zero, suc, ◌-◌, ltb, leb, eqb, length, drop}
use Rattle.spec.specs.Bytes.{pick, both, each, sum, Two, text, decimal, digits, Limits, Res, ok, refused, rule, ◌>>=◌}
use Rattle.spec.specs.Pool.{Pool, Node, OP, LIT, VARIANTS, RUNS, expanded_length, intern}
use Rattle.spec.specs.Listing.{term_line, visit_term, lines_of}
use Rattle.formula.specs.Lexer.{lead, starts_with, is_nil, write_card, read_card}

-- what stands at the front of a text, and the text behind it
abbrev pub Cut : Type 0 → Type 0
Cut A = Res (A × List ℕ)

-- a word that must stand there
unfoldable pub cut_word : List ℕ → List ℕ → Res (List ℕ)
unfolding starts_with
cut_word w s = pick (starts_with w s) (ok (drop (length w) s)) (refused 17)

-- a number as the listing prints it, at most `most`
unfoldable pub cut_number : ℕ → List ℕ → Cut ℕ
unfolding digits lead starts_with
cut_number most s = pick (both (leb (lead 0 s) most) (starts_with (decimal (lead 0 s)) s)) (ok (lead 0 s, drop (length (decimal (lead 0 s))) s)) (refused 17)

-- "only a run's count may go up to 279,172,874,175" (02, Paper 8): here all counts of a line together
abbrev pub CHILDREN : ℕ
CHILDREN = 279172874175

-- " child:count", up to the line feed: children below k, no two neighbours the same (`last` is the one before, k at first), counts from 1, at most `left` together; a run beyond `free` is 13. Fuel: above the text's length.
unfoldable pub cut_runs : ℕ → ℕ → ℕ → ℕ → ℕ → List ℕ → Cut (List Two)
unfolding cut_word cut_number starts_with text
cut_runs zero k last left free s = refused 17
cut_runs (suc f) k last left free s =
    elim (starts_with (10 ∷ []) s) [
      | true ↦ ok ([], drop 1 s)
      | false ↦ do
        a ← cut_word (text " ") s
        c ← cut_number 16383 a
        _ ← rule 17 (both (ltb c.0 k) (pick (eqb c.0 last) false true))
        b ← cut_word (text ":") c.1
        n ← cut_number left b
        _ ← rule 17 (ltb 0 n.0)
        _ ← rule 13 (ltb 0 free)
        l ← cut_runs f k c.0 (left - n.0) (free - 1) n.1
        ok ((c.0, n.0) ∷ l.0, l.1)
    ]

abbrev pub runs_at : ℕ → List ℕ → Cut (List Two)
runs_at k s = cut_runs (suc (length s)) k k CHILDREN RUNS s

-- "`lit` operation value, or `op` operation and child:count runs, or `variants` and runs"; operations go up to 63; a marked place has two branches
unfoldable pub cut_node : ℕ → List ℕ → Cut Node
unfolding cut_number cut_runs cut_word starts_with sum text
cut_node k s =
    elim (starts_with (text " lit ") s) [
      | true ↦ do
        a ← cut_word (text " lit ") s
        o ← cut_number 63 a
        b ← cut_word (text " ") o.1
        v ← cut_number 4294967295 b
        e ← cut_word (10 ∷ []) v.1
        ok (record { head = LIT; op = o.0; value = v.0; runs = [] }, e)
      | false ↦ elim (starts_with (text " op ") s) [
        | true ↦ do
          a ← cut_word (text " op ") s
          o ← cut_number 63 a
          l ← runs_at k o.1
          ok (record { head = OP; op = o.0; value = 0; runs = l.0 }, l.1)
        | false ↦ do
          a ← cut_word (text " variants") s
          l ← runs_at k a
          _ ← rule 17 (eqb (expanded_length l.0) 2)
          ok (record { head = VARIANTS; op = 0; value = 0; runs = l.0 }, l.1)
      ]
    ]

-- line k: its number, then its term
unfoldable pub cut_line : ℕ → List ℕ → Cut Node
unfolding cut_node cut_word digits
cut_line k s = do
  a ← cut_word (decimal k) s
  cut_node k a

-- line after line, each a new term: "Equal lines .. get a no" (Paper 8), here 17; a term beyond the limits is 13. Fuel: the text's length, for no line is empty.
unfoldable pub add_lines : Limits → ℕ → Pool → List ℕ → Res Pool
unfolding cut_line intern
add_lines lim zero p s = pick (is_nil s) (ok p) (refused 17)
add_lines lim (suc f) p s =
    elim (is_nil s) [
      | true ↦ ok p
      | false ↦ do
        n ← cut_line (length p) s
        x ← intern lim p n.0
        _ ← rule 17 (eqb x.term (length p))
        add_lines lim f x.pool n.1
    ]

-- the pool of the lines, whose last one is the formula: there is one
unfoldable pub read_lines : Limits → List ℕ → Res Pool
unfolding add_lines
read_lines lim s = do
  p ← add_lines lim (length s) [] s
  _ ← rule 17 (ltb 0 (length p))
  ok p

-- ---- a card of lines, and lines of a card. `room`: the output buffer's length
unfoldable pub card_of_lines : Limits → List ℕ → List ℕ → ℕ → Res (List ℕ)
unfolding read_lines write_card
card_of_lines lim t s room = do
  p ← read_lines lim s
  write_card t p (length p - 1) room

unfoldable pub lines_of_card : Limits → List ℕ → List ℕ → ℕ → Res (List ℕ)
unfolding each term_line visit_term read_card
lines_of_card lim t s room = do
  x ← read_card lim t [] s
  let l = lines_of x.pool x.term
  _ ← rule 14 (leb (length l) room)
  ok l
