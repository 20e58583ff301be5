-- Paper 1: a text cut into its marks, and the whole of writing and reading.
use Rattle.std.specs.Prelude.{Bool, true, false, List, [], ◌∷◌, ℕ, zero, suc, ◌+◌, ◌*◌, ◌-◌, leb, eqb, length, drop}
use Rattle.spec.specs.Bytes.{pick, both, either, all, place, up_from, within, digits, decimal, Limits, Res, ok, refused, rule, ◌>>=◌, Two}
use Rattle.spec.specs.Pool.{Pool, Node, VARIANTS, Interned, intern, op_node, lit_node, join_runs, Children}
use Rattle.spec.specs.Meaning as Meaning
use Rattle.formula.specs.Card.{operations, letter, symbol, proper, Tree, lit, two, many, marked, Trees, none, also, Mark, literal, between, list, next, close, opens, shuts, begin, or, end, spell_mark, spell, proper_mark, write}
use Rattle.formula.specs.Reader.{read_marks}

abbrev pub digit : ℕ → Bool
digit c = within 48 57 c

abbrev pub sign_byte : ℕ → Bool
sign_byte c = either (letter c) (symbol c)

unfoldable pub starts_with : List ℕ → List ℕ → Bool
starts_with [] s = true
starts_with (c ∷ w) [] = false
starts_with (c ∷ w) (d ∷ s) = elim (eqb c d) [ true ↦ starts_with w s | false ↦ false ]

-- the number that digits at the front make
unfoldable pub lead : ℕ → List ℕ → ℕ
lead n [] = n
lead n (c ∷ s) = elim (digit c) [ true ↦ lead (n * 10 + (c - 48)) s | false ↦ n ]

-- the mark that a text can begin with: by its first byte; of an operation, the first one that fits
abbrev pub literal_at : List ℕ → Mark
literal_at s = literal (lead 0 s) (lead 0 (drop (suc (length (decimal (lead 0 s)))) s))

unfoldable pub operation_at : List ℕ → (ℕ → Mark) → List ℕ → ℕ
unfolding place proper spell_mark starts_with up_from
operation_at t f s = place (λ o. both (proper t o) (starts_with (spell_mark t (f o)) s)) (up_from 0 (operations t))

abbrev pub plain_at : ℕ → Mark
plain_at c = pick (eqb c 40) opens (pick (eqb c 41) shuts (pick (eqb c 93) close (pick (eqb c 123) begin (pick (eqb c 59) next end))))

unfoldable pub spaced_at : List ℕ → List ℕ → Mark
unfolding operation_at spell_mark starts_with
spaced_at t s = elim (starts_with (spell_mark t or) s) [ true ↦ or | false ↦ between (operation_at t between s) ]

unfoldable pub mark_at : List ℕ → List ℕ → Mark
unfolding digits lead operation_at spaced_at symbol
mark_at t [] = end
mark_at t (c ∷ s) =
    elim (digit c) [
      | true ↦ literal_at (c ∷ s)
      | false ↦ elim (sign_byte c) [ true ↦ list (operation_at t list (c ∷ s)) | false ↦ elim (eqb c 32) [ true ↦ spaced_at t (c ∷ s) | false ↦ plain_at c ] ]
    ]

-- it is there as it is spelt, and proper
unfoldable pub stands_at : List ℕ → Mark → List ℕ → Bool
unfolding proper_mark spell_mark starts_with
stands_at t c s = both (proper_mark t c) (starts_with (spell_mark t c) s)

abbrev pub is_nil : List ℕ → Bool
is_nil [] = true
is_nil (c ∷ s) = false

abbrev pub before : Mark → Res (List Mark) → Res (List Mark)
before c (ok l) = ok (c ∷ l)
before c (refused n) = refused n

-- fuel: the text's length, for no mark is empty
unfoldable pub cut : ℕ → List ℕ → List ℕ → Res (List Mark)
unfolding mark_at stands_at spell_mark
cut zero t s = pick (is_nil s) (ok []) (refused 17)
cut (suc f) t s =
    elim (is_nil s) [
      | true ↦ ok []
      | false ↦ elim (stands_at t (mark_at t s) s) [
        | true ↦ before (mark_at t s) (cut f t (drop (length (spell_mark t (mark_at t s))) s))
        | false ↦ refused 17
      ]
    ]

-- the term of a text; "Refusal 17 is for a text that is not a formula"
unfoldable pub read_text : List ℕ → List ℕ → Res Tree
unfolding cut read_marks
read_text t s = do
  c ← cut (length s) t s
  read_marks t c

-- ---- a pool's term with "counts written out"
unfoldable pub times : ℕ → Tree → Trees → Trees
times zero a l = l
times (suc n) a l = also a (times n a l)

abbrev pub of_children : ℕ → Trees → Tree
of_children o none = many o none
of_children o (also a none) = many o (also a none)
of_children o (also a (also b none)) = two o a b
of_children o (also a (also b (also c l))) = many o (also a (also b (also c l)))

unfoldable mutual
  unfolding times

  pub spelled : Meaning.Term → Tree
  spelled (Meaning.lit o v) = lit o v
  spelled (Meaning.node o r) = of_children o (spelled_runs r)
  spelled (Meaning.variants r) = marked (spelled_runs r)

  pub spelled_runs : Meaning.Runs → Trees
  spelled_runs Meaning.done = none
  spelled_runs (Meaning.run a n r) = times n (spelled a) (spelled_runs r)

abbrev pub card_tree : Pool → ℕ → Tree
card_tree p a = spelled (Meaning.tree_at p a)

-- "18 for an operation in the term without a proper sign of its own and precedence; in writing 18 comes before 14"
unfoldable pub write_card : List ℕ → Pool → ℕ → ℕ → Res (List ℕ)
unfolding Meaning.trees_after all proper_mark spell spelled write
write_card t p a n = do
  _ ← rule 18 (all (proper_mark t) (write t 0 (card_tree p a)))
  _ ← rule 14 (leb (length (spell t (write t 0 (card_tree p a)))) n)
  ok (spell t (write t 0 (card_tree p a)))

-- ---- a tree into a pool, children first and from the left
abbrev pub marked_node : List Two → Node
marked_node l = record { head = VARIANTS; op = 0; value = 0; runs = join_runs l }

unfoldable mutual
  unfolding intern join_runs

  pub enter : Limits → Pool → Tree → Res Interned
  enter lim p (lit o v) = intern lim p (lit_node o v)
  enter lim p (two o a b) = do
    x ← enter lim p a
    y ← enter lim x.pool b
    intern lim y.pool (op_node o ((x.term, 1) ∷ (y.term, 1) ∷ []))
  enter lim p (many o l) = do
    k ← enter_all lim p l
    intern lim k.pool (op_node o k.runs)
  enter lim p (marked l) = do
    k ← enter_all lim p l
    intern lim k.pool (marked_node k.runs)

  pub enter_all : Limits → Pool → Trees → Res Children
  enter_all lim p none = ok (record { pool = p; runs = [] })
  enter_all lim p (also a l) = do
    x ← enter lim p a
    k ← enter_all lim x.pool l
    ok (record { pool = k.pool; runs = (x.term, 1) ∷ k.runs })

-- "in reading 17 comes before 13"
unfoldable pub read_card : Limits → List ℕ → Pool → List ℕ → Res Interned
unfolding enter read_text
read_card lim t p s = do
  a ← read_text t s
  enter lim p a
