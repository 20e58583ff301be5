-- "The listing of program `merge`"
use Rattle.std.specs.Prelude.{Bool, true, false, List, [], ◌∷◌, ◌++◌, map, ℕ, zero, suc, eqb}
use Rattle.spec.specs.Bytes.{pick, any, each, place, Two, text, decimal, digits}
use Rattle.spec.specs.Pool.{Pool, Node, node_at, LIT, VARIANTS}
use Rattle.spec.specs.Run.{Outcome}

-- "one line a distinct subterm, numbered from 0 in the order a left-to-right walk finishes it". Fuel: above the term, since children stand earlier.
unfoldable pub visit_runs : (ℕ → List ℕ → List ℕ) → List Two → List ℕ → List ℕ
visit_runs visit [] seen = seen
visit_runs visit (r ∷ l) seen = visit_runs visit l (visit r.0 seen)

unfoldable pub visit_term : ℕ → Pool → ℕ → List ℕ → List ℕ
unfolding any visit_runs
visit_term zero p a seen = seen
visit_term (suc f) p a seen = elim (any (eqb a) seen) [ true ↦ seen | false ↦ visit_runs (visit_term f p) (node_at p a).runs seen ++ (a ∷ []) ]

abbrev pub subterms : Pool → ℕ → List ℕ
subterms p a = visit_term (suc a) p a []

-- "fields stand one space apart, and each line ends with a line feed"
unfoldable pub line : List (List ℕ) → List ℕ
line [] = 10 ∷ []
line (f ∷ []) = f ++ (10 ∷ [])
line (f ∷ g ∷ l) = f ++ (32 ∷ line (g ∷ l))

-- "The first line has the status (`complete` or `partial`), pairs, rounds, size, mass." (02, Paper 7) "The first line of the listing ends with `skipped` and the number" (Paper 13) "the listing's first line gets a final field `checks`, the checks that passed"
-- What it reports behind the status: each number by its name. Width, writing and reading follow from this list.
abbrev pub Field : Type 0
Field = List ℕ × ℕ

unfoldable pub reported : ℕ → Outcome → List Field
unfolding text
reported skipped o =
    (text "pairs", o.nodes)
    ∷ (text "rounds", o.rounds)
    ∷ (text "size", o.quality.0)
    ∷ (text "mass", o.quality.1)
    ∷ (text "skipped", skipped)
    ∷ (text "checks", o.checks)
    ∷ []

-- a number behind its name
abbrev pub named : Field → List (List ℕ)
named f = f.0 ∷ decimal f.1 ∷ []

unfoldable pub status_of : Bool → List ℕ
unfolding text
status_of complete = pick complete (text "complete") (text "partial")

unfoldable pub report_line : Bool → List Field → List ℕ
unfolding digits each line status_of
report_line complete fields = line (status_of complete ∷ each named fields)

unfoldable pub first_line : ℕ → Outcome → List ℕ
unfolding report_line reported
first_line skipped o = report_line o.complete (reported skipped o)

-- "child:count runs", a child by its line's number
unfoldable pub run_field : List ℕ → Two → List ℕ
unfolding digits place text
run_field order r = decimal (place (eqb r.0) order) ++ (text ":" ++ decimal r.1)

-- "`lit` operation value, or `op` operation and child:count runs, or `variants` and runs"
unfoldable pub head_fields : Node → List (List ℕ)
unfolding digits text
head_fields n =
    pick (eqb n.head LIT) (text "lit" ∷ decimal n.op ∷ decimal n.value ∷ [])
    (pick (eqb n.head VARIANTS) (text "variants" ∷ []) (text "op" ∷ decimal n.op ∷ []))

unfoldable pub term_line : Pool → List ℕ → ℕ → List ℕ
unfolding digits head_fields line place run_field
term_line p order a = line (decimal (place (eqb a) order) ∷ head_fields (node_at p a) ++ map (run_field order) (node_at p a).runs)

-- the lines behind the first one
abbrev pub lines_of : Pool → ℕ → List ℕ
lines_of p a = each (term_line p (subterms p a)) (subterms p a)

unfoldable pub listing_of : ℕ → Outcome → List ℕ
unfolding each first_line term_line visit_term
listing_of skipped o = first_line skipped o ++ each (term_line o.pool (subterms o.pool o.root)) (subterms o.pool o.root)
