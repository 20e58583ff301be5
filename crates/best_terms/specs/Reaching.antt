-- Which classes' best terms are kept: those that were, and those that the asked classes reach through best members.
use Rattle.std.specs.Prelude.{true, false, List, [], ◌∷◌, map, ℕ, zero, suc, ◌+◌, eqb, length, get_or, set}
use Rattle.spec.specs.Bytes.{Limits, Two, pick, up_from, Res, ok, refused}
use Rattle.spec.specs.Image.{Tables, children_of, best_member, best_size}
use Rattle.spec.specs.Pool.{Pool, Interned, best_term, best_term_in}

-- 1 for a class whose best term is kept, 0 for one that is still unbuilt
abbrev pub mark : ℕ → ℕ
mark x = pick (eqb x 0) 0 1

abbrev pub marks_of : List ℕ → List ℕ
marks_of best = map mark best

unfoldable pub reach_all : (List ℕ → ℕ → List ℕ) → List ℕ → List Two → List ℕ
reach_all f m [] = m
reach_all f m (e ∷ l) = reach_all f (f m e.0) l

-- a class that has no mark gets one after the classes of its best member's children; fuel: its best size
unfoldable pub reach_in : ℕ → Tables → List ℕ → ℕ → List ℕ
unfolding reach_all
reach_in zero t m c = m
reach_in (suc f) t m c = elim (eqb (get_or m c 0) 0) [ true ↦ set (reach_all (reach_in f t) m (children_of t (best_member t c))) c 1 | false ↦ m ]

abbrev pub reach : Tables → List ℕ → ℕ → List ℕ
reach t m c = reach_in (best_size t c) t m c

-- a best term by its number plus 1
abbrev pub number_of : Res Interned → ℕ
number_of (ok a) = a.term + 1
number_of (refused n) = 0

-- what is kept of class d once the starting term of c is made: what was kept, or its best term where c reaches it
abbrev pub best_after : Limits → Tables → Pool → List ℕ → Two → ℕ → ℕ
best_after lim t p best c d = pick (eqb (get_or best d 0) 0) (pick (eqb (get_or (reach t (reach t (marks_of best) c.0) c.1) d 0) 0) 0 (number_of (best_term lim t p d))) (get_or best d 0)

unfoldable pub bests_after : Limits → Tables → Pool → List ℕ → Two → List ℕ
unfolding up_from reach_in best_term_in
bests_after lim t p best c = map (best_after lim t p best c) (up_from 0 (length best))
