-- The edges of a node, read off the plan so far, and a search over them; on plain lists in the code's shape.
use Rattle.std.specs.Prelude.{List, ℕ, zero, suc, ◌+◌, ◌-◌, ◌*◌, ◌^◌, ltb, leb, eqb, get_or}
use Rattle.spec.specs.Bytes.{pick, sum_to}
use Rattle.wide.specs.declared.Wide.{Wide}
use Rattle.wide.specs.Wrap.{add_words, neg_words}
use Rattle.net.specs.Net.{relaxed, label_of, state_of, first_of, left, begun, count_of, HIGH}
use Rattle.cost_matrix.specs.Matrix.{cost_of, cap_of}
use Rattle.spec.specs.Transport.{WIDEST}

-- what is left at the margins, y: a number for each of 65 rows' supplies, of 65 columns' demands, and what each of 65 columns has
abbrev pub TAKEN : ℕ
TAKEN = 130

abbrev pub MARGINS : ℕ
MARGINS = 195

-- an edge at a margin, which costs nothing; a cell forward; a cell back "at the negated cost": r is what is left on the edge
unfoldable pub along_margin : ℕ → List ℕ → ℕ → ℕ → Wide → List ℕ
unfolding relaxed
along_margin r m u v d = pick (ltb 0 r) (relaxed m u v d) m

unfoldable pub along_cell : List ℕ → List ℕ → List ℕ → ℕ → ℕ → ℕ → Wide → List ℕ
unfolding relaxed
along_cell g x m k u v d = pick (ltb (get_or x k 0) (cap_of g k)) (relaxed m u v (add_words d (cost_of g k))) m

unfoldable pub against_cell : List ℕ → List ℕ → List ℕ → ℕ → ℕ → ℕ → Wide → List ℕ
unfolding relaxed
against_cell g x m k u v d = pick (ltb 0 (get_or x k 0)) (relaxed m u v (add_words d (neg_words (cost_of g k)))) m

-- n edges of node u, one after the other: to the nodes from v on
unfoldable pub spread_to : List ℕ → ℕ → Wide → ℕ → ℕ → ℕ → List ℕ → List ℕ
unfolding along_margin
spread_to y u d zero k v m = m
spread_to y u d (suc n) k v m = spread_to y u d n (k + 1) (v + 1) (along_margin (get_or y k 0) m u v d)

unfoldable pub along_row : List ℕ → List ℕ → ℕ → Wide → ℕ → ℕ → ℕ → List ℕ → List ℕ
unfolding along_cell
along_row g x u d zero k v m = m
along_row g x u d (suc n) k v m = along_row g x u d n (k + 1) (v + 1) (along_cell g x m k u v d)

unfoldable pub against_column : List ℕ → List ℕ → ℕ → ℕ → Wide → ℕ → ℕ → ℕ → List ℕ → List ℕ
unfolding against_cell
against_column g x c u d zero k v m = m
against_column g x c u d (suc n) k v m = against_column g x c u d n (k + c) (v + 1) (against_cell g x m k u v d)

-- all the edges of node u, in insertion order; a row's edge back to the source never improves
unfoldable pub visited : List ℕ → List ℕ → List ℕ → ℕ → ℕ → ℕ → List ℕ → List ℕ
unfolding spread_to along_row against_column along_margin
visited g x y r c u m =
    pick (eqb u 0) (spread_to y 0 (label_of m 0) r 0 1 m)
    (pick (leb u r) (along_row g x u (label_of m u) c ((u - 1) * c) (1 + r) m)
    (pick (leb u (r + c)) (let t = along_margin (get_or y (WIDEST + (u - 1 - r)) 0) m u (1 + r + c) (label_of m u) in against_column g x c u (label_of t u) r (u - 1 - r) 1 t)
    (spread_to y (1 + r + c) (label_of m (1 + r + c)) c TAKEN (1 + r) m)))

-- the search: while the queue is not empty its first node leaves it and is visited, at most n times
unfoldable pub ran_to : List ℕ → List ℕ → List ℕ → ℕ → ℕ → ℕ → List ℕ → List ℕ
unfolding visited left
ran_to g x y r c zero m = m
ran_to g x y r c (suc n) m = pick (eqb (count_of m) 0) m (ran_to g x y r c n (visited g x y r c (first_of m) (left m)))

-- the sum of the labels, an unseen one counted as larger than any, and the length of the queue: it falls with each turn
abbrev pub beyond : ℕ → ℕ
beyond n = n * 2 ^ 103 + 1

unfoldable pub measure : ℕ → ℕ → List ℕ → ℕ
unfolding sum_to
measure r c m = sum_to (1 + (1 + r + c)) (λ v. pick (eqb (state_of m v) 0) (beyond (1 + (1 + r + c))) (get_or m v 0 + 2 ^ 64 * get_or m (HIGH + v) 0)) + count_of m

-- the net after a search: so many turns leave the queue empty
unfoldable pub searched_net : List ℕ → List ℕ → List ℕ → ℕ → ℕ → List ℕ → List ℕ
unfolding ran_to measure begun
searched_net g x y r c m = ran_to g x y r c (measure r c (begun (1 + r + c) m)) (begun (1 + r + c) m)
