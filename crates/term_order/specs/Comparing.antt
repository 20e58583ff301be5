-- `structural_cmp` on runs as numbers: it "looks at one differing child only".
use Rattle.std.specs.Prelude.{◌≡◌, true, false, List, [], ◌∷◌, ℕ, ◌+◌, ◌/◌, ◌%◌, eqb, ltb}
use Rattle.spec.specs.Bytes.{pick, Two}
use Rattle.spec.specs.Pool as P
use Rattle.term_order.specs.declared.Children.{Children}
use Rattle.std.specs.declared.cmp.Ordering.{Ordering}
use Rattle.std.specs.declared.cmp.Ordering.TheVariants as O

-- how long the child list is when it is expanded
unfoldable pub times_of : List ℕ → ℕ
times_of [] = 0
times_of (x ∷ l) = x / 16384 + times_of l

abbrev pub head_child : List ℕ → ℕ
head_child [] = 0
head_child (x ∷ l) = x % 16384

-- The first children that differ, where the runs x and y do and l and m follow: their children, or the one with the next child of the shorter run's list.
abbrev pub apart_numbers : ℕ → List ℕ → ℕ → List ℕ → Two
apart_numbers x l y m = pick (eqb (x % 16384) (y % 16384)) (pick (ltb (x / 16384) (y / 16384)) (head_child l, y % 16384) (x % 16384, head_child m)) (x % 16384, y % 16384)

unfoldable pub diff_numbers : List ℕ → List ℕ → Two
diff_numbers [] m = (0, 0)
diff_numbers (x ∷ l) [] = (0, 0)
diff_numbers (x ∷ l) (y ∷ m) = elim (eqb x y) [ true ↦ diff_numbers l m | false ↦ apart_numbers x l y m ]

pub record Differs (r : Children) (d : Two) : Type 0 where
  pub left : r.left ≡ d.0
  pub right : r.right ≡ d.1

abbrev pub order_of : P.Order → Ordering
order_of P.less = O.Less
order_of P.equal = O.Equal
order_of P.greater = O.Greater
