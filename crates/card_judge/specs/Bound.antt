-- A term whose operations have proper signs, by the bindings of a table.
use Rattle.std.specs.Prelude.{◌≡◌, ◌↔◌, Bool, true, List, [], ◌∷◌, ◌++◌, ℕ, ◌/◌, ◌%◌, ◌≤◌, ◌<◌, ltb, eqb, length, get_or, set, drop, replicate}
use Rattle.spec.specs.Bytes.{pick}
use Rattle.spec.specs.Pool.{Pool, Node, node_at, OP}
use Rattle.formula_laws.specs.Signed.{InTerm}
use Rattle.terms.specs.Buffers.{head_in, part_in, count_in, pool_of}

-- an operation has a binding; every other node needs none
abbrev pub bound_node : List ℕ → Node → Bool
bound_node b n = pick (eqb n.head OP) (ltb 0 (get_or b n.op 0)) true

abbrev pub AllBound : List ℕ → Pool → ℕ → Type 0
AllBound b p a = (c : ℕ) → InTerm p a c → bound_node b (node_at p c) ≡ true

-- ---- by the numbers of the pool's buffers
abbrev pub bound_head : List ℕ → ℕ → Bool
bound_head b h = pick (eqb (h / 64) OP) (ltb 0 (get_or b (h % 64) 0)) true

abbrev pub ChildrenBelow : List ℕ → ℕ → ℕ → ℕ → Type 0
ChildrenBelow runs from to n = (i : ℕ) → from ≤ i → i < to → get_or runs i 0 % 16384 < n

unfoldable pub mark_all : List ℕ → List ℕ → List ℕ
mark_all w [] = w
mark_all w (r ∷ l) = mark_all (set w (r % 16384) 1) l

-- term c is judged where it is marked, and then its children are marked
abbrev pub bound_at : List ℕ → List ℕ → List ℕ → ℕ → Bool
bound_at b terms w c = pick (eqb (get_or w c 0) 0) true (bound_head b (head_in terms c))

abbrev pub marks_at : List ℕ → List ℕ → List ℕ → ℕ → List ℕ
marks_at terms runs w c = pick (eqb (get_or w c 0) 0) w (mark_all w (part_in terms runs c))

-- the first n numbers are 0
abbrev pub cleared : ℕ → List ℕ → List ℕ
cleared n w = replicate n 0 ++ drop n w

abbrev pub Unmarked : ℕ → List ℕ → Type 0
Unmarked n w = (i : ℕ) → i < n → get_or w i 0 ≡ 0

-- what judging leaves: the marks of the pool's terms are used
pub record Judged (b terms runs : List ℕ) (root : ℕ) (w w' : List ℕ) (r : Bool) : Type 0 where
  pub answer : r ≡ true ↔ AllBound b (pool_of terms runs) root
  pub same : length w' ≡ length w
  pub rest : drop (count_in terms) w' ≡ drop (count_in terms) w
