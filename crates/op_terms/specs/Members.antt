-- A member's term over the kept best terms of its children's classes: kept by their number plus 1, 0 where a class is still unbuilt.
use Rattle.std.specs.Prelude.{◌≡◌, List, map, ℕ, ◌+◌, ◌*◌, ◌-◌, ◌≤◌, ◌<◌, eqb, length, get_or, Option}
use Rattle.spec.specs.Bytes.{Two, pick, Res}
use Rattle.spec.specs.Image.{Tables, Member, Lit, kind_of, children_of, the_member}
use Rattle.spec.specs.Pool.{Node, lit_node, op_node, Interned}
use Rattle.spec.specs.Meaning.{In}
use Rattle.terms.specs.Buffers.{pool_of}
use Rattle.terms.specs.Chains.{Holds}
use Rattle.interning.specs.Interning.{entered_of, pool_after}
use Rattle.interning.specs.Growing.{Grows}

-- the answer and the buffers where the definitions give m
pub record Gives (terms runs terms' runs' : List ℕ) (m : Res Interned) (r : Option ℕ) : Type 0 where
  pub answer : r ≡ entered_of m
  pub pool : pool_of terms' runs' ≡ pool_after (pool_of terms runs) m
  pub holds : Holds terms' runs'
  pub grows : Grows terms runs terms' runs' (pool_after (pool_of terms runs) m)

-- child k of the table of children, as a run over the kept terms
abbrev pub kept_run : List ℕ → Two → Two
kept_run best e = (get_or best e.0 0 - 1, e.1)

abbrev pub kept_number : List ℕ → Two → ℕ
kept_number best e = e.1 * 16384 + (get_or best e.0 0 - 1)

-- every child's class is built
abbrev pub Built : List ℕ → ℕ → List Two → Type 0
Built best n l = (e : Two) → In e l → (0 < get_or best e.0 0) × (get_or best e.0 0 ≤ n)

-- what a member's term asks: its children stand in the table, their classes are built
pub record MemberReady (t : Tables) (best : List ℕ) (n m : ℕ) : Type 0 where
  pub many : length (children_of t (the_member t m)) ≡ (the_member t m).count
  pub few : (the_member t m).count ≤ 64
  pub classes : (e : Two) → In e (children_of t (the_member t m)) → e.0 < length best
  pub counted : (e : Two) → In e (children_of t (the_member t m)) → 1 ≤ e.1
  pub built : Built best n (children_of t (the_member t m))

abbrev pub member_node : Tables → List ℕ → Member → Node
member_node t best m = pick (eqb (kind_of t m.op) Lit) (lit_node m.op m.value) (op_node m.op (map (kept_run best) (children_of t m)))
