-- The public solver's answer: "in transport 1, 15, 16".
use Rattle.std.specs.Prelude.{◌≡◌, Bool, List, ℕ, ◌*◌, leb, eqb, length}
use Rattle.spec.specs.Bytes.{both, Two, Res, ok, refused, ◌>>=◌, rule, work_after}
use Rattle.spec.specs.Transport.{Solution, solve_cells, solved_by, plan_after, WIDEST}
use Rattle.wide.specs.Value.{unsigned}
use Rattle.transport.specs.declared.Answer.{Answer}
use Rattle.transport.specs.declared.Answer.TheVariants as A
use Rattle.cost_matrix.specs.Matrix.{CELLS, COSTS}
use Rattle.cost_matrix.specs.Cells.{problem_of}

-- the number of a refusal, or the plan's size and mass
unfoldable pub told : Answer → Res Two
unfolding unsigned
told (A.Plan t) = ok (unsigned t.size, unsigned t.mass)
told (A.Refused n) = refused n

unfoldable pub totals_of : Res Solution → Res Two
totals_of (ok s) = ok (s.size, s.mass)
totals_of (refused n) = refused n

-- "over 65 rows or columns, or cells or a lent plan buffer not rows × columns": r rows, c columns, the lengths of the cells' three slices and of the plan
abbrev pub shape_of : ℕ → ℕ → ℕ → ℕ → ℕ → ℕ → Bool
shape_of r c s m a p = both (leb r WIDEST) (both (leb c WIDEST) (both (eqb s (r * c)) (both (eqb m (r * c)) (both (eqb a (r * c)) (eqb p (r * c))))))

unfoldable pub shaped_of : List ℕ → List ℕ → List ℕ → List ℕ → List ℕ → ℕ → Res Solution
unfolding problem_of solve_cells solved_by
shaped_of supply demand sizes masses allowed plan = do
  _ ← rule 15 (shape_of (length supply) (length demand) (length sizes) (length masses) (length allowed) plan)
  solved_by (problem_of supply demand sizes masses allowed).cells (solve_cells (problem_of supply demand sizes masses allowed))

unfoldable pub transport_of : Bool → List ℕ → List ℕ → List ℕ → List ℕ → List ℕ → ℕ → Res Solution
unfolding shaped_of
transport_of fit supply demand sizes masses allowed plan = do
  _ ← rule 1 fit
  shaped_of supply demand sizes masses allowed plan

-- the answer and the lent plan
pub record Told (o : Res Solution) (plan plan' : List ℕ) (r : Answer) : Type 0 where
  pub is : told r ≡ totals_of o
  pub after : plan' ≡ plan_after plan o

-- what `solve_transport` ensures: r is its answer; plan, costs and flow are the lent buffers before the call, plan', costs' and flow' afterwards
abbrev pub Ensures : (supply demand sizes masses allowed plan costs flow plan' costs' flow' : List ℕ) → Answer → Type 0
Ensures supply demand sizes masses allowed plan costs flow plan' costs' flow' r =
    Told (transport_of (both (leb COSTS (length costs)) (leb CELLS (length flow))) supply demand sizes masses allowed (length plan)) plan plan' r
    × (costs' ≡ work_after 0 (both (leb COSTS (length costs)) (leb CELLS (length flow))) costs)
    × (flow' ≡ work_after 0 (both (leb COSTS (length costs)) (leb CELLS (length flow))) flow)
