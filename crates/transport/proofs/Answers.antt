-- Each way out of the public solver.
use mathlib.Core.Path.{◌≡◌, refl, sym, ap, ◌∙◌}
use mathlib.Core.Bool.{Bool, true, false}
use mathlib.Core.List.{List}
use mathlib.Core.Option.{Option, none, some}
use Prim.Native.Nat.{ℕ, ◌+◌, ◌*◌, ◌^◌, ◌≤◌, ◌<◌}
use native.Mathlib.Nat.{zero-add}
use native.Mathlib.Decide.{ℕ_discrete}
use native.Mathlib.Omega.{arith}
use borrow.Author.Tests.{le-leb, lt-leb}
use lib.Dec.{T, leb, eqb, leb→le, eqb→eq}
use lib.ListN.{length, get_or, set, take, replicate}
use lib.Seq.{get_or-take, length-take-le, get_or-set_same, get_or-set_other, ext_get_or}
use Rattle.spec.specs.Bytes.{both, ok, sum_to, work_after}
use Rattle.spec.specs.Transport.{solve_cells, solved_by, plan_size, plan_mass, plan_after, WIDEST}
use Rattle.laws.specs.Tests.{both_true, clash}
use Rattle.wide.specs.Value.{unsigned}
use Rattle.wide.specs.Wrap.{Natural}
use Rattle.flow.specs.Sums.{sum-term}
use Rattle.flow.specs.Network.{row_flow-is}
use Rattle.flow.specs.Theorems.{margins}
use Rattle.transport.specs.declared.Answer.{Answer}
use Rattle.transport.specs.declared.Answer.TheVariants as A
use Rattle.transport.specs.declared.Quality.{Quality}
use Rattle.cost_matrix.specs.Matrix.{CELLS, COSTS, costs_after, Given, Laid}
use Rattle.cost_matrix.specs.Places.{cells_fit, place_of}
use Rattle.cost_matrix.specs.Cells.{cells_from, problem_of, small_of}
use Rattle.cost_matrix.specs.Laying.{given-of}
use Rattle.augment.specs.Solved.{PlanIn, is_plan}
use Rattle.transport.specs.Slices.{Shaped, total_from}
use Rattle.transport.specs.Public.{told, totals_of, shape_of, shaped_of, transport_of, Told}
use Rattle.transport.proofs.Totals.{size-total, mass-total}

module _ (supply demand sizes masses flags plan : List ℕ) where
  abbrev shape : Bool
  shape = shape_of (length supply) (length demand) (length sizes) (length masses) (length flags) (length plan)

  pub wrong-shape : false ≡ shape → Told (shaped_of supply demand sizes masses flags (length plan)) plan plan (A.Refused 15)
  unfolding shaped_of told totals_of plan_after
  wrong-shape e = rw (sym e) (record { is = refl; after = refl })

  pub no-plan : (f : List ℕ) → true ≡ shape → PlanIn (problem_of supply demand sizes masses flags) false f → Told (shaped_of supply demand sizes masses flags (length plan)) plan plan (A.Refused 16)
  unfolding shaped_of told totals_of plan_after solved_by
  no-plan f e P = go (solve_cells (problem_of supply demand sizes masses flags)) refl
    where
      go : (o : Option (List ℕ)) → solve_cells (problem_of supply demand sizes masses flags) ≡ o → Told (shaped_of supply demand sizes masses flags (length plan)) plan plan (A.Refused 16)
      go none q = rw (sym e, q) (record { is = refl; after = refl })
      go (some x) q = absurd (clash (sym (P.is ∙ ap is_plan q)))

  -- the plan that was found
  pub found-plan : (f : List ℕ) → PlanIn (problem_of supply demand sizes masses flags) true f → (x : List ℕ) × (solve_cells (problem_of supply demand sizes masses flags) ≡ some x)
  found-plan f P = go (solve_cells (problem_of supply demand sizes masses flags)) refl
    where
      go : (o : Option (List ℕ)) → solve_cells (problem_of supply demand sizes masses flags) ≡ o → (x : List ℕ) × (o ≡ some x)
      go none q = absurd (clash (P.is ∙ ap is_plan q))
      go (some x) q = (x, refl)

  -- its cells are 32-bit numbers
  pub plan-low : (f : List ℕ) → ((i : ℕ) → get_or supply i 0 < 2 ^ 32) → PlanIn (problem_of supply demand sizes masses flags) true f → (k : ℕ) → k < length supply * length demand → get_or f k 0 < 2 ^ 32
  unfolding problem_of
  plan-low f low P k hk = go (found-plan f P) (place_of (length supply) (length demand) k hk)
    where
      go : (x : List ℕ) × (solve_cells (problem_of supply demand sizes masses flags) ≡ some x) → (i : ℕ) × (j : ℕ) × (i < length supply) × (j < length demand) × (k ≡ i * length demand + j) → get_or f k 0 < 2 ^ 32
      go (x, e) (i, j, hi, hj, q) =
          let M = margins (problem_of supply demand sizes masses flags) x e in
          let t : get_or f k 0 ≡ get_or x k 0 = sym (get_or-take (length supply * length demand) f k 0 hk) ∙ ap (λ (l : List ℕ). get_or l k 0) (P.plan x e) in
          let r : sum_to (length demand) (λ j. get_or x (i * length demand + j) 0) ≡ get_or supply i 0 = sym (row_flow-is (problem_of supply demand sizes masses flags) x i) ∙ M.rows i hi in
          omega (arith, t, ap (λ (z : ℕ). get_or x z 0) q, sum-term (length demand) (λ j. get_or x (i * length demand + j) 0) j hj, r, low i)

  pub planned : (f plan' : List ℕ) (t : Quality) → true ≡ shape → length plan ≡ length supply * length demand → length sizes ≡ length supply * length demand → length plan' ≡ length plan → PlanIn (problem_of supply demand sizes masses flags) true f → plan' ≡ take (length plan) f
      → Natural t.size (total_from plan' sizes flags (length plan') 0) → Natural t.mass (total_from plan' masses flags (length plan') 0) → Told (shaped_of supply demand sizes masses flags (length plan)) plan plan' (A.Plan t)
  unfolding shaped_of told totals_of plan_after solved_by problem_of unsigned
  planned f plan' t e lp ls lp' P q S M = go (found-plan f P)
    where
      go : (x : List ℕ) × (solve_cells (problem_of supply demand sizes masses flags) ≡ some x) → Told (shaped_of supply demand sizes masses flags (length plan)) plan plan' (A.Plan t)
      go (x, w) =
          let same : plan' ≡ x = q ∙ ap (λ (n : ℕ). take n f) lp ∙ P.plan x w in
          let n : length plan' ≡ length sizes = lp' ∙ lp ∙ sym ls in
          let s : t.size.lo + 2 ^ 64 * t.size.hi ≡ plan_size x (cells_from sizes masses flags (length sizes) 0) = S.is ∙ sym (size-total plan' sizes masses flags (length plan') 0 (sym (zero-add (length plan')))) ∙ (λ i. plan_size (same i) (cells_from sizes masses flags (n i) 0)) in
          let m : t.mass.lo + 2 ^ 64 * t.mass.hi ≡ plan_mass x (cells_from sizes masses flags (length sizes) 0) = M.is ∙ sym (mass-total plan' sizes masses flags (length plan') 0 (sym (zero-add (length plan')))) ∙ (λ i. plan_mass (same i) (cells_from sizes masses flags (n i) 0)) in
          rw (sym e, w) (record { is = λ i. ok (s i, m i); after = same })

-- the first gate
pub too_short : (supply demand sizes masses flags plan : List ℕ) → Told (transport_of false supply demand sizes masses flags (length plan)) plan plan (A.Refused 1)
unfolding transport_of told totals_of plan_after
too_short supply demand sizes masses flags plan = record { is = refl; after = refl }

pub long-enough : (supply demand sizes masses flags plan plan' : List ℕ) (r : Answer) → Told (shaped_of supply demand sizes masses flags (length plan)) plan plan' r → Told (transport_of true supply demand sizes masses flags (length plan)) plan plan' r
unfolding transport_of
long-enough supply demand sizes masses flags plan plan' r T = T

-- ---- the shape
le_of : (a b : ℕ) → leb a b ≡ true → a ≤ b
le_of a b e = leb→le a b (rw e tt)

eq_of : (a b : ℕ) → eqb a b ≡ true → a ≡ b
eq_of a b e = eqb→eq a b (rw e tt)

pub shape-right : (supply demand sizes masses flags plan costs flow : List ℕ) → COSTS ≤ length costs → CELLS ≤ length flow
    → true ≡ shape_of (length supply) (length demand) (length sizes) (length masses) (length flags) (length plan) → Shaped supply demand sizes masses flags costs flow × (length plan ≡ length supply * length demand)
shape-right supply demand sizes masses flags plan costs flow lc lf e =
    let n = length supply * length demand in
    let (a, a') = (both_true (leb (length supply) WIDEST) (both (leb (length demand) WIDEST) (both (eqb (length sizes) n) (both (eqb (length masses) n) (both (eqb (length flags) n) (eqb (length plan) n)))))).0 (sym e) in
    let (b, b') = (both_true (leb (length demand) WIDEST) (both (eqb (length sizes) n) (both (eqb (length masses) n) (both (eqb (length flags) n) (eqb (length plan) n))))).0 a' in
    let (c, c') = (both_true (eqb (length sizes) n) (both (eqb (length masses) n) (both (eqb (length flags) n) (eqb (length plan) n)))).0 b' in
    let (d, d') = (both_true (eqb (length masses) n) (both (eqb (length flags) n) (eqb (length plan) n))).0 c' in
    let (f, g) = (both_true (eqb (length flags) n) (eqb (length plan) n)).0 d' in
    let few = cells_fit (length supply) (length demand) (le_of (length supply) WIDEST a) (le_of (length demand) WIDEST b) in (
      record {
        rows = le_of (length supply) WIDEST a;
        columns = le_of (length demand) WIDEST b;
        sizes_long = eq_of (length sizes) n c;
        masses_long = eq_of (length masses) n d;
        allowed_long = eq_of (length flags) n f;
        costs_long = omega (arith, lc, few);
        flow_long = omega (arith, lf, few);
      },
      eq_of (length plan) n g,
    )

-- the slices' problem is in place once its costs are laid
module _ (supply demand sizes masses flags costs flow : List ℕ) (Z : Shaped supply demand sizes masses flags costs flow) (low : (i : ℕ) → get_or supply i 0 < 2 ^ 32) (lows : (i : ℕ) → get_or sizes i 0 < 2 ^ 32) (lowm : (i : ℕ) → get_or masses i 0 < 2 ^ 32) (g : List ℕ)
    (e : g ≡ costs_after (problem_of supply demand sizes masses flags) costs) where
  pub slices-given : Given (problem_of supply demand sizes masses flags) supply demand g
  unfolding problem_of
  slices-given = given-of (problem_of supply demand sizes masses flags) (small_of supply demand sizes masses flags Z.rows Z.columns low lows lowm) supply demand costs g refl refl Z.costs_long e

  pub slices-laid : Laid supply demand g
  slices-laid = record { p = problem_of supply demand sizes masses flags; given = slices-given }

-- ---- the loops
abbrev pub Copied : List ℕ → List ℕ → ℕ → Type 0
Copied f x n = (k : ℕ) → k < n → get_or x k 0 ≡ get_or f k 0

pub copied_next : (f x : List ℕ) (n : ℕ) → n < length x → Copied f x n → Copied f (set x n (get_or f n 0)) (n + 1)
copied_next f x n h C k hk = go (ℕ_discrete k n)
  where
    go : Dec (k ≡ n) → get_or (set x n (get_or f n 0)) k 0 ≡ get_or f k 0
    go (yes e) = rw e (get_or-set_same x n (get_or f n 0) 0 h)
    go (no e) = get_or-set_other x n k (get_or f n 0) 0 e ∙ C k (omega arith)

pub copied-end : (f x : List ℕ) (n : ℕ) → length x ≡ n → n ≤ length f → Copied f x n → x ≡ take n f
copied-end f x n e h C = ext_get_or 0 x (take n f) (e ∙ sym (length-take-le n f h)) (λ k hk. C k (rw e at hk) ∙ sym (get_or-take n f k 0 (rw e at hk)))

-- ---- the gates of the public function
module _ (supply demand sizes masses flags plan costs flow : List ℕ) where
  abbrev fit : Bool
  fit = both (leb COSTS (length costs)) (leb CELLS (length flow))

  pub gate-costs : length costs < COSTS → Told (transport_of fit supply demand sizes masses flags (length plan)) plan plan (A.Refused 1) × (costs ≡ work_after 0 fit costs) × (flow ≡ work_after 0 fit flow)
  gate-costs h = rw (lt-leb COSTS (length costs) h) (too_short supply demand sizes masses flags plan, refl, refl)

  pub gate-flow : COSTS ≤ length costs → length flow < CELLS → Told (transport_of fit supply demand sizes masses flags (length plan)) plan plan (A.Refused 1) × (costs ≡ work_after 0 fit costs) × (flow ≡ work_after 0 fit flow)
  gate-flow g h = rw (le-leb COSTS (length costs) g, lt-leb CELLS (length flow) h) (too_short supply demand sizes masses flags plan, refl, refl)

  pub gate-open : COSTS ≤ length costs → CELLS ≤ length flow → (plan' : List ℕ) (r : Answer) → Told (shaped_of supply demand sizes masses flags (length plan)) plan plan' r
      → (costs' flow' : List ℕ) (m n : ℕ) → costs' ≡ replicate m 0 → m ≡ length costs → flow' ≡ replicate n 0 → n ≡ length flow
      → Told (transport_of fit supply demand sizes masses flags (length plan)) plan plan' r × (costs' ≡ work_after 0 fit costs) × (flow' ≡ work_after 0 fit flow)
  gate-open g h plan' r t costs' flow' m n a b c d =
      rw (le-leb COSTS (length costs) g, le-leb CELLS (length flow) h)
      (long-enough supply demand sizes masses flags plan plan' r t, a ∙ ap (λ (k : ℕ). replicate k 0) b, c ∙ ap (λ (k : ℕ). replicate k 0) d)
