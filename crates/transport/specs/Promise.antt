-- What a call of `solve_transport` promises, from its contract: "in transport 1, 15, 16", "Each is returned in its case only"; any other answer is a plan that meets its margins and is the least of all.
use Rattle.std.specs.Prelude.{◌≡◌, ◌⊎◌, ◌↔◌, Bool, List, ℕ, ◌*◌, ◌≤◌, leb, eqb, replicate}
use Rattle.std.proofs.Math.Path.{refl, sym, ap}
use Rattle.std.proofs.Common.{◌∙◌, subst, inl, inr, arith, leb-true, eqb-true, le-leb, eq-eqb}
use Rattle.std.proofs.Math.Bool.{true, false}
use Rattle.std.proofs.Math.ListN.{length}
use Rattle.spec.specs.Bytes.{both, Two, Res, ok, refused, work_after}
use Rattle.spec.specs.Meaning.{Plan, ◌⊑◌}
use Rattle.spec.specs.Transport.{Problem, Solution, shape_right, solve_transport, plan_after, WIDEST}
use Rattle.laws.specs.Tests.{both_true, clash}
use Rattle.wide.specs.Value.{unsigned}
use Rattle.flow.specs.Theorems as F
use Rattle.flow.specs.Theorems.{totals, NoPlan}
use Rattle.transport.specs.declared.Answer.{Answer}
use Rattle.transport.specs.declared.Answer.TheVariants as A
use Rattle.transport.specs.declared.Quality.{Quality}
use Rattle.cost_matrix.specs.Matrix.{CELLS, COSTS}
use Rattle.cost_matrix.specs.Cells.{cells-length, problem_of}
use Rattle.transport.specs.Public.{told, totals_of, shape_of, shaped_of, transport_of, Ensures}

-- 1: no "work buffer below its constant length"
abbrev pub Fits : List ℕ → List ℕ → Type 0
Fits costs flow = (COSTS ≤ length costs) × (CELLS ≤ length flow)

-- 15: not "over 65 rows or columns, or cells or a lent plan buffer not rows × columns". A cell has a size, a mass and a flag.
abbrev pub Shape : (supply demand sizes masses allowed plan : List ℕ) → Type 0
Shape supply demand sizes masses allowed plan =
    (length supply ≤ WIDEST) × (length demand ≤ WIDEST) × (length sizes ≡ length supply * length demand) × (length masses ≡ length supply * length demand) × (length allowed ≡ length supply * length demand) × (length plan ≡ length supply * length demand)

-- the promise, of the problem p that the slices give
pub record Promise (supply demand sizes masses allowed plan costs flow plan' costs' flow' : List ℕ) (r : Answer) (p : Problem) : Type 0 where
  -- "a work buffer below its constant length"
  pub refused-1 : (r ≡ A.Refused 1) ↔ (Fits costs flow → ⊥)
  -- "over 65 rows or columns, or cells or a lent plan buffer not rows × columns"
  pub refused-15 : (r ≡ A.Refused 15) ↔ (Fits costs flow × (Shape supply demand sizes masses allowed plan → ⊥))
  -- "no plan meets the margins, or no row, or no column": `Plan` asks for a row and a column
  pub refused-16 : (r ≡ A.Refused 16) ↔ (Fits costs flow × Shape supply demand sizes masses allowed plan × NoPlan p)
  pub no_other : (k : ℕ) → r ≡ A.Refused k → (k ≡ 1) ⊎ ((k ≡ 15) ⊎ (k ≡ 16))
  -- "row and column sums of the plan equal the margins"
  pub margins : (q : Quality) → r ≡ A.Plan q → Plan p plan'
  -- "at the least size, then mass, of all whole-number plans"
  pub least : (q : Quality) → r ≡ A.Plan q → (y : List ℕ) → Plan p y → totals p plan' ⊑ totals p y
  -- the size and mass returned are the plan's
  pub total : (q : Quality) → r ≡ A.Plan q → (unsigned q.size, unsigned q.mass) ≡ totals p plan'
  -- a refusal leaves the plan as it was
  pub kept : (k : ℕ) → r ≡ A.Refused k → plan' ≡ plan
  -- every answer but 1 clears the work buffers, and 1 "leaves them alone"
  pub cleared : Fits costs flow → (costs' ≡ replicate (length costs) 0) × (flow' ≡ replicate (length flow) 0)
  pub alone : (Fits costs flow → ⊥) → (costs' ≡ costs) × (flow' ≡ flow)

-- ---- the tests
fits-says : (costs flow : List ℕ) → both (leb COSTS (length costs)) (leb CELLS (length flow)) ≡ true ↔ Fits costs flow
fits-says costs flow = (
  λ e. let (a, b) = (both_true (leb COSTS (length costs)) _).0 e in (leb-true COSTS (length costs) a, leb-true CELLS (length flow) b),
  λ h. rw (le-leb COSTS (length costs) h.0, le-leb CELLS (length flow) h.1) refl,
)

shape-says : (r c s m a p : ℕ) → shape_of r c s m a p ≡ true ↔ ((r ≤ WIDEST) × (c ≤ WIDEST) × (s ≡ r * c) × (m ≡ r * c) × (a ≡ r * c) × (p ≡ r * c))
shape-says r c s m a p = (says, λ h. rw (le-leb r WIDEST h.0, le-leb c WIDEST h.1, eq-eqb s (r * c) h.2, eq-eqb m (r * c) h.3, eq-eqb a (r * c) h.4, eq-eqb p (r * c) h.5) refl)
  where
    says : shape_of r c s m a p ≡ true → (r ≤ WIDEST) × (c ≤ WIDEST) × (s ≡ r * c) × (m ≡ r * c) × (a ≡ r * c) × (p ≡ r * c)
    says e =
        let (x, e₁) = (both_true (leb r WIDEST) _).0 e in
        let (y, e₂) = (both_true (leb c WIDEST) _).0 e₁ in
        let (z, e₃) = (both_true (eqb s (r * c)) _).0 e₂ in
        let (u, e₄) = (both_true (eqb m (r * c)) _).0 e₃ in
        let (v, w) = (both_true (eqb a (r * c)) _).0 e₄ in
        (leb-true r WIDEST x, leb-true c WIDEST y, eqb-true s (r * c) z, eqb-true m (r * c) u, eqb-true a (r * c) v, eqb-true p (r * c) w)

by_tests : (a b s p : Bool) → both a (both b (both s (both s (both s p)))) ≡ both (both a b) (both s p)
by_tests true true true p = refl
by_tests true true false p = refl
by_tests true false s p = refl
by_tests false b s p = refl

-- ---- with as many masses and flags as sizes the answer is the definition's
module _ (supply demand sizes masses allowed : List ℕ) (m : length masses ≡ length sizes) (a : length allowed ≡ length sizes) (plan : ℕ) where
  shape_is : shape_of (length supply) (length demand) (length sizes) (length masses) (length allowed) plan ≡ shape_right (problem_of supply demand sizes masses allowed) plan
  unfolding problem_of
  shape_is =
      rw (m, a, cells-length sizes masses allowed (length sizes) 0)
      (by_tests (leb (length supply) WIDEST) (leb (length demand) WIDEST) (eqb (length sizes) (length supply * length demand)) (eqb plan (length supply * length demand)))

  pub transport-is : (fit : Bool) → transport_of fit supply demand sizes masses allowed plan ≡ solve_transport fit (problem_of supply demand sizes masses allowed) plan
  unfolding transport_of shaped_of solve_transport
  transport-is false = refl
  transport-is true = rw shape_is refl

-- ---- the answer of a call
refusal-of : (r : Answer) (k : ℕ) → told r ≡ refused k → r ≡ A.Refused k
unfolding told
refusal-of (A.Plan q) k e = absurd (let z : ◌≡◌ {A = ℕ} 0 1 = cc in omega arith)
refusal-of (A.Refused n) k e = ap A.Refused (same e)
  where
    same : ◌≡◌ {A = Res Two} (refused n) (refused k) → n ≡ k
    same e = cc

refused-ok : {k : ℕ} {x : Two} → ◌≡◌ {A = Res Two} (refused k) (ok x) → ⊥
refused-ok e = let z : ◌≡◌ {A = ℕ} 0 1 = cc in absurd (omega arith)

ok-inj : {x y : Two} → ◌≡◌ {A = Res Two} (ok x) (ok y) → x ≡ y
ok-inj e = cc

one_number : {r : Answer} {j k : ℕ} → r ≡ A.Refused j → r ≡ A.Refused k → j ≡ k
one_number {r} {j} {k} e f = same (sym e ∙ f)
  where
    same : A.Refused j ≡ A.Refused k → j ≡ k
    same e = cc

no_both : {r : Answer} {q : Quality} {k : ℕ} → r ≡ A.Plan q → r ≡ A.Refused k → ⊥
no_both {r} {q} {k} e f = clash (sym e ∙ f)
  where
    clash : A.Plan q ≡ A.Refused k → ⊥
    clash e = let z : ◌≡◌ {A = ℕ} 0 1 = cc in absurd (omega arith)

module _ (supply demand sizes masses allowed plan costs flow plan' costs' flow' : List ℕ) (r : Answer) (c : Ensures supply demand sizes masses allowed plan costs flow plan' costs' flow' r) where
  abbrev p : Problem
  p = problem_of supply demand sizes masses allowed

  abbrev P : Type 0
  P = Promise supply demand sizes masses allowed plan costs flow plan' costs' flow' r p

  abbrev fit : Bool
  fit = both (leb COSTS (length costs)) (leb CELLS (length flow))

  abbrev shape : Bool
  shape = shape_of (length supply) (length demand) (length sizes) (length masses) (length allowed) (length plan)

  abbrev M : Res Solution
  M = transport_of fit supply demand sizes masses allowed (length plan)

  short : fit ≡ false → Fits costs flow → ⊥
  short e h = clash (sym ((fits-says costs flow).1 h) ∙ e)

  wrong : shape ≡ false → Shape supply demand sizes masses allowed plan → ⊥
  wrong e h = clash (sym ((shape-says (length supply) (length demand) (length sizes) (length masses) (length allowed) (length plan)).1 h) ∙ e)

  clears : Fits costs flow → (costs' ≡ replicate (length costs) 0) × (flow' ≡ replicate (length flow) 0)
  clears h = let e = (fits-says costs flow).1 h in (c.1 ∙ ap (λ (b : Bool). work_after 0 b costs) e, c.2 ∙ ap (λ (b : Bool). work_after 0 b flow) e)

  leaves : (Fits costs flow → ⊥) → (costs' ≡ costs) × (flow' ≡ flow)
  leaves n = go fit refl
    where
      go : (b : Bool) → fit ≡ b → (costs' ≡ costs) × (flow' ≡ flow)
      go true e = absurd (n ((fits-says costs flow).0 e))
      go false e = (c.1 ∙ ap (λ (b : Bool). work_after 0 b costs) e, c.2 ∙ ap (λ (b : Bool). work_after 0 b flow) e)

  -- refused by k: the cases of 1, 15 and 16 are to be shown
  refusal : (k : ℕ) → M ≡ refused k → (k ≡ 1) ⊎ ((k ≡ 15) ⊎ (k ≡ 16)) → (k ≡ 1) ↔ (Fits costs flow → ⊥) → (k ≡ 15) ↔ (Fits costs flow × (Shape supply demand sizes masses allowed plan → ⊥)) → (k ≡ 16) ↔ (Fits costs flow × Shape supply demand sizes masses allowed plan × NoPlan p) → P
  unfolding totals_of plan_after
  refusal k e o a b d =
      let R : r ≡ A.Refused k = refusal-of r k (c.0.is ∙ ap totals_of e) in
      record {
        refused-1 = (λ z. a.0 (one_number R z), λ h. R ∙ ap A.Refused (a.1 h));
        refused-15 = (λ z. b.0 (one_number R z), λ h. R ∙ ap A.Refused (b.1 h));
        refused-16 = (λ z. d.0 (one_number R z), λ h. R ∙ ap A.Refused (d.1 h));
        no_other = λ j z. rw (one_number R z) at o;
        margins = λ q z. absurd (no_both z R);
        least = λ q z. absurd (no_both z R);
        total = λ q z. absurd (no_both z R);
        kept = λ j z. c.0.after ∙ ap (plan_after plan) e;
        cleared = clears;
        alone = leaves;
      }

  -- solved by x
  solution : (x : List ℕ) → M ≡ ok (record { plan = x; size = (totals p x).0; mass = (totals p x).1 }) → Fits costs flow → Shape supply demand sizes masses allowed plan → Plan p x → ((y : List ℕ) → Plan p y → totals p x ⊑ totals p y) → P
  unfolding told totals_of plan_after
  solution x e h s X l =
      let w : plan' ≡ x = c.0.after ∙ ap (plan_after plan) e in
      let t : told r ≡ ok (totals p x) = c.0.is ∙ ap totals_of e in
      let never : (k : ℕ) → r ≡ A.Refused k → ⊥ = λ k z. refused-ok (sym (ap told z) ∙ t) in
      record {
        refused-1 = (λ z. absurd (never 1 z), λ n. absurd (n h));
        refused-15 = (λ z. absurd (never 15 z), λ n. absurd (n.1 s));
        refused-16 = (λ z. absurd (never 16 z), λ n. absurd (n.2 x X));
        no_other = λ k z. absurd (never k z);
        margins = λ q z. rw w X;
        least = λ q z. rw w l;
        total = λ q z. rw w (ok-inj (sym (ap told z) ∙ t));
        kept = λ k z. absurd (never k z);
        cleared = clears;
        alone = leaves;
      }

  pub promise : P
  unfolding transport_of shaped_of
  promise = go fit refl shape refl
    where
      answered : Fits costs flow → Shape supply demand sizes masses allowed plan → F.Answer p (length plan) M → P
      answered h s (F.solved x e f X l) = solution x e h s X l
      answered h s (F.wrong_shape e f) = absurd (wrong (shape_is supply demand sizes masses allowed (s.3 ∙ sym s.2) (s.4 ∙ sym s.2) (length plan) ∙ f) s)
      answered h s (F.no_plan e f n) = refusal 16 e (inr (inr refl)) (λ z. absurd (omega arith), λ z. absurd (z h)) (λ z. absurd (omega arith), λ z. absurd (z.1 s)) (λ z. (h, s, n), λ z. refl)

      go : (b : Bool) → fit ≡ b → (s : Bool) → shape ≡ s → P
      go false e s f = refusal 1 (rw e refl) (inl refl) (λ z. short e, λ z. refl) (λ z. absurd (omega arith), λ z. absurd (short e z.0)) (λ z. absurd (omega arith), λ z. absurd (short e z.0))
      go true e false f = let h = (fits-says costs flow).0 e in
          refusal 15 (rw (e, f) refl) (inr (inl refl)) (λ z. absurd (omega arith), λ z. absurd (z h)) (λ z. (h, wrong f), λ z. refl) (λ z. absurd (omega arith), λ z. absurd (wrong f z.1))
      go true e true f =
          let s = (shape-says (length supply) (length demand) (length sizes) (length masses) (length allowed) (length plan)).0 f in
          let q : M ≡ solve_transport true p (length plan) = ap (λ (b : Bool). transport_of b supply demand sizes masses allowed (length plan)) e ∙ transport-is supply demand sizes masses allowed (s.3 ∙ sym s.2) (s.4 ∙ sym s.2) (length plan) true in
          answered ((fits-says costs flow).0 e) s (subst (λ (z : Res Solution). F.Answer p (length plan) z) (sym q) (F.answer p (length plan)))
