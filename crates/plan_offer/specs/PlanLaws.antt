-- A plan weighed against the best so far, by the sums of two words each.
use Rattle.std.specs.Prelude.{◌≡◌, refl, Bool, true, false, List, ℕ, ◌+◌, ◌≤◌, length}
use Rattle.std.proofs.Common.{sym, ap, ◌∙◌, arith}
use Rattle.std.proofs.Math.Option.{some}
use Rattle.spec.specs.Bytes.{Two}
use Rattle.spec.specs.Transport.{plan_size, plan_mass}
use Rattle.spec.specs.Meaning.{In}
use Rattle.spec.specs.Action.{TransportAction, cell_pairs}
use Rattle.spec.specs.Round.{better}
use Rattle.laws.specs.Buffers.{over}
use Rattle.wide.specs.declared.Wide.{Wide}
use Rattle.wide.specs.Value.{unsigned}
use Rattle.wide.specs.Wrap.{Natural}
use Rattle.quality.specs.declared.How.TheVariants as H
use Rattle.quality.specs.declared.Best.{Best}
use Rattle.plan_offer.specs.Sums.{mass-below}
use Rattle.cells.specs.Problem.{problem_at}
use Rattle.plan_offer.specs.Listing.{runs_at}
use Rattle.plan_offer.specs.Better.{Words}
use Rattle.plan_offer.specs.Plans.{quality_at, best_after, list_after}

natural-is : {d : Wide} {n : ℕ} → Natural d n → unsigned d ≡ n
unfolding unsigned
natural-is N = N.is

module _ (q : Two → Two) (of : Two → ℕ) (a : TransportAction) (x : List ℕ) (size mass : Wide)
    (s : Natural size (plan_size x (problem_at q a.sides).cells)) (m : Natural mass (plan_mass x (problem_at q a.sides).cells)) where
  totals : ◌≡◌ {A = Two} (1 + unsigned size, unsigned mass) (quality_at q of a x)
  totals = λ i. (1 + natural-is s i, natural-is m i)

  pub mass-le : ((p : Two) → In p (cell_pairs a.sides) → (q p).1 ≤ (q p).0) → unsigned mass ≤ unsigned size
  mass-le low = omega (arith, natural-is s, natural-is m, mass-below q x (cell_pairs a.sides) low)

  module _ (b : Best) (list : List ℕ) where
    better-is : (z : Bool) → z ≡ better (1 + unsigned size, unsigned mass) (b.size, b.mass) → better (quality_at q of a x) (b.size, b.mass) ≡ z
    better-is z e = ap (λ (t : Two). better t (b.size, b.mass)) (sym totals) ∙ sym e

    pub plan-kept : (z : Bool) → z ≡ better (1 + unsigned size, unsigned mass) (b.size, b.mass) → z ≡ false → (b ≡ best_after q of a (some x) b) × (list ≡ list_after q of a (some x) b list)
    plan-kept z e f = let h = better-is z e ∙ f in (rw h refl, rw h refl)

    pub plan-replaced : (z : Bool) → z ≡ better (1 + unsigned size, unsigned mass) (b.size, b.mass) → z ≡ true → Words size mass → (k : ℕ) → k ≡ length (runs_at of a.sides x) → (list' : List ℕ) → list' ≡ over (runs_at of a.sides x) list
        → ◌≡◌ {A = Best} (record { size = size.lo + 1; mass = mass.lo; how = H.Plan a.op k }) (best_after q of a (some x) b) × (list' ≡ list_after q of a (some x) b list)
    plan-replaced z e f g k l list' n =
        let h = better-is z e ∙ f in
        let u : size.lo + 1 ≡ (quality_at q of a x).0 = sym g.0 ∙ ap (λ (t : Two). t.0) totals in
        let w : mass.lo ≡ (quality_at q of a x).1 = sym g.1 ∙ ap (λ (t : Two). t.1) totals in
        (rw h (λ i. record { size = u i; mass = w i; how = H.Plan a.op (l i) }), rw h n)
