use Rattle.quality.specs.declared.How.TheVariants.{Aligned}
use Rattle.quality.specs.declared.Best.{Best}
use Rattle.actions.specs.declared.State.{State}
use Rattle.spec.specs.Bytes.{Two, pick}
use Rattle.spec.specs.Round.{better}
use Prim.Native.Nat.{ℕ}
use mathlib.Core.Bool.{Bool}
use mathlib.Core.Path.{◌≡◌, sym, ◌∙◌}
use Rattle.quality.proofs.offer.Goals as goal

offer-by : {y : Two} {size mass : ℕ} {c : Bool} (v : State) (b : Best) → (size, mass) ≡ y → c ≡ better (size, mass) (b.size, b.mass)
    → pick c (record { size = size; mass = mass; how = Aligned v }) b ≡ pick (better y (b.size, b.mass)) (record { size = y.0; mass = y.1; how = Aligned v }) b
offer-by {size = size} {mass = mass} v b e f =
    (λ i. pick (f i) (record { size = size; mass = mass; how = Aligned v }) b) ∙ (λ i. pick {A = Best} (better (e i) (b.size, b.mass)) (record { size = (e i).0; mass = (e i).1; how = Aligned v }) b)

pub returns-then-better : goal.returns-then-better
returns-then-better c =
    let w = c.structural_quality-q in offer-by c.args.v c.args.b w.ensures (sym c.if-better.true ∙ c.better.ensures)

pub returns : goal.returns
returns c =
    let w = c.structural_quality-q in offer-by c.args.v c.args.b w.ensures (sym c.if-better.false ∙ c.better.ensures)
