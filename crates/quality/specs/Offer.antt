-- The quality of a structural action, its offer to the best so far, and its choice.
use Rattle.std.specs.Prelude.{map}
use Rattle.spec.specs.Bytes.{pick, Two}
use Rattle.spec.specs.Image.{Tables}
use Rattle.spec.specs.Action.{Action}
use Rattle.spec.specs.Round.{better, ones, quality_over, of_action, Choice, act}
use Rattle.actions.specs.Place.{action_at}
use Rattle.actions.specs.declared.State.{State}
use Rattle.quality.specs.declared.How.TheVariants.{Aligned}
use Rattle.quality.specs.declared.Best.{Best}

-- "An action gives 1 plus the sum of count × size, and the sum of count × mass."
abbrev pub structural_quality : (Two → Two) → Action → Two
structural_quality q a = quality_over (ones a.pairs) (map q a.pairs)

-- "a strictly better action replaces": the action at v is offered to b
abbrev pub offer_at : Tables → (Two → Two) → State → Best → Best
offer_at t q v b =
    let x = structural_quality q (action_at t v) in
    pick (better x (b.size, b.mass)) (record { size = x.0; mass = x.1; how = Aligned v }) b

-- the choice of the structural action at a state
abbrev pub act_at : Tables → State → Choice
act_at t v = act (of_action (action_at t v))
