-- What a plan of a transport action gives: its quality, and the best and the list after it is offered.
use Rattle.std.specs.Prelude.{List, map, ℕ, length}
use Rattle.std.proofs.Math.Option.{Option, none, some}
use Rattle.spec.specs.Bytes.{Two, pick}
use Rattle.spec.specs.Monomial.{MonomialPair}
use Rattle.spec.specs.Action.{TransportAction, cell_pairs}
use Rattle.spec.specs.Round.{better, quality_over}
use Rattle.laws.specs.Buffers.{over}
use Rattle.quality.specs.declared.How.TheVariants as H
use Rattle.quality.specs.declared.Best.{Best}
use Rattle.plan_offer.specs.Listing.{runs_at}

abbrev pub action_of : ℕ → MonomialPair → TransportAction
action_of o m = record { op = o; sides = m }

module _ (q : Two → Two) (of : Two → ℕ) (a : TransportAction) where
  -- what a plan gives
  abbrev pub quality_at : List ℕ → Two
  quality_at x = quality_over x (map q (cell_pairs a.sides))

  abbrev pub planned : List ℕ → Best
  planned x = record { size = (quality_at x).0; mass = (quality_at x).1; how = H.Plan a.op (length (runs_at of a.sides x)) }

  -- "a strictly better action replaces"; where there is no plan, nothing is offered
  abbrev pub best_after : Option (List ℕ) → Best → Best
  best_after none b = b
  best_after (some x) b = pick (better (quality_at x) (b.size, b.mass)) (planned x) b

  -- a better plan's runs are listed
  abbrev pub list_after : Option (List ℕ) → Best → List ℕ → List ℕ
  list_after none b list = list
  list_after (some x) b list = pick (better (quality_at x) (b.size, b.mass)) (over (runs_at of a.sides x) list) list
