-- A pair's quality in a run: its mass is at most its size, and its numbers have 32 bits. What the rounds over pairs keep.
use Rattle.std.specs.Prelude.{◌^◌, ◌<◌}
use Rattle.spec.specs.Bytes.{In, Limits, Two}
use Rattle.spec.specs.Image.{Tables}
use Rattle.spec.specs.Action.{joins}
use Rattle.spec.specs.Pairs.{pairs, making}
use Rattle.spec.specs.Round.{turn_of}
use Rattle.pools.proofs.PoolSort.{action-enters}
use Rattle.steps.specs.Bounds.{Low, over-low, turn_low, turn_small}
use Rattle.steps.specs.Standing.{Keeps}
use Rattle.lgg.specs.Moves.{pair_reads}

-- a quality that the code's numbers hold
abbrev pub Fits : Two → Type 0
Fits z = Low z × (z.0 < 2 ^ 32)

turn-fits : (t : Tables) (q : Two → Two) (p : Two) → Fits (q p) → ((c : Two) → In c (joins t p) → Fits (q c)) → Fits (turn_of t q p).quality
turn-fits t q p (l, s) h = (
  turn_low (pairs t) (pair_reads t).inside over-low q p l (λ c i. (h c i).0),
  (turn_small (pairs t) (pair_reads t).inside over-low q p (2 ^ 32) s l (λ c i. (h c i).0)).0,
)

pub pair_keeps : (lim : Limits) (t : Tables) → Keeps (pairs t) (making lim t) Fits
pair_keeps lim t = record {
  action = λ pool o l a w b e. let E = action-enters lim t pool w o l a b e in record { valid = E.valid; grown = E.grown; within = E.within };
  inside = (pair_reads t).inside;
  fits = turn-fits t;
}
