-- Demand 2, of a call of `merge` that is not refused, from its contract: the formula's readings, its size and mass. Then, of the definitions: the transport plans that turns take.
use Rattle.std.specs.Prelude.{◌≡◌, Bool, ℕ, ◌<◌, length, take}
use Rattle.std.proofs.Math.Path.{refl, ap}
use Rattle.std.proofs.Common.{◌∙◌, subst}
use mathlib.Core.List.{List, map, append_assoc}
use Rattle.std.proofs.Math.Seq.{take_at}
use Rattle.spec.specs.Bytes.{Two, ok}
use Rattle.spec.specs.Image.{Tables, tables_of}
use Rattle.spec.specs.Action.{Action, TransportAction, structural, transports, cell_pairs}
use Rattle.spec.specs.System as system
use Rattle.spec.specs.System.{worth}
use Rattle.spec.specs.Pairs.{pairs, quality_over}
use Rattle.spec.specs.Round.{look_up, problem_over, of_action, of_plan, stay, act, Turn, turn_of, turns_of, qualities_after}
use Rattle.spec.specs.Run.{limits_for, Outcome, run_of}
use Rattle.spec.specs.declared.Caller.{Caller}
use Rattle.spec.specs.Listing.{first_line, listing_of}
use Rattle.spec.specs.Meaning.{In, Plan, ◌⊑◌, term_quality, read_first, read_second, Branched, tree_at, Belongs}
use Rattle.laws.specs.Lists.{map-in}
use Rattle.laws.specs.Valid.{Valid}
use Rattle.laws.specs.Accepted as A
use Rattle.flow.specs.Theorems.{margins, least, totals}
use Rattle.pools.specs.Pool.{PoolValid}
use Rattle.steps.specs.Turn as turn
use Rattle.steps.specs.Turn.{Chosen, turn-says}
use Rattle.lgg.specs.Moves.{each-offer}
use Rattle.readings.specs.Readings as L
use Rattle.contract.specs.declared.Answer.TheVariants.{Listing}
use Rattle.contract.specs.Merges.{Merges}
use Rattle.demands.specs.Calls.{passed_over, shown, accepted, read_of}

module _ (who : Caller) (image : List ℕ) (left right budget : ℕ) (fit : Bool) (out out' : List ℕ) (n : ℕ) (m : Merges who image left right budget fit out out' (Listing n)) where
  abbrev t : Tables
  t = tables_of image

  -- the run behind the listing
  abbrev pub o : Outcome
  o = (accepted who image left right budget fit out out' n m).o

  abbrev ran : run_of (limits_for who) t (left, right) budget ≡ ok o
  ran = (accepted who image left right budget fit out out' n m).ran

  valid : Valid t
  valid = A.valid image t (read_of image (accepted who image left right budget fit out out' n m).taken.sound)

  -- o is what the run of the definitions gives, and the first n bytes of the output are its listing.
  pub the-listing : (run_of (limits_for who) t (left, right) budget ≡ ok o) × (n ≡ length (shown who image left right budget o)) × (take n out' ≡ shown who image left right budget o)
  the-listing = let a = accepted who image left right budget fit out out' n m in (a.ran, a.long, a.listed)

  -- The output begins with o's first line; what its bytes tell: `first-line-tells` (FirstLine).
  pub the-first-line : take (length (first_line (passed_over who image left right budget) o)) out' ≡ first_line (passed_over who image left right budget) o
  unfolding listing_of
  the-first-line =
      let a = accepted who image left right budget fit out out' n m in
      ap (take (length (first_line (passed_over who image left right budget) o))) (a.whole ∙ append_assoc (first_line (passed_over who image left right budget) o) _ _) ∙ take_at (first_line (passed_over who image left right budget) o) _ (length (first_line (passed_over who image left right budget) o)) refl

  -- o has a term: the pool's terms stand over earlier ones, no two alike, and the root is one of them.
  pub the_term : PoolValid o.pool × (o.root < length o.pool)
  the_term = L.run-pool (limits_for who) t valid (left, right) (accepted who image left right budget fit out out' n m).taken.asked budget o ran

  -- "The formula read by the first branch at every marked place belongs to the left class"
  pub first-reading : Belongs t (read_first (tree_at o.pool o.root)) left
  first-reading = (L.readings (limits_for who) t valid (left, right) (accepted who image left right budget fit out out' n m).taken.asked budget o ran).0

  -- ".. by the second to the right"
  pub second-reading : Belongs t (read_second (tree_at o.pool o.root)) right
  second-reading = (L.readings (limits_for who) t valid (left, right) (accepted who image left right budget fit out out' n m).taken.asked budget o ran).1

  -- "the marked place Variants of two best terms": every marked place of the formula has two branches.
  pub two-branches : Branched 2 (tree_at o.pool o.root)
  two-branches = L.two-branches (limits_for who) t valid (left, right) (accepted who image left right budget fit out out' n m).taken.asked budget o ran

  -- The size and mass of o, which the first line has, are the formula's.
  pub size-and-mass : term_quality (tree_at o.pool o.root) ≡ o.quality
  size-and-mass = L.run-quality (limits_for who) t valid (left, right) (accepted who image left right budget fit out out' n m).taken.asked budget o ran

-- ---- the transport plans of the steps
-- What the turn w of pair p chose, over the qualities q of the round before: its term stays; or a structural action, each joined pair once; or a transport action with a plan x.
pub data Chose (t : Tables) (q : Two → Two) (p : Two) (w : Turn) : Type 0 where
  stayed : w.choice ≡ stay → w.quality ≡ q p → Chose t q p w
  aligned : (a : Action) → In a (structural t p.0 p.1) → w.choice ≡ act (of_action a) → w.quality ≡ worth (pairs t) q (of_action a) → Chose t q p w
  planned : (a : TransportAction) → In a (transports t p.0 p.1) → (x : List ℕ) → w.choice ≡ act (of_plan a x) → w.quality ≡ worth (pairs t) q (of_plan a x)
      -- "Each transport plan meets its margins"
      → Plan (problem_over a (map q (cell_pairs a.sides))) x
      -- ".. at the least size, then mass, of all whole-number plans"
      → ((y : List ℕ) → Plan (problem_over a (map q (cell_pairs a.sides))) y → totals (problem_over a (map q (cell_pairs a.sides))) x ⊑ totals (problem_over a (map q (cell_pairs a.sides))) y)
      → Chose t q p w

module _ (t : Tables) (q : Two → Two) (p : Two) where
  -- "Each transport plan meets its margins at the least size, then mass, of all whole-number plans": the plan that a turn chooses, if it chooses one.
  -- The turns of round r, over the graph's pairs ps, are `turns_of t ps (qualities_after r t ps)`: `turn_of` of each pair with q = `look_up (0, 0) ps (qualities_after r t ps)`.
  pub turn-plans : Chose t q p (turn_of t q p)
  turn-plans = go (turn-says (pairs t) q p)
    where
      w : Turn
      w = turn_of t q p

      go : Chosen (pairs t) q p w → Chose t q p w
      go (turn.stayed c k) = stayed c k
      go (turn.acted a i c k) =
          each-offer (λ a. w.choice ≡ act a → w.quality ≡ quality_over a.counts (map q a.places) → Chose t q p w) t q p (λ b j c k. aligned b j c k)
          (λ b j x e c k. planned b j x c k (margins _ x e) (λ y Y. least _ x e y Y)) a i c k

-- So each turn of round r, over any pairs ps. In a run (`rounds_from`, spec/Run) ps are the pairs of its graph.
pub round-plans : (t : Tables) (ps : List Two) (r : ℕ) (w : Turn) → In w (turns_of t ps (qualities_after r t ps)) → (p : Two) × In p ps × Chose t (look_up (0, 0) ps (qualities_after r t ps)) p w
unfolding system.turns_of
round-plans t ps r w i =
    let (p, j, e) = map-in (turn_of t (look_up (0, 0) ps (qualities_after r t ps))) ps w i in
    (p, j, subst (λ (z : Turn). Chose t (look_up (0, 0) ps (qualities_after r t ps)) p z) e (turn-plans t (look_up (0, 0) ps (qualities_after r t ps)) p))
