-- The turn in the buffers is the definition's turn: the best so far has the quality of its choice, and a plan that was chosen is listed.
use Rattle.std.specs.Prelude.{◌≡◌, refl, Bool, ℕ, zero, suc, ◌^◌, ◌≤◌, ◌<◌, eqb, length, take, drop}
use Rattle.std.proofs.Common.{sym, ◌∙◌, arith, length-take}
use Rattle.std.proofs.Math.Path.{ap}
use Rattle.std.proofs.Math.Bool.{true, false}
use mathlib.Core.List.{List, [], ◌∷◌, ◌++◌, map}
use Rattle.std.proofs.Math.Option.{Option, none, some}
use Rattle.std.proofs.Math.Seq.{take_at}
use Rattle.spec.specs.Bytes.{each, Two, Limits, pick}
use Rattle.spec.specs.Image.{Tables}
use Rattle.spec.specs.Transport.{solve_cells}
use Rattle.spec.specs.Action.{TransportAction, structural, transports, joins, cell_pairs}
use Rattle.spec.specs.Meaning.{In, here, there}
use Rattle.spec.specs.System as system
use Rattle.spec.specs.System.{offer_all}
use Rattle.spec.specs.Pairs.{of_solved, solved_plans, offers_of, pairs}
use Rattle.spec.specs.Round.{better, of_action, of_plan, stay, act, Turn, turn_of, plan_runs}
use Rattle.laws.specs.Buffers.{over}
use Rattle.steps.specs.Turn.{all_append}
use Rattle.lgg.specs.TurnBounds.{turn_small}
use Rattle.lgg.specs.Cells.{CellsFit}
use Rattle.arrays.specs.Arrays.{Scratch}
use Rattle.best_aligned.specs.Aligned.{best_aligned, choice_at, StandsAt, after_aligned, Aligns}
use Rattle.quality.specs.declared.How.{How}
use Rattle.quality.specs.declared.How.TheVariants as H
use Rattle.quality.specs.declared.Best.{Best}
use Rattle.action_runs.specs.Runs.{packed, runs_over}
use Rattle.cost_matrix.specs.Matrix.{costs_after}
use Rattle.cells.specs.Problem.{problem_at}
use Rattle.plan_offer.specs.Listing.{runs_at}
use Rattle.plan_offer.specs.Plans.{quality_at, planned, best_after, list_after}
use Rattle.turn_term.specs.Agreeing.{Chosen, Agrees}
use Rattle.turn_term.specs.FinalTerm.{term_list}
use Rattle.turns.specs.Leaving.{Leaves, turn_in}
use Rattle.offers.specs.Offers.{Work, work_of, laid_at, offer_in, offers_in}

-- as many runs as places at most
pub runs-few : (of : Two → ℕ) (ps : List Two) (x : List ℕ) → length (runs_over of ps x) ≤ length ps
unfolding plan_runs
runs-few of [] x = omega arith
runs-few of (p ∷ ps) [] = omega arith
runs-few of (p ∷ ps) (n ∷ x) = step (eqb n 0) (runs-few of ps x)
  where
    step : (b : Bool) → length (runs_over of ps x) ≤ length ps → length (map packed (elim b [ true ↦ plan_runs of ps x | false ↦ (of p, n) ∷ plan_runs of ps x ])) ≤ suc (length ps)
    step true ih = omega (arith, ih)
    step false ih = omega (arith, ih)

-- the first numbers of a buffer that is written behind them
take-front : (m k : ℕ) (l r : List ℕ) → m ≤ k → m ≤ length l → take m (take k l ++ r) ≡ take m l
take-front zero k l r h e = refl
take-front (suc m) zero l r h e = absurd (omega arith)
take-front (suc m) (suc k) [] r h e = absurd (omega arith)
take-front (suc m) (suc k) (x ∷ l) r h e = ap (λ (z : List ℕ). x ∷ z) (take-front m k l r (omega arith) (omega arith))

module _ (k : ℕ) (t : Tables) (q : Two → Two) (of : Two → ℕ) where
  -- ---- one offer
  -- the cost matrix is laid behind the list
  laid-agrees : (list rest : List ℕ) (b : Best) (w : Turn) → Agrees k t of list b w → Agrees k t of (take k list ++ rest) b w
  laid-agrees list rest b w A = record { quality = A.quality; chosen = go b.how A.chosen }
    where
      go : (h : How) → Chosen k t of list h w.choice → Chosen k t of (take k list ++ rest) h w.choice
      go H.Stay c = c
      go (H.Aligned v) c = c
      go (H.Plan o m) c = record {
        places = c.places;
        plan = c.plan;
        is = c.is;
        runs = take-front m k list rest c.few (omega (arith, ap length c.runs, c.many, length-take m list)) ∙ c.runs;
        many = c.many;
        few = c.few;
      }

  agrees-plan : (a : TransportAction) (z : Option (List ℕ)) (list : List ℕ) (b : Best) (w : Turn) → length (cell_pairs a.sides) ≤ k → Agrees k t of list b w → Agrees k t of (list_after q of a z b list) (best_after q of a z b) (offer_all (pairs t) q (of_solved a z) w)
  unfolding offer_all
  agrees-plan a none list b w f A = A
  agrees-plan a (some x) list b w f A =
      let e : better (quality_at q of a x) (b.size, b.mass) ≡ better (quality_at q of a x) w.quality = ap (better (quality_at q of a x)) A.quality in
      rw (← e) (step (better (quality_at q of a x) (b.size, b.mass)))
    where
      step : (y : Bool) → Agrees k t of (pick y (over (runs_at of a.sides x) list) list) (pick y (planned q of a x) b) (pick y (record { quality = quality_at q of a x; choice = act (of_plan a x) }) w)
      step true = record {
        quality = refl;
        chosen = record {
          places = cell_pairs a.sides;
          plan = x;
          is = refl;
          runs = take_at (runs_at of a.sides x) (drop (length (runs_at of a.sides x)) list) (length (runs_at of a.sides x)) refl;
          many = refl;
          few = omega (arith, runs-few of (cell_pairs a.sides) x, f);
        };
      }
      step false = A

  offers-agree : (l : List TransportAction) (v : Work) (w : Turn) → ((a : TransportAction) → In a l → length (cell_pairs a.sides) ≤ k) → Agrees k t of v.work v.best w → Agrees k t of (offers_in k q of l v).work (offers_in k q of l v).best (offer_all (pairs t) q (each (solved_plans q) l) w)
  unfolding offers_in offer_in offer_all each solved_plans
  offers-agree [] v w f A = A
  offers-agree (a ∷ l) v w f A =
      rw (all_append (pairs t) q (solved_plans q a) (each (solved_plans q) l) w)
      (offers-agree l (offer_in k q of a v) (offer_all (pairs t) q (solved_plans q a) w) (λ b i. f b (there i))
      (agrees-plan a (solve_cells (problem_at q a.sides)) (laid_at k q a.sides v.work) v.best w (f a here) (laid-agrees v.work (costs_after (problem_at q a.sides) (drop k v.work)) v.best w A)))

  -- ---- after the structural actions
  aligned-agrees : (p : Two) (list : List ℕ) (b : Best) → Aligns t q p b → Agrees k t of list b (after_aligned t q p)
  aligned-agrees p list b A = record { quality = A.quality; chosen = go b.how A.choice A.stands }
    where
      go : (h : How) → choice_at t h ≡ (after_aligned t q p).choice → StandsAt t h → Chosen k t of list h (after_aligned t q p).choice
      go H.Stay e s = sym e
      go (H.Aligned v) e s = (s, sym e)
      go (H.Plan o m) e s = absurd s

  -- "structural actions come before transport"
  pub turn-agrees : (p : Two) (v : Work) → ((a : TransportAction) → In a (transports t p.0 p.1) → length (cell_pairs a.sides) ≤ k) → Aligns t q p v.best
      → Agrees k t of (offers_in k q of (transports t p.0 p.1) v).work (offers_in k q of (transports t p.0 p.1) v).best (turn_of t q p)
  unfolding system.turn_of offers_of after_aligned
  turn-agrees p v f A =
      rw (all_append (pairs t) q (map of_action (structural t p.0 p.1)) (each (solved_plans q) (transports t p.0 p.1)) (record { quality = q p; choice = stay }))
      (offers-agree (transports t p.0 p.1) v (after_aligned t q p) f (aligned-agrees p v.work v.best A))

-- ---- the whole turn
module _ (lim : Limits) (t : Tables) (q : Two → Two) (of : Two → ℕ) (p : Two) where
  module _ (work flow : List ℕ) (b : Best) (w : Work) (e : w ≡ offers_in lim.pairs q of (transports t p.0 p.1) (work_of work flow b)) where
    pub turn-done : CellsFit lim t p → Aligns t q p b → Agrees lim.pairs t of w.work w.best (turn_of t q p)
    turn-done f A = rw e (turn-agrees lim.pairs t q of p (work_of work flow b) f A)

    pub turn-left : b ≡ best_aligned t q p → w ≡ turn_in lim t q of p work flow
    unfolding turn_in
    turn-left g = e ∙ ap (λ (z : Best). offers_in lim.pairs q of (transports t p.0 p.1) (work_of work flow z)) g

  pub turn-fits : (k : ℕ) (list : List ℕ) (b : Best) → Agrees k t of list b (turn_of t q p) → (q p).1 ≤ (q p).0 → ((c : Two) → In c (joins t p) → (q c).1 ≤ (q c).0) → (q p).0 < 2 ^ 32 → (b.size < 2 ^ 32) × (b.mass < 2 ^ 32)
  turn-fits k list b A own low h =
      let (x, y) = turn_small t q p (2 ^ 32) h own low in
      (omega (arith, x, ap (λ (z : Two). z.0) A.quality), omega (arith, y, ap (λ (z : Two). z.1) A.quality))

  pub turn-leaves : (terms runs work flow work₁ flow₁ work' : List ℕ) (b : Best) → work_of work₁ flow₁ b ≡ turn_in lim t q of p work flow → work' ≡ term_list t of terms runs (turn_of t q p).choice work₁
      → Leaves lim t q of p terms runs work flow work' flow₁
  turn-leaves terms runs work flow work₁ flow₁ work' b S e = record {
    work_is = e ∙ ap (λ (z : Work). term_list t of terms runs (turn_of t q p).choice z.work) S;
    flow_is = ap (λ (z : Work). z.flow) S;
  }

-- lengths count, numbers do not
pub scratch-kept : {lim : Limits} {work flow work' flow' : List ℕ} → Scratch lim work flow → length work' ≡ length work → length flow' ≡ length flow → Scratch lim work' flow'
scratch-kept {lim} {work} {flow} {work'} {flow'} S e f = record { few = S.few; list = omega (arith, S.list); costs = omega (arith, S.costs); plan = omega (arith, S.plan) }
