-- The moves of a pair of classes: what its actions offer, what they join, and the laws by which rounds over pairs end and are least.
use Rattle.std.specs.Prelude.{◌≡◌, ◌⊎◌, ℕ, zero, suc, ◌+◌, ◌*◌, length, get_or}
use Rattle.std.proofs.Math.Path.{refl, ap, ap₂}
use Rattle.std.proofs.Common.{sym, ◌∙◌, arith}
use Rattle.std.proofs.Math.Logic.{inl, inr}
use mathlib.Core.List.{List, [], ◌∷◌, ◌++◌, map}
use Rattle.std.proofs.Math.Option.{Option, none, some}
use Rattle.std.proofs.Math.Nat.{suc_inj}
use Rattle.spec.specs.Bytes.{each, In, here, there, Two}
use Rattle.spec.specs.Image.{Tables}
use Rattle.spec.specs.Monomial.{counts}
use Rattle.spec.specs.Transport.{forbidden, allowed, solve_cells, row_flow, col_flow}
use Rattle.spec.specs.Action.{Action, TransportAction, structural, transports, cell_pairs, joins}
use Rattle.spec.specs.Pairs.{of_solved, solved_plans, offers_of, pairs}
use Rattle.spec.specs.Round.{starting_quality, cells_over, quality_over, ones, problem_over, Act, of_action, of_plan}
use Rattle.spec.specs.Meaning.{Plan, ◌⊑◌, Move, aligned, planned}
use Rattle.flow.specs.Theorems.{margins, least, refused-where}
use Rattle.laws.specs.Lists.{in-nil, in-cons, in_left, in_right, in-append, in_map, map-in, in-each, map-ext, length-map}
use Rattle.laws.specs.Bag.{each_in}
use Rattle.steps.specs.Quality.{⊑_refl, suc-⊑, quality-⊑}
use Rattle.steps.specs.Rounds.{Moves, Backs}
use Rattle.steps.proofs.Plain.{backs}
use Rattle.steps.specs.Reads.{Reads}

-- a transport's cells, and the solver's plan over them
abbrev pub cell_qualities : (Two → Two) → TransportAction → List Two
cell_qualities q a = map q (cell_pairs a.sides)

abbrev pub solved : (Two → Two) → TransportAction → Option (List ℕ)
solved q a = solve_cells (problem_over a (cell_qualities q a))

-- ---- every offer of a pair is a structural action or a transport by the solver's plan
module _ (P : Act → Type 0) (t : Tables) (q : Two → Two) (p : Two) (f : (a : Action) → In a (structural t p.0 p.1) → P (of_action a))
    (g : (a : TransportAction) → In a (transports t p.0 p.1) → (x : List ℕ) → solved q a ≡ some x → P (of_plan a x)) where
  pub each-offer : (a : Act) → In a (offers_of t q p) → P a
  unfolding offers_of solved_plans
  each-offer a i = go (in-append (map of_action (structural t p.0 p.1)) i)
    where
      by-plan : (b : TransportAction) → In b (transports t p.0 p.1) → (s : Option (List ℕ)) → solved q b ≡ s → In a (of_solved b s) → P a
      by-plan b j none e k = absurd (in-nil k)
      by-plan b j (some x) e k = elim (in-cons k) [ inl z ↦ rw z (g b j x e) | inr n ↦ absurd (in-nil n) ]

      go : In a (map of_action (structural t p.0 p.1)) ⊎ In a (each (solved_plans q) (transports t p.0 p.1)) → P a
      go (inl j) = let (b, k, e) = map-in of_action (structural t p.0 p.1) a j in rw (← e) (f b k)
      go (inr j) = let (b, k, n) = each_in (solved_plans q) (transports t p.0 p.1) a j in by-plan b k (solved q b) refl n

-- and each of these is offered
module _ (t : Tables) (q : Two → Two) (p : Two) where
  pub action-offered : (a : Action) → In a (structural t p.0 p.1) → In (of_action a) (offers_of t q p)
  unfolding offers_of
  action-offered a i = in_left (each (solved_plans q) (transports t p.0 p.1)) (in_map of_action i)

  pub plan-offered : (a : TransportAction) → In a (transports t p.0 p.1) → (x : List ℕ) → solved q a ≡ some x → In (of_plan a x) (offers_of t q p)
  unfolding offers_of solved_plans
  plan-offered a i x e = in_right (map of_action (structural t p.0 p.1)) (in-each (solved_plans q) (transports t p.0 p.1) a (of_plan a x) i (rw e here))

-- ---- what an action joins, the pair joins
module _ (t : Tables) (p : Two) where
  pub action-joins : (a : Action) → In a (structural t p.0 p.1) → (c : Two) → In c a.pairs → In c (joins t p)
  unfolding joins
  action-joins a i c j = in_left (each (λ b. cell_pairs b.sides) (transports t p.0 p.1)) (in-each (λ b. b.pairs) (structural t p.0 p.1) a c i j)

  pub transport-joins : (a : TransportAction) → In a (transports t p.0 p.1) → (c : Two) → In c (cell_pairs a.sides) → In c (joins t p)
  unfolding joins
  transport-joins a i c j = in_right (each (λ b. b.pairs) (structural t p.0 p.1)) (in-each (λ b. cell_pairs b.sides) (transports t p.0 p.1) a c i j)

  pub move-joins : (ps : List Two) (x : List ℕ) → Move t p ps x → (c : Two) → In c ps → In c (joins t p)
  move-joins ps x (aligned a i e f) c j = action-joins a i c (rw e at j)
  move-joins ps x (planned a i e n) c j = transport-joins a i c (rw e at j)

-- ---- a plan over some qualities is one over any: no cell is forbidden
allowed_same : (l m : List Two) → length l ≡ length m → (k : ℕ) → allowed (get_or (cells_over l) k forbidden) ≡ allowed (get_or (cells_over m) k forbidden)
allowed_same [] [] e k = refl
allowed_same [] (b ∷ m) e k = absurd (omega arith)
allowed_same (a ∷ l) [] e k = absurd (omega arith)
allowed_same (a ∷ l) (b ∷ m) e zero = refl
allowed_same (a ∷ l) (b ∷ m) e (suc k) = allowed_same l m (suc_inj e) k

pub plan-over : (a : TransportAction) (l m : List Two) (x : List ℕ) → length l ≡ length m → Plan (problem_over a m) x → Plan (problem_over a l) x
unfolding row_flow col_flow
plan-over a l m x b n = record {
  long = n.long;
  some_row = n.some_row;
  some_column = n.some_column;
  rows = n.rows;
  columns = n.columns;
  kept = λ i j hi hj e. n.kept i j hi hj (sym (allowed_same l m b (i * length (counts a.sides.cols) + j)) ∙ e);
}

same-long : (l : List Two) (f g : Two → Two) → length (map f l) ≡ length (map g l)
same-long l f g = length-map f l ∙ sym (length-map g l)

-- ---- the laws of the pairs' actions
module _ (t : Tables) where
  pub pair-moves : Moves (pairs t) (Move t)
  pair-moves = record {
    sound = λ q p. each-offer (λ a. Move t p a.places a.counts) t q p (λ a i. aligned a i refl refl)
        (λ a i x e. planned a i refl (plan-over a (map (starting_quality t) (cell_pairs a.sides)) (cell_qualities q a) x (same-long (cell_pairs a.sides) (starting_quality t) q) (margins (problem_over a (cell_qualities q a)) x e)));
    best = best;
    joined = move-joins t;
    rising = quality-⊑;
  }
    where
      best : (q : Two → Two) (p : Two) (cs : List Two) (x : List ℕ) → Move t p cs x → (a : Act) × In a (offers_of t q p) × (quality_over a.counts (map q a.places) ⊑ quality_over x (map q cs))
      best q p cs x (aligned a i e f) = (of_action a, action-offered t q p a i, rw (e, f) (⊑_refl (quality_over (ones a.pairs) (map q a.pairs))))
      best q p cs x (planned a i e n) = rw e (go (solved q a) refl)
        where
          m : Plan (problem_over a (cell_qualities q a)) x
          m = plan-over a (cell_qualities q a) (map (starting_quality t) (cell_pairs a.sides)) x (same-long (cell_pairs a.sides) q (starting_quality t)) (rw e at n)

          go : (s : Option (List ℕ)) → solved q a ≡ s → (b : Act) × In b (offers_of t q p) × (quality_over b.counts (map q b.places) ⊑ quality_over x (cell_qualities q a))
          go none k = absurd (refused-where (problem_over a (cell_qualities q a)) k x m)
          go (some y) k = (of_plan a y, plan-offered t q p a i y k, suc-⊑ _ _ _ _ (least (problem_over a (cell_qualities q a)) y k x m))

  pub pair-backs : Backs (pairs t)
  pair-backs = backs (pairs t) (λ x l. refl) (Move t) pair-moves

  pub pair_reads : Reads (pairs t)
  unfolding offers_of solved_plans
  pair_reads = record {
    offered = λ q q' p h. ap (λ (l : List Act). map of_action (structural t p.0 p.1) ++ l) (plans q q' (transports t p.0 p.1) (λ a i c j. h c (transport-joins t p a i c j)));
    inside = λ q p. each-offer (λ a. (c : Two) → In c a.places → In c (joins t p)) t q p (action-joins t p) (λ a i x e. transport-joins t p a i);
  }
    where
      plans : (q q' : Two → Two) (l : List TransportAction) → ((a : TransportAction) → In a l → (c : Two) → In c (cell_pairs a.sides) → q c ≡ q' c) → each (solved_plans q) l ≡ each (solved_plans q') l
      plans q q' [] h = refl
      plans q q' (a ∷ l) h = ap₂ (λ (qs : List Two) (k : List Act). of_solved a (solve_cells (problem_over a qs)) ++ k) (map-ext q q' (cell_pairs a.sides) (h a here)) (plans q q' l (λ b i. h b (there i)))
