-- (02, Paper 13) "Sellers also enter the two fleets in either order": a transport turned round. Rows and columns change places; a plan transposed is a plan, with the same total.
use Rattle.std.specs.Prelude.{◌≡◌, refl, List, ℕ, ◌*◌, length}
use Rattle.std.proofs.Common.{sym, ◌∙◌}
use Rattle.std.proofs.Math.Path.{ap, ap₂}
use Rattle.std.proofs.Math.Option.{Option, none, some}
use Rattle.spec.specs.Bytes.{Two}
use Rattle.spec.specs.Monomial.{counts}
use Rattle.spec.specs.Transport.{Cell, allowed, size_of, mass_of, Problem, cell_at, moved}
use Rattle.spec.specs.Action.{TransportAction}
use Rattle.spec.specs.Meaning.{Plan, ◌⊑◌}
use Rattle.laws.specs.Tests.{clash}
use Rattle.flow.specs.Sums.{sum-cong, sum-swap, sum2, sum2-cong}
use Rattle.flow.specs.Network.{row_flow-is, col_flow-is, plan_size-sum2, plan_mass-sum2}
use Rattle.flow.specs.Theorems.{margins, least, refused-where}
use Rattle.steps.specs.Quality.{Total, two-eq, ⊑-of-eq, ⊑_trans, ⊑-antisym}
use Rattle.lgg.specs.Moves.{cell_qualities, solved}
use Rattle.mirror.specs.Transpose.{flip, turn_transport, turn_plan, turn-length, turn-at, problem, cell-at}

module _ (a : TransportAction) (x : List ℕ) where
  abbrev R : ℕ
  R = length (counts a.sides.rows)

  abbrev C : ℕ
  C = length (counts a.sides.cols)

  abbrev pub transposed : List ℕ
  transposed = turn_plan R C x

  -- a plan of the one is a plan of the other, whatever the qualities: no cell is forbidden
  pub turn-plan : (q q' : Two → Two) → Plan (problem q a) x → Plan (problem q' (turn_transport a)) transposed
  turn-plan q q' n = record {
    long = turn-length R C x;
    some_row = n.some_column;
    some_column = n.some_row;
    rows = λ j h. row_flow-is (problem q' (turn_transport a)) transposed j ∙ sum-cong R (λ i k. turn-at R C x i j k h) ∙ sym (col_flow-is (problem q a) x j) ∙ n.columns j h;
    columns = λ i h. col_flow-is (problem q' (turn_transport a)) transposed i ∙ sum-cong C (λ j k. turn-at R C x i j h k) ∙ sym (row_flow-is (problem q a) x i) ∙ n.rows i h;
    kept = λ j i hj hi e. absurd (clash (sym (ap allowed (cell-at q' (turn_transport a) j i hj hi)) ∙ e));
  }

  -- and has the same total, where turned pairs have the qualities
  pub turn-total : (q : Two → Two) → length x ≡ R * C → Total transposed (cell_qualities (λ c. q (flip c)) (turn_transport a)) ≡ Total x (cell_qualities q a)
  turn-total q long = two-eq
      (plan_size-sum2 p' transposed (turn-length R C x) ∙ swapped size_of ∙ sym (plan_size-sum2 p x long))
      (plan_mass-sum2 p' transposed (turn-length R C x) ∙ swapped mass_of ∙ sym (plan_mass-sum2 p x long))
    where
      p : Problem
      p = problem q a

      p' : Problem
      p' = problem (λ c. q (flip c)) (turn_transport a)

      swapped : (f : Cell → ℕ) → sum2 C R (λ j i. moved p' transposed j i * f (cell_at p' j i)) ≡ sum2 R C (λ i j. moved p x i j * f (cell_at p i j))
      swapped f =
          sum2-cong C R (λ j i. moved p' transposed j i * f (cell_at p' j i)) (λ j i. moved p x i j * f (cell_at p i j))
          (λ j i hj hi. ap₂ (λ (n : ℕ) (z : Cell). n * f z) (turn-at R C x i j hi hj) (cell-at (λ c. q (flip c)) (turn_transport a) j i hj hi ∙ sym (cell-at q a i j hi hj)))
          ∙ sum-swap C R (λ j i. moved p x i j * f (cell_at p i j))

-- ---- the solver's plans
-- so the plan of the one is no dearer than the plan of the other
no-dearer : (q : Two → Two) (a : TransportAction) (x y : List ℕ) → solved q a ≡ some x → solved (λ c. q (flip c)) (turn_transport a) ≡ some y
    → Total y (cell_qualities (λ c. q (flip c)) (turn_transport a)) ⊑ Total x (cell_qualities q a)
no-dearer q a x y e k =
    let P = margins (problem q a) x e in
    ⊑_trans (Total y (cell_qualities q' (turn_transport a))) (Total (transposed a x) (cell_qualities q' (turn_transport a))) (Total x (cell_qualities q a))
    (least (problem q' (turn_transport a)) y k (transposed a x) (turn-plan a x q q' P)) (⊑-of-eq (turn-total a x q P.long))
  where
    q' : Two → Two
    q' c = q (flip c)

-- a transport with a plan has one turned round, with the same total
pub solved-flip : (q : Two → Two) (a : TransportAction) (x : List ℕ) → solved q a ≡ some x
    → (y : List ℕ) × (solved (λ c. q (flip c)) (turn_transport a) ≡ some y) × (Total y (cell_qualities (λ c. q (flip c)) (turn_transport a)) ≡ Total x (cell_qualities q a))
solved-flip q a x e = go (solved q' (turn_transport a)) refl
  where
    q' : Two → Two
    q' c = q (flip c)

    go : (s : Option (List ℕ)) → solved q' (turn_transport a) ≡ s → (y : List ℕ) × (solved q' (turn_transport a) ≡ some y) × (Total y (cell_qualities q' (turn_transport a)) ≡ Total x (cell_qualities q a))
    go none k = absurd (refused-where (problem q' (turn_transport a)) k (transposed a x) (turn-plan a x q q' (margins (problem q a) x e)))
    go (some y) k = (y, k, ⊑-antisym (Total y (cell_qualities q' (turn_transport a))) (Total x (cell_qualities q a)) (no-dearer q a x y e k) (no-dearer q' (turn_transport a) y x k e))
