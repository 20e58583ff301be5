-- One offer: each way that the code goes gives the definition's offer.
use Rattle.std.specs.Prelude.{◌≡◌, refl, Bool, true, false, List, ◌++◌, ℕ, ◌-◌, ◌*◌, ◌^◌, ◌≤◌, ◌<◌, length, get_or, take, drop}
use Rattle.std.proofs.Common.{sym, ◌∙◌, append-nil, arith, length-drop, drop_of_length-le}
use Rattle.std.proofs.Math.Path.{ap}
use Rattle.std.proofs.Math.Option.{Option, none, some}
use Rattle.std.proofs.Math.Nat.{sub-zero}
use borrow.Rule.Slice.PartMut.{put_mid}
use borrow.Author.Rules.{part_to_end}
use Rattle.spec.specs.Bytes.{Two}
use Rattle.spec.specs.Monomial.{MonomialPair}
use Rattle.spec.specs.Transport.{solve_cells, rows_of, cols_of}
use Rattle.augment.specs.Solved.{is_plan}
use Rattle.augment.specs.SolvedLaws.{plan-small, plan-begins, plan-long}
use Rattle.quality.specs.declared.Best.{Best}
use Rattle.cells.specs.Cells.{sides_of, Sides}
use Rattle.cells.specs.Problem.{problem_at, problem-wide, supplies-small}
use Rattle.laying.specs.Tried.{Tried}
use Rattle.plan_offer.specs.Plans.{action_of, best_after, list_after}
use Rattle.offers.specs.Offers.{work_of, laid_at, offer_in}

no-plan : (z : Option (List ℕ)) → is_plan z ≡ false → z ≡ none
no-plan none e = refl
no-plan (some x) e = absurd (let y : ◌≡◌ {A = ℕ} 0 1 = cc in omega arith)

some-plan : (z : Option (List ℕ)) → is_plan z ≡ true → (x : List ℕ) × (z ≡ some x)
some-plan none e = absurd (let y : ◌≡◌ {A = ℕ} 0 1 = cc in omega arith)
some-plan (some x) e = (x, refl)

pub fits_kept : {m n k : ℕ} → m ≡ n → k ≤ n → k ≤ m
fits_kept e h = omega (arith, e)

-- a part to the end of a buffer comes home behind the rest
part-back : (w ys : List ℕ) (k : ℕ) → k ≤ length w → put_mid k (length w - k) w ys ≡ take k w ++ ys
part-back w ys k h = let d : length (drop k w) ≤ length w - k = rw length-drop (omega arith) in rw (drop_of_length-le (drop k w) d, append-nil ys) refl

-- The cells were laid out in the part of `work` from place k on, and solved.
module _ (left : List ℕ) (r : ℕ) (right : List ℕ) (c : ℕ) (S : Sides left r right c) (q : Two → Two) (of : Two → ℕ) (o k : ℕ) (work flow : List ℕ) (best : Best) (in-it : k ≤ length work)
    (costs' flow' : List ℕ) (z : Bool) (R : Tried q (sides_of left r right c) (take (length work - k) (drop k work)) flow costs' flow' z) where
  abbrev M : MonomialPair
  M = sides_of left r right c

  laid : put_mid k (length work - k) work costs' ≡ laid_at k q M work
  laid = part-back work costs' k in-it ∙ ap (λ (l : List ℕ). take k work ++ l) (rw (part_to_end work k) at R.costs_are)

  offered : (work' : List ℕ) (best' : Best) (y : Option (List ℕ)) → solve_cells (problem_at q M) ≡ y → work' ≡ list_after q of (action_of o M) y best (put_mid k (length work - k) work costs') → best' ≡ best_after q of (action_of o M) y best
      → work_of work' flow' best' ≡ offer_in k q of (action_of o M) (work_of work flow best)
  unfolding offer_in
  offered work' best' y e l d =
      λ i. work_of ((l ∙ (λ j. list_after q of (action_of o M) (sym e j) best (laid j))) i) (R.flow_is i) ((d ∙ ap (λ (u : Option (List ℕ)). best_after q of (action_of o M) u best) (sym e)) i)

  -- "A monomial pair with an empty side has no plan"
  pub offer-none : z ≡ false → work_of (put_mid k (length work - k) work costs') flow' best ≡ offer_in k q of (action_of o (sides_of left r right c)) (work_of work flow best)
  offer-none e = offered (put_mid k (length work - k) work costs') best none (no-plan (solve_cells (problem_at q M)) (sym R.is ∙ e)) refl refl

  module _ (e : z ≡ true) where
    found : (x : List ℕ) × (solve_cells (problem_at q M) ≡ some x)
    found = some-plan (solve_cells (problem_at q M)) (sym R.is ∙ e)

    -- the plan is in the buffer
    begins : take (r * c - 0) flow' ≡ found.0
    begins =
        ap (λ (n : ℕ). take n flow') (sub-zero (r * c) ∙ sym (problem-wide left r right c S q))
        ∙ ap (take (rows_of (problem_at q M) * cols_of (problem_at q M))) R.flow_is
        ∙ plan-begins (problem_at q M) flow found.0 found.1

    pub plan-cells : length (take (r * c - 0) flow') ≡ r * c
    plan-cells = ap length begins ∙ plan-long (problem_at q M) found.0 found.1 ∙ problem-wide left r right c S q

    pub plan-low : (i : ℕ) → i < length (take (r * c - 0) flow') → get_or (take (r * c - 0) flow') i 0 < 2 ^ 32
    plan-low i h = rw begins (plan-small (problem_at q M) (supplies-small left r right c S) found.0 found.1 i)

    pub offer-some : (work' : List ℕ) (best' : Best)
        → best' ≡ best_after q of (action_of o (sides_of left r right c)) (some (take (r * c - 0) flow')) best
        → work' ≡ list_after q of (action_of o (sides_of left r right c)) (some (take (r * c - 0) flow')) best (put_mid k (length work - k) work costs')
        → work_of work' flow' best' ≡ offer_in k q of (action_of o (sides_of left r right c)) (work_of work flow best)
    offer-some work' best' d l = offered work' best' (some (take (r * c - 0) flow')) (found.1 ∙ ap some (sym begins)) l d
