-- What the inner solver's answer means: the plan in its buffer, that its numbers are 32-bit numbers, and that the buffer behind it is as it was.
use Rattle.std.specs.Prelude.{◌≡◌, Bool, List, ℕ, ◌+◌, ◌*◌, ◌^◌, ◌<◌, length, get_or, take}
use Rattle.std.proofs.Math.Path.{refl, ap}
use Rattle.std.proofs.Common.{sym, ◌∙◌, arith, take_at}
use Rattle.std.proofs.Math.Option.{Option, none, some}
use Rattle.std.proofs.Math.Decide.{dec_lt}
use Rattle.std.proofs.Math.ListN.{drop, get_or-eq_default}
use Rattle.std.proofs.lemmas.List.{length-replicate}
use Rattle.std.proofs.Math.Seq.{drop_at}
use Rattle.spec.specs.Bytes.{sum_to}
use Rattle.spec.specs.Meaning.{Plan}
use Rattle.spec.specs.Transport.{Problem, rows_of, cols_of, supply_at, solve_cells}
use Rattle.flow.specs.Sums.{sum-term}
use Rattle.flow.specs.Network.{row_flow-is}
use Rattle.flow.specs.Theorems.{margins}
use Rattle.cost_matrix.specs.Places.{place_of}
use Rattle.augment.specs.Solved.{PlanIn, plan_or0, flow_after, Solves}

module _ (p : Problem) where
  -- a plan has rows × columns numbers
  pub plan-long : (x : List ℕ) → solve_cells p ≡ some x → length x ≡ rows_of p * cols_of p
  plan-long x e = (margins p x e).long

  planned-long : (o : Option (List ℕ)) → solve_cells p ≡ o → length (plan_or0 (rows_of p * cols_of p) o) ≡ rows_of p * cols_of p
  planned-long none e = length-replicate {A = ℕ} (rows_of p * cols_of p) 0
  planned-long (some x) e = plan-long x e

  pub plan-begins : (flow x : List ℕ) → solve_cells p ≡ some x → take (rows_of p * cols_of p) (flow_after p flow) ≡ x
  unfolding flow_after
  plan-begins flow x e = rw e (take_at x (drop (length x) flow) (rows_of p * cols_of p) (plan-long x e))

  -- what stands behind the cells is as it was
  pub flow-behind : (flow : List ℕ) → drop (rows_of p * cols_of p) (flow_after p flow) ≡ drop (rows_of p * cols_of p) flow
  unfolding flow_after
  flow-behind flow =
      let l = planned-long (solve_cells p) refl in
      drop_at (plan_or0 (rows_of p * cols_of p) (solve_cells p)) (drop (length (plan_or0 (rows_of p * cols_of p) (solve_cells p))) flow) (rows_of p * cols_of p) l ∙ ap (λ (n : ℕ). drop n flow) l

  -- a plan's numbers are below 2^32 where the supplies are
  pub plan-small : ((i : ℕ) → supply_at p i < 2 ^ 32) → (x : List ℕ) → solve_cells p ≡ some x → (k : ℕ) → get_or x k 0 < 2 ^ 32
  plan-small low x e k = go (dec_lt k (rows_of p * cols_of p))
    where
      M : Plan p x
      M = margins p x e

      cell : (i j : ℕ) → i < rows_of p → j < cols_of p → get_or x (i * cols_of p + j) 0 < 2 ^ 32
      cell i j hi hj =
          let r : sum_to (cols_of p) (λ j. get_or x (i * cols_of p + j) 0) ≡ supply_at p i = sym (row_flow-is p x i) ∙ M.rows i hi in
          omega (arith, sum-term (cols_of p) (λ j. get_or x (i * cols_of p + j) 0) j hj, r, low i)

      go : Dec (k < rows_of p * cols_of p) → get_or x k 0 < 2 ^ 32
      go (no h) = rw (get_or-eq_default x 0 {n = k} (rw M.long (omega (arith, h)))) (omega arith)
      go (yes h) = let (i, j, hi, hj, q) = place_of (rows_of p) (cols_of p) k h in rw q (cell i j hi hj)

pub solves-plan : (p : Problem) (flow flow' : List ℕ) (b : Bool) → Solves p flow flow' b → PlanIn p b flow'
solves-plan p flow flow' b S = record { is = S.is; plan = λ x e. rw S.flow (plan-begins p flow x e) }
