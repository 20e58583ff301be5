-- What the slices give: their lengths, and a plan's total over them.
use Rattle.std.specs.Prelude.{◌≡◌, List, ℕ, zero, suc, ◌+◌, ◌*◌, ◌≤◌, length, get_or}
use Rattle.spec.specs.Transport.{WIDEST}
use Rattle.cost_matrix.specs.Cells.{if_allowed}

-- at most 65 rows and columns, cells rows × columns, work buffers of three numbers and one number a cell
pub record Shaped (supply demand sizes masses allowed costs flow : List ℕ) : Type 0 where
  pub rows : length supply ≤ WIDEST
  pub columns : length demand ≤ WIDEST
  pub sizes_long : length sizes ≡ length supply * length demand
  pub masses_long : length masses ≡ length supply * length demand
  pub allowed_long : length allowed ≡ length supply * length demand
  pub costs_long : 3 * (length supply * length demand) ≤ length costs
  pub flow_long : length supply * length demand ≤ length flow

-- the sum over n cells from cell k on: the units x times what each costs by `per`
unfoldable pub total_from : List ℕ → List ℕ → List ℕ → ℕ → ℕ → ℕ
total_from x per allowed zero k = 0
total_from x per allowed (suc n) k = get_or x k 0 * if_allowed allowed k (get_or per k 0) + total_from x per allowed n (k + 1)
