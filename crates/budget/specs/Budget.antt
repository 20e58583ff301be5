-- "With budget B, the first B checks pass and the next one is expired": a budget is the number of checks that still pass.
use Rattle.std.specs.Prelude.{Bool, true, false, List, [], ◌∷◌, ℕ, zero, suc}
use Rattle.spec.specs.Bytes.{all}
use Rattle.budget.specs.declared.Budget.{Budget}
use Rattle.budget.specs.declared.Spent.{Spent}

abbrev pub budget_of : ℕ → Budget
budget_of n = record { left = n }

-- one check with so many left: expired, and nothing changes; or it passes, and one less is left
abbrev pub spend_at : ℕ → Spent
spend_at zero = record { budget = budget_of 0; passed = false }
spend_at (suc b) = record { budget = budget_of b; passed = true }

abbrev pub spend_of : Budget → Spent
spend_of b = spend_at b.left

-- n checks one after the other: whether each passed, and the state afterwards
unfoldable pub checks : ℕ → Budget → List Bool
checks zero b = []
checks (suc n) b = (spend_of b).passed ∷ checks n (spend_of b).budget

unfoldable pub after : ℕ → Budget → Budget
after zero b = b
after (suc n) b = after n (spend_of b).budget

abbrev pub spend_many_of : ℕ → Budget → Spent
spend_many_of n b = record { budget = after n b; passed = all (λ x. x) (checks n b) }
