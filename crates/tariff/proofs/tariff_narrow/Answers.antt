use mathlib.Core.Path.{ap, ◌∙◌}
use borrow.Author.Rules.{rules}
use Prim.Native.Nat.{ℕ}
use Rattle.std.proofs.Common.{Option}
use Rattle.returned.specs.Narrows.{narrowed_numbers}
use Rattle.tariff.proofs.tariff_narrow.Goals as goal

pub returns : goal.returns
returns c = c.numbers_of_narrowed.ensures ∙ ap (λ (a : Option ℕ). narrowed_numbers a) c.narrow-a.ensures
