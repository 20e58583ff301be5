-- Best terms kept for each class, by their number plus 1; 0 where the class is still unbuilt.
use Rattle.std.specs.Prelude.{◌≡◌, List, ℕ, ◌-◌, ◌<◌, length, get_or}
use Rattle.spec.specs.Bytes.{Limits, ok}
use Rattle.spec.specs.Image.{Tables}
use Rattle.spec.specs.Pool.{Pool, interned, best_term}

-- a kept term is the class's best term, in the pool as it is
abbrev pub Kept : Limits → Tables → Pool → List ℕ → Type 0
Kept lim t p best = (c : ℕ) → c < length t.classes → 0 < get_or best c 0 → best_term lim t p c ≡ ok (interned p (get_or best c 0 - 1))
