-- The clearing as the loop makes it, and what it leaves. Assumes nothing.
use Rattle.std.specs.Prelude.{◌≡◌, refl, List, [], ◌∷◌, ◌++◌, ℕ, zero, suc, ◌+◌, length, set, replicate}
use Rattle.std.proofs.Common.{sym, ap, ◌∙◌, append_assoc, length-append}
use Rattle.pair_search.specs.declared.Pair.{Pair}
use Rattle.pair_search.specs.Records.{none}

-- n records from place i on are cleared
abbrev pub clear_from : List Pair → ℕ → ℕ → List Pair
clear_from s zero i = s
clear_from s (suc n) i = clear_from (set s i none) n (i + 1)

set_after : (a : List Pair) (y : Pair) (b : List Pair) → set (a ++ (y ∷ b)) (length a) none ≡ a ++ (none ∷ []) ++ b
set_after [] y b = refl
set_after (x ∷ a) y b = ap (λ (l : List Pair). x ∷ l) (set_after a y b)

clear-rest : (a b : List Pair) → clear_from (a ++ b) (length b) (length a) ≡ a ++ replicate (length b) none
clear-rest a [] = refl
clear-rest a (y ∷ b) =
    ap (λ (l : List Pair). clear_from l (length b) (length a + 1)) (set_after a y b) ∙ ap (clear_from (a ++ (none ∷ []) ++ b) (length b)) (sym (length-append a (none ∷ [])))
    ∙ clear-rest (a ++ (none ∷ [])) b ∙ append_assoc a (none ∷ []) (replicate (length b) none)

-- the whole table
pub cleared : (s : List Pair) → clear_from s (length s) 0 ≡ replicate (length s) none
cleared s = clear-rest [] s
