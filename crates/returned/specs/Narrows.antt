-- (02, Paper 7) What a call of `tariff_narrow` returns: "it must say that it failed and at which entry (from 0) first".
use Rattle.std.specs.Prelude.{◌≡◌, refl, ◌↔◌, true, List, ℕ, Option, Some, None}
use Rattle.std.proofs.Common.{sym, ap, ◌∙◌, arith}
use Rattle.std.proofs.Math.Option.{none, some}
use Rattle.std.proofs.Math.Option as maybe
use Rattle.spec.specs.Monomial.{narrow, fails_at}
use Rattle.skips.specs.Counted.{Fails, fails-none, fails-first}
use Rattle.monomial_terms.specs.Terms.{held}
use Rattle.narrowing.specs.Narrowing.{narrowed_of}
use Rattle.returned.specs.declared.NarrowedList.{NarrowedList}

abbrev pub narrowed_numbers : Option ℕ → NarrowedList
narrowed_numbers None = record { number = 0; entry = 0 }
narrowed_numbers (Some i) = record { number = 1; entry = i }

-- of the n terms that the list s holds
abbrev pub ReturnsNarrowed : ℕ → List ℕ → NarrowedList → Type 0
ReturnsNarrowed n s r = r ≡ narrowed_numbers (narrowed_of (fails_at (held n s)))

-- It answers 0 exactly where every count is at most 4,294,967,295.
pub says-narrow : (n : ℕ) (s : List ℕ) (r : NarrowedList) → ReturnsNarrowed n s r → (r.number ≡ 0) ↔ (narrow (held n s) ≡ true)
says-narrow n s r R = go (fails_at (held n s)) refl R
  where
    go : (x : maybe.Option ℕ) → fails_at (held n s) ≡ x → r ≡ narrowed_numbers (narrowed_of x) → (r.number ≡ 0) ↔ (narrow (held n s) ≡ true)
    go none e z = (λ q. (fails-none (held n s)).0 e, λ q. ap (λ (y : NarrowedList). y.number) z)
    go (some i) e z = (
      λ q. absurd (omega (arith, q, ap (λ (y : NarrowedList). y.number) z)),
      λ q. absurd (clash (sym e ∙ (fails-none (held n s)).1 q)),
    )
      where
        clash : some i ≡ none → ⊥
        clash q = let y : ◌≡◌ {A = ℕ} 0 1 = cc in omega arith

-- Otherwise its entry is above, and none before it is.
pub says_first : (n : ℕ) (s : List ℕ) (r : NarrowedList) → ReturnsNarrowed n s r → r.number ≡ 1 → Fails (held n s) r.entry
says_first n s r R one = go (fails_at (held n s)) refl R
  where
    go : (x : maybe.Option ℕ) → fails_at (held n s) ≡ x → r ≡ narrowed_numbers (narrowed_of x) → Fails (held n s) r.entry
    go none e z = absurd (omega (arith, one, ap (λ (y : NarrowedList). y.number) z))
    go (some i) e z = rw z (fails-first (held n s) i e)

-- the numbers of the header
said_fits : narrowed_numbers None ≡ record { number = 0; entry = 0 }
said_fits = refl

said-fails : narrowed_numbers (Some 3) ≡ record { number = 1; entry = 3 }
said-fails = refl
