-- What the answer of narrowing says of a monomial.
use Rattle.std.specs.Prelude.{◌≡◌, refl, Bool, true, false, ℕ, ltb, Some, None}
use Rattle.std.proofs.Common.{sym, ◌∙◌, arith}
use Rattle.std.proofs.Math.Option.{Option, none, some}
use Rattle.spec.specs.Bytes.{Two}
use Rattle.spec.specs.Monomial.{Monomial, fails_at, narrow, COUNT}
use Rattle.laws.specs.Tests.{is_false}
use Rattle.skips.specs.Counted.{fails-none}
use Rattle.narrowing.specs.Narrowing.{narrowed_of}

abbrev pub too_many : Two → Bool
too_many t = ltb COUNT t.1

pub fits-narrow : (m : Monomial) → None ≡ narrowed_of (fails_at m) → narrow m ≡ true
fits-narrow m e = go (fails_at m) refl e
  where
    go : (x : Option ℕ) → fails_at m ≡ x → None ≡ narrowed_of x → narrow m ≡ true
    go none q z = (fails-none m).0 q
    go (some i) q z = absurd (let y : ◌≡◌ {A = ℕ} 0 1 = cc in omega arith)

pub fails-narrow : (m : Monomial) (i : ℕ) → Some i ≡ narrowed_of (fails_at m) → narrow m ≡ false
fails-narrow m i e = go (fails_at m) refl e
  where
    go : (x : Option ℕ) → fails_at m ≡ x → Some i ≡ narrowed_of x → narrow m ≡ false
    go none q z = absurd (let y : ◌≡◌ {A = ℕ} 0 1 = cc in omega arith)
    go (some j) q z = is_false (narrow m) (λ n. clash (sym q ∙ (fails-none m).1 n))
      where
        clash : some j ≡ none → ⊥
        clash y = let w : ◌≡◌ {A = ℕ} 0 1 = cc in omega arith
