-- What the test of a frame says; a text without its last line feed.
use Rattle.std.specs.Prelude.{◌≡◌, refl, true, false, List, [], ◌∷◌, ℕ, zero, suc, ◌+◌, ◌≤◌, ◌<◌, leb, length, get_or, take}
use Rattle.std.proofs.Common.{ap, arith, le-leb, leb-true, eq-eqb, ne_eqb}
use Rattle.std.proofs.lemmas.Bool.{lt-leb}
use Rattle.spec.specs.Bytes.{be4}
use Rattle.spec.specs.Merge.{INPUT}
use Rattle.laws.specs.Tests.{both_true}
use Rattle.formula.specs.Programs.{tabled, unended}

-- ---- the test
pub record Tabled (s : List ℕ) : Type 0 where
  pub short : length s ≤ 65536
  pub some : 4 ≤ length s
  pub whole : be4 s 0 + 4 ≤ length s

pub tabled-says : (s : List ℕ) → tabled s ≡ true → Tabled s
tabled-says s e =
    let (a, r) = (both_true (leb (length s) INPUT) _).0 e in
    let (b, c) = (both_true (leb 4 (length s)) _).0 r in
    record { short = leb-true (length s) INPUT a; some = leb-true 4 (length s) b; whole = leb-true (be4 s 0 + 4) (length s) c }

pub too_long : (s : List ℕ) → 65536 < length s → false ≡ tabled s
too_long s h = rw (lt-leb (length s) INPUT h) refl

pub too_short : (s : List ℕ) → length s ≤ 65536 → length s < 4 → false ≡ tabled s
too_short s g h = rw (le-leb (length s) INPUT g, lt-leb 4 (length s) h) refl

pub by_length : (s : List ℕ) (n m : ℕ) → length s ≤ 65536 → 4 ≤ length s → n ≡ be4 s 0 + 4 → m ≡ length s → leb n m ≡ tabled s
by_length s n m g h e z = rw (le-leb (length s) INPUT g, le-leb 4 (length s) h, e, z) refl

-- ---- a text without a line feed at its end: of suc k bytes
pub ended : (k : ℕ) (s : List ℕ) → length s ≡ suc k → get_or s k 0 ≡ 10 → take k s ≡ unended s
unfolding unended
ended k [] h e = absurd (omega (arith, h))
ended zero (c ∷ []) h e = rw (eq-eqb c 10 e) refl
ended (suc k) (c ∷ []) h e = absurd (omega (arith, h))
ended zero (c ∷ d ∷ s) h e = absurd (omega (arith, h))
ended (suc k) (c ∷ d ∷ s) h e = ap (λ (l : List ℕ). c ∷ l) (ended k (d ∷ s) (omega (arith, h)) e)

pub open-ended : (k : ℕ) (s : List ℕ) → length s ≡ suc k → (get_or s k 0 ≡ 10 → ⊥) → s ≡ unended s
unfolding unended
open-ended k [] h e = absurd (omega (arith, h))
open-ended zero (c ∷ []) h e = rw (ne_eqb c 10 e) refl
open-ended (suc k) (c ∷ []) h e = absurd (omega (arith, h))
open-ended zero (c ∷ d ∷ s) h e = absurd (omega (arith, h))
open-ended (suc k) (c ∷ d ∷ s) h e = ap (λ (l : List ℕ). c ∷ l) (open-ended k (d ∷ s) (omega (arith, h)) e)

pub nothing : (s : List ℕ) → length s ≡ 0 → [] ≡ unended s
unfolding unended
nothing [] h = refl
nothing (c ∷ s) h = absurd (omega (arith, h))
