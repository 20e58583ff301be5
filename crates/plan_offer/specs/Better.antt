-- "(size, mass), compared by size, then mass": a plan's sums against the best so far.
use Rattle.std.specs.Prelude.{◌≡◌, refl, Bool, true, false, ℕ, ◌+◌, ◌*◌, ◌^◌, ◌≤◌, ◌<◌, ltb, eqb}
use native.Mathlib.Omega.{arith}
use Rattle.std.proofs.Common.{le-ltb, ne_eqb, ltb-true, eqb-true}
use Rattle.spec.specs.Bytes.{Two}
use Rattle.spec.specs.Round.{better}
use Rattle.wide.specs.declared.Wide.{Wide}
use Rattle.wide.specs.Value.{unsigned}

-- a larger size is not better
pub not-better : (s m x y : ℕ) → x < s → false ≡ better (s, m) (x, y)
not-better s m x y h = rw (le-ltb s x (omega arith), ne_eqb s x (omega arith)) refl

pub better-size : (a b : Two) → better a b ≡ true → a.0 ≤ b.0
better-size a b e = step (ltb a.0 b.0) refl (eqb a.0 b.0) refl
  where
    step : (p : Bool) → ltb a.0 b.0 ≡ p → (r : Bool) → eqb a.0 b.0 ≡ r → a.0 ≤ b.0
    step true u r w = omega (arith, ltb-true a.0 b.0 u)
    step false u true w = omega (arith, eqb-true a.0 b.0 w)
    step false u false w = let z : ◌≡◌ {A = Bool} false true = rw (u, w) at e in let y : ◌≡◌ {A = ℕ} 0 1 = cc in absurd (omega arith)

-- a better plan's sums are one word each
abbrev pub Words : Wide → Wide → Type 0
Words size mass = (1 + unsigned size ≡ size.lo + 1) × (unsigned mass ≡ mass.lo) × (size.lo + 1 < 2 ^ 64)

pub false-true : {A : Type 0} → false ≡ true → A
false-true e = let y : ◌≡◌ {A = ℕ} 0 1 = cc in absurd (omega arith)

module _ (size mass : Wide) (x y : ℕ) where
  pub high-not : 0 < size.hi → x < 2 ^ 64 → false ≡ better (1 + unsigned size, unsigned mass) (x, y)
  unfolding unsigned
  high-not h k = not-better (1 + (size.lo + 2 ^ 64 * size.hi)) (unsigned mass) x y (omega arith)

  pub low-not : x ≤ size.lo → false ≡ better (1 + unsigned size, unsigned mass) (x, y)
  unfolding unsigned
  low-not h = not-better (1 + (size.lo + 2 ^ 64 * size.hi)) (unsigned mass) x y (omega arith)

  pub words-one : size.hi ≡ 0 → size.lo < 2 ^ 64 → unsigned mass ≤ unsigned size → ◌≡◌ {A = Two} (1 + unsigned size, unsigned mass) (size.lo + 1, mass.lo)
  unfolding unsigned
  words-one h k m =
      let a : 1 + (size.lo + 2 ^ 64 * size.hi) ≡ size.lo + 1 = omega arith in
      let b : mass.lo + 2 ^ 64 * mass.hi ≡ mass.lo = omega arith in
      λ i. (a i, b i)

  pub better-words : better (1 + unsigned size, unsigned mass) (x, y) ≡ true → x < 2 ^ 64 → unsigned mass ≤ unsigned size → Words size mass
  unfolding unsigned
  better-words e h m = let k = better-size (1 + (size.lo + 2 ^ 64 * size.hi), unsigned mass) (x, y) e in (omega arith, omega arith, omega arith)
