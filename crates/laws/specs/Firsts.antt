-- The first number of a range that passes a test, and all that do.
use Rattle.std.specs.Prelude.{◌≡◌, ◌⊎◌, Bool, true, false, List, [], ◌∷◌, ℕ, zero, suc, ◌-◌, ◌≤◌, ◌<◌, ◌+◌}
use Rattle.std.proofs.Math.Path.{refl}
use Rattle.std.proofs.Common.{sym, ap, ◌∙◌, inl, inr, eq-or-lt_of_le, add-one}
use native.Mathlib.Omega.{arith}
use Rattle.spec.specs.Bytes.{filter, up_from, place}

-- the numbers from x to before e that pass, and the first of them (e where there is none)
unfoldable pub passing : (ℕ → Bool) → ℕ → ℕ → List ℕ
unfolding filter up_from
passing p x e = filter p (up_from x (e - x))

unfoldable pub first_from : (ℕ → Bool) → ℕ → ℕ → ℕ
unfolding place up_from
first_from p x e = x + place p (up_from x (e - x))

-- ---- the first number that passes
module _ (p : ℕ → Bool) (x e : ℕ) where
  one_more : x < e → e - x ≡ suc (e - suc x)
  one_more h = omega arith

  pub first-stop : x < e → p x ≡ true → first_from p x e ≡ x
  unfolding first_from place up_from
  first-stop h q = rw (one_more h, q, place) (omega arith)

  pub first_more : x < e → p x ≡ false → first_from p x e ≡ first_from p (suc x) e
  unfolding first_from place up_from
  first_more h q = rw (one_more h, q, place) (omega arith)

  pub first-end : e ≤ x → first_from p x e ≡ x
  unfolding first_from place up_from
  first-end h = let z : e - x ≡ 0 = omega arith in rw z (omega arith)

  pub passing-stop : x < e → p x ≡ true → passing p x e ≡ x ∷ passing p (suc x) e
  unfolding passing filter up_from
  passing-stop h q = rw (one_more h, q, filter) refl

  pub passing-more : x < e → p x ≡ false → passing p x e ≡ passing p (suc x) e
  unfolding passing filter up_from
  passing-more h q = rw (one_more h, q, filter) refl

  pub passing-end : e ≤ x → passing p x e ≡ []
  unfolding passing filter up_from
  passing-end h = let z : e - x ≡ 0 = omega arith in rw z refl

-- f is the first number from x on that passes, or none before e does
pub record First (p : ℕ → Bool) (x e f : ℕ) : Type 0 where
  pub same : passing p x e ≡ passing p f e
  pub hits : f < e → p f ≡ true
  pub low : x ≤ f

found-fuel : (p : ℕ → Bool) (n x e : ℕ) → e - x ≡ n → First p x e (first_from p x e)
found-fuel p zero x e q =
    let h : e ≤ x = omega arith in
    rw (first-end p x e h) (record { same = refl; hits = λ l. absurd (omega arith); low = omega arith })
found-fuel p (suc n) x e q = step (p x) refl (found-fuel p n (suc x) e (omega arith))
  where
    h : x < e
    h = omega arith

    step : (b : Bool) → p x ≡ b → First p (suc x) e (first_from p (suc x) e) → First p x e (first_from p x e)
    step true z ih = rw (first-stop p x e h z) (record { same = refl; hits = λ l. z; low = omega arith })
    step false z ih = rw (first_more p x e h z) (record { same = passing-more p x e h z ∙ ih.same; hits = ih.hits; low = omega (arith, ih.low) })

pub found : (p : ℕ → Bool) (x e f : ℕ) → f ≡ first_from p x e → First p x e f
found p x e f z = rw z (found-fuel p (e - x) x e refl)

module _ (p : ℕ → Bool) (x e f : ℕ) (z : f ≡ first_from p x e) where
  pub found_some : f < e → passing p x e ≡ f ∷ passing p (suc f) e
  found_some h = (found p x e f z).same ∙ passing-stop p f e h ((found p x e f z).hits h)

  pub found_none : e ≤ f → passing p x e ≡ []
  found_none h = (found p x e f z).same ∙ passing-end p f e h

-- ---- what is passed over
skips-fuel : (p : ℕ → Bool) (n x e : ℕ) → e - x ≡ n → x ≤ e → (first_from p x e ≤ e) × ((i : ℕ) → x ≤ i → i < first_from p x e → p i ≡ false)
skips-fuel p zero x e q l = rw (first-end p x e (omega arith)) (omega arith, λ i h k. absurd (omega arith))
skips-fuel p (suc n) x e q l = step (p x) refl (skips-fuel p n (suc x) e (omega arith) (omega arith))
  where
    h : x < e
    h = omega arith

    step : (b : Bool) → p x ≡ b → (first_from p (suc x) e ≤ e) × ((i : ℕ) → suc x ≤ i → i < first_from p (suc x) e → p i ≡ false) → (first_from p x e ≤ e) × ((i : ℕ) → x ≤ i → i < first_from p x e → p i ≡ false)
    step true z ih = rw (first-stop p x e h z) (omega arith, λ i a k. absurd (omega arith))
    step false z ih = rw (first_more p x e h z) (ih.0, λ i a k. here i (eq-or-lt_of_le {n = x} {m = i} a) k)
      where
        here : (i : ℕ) → (x ≡ i) ⊎ (x < i) → i < first_from p (suc x) e → p i ≡ false
        here i (inl w) k = ap p (sym w) ∙ z
        here i (inr w) k = ih.1 i w k

-- it stands within the range, and none before it passes
pub first-within : (p : ℕ → Bool) (x e : ℕ) → x ≤ e → first_from p x e ≤ e
first-within p x e l = (skips-fuel p (e - x) x e refl l).0

pub first-skips : (p : ℕ → Bool) (x e : ℕ) → x ≤ e → (i : ℕ) → x ≤ i → i < first_from p x e → p i ≡ false
first-skips p x e l = (skips-fuel p (e - x) x e refl l).1

-- ---- the scan for the first number that passes, at number i
module _ (p : ℕ → Bool) (x e i : ℕ) (inv : first_from p i e ≡ first_from p x e) where
  pub turn-stop : (b : Bool) → i < e → b ≡ p i → b ≡ true → i ≡ first_from p x e
  turn-stop b h q z = sym (first-stop p i e h (sym q ∙ z)) ∙ inv

  pub turn_more : (b : Bool) → i < e → b ≡ p i → b ≡ false → first_from p (i + 1) e ≡ first_from p x e
  turn_more b h q z = rw add-one (sym (first_more p i e h (sym q ∙ z)) ∙ inv)

  pub turn_end : e ≤ i → i ≡ first_from p x e
  turn_end h = sym (first-end p i e h) ∙ inv
