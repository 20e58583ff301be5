-- Tests that are true or false.
use Rattle.std.specs.Prelude.{◌≡◌, refl, ◌⊎◌, ◌↔◌, Bool, true, false, ℕ, eqb}
use Rattle.std.proofs.Common.{sym, ◌∙◌, inl, inr, arith, eqb-true, eq-eqb}
use Rattle.spec.specs.Bytes.{both, either}

pub clash : true ≡ false → ⊥
clash e = let z : ◌≡◌ {A = ℕ} 0 1 = cc in omega arith

pub is_false : (b : Bool) → (b ≡ true → ⊥) → b ≡ false
is_false true h = absurd (h refl)
is_false false h = refl

pub both_true : (a b : Bool) → both a b ≡ true ↔ (a ≡ true) × (b ≡ true)
both_true true b = (λ e. (refl, e), λ h. h.1)
both_true false b = (λ e. absurd (clash (sym e)), λ h. h.0)

pub either_true : (a b : Bool) → either a b ≡ true ↔ (a ≡ true) ⊎ (b ≡ true)
either_true true b = (λ e. inl refl, λ h. refl)
either_true false b = (λ e. inr e, λ h. elim h [ inl e ↦ absurd (clash (sym e)) | inr e ↦ e ])

pub either-else : (a b : Bool) → either a b ≡ true ↔ (a ≡ false → b ≡ true)
either-else true b = (λ e f. absurd (clash f), λ h. refl)
either-else false b = (λ e f. e, λ h. h refl)

pub either-false : (b : Bool) → either b false ≡ b
either-false true = refl
either-false false = refl

-- ---- in either order
pub both-swap : (a b : Bool) → both a b ≡ both b a
both-swap true true = refl
both-swap true false = refl
both-swap false true = refl
both-swap false false = refl

pub either-swap : (a b : Bool) → either a b ≡ either b a
either-swap true true = refl
either-swap true false = refl
either-swap false true = refl
either-swap false false = refl

pub eqb_swap : (a b : ℕ) → eqb a b ≡ eqb b a
eqb_swap a b = go (eqb a b) refl (eqb b a) refl
  where
    go : (x : Bool) → eqb a b ≡ x → (y : Bool) → eqb b a ≡ y → x ≡ y
    go true e y f = sym (eq-eqb b a (sym (eqb-true a b e))) ∙ f
    go false e false f = refl
    go false e true f = sym e ∙ eq-eqb a b (sym (eqb-true b a f))
