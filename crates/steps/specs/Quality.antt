-- "(size, mass), compared by size, then mass": the order on qualities, and sums of count × quality.
use Rattle.std.specs.Prelude.{◌≡◌, refl, ◌⊎◌, Bool, true, false, List, [], ◌∷◌, ℕ, zero, suc, ◌+◌, ◌*◌, ◌≤◌, ◌<◌, ltb, eqb}
use Rattle.std.proofs.Common.{sym, ap, ◌∙◌, inl, inr, arith, le_refl, mul-le-mul_left, ltb-true, ltb-false, eqb-true}
use Rattle.std.proofs.lemmas.Bool.{eqb-false}
use Rattle.spec.specs.Bytes.{Two}
use Rattle.spec.specs.Transport.{plan_size, plan_mass}
use Rattle.spec.specs.Round.{better, cells_over, quality_over}
use Rattle.spec.specs.Meaning.{◌⊑◌}
use Rattle.laws.specs.Tests.{clash}

pub two-eq : {a b c d : ℕ} → a ≡ c → b ≡ d → ◌≡◌ {A = Two} (a, b) (c, d)
two-eq e f = λ i. (e i, f i)

-- strictly better
infix 50 ◌⊏◌
abbrev pub ◌⊏◌ : Two → Two → Type 0
a ⊏ b = (a.0 < b.0) ⊎ ((a.0 ≡ b.0) × (a.1 < b.1))

pub ⊑_refl : (a : Two) → a ⊑ a
⊑_refl a = inr (refl, le_refl a.1)

pub ⊑-of-eq : {a b : Two} → a ≡ b → a ⊑ b
⊑-of-eq {b = b} e = rw e (⊑_refl b)

pub ⊑_trans : (a b c : Two) → a ⊑ b → b ⊑ c → a ⊑ c
⊑_trans a b c (inl h) (inl k) = inl (omega arith)
⊑_trans a b c (inl h) (inr k) = inl (omega (arith, k.0))
⊑_trans a b c (inr h) (inl k) = inl (omega (arith, h.0))
⊑_trans a b c (inr h) (inr k) = inr (h.0 ∙ k.0, omega (arith, h.1, k.1))

pub ⊑-antisym : (a b : Two) → a ⊑ b → b ⊑ a → a ≡ b
⊑-antisym a b (inl h) (inl k) = absurd (omega arith)
⊑-antisym a b (inl h) (inr k) = absurd (omega (arith, k.0))
⊑-antisym a b (inr h) (inl k) = absurd (omega (arith, h.0))
⊑-antisym a b (inr h) (inr k) = let c = h.0 in let d : a.1 ≡ b.1 = omega (arith, h.1, k.1) in λ i. (c i, d i)

pub ⊏-⊑ : {a b : Two} → a ⊏ b → a ⊑ b
⊏-⊑ (inl h) = inl h
⊏-⊑ (inr h) = inr (h.0, omega (arith, h.1))

pub ⊏-not : (a b : Two) → a ⊏ b → b ⊑ a → ⊥
⊏-not a b (inl h) (inl k) = omega arith
⊏-not a b (inl h) (inr k) = omega (arith, k.0)
⊏-not a b (inr h) (inl k) = omega (arith, h.0)
⊏-not a b (inr h) (inr k) = omega (arith, h.1, k.1)

pub ⊏-⊑-trans : (a b c : Two) → a ⊏ b → b ⊑ c → a ⊏ c
⊏-⊑-trans a b c (inl h) (inl k) = inl (omega arith)
⊏-⊑-trans a b c (inl h) (inr k) = inl (omega (arith, k.0))
⊏-⊑-trans a b c (inr h) (inl k) = inl (omega (arith, h.0))
⊏-⊑-trans a b c (inr h) (inr k) = inr (h.0 ∙ k.0, omega (arith, h.1, k.1))

pub ⊑-size : (a b : Two) → a ⊑ b → a.0 ≤ b.0
⊑-size a b (inl h) = omega arith
⊑-size a b (inr h) = omega (arith, h.0)

-- ---- the steps' test
pub better-is : (a b : Two) → better a b ≡ true → a ⊏ b
better-is a b e = go (ltb a.0 b.0) refl (eqb a.0 b.0) refl (ltb a.1 b.1) refl
  where
    go : (x : Bool) → ltb a.0 b.0 ≡ x → (y : Bool) → eqb a.0 b.0 ≡ y → (z : Bool) → ltb a.1 b.1 ≡ z → a ⊏ b
    go true p y q z r = inl (ltb-true a.0 b.0 p)
    go false p true q true r = inr (eqb-true a.0 b.0 q, ltb-true a.1 b.1 r)
    go false p true q false r = absurd (clash (sym (rw (p, q, r) at e)))
    go false p false q z r = absurd (clash (sym (rw (p, q) at e)))

pub better-not : (a b : Two) → better a b ≡ false → b ⊑ a
better-not a b e = go (ltb a.0 b.0) refl (eqb a.0 b.0) refl (ltb a.1 b.1) refl
  where
    go : (x : Bool) → ltb a.0 b.0 ≡ x → (y : Bool) → eqb a.0 b.0 ≡ y → (z : Bool) → ltb a.1 b.1 ≡ z → b ⊑ a
    go true p y q z r = absurd (clash (rw p at e))
    go false p true q true r = absurd (clash (rw (p, q, r) at e))
    go false p true q false r = inr (sym (eqb-true a.0 b.0 q), ltb-false a.1 b.1 r)
    go false p false q z r = let n : a.0 ≡ b.0 → ⊥ = eqb-false a.0 b.0 q in inl (omega (arith, ltb-false a.0 b.0 p))

pub ⊑-or : (a b : Two) → (a ⊑ b) ⊎ (b ⊏ a)
⊑-or a b = go (better b a) refl
  where
    go : (x : Bool) → better b a ≡ x → (a ⊑ b) ⊎ (b ⊏ a)
    go true e = inr (better-is b a e)
    go false e = inl (better-not b a e)

-- ---- sums of count × quality
abbrev pub Total : List ℕ → List Two → Two
Total x l = (plan_size x (cells_over l), plan_mass x (cells_over l))

pub plus-⊑ : (n s m S M s' m' S' M' : ℕ) → (s, m) ⊑ (s', m') → (S, M) ⊑ (S', M') → (n * s + S, n * m + M) ⊑ (n * s' + S', n * m' + M')
plus-⊑ zero s m S M s' m' S' M' h (inl k) = inl (omega arith)
plus-⊑ zero s m S M s' m' S' M' h (inr k) = inr (omega (arith, k.0), omega (arith, k.1))
plus-⊑ (suc n) s m S M s' m' S' M' (inl h) (inl k) = inl (omega (arith, mul-le-mul_left n h))
plus-⊑ (suc n) s m S M s' m' S' M' (inl h) (inr k) = inl (omega (arith, mul-le-mul_left n h, k.0))
plus-⊑ (suc n) s m S M s' m' S' M' (inr h) (inl k) = inl (omega (arith, ap (λ (z : ℕ). suc n * z) h.0))
plus-⊑ (suc n) s m S M s' m' S' M' (inr h) (inr k) = inr (omega (arith, ap (λ (z : ℕ). suc n * z) h.0, k.0), omega (arith, mul-le-mul_left (suc n) h.1, k.1))

-- entry by entry
pub data Below : List Two → List Two → Type 0 where
  below-nil : Below [] []
  below_next : {a b : Two} {l m : List Two} → a ⊑ b → Below l m → Below (a ∷ l) (b ∷ m)

pub total-⊑ : (x : List ℕ) (l m : List Two) → Below l m → Total x l ⊑ Total x m
unfolding plan_size plan_mass
total-⊑ [] l m b = ⊑_refl (0, 0)
total-⊑ (n ∷ x) (a ∷ l) [] b = elim b [ ]
total-⊑ (n ∷ x) [] (c ∷ m) b = elim b [ ]
total-⊑ (n ∷ x) [] [] below-nil = ⊑_refl (0, 0)
total-⊑ (n ∷ x) (a ∷ l) (c ∷ m) (below_next h b) = plus-⊑ n a.0 a.1 (plan_size x (cells_over l)) (plan_mass x (cells_over l)) c.0 c.1 (plan_size x (cells_over m)) (plan_mass x (cells_over m)) h (total-⊑ x l m b)

pub suc-⊑ : (S M S' M' : ℕ) → (S, M) ⊑ (S', M') → (1 + S, M) ⊑ (1 + S', M')
suc-⊑ S M S' M' (inl h) = inl (omega arith)
suc-⊑ S M S' M' (inr h) = inr (omega (arith, h.0), h.1)

pub quality-⊑ : (x : List ℕ) (l m : List Two) → Below l m → quality_over x l ⊑ quality_over x m
quality-⊑ x l m b = suc-⊑ _ _ _ _ (total-⊑ x l m b)
