-- Results and checks: what a step that succeeds says, which numbers a step is refused by, steps that larger limits keep, and steps that a longer budget does not change.
use Rattle.std.specs.Prelude.{◌≡◌, refl, ◌⊎◌, Bool, true, false, ℕ, ◌+◌}
use Rattle.std.proofs.Common.{sym, ap, ◌∙◌, inl, inr, arith}
use Rattle.spec.specs.Bytes.{pick, Res, ok, refused, ◌>>=◌, Checked, passed, cut_short}

pub refused-ok : {A : Type 0} {n : ℕ} {a : A} → refused n ≡ ok a → ⊥
refused-ok e = let z : ◌≡◌ {A = ℕ} 0 1 = cc in omega arith

pub ok-inj : {A : Type 0} {a b : A} → ok a ≡ ok b → a ≡ b
ok-inj e = cc

pub refused-inj : {A : Type 0} {m n : ℕ} → ◌≡◌ {A = Res A} (refused m) (refused n) → m ≡ n
refused-inj e = cc

pub passed-inj : {A : Type 0} {a b : A} {m n : ℕ} → passed a m ≡ passed b n → (a ≡ b) × (m ≡ n)
passed-inj e = (cc, cc)

pub cut-passed : {A : Type 0} {a : A} {n : ℕ} → cut_short ≡ passed a n → ⊥
cut-passed e = let z : ◌≡◌ {A = ℕ} 0 1 = cc in omega arith

-- what a step that succeeds went through
pub bind_ok : {A B : Type 0} (m : Res A) (f : A → Res B) (b : B) → (m >>= f) ≡ ok b → (a : A) × (m ≡ ok a) × (f a ≡ ok b)
bind_ok (ok a) f b e = (a, refl, e)
bind_ok (refused n) f b e = absurd (refused-ok e)

-- a refusal comes from the first step, or from the second after the first
pub bind-refused : {A B : Type 0} (m : Res A) (f : A → Res B) (n : ℕ) → (m >>= f) ≡ refused n → (m ≡ refused n) ⊎ ((a : A) × (m ≡ ok a) × (f a ≡ refused n))
bind-refused (ok a) f n e = inr (a, refl, e)
bind-refused (refused k) f n e = inl (ap refused (refused-inj e))

-- ---- refused by 13 alone
abbrev pub Only13 : {A : Type 0} → Res A → Type 0
Only13 r = (k : ℕ) → r ≡ refused k → k ≡ 13

pub only-ok : {A : Type 0} (a : A) → Only13 (ok a)
only-ok a k e = absurd (refused-ok (sym e))

pub only-bind : {A B : Type 0} (r : Res A) (f : A → Res B) → Only13 r → ((a : A) → Only13 (f a)) → Only13 (r >>= f)
only-bind r f h g k e = elim (bind-refused r f k e) [ inl z ↦ h k z | inr z ↦ g z.0 k z.2 ]

-- ---- larger limits: what x accepts, y accepts: the same
abbrev pub Kept : {A : Type 0} → Res A → Res A → Type 0
Kept (ok a) y = y ≡ ok a
Kept (refused n) y = Unit

pub kept-bind : {A B : Type 0} (x y : Res A) (f g : A → Res B) → Kept x y → ((a : A) → Kept (f a) (g a)) → Kept (x >>= f) (y >>= g)
kept-bind (ok a) y f g k h = rw k (h a)
kept-bind (refused n) y f g k h = tt

pub kept-ok : {A : Type 0} (x y : Res A) (a : A) → Kept x y → x ≡ ok a → y ≡ ok a
kept-ok (ok b) y a k e = k ∙ e
kept-ok (refused n) y a k e = absurd (refused-ok e)

-- found, or there is room
pub kept-room : {A : Type 0} (n : ℕ) (old new : A) (x y z : Bool) → (y ≡ true → z ≡ true) → Kept (pick x (ok old) (pick y (ok new) (refused n))) (pick x (ok old) (pick z (ok new) (refused n)))
kept-room n old new true y z h = refl
kept-room n old new false true z h = rw (h refl) refl
kept-room n old new false false z h = tt

-- ---- a longer budget
-- y is what x becomes with e checks more: an end stays the same end, and what is left grows by e; a run cut short may go on anyhow
abbrev pub Later : {A : Type 0} → ℕ → Res (Checked A) → Res (Checked A) → Type 0
Later e (ok (passed a c)) y = y ≡ ok (passed a (c + e))
Later e (ok cut_short) y = Unit
Later e (refused n) y = y ≡ refused n
