-- What the lengths of the work buffers say, and buffers of the same lengths cleared.
use Rattle.std.specs.Prelude.{◌≡◌, refl, Bool, true, false, not, List, ℕ, ◌≤◌, ltb, leb, length, replicate}
use Rattle.std.proofs.Common.{sym, ap, ◌∙◌, leb-true, le-leb, ltb-true, ltb-false}
use Rattle.std.proofs.lemmas.Bool.{lt-leb}
use Rattle.laws.specs.Tests.{both_true}
use Rattle.card_contract.specs.Calls.{fit_of, Cleared}

-- one test is the other turned round
pub below : (a b : ℕ) → ltb b a ≡ not (leb a b)
below a b = go (ltb b a) refl
  where
    go : (x : Bool) → ltb b a ≡ x → x ≡ not (leb a b)
    go true e = rw (lt-leb a b (ltb-true b a e)) refl
    go false e = rw (le-leb a b (ltb-false b a e)) refl

-- none is too short
pub record Roomy (least f m t r : ℕ) : Type 0 where
  pub frames : least ≤ f
  pub marks : 32768 ≤ m
  pub terms : 66562 ≤ t
  pub runs : 65536 ≤ r

fits-says : (least frames marks terms runs : ℕ) → fit_of least frames marks terms runs ≡ true → Roomy least frames marks terms runs
fits-says least frames marks terms runs f =
    let (a, r) = (both_true (leb least frames) _).0 f in
    let (b, s) = (both_true (leb 32768 marks) _).0 r in
    let (c, d) = (both_true (leb 66562 terms) _).0 s in
    record { frames = leb-true least frames a; marks = leb-true 32768 marks b; terms = leb-true 66562 terms c; runs = leb-true 65536 runs d }

pub not-true : (fit : Bool) → not fit ≡ true → fit ≡ false
not-true true e = sym e
not-true false e = refl

pub not-false : (fit : Bool) → not fit ≡ false → fit ≡ true
not-false true e = refl
not-false false e = sym e

pub roomy : (least frames marks terms runs : ℕ) → not (fit_of least frames marks terms runs) ≡ false → Roomy least frames marks terms runs
roomy least frames marks terms runs e = fits-says least frames marks terms runs (not-false (fit_of least frames marks terms runs) e)

-- cleared from buffers as long as the first ones
pub cleared-same : {a b c d a₁ b₁ c₁ d₁ a' b' c' d' : List ℕ} → Cleared true a₁ a' b₁ b' c₁ c' d₁ d' → length a₁ ≡ length a → length b₁ ≡ length b → length c₁ ≡ length c → length d₁ ≡ length d → Cleared true a a' b b' c c' d d'
cleared-same K e f g h = record { frames = K.frames ∙ again e; marks = K.marks ∙ again f; terms = K.terms ∙ again g; runs = K.runs ∙ again h }
  where
    again : {m n : ℕ} → m ≡ n → replicate {A = ℕ} m 0 ≡ replicate n 0
    again e = ap (λ (k : ℕ). replicate {A = ℕ} k 0) e
