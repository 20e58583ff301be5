-- The first place that is kin.
use mathlib.Core.Path.{◌≡◌, refl, sym, ap, ◌∙◌}
use mathlib.Core.Logic.{◌⊎◌, ◌≢◌, inl, inr}
use mathlib.Core.Bool.{Bool, true, false}
use mathlib.Core.List.{List, [], ◌∷◌, map}
use Prim.Native.Nat.{ℕ, zero, suc, ◌+◌, ◌*◌, ◌≤◌, ◌<◌, zero-le}
use native.Mathlib.Nat.{eq-or-lt_of_le}
use native.Mathlib.Omega.{arith}
use lib.ListN.{length, get_or, set, length-map}
use lib.Seq.{get_or-set_same, get_or-set_other}
use Rattle.spec.specs.Bytes.{place, same_twos}
use Rattle.spec.specs.Monomial.{Monomial}
use Rattle.laws.specs.Firsts.{found, first-within, first-skips}
use Rattle.skips.specs.Facts.{filled, kin}
use Rattle.skips.specs.Repeated.{twos-same}
use Rattle.skipped_pairs.specs.Held.{place_in, facts_in}
use Rattle.skipped_under.specs.Told.{first_kin, Told}
use Rattle.skipped_under.proofs.Places.{map_at}

-- what was read of places i and k
pub kin-test : (e : ℕ) (M : ℕ → Monomial) (f : List ℕ) (i k x y : ℕ) (left : Monomial) (b : Bool) → x ≡ place_in f i → left ≡ filled e (M x) → y ≡ place_in f k → b ≡ same_twos left (filled e (M y))
    → b ≡ same_twos (filled e (M (place_in f i))) (filled e (M (place_in f k)))
kin-test e M f i k x y left b p q r h = rw (← p, ← r, ← q) h

-- the first entry that passes, by its place
place-first : {A : Type 0} (Q : A → Bool) (d : A) (l : List A) (k : ℕ) → k < length l → ((j : ℕ) → j < k → Q (get_or l j d) ≡ false) → Q (get_or l k d) ≡ true → place Q l ≡ k
unfolding place
place-first Q d [] k h n y = absurd (omega arith)
place-first Q d (x ∷ l) zero h n y = rw (place, y) refl
place-first Q d (x ∷ l) (suc k) h n y =
    let z : Q x ≡ false = n 0 (omega arith) in
    rw (place, z) (ap suc (place-first Q d l k (omega arith) (λ j b. n (suc j) (omega arith)) y))

module _ (e : ℕ) (M : ℕ → Monomial) (ps : List ℕ) (i : ℕ) (f : List ℕ) (h : i < length ps) (p : (j : ℕ) → j < length ps → place_in f j ≡ get_or ps j 0) where
  -- at place k of the buffer
  abbrev tests : ℕ → Bool
  tests k = same_twos (filled e (M (place_in f i))) (filled e (M (place_in f k)))

  abbrev asks : Monomial → Bool
  asks m = same_twos (filled e (M (get_or ps i 0))) (filled e m)

  same_test : (k : ℕ) → k < length ps → asks (get_or (map M ps) k []) ≡ tests k
  same_test k b = rw (map_at M [] ps k b, p i h, p k b) refl

  low : first_kin e M f i ≤ i
  low = first-within tests 0 i zero-le

  hits : (first_kin e M f i ≡ i) ⊎ (first_kin e M f i < i) → tests (first_kin e M f i) ≡ true
  hits (inl q) = ap tests q ∙ twos-same (filled e (M (place_in f i)))
  hits (inr l) = (found tests 0 i (first_kin e M f i) refl).hits l

  pub first-kin : first_kin e M f i ≡ kin e (map M ps) (M (get_or ps i 0))
  unfolding kin
  first-kin =
      sym
      (place-first asks [] (map M ps) (first_kin e M f i) (omega (arith, length-map ps M, low))
      (λ j b. same_test j (omega (arith, low)) ∙ first-skips tests 0 i zero-le j zero-le b)
      (same_test (first_kin e M f i) (omega (arith, low)) ∙ hits (eq-or-lt_of_le {n = first_kin e M f i} {m = i} low)))

-- ---- kin written
module _ (e : ℕ) (M : ℕ → Monomial) (ps : List ℕ) (n k y : ℕ) (f f' : List ℕ) (q : n ≡ length ps) (b : k < n) (h : 4 * k + 3 < length f)
    (z : y ≡ first_kin e M f k) (w : f' ≡ set f (4 * k + 3) y) (d : Told e M ps n k f) where
  same : (j : ℕ) → j ≢ 4 * k + 3 → get_or (set f (4 * k + 3) y) j 0 ≡ get_or f j 0
  same j r = get_or-set_other f (4 * k + 3) j y 0 r

  pub told-kin : Told e M ps n (k + 1) f'
  told-kin =
      rw w
      (record {
        places = λ i l. same (4 * i) (λ r. omega arith) ∙ d.places i l;
        totals = λ i l. same (4 * i + 1) (λ r. omega arith) ∙ d.totals i l;
        mosts = λ i l. same (4 * i + 2) (λ r. omega arith) ∙ d.mosts i l;
        small = d.small;
        kins = λ i l. here i (eq-or-lt_of_le {n = i} {m = k} (omega arith));
      })
    where
      here : (i : ℕ) → (i ≡ k) ⊎ (i < k) → (facts_in (set f (4 * k + 3) y)).kin i ≡ kin e (map M ps) (M (get_or ps i 0))
      here i (inl r) = rw r (get_or-set_same f (4 * k + 3) y 0 h ∙ z ∙ first-kin e M ps k f (omega arith) (λ j l. d.places j (omega arith)))
      here i (inr r) = same (4 * i + 3) (λ p. omega arith) ∙ d.kins i r
