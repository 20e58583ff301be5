-- Laws of the array that pairs are entered in: its index and its keys. Assumes nothing.
use Rattle.std.specs.Prelude.{◌≡◌, refl, List, [], ◌∷◌, ◌++◌, ℕ, zero, suc, ◌+◌, ◌*◌, ◌/◌, ◌%◌, ◌≤◌, ◌<◌, length, get_or, set}
use Rattle.std.proofs.Common.{sym, ap, ◌∙◌, not-suc-le-zero, arith, length-set, get_or-set_same, get_or-set_other, ext_get_or}
use Rattle.std.proofs.Math.Decide.{ℕ_discrete}
use Rattle.std.proofs.Math.Arith.{digits_div, digits_mod}
use Rattle.spec.specs.Bytes.{Two}
use Rattle.spec.specs.Meaning.{In, here, there}
use Rattle.arrays.specs.Arrays.{place_of, key_of, unkey, pairs_in}
use Rattle.arrays.specs.ArrayLaws.{place-lt, unkey-key, unkeyed-length, unkeyed-at}
use Rattle.laws.specs.Lists.{get_in}
use Rattle.entering.specs.Entered.{with_pair, entered}
use Rattle.entering.specs.Growing.{Small, AllSmall}

-- ---- one pair
pub with-length : (w k : ℕ) (p : Two) (g : List ℕ) → length (with_pair w k p g) ≡ length g
with-length w k p g = length-set (set g (place_of w p) k) (w * w + k) (key_of p) ∙ length-set g (place_of w p) k

-- the key of pair k leaves the index alone
with-index : (w k : ℕ) (p : Two) (g : List ℕ) (c : ℕ) → c < w * w → get_or (with_pair w k p g) c 0 ≡ get_or (set g (place_of w p) k) c 0
with-index w k p g c h = get_or-set_other (set g (place_of w p) k) (w * w + k) c (key_of p) 0 (λ e. absurd (omega arith))

-- and the index the keys; so does the key of another pair
with-other : (w k : ℕ) (p : Two) (g : List ℕ) (i : ℕ) → Small w p → i < k → get_or (with_pair w k p g) (w * w + i) 0 ≡ get_or g (w * w + i) 0
with-other w k p g i s h =
    get_or-set_other (set g (place_of w p) k) (w * w + k) (w * w + i) (key_of p) 0 (λ e. absurd (omega arith))
    ∙ get_or-set_other g (place_of w p) (w * w + i) k 0 (λ e. absurd (omega (arith, place-lt w p.0 p.1 s.0 s.1)))

with-key : (w k : ℕ) (p : Two) (g : List ℕ) → w * w + k < length g → get_or (with_pair w k p g) (w * w + k) 0 ≡ key_of p
with-key w k p g h = get_or-set_same (set g (place_of w p) k) (w * w + k) (key_of p) 0 (omega (arith, length-set g (place_of w p) k))

-- two stores, by the places and the key that the code computes
pub with-puts : (w n l r : ℕ) (g : List ℕ) {p k x : ℕ} {g₁ g₂ : List ℕ} → p ≡ place_of w (l, r) → k ≡ w * w → x ≡ key_of (l, r) → g₁ ≡ set g p n → g₂ ≡ set g₁ (k + n) x → g₂ ≡ with_pair w n (l, r) g
with-puts w n l r g a b c d e = rw (e, d, a, b, c) refl

-- ---- pair after pair
pub entered-length : (w k : ℕ) (ps : List Two) (g : List ℕ) → length (entered w k ps g) ≡ length g
unfolding entered
entered-length w k [] g = refl
entered-length w k (p ∷ ps) g = entered-length w (suc k) ps (with_pair w k p g) ∙ with-length w k p g

pub entered-last : (w k : ℕ) (ps : List Two) (p : Two) (g : List ℕ) → entered w k (ps ++ (p ∷ [])) g ≡ with_pair w (k + length ps) p (entered w k ps g)
unfolding entered
entered-last w k [] p g = ap (λ (n : ℕ). with_pair w n p g) {x = k} {y = k + 0} (omega arith)
entered-last w k (q ∷ ps) p g =
    entered-last w (suc k) ps p (with_pair w k q g)
    ∙ ap (λ (n : ℕ). with_pair w n p (entered w (suc k) ps (with_pair w k q g))) {x = suc k + length ps} {y = k + suc (length ps)} (omega arith)

-- ---- keys
-- those of the pairs before stay
entered-before : (w k : ℕ) (ps : List Two) (g : List ℕ) (i : ℕ) → AllSmall w ps → i < k → get_or (entered w k ps g) (w * w + i) 0 ≡ get_or g (w * w + i) 0
unfolding entered
entered-before w k [] g i s h = refl
entered-before w k (p ∷ ps) g i s h = entered-before w (suc k) ps (with_pair w k p g) i (λ q j. s q (there j)) (omega arith) ∙ with-other w k p g i (s p here) h

key-from : (w k : ℕ) (ps : List Two) (g : List ℕ) (j : ℕ) → AllSmall w ps → w * w + k + length ps ≤ length g → j < length ps → get_or (entered w k ps g) (w * w + (k + j)) 0 ≡ key_of (get_or ps j (0, 0))
unfolding entered
key-from w k [] g j s m h = absurd (not-suc-le-zero h)
key-from w k (p ∷ ps) g zero s m h =
    let e : w * w + (k + 0) ≡ w * w + k = omega arith in
    ap (λ (i : ℕ). get_or (entered w (suc k) ps (with_pair w k p g)) i 0) e
    ∙ entered-before w (suc k) ps (with_pair w k p g) k (λ q i. s q (there i)) (omega arith)
    ∙ with-key w k p g (omega arith)
key-from w k (p ∷ ps) g (suc j) s m h =
    let e : w * w + (k + suc j) ≡ w * w + (suc k + j) = omega arith in
    ap (λ (i : ℕ). get_or (entered w (suc k) ps (with_pair w k p g)) i 0) e
    ∙ key-from w (suc k) ps (with_pair w k p g) j (λ q i. s q (there i)) (omega (arith, with-length w k p g)) (omega arith)

pub entered-key : (w : ℕ) (ps : List Two) (g : List ℕ) (j : ℕ) → AllSmall w ps → w * w + length ps ≤ length g → j < length ps → get_or (entered w 0 ps g) (w * w + j) 0 ≡ key_of (get_or ps j (0, 0))
entered-key w ps g j s m h =
    let e : w * w + j ≡ w * w + (0 + j) = omega arith in
    ap (λ (i : ℕ). get_or (entered w 0 ps g) i 0) e ∙ key-from w 0 ps g j s (omega arith) h

-- the keys are the pairs
pub entered-pairs : (w : ℕ) (ps : List Two) (g : List ℕ) → w ≤ 256 → AllSmall w ps → w * w + length ps ≤ length g → pairs_in w (entered w 0 ps g) (length ps) ≡ ps
entered-pairs w ps g b s m =
    ext_get_or (0, 0) (pairs_in w (entered w 0 ps g) (length ps)) ps (unkeyed-length (entered w 0 ps g) (w * w) (length ps))
    (λ k h.
    let i : k < length ps = omega (arith, h, unkeyed-length (entered w 0 ps g) (w * w) (length ps)) in
    unkeyed-at (entered w 0 ps g) (w * w) (length ps) k i
    ∙ ap unkey (entered-key w ps g k s m i)
    ∙ unkey-key (get_or ps k (0, 0)) (omega (arith, b, (s (get_or ps k (0, 0)) (get_in (0, 0) ps k i)).1)))

-- ---- numbers in the index
-- a place's number is as it was, or it is that of a pair with this place
pub data Numbered (w k : ℕ) (ps : List Two) (g : List ℕ) (c : ℕ) : Type 0 where
  kept : get_or (entered w k ps g) c 0 ≡ get_or g c 0 → ((p : Two) → In p ps → place_of w p ≡ c → ⊥) → Numbered w k ps g c
  given : (j : ℕ) → j < length ps → get_or (entered w k ps g) c 0 ≡ k + j → place_of w (get_or ps j (0, 0)) ≡ c → Numbered w k ps g c

no-pair : {p : Two} → In p [] → ⊥
no-pair i = elim i [ ]

pub numbered-at : (w k : ℕ) (ps : List Two) (g : List ℕ) (c : ℕ) → c < w * w → w * w ≤ length g → Numbered w k ps g c
unfolding entered
numbered-at w k [] g c h m = kept refl (λ p i. absurd (no-pair i))
numbered-at w k (q ∷ ps) g c h m = go (numbered-at w (suc k) ps (with_pair w k q g) c h (omega (arith, with-length w k q g))) (ℕ_discrete (place_of w q) c)
  where
    other : ((p : Two) → In p ps → place_of w p ≡ c → ⊥) → (place_of w q ≡ c → ⊥) → (p : Two) → In p (q ∷ ps) → place_of w p ≡ c → ⊥
    other f g p here e = g e
    other f g p (there i) e = f p i e

    go : Numbered w (suc k) ps (with_pair w k q g) c → Dec (place_of w q ≡ c) → Numbered w k (q ∷ ps) g c
    go (given j a b e) d = given (suc j) (omega arith) (b ∙ omega arith) e
    go (kept a f) (yes e) = given 0 (omega arith) (a ∙ with-index w k q g c h ∙ ap (λ (i : ℕ). get_or (set g i k) c 0) e ∙ get_or-set_same g c k 0 (omega arith) ∙ omega arith) e
    go (kept a f) (no n) = kept (a ∙ with-index w k q g c h ∙ get_or-set_other g (place_of w q) c k 0 (λ e. n (sym e))) (other f n)

-- two pairs with one place are one pair
pub place-one : (w : ℕ) (p q : Two) → Small w p → Small w q → place_of w p ≡ place_of w q → p ≡ q
place-one w p q a b e =
    let x : p.0 ≡ q.0 = sym (digits_div p.0 a.1) ∙ ap (λ (z : ℕ). z / w) e ∙ digits_div q.0 b.1 in
    let y : p.1 ≡ q.1 = sym (digits_mod p.0 a.1) ∙ ap (λ (z : ℕ). z % w) e ∙ digits_mod q.0 b.1 in
    λ i. (x i, y i)
