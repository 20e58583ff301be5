-- Marks: what marking children changes.
use Rattle.std.specs.Prelude.{◌≡◌, refl, ◌≢◌, ◌⊎◌, List, [], ◌∷◌, ◌++◌, ℕ, zero, suc, ◌%◌, ◌≤◌, ◌<◌, length, get_or, set, drop, replicate}
use Rattle.std.proofs.Common.{ap, ◌∙◌, inl, inr, not-suc-le-zero, arith, length-set, length-append, length-drop, get_or-set_same, get_or-set_other, drop-set-lt, drop_at}
use Rattle.std.proofs.Math.Decide.{ℕ_discrete, dec_lt}
use Rattle.std.proofs.lemmas.List.{length-replicate}
use Rattle.std.proofs.Math.Seq.{set_out}
use Rattle.spec.specs.Bytes.{In, here, there}
use Rattle.card_judge.specs.Bound.{mark_all, cleared, Unmarked}

-- ---- one mark
put-marked : (w : List ℕ) (c i : ℕ) → 0 < get_or w i 0 → 0 < get_or (set w c 1) i 0
put-marked w c i h = go (ℕ_discrete i c) (dec_lt c (length w))
  where
    go : Dec (i ≡ c) → Dec (c < length w) → 0 < get_or (set w c 1) i 0
    go (yes e) (yes l) = rw (e, get_or-set_same w c 1 0 l) (omega arith)
    go (yes e) (no l) = rw (set_out w c 1 (omega arith)) h
    go (no e) l = rw (get_or-set_other w c i 1 0 e) h

put_only : (w : List ℕ) (c i : ℕ) → i ≢ c → get_or (set w c 1) i 0 ≡ get_or w i 0
put_only w c i e = get_or-set_other w c i 1 0 e

-- ---- all the children's
pub mark-length : (l w : List ℕ) → length (mark_all w l) ≡ length w
unfolding mark_all
mark-length [] w = refl
mark-length (r ∷ l) w = mark-length l (set w (r % 16384) 1) ∙ length-set w (r % 16384) 1

-- marks stay
pub mark-keeps : (l w : List ℕ) (i : ℕ) → 0 < get_or w i 0 → 0 < get_or (mark_all w l) i 0
unfolding mark_all
mark-keeps [] w i h = h
mark-keeps (r ∷ l) w i h = mark-keeps l (set w (r % 16384) 1) i (put-marked w (r % 16384) i h)

-- the children are marked
pub mark-marks : (l w : List ℕ) (r : ℕ) → In r l → r % 16384 < length w → 0 < get_or (mark_all w l) (r % 16384) 0
unfolding mark_all
mark-marks [] w s x'' h = elim x'' [ ]
mark-marks (r ∷ l) w s here h = mark-keeps l (set w (s % 16384) 1) (s % 16384) (rw (get_or-set_same w (s % 16384) 1 0 h) (omega arith))
mark-marks (r ∷ l) w s (there i) h = mark-marks l (set w (r % 16384) 1) s i (omega (arith, length-set w (r % 16384) 1))

-- and nothing else
pub mark-only : (l w : List ℕ) (i : ℕ) → 0 < get_or (mark_all w l) i 0 → (0 < get_or w i 0) ⊎ ((r : ℕ) × In r l × (i ≡ r % 16384))
unfolding mark_all
mark-only [] w i h = inl h
mark-only (r ∷ l) w i h = go (mark-only l (set w (r % 16384) 1) i h)
  where
    go : (0 < get_or (set w (r % 16384) 1) i 0) ⊎ ((s : ℕ) × In s l × (i ≡ s % 16384)) → (0 < get_or w i 0) ⊎ ((s : ℕ) × In s (r ∷ l) × (i ≡ s % 16384))
    go (inl k) = elim (ℕ_discrete i (r % 16384)) [ yes e ↦ inr (r, here, e) | no e ↦ inl (rw (put_only w (r % 16384) i e) at k) ]
    go (inr (s, k, e)) = inr (s, there k, e)

pub mark-rest : (l w : List ℕ) (n : ℕ) → ((r : ℕ) → In r l → r % 16384 < n) → drop n (mark_all w l) ≡ drop n w
unfolding mark_all
mark-rest [] w n h = refl
mark-rest (r ∷ l) w n h = mark-rest l (set w (r % 16384) 1) n (λ s i. h s (there i)) ∙ drop-set-lt n w (r % 16384) 1 (h r here)

-- ---- no marks
front-zero : (n : ℕ) (l : List ℕ) (i : ℕ) → i < n → get_or (replicate n 0 ++ l) i 0 ≡ 0
front-zero zero l i h = absurd (not-suc-le-zero h)
front-zero (suc n) l zero h = refl
front-zero (suc n) l (suc i) h = front-zero n l i (omega arith)

pub cleared-none : (n : ℕ) (w : List ℕ) → Unmarked n (cleared n w)
cleared-none n w i h = front-zero n (drop n w) i h

pub cleared-length : (n : ℕ) (w : List ℕ) → n ≤ length w → length (cleared n w) ≡ length w
cleared-length n w h = omega (arith, length-append (replicate n 0) (drop n w), length-replicate {A = ℕ} n 0, length-drop n w)

-- cleared, used and cleared again
pub cleared-again : (k : ℕ) (w x : List ℕ) {n : ℕ} {v y : List ℕ} → n ≡ k → v ≡ cleared n w → drop k x ≡ drop k v → y ≡ cleared n x → y ≡ cleared k w
cleared-again k w x {v = v} e f g h =
    let z : v ≡ cleared k w = rw e at f in
    let q : drop k x ≡ drop k w = g ∙ ap (drop k) z ∙ drop_at (replicate k 0) (drop k w) k (length-replicate {A = ℕ} k 0) in
    rw e at h ∙ ap (λ (l : List ℕ). replicate k 0 ++ l) q
