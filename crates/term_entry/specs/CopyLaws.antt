-- Runs copied into the buffer.
use Rattle.std.specs.Prelude.{◌≡◌, List, ◌++◌, ℕ, suc, ◌+◌, ◌≤◌, ◌<◌, length, get_or, take, drop, set}
use Rattle.std.proofs.Common.{ap, ◌∙◌, append_assoc, arith, get_or-take, length-take-le, get_or-append-add}
use Rattle.std.proofs.Math.ListN.{get_or-append}
use Rattle.std.proofs.Math.Seq.{paste, paste-suc}
use Rattle.terms.specs.Buffers.{part}
use Rattle.terms.specs.PartLaws.{part-cong}

-- a part of what was copied; a part before it
pub paste-part : (l m : List ℕ) (a n : ℕ) → a + n ≤ length l → n ≤ length m → part (paste l a m n) a n ≡ part m 0 n
paste-part l m a n h k = part-cong (paste l a m n) m a 0 n (λ i q. at i q)
  where
    at : (i : ℕ) → i < n → get_or (paste l a m n) (a + i) 0 ≡ get_or m (0 + i) 0
    at i q =
        let e : a + i ≡ length (take a l) + i = omega (arith, length-take-le a l (omega arith)) in
        let z : 0 + i ≡ i = omega arith in
        let w : i < length (take n m) = omega (arith, length-take-le n m k) in
        rw (e, z) (ap (λ (t : List ℕ). get_or t (length (take a l) + i) 0) (append_assoc (take a l) (take n m) (drop (a + n) l)) ∙ get_or-append-add (take a l) (take n m ++ drop (a + n) l) i 0 ∙ get_or-append (take n m) (drop (a + n) l) 0 i w ∙ get_or-take n m i 0 q)

pub paste-before : (l m : List ℕ) (a n i : ℕ) → i < a → a ≤ length l → get_or (paste l a m n) i 0 ≡ get_or l i 0
paste-before l m a n i h k =
    ap (λ (t : List ℕ). get_or t i 0) (append_assoc (take a l) (take n m) (drop (a + n) l)) ∙ get_or-append (take a l) (take n m ++ drop (a + n) l) 0 i (omega (arith, length-take-le a l k)) ∙ get_or-take a l i 0 h

pub paste-turn : (d s : List ℕ) (at j : ℕ) (e : List ℕ) → at + j < length d → j < length s → e ≡ paste d at s j → set e (at + j) (get_or s j 0) ≡ paste d at s (j + 1)
paste-turn d s at j e h k q = let z : j + 1 ≡ suc j = omega arith in rw (q, z) (paste-suc d at s j 0 h k)
