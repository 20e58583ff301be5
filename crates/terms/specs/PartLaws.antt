-- Parts of a buffer.
use Rattle.std.specs.Prelude.{◌≡◌, refl, List, [], ◌∷◌, ◌++◌, ℕ, zero, suc, ◌+◌, ◌-◌, ◌≤◌, ◌<◌, length, get_or, take}
use Rattle.std.proofs.Common.{sym, ap, ap₂, ◌∙◌, not-suc-le-zero, arith, length-append, ext_get_or, length-take-le, get_or-take, take_at}
use Rattle.terms.specs.Buffers.{part}

pub part_length : (l : List ℕ) (a n : ℕ) → length (part l a n) ≡ n
unfolding part
part_length l a zero = refl
part_length l a (suc n) = ap suc (part_length l (suc a) n)

pub part_at : (l : List ℕ) (a n i : ℕ) → i < n → get_or (part l a n) i 0 ≡ get_or l (a + i) 0
unfolding part
part_at l a zero i h = absurd (not-suc-le-zero h)
part_at l a (suc n) zero h = ap (λ (z : ℕ). get_or l z 0) (omega arith)
part_at l a (suc n) (suc i) h = part_at l (suc a) n i (omega arith) ∙ (let e : suc a + i ≡ a + suc i = omega arith in ap (λ (z : ℕ). get_or l z 0) e)

-- equal numbers, equal parts
pub part-cong : (l m : List ℕ) (a b n : ℕ) → ((i : ℕ) → i < n → get_or l (a + i) 0 ≡ get_or m (b + i) 0) → part l a n ≡ part m b n
unfolding part
part-cong l m a b zero h = refl
part-cong l m a b (suc n) h =
    let e : a + 0 ≡ a = omega arith in
    let f : b + 0 ≡ b = omega arith in
    ap₂ (λ (x : ℕ) (t : List ℕ). x ∷ t) (rw (e, f) at (h 0 (omega arith))) (part-cong l m (suc a) (suc b) n (λ i k. rest i k))
  where
    rest : (i : ℕ) → i < n → get_or l (suc a + i) 0 ≡ get_or m (suc b + i) 0
    rest i k =
        let e : suc a + i ≡ a + suc i = omega arith in
        let f : suc b + i ≡ b + suc i = omega arith in
        rw (e, f) (h (suc i) (omega arith))

pub part-cons : (l : List ℕ) (i n : ℕ) → i < n → part l i (n - i) ≡ get_or l i 0 ∷ part l (i + 1) (n - (i + 1))
unfolding part
part-cons l i n h = let e : n - i ≡ suc (n - (i + 1)) = omega arith in let f : i + 1 ≡ suc i = omega arith in rw (e, f) refl

pub part-over : (l : List ℕ) (i n : ℕ) → n ≤ i → part l i (n - i) ≡ []
unfolding part
part-over l i n h = let e : n - i ≡ 0 = omega arith in rw e refl

pub part-snoc : (l : List ℕ) (a n : ℕ) → part l a (suc n) ≡ part l a n ++ (get_or l (a + n) 0 ∷ [])
unfolding part
part-snoc l a zero = let e : a + 0 ≡ a = omega arith in rw e refl
part-snoc l a (suc n) = let e : suc a + n ≡ a + suc n = omega arith in ap (λ (t : List ℕ). get_or l a 0 ∷ t) (part-snoc l (suc a) n ∙ ap (λ (z : ℕ). part l (suc a) n ++ (get_or l z 0 ∷ [])) e)

-- the front of a buffer
pub part-take : (list : List ℕ) (k : ℕ) → k ≤ length list → part list 0 k ≡ take k list
part-take list k h = ext_get_or 0 (part list 0 k) (take k list) (part_length list 0 k ∙ sym (length-take-le k list h)) (λ i q. at i (rw (part_length list 0 k) at q))
  where
    at : (i : ℕ) → i < k → get_or (part list 0 k) i 0 ≡ get_or (take k list) i 0
    at i q = let z : 0 + i ≡ i = omega arith in rw z at (part_at list 0 k i q) ∙ sym (get_or-take k list i 0 q)

pub part-front : (l t : List ℕ) (m : ℕ) → m ≡ length l → part (l ++ t) 0 m ≡ l
part-front l t m e = part-take (l ++ t) m (omega (arith, length-append l t)) ∙ take_at l t m (sym e)
