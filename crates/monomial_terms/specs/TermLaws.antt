-- Laws of `terms`: a term is read and written at two numbers, a buffer is its terms and the number behind them, and a class added is a term more at most.
use Rattle.std.specs.Prelude.{◌≡◌, refl, Bool, true, false, List, [], ◌∷◌, ◌++◌, ℕ, zero, suc, ◌+◌, ◌*◌, ◌-◌, ◌≤◌, ◌<◌, ltb, eqb, length, drop, get_or, set}
use Rattle.std.proofs.Common.{sym, ap, ◌∙◌, not-suc-le-zero, arith, take-append-drop, take_at, drop-drop, length-take-le}
use Rattle.std.proofs.Math.Seq.{drop-append-add}
use Rattle.spec.specs.Bytes.{Two}
use Rattle.spec.specs.Monomial.{Monomial, insert_add}
use Rattle.monomial_terms.specs.Terms.{terms, rest, held, front, Holds}

twice : (i : ℕ) → 2 * suc i ≡ suc (suc (2 * i))
twice i = omega arith

twice-one : (i : ℕ) → 2 * suc i + 1 ≡ suc (suc (2 * i + 1))
twice-one i = omega arith

-- two numbers a term, and one behind them at most
pub two-each : (s : List ℕ) → (2 * length (terms s) ≤ length s) × (length s ≤ 2 * length (terms s) + 1)
unfolding terms
two-each [] = omega arith
two-each (x ∷ []) = omega arith
two-each (x ∷ y ∷ s) = omega (arith, two-each s)

pub terms-at : (s : List ℕ) (i : ℕ) → 2 * i + 1 < length s → get_or (terms s) i (0, 0) ≡ (get_or s (2 * i) 0, get_or s (2 * i + 1) 0)
unfolding terms
terms-at [] i h = absurd (not-suc-le-zero h)
terms-at (x ∷ []) i h = absurd (omega arith)
terms-at (x ∷ y ∷ s) zero h = refl
terms-at (x ∷ y ∷ s) (suc i) h = rw (twice-one i, twice i) (terms-at s i (omega arith))

pub terms-set : (s : List ℕ) (i c k : ℕ) → 2 * i + 1 < length s → terms (set (set s (2 * i) c) (2 * i + 1) k) ≡ set (terms s) i (c, k)
unfolding terms
terms-set [] i c k h = absurd (not-suc-le-zero h)
terms-set (x ∷ []) i c k h = absurd (omega arith)
terms-set (x ∷ y ∷ s) zero c k h = refl
terms-set (x ∷ y ∷ s) (suc i) c k h = rw (twice-one i, twice i) (ap (λ (l : List Two). (x, y) ∷ l) (terms-set s i c k (omega arith)))

pub rest-set : (s : List ℕ) (i c k : ℕ) → 2 * i + 1 < length s → rest (set (set s (2 * i) c) (2 * i + 1) k) ≡ rest s
unfolding rest
rest-set [] i c k h = absurd (not-suc-le-zero h)
rest-set (x ∷ []) i c k h = absurd (omega arith)
rest-set (x ∷ y ∷ s) zero c k h = refl
rest-set (x ∷ y ∷ s) (suc i) c k h = rw (twice-one i, twice i) (rest-set s i c k (omega arith))

-- a buffer is its terms and the number behind them
pub same-buffer : (s u : List ℕ) → terms s ≡ terms u → rest s ≡ rest u → s ≡ u
unfolding terms rest
same-buffer [] [] q e = refl
same-buffer [] (y ∷ []) q e = absurd (let z : ◌≡◌ {A = ℕ} 0 1 = ap length e in omega arith)
same-buffer [] (y ∷ w ∷ u) q e = absurd (let z : 0 ≡ suc (length (terms u)) = ap length q in omega arith)
same-buffer (x ∷ []) [] q e = absurd (let z : ◌≡◌ {A = ℕ} 1 0 = ap length e in omega arith)
same-buffer (x ∷ []) (y ∷ []) q e = e
same-buffer (x ∷ []) (y ∷ w ∷ u) q e = absurd (let z : 0 ≡ suc (length (terms u)) = ap length q in omega arith)
same-buffer (x ∷ v ∷ s) [] q e = absurd (let z : suc (length (terms s)) ≡ 0 = ap length q in omega arith)
same-buffer (x ∷ v ∷ s) (y ∷ []) q e = absurd (let z : suc (length (terms s)) ≡ 0 = ap length q in omega arith)
same-buffer (x ∷ v ∷ s) (y ∷ w ∷ u) q e =
    let r : terms s ≡ terms u = cc in
    let a : x ≡ y = ap (λ (l : List Two). (get_or l 0 (0, 0)).0) q in
    let b : v ≡ w = ap (λ (l : List Two). (get_or l 0 (0, 0)).1) q in
    rw (a, b, same-buffer s u r e) refl

rest-even : (n : ℕ) (s : List ℕ) → length s ≡ 2 * n → rest s ≡ []
unfolding rest
rest-even n [] e = refl
rest-even n (x ∷ []) e = absurd (omega arith)
rest-even zero (x ∷ y ∷ s) e = absurd (omega arith)
rest-even (suc n) (x ∷ y ∷ s) e = rest-even n s (omega arith)

-- of an even length the terms alone fix it
pub terms-whole : (n : ℕ) (s u : List ℕ) → length s ≡ 2 * n → length u ≡ 2 * n → terms s ≡ terms u → s ≡ u
terms-whole n s u e f q = same-buffer s u q (rest-even n s e ∙ sym (rest-even n u f))

-- ---- the terms in front
pub held-full : (n : ℕ) (s : List ℕ) → 2 * n ≤ length s → length (held n s) ≡ n
held-full n s h = length-take-le n (terms s) (omega (arith, two-each s))

pub held-length : (n : ℕ) (s : List ℕ) → length s ≡ 130 → n ≤ 65 → length (held n s) ≡ n
held-length n s l b = held-full n s (omega arith)

pub held-is : (m : Monomial) (s u : List ℕ) (r : ℕ) → Holds m s u r → held r u ≡ m
held-is m s u r h = rw h.whole (take_at m (drop (length m) (terms s)) r (sym h.len))

-- a longer monomial written over a shorter one
pub front-front : (m m' : Monomial) (l : List Two) → length m ≤ length m' → front m' (front m l) ≡ front m' l
front-front m m' l h =
    let e : length m' ≡ length m + (length m' - length m) = omega arith in
    let d : drop (length m') (front m l) ≡ drop (length m') l =
    ap (λ (k : ℕ). drop k (front m l)) e ∙ drop-append-add m (drop (length m) l) (length m' - length m)
    ∙ drop-drop (length m' - length m) (length m) l ∙ ap (λ (k : ℕ). drop k l) (sym e) in
    ap (λ (x : List Two). m' ++ x) d

-- nothing written
pub held_same : (n : ℕ) (s : List ℕ) → length s ≡ 130 → n ≤ 65 → Holds (held n s) s s n
held_same n s l b =
    let e : length (held n s) ≡ n = held-length n s l b in
    record { len = sym e; whole = rw e (sym (take-append-drop n (terms s))) }

-- ---- a class added grows a monomial by a term at most
abbrev pub Grow : ℕ → ℕ → Monomial → Type 0
Grow c k m = (length m ≤ length (insert_add c k m)) × (length (insert_add c k m) ≤ length m + 1)

grow-step : (c k : ℕ) (t : Two) (m : Monomial) (b d : Bool) → ltb t.0 c ≡ b → eqb t.0 c ≡ d → Grow c k m → Grow c k (t ∷ m)
unfolding insert_add
grow-step c k t m true d q z ih = rw (q, insert_add) (omega arith)
grow-step c k t m false true q z ih = rw (q, insert_add, z) (omega arith)
grow-step c k t m false false q z ih = rw (q, insert_add, z) (omega arith)

pub grow : (c k : ℕ) (m : Monomial) → Grow c k m
unfolding insert_add
grow c k [] = omega arith
grow c k (t ∷ m) = grow-step c k t m (ltb t.0 c) (eqb t.0 c) refl refl (grow c k m)
