-- What the definitions of Path say in each case of the code, and one turn of each loop along the path.
use Rattle.std.specs.Prelude.{◌≡◌, List, [], ◌∷◌, ℕ, suc, ◌+◌, ◌-◌, ◌*◌, ◌^◌, ◌≤◌, ◌<◌, min, Bool, true, false, eqb, leb, length, get_or, set, drop}
use Rattle.std.proofs.Math.Path.{refl}
use Rattle.std.proofs.Common.{sym, ap, ◌∙◌, mul-le-mul, arith, get_or-set_same, get_or-set_other, drop-set-lt}
use Rattle.std.proofs.Math.Decide.{ℕ_discrete, dec_lt, dec_le}
use borrow.Author.Tests.{le-leb, lt-leb, eq-eqb, ne_eqb}
use Rattle.std.proofs.Math.Seq.{set_out}
use Rattle.spec.specs.Bytes.{pick, Two}
use Rattle.std.proofs.Math.Arith.{digits_lt}
use Rattle.search_laws.specs.Walk.{here, here-turn, here_end, LAST}
use Rattle.search_laws.specs.Path.{Step, Steps, and_step, left_on, least_on, sent_on, sent}
use Rattle.cost_matrix.specs.Matrix.{cap_of}
use Rattle.spec.specs.Transport.{WIDEST}

module _ (g f y : List ℕ) (r c u v : ℕ) where
  pub left-source : u ≡ 0 → get_or y (v - 1) 0 ≡ left_on g f y r c u v
  unfolding left_on
  left-source e = rw (eq-eqb u 0 e) refl

  pub left-row : (u ≡ 0 → ⊥) → u ≤ r → cap_of g ((u - 1) * c + (v - 1 - r)) - get_or f ((u - 1) * c + (v - 1 - r)) 0 ≡ left_on g f y r c u v
  unfolding left_on
  left-row a b = rw (ne_eqb u 0 a, le-leb u r b) refl

  pub left-sink : (u ≡ 0 → ⊥) → r < u → v ≡ 1 + r + c → get_or y (WIDEST + (u - 1 - r)) 0 ≡ left_on g f y r c u v
  unfolding left_on
  left-sink a b e = rw (ne_eqb u 0 a, lt-leb u r b, eq-eqb v (1 + r + c) e) refl

  pub left_back : (u ≡ 0 → ⊥) → r < u → (v ≡ 1 + r + c → ⊥) → get_or f ((v - 1) * c + (u - 1 - r)) 0 ≡ left_on g f y r c u v
  unfolding left_on
  left_back a b e = rw (ne_eqb u 0 a, lt-leb u r b, ne_eqb v (1 + r + c) e) refl

module _ (r c n u v : ℕ) (f : List ℕ) where
  pub sent-source : u ≡ 0 → f ≡ sent_on r c n u v f
  unfolding sent_on
  sent-source e = rw (eq-eqb u 0 e) refl

  pub sent-row : (u ≡ 0 → ⊥) → u ≤ r → set f ((u - 1) * c + (v - 1 - r)) (get_or f ((u - 1) * c + (v - 1 - r)) 0 + n) ≡ sent_on r c n u v f
  unfolding sent_on
  sent-row a b = rw (ne_eqb u 0 a, le-leb u r b) refl

  pub sent-sink : (u ≡ 0 → ⊥) → r < u → v ≡ 1 + r + c → f ≡ sent_on r c n u v f
  unfolding sent_on
  sent-sink a b e = rw (ne_eqb u 0 a, lt-leb u r b, eq-eqb v (1 + r + c) e) refl

  pub sent_back : (u ≡ 0 → ⊥) → r < u → (v ≡ 1 + r + c → ⊥) → set f ((v - 1) * c + (u - 1 - r)) (get_or f ((v - 1) * c + (u - 1 - r)) 0 - n) ≡ sent_on r c n u v f
  unfolding sent_on
  sent_back a b e = rw (ne_eqb u 0 a, lt-leb u r b, ne_eqb v (1 + r + c) e) refl

-- ---- a loop along the path
pub steps_first : (r c : ℕ) (s : Two) (l : List Two) → Steps r c (s ∷ l) → Step r c s.0 s.1 × Steps r c l
steps_first r c s l (and_step a b) = (a, b)

module _ (path : List ℕ) (r c a : ℕ) (h : a < LAST) (S : Steps r c (here path a)) where
  pub step-here : Step r c (get_or path a 0) (get_or path (a + 1) 0)
  step-here = (steps_first r c (get_or path a 0, get_or path (a + 1) 0) (here path (a + 1)) (rw (here-turn path a h) at S)).0

  pub steps_next : Steps r c (here path (a + 1))
  steps_next = (steps_first r c (get_or path a 0, get_or path (a + 1) 0) (here path (a + 1)) (rw (here-turn path a h) at S)).1

module _ (g f y path : List ℕ) (r c a b : ℕ) where
  pub least-turn : a < LAST → least_on g f y r c b (here path a) ≡ least_on g f y r c (min b (left_on g f y r c (get_or path a 0) (get_or path (a + 1) 0))) (here path (a + 1))
  unfolding least_on
  least-turn h = rw (here-turn path a h) refl

  pub least-end : LAST ≤ a → least_on g f y r c b (here path a) ≡ b
  unfolding least_on
  least-end h = rw (here_end path a h) refl

module _ (path : List ℕ) (r c n a : ℕ) (f : List ℕ) where
  pub sent-turn : a < LAST → sent r c n (here path a) f ≡ sent r c n (here path (a + 1)) (sent_on r c n (get_or path a 0) (get_or path (a + 1) 0) f)
  unfolding sent
  sent-turn h = rw (here-turn path a h) refl

  pub sent-end : LAST ≤ a → sent r c n (here path a) f ≡ f
  unfolding sent
  sent-end h = rw (here_end path a h) refl

-- a step adds no more than n anywhere
pub set_more : (f : List ℕ) (i x n k : ℕ) → x ≤ get_or f i 0 + n → get_or (set f i x) k 0 ≤ get_or f k 0 + n
set_more f i x n k h = go (ℕ_discrete k i) (dec_lt i (length f))
  where
    go : Dec (k ≡ i) → Dec (i < length f) → get_or (set f i x) k 0 ≤ get_or f k 0 + n
    go (no e) d = rw (get_or-set_other f i k x 0 e) (omega arith)
    go (yes e) (yes l) = rw (e, get_or-set_same f i x 0 l) h
    go (yes e) (no l) = rw (set_out f i x (omega arith)) (omega arith)

pub sent-more : (r c n u v : ℕ) (f : List ℕ) (k : ℕ) → get_or (sent_on r c n u v f) k 0 ≤ get_or f k 0 + n
unfolding sent_on
sent-more r c n u v f k = go (eqb u 0) (leb u r) (eqb v (1 + r + c))
  where
    go : (a b e : Bool) → get_or (pick a f (pick b (set f ((u - 1) * c + (v - 1 - r)) (get_or f ((u - 1) * c + (v - 1 - r)) 0 + n))
        (pick e f (set f ((v - 1) * c + (u - 1 - r)) (get_or f ((v - 1) * c + (u - 1 - r)) 0 - n))))) k 0 ≤ get_or f k 0 + n
    go true b e = omega arith
    go false true e = set_more f ((u - 1) * c + (v - 1 - r)) (get_or f ((u - 1) * c + (v - 1 - r)) 0 + n) n k (omega arith)
    go false false true = omega arith
    go false false false = set_more f ((v - 1) * c + (u - 1 - r)) (get_or f ((v - 1) * c + (u - 1 - r)) 0 - n) n k (omega arith)

-- sending leaves what stands behind the plan's cells
kept_on : (r c n u v : ℕ) (f : List ℕ) → Step r c u v → drop (r * c) (sent_on r c n u v f) ≡ drop (r * c) f
kept_on r c n u v f S = go (ℕ_discrete u 0) (dec_le u r) (ℕ_discrete v (1 + r + c))
  where
    go : Dec (u ≡ 0) → Dec (u ≤ r) → Dec (v ≡ 1 + r + c) → drop (r * c) (sent_on r c n u v f) ≡ drop (r * c) f
    go (yes e) b d = ap (λ (l : List ℕ). drop (r * c) l) (sym (sent-source r c n u v f e))
    go (no a) (yes b) d =
        let t = S.from_row (omega arith) b in
        ap (λ (l : List ℕ). drop (r * c) l) (sym (sent-row r c n u v f a b)) ∙ drop-set-lt (r * c) f ((u - 1) * c + (v - 1 - r)) (get_or f ((u - 1) * c + (v - 1 - r)) 0 + n) (digits_lt {q = u - 1} (omega arith) (omega arith))
    go (no a) (no b) (yes d) = ap (λ (l : List ℕ). drop (r * c) l) (sym (sent-sink r c n u v f a (omega arith) d))
    go (no a) (no b) (no d) =
        let t = S.to_row (omega arith) d in
        let h = S.from_column (omega arith) in
        ap (λ (l : List ℕ). drop (r * c) l) (sym (sent_back r c n u v f a (omega arith) d)) ∙ drop-set-lt (r * c) f ((v - 1) * c + (u - 1 - r)) (get_or f ((v - 1) * c + (u - 1 - r)) 0 - n) (digits_lt {q = v - 1} (omega arith) (omega arith))

pub sent-kept : (r c n : ℕ) (l : List Two) (f : List ℕ) → Steps r c l → drop (r * c) (sent r c n l f) ≡ drop (r * c) f
unfolding sent
sent-kept r c n [] f S = refl
sent-kept r c n (s ∷ l) f (and_step a b) = sent-kept r c n l (sent_on r c n s.0 s.1 f) b ∙ kept_on r c n s.0 s.1 f a

pub room_next : (x y a n : ℕ) → a < LAST → y ≤ x + n → x + (LAST - a) * n < 2 ^ 64 → y + (LAST - (a + 1)) * n < 2 ^ 64
room_next x y a n h l b = let e : LAST - a ≡ suc (LAST - (a + 1)) = omega arith in let q : (LAST - a) * n ≡ n + (LAST - (a + 1)) * n = ap (λ (z : ℕ). z * n) e ∙ suc-times (LAST - (a + 1)) n in omega arith
  where
    suc-times : (k n : ℕ) → suc k * n ≡ n + k * n
    suc-times k n = omega arith

pub room-here : (x a n : ℕ) → a < LAST → x + (LAST - a) * n < 2 ^ 64 → x + n < 2 ^ 64
room-here x a n h b = omega (arith, mul-le-mul {n₁ = 1} {m₁ = n} {n₂ = LAST - a} {m₂ = n} (omega arith) (omega arith))

pub room-first : (x a n : ℕ) → x + LAST * n < 2 ^ 64 → x + (LAST - a) * n < 2 ^ 64
room-first x a n b = omega (arith, mul-le-mul {n₁ = LAST - a} {m₁ = n} {n₂ = LAST} {m₂ = n} (omega arith) (omega arith))
