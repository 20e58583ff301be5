-- A text is cut into the marks that it was spelt from, and into nothing else.
use Rattle.std.specs.Prelude.{◌≡◌, refl, ◌⊎◌, Bool, true, false, List, [], ◌∷◌, ◌++◌, ℕ, zero, suc, ◌+◌, ◌*◌, ◌-◌, ◌/◌, ◌%◌, ◌≤◌, ◌<◌, ltb, leb, eqb, length, get_or, drop}
use Rattle.std.proofs.Common.{sym, ap, ◌∙◌, inl, inr, append_assoc, zero-le, not-suc-le-zero, arith, leb-true, eqb-true, le-leb, eq-eqb, ne_eqb, lt-ltb, le-ltb, ltb-true, length-append}
use Rattle.std.proofs.Math.Decide.{dec_lt}
use Rattle.std.proofs.lemmas.Bool.{lt-leb}
use Rattle.spec.specs.Bytes.{pick, both, either, all, any, place, up_from, within, text, decimal, digits, Res, ok, refused}
use Rattle.laws.specs.Buffers.{up-length}
use Rattle.laws.specs.Tests.{clash}
use Rattle.laws.specs.Tests.{both_true}
use Rattle.pools.specs.PoolIntern.{place-passes, place-first}
use Rattle.formula.specs.Card.{operations, sign, letter, symbol, one_symbol, is_sign, same_bytes, has_sign, own, shares_sign, proper, Mark, literal, between, list, next, close, opens, shuts, begin, or, end, spell_mark, spell, proper_mark}
use Rattle.formula.specs.Lexer.{digit, sign_byte, starts_with, lead, literal_at, operation_at, spaced_at, mark_at, stands_at, is_nil, before, cut}

-- ---- tests
either_true : (a b : Bool) → either a b ≡ true → (a ≡ true) ⊎ (b ≡ true)
either_true true b e = inl refl
either_true false b e = inr e

both_of : (a b : Bool) → a ≡ true → b ≡ true → both a b ≡ true
both_of true b e f = f
both_of false b e f = e

both-no : (a b : Bool) → b ≡ false → both a b ≡ false
both-no true b e = e
both-no false b e = refl

pub all_cons : {A : Type 0} (f : A → Bool) (x : A) (l : List A) → all f (x ∷ l) ≡ true → (f x ≡ true) × (all f l ≡ true)
unfolding all
all_cons f x l e = go (f x) refl
  where
    go : (b : Bool) → f x ≡ b → (f x ≡ true) × (all f l ≡ true)
    go true p = (p, rw (p, all) at e)
    go false p = absurd (clash (sym (rw (p, all) at e)))

pub cons-all : {A : Type 0} (f : A → Bool) (x : A) (l : List A) → f x ≡ true → all f l ≡ true → all f (x ∷ l) ≡ true
unfolding all
cons-all f x l e h = rw (e, all) h

all_weaker : {A : Type 0} (f g : A → Bool) → ((x : A) → f x ≡ true → g x ≡ true) → (l : List A) → all f l ≡ true → all g l ≡ true
unfolding all
all_weaker f g h [] e = refl
all_weaker f g h (x ∷ l) e = let r = all_cons f x l e in cons-all g x l (h x r.0) (all_weaker f g h l r.1)

-- an entry of the list passes what every entry passes
any-eq : (c : ℕ) (q : ℕ → Bool) (l : List ℕ) → any (eqb c) l ≡ true → all q l ≡ true → q c ≡ true
unfolding any
any-eq c q [] e h = absurd (clash (sym e))
any-eq c q (x ∷ l) e h = go (eqb c x) refl (λ k. any-eq c q l k (all_cons q x l h).1)
  where
    go : (b : Bool) → eqb c x ≡ b → (any (eqb c) l ≡ true → q c ≡ true) → q c ≡ true
    go true p ih = let z : c ≡ x = eqb-true c x p in rw z (all_cons q x l h).0
    go false p ih = ih (rw (p, any) at e)

-- ---- bytes of signs: no digit, no space, no bar, no square mark
sign-byte : (q : ℕ → Bool) → ((c : ℕ) → 65 ≤ c → c ≤ 122 → q c ≡ true) → all q (text "+-*/<>") ≡ true → (c : ℕ) → sign_byte c ≡ true → q c ≡ true
unfolding symbol text
sign-byte q h k c e = go (either_true (letter c) (symbol c) e)
  where
    low : (either (within 65 90 c) (within 97 122 c) ≡ true) → q c ≡ true
    low f = elim (either_true (within 65 90 c) (within 97 122 c) f) [
      | inl a ↦ let (x, y) = (both_true (leb 65 c) (leb c 90)).0 a in h c (leb-true 65 c x) (omega (arith, leb-true c 90 y))
      | inr a ↦ let (x, y) = (both_true (leb 97 c) (leb c 122)).0 a in h c (omega (arith, leb-true 97 c x)) (leb-true c 122 y)
    ]

    go : (letter c ≡ true) ⊎ (symbol c ≡ true) → q c ≡ true
    go (inl f) = low f
    go (inr f) = any-eq c q (text "+-*/<>") f k

not_digit : (c : ℕ) → sign_byte c ≡ true → digit c ≡ false
unfolding text all
not_digit c e = flip (sign-byte (λ c. pick (digit c) false true) (λ c h k. rw (both-no (leb 48 c) (leb c 57) (lt-leb c 57 (omega arith))) refl) refl c e)
  where
    flip : pick (digit c) false true ≡ true → digit c ≡ false
    flip = turn (digit c)
      where
        turn : (b : Bool) → pick b false true ≡ true → b ≡ false
        turn true e = absurd (clash (sym e))
        turn false e = refl

pub differs : (d c : ℕ) → (65 ≤ d → d ≤ 122 → ⊥) → all (λ c. pick (eqb d c) false true) (text "+-*/<>") ≡ true → sign_byte c ≡ true → eqb d c ≡ false
differs d c o a e = turn (eqb d c) (sign-byte (λ c. pick (eqb d c) false true) (λ c h k. rw (ne_eqb d c (λ z. o (omega arith) (omega arith))) refl) a c e)
  where
    turn : (b : Bool) → pick b false true ≡ true → b ≡ false
    turn true e = absurd (clash (sym e))
    turn false e = refl

-- ---- signs
pub sign-bytes : (w : List ℕ) → is_sign w ≡ true → all sign_byte w ≡ true
unfolding is_sign one_symbol
sign-bytes w e = go (either_true (both (ltb 0 (length w)) (all letter w)) (one_symbol w) e)
  where
    single : (w : List ℕ) → one_symbol w ≡ true → all sign_byte w ≡ true
    single [] f = absurd (clash (sym f))
    single (c ∷ []) f = cons-all sign_byte c [] (up (letter c)) refl
      where
        up : (b : Bool) → either b (symbol c) ≡ true
        up true = refl
        up false = f
    single (c ∷ d ∷ s) f = absurd (clash (sym f))

    go : (both (ltb 0 (length w)) (all letter w) ≡ true) ⊎ (one_symbol w ≡ true) → all sign_byte w ≡ true
    go (inl f) = all_weaker letter sign_byte (λ c z. rw z refl) w ((both_true (ltb 0 (length w)) (all letter w)).0 f).1
    go (inr f) = single w f

sign-some : (w : List ℕ) → is_sign w ≡ true → (c : ℕ) × (r : List ℕ) × (w ≡ c ∷ r)
unfolding is_sign one_symbol
sign-some [] e = absurd (clash (sym e))
sign-some (c ∷ r) e = (c, r, refl)

same-bytes : (w v : List ℕ) → w ≡ v → same_bytes w v ≡ true
unfolding same_bytes
same-bytes w v e = rw e (go v)
  where
    go : (v : List ℕ) → same_bytes v v ≡ true
    go [] = refl
    go (c ∷ v) = rw (eq-eqb c c refl, same_bytes) (go v)

-- ---- prefixes
pub starts-own : (w r : List ℕ) → starts_with w (w ++ r) ≡ true
unfolding starts_with
starts-own [] r = refl
starts-own (c ∷ w) r = rw (eq-eqb c c refl, starts_with) (starts-own w r)

starts-split : (w s : List ℕ) → starts_with w s ≡ true → s ≡ w ++ drop (length w) s
unfolding starts_with
starts-split [] s e = refl
starts-split (c ∷ w) [] e = absurd (clash (sym e))
starts-split (c ∷ w) (d ∷ s) e = go (eqb c d) refl (λ k. starts-split w s k)
  where
    go : (b : Bool) → eqb c d ≡ b → (starts_with w s ≡ true → s ≡ w ++ drop (length w) s) → d ∷ s ≡ c ∷ w ++ drop (length w) s
    go true p ih = let z : c ≡ d = eqb-true c d p in rw z (ap (λ (y : List ℕ). d ∷ y) (ih (rw (p, starts_with) at e)))
    go false p ih = absurd (clash (sym (rw (p, starts_with) at e)))

pub drop_own : (w r : List ℕ) → drop (length w) (w ++ r) ≡ r
drop_own [] r = refl
drop_own (c ∷ w) r = drop_own w r

-- a sign ends where its mark ends it
words-agree : (x : ℕ) → sign_byte x ≡ false → (w v r : List ℕ) → all sign_byte w ≡ true → all sign_byte v ≡ true → starts_with (w ++ (x ∷ [])) (v ++ (x ∷ r)) ≡ true → w ≡ v
unfolding starts_with
words-agree x n [] [] r a b e = refl
words-agree x n [] (d ∷ v) r a b e = go (eqb x d) refl
  where
    go : (y : Bool) → eqb x d ≡ y → [] ≡ d ∷ v
    go true p = absurd (clash (sym (all_cons sign_byte d v b).0 ∙ ap sign_byte (sym (eqb-true x d p)) ∙ n))
    go false p = absurd (clash (sym (rw (p, starts_with) at e)))
words-agree x n (c ∷ w) [] r a b e = go (eqb c x) refl
  where
    go : (y : Bool) → eqb c x ≡ y → c ∷ w ≡ []
    go true p = absurd (clash (sym (all_cons sign_byte c w a).0 ∙ ap sign_byte (eqb-true c x p) ∙ n))
    go false p = absurd (clash (sym (rw (p, starts_with) at e)))
words-agree x n (c ∷ w) (d ∷ v) r a b e = go (eqb c d) refl (λ k. words-agree x n w v r (all_cons sign_byte c w a).1 (all_cons sign_byte d v b).1 k)
  where
    go : (y : Bool) → eqb c d ≡ y → (starts_with (w ++ (x ∷ [])) (v ++ (x ∷ r)) ≡ true → w ≡ v) → c ∷ w ≡ d ∷ v
    go true p ih = let z : c ≡ d = eqb-true c d p in rw (z, ih (rw (p, starts_with) at e)) refl
    go false p ih = absurd (clash (sym (rw (p, starts_with) at e)))

-- ---- operations
up_at : (n a k : ℕ) → k < n → get_or (up_from a n) k 0 ≡ a + k
unfolding up_from
up_at zero a k h = absurd (not-suc-le-zero h)
up_at (suc n) a zero h = omega arith
up_at (suc n) a (suc k) h = let z = up_at n (suc a) k (omega arith) in z ∙ (omega arith)

all-at : (f : ℕ → Bool) (l : List ℕ) (k : ℕ) → all f l ≡ true → k < length l → f (get_or l k 0) ≡ true
all-at f [] k e h = absurd (not-suc-le-zero h)
all-at f (x ∷ l) zero e h = (all_cons f x l e).0
all-at f (x ∷ l) (suc k) e h = all-at f l k (all_cons f x l e).1 (omega arith)

pub record Proper (t : List ℕ) (o : ℕ) : Type 0 where
  pub known : o < operations t
  pub has : has_sign t o ≡ true
  pub sound : is_sign (sign t o) ≡ true
  pub alone : own t o ≡ true

pub of-proper : (t : List ℕ) (o : ℕ) → proper t o ≡ true → Proper t o
unfolding proper has_sign
of-proper t o e =
    let (h, k) = (both_true (has_sign t o) _).0 e in
    let (i, j) = (both_true (ltb o (operations t)) _).0 h in
    record { known = ltb-true o (operations t) i; has = h; sound = ((both_true (is_sign (sign t o)) _).0 j).0; alone = ((both_true (own t o) _).0 k).0 }

-- a sign names one operation
own_sign : (t : List ℕ) (o q : ℕ) → Proper t o → Proper t q → sign t q ≡ sign t o → q ≡ o
unfolding own
own_sign t o q x y e = go (eqb q o) refl
  where
    at-q : pick (eqb q o) true (pick (shares_sign t o q) false true) ≡ true
    at-q =
        let z : get_or (up_from 0 (operations t)) q 0 ≡ q = up_at (operations t) 0 q y.known ∙ (omega arith) in
        let f : ℕ → Bool = λ q. pick (eqb q o) true (pick (shares_sign t o q) false true) in
        sym (ap f z) ∙ all-at f (up_from 0 (operations t)) q x.alone (omega (arith, y.known, up-length (operations t) 0))

    go : (b : Bool) → eqb q o ≡ b → q ≡ o
    go true p = eqb-true q o p
    go false p = absurd (clash (sym (rw (p, both_of (has_sign t q) (same_bytes (sign t q) (sign t o)) y.has (same-bytes (sign t q) (sign t o) e)) at at-q)))

-- the one that is found
found : (t : List ℕ) (f : ℕ → Mark) (s : List ℕ) (o : ℕ) → proper t o ≡ true → starts_with (spell_mark t (f o)) s ≡ true
    → ((q : ℕ) → Proper t q → starts_with (spell_mark t (f q)) s ≡ true → q ≡ o) → operation_at t f s ≡ o
unfolding operation_at
found t f s o p e h =
    let test : ℕ → Bool = λ o. both (proper t o) (starts_with (spell_mark t (f o)) s) in
    let n = operations t in
    let l = up_from 0 n in
    let len = up-length n 0 in
    let here : get_or l o 0 ≡ o = up_at n 0 o (of-proper t o p).known ∙ (omega arith) in
    let first = place-first test 0 l o (omega (arith, (of-proper t o p).known, len)) (ap test here ∙ both_of (proper t o) _ p e) in
    let k = place test l in
    let low : k < n = omega (arith, (of-proper t o p).known, first) in
    let at : get_or l k 0 ≡ k = up_at n 0 k low ∙ (omega arith) in
    let pass = sym (ap test at) ∙ place-passes test 0 l (omega (arith, low, len)) in
    let (x, y) = (both_true (proper t k) _).0 pass in
    h k (of-proper t k x) y

found_between : (t : List ℕ) (o : ℕ) (r : List ℕ) → proper t o ≡ true → operation_at t between (spell_mark t (between o) ++ r) ≡ o
unfolding spell_mark starts_with symbol
found_between t o r p = found t between (spell_mark t (between o) ++ r) o p (starts-own (spell_mark t (between o)) r) (λ q y e. own_sign t o q x y (agree q y (rw (append_assoc (sign t o) (32 ∷ []) r) at e)))
  where
    x : Proper t o
    x = of-proper t o p

    agree : (q : ℕ) → Proper t q → starts_with (sign t q ++ (32 ∷ [])) (sign t o ++ (32 ∷ r)) ≡ true → sign t q ≡ sign t o
    agree q y e = words-agree 32 refl (sign t q) (sign t o) r (sign-bytes (sign t q) y.sound) (sign-bytes (sign t o) x.sound) e

found-list : (t : List ℕ) (o : ℕ) (r : List ℕ) → proper t o ≡ true → operation_at t list (spell_mark t (list o) ++ r) ≡ o
unfolding spell_mark symbol
found-list t o r p = found t list (spell_mark t (list o) ++ r) o p (starts-own (spell_mark t (list o)) r) (λ q y e. own_sign t o q x y (agree q y (rw (append_assoc (sign t o) (91 ∷ []) r) at e)))
  where
    x : Proper t o
    x = of-proper t o p

    agree : (q : ℕ) → Proper t q → starts_with (sign t q ++ (91 ∷ [])) (sign t o ++ (91 ∷ r)) ≡ true → sign t q ≡ sign t o
    agree q y e = words-agree 91 refl (sign t q) (sign t o) r (sign-bytes (sign t q) y.sound) (sign-bytes (sign t o) x.sound) e

-- ---- numbers
lead-digit : (a n : ℕ) (s : List ℕ) → n < 10 → lead a ((48 + n) ∷ s) ≡ lead (a * 10 + n) s
unfolding lead
lead-digit a n s h =
    let z : 48 + n - 48 ≡ n = omega arith in
    rw (le-leb 48 (48 + n) (omega arith), le-leb (48 + n) 57 (omega arith), z, lead) refl

pub digits-one : (f n : ℕ) (l : List ℕ) → n < 10 → digits (suc f) n l ≡ (48 + n) ∷ l
unfolding digits
digits-one f n l h = ap (λ (b : Bool). elim b [ true ↦ (48 + n) ∷ l | false ↦ digits f (n / 10) ((48 + n % 10) ∷ l) ]) (lt-ltb n 10 h)

pub digits_step : (f n : ℕ) (l : List ℕ) → 10 ≤ n → digits (suc f) n l ≡ digits f (n / 10) ((48 + n % 10) ∷ l)
unfolding digits
digits_step f n l h = ap (λ (b : Bool). elim b [ true ↦ (48 + n) ∷ l | false ↦ digits f (n / 10) ((48 + n % 10) ∷ l) ]) (le-ltb n 10 h)

lead-digits : (f n : ℕ) (l r : List ℕ) → n < f → lead 0 (digits f n l ++ r) ≡ lead n (l ++ r)
lead-digits zero n l r h = absurd (not-suc-le-zero h)
lead-digits (suc f) n l r h = go (dec_lt n 10) (λ m k. lead-digits f (n / 10) m r k)
  where
    go : Dec (n < 10) → ((m : List ℕ) → n / 10 < f → lead 0 (digits f (n / 10) m ++ r) ≡ lead (n / 10) (m ++ r)) → lead 0 (digits (suc f) n l ++ r) ≡ lead n (l ++ r)
    go (yes q) ih = let z : 0 * 10 + n ≡ n = omega arith in ap (λ w. lead 0 (w ++ r)) (digits-one f n l q) ∙ lead-digit 0 n (l ++ r) q ∙ ap (λ w. lead w (l ++ r)) z
    go (no q) ih =
        let z : n / 10 * 10 + n % 10 ≡ n = omega arith in
        ap (λ w. lead 0 (w ++ r)) (digits_step f n l (omega arith)) ∙ ih ((48 + n % 10) ∷ l) (omega arith) ∙ lead-digit (n / 10) (n % 10) (l ++ r) (omega arith) ∙ ap (λ w. lead w (l ++ r)) z

pub lead-decimal : (n : ℕ) (r : List ℕ) → lead 0 (decimal n ++ r) ≡ lead n r
lead-decimal n r = lead-digits (suc n) n [] r (omega arith)

-- a number begins with a digit
pub digits-first : (f n : ℕ) (l : List ℕ) → n < f → (c : ℕ) × (w : List ℕ) × (digits f n l ≡ c ∷ w) × (digit c ≡ true)
digits-first zero n l h = absurd (not-suc-le-zero h)
digits-first (suc f) n l h = go (dec_lt n 10) (λ m k. digits-first f (n / 10) m k)
  where
    go : Dec (n < 10) → ((m : List ℕ) → n / 10 < f → (c : ℕ) × (w : List ℕ) × (digits f (n / 10) m ≡ c ∷ w) × (digit c ≡ true)) → (c : ℕ) × (w : List ℕ) × (digits (suc f) n l ≡ c ∷ w) × (digit c ≡ true)
    go (yes q) ih = (48 + n, l, digits-one f n l q, rw (le-leb 48 (48 + n) (omega arith), le-leb (48 + n) 57 (omega arith)) refl)
    go (no q) ih = let (c, w, e, d) = ih ((48 + n % 10) ∷ l) (omega arith) in (c, w, digits_step f n l (omega arith) ∙ e, d)

-- ---- the mark at the front
at-digit : (t : List ℕ) (c : ℕ) (s : List ℕ) → digit c ≡ true → mark_at t (c ∷ s) ≡ literal_at (c ∷ s)
unfolding mark_at
at-digit t c s e = rw (e, mark_at) refl

at_sign : (t : List ℕ) (c : ℕ) (s : List ℕ) → sign_byte c ≡ true → mark_at t (c ∷ s) ≡ list (operation_at t list (c ∷ s))
unfolding mark_at
at_sign t c s e = rw (not_digit c e, e, mark_at) refl

at-space : (t : List ℕ) (c : ℕ) (s : List ℕ) → sign_byte c ≡ true → mark_at t (32 ∷ c ∷ s) ≡ between (operation_at t between (32 ∷ c ∷ s))
unfolding mark_at spaced_at starts_with spell_mark symbol text all
at-space t c s e = rw (differs 124 c (λ h k. omega arith) refl e, spaced_at, starts_with) refl

drop_past : (w : List ℕ) (c : ℕ) (r : List ℕ) → drop (suc (length w)) (w ++ (c ∷ r)) ≡ r
drop_past [] c r = refl
drop_past (d ∷ w) c r = drop_past w c r

-- no digit follows
abbrev pub Stop : List ℕ → Type 0
Stop r = (n : ℕ) → lead n r ≡ n

abbrev pub Ends : Mark → List ℕ → Type 0
Ends (literal v o) r = Stop r
Ends (between o) r = Unit
Ends (list o) r = Unit
Ends next r = Unit
Ends close r = Unit
Ends opens r = Unit
Ends shuts r = Unit
Ends begin r = Unit
Ends or r = Unit
Ends end r = Unit

literal-at : (t : List ℕ) (v o : ℕ) (r : List ℕ) → Stop r → mark_at t (decimal v ++ (35 ∷ decimal o ++ r)) ≡ literal v o
unfolding lead
literal-at t v o r h =
    let (c, w, e, d) = digits-first (suc v) v [] (omega arith) in
    let x : List ℕ = decimal v ++ (35 ∷ decimal o ++ r) in
    let form : x ≡ c ∷ w ++ (35 ∷ decimal o ++ r) = ap (λ (z : List ℕ). z ++ (35 ∷ decimal o ++ r)) e in
    let value : lead 0 x ≡ v = lead-decimal v (35 ∷ decimal o ++ r) in
    let rest : drop (suc (length (decimal v))) x ≡ decimal o ++ r = drop_past (decimal v) 35 (decimal o ++ r) in
    let operation : lead 0 (decimal o ++ r) ≡ o = lead-decimal o r ∙ h o in
    ap (mark_at t) form ∙ at-digit t c _ d ∙ ap literal_at (sym form) ∙ ap (λ (z : ℕ). literal z (lead 0 (drop (suc (length (decimal z))) x))) value ∙ ap (λ (z : List ℕ). literal v (lead 0 z)) rest ∙ ap (literal v) operation

pub mark-at : (t : List ℕ) (c : Mark) (r : List ℕ) → proper_mark t c ≡ true → Ends c r → mark_at t (spell_mark t c ++ r) ≡ c
unfolding spell_mark proper_mark mark_at spaced_at starts_with symbol
mark-at t (literal v o) r p h = ap (mark_at t) (append_assoc (decimal v) (35 ∷ decimal o) r) ∙ literal-at t v o r h
mark-at t (between o) r p h =
    let x = of-proper t o p in
    let (c, w, e) = sign-some (sign t o) x.sound in
    let b = (all_cons sign_byte c w (rw e at (sign-bytes (sign t o) x.sound))).0 in
    let form : spell_mark t (between o) ++ r ≡ 32 ∷ c ∷ (w ++ (32 ∷ [])) ++ r = ap (λ (z : List ℕ). 32 ∷ (z ++ (32 ∷ [])) ++ r) e in
    ap (mark_at t) form ∙ at-space t c ((w ++ (32 ∷ [])) ++ r) b ∙ ap (λ z. between (operation_at t between z)) (sym form) ∙ ap between (found_between t o r p)
mark-at t (list o) r p h =
    let x = of-proper t o p in
    let (c, w, e) = sign-some (sign t o) x.sound in
    let b = (all_cons sign_byte c w (rw e at (sign-bytes (sign t o) x.sound))).0 in
    let form : spell_mark t (list o) ++ r ≡ c ∷ (w ++ (91 ∷ [])) ++ r = ap (λ (z : List ℕ). (z ++ (91 ∷ [])) ++ r) e in
    ap (mark_at t) form ∙ at_sign t c ((w ++ (91 ∷ [])) ++ r) b ∙ ap (λ z. list (operation_at t list z)) (sym form) ∙ ap list (found-list t o r p)
mark-at t next r p h = refl
mark-at t close r p h = refl
mark-at t opens r p h = refl
mark-at t shuts r p h = refl
mark-at t begin r p h = refl
mark-at t or r p h = refl
mark-at t end r p h = refl

-- ---- marks in a row: no literal behind a literal
abbrev pub is_literal : Mark → Bool
is_literal (literal v o) = true
is_literal (between o) = false
is_literal (list o) = false
is_literal next = false
is_literal close = false
is_literal opens = false
is_literal shuts = false
is_literal begin = false
is_literal or = false
is_literal end = false

pub data Sparse : List Mark → Type 0 where
  no-mark : Sparse []
  one-mark : {c : Mark} → Sparse (c ∷ [])
  two-marks : {c d : Mark} {s : List Mark} → (is_literal c ≡ true → is_literal d ≡ false) → Sparse (d ∷ s) → Sparse (c ∷ d ∷ s)

stop-mark : (t : List ℕ) (c : Mark) (r : List ℕ) → proper_mark t c ≡ true → is_literal c ≡ false → Stop (spell_mark t c ++ r)
unfolding spell_mark proper_mark lead
stop-mark t (literal v o) r p h = absurd (clash h)
stop-mark t (between o) r p h = λ n. refl
stop-mark t (list o) r p h = λ n.
    let x = of-proper t o p in
    let (c, w, e) = sign-some (sign t o) x.sound in
    let b = (all_cons sign_byte c w (rw e at (sign-bytes (sign t o) x.sound))).0 in
    ap (λ (z : List ℕ). lead n ((z ++ (91 ∷ [])) ++ r)) e ∙ (rw (not_digit c b, lead) refl)
stop-mark t next r p h = λ n. refl
stop-mark t close r p h = λ n. refl
stop-mark t opens r p h = λ n. refl
stop-mark t shuts r p h = λ n. refl
stop-mark t begin r p h = λ n. refl
stop-mark t or r p h = λ n. refl
stop-mark t end r p h = λ n. refl

ends_by : (c : Mark) (r : List ℕ) → (is_literal c ≡ true → Stop r) → Ends c r
ends_by (literal v o) r h = h refl
ends_by (between o) r h = tt
ends_by (list o) r h = tt
ends_by next r h = tt
ends_by close r h = tt
ends_by opens r h = tt
ends_by shuts r h = tt
ends_by begin r h = tt
ends_by or r h = tt
ends_by end r h = tt

-- no mark is empty
mark-some : (t : List ℕ) (c : Mark) (r : List ℕ) → proper_mark t c ≡ true → (d : ℕ) × (w : List ℕ) × (spell_mark t c ++ r ≡ d ∷ w)
unfolding spell_mark proper_mark
mark-some t (literal v o) r p = let (c, w, e, d) = digits-first (suc v) v [] (omega arith) in (c, (w ++ (35 ∷ decimal o)) ++ r, ap (λ (z : List ℕ). (z ++ (35 ∷ decimal o)) ++ r) e)
mark-some t (between o) r p = (_, _, refl)
mark-some t (list o) r p = let (c, w, e) = sign-some (sign t o) (of-proper t o p).sound in (c, (w ++ (91 ∷ [])) ++ r, ap (λ (z : List ℕ). (z ++ (91 ∷ [])) ++ r) e)
mark-some t next r p = (_, _, refl)
mark-some t close r p = (_, _, refl)
mark-some t opens r p = (_, _, refl)
mark-some t shuts r p = (_, _, refl)
mark-some t begin r p = (_, _, refl)
mark-some t or r p = (_, _, refl)
mark-some t end r p = (_, _, refl)

not-nil : (s : List ℕ) (d : ℕ) (w : List ℕ) → s ≡ d ∷ w → is_nil s ≡ false
not-nil s d w e = ap is_nil e

cut-one : (f : ℕ) (t : List ℕ) (c : Mark) (r : List ℕ) → proper_mark t c ≡ true → Ends c r → cut (suc f) t (spell_mark t c ++ r) ≡ before c (cut f t r)
unfolding cut stands_at
cut-one f t c r p h =
    let (d, w, e) = mark-some t c r p in
    let m = mark-at t c r p h in
    rw (not-nil (spell_mark t c ++ r) d w e, m, both_of (proper_mark t c) (starts_with (spell_mark t c) (spell_mark t c ++ r)) p (starts-own (spell_mark t c) r), cut, stands_at) (rw (m, drop_own (spell_mark t c) r) refl)

cut-nil : (f : ℕ) (t : List ℕ) → cut f t [] ≡ ok []
unfolding cut
cut-nil zero t = refl
cut-nil (suc f) t = refl

-- Every text is cut into the marks that it is spelt from.
pub cut-spelt : (f : ℕ) (t : List ℕ) {c : List Mark} → Sparse c → all (proper_mark t) c ≡ true → length c ≤ f → cut f t (spell t c) ≡ ok c
unfolding spell lead
cut-spelt f t no-mark p h = cut-nil f t
cut-spelt zero t (one-mark {c = c}) p h = absurd (not-suc-le-zero h)
cut-spelt (suc f) t (one-mark {c = c}) p h = cut-one f t c [] (all_cons (proper_mark t) c [] p).0 (ends_by c [] (λ l n. refl)) ∙ ap (before c) (cut-nil f t)
cut-spelt zero t (two-marks {c = c} {d = d} {s = s} n x) p h = absurd (not-suc-le-zero h)
cut-spelt (suc f) t (two-marks {c = c} {d = d} {s = s} n x) p h =
    let (a, b) = all_cons (proper_mark t) c (d ∷ s) p in
    let q = (all_cons (proper_mark t) d s b).0 in
    cut-one f t c (spell t (d ∷ s)) a (ends_by c _ (λ l. stop-mark t d (spell t s) q (n l))) ∙ ap (before c) (cut-spelt f t x b (omega arith))

-- no mark is empty, so a text is at least as long as its marks are many
pub spelt-length : (t : List ℕ) (c : List Mark) → all (proper_mark t) c ≡ true → length c ≤ length (spell t c)
unfolding spell
spelt-length t [] p = zero-le
spelt-length t (c ∷ s) p =
    let (a, b) = all_cons (proper_mark t) c s p in
    let (d, w, e) = mark-some t c [] a in
    let z : length (spell_mark t c) + 0 ≡ suc (length w) = sym (length-append (spell_mark t c) []) ∙ ap length e in
    omega (arith, length-append (spell_mark t c) (spell t s), spelt-length t s b)

-- What a text is cut into spells it, and is proper.
pub cut_right : (f : ℕ) (t s : List ℕ) (c : List Mark) → cut f t s ≡ ok c → (s ≡ spell t c) × (all (proper_mark t) c ≡ true)
unfolding cut spell stands_at
cut_right zero t [] c e = let z : [] ≡ c = cc in rw (← z) (refl, refl)
cut_right zero t (x ∷ s) c e = absurd (let y : ◌≡◌ {A = ℕ} 0 1 = cc in omega arith)
cut_right (suc f) t [] c e = let z : [] ≡ c = cc in rw (← z) (refl, refl)
cut_right (suc f) t (x ∷ s) c e = go (stands_at t m (x ∷ s)) refl e (λ l k. cut_right f t rest l k)
  where
    m : Mark
    m = mark_at t (x ∷ s)

    rest : List ℕ
    rest = drop (length (spell_mark t m)) (x ∷ s)

    Told : Type 0
    Told = (l : List Mark) → cut f t rest ≡ ok l → (rest ≡ spell t l) × (all (proper_mark t) l ≡ true)

    by : (r : Res (List Mark)) → Told → cut f t rest ≡ r → before m r ≡ ok c → starts_with (spell_mark t m) (x ∷ s) ≡ true → proper_mark t m ≡ true → (x ∷ s ≡ spell t c) × (all (proper_mark t) c ≡ true)
    by (ok l) ih k j a b =
        let (u, v) = ih l k in
        let z : m ∷ l ≡ c = cc in
        rw (← z) (starts-split (spell_mark t m) (x ∷ s) a ∙ ap (λ (y : List ℕ). spell_mark t m ++ y) u, cons-all (proper_mark t) m l b v)
    by (refused n) ih k j a b = absurd (let y : ◌≡◌ {A = ℕ} 0 1 = cc in omega arith)

    go : (b : Bool) → stands_at t m (x ∷ s) ≡ b → (elim b [ true ↦ before m (cut f t rest) | false ↦ refused 17 ]) ≡ ok c → Told → (x ∷ s ≡ spell t c) × (all (proper_mark t) c ≡ true)
    go true p k ih = let (b, a) = (both_true (proper_mark t m) _).0 p in by (cut f t rest) ih refl k a b
    go false p k ih = absurd (let y : ◌≡◌ {A = ℕ} 0 1 = cc in omega arith)
