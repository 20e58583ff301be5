-- Steps one after the other, and the marks' steps on the words of a buffer.
use Rattle.std.specs.Prelude.{Option, Some, None, ◌≡◌, refl, ◌≢◌, Bool, true, false, ℕ, zero, suc, ◌+◌, ◌*◌, ◌-◌, ◌/◌, ◌%◌, ◌≤◌, ◌<◌, leb, ltb, eqb, set}
use Rattle.std.proofs.Common.{sym, ◌∙◌, lt-ltb, leb-true, leb-false}
use Rattle.std.proofs.Math.Path.{ap, ap₂}
use mathlib.Core.List.{List, [], ◌∷◌}
use native.Mathlib.Omega.{arith}
use Rattle.std.proofs.lemmas.Bool.{lt-leb}
use Rattle.std.proofs.Math.ListN.{length, get_or, length-set}
use Rattle.spec.specs.Bytes.{Limits, Two, pick}
use Rattle.spec.specs.Pool.{Pool}
use Rattle.terms.specs.Buffers.{count_in, pool_of}
use Rattle.laws.specs.Tests.{both_true}
use Rattle.formula.specs.Card as card
use Rattle.formula.specs.Card.{operations, prec_of, has_sign, own, proper, proper_mark}
use Rattle.formula_laws.specs.Lexing.{of-proper}
use Rattle.interning.specs.GrowLaws.{grows_then, grows_none}
use Rattle.card_terms.specs.Words.{Reached, whole, full, stuck, ◌>>=◌, Word, bracket, list_head, marked_head, left_child, child, Stack, reduce_top, turn_left, close_on, shut_on, word_of, words_in}
use Rattle.card_terms.specs.Reading.{WordsBelow, Topped, Closes, Standing, Steps}
use Rattle.card_terms.specs.StandLaws.{word-left, word-child, words-top, words-push}
use Rattle.card_terms.specs.ReduceLaws.{words-two}

-- ---- one step after the other
pub not_stuck : {A B : Type 0} (m : Reached A) (f : A → Reached B) → (m >>= f) ≢ stuck → m ≢ stuck
not_stuck m f h e = h (ap (λ z. z >>= f) e)

module _ {lim : Limits} {terms runs terms₁ runs₁ frames₁ : List ℕ} {a : ℕ} {m : Reached Stack} {r : Option ℕ} (X : Steps lim terms runs terms₁ runs₁ frames₁ a m r) (f : Stack → Reached Stack) where
  pub then-full : r ≡ None → (b : ℕ) → Steps lim terms runs terms₁ runs₁ frames₁ b (m >>= f) None
  then-full e b = let q : full (pool_of terms₁ runs₁) ≡ m = rw e at X.reached in record { reached = ap (λ (z : Reached Stack). z >>= f) q; grows = X.grows; stands = tt }

  module _ (n : ℕ) (e : r ≡ Some n) where
    pub then-stands : Standing lim terms₁ runs₁ frames₁ n
    then-stands = (rw e at X.stands).0

    pub then-most : n ≤ a
    then-most = (rw e at X.stands).1

    then_is : f (pool_of terms₁ runs₁, words_in frames₁ n) ≡ (m >>= f)
    then_is = let q : whole (pool_of terms₁ runs₁, words_in frames₁ n) ≡ m = rw e at X.reached in ap (λ (z : Reached Stack). z >>= f) q

    pub then-not : (m >>= f) ≢ stuck → f (pool_of terms₁ runs₁, words_in frames₁ n) ≢ stuck
    then-not h q = h (sym then_is ∙ q)

    pub steps_then : {terms₂ runs₂ frames₂ : List ℕ} {b : ℕ} {s : Option ℕ} → Steps lim terms₁ runs₁ terms₂ runs₂ frames₂ b (f (pool_of terms₁ runs₁, words_in frames₁ n)) s → Steps lim terms runs terms₂ runs₂ frames₂ b (m >>= f) s
    steps_then Y = record { reached = Y.reached ∙ then_is; grows = grows_then X.grows Y.grows; stands = Y.stands }

-- a step that enters nothing
pub steps-words : {lim : Limits} {terms runs frames : List ℕ} {n : ℕ} → Standing lim terms runs frames n → (frames' : List ℕ) (k b : ℕ) (w : List Word) → words_in frames' k ≡ w → WordsBelow (count_in terms) w → k ≤ length frames' → k ≤ b
    → Steps lim terms runs terms runs frames' b (whole (pool_of terms runs, w)) (Some k)
steps-words {lim} {terms} {runs} Z frames' k b w e h i l = record {
  reached = ap (λ (v : List Word). whole (pool_of terms runs, v)) e;
  grows = grows_none terms runs Z.holds;
  stands = (record { holds = Z.holds; rooms = Z.rooms; inside = i; below = rw e h }, l);
}

-- ---- what a step that is not stuck says of the stack
pub topped-of : (lim : Limits) (t : List ℕ) (m : ℕ) (p : Pool) (w : List Word) → reduce_top lim t m p w ≢ stuck → Topped w
unfolding reduce_top
topped-of lim t m p [] h = absurd (h refl)
topped-of lim t m p (bracket ∷ w) h = tt
topped-of lim t m p (list_head o ∷ w) h = tt
topped-of lim t m p (marked_head ∷ w) h = tt
topped-of lim t m p (left_child c o ∷ w) h = absurd (h refl)
topped-of lim t m p (child c ∷ w) h = tt

pub closes-of : (lim : Limits) (p : Pool) (w : List Word) (l : List Two) → close_on lim p w l ≢ stuck → Closes w
unfolding close_on Closes
closes-of lim p [] l h = absurd (h refl)
closes-of lim p (bracket ∷ w) l h = absurd (h refl)
closes-of lim p (list_head o ∷ w) l h = tt
closes-of lim p (marked_head ∷ w) l h = tt
closes-of lim p (left_child c o ∷ w) l h = absurd (h refl)
closes-of lim p (child c ∷ w) l h = closes-of lim p w ((c, 1) ∷ l) h

-- ---- `)`
pub shut-two : (p : Pool) (frames : List ℕ) (n : ℕ) → shut_on (p, words_in frames n) ≢ stuck → 2 ≤ n
unfolding shut_on words_in
shut-two p frames zero h = absurd (h refl)
shut-two p frames (suc zero) h = absurd (h refl)
shut-two p frames (suc (suc n)) h = omega arith

module _ {lim : Limits} {terms runs frames : List ℕ} {n : ℕ} (Z : Standing lim terms runs frames n) where
  pub shut-steps : 2 ≤ n → (frames' : List ℕ) → frames' ≡ set frames (n - 2) (get_or frames (n - 1) 0) → (b : ℕ) → n ≤ b → Steps lim terms runs terms runs frames' b (shut_on (pool_of terms runs, words_in frames n)) (Some (n - 1))
  unfolding shut_on WordsBelow
  shut-steps h frames' q b l =
      let e : n - 2 + 1 ≡ n - 1 = omega arith in
      let w : words_in frames' (n - 1) ≡ word_of (get_or frames (n - 1) 0) ∷ words_in frames (n - 2) = ap (λ (f : List ℕ). words_in f (n - 1)) q ∙ ap (words_in (set frames (n - 2) (get_or frames (n - 1) 0))) (sym e) ∙ words-push frames (n - 2) (get_or frames (n - 1) 0) (omega (arith, Z.inside)) in
      let d : WordsBelow (count_in terms) (word_of (get_or frames (n - 1) 0) ∷ word_of (get_or frames (n - 2) 0) ∷ words_in frames (n - 2)) = rw (words-two frames n h) at Z.below in
      rw (words-two frames n h) (steps-words Z frames' (n - 1) b _ w (d.0, d.1.1) (omega (arith, ap length q, length-set frames (n - 2) (get_or frames (n - 1) 0), Z.inside)) (omega arith))

-- ---- a sign between two children
turn-word : (o : ℕ) (p : Pool) (x : ℕ) (w : List Word) → turn_left o (p, word_of x ∷ w) ≢ stuck → (16384 ≤ x) × (x < 32768)
unfolding turn_left
turn-word o p x w h = go (leb 32768 x) refl (leb 16384 x) refl (ltb x 64) (eqb x 128) h
  where
    go : (a : Bool) → leb 32768 x ≡ a → (b : Bool) → leb 16384 x ≡ b → (c d : Bool)
        → turn_left o (p, pick a (left_child (x % 16384) (x / 16384 - 2)) (pick b (child (x - 16384)) (pick c (list_head x) (pick d marked_head bracket))) ∷ w) ≢ stuck → (16384 ≤ x) × (x < 32768)
    go true e b f c d k = absurd (k refl)
    go false e true f c d k = (leb-true _ _ f, leb-false _ _ e)
    go false e false f true d k = absurd (k refl)
    go false e false f false true k = absurd (k refl)
    go false e false f false false k = absurd (k refl)

pub turn-some : (o : ℕ) (p : Pool) (frames : List ℕ) (n : ℕ) → turn_left o (p, words_in frames n) ≢ stuck → (0 < n) × (16384 ≤ get_or frames (n - 1) 0) × (get_or frames (n - 1) 0 < 32768)
unfolding turn_left words_in
turn-some o p frames zero h = absurd (h refl)
turn-some o p frames (suc n) h = let e : suc n - 1 ≡ n = omega arith in let (a, b) = turn-word o p (get_or frames n 0) (words_in frames n) h in rw e (omega arith, a, b)

module _ {lim : Limits} {terms runs frames : List ℕ} {n : ℕ} (Z : Standing lim terms runs frames n) (o : ℕ) where
  pub turn-steps : (0 < n) × (16384 ≤ get_or frames (n - 1) 0) × (get_or frames (n - 1) 0 < 32768) → (frames' : List ℕ) → frames' ≡ set frames (n - 1) (get_or frames (n - 1) 0 + (o + 1) * 16384) → (b : ℕ) → n ≤ b
      → Steps lim terms runs terms runs frames' b (turn_left o (pool_of terms runs, words_in frames n)) (Some n)
  unfolding turn_left WordsBelow
  turn-steps (h, k, l) frames' q b m =
      let e : n - 1 + 1 ≡ n = omega arith in
      let y = get_or frames (n - 1) 0 + (o + 1) * 16384 in
      let a : (get_or frames (n - 1) 0 + (o + 1) * 16384) % 16384 ≡ get_or frames (n - 1) 0 - 16384 = omega arith in
      let d : (get_or frames (n - 1) 0 + (o + 1) * 16384) / 16384 - 2 ≡ o = omega arith in
      let v : words_in frames n ≡ child (get_or frames (n - 1) 0 - 16384) ∷ words_in frames (n - 1) = words-top frames n h ∙ ap (λ (x : Word). x ∷ words_in frames (n - 1)) (word-child (get_or frames (n - 1) 0) k l) in
      let w : words_in frames' n ≡ left_child (get_or frames (n - 1) 0 - 16384) o ∷ words_in frames (n - 1) = ap (λ (f : List ℕ). words_in f n) q ∙ ap (words_in (set frames (n - 1) (get_or frames (n - 1) 0 + (o + 1) * 16384))) (sym e) ∙ words-push frames (n - 1) (get_or frames (n - 1) 0 + (o + 1) * 16384) (omega (arith, Z.inside)) ∙ ap (λ (x : Word). x ∷ words_in frames (n - 1)) (word-left (get_or frames (n - 1) 0 + (o + 1) * 16384) (omega arith) ∙ ap₂ left_child a d) in
      let g : WordsBelow (count_in terms) (child (get_or frames (n - 1) 0 - 16384) ∷ words_in frames (n - 1)) = rw v at Z.below in
      rw v (steps-words Z frames' n b (left_child (get_or frames (n - 1) 0 - 16384) o ∷ words_in frames (n - 1)) w (g.0, g.1) (omega (arith, ap length q, length-set frames (n - 1) (get_or frames (n - 1) 0 + (o + 1) * 16384), Z.inside)) m)

-- ---- what is open
pub open-steps : {lim : Limits} {terms runs frames : List ℕ} {n : ℕ} → Standing lim terms runs frames n → n < length frames → (x : ℕ) → WordsBelow (count_in terms) (word_of x ∷ []) → (frames' : List ℕ) → frames' ≡ set frames n x
    → Steps lim terms runs terms runs frames' (n + 1) (whole (pool_of terms runs, word_of x ∷ words_in frames n)) (Some (n + 1))
unfolding WordsBelow
open-steps {lim} {terms} {runs} {frames} {n} Z h x d frames' q =
    steps-words Z frames' (n + 1) (n + 1) (word_of x ∷ words_in frames n) (ap (λ (f : List ℕ). words_in f (n + 1)) q ∙ words-push frames n x h) (d.0, Z.below) (omega (arith, ap length q, length-set frames n x)) (omega arith)

-- ---- an operation with a proper sign of its own and precedence
pub record Level (t : List ℕ) (o : ℕ) : Type 0 where
  pub known : o < operations t
  pub small : o < 64
  pub some : 1 ≤ prec_of t o
  pub most : prec_of t o ≤ 9
  pub long : 9 ≤ length t

pub level-of : (t : List ℕ) (o : ℕ) → proper t o ≡ true → Level t o
unfolding proper
level-of t o e =
    let k : o < operations t = (of-proper t o e).known in
    let (a, b) = (both_true (has_sign t o) _).0 e in
    let (c, d) = (both_true (own t o) _).0 b in
    let (f, g) = (both_true (leb 1 (prec_of t o)) _).0 d in record {
      known = k;
      small = omega arith;
      some = leb-true 1 (prec_of t o) f;
      most = leb-true (prec_of t o) 9 g;
      long = omega arith;
    }

pub literal-small : (t : List ℕ) (v o : ℕ) → proper_mark t (card.literal v o) ≡ true → o < 64
unfolding proper_mark
literal-small t v o e = let h : o ≤ 63 = leb-true o 63 ((both_true (leb v 4294967295) (leb o 63)).0 e).1 in omega arith

-- a list's operation, a bracket, a marked place
pub list_steps : {lim : Limits} {terms runs frames : List ℕ} {n : ℕ} → Standing lim terms runs frames n → n < length frames → (x : ℕ) → x < 64 → (frames' : List ℕ) → frames' ≡ set frames n x
    → Steps lim terms runs terms runs frames' (n + 1) (whole (pool_of terms runs, list_head x ∷ words_in frames n)) (Some (n + 1))
unfolding WordsBelow
list_steps {lim} {terms} {runs} {frames} {n} Z h x k frames' q =
    let e : word_of x ≡ list_head x = rw (lt-leb 32768 x (omega arith), lt-leb 16384 x (omega arith), lt-ltb x 64 k) refl in
    rw (← e) (open-steps Z h x (rw e (tt, tt)) frames' q)
