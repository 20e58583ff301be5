-- Laws of the pass: the stack of frames, and one mark.
use Rattle.std.specs.Prelude.{◌≡◌, refl, ◌⊎◌, Bool, true, false, List, [], ◌∷◌, map, ℕ, zero, suc, ◌+◌, ◌-◌, ◌≤◌, ◌<◌, min, eqb, length, get_or, set}
use Rattle.std.proofs.Common.{sym, ap, ◌∙◌, inl, inr, arith, add-one, get_or-set_same, get_or-set_other, le-leb, eq-eqb, ne_eqb}
use Rattle.std.proofs.lemmas.Bool.{lt-leb}
use Rattle.spec.specs.Bytes.{pick, either}
use Rattle.laws.specs.Tests.{clash}
use Rattle.formula.specs.Card.{Mark, literal, between, list, next, close, opens, shuts, begin, or, end}
use Rattle.formula_laws.specs.Syntax.{Open, aBracket, items, choices, Phase, wanted, done, failed, next_open, close_open, or_open, end_open, shut_open, begins, freshly, follows, pass}
use Rattle.card_syntax.specs.Passing.{is_close, frame_of, stack, Stacked, Passes, Room, popped, more, counted}
use Rattle.card_syntax.specs.declared.Pass.{Pass}
use Rattle.card_syntax.specs.declared.Pass.TheVariants as P

-- ---- the stack
stack_set : (f : List ℕ) (i x n : ℕ) → n ≤ i → stack (set f i x) n ≡ stack f n
unfolding stack
stack_set f i x zero h = refl
stack_set f i x (suc n) h = rw (get_or-set_other f i n x 0 (λ e. omega arith), stack_set f i x n (omega arith)) refl

-- pushed
pub pushed : (f : List ℕ) (n x : ℕ) (o : Open) (k : List Open) → n < length f → frame_of o ≡ x → Stacked f n k → Stacked (set f n x) (n + 1) (o ∷ k)
unfolding stack
pushed f n x o k h e S = record { numbers = rw (add-one n, get_or-set_same f n x 0 h, stack_set f n x n (omega arith), e, S.numbers) refl }

-- the top frame, and what is below it
pub record Top (f : List ℕ) (n : ℕ) (k : List Open) : Type 0 where
  pub frame : Open
  pub rest : List Open
  pub is : k ≡ frame ∷ rest
  pub number : get_or f (n - 1) 0 ≡ frame_of frame
  pub below : Stacked f (n - 1) rest

none_open : (f : List ℕ) (n : ℕ) (k : List Open) → n ≡ 0 → Stacked f n k → k ≡ []
unfolding stack
none_open f n [] e S = refl
none_open f n (o ∷ k) e S = absurd (let z : frame_of o ∷ map frame_of k ≡ [] = rw e at S.numbers in let y : ◌≡◌ {A = ℕ} 0 1 = cc in omega arith)

pub topmost : (f : List ℕ) (n : ℕ) (k : List Open) → (n ≡ 0 → ⊥) → Stacked f n k → Top f n k
unfolding stack
topmost f zero k h S = absurd (h refl)
topmost f (suc n) [] h S = absurd (let y : ◌≡◌ {A = ℕ} 0 1 = cc S.numbers in omega arith)
topmost f (suc n) (o ∷ k) h S =
    let z : suc n - 1 ≡ n = omega arith in
    record { frame = o; rest = k; is = refl; number = rw z (cc S.numbers); below = record { numbers = rw z (cc S.numbers) } }

-- the last byte was read: is anything open?
pub any_open : (f : List ℕ) (n : ℕ) (k : List Open) → Stacked f n k → (n ≡ 0 → k ≡ []) × ((n ≡ 0 → ⊥) → (o : Open) × (r : List Open) × (k ≡ o ∷ r))
any_open f n k S = (λ e. none_open f n k e S, λ h. let t = topmost f n k h S in (t.frame, t.rest, t.is))

-- ---- a frame closed
module _ (f : List ℕ) (n a b : ℕ) (k : List Open) (S : Stacked f n k) where
  pub pop-none : n ≡ 0 → Passes f P.Failed (popped a b k)
  pop-none e = ap (popped a b) (none_open f n k e S)

  module _ (h : n ≡ 0 → ⊥) where
    pub pop-first : get_or f (n - 1) 0 ≡ a → Passes f (P.Done (n - 1)) (popped a b k)
    pop-first e = let t = topmost f n k h S in (t.rest, ap (popped a b) t.is ∙ (rw (eq-eqb (frame_of t.frame) a (sym t.number ∙ e)) refl), t.below)

    pub pop-second : get_or f (n - 1) 0 ≡ b → Passes f (P.Done (n - 1)) (popped a b k)
    pop-second e =
        let t = topmost f n k h S in
        (t.rest, ap (popped a b) t.is ∙ (rw (eq-eqb (frame_of t.frame) b (sym t.number ∙ e)) (go (eqb (frame_of t.frame) a) t.rest)), t.below)
      where
        go : (x : Bool) (r : List Open) → pick (either x true) (done r) failed ≡ done r
        go true r = refl
        go false r = refl

    pub pop-other : (get_or f (n - 1) 0 ≡ a → ⊥) → (get_or f (n - 1) 0 ≡ b → ⊥) → Passes f P.Failed (popped a b k)
    pop-other d e =
        let t = topmost f n k h S in
        ap (popped a b) t.is ∙ (rw (ne_eqb (frame_of t.frame) a (λ z. d (t.number ∙ z)), ne_eqb (frame_of t.frame) b (λ z. e (t.number ∙ z))) refl)

-- `]`, `)` and `}`
pub pop-close : (k : List Open) → popped 1 3 k ≡ close_open k
unfolding close_open
pop-close [] = refl
pop-close (aBracket ∷ k) = refl
pop-close (items zero ∷ k) = refl
pop-close (items (suc zero) ∷ k) = refl
pop-close (items (suc (suc n)) ∷ k) = let z : 1 + min (suc (suc n)) 2 ≡ 3 = omega arith in rw (z, ne_eqb (suc (suc (suc n))) 2 (λ e. omega arith)) refl
pop-close (choices n ∷ k) = rw (ne_eqb (4 + min n 2) 1 (λ e. omega arith), ne_eqb (4 + min n 2) 3 (λ e. omega arith)) refl

pub pop-shut : (k : List Open) → popped 0 0 k ≡ shut_open k
unfolding shut_open
pop-shut [] = refl
pop-shut (aBracket ∷ k) = refl
pop-shut (items n ∷ k) = rw (ne_eqb (1 + min n 2) 0 (λ e. omega arith)) refl
pop-shut (choices n ∷ k) = rw (ne_eqb (4 + min n 2) 0 (λ e. omega arith)) refl

pub pop-end : (k : List Open) → popped 5 5 k ≡ end_open k
unfolding end_open
pop-end [] = refl
pop-end (aBracket ∷ k) = refl
pop-end (items n ∷ k) = rw (ne_eqb (1 + min n 2) 5 (λ e. omega arith)) refl
pop-end (choices zero ∷ k) = refl
pop-end (choices (suc zero) ∷ k) = refl
pop-end (choices (suc (suc n)) ∷ k) =
    let z : 4 + min (suc (suc n)) 2 ≡ 6 = omega arith in
    rw (z, le-leb 2 (suc (suc (suc n))) (omega arith), lt-leb (suc (suc (suc n))) 2 (omega arith)) refl

-- ---- a child more
-- its number: one more, up to 2 above the lowest
more-number : (low : ℕ) → (low ≡ 1) ⊎ (low ≡ 4) → (o : Open) → low ≤ frame_of o → frame_of o ≤ low + 2 → frame_of (more o) ≡ min (frame_of o + 1) (low + 2)
more-number low (inl e) aBracket h k = absurd (omega arith)
more-number low (inl e) (items n) h k = omega arith
more-number low (inl e) (choices n) h k = absurd (omega arith)
more-number low (inr e) aBracket h k = absurd (omega arith)
more-number low (inr e) (items n) h k = absurd (omega arith)
more-number low (inr e) (choices n) h k = omega arith

module _ (f : List ℕ) (n low : ℕ) (k : List Open) (S : Stacked f n k) where
  pub count_none : n ≡ 0 → Passes f P.Failed (counted low k)
  count_none e = ap (counted low) (none_open f n k e S)

  module _ (h : n ≡ 0 → ⊥) where
    pub count-below : get_or f (n - 1) 0 < low → Passes f P.Failed (counted low k)
    count-below l = let t = topmost f n k h S in ap (counted low) t.is ∙ (rw (lt-leb low (frame_of t.frame) (omega (arith, t.number))) refl)

    module _ (l : low ≤ get_or f (n - 1) 0) where
      pub count-above : 2 < get_or f (n - 1) 0 - low → Passes f P.Failed (counted low k)
      count-above m =
          let t = topmost f n k h S in
          ap (counted low) t.is ∙ (rw (le-leb low (frame_of t.frame) (omega (arith, t.number)), lt-leb (frame_of t.frame) (low + 2) (omega (arith, t.number))) refl)

      module _ (w : (low ≡ 1) ⊎ (low ≡ 4)) where
        one_more : (m : get_or f (n - 1) 0 - low ≤ 2) (t : Top f n k) → counted low k ≡ wanted (more t.frame ∷ t.rest)
        one_more m t = ap (counted low) t.is ∙ (rw (le-leb low (frame_of t.frame) (omega (arith, t.number)), le-leb (frame_of t.frame) (low + 2) (omega (arith, t.number))) refl)

        pub count_most : get_or f (n - 1) 0 - low ≡ 2 → Passes f (P.Wanted n) (counted low k)
        unfolding stack
        count_most m =
            let t = topmost f n k h S in
            let e = more-number low w t.frame (omega (arith, t.number)) (omega (arith, t.number)) in
            let same : frame_of (more t.frame) ≡ frame_of t.frame = omega (arith, t.number) in
            (more t.frame ∷ t.rest, one_more (omega arith) t, record { numbers = rw same (sym (ap (map frame_of) t.is) ∙ S.numbers) })

        pub count-more : get_or f (n - 1) 0 - low < 2 → n ≤ length f → Passes (set f (n - 1) (get_or f (n - 1) 0 + 1)) (P.Wanted n) (counted low k)
        count-more m q =
            let t = topmost f n k h S in
            let e = more-number low w t.frame (omega (arith, t.number)) (omega (arith, t.number)) in
            let z : n - 1 + 1 ≡ n = omega arith in
            let p = pushed f (n - 1) (get_or f (n - 1) 0 + 1) (more t.frame) t.rest (omega arith) (omega (arith, t.number)) t.below in
            (more t.frame ∷ t.rest, one_more (omega arith) t, rw z at p)

-- `; ` and ` | `
pub count_next : (k : List Open) → counted 1 k ≡ next_open k
unfolding next_open
count_next [] = refl
count_next (aBracket ∷ k) = refl
count_next (items n ∷ k) = rw (le-leb 1 (1 + min n 2) (omega arith), le-leb (1 + min n 2) 3 (omega arith)) refl
count_next (choices n ∷ k) = rw (le-leb 1 (4 + min n 2) (omega arith), lt-leb (4 + min n 2) 3 (omega arith)) refl

pub count-or : (k : List Open) → counted 4 k ≡ or_open k
unfolding or_open
count-or [] = refl
count-or (aBracket ∷ k) = refl
count-or (items n ∷ k) = rw (lt-leb 4 (1 + min n 2) (omega arith)) refl
count-or (choices n ∷ k) = rw (le-leb 4 (4 + min n 2) (omega arith), le-leb (4 + min n 2) 6 (omega arith)) refl

-- ---- right behind `[`
pub closes-at-once : (k : List Open) (c : Mark) → true ≡ is_close c → freshly k c ≡ done k
unfolding freshly
closes-at-once k (literal v o) e = absurd (clash e)
closes-at-once k (between o) e = absurd (clash e)
closes-at-once k (list o) e = absurd (clash e)
closes-at-once k next e = absurd (clash e)
closes-at-once k close e = refl
closes-at-once k opens e = absurd (clash e)
closes-at-once k shuts e = absurd (clash e)
closes-at-once k begin e = absurd (clash e)
closes-at-once k or e = absurd (clash e)
closes-at-once k end e = absurd (clash e)

pub begins-freshly : (k : List Open) (c : Mark) → false ≡ is_close c → freshly k c ≡ begins (items 0 ∷ k) c
unfolding freshly
begins-freshly k (literal v o) e = refl
begins-freshly k (between o) e = refl
begins-freshly k (list o) e = refl
begins-freshly k next e = refl
begins-freshly k close e = absurd (clash (sym e))
begins-freshly k opens e = refl
begins-freshly k shuts e = refl
begins-freshly k begin e = refl
begins-freshly k or e = refl
begins-freshly k end e = refl

-- ---- room
pub room-more : (p : Pass) {b c : ℕ} → b ≤ c → Room b p → Room c p
room-more (P.Fresh n) h r = omega arith
room-more (P.Wanted n) h r = omega arith
room-more (P.Done n) h r = omega arith
room-more P.Failed h r = tt

-- ---- one mark
below : (f : List ℕ) (n : ℕ) (o : Open) (k : List Open) → Stacked f n (o ∷ k) → Stacked f (n - 1) k
unfolding stack
below f zero o k S = absurd (let y : ◌≡◌ {A = ℕ} 0 1 = cc S.numbers in omega arith)
below f (suc n) o k S = let z : suc n - 1 ≡ n = omega arith in record { numbers = rw z (cc S.numbers) }

module _ (f : List ℕ) (n : ℕ) (c : Mark) where
  pub step-closes : true ≡ is_close c → (u : Phase) → Passes f (P.Fresh n) u → Passes f (P.Done (n - 1)) (pass u c)
  unfolding pass
  step-closes h u (k, e, S) = (k, rw e (closes-at-once k c h), below f n (items 0) k S)

  module _ (f' : List ℕ) (r : Pass) where
    pub step-freshly : false ≡ is_close c → ((k : List Open) → Stacked f n k → Passes f' r (begins k c)) → (u : Phase) → Passes f (P.Fresh n) u → Passes f' r (pass u c)
    unfolding pass
    step-freshly h g u (k, e, S) = rw (e, begins-freshly k c h) (g (items 0 ∷ k) S)

    pub step-begins : ((k : List Open) → Stacked f n k → Passes f' r (begins k c)) → (u : Phase) → Passes f (P.Wanted n) u → Passes f' r (pass u c)
    unfolding pass
    step-begins g u (k, e, S) = rw e (g k S)

    pub step_follows : ((k : List Open) → Stacked f n k → Passes f' r (follows k c)) → (u : Phase) → Passes f (P.Done n) u → Passes f' r (pass u c)
    unfolding pass
    step_follows g u (k, e, S) = rw e (g k S)

pub step-fails : (u : Phase) (c : Mark) → u ≡ failed → pass u c ≡ failed
unfolding pass
step-fails u c e = rw e refl
