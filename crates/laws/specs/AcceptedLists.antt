-- Tests on lists and what they say: `all`, `any`, spans that follow one another, an order that does not fall, and entries by their index.
use Rattle.std.specs.Prelude.{◌≡◌, refl, Bool, true, false, List, [], ◌∷◌, map, ℕ, zero, suc, ◌+◌, ◌≤◌, ◌<◌, leb, eqb, length, get_or, take}
use Rattle.std.proofs.Common.{sym, ◌∙◌, inl, inr, suc-le-suc, zero-le, not-suc-le-zero, le_of_suc-le-suc, arith, leb-true, eqb-true, le-leb, eq-eqb}
use Rattle.spec.specs.Bytes.{both, either, all, any, sum, Two}
use Rattle.spec.specs.Image.{spans_follow, rises}
use Rattle.spec.specs.Meaning.{In, here, there}
use Rattle.laws.specs.Tests.{both_true, clash, either_true}

if-both : (b a : Bool) → elim b [ true ↦ a | false ↦ false ] ≡ both b a
if-both true a = refl
if-both false a = refl

if-either : (b a : Bool) → elim b [ true ↦ true | false ↦ a ] ≡ either b a
if-either true a = refl
if-either false a = refl

-- ---- entries by their index
pub in-at : {A : Type 0} (l : List A) (i : ℕ) (d : A) → i < length l → In (get_or l i d) l
in-at [] i d h = absurd (not-suc-le-zero h)
in-at (x ∷ l) zero d h = here
in-at (x ∷ l) (suc i) d h = there (in-at l i d (le_of_suc-le-suc h))

pub at_in : {A : Type 0} {x : A} {l : List A} (d : A) → In x l → (i : ℕ) × (i < length l) × (get_or l i d ≡ x)
at_in d here = (0, suc-le-suc zero-le, refl)
at_in d (there p) = let (i, h, e) = at_in d p in (suc i, suc-le-suc h, e)

pub no-entry : {A : Type 0} {x : A} → In x [] → ⊥
no-entry p = elim p [ ]

-- ---- all, any
pub all_cons : {A : Type 0} (p : A → Bool) (x : A) (l : List A) → all p (x ∷ l) ≡ both (p x) (all p l)
unfolding all
all_cons p x l = if-both (p x) (all p l)

pub any-cons : {A : Type 0} (p : A → Bool) (x : A) (l : List A) → any p (x ∷ l) ≡ either (p x) (any p l)
unfolding any
any-cons p x l = if-either (p x) (any p l)

pub all_in : {A : Type 0} (p : A → Bool) (l : List A) → all p l ≡ true → (x : A) → In x l → p x ≡ true
all_in p [] e x i = absurd (no-entry i)
all_in p (y ∷ l) e x here = ((both_true (p y) (all p l)).0 (sym (all_cons p y l) ∙ e)).0
all_in p (y ∷ l) e x (there i) = all_in p l ((both_true (p y) (all p l)).0 (sym (all_cons p y l) ∙ e)).1 x i

pub all_of : {A : Type 0} (p : A → Bool) (l : List A) → ((x : A) → In x l → p x ≡ true) → all p l ≡ true
unfolding all
all_of p [] h = refl
all_of p (y ∷ l) h = all_cons p y l ∙ (both_true (p y) (all p l)).1 (h y here, all_of p l (λ x i. h x (there i)))

pub all-at : {A : Type 0} (p : A → Bool) (l : List A) (d : A) → all p l ≡ true → (i : ℕ) → i < length l → p (get_or l i d) ≡ true
all-at p l d e i h = all_in p l e (get_or l i d) (in-at l i d h)

pub all_from : {A : Type 0} (p : A → Bool) (l : List A) (d : A) → ((i : ℕ) → i < length l → p (get_or l i d) ≡ true) → all p l ≡ true
all_from p l d h = all_of p l (λ x i. let (k, b, e) = at_in d i in rw e at (h k b))

pub any-in : {A : Type 0} (p : A → Bool) (l : List A) → any p l ≡ true → (x : A) × In x l × (p x ≡ true)
unfolding any
any-in p [] e = absurd (clash (sym e))
any-in p (y ∷ l) e =
    elim ((either_true (p y) (any p l)).0 (sym (any-cons p y l) ∙ e)) [
      | inl q ↦ (y, here, q)
      | inr q ↦ let (x, i, r) = any-in p l q in (x, there i, r)
    ]

pub any_of : {A : Type 0} (p : A → Bool) (l : List A) (x : A) → In x l → p x ≡ true → any p l ≡ true
any_of p [] x i e = absurd (no-entry i)
any_of p (y ∷ l) x here e = any-cons p y l ∙ (either_true (p y) (any p l)).1 (inl e)
any_of p (y ∷ l) x (there i) e = any-cons p y l ∙ (either_true (p y) (any p l)).1 (inr (any_of p l x i e))

-- ---- spans that follow one another from `at` to `end`
pub follow-cons : (end at : ℕ) (s : Two) (l : List Two) → spans_follow end at (s ∷ l) ≡ both (eqb s.0 at) (spans_follow end (at + s.1) l)
unfolding spans_follow
follow-cons end at s l = if-both (eqb s.0 at) (spans_follow end (at + s.1) l)

-- each begins where the earlier ones end, and the last ends at `end`
abbrev pub Follows : ℕ → ℕ → List Two → Type 0
Follows end at l =
    ((i : ℕ) → i < length l → (get_or l i (0, 0)).0 ≡ at + sum (take i (map (λ s. s.1) l)))
    × (at + sum (map (λ s. s.1) l) ≡ end)

pub follow-said : (end at : ℕ) (l : List Two) → spans_follow end at l ≡ true → Follows end at l
unfolding spans_follow sum
follow-said end at [] e = (λ i h. absurd (not-suc-le-zero h), omega (arith, eqb-true at end e))
follow-said end at (s ∷ l) e =
    let (q, r) = (both_true (eqb s.0 at) (spans_follow end (at + s.1) l)).0 (sym (follow-cons end at s l) ∙ e) in
    let (b, f) = follow-said end (at + s.1) l r in (begins (eqb-true s.0 at q) b, omega (arith, f))
  where
    begins : s.0 ≡ at → ((i : ℕ) → i < length l → (get_or l i (0, 0)).0 ≡ at + s.1 + sum (take i (map (λ s. s.1) l)))
        → (i : ℕ) → i < length (s ∷ l) → (get_or (s ∷ l) i (0, 0)).0 ≡ at + sum (take i (map (λ s. s.1) (s ∷ l)))
    begins q b zero h = omega arith
    begins q b (suc i) h = omega (arith, b i (le_of_suc-le-suc h))

pub follow-test : (end at : ℕ) (l : List Two) → Follows end at l → spans_follow end at l ≡ true
unfolding spans_follow sum
follow-test end at [] h = eq-eqb at end (omega (arith, h.1))
follow-test end at (s ∷ l) h =
    follow-cons end at s l
    ∙ (both_true (eqb s.0 at) (spans_follow end (at + s.1) l)).1 (
      eq-eqb s.0 at (omega (arith, h.0 0 (suc-le-suc zero-le))),
      follow-test end (at + s.1) l (λ i b. omega (arith, h.0 (suc i) (suc-le-suc b)), omega (arith, h.1)),
    )

-- ---- an order that does not fall
pub rises-cons : (x y : ℕ) (l : List ℕ) → rises (x ∷ y ∷ l) ≡ both (leb x y) (rises (y ∷ l))
unfolding rises
rises-cons x y l = if-both (leb x y) (rises (y ∷ l))

pub rises-said : (l : List ℕ) → rises l ≡ true → (i : ℕ) → suc i < length l → get_or l i 0 ≤ get_or l (suc i) 0
rises-said [] e i h = absurd (not-suc-le-zero h)
rises-said (x ∷ []) e i h = absurd (not-suc-le-zero (le_of_suc-le-suc h))
rises-said (x ∷ y ∷ l) e zero h = leb-true x y ((both_true (leb x y) (rises (y ∷ l))).0 (sym (rises-cons x y l) ∙ e)).0
rises-said (x ∷ y ∷ l) e (suc i) h =
    rises-said (y ∷ l) ((both_true (leb x y) (rises (y ∷ l))).0 (sym (rises-cons x y l) ∙ e)).1 i (le_of_suc-le-suc h)

pub rises-test : (l : List ℕ) → ((i : ℕ) → suc i < length l → get_or l i 0 ≤ get_or l (suc i) 0) → rises l ≡ true
unfolding rises
rises-test [] h = refl
rises-test (x ∷ []) h = refl
rises-test (x ∷ y ∷ l) h =
    rises-cons x y l
    ∙ (both_true (leb x y) (rises (y ∷ l))).1 (
      le-leb x y (h 0 (suc-le-suc (suc-le-suc zero-le))),
      rises-test (y ∷ l) (λ i b. h (suc i) (suc-le-suc b)),
    )
