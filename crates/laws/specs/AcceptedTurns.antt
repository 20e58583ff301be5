-- The tests of the rules, one entry at a time: what is left of a table from entry i on, for each way out of a turn.
use Rattle.std.specs.Prelude.{◌≡◌, Bool, true, false, not, List, [], ◌∷◌, ◌++◌, map, ℕ, suc, ◌+◌, ◌≤◌, ◌<◌, eqb, length, get_or, take, drop}
use Rattle.std.proofs.Math.Path.{refl}
use Rattle.std.proofs.Common.{sym, ap, ◌∙◌, zero-le, add-one, arith, le-leb, eq-eqb, ne_eqb, eqb-true, drop_of_length-le, take-append-drop, drop-cons, drop-drop}
use Rattle.std.proofs.lemmas.Bool.{lt-leb, not-true, not-false}
use Rattle.spec.specs.Bytes.{both, either, all, any, sum, Two}
use Rattle.spec.specs.Image.{Tables, Class, spans_follow, rises, has_literal}
use Rattle.laws.specs.Tests.{both_true}
use Rattle.laws.specs.AcceptedLists.{all_cons, any-cons, follow-cons, rises-cons}
use Rattle.laws.specs.AcceptedLiterals.{is_literal}

-- what `if !r` says of the test that r answers
pub failed : {r a : Bool} → r ≡ a → not r ≡ true → a ≡ false
failed {r} e n = sym e ∙ not-true r n

pub passed : {r a : Bool} → r ≡ a → not r ≡ false → a ≡ true
passed {r} e n = sym e ∙ not-false r n

module _ {A : Type 0} (p : A → Bool) (l : List A) (i : ℕ) (d : A) (h : i < length l) where
  all-next : all p (drop i l) ≡ both (p (get_or l i d)) (all p (drop (i + 1) l))
  all-next = rw (add-one, drop-cons l i d h) (all_cons p (get_or l i d) (drop (suc i) l))

  pub all_go : p (get_or l i d) ≡ true → all p (drop (i + 1) l) ≡ all p (drop i l)
  all_go e = sym (rw e at all-next)

  pub all-stop : p (get_or l i d) ≡ false → all p (drop i l) ≡ false
  all-stop e = rw e at all-next

  any_next : any p (drop i l) ≡ either (p (get_or l i d)) (any p (drop (i + 1) l))
  any_next = rw (add-one, drop-cons l i d h) (any-cons p (get_or l i d) (drop (suc i) l))

  pub any-go : p (get_or l i d) ≡ false → any p (drop (i + 1) l) ≡ any p (drop i l)
  any-go e = sym (rw e at any_next)

  pub any-stop : p (get_or l i d) ≡ true → any p (drop i l) ≡ true
  any-stop e = rw e at any_next

module _ {A : Type 0} (p : A → Bool) (l : List A) (i : ℕ) (h : length l ≤ i) where
  pub all_end : all p (drop i l) ≡ true
  unfolding all
  all_end = rw (drop_of_length-le l h) refl

  pub any-end : any p (drop i l) ≡ false
  unfolding any
  any-end = rw (drop_of_length-le l h) refl

-- ---- spans
module _ (end at : ℕ) (l : List Two) (i : ℕ) where
  pub follow-go : i < length l → (get_or l i (0, 0)).0 ≡ at → spans_follow end (at + (get_or l i (0, 0)).1) (drop (i + 1) l) ≡ spans_follow end at (drop i l)
  follow-go h e =
      rw (add-one, drop-cons l i (0, 0) h, follow-cons end at (get_or l i (0, 0)) (drop (suc i) l), eq-eqb (get_or l i (0, 0)).0 at e) refl

  pub follow-stop : i < length l → ((get_or l i (0, 0)).0 ≡ at → ⊥) → spans_follow end at (drop i l) ≡ false
  follow-stop h e = rw (drop-cons l i (0, 0) h, follow-cons end at (get_or l i (0, 0)) (drop (suc i) l), ne_eqb (get_or l i (0, 0)).0 at e) refl

  pub follow-end : length l ≤ i → spans_follow end at (drop i l) ≡ eqb at end
  unfolding spans_follow
  follow-end h = rw (drop_of_length-le l h) refl

-- ---- the order of operations, `last` being the one before entry i
module _ (last : ℕ) (l : List ℕ) (i : ℕ) where
  pub rises-go : i < length l → last ≤ get_or l i 0 → rises (get_or l i 0 ∷ drop (i + 1) l) ≡ rises (last ∷ drop i l)
  rises-go h e = rw (add-one, drop-cons l i 0 h, rises-cons last (get_or l i 0) (drop (suc i) l), le-leb last (get_or l i 0) e) refl

  pub rises-stop : i < length l → get_or l i 0 < last → rises (last ∷ drop i l) ≡ false
  rises-stop h e = rw (drop-cons l i 0 h, rises-cons last (get_or l i 0) (drop (suc i) l), lt-leb last (get_or l i 0) e) refl

  pub rises-end : length l ≤ i → rises (last ∷ drop i l) ≡ true
  unfolding rises
  rises-end h = rw (drop_of_length-le l h) refl

pub rises-start : (l : List ℕ) → rises (0 ∷ drop 0 l) ≡ rises l
unfolding rises
rises-start [] = refl
rises-start (x ∷ l) = rw (rises-cons 0 x l, le-leb 0 x zero-le) refl

-- ---- a sum over entries
pub sum-go : {A : Type 0} (f : A → ℕ) (l : List A) (i : ℕ) (d : A) → i < length l
    → sum (map f (drop i l)) ≡ f (get_or l i d) + sum (map f (drop (i + 1) l))
unfolding sum
sum-go f l i d h = rw (add-one, drop-cons l i d h) refl

pub sum-end : {A : Type 0} (f : A → ℕ) (l : List A) (i : ℕ) → length l ≤ i → sum (map f (drop i l)) ≡ 0
unfolding sum
sum-end f l i h = rw (drop_of_length-le l h) refl

-- ---- the literals of the later classes stand in the later members
pub any_append : {A : Type 0} (p : A → Bool) (a b : List A) → any p (a ++ b) ≡ either (any p a) (any p b)
unfolding any
any_append p [] b = refl
any_append p (x ∷ a) b = any-cons p x (a ++ b) ∙ ap (either (p x)) (any_append p a b) ∙ regroup (p x) (any p a) (any p b) ∙ ap (λ (c : Bool). either c (any p b)) (sym (any-cons p x a))
  where
    regroup : (a b c : Bool) → either a (either b c) ≡ either (either a b) c
    regroup true b c = refl
    regroup false b c = refl

pub later-literals : (t : Tables) (v : Two) (at : ℕ) (l : List Class) → spans_follow (length t.members) at (map (λ c. (c.first, c.count)) l) ≡ true
    → any (has_literal t v) l ≡ any (is_literal t v) (drop at t.members)
unfolding any has_literal spans_follow
later-literals t v at [] e = sym (any-end (is_literal t v) t.members at (omega (arith, eqb-true at (length t.members) e)))
later-literals t v at (c ∷ l) e =
    let (q, r) = (both_true (eqb c.first at) _).0 (sym (follow-cons (length t.members) at (c.first, c.count) (map (λ c. (c.first, c.count)) l)) ∙ e) in
    let here : c.first ≡ at = eqb-true c.first at q in
    any-cons (has_literal t v) c l
    ∙ ap (either (has_literal t v c)) (later-literals t v (at + c.count) l r ∙ ap (any (is_literal t v)) (sym (drop-drop c.count at t.members)))
    ∙ ap (λ (k : ℕ). either (any (is_literal t v) (take c.count (drop k t.members))) (any (is_literal t v) (drop c.count (drop at t.members)))) here
    ∙ sym (any_append (is_literal t v) (take c.count (drop at t.members)) (drop c.count (drop at t.members)))
    ∙ ap (any (is_literal t v)) (take-append-drop c.count (drop at t.members))
