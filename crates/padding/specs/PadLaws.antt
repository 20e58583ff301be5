-- Padding after both monomials have been written, for callers of `of_place` and `pad_pair`.
use Rattle.std.specs.Prelude.{◌≡◌, Bool, true, false, List, ℕ, ◌-◌, ◌≤◌, ltb, eqb, length, Option}
use Rattle.std.proofs.Common.{ap, ◌∙◌, arith}
use Rattle.spec.specs.Bytes.{Two, pick}
use Rattle.spec.specs.Image.{NO-IDENTITY}
use Rattle.spec.specs.Monomial.{Monomial, insert_add, total}
use Rattle.monomial_terms.specs.Terms.{terms, held, front}
use Rattle.monomial_terms.specs.TermLaws.{held-is, front-front, grow}
use Rattle.monomial.specs.Places.{Made}
use Rattle.padding.specs.Pad.{levelled, answer_of, Pads, Paddable}

pub levelled-long : (id : ℕ) (A B : Monomial) → length A ≤ length (levelled id A B)
unfolding levelled
levelled-long id A B = step (ltb (total A) (total B)) (eqb id NO-IDENTITY)
  where
    step : (p q : Bool) → length A ≤ length (pick p (pick q A (insert_add id (total B - total A) A)) A)
    step true true = omega arith
    step true false = (grow id (total B - total A) A).0
    step false q = omega arith

-- ---- padding after both monomials have been written
pub paddable : (A B : Monomial) (s u s₁ u₁ : List ℕ) (n m : ℕ) → length s₁ ≡ 130 → length u₁ ≡ 130 → Made A s s₁ n → Made B u u₁ m → Paddable n m s₁ u₁
paddable A B s u s₁ u₁ n m l k a b = record {
  numbers_left = l;
  numbers_right = k;
  few_left = a.few;
  few_right = b.few;
  small_left = rw (held-is A s s₁ n a.holds) a.small;
  small_right = rw (held-is B u u₁ m b.holds) b.small;
}

pub pads-made : (l r id e : ℕ) (A B : Monomial) (s u s₁ u₁ s' u' : List ℕ) (n m : ℕ) (x : Option (ℕ × ℕ)) → id ≡ e → Made A s s₁ n → Made B u u₁ m
    → Pads (answer_of l r id (held n s₁) (held m u₁)) id (held n s₁) (held m u₁) s₁ u₁ s' u' x → Pads (answer_of l r e A B) e A B s u s' u' x
pads-made l r id e A B s u s₁ u₁ s' u' n m x q a b d =
    let c : Pads (answer_of l r e A B) e A B s₁ u₁ s' u' x = rw (held-is A s s₁ n a.holds, held-is B u u₁ m b.holds, q) at d in
    record {
      answer = c.answer;
      rows = c.rows ∙ ap (λ (z : List Two). front (levelled e A B) z) a.holds.whole ∙ front-front A (levelled e A B) (terms s) (levelled-long e A B);
      cols = c.cols ∙ ap (λ (z : List Two). front (levelled e B A) z) b.holds.whole ∙ front-front B (levelled e B A) (terms u) (levelled-long e B A);
      few = c.few;
    }
