-- The pieces of a term's text.
use Rattle.std.specs.Prelude.{◌≡◌, refl, Bool, true, false, List, [], ◌∷◌, ℕ, ◌+◌, ◌*◌, ◌-◌, ◌≤◌, eqb, length, take, drop}
use Rattle.std.proofs.Common.{sym, ap, ◌∙◌, arith, take-take}
use Rattle.spec.specs.Bytes.{pick}
use Rattle.formula.specs.Card.{sign_field, word, sign}
use Rattle.decimals.specs.Writing.{Wrote}

-- ---- one of two pieces
module _ {b : Bool} (x y : List ℕ) where
  pub room-yes : (at n : ℕ) → b ≡ true → at + length (pick b x y) ≤ n → at + length x ≤ n
  room-yes at n e h = rw e at h

  pub room-no : (at n : ℕ) → b ≡ false → at + length (pick b x y) ≤ n → at + length y ≤ n
  room-no at n e h = rw e at h

  pub wrote-yes : {out : List ℕ} {at : ℕ} {out' : List ℕ} {r : ℕ} → b ≡ true → Wrote x out at out' r → Wrote (pick b x y) out at out' r
  wrote-yes e A = rw e A

  pub wrote-no : {out : List ℕ} {at : ℕ} {out' : List ℕ} {r : ℕ} → b ≡ false → Wrote y out at out' r → Wrote (pick b x y) out at out' r
  wrote-no e A = rw e A

-- ---- a sign's bytes stand at the front of its field
word-front : (s : List ℕ) → word s ≡ take (length (word s)) s
unfolding word
word-front [] = refl
word-front (c ∷ s) = go (eqb c 0) refl (word-front s)
  where
    go : (b : Bool) → eqb c 0 ≡ b → word s ≡ take (length (word s)) s → word (c ∷ s) ≡ take (length (word (c ∷ s))) (c ∷ s)
    go true e ih = rw (e, word) refl
    go false e ih = rw (e, word) (ap (λ (z : List ℕ). c ∷ z) ih)

pub sign-bytes : (t : List ℕ) (o : ℕ) {n first : ℕ} → n ≡ length (sign t o) → n ≤ 8 → first ≡ 9 + 9 * o → take (first + n - first) (drop first t) ≡ sign t o
unfolding sign
sign-bytes t o {n = n} {first = first} e h f =
    let z : first + n - first ≡ n = omega arith in
    rw (z, f) (sym (take-take n 8 (drop (9 + 9 * o) t) h) ∙ ap (λ (k : ℕ). take k (sign_field t o)) e ∙ sym (word-front (sign_field t o)))
