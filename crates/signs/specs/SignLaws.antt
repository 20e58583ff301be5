-- A sign's bytes one by one, to the first zero or the end of its eight.
use Rattle.std.specs.Prelude.{◌≡◌, ◌≢◌, Bool, true, false, cond, eqb, ltb, Option, Some, None, List, [], ◌∷◌, ℕ, suc, ◌+◌, ◌*◌, ◌≤◌, ◌<◌, get_or, drop}
use Rattle.std.specs.List.{position_or_len, position}
use Rattle.std.specs.Option.{unwrap_or}
use Rattle.std.proofs.Math.Path.{refl}
use Rattle.std.proofs.Common.{sym, ◌∙◌, arith, add-one, length-drop, drop_of_length-le, get_or-take, get_or-drop, length-take-le}
use Rattle.std.proofs.Math.ListN.{length}
use Rattle.std.proofs.Math.Seq.{drop-cons}
use borrow.Author.Tests.{eq-eqb, ne_eqb}
use Rattle.formula.specs.Card.{operations, sign_field, word, sign}

-- the bytes of a sign from place i on
abbrev pub word_from : List ℕ → ℕ → ℕ → List ℕ
word_from t o i = word (drop i (sign_field t o))

-- a sign ends at the first zero
zero-first : (l : List ℕ) → position_or_len (λ c. eqb c 0) l ≡ length (word l)
unfolding word
zero-first [] = refl
zero-first (c ∷ l) = go (eqb c 0) refl (zero-first l)
  where
    go : (b : Bool) → eqb c 0 ≡ b → position_or_len (λ c. eqb c 0) l ≡ length (word l) → position_or_len (λ c. eqb c 0) (c ∷ l) ≡ length (word (c ∷ l))
    go true e h = rw (e, word) refl
    go false e h = rw (e, word) (omega (arith, h))

word-within : (l : List ℕ) → length (word l) ≤ length l
unfolding word
word-within [] = omega arith
word-within (c ∷ l) = go (eqb c 0) refl (word-within l)
  where
    go : (b : Bool) → eqb c 0 ≡ b → length (word l) ≤ length l → length (word (c ∷ l)) ≤ length (c ∷ l)
    go true e h = rw (e, word) (omega arith)
    go false e h = rw (e, word) (omega (arith, h))

module _ (t : List ℕ) (o : ℕ) (h : o < operations t) where
  -- an entry is whole
  pub entry_whole : 18 + 9 * o ≤ length t
  entry_whole = omega arith

  field-length : length (sign_field t o) ≡ 8
  field-length = length-take-le 8 (drop (9 + 9 * o) t) (omega (arith, length-drop (9 + 9 * o) t, entry_whole))

  field_at : (i : ℕ) → i < 8 → get_or (sign_field t o) i 0 ≡ get_or t (9 + 9 * o + i) 0
  field_at i k = get_or-take 8 (drop (9 + 9 * o) t) i 0 k ∙ get_or-drop (9 + 9 * o) t i 0

  pub word-stop : (i : ℕ) → i < 8 → get_or t (9 + 9 * o + i) 0 ≡ 0 → length (word_from t o i) ≡ 0
  unfolding word
  word-stop i k e = let l : i < length (sign_field t o) = omega (arith, field-length) in rw (drop-cons (sign_field t o) i 0 l, eq-eqb (get_or (sign_field t o) i 0) 0 (field_at i k ∙ e), word) refl

  pub word_more : (i : ℕ) → i < 8 → get_or t (9 + 9 * o + i) 0 ≢ 0 → length (word_from t o i) ≡ suc (length (word_from t o (i + 1)))
  unfolding word
  word_more i k e =
      let l : i < length (sign_field t o) = omega (arith, field-length) in
      rw (add-one i, drop-cons (sign_field t o) i 0 l, ne_eqb (get_or (sign_field t o) i 0) 0 (λ z. e (sym (field_at i k) ∙ z)), word) refl

  pub word_end : length (word_from t o 8) ≡ 0
  unfolding word
  word_end = let l : length (sign_field t o) ≤ 8 = omega (arith, field-length) in rw (drop_of_length-le (sign_field t o) l) refl

  -- the place of the first zero among the eight bytes, 8 where there is none
  pub first-zero : (r : Option ℕ) → r ≡ position (λ c. eqb c 0) (sign_field t o) → (unwrap_or r 8 ≡ length (sign t o)) × (unwrap_or r 8 ≤ 8)
  unfolding sign
  first-zero r e =
      let f = sign_field t o in
      let z = zero-first f in
      let w : length (word f) ≤ 8 = omega (arith, word-within f, field-length) in
      rw (e, z) (go (ltb (length (word f)) (length f)) refl w)
    where
      go : (b : Bool) → ltb (length (word (sign_field t o))) (length (sign_field t o)) ≡ b → length (word (sign_field t o)) ≤ 8 → (unwrap_or (cond (ltb (length (word (sign_field t o))) (length (sign_field t o))) (Some (length (word (sign_field t o)))) None) 8 ≡ length (word (sign_field t o))) × (unwrap_or (cond (ltb (length (word (sign_field t o))) (length (sign_field t o))) (Some (length (word (sign_field t o)))) None) 8 ≤ 8)
      go true e h = rw e (refl, h)
      go false e h = rw e (grind (arith, field-length), omega arith)
