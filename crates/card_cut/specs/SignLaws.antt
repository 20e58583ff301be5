-- A sign at a place, and the marks that hold one.
use Rattle.std.specs.Prelude.{Some, None, ◌≡◌, Bool, leb, eqb, get_or, take, drop}
use Rattle.std.proofs.Math.Path.{refl, sym, ap}
use Rattle.std.proofs.Common.{◌∙◌, not-suc-le-zero, add-one, drop-drop}
use Rattle.std.proofs.Math.Bool.{true, false}
use mathlib.Core.List.{List, [], ◌∷◌}
use Prim.Native.Nat.{ℕ, zero, suc, ◌+◌, ◌*◌, ◌-◌, ◌≤◌, ◌<◌}
use native.Mathlib.Omega.{arith}
use Rattle.std.proofs.Math.ListN.{length, length-append, drop_of_length-le}
use Rattle.std.proofs.Math.Seq.{drop-cons}
use borrow.Author.Tests.{leb-true, le-ltb}
use Rattle.spec.specs.Bytes.{pick, both, place, up_from, within}
use Rattle.laws.specs.Buffers.{up-length}
use Rattle.laws.specs.Tests.{both_true, eqb_swap}
use Rattle.pools.specs.PoolIntern.{place-passes}
use Rattle.formula.specs.Card.{operations, sign, prec_of, has_sign, own, proper, binding_of, bindings, list, between, or, spell_mark, proper_mark}
use Rattle.formula.specs.Lexer.{digit, sign_byte, starts_with, operation_at, spaced_at, mark_at, stands_at}
use Rattle.signs.specs.SignLaws.{entry_whole}
use Rattle.sign_judge.specs.SignTests.{behind, sign-slice, bindings-at}
use Rattle.card_cut.specs.Cutting.{Cuts, fits, sign_at}
use Rattle.card_cut.specs.NumberLaws.{starts-append}
use Rattle.card_cut.specs.declared.Mark.TheVariants as M

-- ---- a proper operation has a precedence
module _ (t : List ℕ) (o : ℕ) where
  pub improper : binding_of t o ≡ 0 → proper t o ≡ false
  unfolding proper
  improper e = go (proper t o) refl e
    where
      go : (b : Bool) → proper t o ≡ b → pick b (prec_of t o) 0 ≡ 0 → proper t o ≡ false
      go true p q =
          let (x, y) = (both_true (has_sign t o) _).0 p in
          let (z, w) = (both_true (own t o) (within 1 9 (prec_of t o))).0 y in
          absurd (let l = leb-true 1 (prec_of t o) ((both_true (leb 1 (prec_of t o)) _).0 w).0 in omega arith)
      go false p q = p

  pub is-proper : (binding_of t o ≡ 0 → ⊥) → proper t o ≡ true
  is-proper n = go (proper t o) refl n
    where
      go : (b : Bool) → proper t o ≡ b → (pick b (prec_of t o) 0 ≡ 0 → ⊥) → proper t o ≡ true
      go true p q = p
      go false p q = absurd (q refl)

  pub past : operations t ≤ o → proper t o ≡ false
  unfolding proper has_sign
  past h = rw (le-ltb o (operations t) h) refl

-- the table's bytes of a sign
pub sign_part : (t : List ℕ) (o n : ℕ) → o < operations t → n ≡ length (sign t o) → n ≤ 8 → take (9 + 9 * o + n - (9 + 9 * o)) (drop (9 + 9 * o) t) ≡ sign t o
sign_part t o n h e k =
    let z : 9 + 9 * o + n - (9 + 9 * o) ≡ n = omega arith in
    ap (λ (x : ℕ). take x (drop (9 + 9 * o) t)) z ∙ sym (sign-slice t o n h e k ∙ behind (9 + 9 * o) n t (omega (arith, entry_whole t o h)))

-- what the judge answered
pub judged : (t binds : List ℕ) (o : ℕ) → binds ≡ bindings t → o < operations t → get_or binds o 0 ≡ binding_of t o
judged t binds o e h = ap (λ (z : List ℕ). get_or z o 0) e ∙ bindings-at t o (omega arith)

-- ---- a sign with a byte behind it
module _ (t s : List ℕ) (at o last : ℕ) where
  pub sign-improper : binding_of t o ≡ 0 → false ≡ fits t last (drop at s) o
  sign-improper e = rw (improper t o e) refl

  module _ (n : binding_of t o ≡ 0 → ⊥) where
    parts : fits t last (drop at s) o ≡ both (starts_with (sign t o) (drop at s)) (starts_with (last ∷ []) (drop (at + length (sign t o)) s))
    parts = rw (is-proper t o n) (starts-append (sign t o) (last ∷ []) (drop at s) ∙ ap (λ (z : List ℕ). both (starts_with (sign t o) (drop at s)) (starts_with (last ∷ []) z)) (drop-drop (length (sign t o)) at s))

    pub sign-missing : false ≡ starts_with (sign t o) (drop at s) → false ≡ fits t last (drop at s) o
    sign-missing e = sym (parts ∙ (rw (← e) refl))

    module _ (e : true ≡ starts_with (sign t o) (drop at s)) where
      pub sign-ends : at + length (sign t o) ≡ length s → false ≡ fits t last (drop at s) o
      unfolding starts_with
      sign-ends k = let l : length s ≤ at + length (sign t o) = omega arith in sym (parts ∙ (rw (← e, drop_of_length-le s l) refl))

      pub sign-last : at + length (sign t o) < length s → eqb (get_or s (at + length (sign t o)) 0) last ≡ fits t last (drop at s) o
      unfolding starts_with
      sign-last k = sym (parts ∙ (rw (← e, drop-cons s (at + length (sign t o)) 0 k) (same (eqb last (get_or s (at + length (sign t o)) 0)) ∙ eqb_swap last (get_or s (at + length (sign t o)) 0))))
        where
          same : (b : Bool) → (elim b [ true ↦ true | false ↦ false ]) ≡ b
          same true = refl
          same false = refl

-- ---- the first one
pub place-start : (f : ℕ → Bool) (n m : ℕ) → n ≡ m → place f (up_from 0 m) ≡ 0 + place f (up_from 0 (n - 0))
place-start f n m e = let z : n - 0 ≡ m = omega arith in rw z (omega arith)

module _ (f : ℕ → Bool) (n o : ℕ) where
  pub place_none : n ≤ o → place f (up_from o (n - o)) ≡ 0
  unfolding place up_from
  place_none h = let z : n - o ≡ 0 = omega arith in rw z refl

  module _ (h : o < n) where
    pub place_here : f o ≡ true → place f (up_from o (n - o)) ≡ 0
    unfolding place up_from
    place_here e = let z : n - o ≡ suc (n - (o + 1)) = omega arith in rw (z, e, up_from, place) refl

    pub place-later : f o ≡ false → place f (up_from o (n - o)) ≡ suc (place f (up_from (o + 1) (n - (o + 1))))
    unfolding place up_from
    place-later e = let z : n - o ≡ suc (n - (o + 1)) = omega arith in rw (z, e, up_from, place) (rw (add-one o) refl)

up_at : (n a k : ℕ) → k < n → get_or (up_from a n) k 0 ≡ a + k
unfolding up_from
up_at zero a k h = absurd (not-suc-le-zero h)
up_at (suc n) a zero h = omega arith
up_at (suc n) a (suc k) h = let z = up_at n (suc a) k (omega arith) in z ∙ (omega arith)

-- what is found passes
found : (f : ℕ → Bool) (n : ℕ) → place f (up_from 0 n) < n → f (place f (up_from 0 n)) ≡ true
found f n h =
    let k = place f (up_from 0 n) in
    let e : get_or (up_from 0 n) k 0 ≡ k = up_at n 0 k h ∙ (omega arith) in
    sym (ap f e) ∙ place-passes f 0 (up_from 0 n) (omega (arith, h, up-length n 0))

module _ (t s : List ℕ) (at last o : ℕ) (e : o ≡ sign_at t last (drop at s)) (h : o < operations t) where
  pub found-fits : fits t last (drop at s) o ≡ true
  found-fits = rw e (found (fits t last (drop at s)) (operations t) (rw (← e) h))

-- ---- an operation's sign and `[`
module _ (t s : List ℕ) (at o : ℕ) (h : at < length s) (d : digit (get_or s at 0) ≡ false) (b : sign_byte (get_or s at 0) ≡ true) (e : o ≡ sign_at t 91 (drop at s)) where
  list-mark : mark_at t (drop at s) ≡ list o
  unfolding mark_at operation_at spell_mark
  list-mark = let z = drop-cons s at 0 h in ap (mark_at t) z ∙ (rw (d, b, mark_at) refl) ∙ ap (λ (x : List ℕ). list (operation_at t list x)) (sym z) ∙ ap list (sym e)

  pub list-there : o < operations t → (n : ℕ) → n ≡ length (sign t o) → Cuts t s at (Some (M.List o, at + n + 1))
  unfolding stands_at proper_mark spell_mark
  list-there l n k = (rw list-mark (found-fits t s at 91 o e l), sym list-mark, rw list-mark (omega (arith, length-append (sign t o) (91 ∷ []))))

  pub list-missing : operations t ≤ o → Cuts t s at None
  unfolding stands_at proper_mark
  list-missing l = rw (list-mark, past t o l) refl

-- ---- ` | `, or an operation's sign between spaces
module _ (t s : List ℕ) (at : ℕ) (h : at < length s) (c : get_or s at 0 ≡ 32) where
  spaced : drop at s ≡ 32 ∷ drop (at + 1) s
  spaced = drop-cons s at 0 h ∙ (rw (c, add-one at) refl)

  spaced-mark : mark_at t (drop at s) ≡ spaced_at t (drop at s)
  unfolding mark_at
  spaced-mark = ap (mark_at t) spaced ∙ ap (spaced_at t) (sym spaced)

  pub or-there : true ≡ starts_with (32 ∷ 124 ∷ 32 ∷ []) (drop at s) → Cuts t s at (Some (M.Or, at + 3))
  unfolding spaced_at stands_at proper_mark spell_mark
  or-there e = let m : mark_at t (drop at s) ≡ or = spaced-mark ∙ (rw (← e, spaced_at) refl) in (rw m (sym e), sym m, rw m refl)

  module _ (p : false ≡ starts_with (32 ∷ 124 ∷ 32 ∷ []) (drop at s)) (o : ℕ) (e : o ≡ sign_at t 32 (drop (at + 1) s)) where
    between-mark : mark_at t (drop at s) ≡ between o
    unfolding spaced_at operation_at spell_mark starts_with
    between-mark = spaced-mark ∙ (rw (← p, spaced_at) refl) ∙ ap (λ (x : List ℕ). between (operation_at t between x)) spaced ∙ ap between (sym e)

    pub between-there : o < operations t → (n : ℕ) → n ≡ length (sign t o) → Cuts t s at (Some (M.Between o, at + n + 2))
    unfolding stands_at proper_mark spell_mark starts_with
    between-there l n k =
        let f = found-fits t s (at + 1) 32 o e l in
        (ap (λ m. stands_at t m (drop at s)) between-mark ∙ ap (stands_at t (between o)) spaced ∙ f, sym between-mark, rw between-mark (omega (arith, length-append (sign t o) (32 ∷ []))))

    pub between-missing : operations t ≤ o → Cuts t s at None
    unfolding stands_at proper_mark
    between-missing l = rw (between-mark, past t o l) refl
