-- Marks of one byte, and `; `.
use Rattle.std.specs.Prelude.{Some, None, ◌≡◌, true, false, List, [], ◌∷◌, ℕ, suc, ◌+◌, ◌<◌, length, drop}
use Rattle.std.proofs.Math.Path.{refl, sym, ap}
use Rattle.std.proofs.Common.{◌∙◌, drop-cons}
use Rattle.std.proofs.Math.ListN.{get_or}
use borrow.Author.Tests.{ne_eqb}
use Rattle.formula.specs.Card.{next, end, spell_mark, proper_mark}
use Rattle.formula.specs.Lexer.{digit, sign_byte, starts_with, plain_at, mark_at, stands_at}
use Rattle.card_cut.specs.Cutting.{Cuts}
use Rattle.card_cut.specs.declared.Mark.TheVariants as M

module _ (t s : List ℕ) (at : ℕ) (h : at < length s) where
  front : {c : ℕ} → get_or s at 0 ≡ c → drop at s ≡ c ∷ drop (suc at) s
  front e = drop-cons s at 0 h ∙ ap (λ (z : ℕ). z ∷ drop (suc at) s) e

  pub opens-there : get_or s at 0 ≡ 40 → Cuts t s at (Some (M.Opens, at + 1))
  unfolding mark_at stands_at proper_mark spell_mark starts_with
  opens-there e = rw (front e) (refl, refl, refl)

  pub shuts-there : get_or s at 0 ≡ 41 → Cuts t s at (Some (M.Shuts, at + 1))
  unfolding mark_at stands_at proper_mark spell_mark starts_with
  shuts-there e = rw (front e) (refl, refl, refl)

  pub close-there : get_or s at 0 ≡ 93 → Cuts t s at (Some (M.Close, at + 1))
  unfolding mark_at stands_at proper_mark spell_mark starts_with
  close-there e = rw (front e) (refl, refl, refl)

  pub begin-there : get_or s at 0 ≡ 123 → Cuts t s at (Some (M.Begin, at + 1))
  unfolding mark_at stands_at proper_mark spell_mark starts_with
  begin-there e = rw (front e) (refl, refl, refl)

  pub end-there : get_or s at 0 ≡ 125 → Cuts t s at (Some (M.End, at + 1))
  unfolding mark_at stands_at proper_mark spell_mark starts_with
  end-there e = rw (front e) (refl, refl, refl)

  module _ (e : get_or s at 0 ≡ 59) where
    next-mark : mark_at t (drop at s) ≡ next
    unfolding mark_at
    next-mark = ap (mark_at t) (front e)

    pub next-there : true ≡ starts_with (59 ∷ 32 ∷ []) (drop at s) → Cuts t s at (Some (M.Next, at + 2))
    unfolding stands_at proper_mark spell_mark
    next-there p = (rw next-mark (sym p), sym next-mark, rw next-mark refl)

    pub next-missing : false ≡ starts_with (59 ∷ 32 ∷ []) (drop at s) → Cuts t s at None
    unfolding stands_at proper_mark spell_mark
    next-missing p = rw next-mark (sym p)

  -- no byte of a mark
  module _ (d : digit (get_or s at 0) ≡ false) (b : sign_byte (get_or s at 0) ≡ false) (z : get_or s at 0 ≡ 32 → ⊥) where
    pub no-mark : (get_or s at 0 ≡ 40 → ⊥) → (get_or s at 0 ≡ 41 → ⊥) → (get_or s at 0 ≡ 93 → ⊥) → (get_or s at 0 ≡ 123 → ⊥) → (get_or s at 0 ≡ 59 → ⊥) → (get_or s at 0 ≡ 125 → ⊥) → Cuts t s at None
    unfolding mark_at stands_at proper_mark spell_mark starts_with
    no-mark i j k l m n =
        let c = get_or s at 0 in
        let p : plain_at c ≡ end = rw (ne_eqb c 40 i, ne_eqb c 41 j, ne_eqb c 93 k, ne_eqb c 123 l, ne_eqb c 59 m) refl in
        let q : mark_at t (drop at s) ≡ end = ap (mark_at t) (front refl) ∙ (rw (d, b, ne_eqb c 32 z, mark_at) p) in
        rw q (rw (front {c = c} refl, ne_eqb 125 c (λ e. n (sym e)), starts_with) refl)
