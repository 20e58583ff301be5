-- What is cut off is some of the text, and the text's first mark.
use Rattle.std.specs.Prelude.{Some, None, ◌≡◌, false, List, [], ◌∷◌, ℕ, zero, suc, ◌≤◌, ◌<◌, length}
use Rattle.std.proofs.Math.Path.{refl, ap}
use Rattle.std.proofs.Common.{sym, ◌∙◌, arith, length-append, drop_of_length-le, drop-cons}
use Rattle.std.proofs.Math.ListN.{drop}
use Rattle.std.proofs.Math.Seq.{drop-drop}
use Rattle.spec.specs.Bytes.{decimal, ok, refused}
use Rattle.laws.specs.Tests.{both_true}
use Rattle.formula.specs.Card as card
use Rattle.formula.specs.Card.{sign, spell_mark, proper_mark}
use Rattle.formula.specs.Lexer.{mark_at, stands_at, is_nil, before, cut}
use Rattle.text_cut.specs.CutLaws.{word_fits}
use Rattle.card_cut.specs.Cutting.{mark_of, Cuts}
use Rattle.card_cut.specs.declared.Mark.{Mark}

-- no mark is empty
mark-some : (t : List ℕ) (m : card.Mark) → 0 < length (spell_mark t m)
unfolding spell_mark
mark-some t (card.literal v o) = omega (arith, length-append (decimal v) (35 ∷ decimal o))
mark-some t (card.between o) = omega arith
mark-some t (card.list o) = omega (arith, length-append (sign t o) (91 ∷ []))
mark-some t card.next = omega arith
mark-some t card.close = omega arith
mark-some t card.opens = omega arith
mark-some t card.shuts = omega arith
mark-some t card.begin = omega arith
mark-some t card.or = omega arith
mark-some t card.end = omega arith

not-nil : (s : List ℕ) (at : ℕ) → at < length s → is_nil (drop at s) ≡ false
not-nil s at h = ap is_nil (drop-cons s at 0 h)

module _ (t s : List ℕ) (at : ℕ) (h : at < length s) where
  pub mark-behind : (m : Mark) (e : ℕ) → Cuts t s at (Some (m, e)) → (at < e) × (e ≤ length s)
  unfolding stands_at
  mark-behind m e X =
      let c = mark_at t (drop at s) in
      let p = ((both_true (proper_mark t c) _).0 X.0).1 in
      (omega (arith, X.2, mark-some t c), omega (arith, X.2, word_fits (spell_mark t c) s at (sym p) (omega arith)))

  pub mark-cut : (f : ℕ) (m : Mark) (e : ℕ) → Cuts t s at (Some (m, e)) → cut (suc f) t (drop at s) ≡ before (mark_of m) (cut f t (drop e s))
  unfolding cut
  mark-cut f m e X =
      let c = mark_at t (drop at s) in
      let rest : drop (length (spell_mark t c)) (drop at s) ≡ drop e s = drop-drop (length (spell_mark t c)) at s ∙ ap (λ (z : ℕ). drop z s) (sym X.2) in
      rw (not-nil s at h, X.0, rest, cut) (ap (λ z. before z (cut f t (drop e s))) (sym X.1))

  pub nothing-cut : (f : ℕ) → Cuts t s at None → cut (suc f) t (drop at s) ≡ refused 17
  unfolding cut
  nothing-cut f X = rw (not-nil s at h, X, cut) refl

pub all-cut : (f : ℕ) (t s : List ℕ) (at : ℕ) → length s ≤ at → cut f t (drop at s) ≡ ok []
unfolding cut
all-cut f t s at h = rw (drop_of_length-le s h) (go f)
  where
    go : (f : ℕ) → cut f t [] ≡ ok []
    go zero = refl
    go (suc f) = refl
