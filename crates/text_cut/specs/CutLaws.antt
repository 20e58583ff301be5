-- Words and numbers at a place: the loops' turns and ends.
use Rattle.std.proofs.Math.Path.{◌≡◌, refl}
use Rattle.std.proofs.Common.{sym, ap, length-drop, drop-drop}
use Rattle.std.specs.Prelude.{Bool, Option, Some, None, List, [], ◌∷◌, eqb, length, get_or}
use Rattle.std.proofs.Math.Bool.{true, false}
use Prim.Native.Nat.{ℕ, suc, ◌+◌, ◌*◌, ◌-◌, ◌≤◌, ◌<◌, min}
use Rattle.std.proofs.Math.Decide.{dec_lt}
use native.Mathlib.Omega.{arith}
use Rattle.std.proofs.Math.Numerals.{add-one}
use borrow.Author.Tests.{eq-eqb, ne_eqb, le-leb, lt-leb}
use Rattle.std.proofs.Math.ListN.{drop, drop_of_length-le}
use Rattle.std.proofs.Math.Seq.{drop-cons}
use Rattle.spec.specs.Bytes.{decimal, ok, refused}
use Rattle.laws.specs.Tests.{clash}
use Rattle.decimals.specs.DecimalLaws.{decimal-length-one, decimal-length-more}
use Rattle.formula.specs.Lexer.{digit, starts_with, lead}
use Rattle.formula.specs.Lines.{cut_word, cut_number}
use Rattle.text_cut.specs.Cutting.{CutsWord, CutsNumber}

-- ---- a word byte by byte
module _ (w s : List ℕ) (at i : ℕ) where
  pub starts-end : length w ≤ i → starts_with (drop i w) (drop (at + i) s) ≡ true
  unfolding starts_with
  starts-end h = rw (drop_of_length-le w h) refl

  module _ (h : i < length w) where
    pub starts-short : length s ≤ at + i → starts_with (drop i w) (drop (at + i) s) ≡ false
    unfolding starts_with
    starts-short k = rw (drop-cons w i 0 h, drop_of_length-le s k) refl

    pub starts-differs : at + i < length s → (get_or s (at + i) 0 ≡ get_or w i 0 → ⊥) → starts_with (drop i w) (drop (at + i) s) ≡ false
    unfolding starts_with
    starts-differs k d = rw (drop-cons w i 0 h, drop-cons s (at + i) 0 k, ne_eqb (get_or w i 0) (get_or s (at + i) 0) (λ e. d (sym e)), starts_with) refl

    pub starts_more : at + i < length s → get_or s (at + i) 0 ≡ get_or w i 0 → starts_with (drop i w) (drop (at + i) s) ≡ starts_with (drop (i + 1) w) (drop (at + (i + 1)) s)
    unfolding starts_with
    starts_more k e =
        let z : at + (i + 1) ≡ suc (at + i) = omega arith in
        rw (z, add-one i, drop-cons w i 0 h, drop-cons s (at + i) 0 k, eq-eqb (get_or w i 0) (get_or s (at + i) 0) (sym e), starts_with) refl

pub starts-start : (w s : List ℕ) (at : ℕ) → starts_with (drop 0 w) (drop (at + 0) s) ≡ starts_with w (drop at s)
starts-start w s at = let z : at + 0 ≡ at = omega arith in rw z refl

-- a word that stands there fits
starts-fits : (w s : List ℕ) → starts_with w s ≡ true → length w ≤ length s
unfolding starts_with
starts-fits [] s e = omega arith
starts-fits (c ∷ w) [] e = absurd (clash (sym e))
starts-fits (c ∷ w) (d ∷ s) e = go (eqb c d) refl (λ k. starts-fits w s k)
  where
    go : (b : Bool) → eqb c d ≡ b → (starts_with w s ≡ true → length w ≤ length s) → suc (length w) ≤ suc (length s)
    go true p ih = omega (arith, ih (rw (p, starts_with) at e))
    go false p ih = absurd (clash (sym (rw (p, starts_with) at e)))

module _ (w s : List ℕ) (at : ℕ) where
  pub word_fits : true ≡ starts_with w (drop at s) → at ≤ length s → at + length w ≤ length s
  word_fits e h = omega (arith, starts-fits w (drop at s) (sym e), length-drop at s)

  pub word-there : true ≡ starts_with w (drop at s) → at ≤ length s → CutsWord w s at (Some (at + length w))
  unfolding cut_word
  word-there e h = record { answer = rw (← e) (ap ok (sym (drop-drop (length w) at s))); behind = (refl, word_fits e h) }

  pub word-missing : false ≡ starts_with w (drop at s) → CutsWord w s at None
  unfolding cut_word
  word-missing e = record { answer = rw (← e) refl; behind = tt }

pub word-as : {w v s : List ℕ} {at : ℕ} {r : Option ℕ} → w ≡ v → CutsWord w s at r → CutsWord v s at r
word-as e W = rw (← e) W

-- ---- a number digit by digit
module _ (s : List ℕ) (v i : ℕ) where
  pub lead-end : length s ≤ i → lead v (drop i s) ≡ v
  unfolding lead
  lead-end h = rw (drop_of_length-le s h) refl

  module _ (h : i < length s) where
    pub lead-below : get_or s i 0 < 48 → lead v (drop i s) ≡ v
    unfolding lead
    lead-below k = rw (drop-cons s i 0 h, lt-leb 48 (get_or s i 0) k, lead) refl

    pub lead-above : 57 < get_or s i 0 → lead v (drop i s) ≡ v
    unfolding lead
    lead-above k = rw (drop-cons s i 0 h, le-leb 48 (get_or s i 0) (omega arith), lt-leb (get_or s i 0) 57 k, lead) refl

    pub lead-turn : 48 ≤ get_or s i 0 → get_or s i 0 ≤ 57 → lead v (drop i s) ≡ lead (v * 10 + (get_or s i 0 - 48)) (drop (i + 1) s)
    unfolding lead
    lead-turn k l = rw (add-one i, drop-cons s i 0 h, le-leb 48 (get_or s i 0) k, le-leb (get_or s i 0) 57 l, lead) refl

-- once above the limit it stays above
pub lead-grows : (v : ℕ) (s : List ℕ) → v ≤ lead v s
unfolding lead
lead-grows v [] = omega arith
lead-grows v (c ∷ s) = go (digit c) refl (lead-grows (v * 10 + (c - 48)) s)
  where
    go : (b : Bool) → digit c ≡ b → v * 10 + (c - 48) ≤ lead (v * 10 + (c - 48)) s → v ≤ lead v (c ∷ s)
    go true p ih = rw (p, lead) (omega arith)
    go false p ih = rw (p, lead) (omega arith)

-- ---- a number
-- a number has a digit
decimal-some : (v : ℕ) → 0 < length (decimal v)
decimal-some v = go (dec_lt v 10)
  where
    go : Dec (v < 10) → 0 < length (decimal v)
    go (yes h) = omega (arith, decimal-length-one v h)
    go (no h) = omega (arith, decimal-length-more v (omega arith))

module _ (most : ℕ) (s : List ℕ) (at v : ℕ) (e : v ≡ min (lead 0 (drop at s)) (most + 1)) where
  pub number-over : most < v → CutsNumber most s at None
  unfolding cut_number
  number-over h = record { answer = rw (lt-leb (lead 0 (drop at s)) most (omega arith)) refl; behind = tt }

  module _ (h : v ≤ most) where
    value : lead 0 (drop at s) ≡ v
    value = omega arith

    pub number-missing : CutsWord (decimal v) s at None → CutsNumber most s at None
    unfolding cut_number cut_word
    number-missing W = record { answer = go (starts_with (decimal v) (drop at s)) refl; behind = tt }
      where
        go : (b : Bool) → starts_with (decimal v) (drop at s) ≡ b → refused 17 ≡ cut_number most (drop at s)
        go true p = absurd (let z : ◌≡◌ {A = ℕ} 0 1 = cc (rw p at W.answer) in omega arith)
        go false p = rw (value, le-leb v most h, p) refl

    pub number-there : (r : ℕ) → CutsWord (decimal v) s at (Some r) → CutsNumber most s at (Some (v, r))
    unfolding cut_number cut_word
    number-there r W = record { answer = go (starts_with (decimal v) (drop at s)) refl; behind = (omega (arith, W.behind.0, decimal-some v), W.behind.1, h) }
      where
        go : (b : Bool) → starts_with (decimal v) (drop at s) ≡ b → ok (v, drop r s) ≡ cut_number most (drop at s)
        go true p = rw (value, le-leb v most h, p) (let q : drop r s ≡ drop (length (decimal v)) (drop at s) = cc (rw p at W.answer) in rw q refl)
        go false p = absurd (let z : ◌≡◌ {A = ℕ} 0 1 = cc (rw p at W.answer) in omega arith)
