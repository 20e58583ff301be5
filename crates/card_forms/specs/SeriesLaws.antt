-- A series of marks, spelt, is the text of its runs.
use Rattle.std.specs.Prelude.{◌≡◌, true, replicate}
use Rattle.std.proofs.Math.Path.{refl, ap, ap₂}
use Rattle.std.proofs.Common.{sym, ◌∙◌}
use Rattle.std.proofs.Math.Bool.{false}
use mathlib.Core.List.{List, [], ◌∷◌, ◌++◌, map, append_assoc, append-nil}
use Prim.Native.Nat.{ℕ, zero, suc, ◌-◌, ◌/◌, ◌%◌, ◌≤◌}
use native.Mathlib.Omega.{arith}
use Rattle.spec.specs.Bytes.{each, In, here, there}
use Rattle.laws.specs.BagCount.{written}
use Rattle.formula.specs.Card.{Mark, spell_mark, spell}
use Rattle.formula_laws.specs.Terms.{series_of}
use Rattle.terms.specs.Buffers.{unpack}
use Rattle.card_forms.specs.Forms.{copies, series_text}

pub each_append : {A B : Type 0} (f : A → List B) (l m : List A) → each f (l ++ m) ≡ each f l ++ each f m
unfolding each
each_append f [] m = refl
each_append {B = B} f (x ∷ l) m = ap (λ (z : List B). f x ++ z) (each_append f l m) ∙ sym (append_assoc (f x) (each f l) (each f m))

pub spell-append : (t : List ℕ) (l m : List Mark) → spell t (l ++ m) ≡ spell t l ++ spell t m
unfolding spell
spell-append t l m = each_append (spell_mark t) l m

pub spell_one : (t : List ℕ) (c : Mark) → spell t (c ∷ []) ≡ spell_mark t c
unfolding spell each
spell_one t c = append-nil (spell_mark t c)

-- ---- children, each with the gap before it
abbrev linked : List ℕ → (ℕ → List ℕ) → ℕ → List ℕ
linked gap w c = gap ++ w c

spell-series : (t : List ℕ) (w : ℕ → List Mark) (sep : Mark) (c : ℕ) (l : List ℕ) → spell t (series_of w sep (c ∷ l)) ≡ spell t (w c) ++ each (linked (spell_mark t sep) (λ d. spell t (w d))) l
unfolding series_of spell each
spell-series t w sep c [] = sym (append-nil (spell t (w c)))
spell-series t w sep c (d ∷ l) =
    spell-append t (w c) (sep ∷ series_of w sep (d ∷ l))
    ∙ ap (λ (z : List ℕ). spell t (w c) ++ (spell_mark t sep ++ z)) (spell-series t w sep d l)
    ∙ ap (λ (z : List ℕ). spell t (w c) ++ z) (sym (append_assoc (spell_mark t sep) (spell t (w d)) (each (linked (spell_mark t sep) (λ d. spell t (w d))) l)))

module _ (gap : List ℕ) (w : ℕ → List ℕ) where
  each-copies : (n c : ℕ) → each (linked gap w) (replicate n c) ≡ copies n (gap ++ w c)
  unfolding each copies
  each-copies zero c = refl
  each-copies (suc n) c = ap (λ (z : List ℕ). (gap ++ w c) ++ z) (each-copies n c)

  -- one after the first, the others behind it
  one_more : (n : ℕ) (x : List ℕ) → 1 ≤ n → copies n x ≡ x ++ copies (n - 1) x
  unfolding copies
  one_more n x h = let e : n ≡ suc (n - 1) = omega arith in ap (λ (z : ℕ). copies z x) e

  links : (l : List ℕ) → ((r : ℕ) → In r l → 1 ≤ r / 16384) → each (linked gap w) (written (map unpack l)) ≡ series_text false gap w l
  unfolding written series_text each
  links [] h = refl
  links (r ∷ l) h =
      let c = r % 16384 in
      let n = r / 16384 in
      each_append (linked gap w) (replicate n c) (written (map unpack l))
      ∙ ap₂ (λ (x y : List ℕ). x ++ y) (each-copies n c ∙ one_more n (gap ++ w c) (h r here)) (links l (λ s i. h s (there i)))
      ∙ append_assoc (gap ++ w c) (copies (n - 1) (gap ++ w c)) (series_text false gap w l)
      ∙ append_assoc gap (w c) (copies (n - 1) (gap ++ w c) ++ series_text false gap w l)

-- the whole series
pub series-spelt : (t : List ℕ) (w : ℕ → List Mark) (sep : Mark) (l : List ℕ) → ((r : ℕ) → In r l → 1 ≤ r / 16384) → spell t (series_of w sep (written (map unpack l))) ≡ series_text true (spell_mark t sep) (λ c. spell t (w c)) l
unfolding written series_text spell series_of each
series-spelt t w sep [] h = refl
series-spelt t w sep (r ∷ l) h =
    let c = r % 16384 in
    let n = r / 16384 in
    let gap = spell_mark t sep in
    let v : ℕ → List ℕ = λ d. spell t (w d) in
    let e : n ≡ suc (n - 1) = omega (arith, h r here) in
    ap (λ (z : ℕ). spell t (series_of w sep (replicate z c ++ written (map unpack l)))) e
    ∙ spell-series t w sep c (replicate (n - 1) c ++ written (map unpack l))
    ∙ ap (λ (z : List ℕ). v c ++ z)
    (each_append (linked gap v) (replicate (n - 1) c) (written (map unpack l)) ∙ ap₂ (λ (x y : List ℕ). x ++ y) (each-copies gap v (n - 1) c) (links gap v l (λ s i. h s (there i))))
