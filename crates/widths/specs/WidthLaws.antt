-- The widths of the listing's pieces: a run, a head, a line, lines.
use Rattle.std.specs.Prelude.{◌≡◌, List, [], ◌∷◌, ◌++◌, get_or}
use Rattle.std.proofs.Math.Path.{refl, ap}
use Rattle.std.proofs.Common.{sym, ◌∙◌}
use Prim.Native.Nat.{ℕ, suc, ◌+◌, ◌*◌, ◌-◌, ◌/◌, ◌%◌, ◌≤◌, ◌<◌}
use native.Mathlib.Omega.{arith}
use Rattle.std.proofs.Math.ListN.{length, length-append}
use borrow.Author.Tests.{eq-eqb, ne_eqb}
use Rattle.spec.specs.Bytes.{each, text, decimal}
use Rattle.spec.specs.Pool.{LIT, VARIANTS}
use Rattle.terms.specs.Buffers.{first_in, head_in, value_in, count_in}
use Rattle.terms.specs.Chains.{Holds}
use Rattle.terms.specs.PartLaws.{part-cons}
use Rattle.terms.specs.PoolLaws.{first_fits, first-inside}
use Rattle.widths.specs.Lines.{run_in, runs_in, head_bytes, term_in, line_in, lines_in, Named, Ready}

-- a text and a number
labelled-length : (b : List ℕ) (v : ℕ) → length (b ++ decimal v) ≡ length b + length (decimal v)
labelled-length b v = length-append b (decimal v)

-- ---- a run
module _ (w : List ℕ) (r : ℕ) {a v : ℕ} (e : a ≡ r % 16384) (f : v ≡ get_or w (2 * a) 0 - 1) where
  pub run_is : run_in w r ≡ (text " " ++ decimal v) ++ (text ":" ++ decimal (r / 16384))
  run_is = ap (λ (z : ℕ). (text " " ++ decimal z) ++ (text ":" ++ decimal (r / 16384))) (sym (f ∙ ap (λ (z : ℕ). get_or w (2 * z) 0 - 1) e))

  pub run_length : length (run_in w r) ≡ 1 + length (decimal v) + 1 + length (decimal (r / 16384))
  unfolding text
  run_length = ap length run_is ∙ omega-length
    where
      omega-length : length ((text " " ++ decimal v) ++ (text ":" ++ decimal (r / 16384))) ≡ 1 + length (decimal v) + 1 + length (decimal (r / 16384))
      omega-length = omega (arith, length-append (text " " ++ decimal v) (text ":" ++ decimal (r / 16384)), labelled-length (text " ") v, labelled-length (text ":") (r / 16384))

-- ---- runs
pub runs-cons : (runs w : List ℕ) (i to : ℕ) → i < to → runs_in runs w i (to - i) ≡ run_in w (get_or runs i 0) ++ runs_in runs w (i + 1) (to - (i + 1))
unfolding runs_in
runs-cons runs w i to h = ap (λ (z : List ℕ). each (run_in w) z) (part-cons runs i to h)

pub runs-nil : (runs w : List ℕ) (i to : ℕ) → to ≤ i → runs_in runs w i (to - i) ≡ []
unfolding runs_in
runs-nil runs w i to h = let e : to - i ≡ 0 = omega arith in rw e refl

pub runs-length : (runs w : List ℕ) (i to : ℕ) → i < to → length (runs_in runs w i (to - i)) ≡ length (run_in w (get_or runs i 0)) + length (runs_in runs w (i + 1) (to - (i + 1)))
runs-length runs w i to h = ap length (runs-cons runs w i to h) ∙ length-append (run_in w (get_or runs i 0)) (runs_in runs w (i + 1) (to - (i + 1)))

-- ---- a head
module _ (h v : ℕ) where
  pub head-lit : h / 64 ≡ 1 → head_bytes h v ≡ (text " lit " ++ decimal (h % 64)) ++ (text " " ++ decimal v)
  unfolding head_bytes
  head-lit e = rw (eq-eqb (h / 64) LIT e) refl

  pub head-variants : h / 64 ≡ 2 → head_bytes h v ≡ text " variants"
  unfolding head_bytes
  head-variants e = rw (ne_eqb (h / 64) LIT (omega arith), eq-eqb (h / 64) VARIANTS e) refl

  pub head-op : (h / 64 ≡ 1 → ⊥) → (h / 64 ≡ 2 → ⊥) → head_bytes h v ≡ text " op " ++ decimal (h % 64)
  unfolding head_bytes
  head-op d e = rw (ne_eqb (h / 64) LIT d, ne_eqb (h / 64) VARIANTS e) refl

  pub lit-length : h / 64 ≡ 1 → length (head_bytes h v) ≡ 5 + length (decimal (h % 64)) + 1 + length (decimal v)
  unfolding text
  lit-length e = omega (arith, ap length (head-lit e), length-append (text " lit " ++ decimal (h % 64)) (text " " ++ decimal v), labelled-length (text " lit ") (h % 64), labelled-length (text " ") v)

  pub variants_length : h / 64 ≡ 2 → length (head_bytes h v) ≡ 9
  unfolding text
  variants_length e = ap length (head-variants e)

  pub op-length : (h / 64 ≡ 1 → ⊥) → (h / 64 ≡ 2 → ⊥) → length (head_bytes h v) ≡ 4 + length (decimal (h % 64))
  unfolding text
  op-length d e = omega (arith, ap length (head-op d e), labelled-length (text " op ") (h % 64))

-- ---- a line
line-parts : (terms runs w : List ℕ) (k : ℕ) → line_in terms runs w k
    ≡ decimal k ++ (head_bytes (head_in terms (term_in w k)) (value_in terms (term_in w k)) ++ (runs_in runs w (first_in terms (term_in w k)) (first_in terms (term_in w k + 1) - first_in terms (term_in w k)) ++ (10 ∷ [])))
unfolding line_in
line-parts terms runs w k = refl

module _ (terms runs w : List ℕ) (n k : ℕ) (H : Holds terms runs) (Y : Ready terms runs w n) (b : k < n) {t : ℕ} (e : t ≡ term_in w k) where
  pub line-term : t < count_in terms
  line-term = rw e (Y.term k b)

  pub line-few : t < 16384
  line-few = omega (arith, line-term, H.few)

  module _ {from to : ℕ} (f : from ≡ first_in terms t) (g : to ≡ first_in terms (t + 1)) where
    pub line-rises : from ≤ to
    line-rises = omega (arith, H.rises t line-term)

    pub line-ends : to ≤ 65536
    line-ends = omega (arith, first_fits terms runs H (t + 1) (omega (arith, line-term)))

    pub line-within : to ≤ length runs
    line-within = omega (arith, first-inside terms runs H (t + 1) (omega (arith, line-term)))

    pub line-named : Named w runs from to
    line-named = rw (f, g, e) (Y.named k b)

    module _ {h v : ℕ} (p : h ≡ head_in terms t) (q : v ≡ value_in terms t) where
      pub line-pieces : line_in terms runs w k ≡ decimal k ++ (head_bytes h v ++ (runs_in runs w from (to - from) ++ (10 ∷ [])))
      line-pieces =
          let s = term_in w k in
          let z : decimal k ++ (head_bytes (head_in terms s) (value_in terms s) ++ (runs_in runs w (first_in terms s) (first_in terms (s + 1) - first_in terms s) ++ (10 ∷ []))) ≡ decimal k ++ (head_bytes h v ++ (runs_in runs w from (to - from) ++ (10 ∷ []))) = rw (p, q, f, g, e) refl in
          line-parts terms runs w k ∙ z

      pub line-length : length (line_in terms runs w k) ≡ length (decimal k) + length (head_bytes h v) + length (runs_in runs w from (to - from)) + 1
      line-length = omega (arith, ap length line-pieces, length-append (decimal k) (head_bytes h v ++ (runs_in runs w from (to - from) ++ (10 ∷ []))), length-append (head_bytes h v) (runs_in runs w from (to - from) ++ (10 ∷ [])), length-append (runs_in runs w from (to - from)) (10 ∷ []))

-- ---- lines
module _ (terms runs w : List ℕ) (k n : ℕ) where
  pub lines_cons : k < n → lines_in terms runs w k (n - k) ≡ line_in terms runs w k ++ lines_in terms runs w (k + 1) (n - (k + 1))
  unfolding lines_in
  lines_cons h = let e : n - k ≡ suc (n - (k + 1)) = omega arith in let f : k + 1 ≡ suc k = omega arith in rw (e, f) refl

  pub lines-nil : n ≤ k → lines_in terms runs w k (n - k) ≡ []
  unfolding lines_in
  lines-nil h = let e : n - k ≡ 0 = omega arith in rw e refl

  pub lines-length : k < n → length (lines_in terms runs w k (n - k)) ≡ length (line_in terms runs w k) + length (lines_in terms runs w (k + 1) (n - (k + 1)))
  lines-length h = ap length (lines_cons h) ∙ length-append (line_in terms runs w k) (lines_in terms runs w (k + 1) (n - (k + 1)))
