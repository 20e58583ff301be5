-- What the parts of `card_of_lines` give together.
use Rattle.std.specs.Prelude.{Result, Ok, Err, ◌≡◌, Bool, true, false, not, List, ℕ, ◌-◌, ◌≤◌, ◌<◌, length}
use Rattle.std.proofs.Math.Path.{refl, sym, ap}
use Rattle.std.proofs.Common.{◌∙◌, arith}
use Rattle.spec.specs.Bytes as bytes
use Rattle.spec.specs.Bytes.{ok, refused}
use Rattle.spec.specs.Run.{document_limits}
use Rattle.spec.specs.Merge.{output_after}
use Rattle.formula.specs.Lexer.{write_card}
use Rattle.formula.specs.Lines.{read_lines, card_of_lines}
use Rattle.formula_laws.specs.LineTerms.{read-lined}
use Rattle.terms.specs.Buffers.{pool_of, count_in}
use Rattle.terms.specs.PoolLaws.{pool-length}
use Rattle.terms.specs.Chains.{Holds, Rooms}
use Rattle.term_lines.specs.Loading.{loaded_of, Loads}
use Rattle.term_lines.specs.declared.Fault.{Fault}
use Rattle.term_lines.specs.declared.Fault.TheVariants as F
use Rattle.card_contract.specs.Calls.{fits_lines, card_call, Answers, Cards, Cleared}
use Rattle.card_contract.specs.declared.Answer.{Answer}
use Rattle.card_contract.specs.declared.Answer.TheVariants.{Refused}
use Rattle.card_buffers.specs.BufferLaws.{Roomy, roomy, not-true, not-false, cleared-same}

-- room for a pool of document 01's limits
pub rooms : (lim : bytes.Limits) {least f m : ℕ} {terms runs : List ℕ} → lim ≡ document_limits → Roomy least f m (length terms) (length runs) → Rooms lim terms runs
rooms lim e R = rw e (record { few = omega arith; ends = omega arith; long = R.terms; roomy = R.runs })

module _ (lim : bytes.Limits) (is : lim ≡ document_limits) (t s list terms runs list' terms' runs' : List ℕ) where
  -- 17 and 13 of the lines
  refused-lines : (k : ℕ) → read_lines lim s ≡ refused k → (out : List ℕ) (r : Answer) → r ≡ Refused k → Answers (card_of_lines document_limits t s (length out)) out out r
  unfolding card_of_lines output_after
  refused-lines k e out r f = let z : read_lines document_limits s ≡ refused k = rw is at e in rw f (record { answer = rw z refl; output = rw z refl; inside = tt })

  pub lines-broken : (x : Result Unit Fault) → x ≡ Err F.Broken → Loads lim s list terms runs list' terms' runs' x → (out : List ℕ) (r : Answer) → r ≡ Refused 17 → Answers (card_of_lines document_limits t s (length out)) out out r
  lines-broken x e A = refused-lines 17 (sym (ap (loaded_of (pool_of terms' runs')) (sym e) ∙ A.answer))

  pub lines-full : (x : Result Unit Fault) → x ≡ Err F.Full → Loads lim s list terms runs list' terms' runs' x → (out : List ℕ) (r : Answer) → r ≡ Refused 13 → Answers (card_of_lines document_limits t s (length out)) out out r
  lines-full x e A = refused-lines 13 (sym (ap (loaded_of (pool_of terms' runs')) (sym e) ∙ A.answer))

  module _ (x : Result Unit Fault) (told : x ≡ Ok tt) (A : Loads lim s list terms runs list' terms' runs' x) where
    read : read_lines document_limits s ≡ ok (pool_of terms' runs')
    read = let z : read_lines lim s ≡ ok (pool_of terms' runs') = sym (ap (loaded_of (pool_of terms' runs')) (sym told) ∙ A.answer) in rw is at z

    -- there is a last term, and the marks have room for all
    pub last-ready : (marks : ℕ) → 32768 ≤ marks → Holds terms' runs' × (0 < count_in terms') × (count_in terms' ≤ marks)
    last-ready marks h =
        (A.grows.holds, omega (arith, (read-lined document_limits s (pool_of terms' runs') read).1, pool-length terms' runs'), omega (arith, A.grows.holds.few))

    pub lines-written : (out out' : List ℕ) (r : Answer) → Answers (write_card t (pool_of terms' runs') (count_in terms' - 1) (length out)) out out' r → Answers (card_of_lines document_limits t s (length out)) out out' r
    unfolding card_of_lines
    lines-written out out' r B =
        let e : card_of_lines document_limits t s (length out) ≡ write_card t (pool_of terms' runs') (count_in terms' - 1) (length out) = rw (read, pool-length terms' runs') refl in
        record { answer = B.answer ∙ sym e; output = B.output ∙ ap (output_after out) (sym e); inside = B.inside }

-- ---- the call
module _ (t s frames marks terms runs : List ℕ) (short : Bool) (e : short ≡ not (fits_lines frames marks terms runs)) where
  abbrev fit : Bool
  fit = fits_lines frames marks terms runs

  pub call-short : short ≡ true → (out : List ℕ) (r : Answer) → r ≡ Refused 1 → Cards t s fit out out r × Cleared fit frames frames marks marks terms terms runs runs
  unfolding card_call output_after
  call-short h out r f = let z = not-true fit (sym e ∙ h) in (rw f (record { answer = rw z refl; output = rw z refl; inside = tt }), record { frames = rw z refl; marks = rw z refl; terms = rw z refl; runs = rw z refl })

  pub call-roomy : short ≡ false → Roomy 65536 (length frames) (length marks) (length terms) (length runs)
  call-roomy h = roomy 65536 (length frames) (length marks) (length terms) (length runs) (sym e ∙ h)

  pub call-goes : short ≡ false → (out out' : List ℕ) (r : Answer) {a b c d a' b' c' d' : List ℕ} → Answers (card_of_lines document_limits t s (length out)) out out' r
      → Cleared true a a' b b' c c' d d' → length a ≡ length frames → length b ≡ length marks → length c ≡ length terms → length d ≡ length runs
      → Cards t s fit out out' r × Cleared fit frames a' marks b' terms c' runs d'
  unfolding card_call
  call-goes h out out' r A K p q u v = let z = not-false fit (sym e ∙ h) in (record { answer = A.answer ∙ rw z refl; output = A.output ∙ rw z refl; inside = A.inside }, rw z (cleared-same K p q u v))
