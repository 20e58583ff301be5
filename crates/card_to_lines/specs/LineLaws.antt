-- What the parts of `lines_of_card` give together.
use Rattle.std.specs.Prelude.{Option, Some, None, Result, Ok, Err, ◌≡◌, Bool, true, false, not, List, [], ◌++◌, ℕ, ◌*◌, ◌≤◌, ◌<◌, ltb, leb, eqb, length, take, drop}
use Rattle.std.proofs.Math.Path.{refl, sym, ap}
use Rattle.std.proofs.Common.{◌∙◌, inl, inr, arith, length-append, ltb-true}
use Rattle.std.proofs.Math.Seq.{take-append_seam}
use Rattle.spec.specs.Bytes as bytes
use Rattle.spec.specs.Bytes.{pick, both, Res, ok, refused, rule, ◌>>=◌}
use Rattle.spec.specs.Pool.{Pool, Interned, interned}
use Rattle.spec.specs.Listing.{lines_of}
use Rattle.spec.specs.Run.{document_limits}
use Rattle.spec.specs.Merge.{output_after}
use Rattle.laws.specs.Tests.{both_true}
use Rattle.pools.specs.Pool.{empty-valid}
use Rattle.formula.specs.Lexer.{read_card}
use Rattle.formula.specs.Lines.{lines_of_card}
use Rattle.formula_laws.specs.Refusals.{read_only}
use Rattle.formula_laws.specs.Means.{read-means}
use Rattle.terms.specs.Buffers.{LEAST, pool_of, count_in}
use Rattle.terms.specs.PoolLaws.{pool-length, rooms_same}
use Rattle.terms.specs.Chains.{Holds, Rooms}
use Rattle.terms.specs.Emptying.{emptied, emptied-holds, emptied-length, emptied-pool}
use Rattle.listing.specs.Lists.{Behind}
use Rattle.interning.specs.Interning.{pool_after}
use Rattle.card_reader.specs.CardReading.{read_of, CardRead}
use Rattle.card_reader.specs.declared.Unread.{Unread}
use Rattle.card_reader.specs.declared.Unread.TheVariants as U
use Rattle.card_contract.specs.Calls.{fit_of, fits_text, read_call, Answers, Reads, Cleared}
use Rattle.card_contract.specs.declared.Answer.{Answer}
use Rattle.card_contract.specs.declared.Answer.TheVariants.{Text, Refused}
use Rattle.card_buffers.specs.BufferLaws as buffers
use Rattle.card_buffers.specs.BufferLaws.{not-true, not-false, cleared-same}

-- ---- a term's lines
-- "14: the listing exceeds the output buffer": the tail of `lines_of_card`
abbrev pub listed_term : Pool → ℕ → ℕ → Res (List ℕ)
listed_term p a room = rule 14 (leb (length (lines_of p a)) room) >>= λ _. ok (lines_of p a)

abbrev pub answer_as : Option ℕ → Answer
answer_as (Some n) = Text n
answer_as None = Refused 14

bytes-inj : {m n : ℕ} → Some m ≡ Some n → m ≡ n
bytes-inj e = cc

bytes-full : {n : ℕ} → Some n ≡ None → ⊥
bytes-full e = let z : ◌≡◌ {A = ℕ} 0 1 = cc in omega arith

pub listed-answers : (terms runs : List ℕ) (root : ℕ) (marks out marks' out' : List ℕ) (w : Option ℕ) (a : Answer) → a ≡ answer_as w → Behind [] terms runs root marks out marks' out' w → Answers (listed_term (pool_of terms runs) root (length out)) out out' a
unfolding output_after
listed-answers terms runs root marks out marks' out' w a e B = rw e (go (leb (length l) (length out)) refl w B.answer B.output)
  where
    l : List ℕ
    l = lines_of (pool_of terms runs) root

    go : (b : Bool) → leb (length l) (length out) ≡ b → (w : Option ℕ) → w ≡ pick b (Some (length l)) None → out' ≡ pick b (l ++ drop (length l) out) out → Answers (listed_term (pool_of terms runs) root (length out)) out out' (answer_as w)
    go true q (Some n) f o =
        let t : take n out' ≡ l = rw (bytes-inj f, o) (take-append_seam l (drop (length l) out)) in
        record { answer = rw q (ap (λ (z : List ℕ). ok z) t); output = rw q o; inside = rw o (omega (arith, bytes-inj f, length-append l (drop (length l) out))) }
    go true q None f o = absurd (bytes-full (sym f))
    go false q (Some n) f o = absurd (bytes-full f)
    go false q None f o = record { answer = rw q refl; output = rw q o; inside = tt }

-- ---- a text read into an empty pool
-- none is too short for a text of so many bytes
pub record Roomy (text f m t r : ℕ) : Type 0 where
  pub short : text < 281474976710656
  pub room : buffers.Roomy text f m t r

-- what reading asks
pub rooms : (lim : bytes.Limits) {n f m : ℕ} (terms runs : List ℕ) → lim ≡ document_limits → Roomy n f m (length terms) (length runs) → Holds (emptied terms) runs × Rooms lim (emptied terms) runs
rooms lim terms runs e R =
    let h : LEAST ≤ length terms = omega (arith, R.room.terms) in
    let r : Rooms lim terms runs = rw e (record { few = omega arith; ends = omega arith; long = R.room.terms; roomy = R.room.runs }) in
    (emptied-holds terms runs h, rooms_same (emptied-length terms runs h) refl r)

module _ (lim : bytes.Limits) (is : lim ≡ document_limits) (t s terms runs terms' runs' : List ℕ) (x : Result ℕ Unread) (A : CardRead lim t s (emptied terms) runs terms' runs' x) where
  read_is : x ≡ read_of (read_card document_limits t [] s)
  read_is = A.answer ∙ rw (emptied-pool terms runs, is) refl

  pool-is : pool_of terms' runs' ≡ pool_after [] (read_card document_limits t [] s)
  pool-is = A.pool ∙ rw (emptied-pool terms runs, is) refl

  refused-text : (k : ℕ) → read_card document_limits t [] s ≡ refused k → (out : List ℕ) (r : Answer) → r ≡ Refused k → Answers (lines_of_card document_limits t s (length out)) out out r
  unfolding lines_of_card output_after
  refused-text k e out r f = rw f (record { answer = rw e refl; output = rw e refl; inside = tt })

  term-apart : {a : ℕ} → Ok a ≡ Err U.NoFormula → ⊥
  term-apart e = let z : ◌≡◌ {A = ℕ} 0 1 = cc in omega arith

  term-full : {a : ℕ} → Ok a ≡ Err U.Full → ⊥
  term-full e = let z : ◌≡◌ {A = ℕ} 0 1 = cc in omega arith

  none-full : ◌≡◌ {A = Result ℕ Unread} (Err U.NoFormula) (Err U.Full) → ⊥
  none-full e = let z : ◌≡◌ {A = ℕ} 0 1 = cc in omega arith

  pub text-none : x ≡ Err U.NoFormula → (out : List ℕ) (r : Answer) → r ≡ Refused 17 → Answers (lines_of_card document_limits t s (length out)) out out r
  text-none e = refused-text 17 (go (read_card document_limits t [] s) refl)
    where
      go : (m : Res Interned) → read_card document_limits t [] s ≡ m → read_card document_limits t [] s ≡ refused 17
      go (ok y) q = absurd (term-apart (sym (ap read_of q) ∙ sym read_is ∙ e))
      go (refused n) q = elim (read_only document_limits t [] s n q) [ inl z ↦ q ∙ ap refused z | inr z ↦ absurd (none-full (sym e ∙ read_is ∙ ap read_of (q ∙ ap refused z))) ]

  pub text-full : x ≡ Err U.Full → (out : List ℕ) (r : Answer) → r ≡ Refused 13 → Answers (lines_of_card document_limits t s (length out)) out out r
  text-full e = refused-text 13 (go (read_card document_limits t [] s) refl)
    where
      go : (m : Res Interned) → read_card document_limits t [] s ≡ m → read_card document_limits t [] s ≡ refused 13
      go (ok y) q = absurd (term-full (sym (ap read_of q) ∙ sym read_is ∙ e))
      go (refused n) q = elim (read_only document_limits t [] s n q) [ inl z ↦ absurd (none-full (sym (ap read_of (q ∙ ap refused z)) ∙ sym read_is ∙ e)) | inr z ↦ q ∙ ap refused z ]

  module _ (a : ℕ) (e : x ≡ Ok a) where
    read : read_card document_limits t [] s ≡ ok (interned (pool_of terms' runs') a)
    read = go (read_card document_limits t [] s) refl
      where
        term-inj : {b c : ℕ} → ◌≡◌ {A = Result ℕ Unread} (Ok b) (Ok c) → b ≡ c
        term-inj e = cc

        refused-term : (n : ℕ) (b : Bool) → pick b (Err U.NoFormula) (Err U.Full) ≡ Ok a → ⊥
        refused-term n true z = term-apart (sym z)
        refused-term n false z = term-full (sym z)

        go : (m : Res Interned) → read_card document_limits t [] s ≡ m → read_card document_limits t [] s ≡ ok (interned (pool_of terms' runs') a)
        go (ok y) q =
            let u : y.pool ≡ pool_of terms' runs' = sym (pool-is ∙ ap (pool_after []) q) in
            let v : y.term ≡ a = term-inj (sym (ap read_of q) ∙ sym read_is ∙ e) in
            q ∙ ap ok (λ i. record { pool = u i; term = v i })
        go (refused n) q = absurd (refused-term n (eqb n 17) (sym (ap read_of q) ∙ sym read_is ∙ e))

    pub term-ready : (marks : ℕ) → 32768 ≤ marks → Holds terms' runs' × (a < count_in terms') × (2 * count_in terms' ≤ marks)
    term-ready marks h =
        let w = (read-means document_limits t [] s (interned (pool_of terms' runs') a) empty-valid read).1.within in
        (A.holds, omega (arith, w, pool-length terms' runs'), omega (arith, A.holds.few))

    pub term-listed : (out out' : List ℕ) (r : Answer) → Answers (listed_term (pool_of terms' runs') a (length out)) out out' r → Answers (lines_of_card document_limits t s (length out)) out out' r
    unfolding lines_of_card
    term-listed out out' r B =
        let z : lines_of_card document_limits t s (length out) ≡ listed_term (pool_of terms' runs') a (length out) = rw read refl in
        record { answer = B.answer ∙ sym z; output = B.output ∙ ap (output_after out) (sym z); inside = B.inside }

-- ---- the call
abbrev pub fit_text : ℕ → ℕ → ℕ → ℕ → ℕ → Bool
fit_text text frames marks terms runs = both (ltb text 281474976710656) (fit_of text frames marks terms runs)

module _ (t s frames marks terms runs : List ℕ) (short : Bool) (e : short ≡ not (fit_text (length s) (length frames) (length marks) (length terms) (length runs))) where
  abbrev fit : Bool
  fit = fits_text s frames marks terms runs

  pub call-short : short ≡ true → (out : List ℕ) (r : Answer) → r ≡ Refused 1 → Reads t s fit out out r × Cleared fit frames frames marks marks terms terms runs runs
  unfolding read_call output_after
  call-short h out r f = let z = not-true fit (sym e ∙ h) in (rw f (record { answer = rw z refl; output = rw z refl; inside = tt }), record { frames = rw z refl; marks = rw z refl; terms = rw z refl; runs = rw z refl })

  pub call-roomy : short ≡ false → Roomy (length s) (length frames) (length marks) (length terms) (length runs)
  call-roomy h = let (a, b) = (both_true (ltb (length s) 281474976710656) _).0 (not-false fit (sym e ∙ h)) in record { short = ltb-true (length s) 281474976710656 a; room = buffers.roomy (length s) (length frames) (length marks) (length terms) (length runs) (ap not b) }

  pub call-goes : short ≡ false → (out out' : List ℕ) (r : Answer) {a b c d a' b' c' d' : List ℕ} → Answers (lines_of_card document_limits t s (length out)) out out' r
      → Cleared true a a' b b' c c' d d' → length a ≡ length frames → length b ≡ length marks → length c ≡ length terms → length d ≡ length runs
      → Reads t s fit out out' r × Cleared fit frames a' marks b' terms c' runs d'
  unfolding read_call
  call-goes h out out' r A K p q u v = let z = not-false fit (sym e ∙ h) in (record { answer = A.answer ∙ rw z refl; output = A.output ∙ rw z refl; inside = A.inside }, rw z (cleared-same K p q u v))
