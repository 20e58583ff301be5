-- What the parts of `respond` give together.
use Rattle.std.specs.Prelude.{◌≡◌, refl, true, false, not, List, ◌++◌, ℕ, ◌+◌, ◌-◌, ◌≤◌, length, take, drop}
use Rattle.std.proofs.Common.{sym, ap, ◌∙◌, arith, length-drop, length-take, length-take-le, lt-ltb, le-leb}
use Rattle.spec.specs.Bytes.{be4, Res, ok, refused}
use Rattle.spec.specs.Run.{document_limits}
use Rattle.spec.specs.Merge.{output_after, printed}
use Rattle.decimals.specs.Writing.{Wrote}
use Rattle.formula.specs.Lines.{lines_of_card}
use Rattle.formula.specs.Programs.{tabled, table_of, behind, unended, lines_to, lines_program}
use Rattle.frames.specs.Frame.{refusal_bytes}
use Rattle.frames.specs.Printing.{wrote-front}
use Rattle.card_buffers.specs.BufferLaws.{roomy}
use Rattle.card_contract.specs.Calls.{fits_text, read_call, answer_of, Reads, Cleared}
use Rattle.card_contract.specs.declared.Answer.{Answer}
use Rattle.card_contract.specs.declared.Answer.TheVariants.{Text, Refused}
use Rattle.read_answer.specs.Reading.{Lent, Asks, Prints, Responds}

pub prints-as : (out out' : List ℕ) (a b : Answer) (r : ℕ) → a ≡ b → Prints out out' b r → Prints out out' a r
prints-as out out' a b r e P = rw e P

-- ---- the call
fits : (text frames marks terms runs : List ℕ) → length text ≤ 65536 → Lent frames marks terms runs → fits_text text frames marks terms runs ≡ true
fits text frames marks terms runs h L =
    let R = roomy 65536 (length frames) (length marks) (length terms) (length runs) (ap not L.fit) in
    rw (lt-ltb (length text) 281474976710656 (omega (arith, h)), le-leb (length text) (length frames) (omega (arith, h, R.frames)), le-leb 32768 (length marks) R.marks, le-leb 66562 (length terms) R.terms, le-leb 65536 (length runs) R.runs) refl

pub asks-from : (s table text frames marks terms runs out out' : List ℕ) (r : Answer) {a' b' c' d' : List ℕ} → table ≡ table_of s → text ≡ unended (behind s) → length text ≤ 65536 → Lent frames marks terms runs
    → Reads table text (fits_text text frames marks terms runs) out out' r × Cleared (fits_text text frames marks terms runs) frames a' marks b' terms c' runs d' → Asks s out out' r × Cleared true frames a' marks b' terms c' runs d'
unfolding read_call
asks-from s table text frames marks terms runs out out' r e f h L (A, K) =
    let z = fits text frames marks terms runs h L in
    let m : read_call (fits_text text frames marks terms runs) table text (length out) ≡ lines_of_card document_limits (table_of s) (unended (behind s)) (length out) = rw (z, e, f) refl in
    (record { answer = A.answer ∙ m; output = A.output ∙ ap (output_after out) m; inside = A.inside }, rw z at K)

-- ---- together
pub no_table : (s out out' : List ℕ) (r : ℕ) → tabled s ≡ false → Wrote (refusal_bytes 2) out 0 out' r → Responds s out out' r
unfolding lines_program lines_to printed
no_table s out out' r e A = rw e (wrote-front (refusal_bytes 2) out out' r A)

pub responds : (s out out' out'' : List ℕ) (a : Answer) (r : ℕ) → tabled s ≡ true → length out ≡ 65536 → Asks s out out' a → Prints out' out'' a r → Responds s out out'' r
unfolding lines_program lines_to printed output_after
responds s out out' out'' a r t w A P = go a refl P
  where
    M : Res (List ℕ)
    M = lines_of_card document_limits (table_of s) (unended (behind s)) (length out)

    is : lines_to s ≡ M
    is = rw (t, ← w) refl

    go : (b : Answer) → a ≡ b → Prints out' out'' b r → Responds s out out'' r
    go (Text n) e (x, y) =
        let z : ok (take n out') ≡ M = sym (ap (answer_of out') e) ∙ A.answer in
        let c : n ≤ length out' = rw e at A.inside in
        let o : out' ≡ take n out' ++ drop (length (take n out')) out = A.output ∙ ap (output_after out) (sym z) in
        rw (is, ← z) (record { long = x ∙ sym (length-take-le n out' c); bytes = y ∙ o })
    go (Refused k) e F =
        let z : M ≡ refused k = sym A.answer ∙ ap (answer_of out') e in
        let o : out' ≡ out = A.output ∙ ap (output_after out) z in
        rw (is, z) (rw o at F)

-- ---- the parts of the input
pub table-part : (s : List ℕ) (e : ℕ) → e ≡ be4 s 0 + 4 → take (e - 4) (drop 4 s) ≡ table_of s
table-part s e h = let z : e - 4 ≡ be4 s 0 = omega (arith, h) in ap (λ (n : ℕ). take n (drop 4 s)) z

pub text-part : (s x : List ℕ) (e n : ℕ) → e ≡ be4 s 0 + 4 → x ≡ drop e s → take n x ≡ unended x → take (e + n - e) (drop e s) ≡ unended (behind s)
text-part s x e n h f g = let z : e + n - e ≡ n = omega arith in ap (λ (m : ℕ). take m (drop e s)) z ∙ ap (take n) (sym f) ∙ g ∙ ap unended (f ∙ ap (λ (m : ℕ). drop m s) h)

pub part-short : (s : List ℕ) (e n : ℕ) → length s ≤ 65536 → length (take n (drop e s)) ≤ 65536
part-short s e n h = omega (arith, length-drop e s, length-take n (drop e s))
