-- What the parts of `respond` give together.
use Rattle.std.specs.Prelude.{◌≡◌, refl, Bool, true, false, List, ◌++◌, ℕ, ◌+◌, ◌≤◌, length, take, drop}
use Rattle.std.proofs.Common.{sym, ap, ◌∙◌, length-take-le}
use Rattle.spec.specs.Bytes.{be2, be4, Res, ok, refused}
use Rattle.spec.specs.Merge.{OUTPUT, merge_for, merge_of, output_after, printed, answer_to, program_of}
use Rattle.spec.specs.declared.Caller.TheVariants.{Desk}
use Rattle.decimals.specs.Writing.{Wrote}
use Rattle.query.specs.declared.Query.{Query}
use Rattle.contract.specs.declared.Answer.{Answer}
use Rattle.contract.specs.declared.Answer.TheVariants.{Listing, Refused, Doubled}
use Rattle.contract.specs.Merges.{Merges}
use Rattle.contract.specs.Answers.{answer_of, Cleared}
use Rattle.frames.specs.Frame.{framed, query_of, refusal_bytes}
use Rattle.frames.specs.Printing.{Front, Prints, wrote-front}
use Rattle.answer.specs.Responding.{Asks, Responds}

-- ---- together
pub not-framed : (s out out' : List ℕ) (r : ℕ) → framed s ≡ false → Wrote (refusal_bytes 2) out 0 out' r → Responds s out out' r
unfolding program_of answer_to printed
not-framed s out out' r e A = rw e (wrote-front (refusal_bytes 2) out out' r A)

asked_is : (s : List ℕ) → framed s ≡ true → answer_to s ≡ merge_for Desk true (take (be4 s 0 + 4) s) (be2 s (be4 s 0 + 4)) (be2 s (be4 s 0 + 4 + 2)) (be4 s (be4 s 0 + 4 + 4)) OUTPUT
unfolding answer_to merge_of
asked_is s e = rw e refl

pub responds : (s out out' out'' : List ℕ) (fit : Bool) (a : Answer) (r : ℕ) → framed s ≡ true → fit ≡ true → length out ≡ OUTPUT → Asks s fit out out' a → Prints out' out'' a r → Responds s out out'' r
unfolding program_of printed output_after
responds s out out' out'' fit a r f q w m P = go a refl P
  where
    M : Res (List ℕ)
    M = merge_for Desk fit (take (be4 s 0 + 4) s) (be2 s (be4 s 0 + 4)) (be2 s (be4 s 0 + 4 + 2)) (be4 s (be4 s 0 + 4 + 4)) (length out)

    is : answer_to s ≡ M
    is = rw (q, w) (asked_is s f)

    refuses : (k : ℕ) → answer_of out' a ≡ refused k → Front (refusal_bytes k) out' out'' r → Responds s out out'' r
    refuses k e F =
        let z : M ≡ refused k = sym m.answer ∙ e in
        let o : out' ≡ out = m.output ∙ ap (output_after out) z in
        rw (is, z) (rw o at F)

    go : (b : Answer) → a ≡ b → Prints out' out'' b r → Responds s out out'' r
    go (Listing n) e (x, y) =
        let z : ok (take n out') ≡ M = sym (ap (answer_of out') e) ∙ m.answer in
        let c : n ≤ length out' = rw e at m.carries in
        let o : out' ≡ take n out' ++ drop (length (take n out')) out = m.output ∙ ap (output_after out) (sym z) in
        rw (is, ← z) (record { long = x ∙ sym (length-take-le n out' c); bytes = y ∙ o })
    go (Refused k) e F = refuses k (ap (answer_of out') e) F
    go (Doubled c) e F = refuses 10 (ap (answer_of out') e) F

pub cleared-asked : (fit : Bool) {a a' b b' c c' d d' e e' f f' : List ℕ} → fit ≡ true → Cleared fit a a' b b' c c' d d' e e' f f' → Cleared true a a' b b' c c' d d' e e' f f'
cleared-asked fit q k = rw q at k

-- the call that `ask` makes is the one that the input asks for
pub asks-from : (s part : List ℕ) (n : ℕ) (q : Query) (fit : Bool) (out out' : List ℕ) (a : Answer) → part ≡ take n s → n ≡ be4 s 0 + 4 → q ≡ query_of s → Merges q.caller part q.left q.right q.budget fit out out' a → Asks s fit out out' a
asks-from s part n q fit out out' a p e x m = rw (p, x, e) at m
