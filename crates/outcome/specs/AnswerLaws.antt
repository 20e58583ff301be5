-- The answer from a listing that was written or exceeds the output, and from a refusal.
use Rattle.std.specs.Prelude.{◌≡◌, Bool, ℕ, ◌≤◌, Option, Some, None}
use Rattle.std.proofs.Math.Path.{refl, sym, ap}
use Rattle.std.proofs.Common.{◌∙◌, arith}
use Rattle.std.proofs.Math.Bool.{true, false}
use mathlib.Core.List.{List, ◌++◌}
use Rattle.std.proofs.Math.Dec.{leb}
use borrow.Author.Tests.{leb-true}
use Rattle.std.proofs.Math.ListN.{length, take, drop}
use Rattle.std.proofs.Math.Seq.{take-append_seam}
use Rattle.spec.specs.Bytes.{pick, Res, ok, refused, ◌>>=◌, rule}
use Rattle.spec.specs.Run as run
use Rattle.spec.specs.Listing.{listing_of}
use Rattle.spec.specs.Merge.{output_after}
use Rattle.terms.specs.Buffers.{pool_of}
use Rattle.first_line.specs.Fields.{outcome_of}
use Rattle.listing.specs.Lists as L
use Rattle.first_line.specs.declared.Report.{Report}
use Rattle.outcome.specs.Answers.{outcome_in, listed_of, Answers}
use Rattle.outcome.specs.declared.Outcome.{Outcome}
use Rattle.outcome.specs.declared.Answer.{Answer}
use Rattle.outcome.specs.declared.Answer.TheVariants as A

bytes-inj : {m n : ℕ} → Some m ≡ Some n → m ≡ n
bytes-inj e = cc

bytes-full : {n : ℕ} → Some n ≡ None → ⊥
bytes-full e = let z : ◌≡◌ {A = ℕ} 0 1 = cc in omega arith

refused-listing : {k n : ℕ} → A.Refused k ≡ A.Listing n → ⊥
refused-listing e = let z : ◌≡◌ {A = ℕ} 0 1 = cc in omega arith

-- what is listed of a run that came to u
listed_by : (k : ℕ) (u : run.Outcome) (room : ℕ) (b : Bool) → leb (length (listing_of k u)) room ≡ b → listed_of k (ok u) room ≡ (rule 14 b >>= λ _. ok (listing_of k u))
unfolding listed_of
listed_by k u room b e = ap (λ (z : Bool). rule 14 z >>= λ _. ok (listing_of k u)) e

module _ (k : ℕ) (u : run.Outcome) (out out' : List ℕ) where
  abbrev l : List ℕ
  l = listing_of k u

  pub answer-bytes : (n : ℕ) → Some n ≡ L.answer_of l out → out' ≡ L.output_of l out → Answers k (ok u) out out' (A.Listing n)
  unfolding output_after
  answer-bytes n e o = go (leb (length l) (length out)) refl e o
    where
      go : (b : Bool) → leb (length l) (length out) ≡ b → Some n ≡ pick b (Some (length l)) None → out' ≡ pick b (l ++ drop (length l) out) out → Answers k (ok u) out out' (A.Listing n)
      go true q e o =
          let s = listed_by k u (length out) true q in
          let t : take n out' ≡ l = rw (bytes-inj e, o) (take-append_seam l (drop (length l) out)) in
          let h : length l ≤ length out = leb-true (length l) (length out) q in
          record { answer = ap (λ (z : List ℕ). ok z) t ∙ sym s; output = rw s o; fits = λ m z. let i : n ≡ m = cc in omega (arith, h, i, bytes-inj e) }
      go false q e o = absurd (bytes-full e)

  pub answer-full : None ≡ L.answer_of l out → out' ≡ L.output_of l out → Answers k (ok u) out out' (A.Refused 14)
  unfolding output_after
  answer-full e o = go (leb (length l) (length out)) refl e o
    where
      go : (b : Bool) → leb (length l) (length out) ≡ b → None ≡ pick b (Some (length l)) None → out' ≡ pick b (l ++ drop (length l) out) out → Answers k (ok u) out out' (A.Refused 14)
      go true q e o = absurd (bytes-full (sym e))
      go false q e o = let s = listed_by k u (length out) false q in record { answer = sym s; output = rw s o; fits = λ m z. absurd (refused-listing z) }

-- what `list` answers and leaves for the report f of an outcome o
module _ (o : Outcome) (f : Report) (terms runs : List ℕ) (complete : f.complete ≡ o.complete) (pairs : f.pairs ≡ o.pairs) (rounds : f.rounds ≡ o.rounds) (size : f.size ≡ o.size) (mass : f.mass ≡ o.mass) (checks : f.checks ≡ o.checks) where
  reported : outcome_of f (pool_of terms runs) o.root ≡ outcome_in o terms runs
  reported = λ i. record { complete = complete i; nodes = pairs i; rounds = rounds i; quality = (size i, mass i); pool = (outcome_in o terms runs).pool; root = o.root; checks = checks i }

  module _ (marks out marks' out' : List ℕ) (w : Option ℕ) (X : L.Lists terms runs o.root f marks out marks' out' w) (k : ℕ) (skipped : f.skipped ≡ k) where
    pub listed-bytes : (n : ℕ) → w ≡ Some n → Answers k (ok (outcome_in o terms runs)) out out' (A.Listing n)
    listed-bytes n e = rw (← reported, ← skipped) (answer-bytes f.skipped (outcome_of f (pool_of terms runs) o.root) out out' n (sym e ∙ X.answer) X.output)

    pub listed-full : w ≡ None → Answers k (ok (outcome_in o terms runs)) out out' (A.Refused 14)
    listed-full e = rw (← reported, ← skipped) (answer-full f.skipped (outcome_of f (pool_of terms runs) o.root) out out' (sym e ∙ X.answer) X.output)

pub answer-refused : (k n : ℕ) (out : List ℕ) → Answers k (refused n) out out (A.Refused n)
unfolding listed_of output_after
answer-refused k n out = record { answer = refl; output = refl; fits = λ m z. absurd (refused-listing z) }

-- a refusal tells no number
pub answer-any : (j k n : ℕ) (m : Res run.Outcome) (out out' : List ℕ) (r : Answer) → m ≡ refused n → Answers j m out out' r → Answers k m out out' r
unfolding listed_of
answer-any j k n m out out' r e X =
    let z : listed_of j m (length out) ≡ listed_of k m (length out) = rw e refl in
    record { answer = X.answer ∙ z; output = X.output ∙ ap (output_after out) z; fits = X.fits }

-- the same listing, the same answer
pub answer-same : (k : ℕ) (m : Res run.Outcome) (u v : run.Outcome) (out out' : List ℕ) (r : Answer) → m ≡ ok u → listing_of k u ≡ listing_of k v → Answers k (ok v) out out' r → Answers k m out out' r
unfolding listed_of
answer-same k m u v out out' r e s X =
    let z : listed_of k m (length out) ≡ listed_of k (ok v) (length out) = rw e (ap (λ (l : List ℕ). rule 14 (leb (length l) (length out)) >>= λ _. ok l) s) in
    record { answer = X.answer ∙ sym z; output = X.output ∙ ap (output_after out) (sym z); fits = X.fits }
