-- What the second run cites, and what the merge at given limits has to do with a caller's call.
use Rattle.std.proofs.Math.Path.{◌≡◌, refl}
use Rattle.std.proofs.Common.{sym, ap, subst, ◌∙◌, arith, le-leb}
use Rattle.std.specs.Prelude.{Bool, List, ℕ, ◌+◌, ◌*◌, ◌≤◌, leb, ltb, length}
use Rattle.std.proofs.Math.Bool.{true, false}
use Rattle.spec.specs.Bytes as bytes
use Rattle.spec.specs.Bytes.{both, Res, ok, refused, ◌>>=◌, rule}
use Rattle.spec.specs.Image.{Tables, image_of}
use Rattle.spec.specs.Graph.{skipped_in}
use Rattle.spec.specs.Run.{limit_of, limits_for, run_of}
use Rattle.spec.specs.Merge.{merge_under, merge_for, output_after}
use Rattle.spec.specs.declared.Caller.{Caller}
use Rattle.spec.specs.declared.Caller.TheVariants.{Page, Desk}
use Rattle.laws.specs.Accepted as A
use Rattle.laws.specs.Results.{refused-inj}
use Rattle.lgg.specs.Limits.{limit-most, merge-same, merge-twelve}
use Rattle.pools.specs.Refused.{NoLess}
use Rattle.arrays.specs.ArrayLaws.{square}
use Rattle.query.specs.Settings.{asked_of, limits_of}
use Rattle.query.specs.declared.Limits.{Limits}
use Rattle.query.specs.declared.Query.{Query}
use Rattle.pair_search.specs.declared.Pair.{Pair}
use Rattle.outcome.specs.Answers as X
use Rattle.prepare.specs.Preparing.{room_for, accepted_of}
use Rattle.contract.specs.declared.Answer.{Answer}
use Rattle.contract.specs.Merges.{Merges}
use Rattle.merge_under.specs.Under.{merge_at, Roomy, MergesUnder}
use Rattle.second_run.specs.Twice.{Full}

-- either caller's limit is at least 64, as the runs of a turn's winner need
limit-many : (c : Caller) → 64 ≤ limit_of c
limit-many Page = omega arith
limit-many Desk = omega arith

-- ---- the merge at given limits, and a caller's call
module _ (s : List ℕ) (q : Query) (room : ℕ) where
  -- what stands past 11
  rest : bytes.Limits → Tables → Res (List ℕ)
  rest lim t = X.listed_of (skipped_in lim t (asked_of q) q.budget) (run_of lim t (asked_of q) q.budget) room

  eleven : Tables → Res Unit
  eleven t = rule 11 (both (ltb q.left (length t.classes)) (ltb q.right (length t.classes)))

  -- 13 for want of room is all that `merge_under` does not have
  under_at : (lim : bytes.Limits) (m : ℕ) (r : Res (List ℕ)) → merge_at lim m s q room ≡ r → ((r ≡ refused 13) → ⊥) → merge_under lim true s q.left q.right q.budget room ≡ r
  unfolding merge_at accepted_of merge_under X.listed_of rest eleven
  under_at lim m r e n13 = first (image_of s) e
    where
      third : (t : Tables) (b : Bool) → ((rule 13 b >>= λ _. ok t) >>= rest lim) ≡ r → rest lim t ≡ r
      third t true e = e
      third t false e = absurd (n13 (sym e))

      second : (t : Tables) (x : Res Unit) → ((x >>= λ _. (rule 13 (room_for lim (length t.classes) m) >>= λ _. ok t)) >>= rest lim) ≡ r → (x >>= λ _. rest lim t) ≡ r
      second t (ok u) e = third t (room_for lim (length t.classes) m) e
      second t (refused n) e = e

      first : (x : Res Tables) → ((x >>= λ t. (eleven t >>= λ _. (rule 13 (room_for lim (length t.classes) m) >>= λ _. ok t))) >>= rest lim) ≡ r → (x >>= λ t. (eleven t >>= λ _. rest lim t)) ≡ r
      first (ok t) e = second t (eleven t) e
      first (refused n) e = e

  module _ (c : Caller) (lim : bytes.Limits) (less : NoLess lim (limits_for c)) (m : ℕ) where
    -- an answer under smaller limits that is neither 12 nor 13 is the call's
    pub under_same : (r : Res (List ℕ)) → merge_at lim m s q room ≡ r → ((r ≡ refused 12) → ⊥) → ((r ≡ refused 13) → ⊥) → merge_for c true s q.left q.right q.budget room ≡ r
    unfolding merge_for
    under_same r e n12 n13 = merge-same lim (limits_for c) less true s q.left q.right q.budget room r (under_at lim m r e n13) n12 n13

    -- so is 12 where the limits have as many pairs as the caller may hold
    pub under-twelve : lim.pairs ≡ limit_of c → merge_at lim m s q room ≡ refused 12 → merge_for c true s q.left q.right q.budget room ≡ refused 12
    unfolding merge_for
    under-twelve h e = merge-twelve lim (limits_for c) less h true s q.left q.right q.budget room (under_at lim m (refused 12) e (λ z. let i : ◌≡◌ {A = ℕ} 12 13 = refused-inj z in absurd (omega arith)))

  -- an array of 65,536 numbers and one a pair has room for the classes of every image
  pub under-full : (c : Caller) (m : ℕ) → 65536 + limit_of c ≤ m → merge_at (limits_for c) m s q room ≡ merge_for c true s q.left q.right q.budget room
  unfolding merge_at accepted_of merge_for merge_under X.listed_of rest eleven
  under-full c m h = first (image_of s) refl
    where
      third : (t : Tables) (b : Bool) → b ≡ true → ((rule 13 b >>= λ _. ok t) >>= rest (limits_for c)) ≡ rest (limits_for c) t
      third t b e = rw e refl

      second : (t : Tables) → room_for (limits_for c) (length t.classes) m ≡ true → (x : Res Unit) → ((x >>= λ _. (rule 13 (room_for (limits_for c) (length t.classes) m) >>= λ _. ok t)) >>= rest (limits_for c)) ≡ (x >>= λ _. rest (limits_for c) t)
      second t e (ok u) = third t (room_for (limits_for c) (length t.classes) m) e
      second t e (refused n) = refl

      first : (x : Res Tables) → image_of s ≡ x → ((x >>= λ t. (eleven t >>= λ _. (rule 13 (room_for (limits_for c) (length t.classes) m) >>= λ _. ok t))) >>= rest (limits_for c)) ≡ (x >>= λ t. (eleven t >>= λ _. rest (limits_for c) t))
      first (ok t) e = second t (le-leb (length t.classes * length t.classes + limit_of c) m (omega (arith, h, square (length t.classes) (A.valid s t e).counts.few_classes))) (eleven t)
      first (refused n) e = refl

-- ---- the second run
-- its arrays have room for it
full-roomy : (c : Caller) {a b d e f g : List ℕ} → Full c a b d e f g → Roomy (limits_for c) a b d e f g
full-roomy c w =
    let k = limit-most c in
    let h = limit-many c in
    record {
      marks = omega (arith, w.graph);
      numbers = omega (arith, w.pairs);
      scratch = record { few = omega arith; list = omega (arith, w.work); costs = omega (arith, w.work); plan = omega (arith, w.flow) };
      rooms = record { few = omega arith; ends = omega arith; long = omega (arith, w.terms); roomy = omega (arith, w.runs) };
    }

-- what a call of `merge_under` asks
abbrev pub Asked : Limits → List Pair → List ℕ → List ℕ → List ℕ → List ℕ → List ℕ → List ℕ → Type 0
Asked lim t a b c d e f = (lim.pairs ≤ 4096) × (lim.pairs ≤ length t) × Roomy (limits_of lim) a b c d e f

pub asked-full : (c : Caller) (lim : Limits) (t : List Pair) (a b d e f g : List ℕ) → limits_of lim ≡ limits_for c → length t ≡ 4096 → Full c a b d e f g → Asked lim t a b d e f g
asked-full c lim t a b d e f g z k w =
    let n : lim.pairs ≡ limit_of c = ap (λ (l : bytes.Limits). l.pairs) z in
    let h = limit-most c in
    (omega (arith, n), omega (arith, n, k), subst (λ (l : bytes.Limits). Roomy l a b d e f g) (sym z) (full-roomy c w))

-- its answer is the call's
pub merges-full : (s : List ℕ) (q : Query) (lim : Limits) → limits_of lim ≡ limits_for q.caller → (m : ℕ) → 65536 + limit_of q.caller ≤ m → (out out' : List ℕ) (r : Answer) → MergesUnder (limits_of lim) m s q out out' r → Merges q.caller s q.left q.right q.budget true out out' r
merges-full s q lim z m h out out' r F =
    let e : merge_at (limits_of lim) m s q (length out) ≡ merge_for q.caller true s q.left q.right q.budget (length out) = ap (λ (l : bytes.Limits). merge_at l m s q (length out)) z ∙ under-full s q (length out) q.caller m h in
    record { answer = F.answer ∙ e; output = F.output ∙ ap (output_after out) e; carries = F.carries }
