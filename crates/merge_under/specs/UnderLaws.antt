-- What the parts of `merge_under` cite.
use Rattle.std.specs.Prelude.{◌≡◌, ◌≢◌, Bool, true, false, List, leb, length, replicate}
use Rattle.std.proofs.Math.Path.{refl, sym}
use Rattle.std.proofs.Common.{ap, ◌∙◌, inl, inr, arith, leb-true}
use Prim.Native.Nat.{ℕ, ◌+◌, ◌*◌, ◌≤◌, ◌<◌}
use Rattle.spec.specs.Bytes.{work_after, Limits, Res, ok, refused}
use Rattle.spec.specs.Image.{lowest_doubled, tables_of}
use Rattle.spec.specs.Pairs.{pairs, making}
use Rattle.spec.specs.Graph.{skipped_in}
use Rattle.spec.specs.Run.{Outcome, run_of}
use Rattle.spec.specs.Listing.{listing_of}
use Rattle.spec.specs.Merge.{output_after}
use Rattle.laws.specs.Valid.{Valid}
use Rattle.laws.specs.Accepted as A
use Rattle.laws.specs.Results.{refused-ok, refused-inj}
use Rattle.steps.specs.Refusals.{run-refused}
use Rattle.lgg.specs.Limits.{refuses13}
use Rattle.image.specs.Loaded.{Loaded}
use Rattle.image.specs.declared.Image.{Image}
use Rattle.query.specs.Settings.{asked_of}
use Rattle.query.specs.declared.Query.{Query}
use Rattle.outcome.specs.Answers as X
use Rattle.work_clearing.specs.Cleared as C
use Rattle.outcome.specs.declared.Answer as O
use Rattle.outcome.specs.declared.Answer.TheVariants as O'
use Rattle.beginning.specs.Beginning.{Lengths, Ready}
use Rattle.beginning.specs.ReadyLaws.{begins-ready}
use Rattle.prepared.specs.declared.Begun.{Begun}
use Rattle.pair_search.specs.declared.Pair.{Pair}
use Rattle.pair_search.specs.Records.{none}
use Rattle.prepare.specs.Preparing.{accepted_of, Goes, Prepares}
use Rattle.prepare.specs.PreparingLaws.{goes-accepted}
use Rattle.prepared.specs.declared.Prepared.{Prepared}
use Rattle.prepared.specs.declared.Prepared.TheVariants as P
use Rattle.contract.specs.declared.Answer.{Answer}
use Rattle.contract.specs.declared.Answer.TheVariants.{Listing, Refused, Doubled}
use Rattle.contract.specs.Answers.{answer_of, Carries, Cleared, Table}
use Rattle.merge_under.specs.Under.{merge_at, Roomy, MergesUnder}
use Rattle.merge_under.specs.Engine.{Stands, answer_as}

-- ---- between the halves
pub prepared-stands : (lim : Limits) (s : List ℕ) (q : Query) (p : Prepared) (graph terms runs graph' terms' runs' : List ℕ) → length graph' ≡ length graph → Prepares lim s q p graph terms runs graph' terms' runs' → Stands lim s q p graph' terms' runs'
prepared-stands lim s q (P.Refused k) graph terms runs graph' terms' runs' e (a, h, w) = (rw e a, h)
prepared-stands lim s q (P.Doubled c) graph terms runs graph' terms' runs' e (a, h, w) = (rw e a, h)
prepared-stands lim s q (P.Go im b) graph terms runs graph' terms' runs' e (G, B) = (rw e G, begins-ready lim (tables_of s) (asked_of q) q.budget im.classes graph terms runs graph' terms' runs' b B)

-- what the second half asks, with the count of the table
pub finish-asks : (lim : Limits) (s : List ℕ) (q : Query) (im : Image) (b b' : Begun) → b' ≡ b → (graph pairs work flow terms runs : List ℕ) → Stands lim s q (P.Go im b) graph terms runs → Roomy lim graph pairs work flow terms runs
    → Loaded s im × Valid (tables_of s) × (q.left < im.classes) × (q.right < im.classes) × Lengths lim im.classes graph pairs work flow terms runs × Ready lim (tables_of s) (asked_of q) q.budget im.classes b' graph terms runs
finish-asks lim s q im b b' e graph pairs work flow terms runs (G, R) W = (
  G.loaded,
  A.valid s (tables_of s) G.read,
  G.left,
  G.right,
  record { wide = leb-true (im.classes * im.classes + lim.pairs) (length graph) G.wide; marks = W.marks; numbers = W.numbers; scratch = W.scratch; rooms = W.rooms },
  rw e R,
)

-- buffers as long as those
pub roomy_after : {lim : Limits} {a b c d e f a' e' f' : List ℕ} → Roomy lim a b c d e f → length a' ≡ length a → length e' ≡ length e → length f' ≡ length f → Roomy lim a' b c d e' f'
roomy_after w p s t = record {
  marks = rw p w.marks;
  numbers = w.numbers;
  scratch = w.scratch;
  rooms = record { few = w.rooms.few; ends = w.rooms.ends; long = rw s w.rooms.long; roomy = rw t w.rooms.roomy };
}

-- ---- what is answered
module _ (lim : Limits) (m : ℕ) (s : List ℕ) (q : Query) where
  at-refused : (k : ℕ) → accepted_of lim m s q ≡ refused k → (room : ℕ) → merge_at lim m s q room ≡ refused k
  unfolding merge_at
  at-refused k e room = rw e refl

  at_goes : (im : Image) → Goes lim m s q im → (room : ℕ) → merge_at lim m s q room ≡ X.listed_of (skipped_in lim (tables_of s) (asked_of q) q.budget) (run_of lim (tables_of s) (asked_of q) q.budget) room
  unfolding merge_at X.listed_of
  at_goes im G room = rw (goes-accepted lim m s q im G) refl

  pub merges-refused : (k : ℕ) (out : List ℕ) → accepted_of lim m s q ≡ refused k → k ≢ 10 → MergesUnder lim m s q out out (Refused k)
  unfolding output_after
  merges-refused k out e h = let r = at-refused k e (length out) in record { answer = sym r; output = sym (ap (output_after out) r); carries = h }

  pub merges-doubled : (c : ℕ) (out : List ℕ) → accepted_of lim m s q ≡ refused 10 → c ≡ lowest_doubled (tables_of s) → MergesUnder lim m s q out out (Doubled c)
  unfolding output_after
  merges-doubled c out e h = let r = at-refused 10 e (length out) in record { answer = sym r; output = sym (ap (output_after out) r); carries = h }

  -- the run's refusals are 12 and 13, and 14 is the listing's
  listed-not-ten : (room k : ℕ) → X.listed_of (skipped_in lim (tables_of s) (asked_of q) q.budget) (run_of lim (tables_of s) (asked_of q) q.budget) room ≡ refused k → k ≢ 10
  unfolding X.listed_of
  listed-not-ten room k e = go (run_of lim (tables_of s) (asked_of q) q.budget) refl e
    where
      over : ℕ
      over = skipped_in lim (tables_of s) (asked_of q) q.budget

      go : (r : Res Outcome) → run_of lim (tables_of s) (asked_of q) q.budget ≡ r → X.listed_of over r room ≡ refused k → k ≢ 10
      go (refused n) y z =
          let i : n ≡ k = refused-inj z in
          elim (run-refused (pairs (tables_of s)) (making lim (tables_of s)) (refuses13 lim (tables_of s)) (asked_of q) q.budget n y) [ inl x ↦ let v = x.0 in λ w. absurd (omega arith) | inr x ↦ λ w. absurd (omega arith) ]
      go (ok o) y z = by (leb (length (listing_of over o)) room) refl z
        where
          by : (x : Bool) → leb (length (listing_of over o)) room ≡ x → X.listed_of over (ok o) room ≡ refused k → k ≢ 10
          by true f y = let u : X.listed_of over (ok o) room ≡ ok (listing_of over o) = rw f refl in absurd (refused-ok (sym y ∙ u))
          by false f y = let u : X.listed_of over (ok o) room ≡ refused 14 = rw f refl in let v : 14 ≡ k = refused-inj (sym u ∙ y) in λ w. absurd (omega arith)

  -- the engine's answer is the call's
  pub merges-run : (im : Image) → Goes lim m s q im → (out out' : List ℕ) (a : O.Answer) → X.Answers (skipped_in lim (tables_of s) (asked_of q) q.budget) (run_of lim (tables_of s) (asked_of q) q.budget) out out' a → length out' ≡ length out → MergesUnder lim m s q out out' (answer_as a)
  merges-run im G out out' a F k = let e = at_goes im G (length out) in record { answer = same a ∙ F.answer ∙ sym e; output = F.output ∙ ap (output_after out) (sym e); carries = says a F.answer F.fits }
    where
      same : (x : O.Answer) → answer_of out' (answer_as x) ≡ X.answer_of out' x
      same (O'.Listing n) = refl
      same (O'.Refused j) = refl

      says : (x : O.Answer) → X.answer_of out' x ≡ X.listed_of (skipped_in lim (tables_of s) (asked_of q) q.budget) (run_of lim (tables_of s) (asked_of q) q.budget) (length out) → ((n : ℕ) → x ≡ O'.Listing n → n ≤ length out) → Carries s out' (answer_as x)
      says (O'.Listing n) y f = rw k (f n refl)
      says (O'.Refused j) y f = listed-not-ten (length out) j (sym y)

-- ---- what is cleared
pub cleared-of : {a b c d e f u v w x y z : List ℕ} → C.Cleared a b c d e f u v w x y z → Cleared true a u b v c w d x e y f z
cleared-of C = record { graph = C.graph; pairs = C.pairs; work = C.work; flow = C.flow; terms = C.terms; runs = C.runs }

-- cleared from a list as long as the first
cleared-as : {B : Type 0} (empty : B) (x y z : List B) → length y ≡ length x → z ≡ work_after empty true y → z ≡ work_after empty true x
cleared-as empty x y z l h = h ∙ ap (λ (n : ℕ). replicate n empty) l

pub table-cleared : (x y z : List Pair) → length y ≡ length x → z ≡ work_after none true y → Table true x z
table-cleared x y z l h = cleared-as none x y z l h

pub work-cleared : (a b c d e f a' e' f' u v w x y z : List ℕ) → length a' ≡ length a → length e' ≡ length e → length f' ≡ length f → Cleared true a' u b v c w d x e' y f' z → Cleared true a u b v c w d x e y f z
work-cleared a b c d e f a' e' f' u v w x y z p₁ p₅ p₆ k = record {
  graph = cleared-as 0 a a' u p₁ k.graph;
  pairs = k.pairs;
  work = k.work;
  flow = k.flow;
  terms = cleared-as 0 e e' y p₅ k.terms;
  runs = cleared-as 0 f f' z p₆ k.runs;
}
