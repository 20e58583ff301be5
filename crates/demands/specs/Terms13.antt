-- Refusal 13, of a call of `merge`, from its contract: "Distinct terms counted for 13: best terms, starting terms, one final term for each pair improved in a round."
-- It is returned only where these terms (counted/Counted) are more than 16,384, or their runs more than 65,536; and not where they are few.
use Rattle.std.specs.Prelude.{◌≡◌, ◌≢◌, Bool, List, ℕ, ◌+◌, ◌*◌, ◌≤◌, max, length}
use Rattle.spec.specs.Bytes.{Two, ok, passed}
use Rattle.spec.specs.Image.{Tables, tables_of}
use Rattle.spec.specs.Action.{joins}
use Rattle.spec.specs.Graph.{build}
use Rattle.spec.specs.Run.{limits_for, Outcome}
use Rattle.spec.specs.declared.Caller.{Caller}
use Rattle.spec.specs.Meaning.{In, tree_at}
use Rattle.laws.specs.Valid.{Valid}
use Rattle.laws.specs.Accepted as A
use Rattle.lgg.specs.Pairs.{PairCount, FirstQuiet}
use Rattle.counted.specs.Counted.{term_after, Counted, Beyond}
use Rattle.counted.specs.CountedFew.{Ends, FinalRuns}
use Rattle.counted.proofs.CountedRun as L
use Rattle.counted.specs.Refused13 as N
use Rattle.counted.proofs.Refused13 as P
use Rattle.contract.specs.declared.Answer.{Answer}
use Rattle.contract.specs.declared.Answer.TheVariants.{Listing, Refused}
use Rattle.contract.specs.Merges.{Merges}
use Rattle.demands.specs.Calls.{Taken, read_of, accepted}
use Rattle.demands.specs.Refusals.{refused-13}

module _ (who : Caller) (image : List ℕ) (left right budget : ℕ) (fit : Bool) (out out' : List ℕ) (r : Answer) (m : Merges who image left right budget fit out out' r) where
  abbrev t : Tables
  t = tables_of image

  valid : Taken fit image left right → Valid t
  valid T = A.valid image t (read_of image T.sound)

  -- Only where the graph is built, over pairs ps, and distinct terms counted for 13 are more than 16,384 or have more than 65,536 runs.
  pub refused-13-beyond : r ≡ Refused 13 → (ps : List Two) × (c : ℕ) × (build (limits_for who) t (left, right) budget ≡ ok (passed ps c)) × Beyond (Counted t ps budget)
  refused-13-beyond e = let (T, z) = (refused-13 who image left right budget fit out out' r m).0 e in L.refused-13-beyond who t (valid T) (left, right) T.asked budget z

  -- Not where these terms are few: best terms are at most as many as classes, with 64 runs at most; starting terms as pairs, with 2; final terms as pairs in R rounds, with w.
  -- ps are the pairs of the full graph; no round with the index R or above is begun and improves a pair; no final term has more than w runs.
  pub not-refused-13 : (B C : ℕ) (ps : List Two) → build (limits_for who) t (left, right) B ≡ ok (passed ps C) → (R w : ℕ) → Ends t ps budget R → FinalRuns t ps budget w
      → length t.classes + length ps * (R + 1) ≤ 16384 → 64 * length t.classes + 2 * length ps + length ps * R * w ≤ 65536 → r ≢ Refused 13
  not-refused-13 B C ps b R w ends runs few light e =
      let (T, z) = (refused-13 who image left right budget fit out out' r m).0 e in
      P.not-refused-13 who t (valid T) (left, right) T.asked budget B C ps b R w ends runs few light z

  -- .. R the first quiet round; w places that the actions of a pair join, at most
  pub not-refused-13-joined : (B C : ℕ) (ps : List Two) → build (limits_for who) t (left, right) B ≡ ok (passed ps C) → (R w : ℕ) → FirstQuiet t ps R → ((q : Two) → In q ps → length (joins t q) ≤ w)
      → length t.classes + length ps * (R + 1) ≤ 16384 → 64 * length t.classes + 2 * length ps + length ps * R * w ≤ 65536 → r ≢ Refused 13
  not-refused-13-joined B C ps b R w quiet joined = not-refused-13 B C ps b R w (N.ends-quiet t ps budget R quiet) (N.final-runs-joined t ps budget w joined)

  -- .. or w the larger of 64 and the number of pairs, always
  pub not-refused-13-rounds : (B C : ℕ) (ps : List Two) → build (limits_for who) t (left, right) B ≡ ok (passed ps C) → (R : ℕ) → FirstQuiet t ps R
      → length t.classes + length ps * (R + 1) ≤ 16384 → 64 * length t.classes + 2 * length ps + length ps * R * max 64 (length ps) ≤ 65536 → r ≢ Refused 13
  not-refused-13-rounds B C ps b R quiet few light e =
      let (T, z) = (refused-13 who image left right budget fit out out' r m).0 e in
      P.not-refused-13-rounds who t (valid T) (left, right) T.asked budget B C ps b R (N.ends-quiet t ps budget R quiet) few light z

  -- By numbers alone: n pairs, and a budget that ends before round R.
  pub not-refused-13-checks : (n : ℕ) → PairCount t (left, right) n → (R : ℕ) → budget ≤ 2 * n + R * (n + 1)
      → length t.classes + n * (R + 1) ≤ 16384 → 64 * length t.classes + 2 * n + n * R * max 64 n ≤ 65536 → r ≢ Refused 13
  not-refused-13-checks n c R b few light e =
      let (T, z) = (refused-13 who image left right budget fit out out' r m).0 e in
      P.not-refused-13-checks who t (valid T) (left, right) T.asked budget n c R b few light z

  -- .. n pairs, whatever the budget
  pub not-refused-13-pairs : (n : ℕ) → PairCount t (left, right) n → length t.classes + n * (n + 1) ≤ 16384 → 64 * length t.classes + 2 * n + n * n * max 64 n ≤ 65536 → r ≢ Refused 13
  not-refused-13-pairs n c few light e =
      let (T, z) = (refused-13 who image left right budget fit out out' r m).0 e in
      P.not-refused-13-pairs who t (valid T) (left, right) T.asked budget n c few light z

  -- .. and never before the first round
  pub not-refused-13-before-rounds : (n : ℕ) → PairCount t (left, right) n → budget ≤ 2 * n → r ≢ Refused 13
  not-refused-13-before-rounds n c b e =
      let (T, z) = (refused-13 who image left right budget fit out out' r m).0 e in
      P.not-refused-13-before-rounds who t (valid T) (left, right) T.asked budget n c b z

-- These are the terms that a run builds: the formula is the queried pair's term after the rounds reported. ps are the pairs of the full graph.
module _ (who : Caller) (image : List ℕ) (left right budget : ℕ) (fit : Bool) (out out' : List ℕ) (n : ℕ) (m : Merges who image left right budget fit out out' (Listing n)) where
  abbrev o : Outcome
  o = (accepted who image left right budget fit out out' n m).o

  pub the-term-after : (B C : ℕ) (ps : List Two) → build (limits_for who) (tables_of image) (left, right) B ≡ ok (passed ps C) → tree_at o.pool o.root ≡ term_after (tables_of image) ps o.rounds (left, right)
  the-term-after B C ps b =
      let a = accepted who image left right budget fit out out' n m in
      L.run-term who (tables_of image) (A.valid image (tables_of image) (read_of image a.taken.sound)) (left, right) a.taken.asked B C ps b budget o a.ran
