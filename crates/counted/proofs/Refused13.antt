-- Where a run is not refused by 13: its terms, counted by classes, pairs and rounds, stay within 16,384, and their runs within 65,536.
use Rattle.std.specs.Prelude.{◌≡◌, ◌≢◌, List, ℕ, ◌+◌, ◌*◌, ◌≤◌, max, length}
use Rattle.std.proofs.Common.{sym, ◌∙◌, arith}
use Rattle.std.proofs.Math.Decide.{dec_le}
use Rattle.spec.specs.Bytes.{Two, ok, refused, passed}
use Rattle.spec.specs.Image.{Tables}
use Rattle.spec.specs.Graph.{build}
use Rattle.spec.specs.Pairs.{pairs}
use Rattle.spec.specs.Run.{limit_of, limits_for, run_of}
use Rattle.spec.specs.declared.Caller.{Caller}
use Rattle.spec.specs.Meaning.{In}
use Rattle.laws.specs.Valid.{Valid}
use Rattle.laws.specs.Results.{refused-ok}
use Rattle.steps.specs.Graph.{NodeCount, build-whole, build-passed, build-same, build-over}
use Rattle.laws.specs.BestMembers.{IsPair}
use Rattle.lgg.specs.Within.{reach-within}
use Rattle.lgg.specs.Limits.{limit-most}
use Rattle.counted.specs.Counted.{Counted, Beyond}
use Rattle.counted.specs.CountedFew.{Ends, FinalRuns}
use Rattle.counted.proofs.CountedFew.{counted-few}
use Rattle.counted.specs.CountedRun.{Slim}
use Rattle.counted.proofs.CountedRun.{refused-13-slim, refused-13-beyond}
use Rattle.counted.specs.Refused13.{ends-checks, ends-pairs}

-- ---- not refused
module _ (who : Caller) (t : Tables) (v : Valid t) (p : Two) (h : IsPair t p) (b : ℕ) where
  pairs-within : (B C : ℕ) (ps : List Two) → build (limits_for who) t p B ≡ ok (passed ps C) → (q : Two) → In q ps → IsPair t q
  pairs-within B C ps e q i = reach-within t v p q h (((build-whole (pairs t) (limit_of who) p B C ps e).exactly q).0 i)

  -- Best terms are at most as many as classes, with 64 runs at most; starting terms as pairs, with 2; final terms as pairs in R rounds, with w.
  -- ps are the pairs of the full graph; no round with the index R or above is begun and improves a pair; no final term has more than w runs.
  pub not-refused-13 : (B C : ℕ) (ps : List Two) → build (limits_for who) t p B ≡ ok (passed ps C) → (R w : ℕ) → Ends t ps b R → FinalRuns t ps b w
      → length t.classes + length ps * (R + 1) ≤ 16384 → 64 * length t.classes + 2 * length ps + length ps * R * w ≤ 65536 → run_of (limits_for who) t p b ≢ refused 13
  not-refused-13 B C ps e R w ends runs few light z =
      let (qs, c, k, beyond) = refused-13-beyond who t v p h b z in
      counted-few t v ps (pairs-within B C ps e) b R w ends (Counted t ps b) (λ x d. d) (λ x d k q i m l e. rw e (runs k q i m l)) few light (rw (build-same (pairs t) (limit_of who) p b c B C qs ps k e) at beyond)

  -- The final terms that a run enters have at most 64 runs, or as many as there are pairs.
  slim : (R c : ℕ) (ps : List Two) → build (limits_for who) t p b ≡ ok (passed ps c) → Ends t ps b R
      → length t.classes + length ps * (R + 1) ≤ 16384 → 64 * length t.classes + 2 * length ps + length ps * R * max 64 (length ps) ≤ 65536 → Beyond (Slim t ps b) → ⊥
  slim R c ps e ends = counted-few t v ps (pairs-within b c ps e) b R (max 64 (length ps)) ends (Slim t ps b) (λ x d. d.0) (λ x d k q i m l e. d.1)

  -- So R alone is wanted.
  pub not-refused-13-rounds : (B C : ℕ) (ps : List Two) → build (limits_for who) t p B ≡ ok (passed ps C) → (R : ℕ) → Ends t ps b R
      → length t.classes + length ps * (R + 1) ≤ 16384 → 64 * length t.classes + 2 * length ps + length ps * R * max 64 (length ps) ≤ 65536 → run_of (limits_for who) t p b ≢ refused 13
  not-refused-13-rounds B C ps e R ends few light z =
      let (qs, c, k, beyond) = refused-13-slim who t v p h b z in
      let same = build-same (pairs t) (limit_of who) p b c B C qs ps k e in
      slim R c ps (rw same at k) ends few light (rw same at beyond)

  -- By numbers alone: n pairs, and a budget that ends before round R.
  pub not-refused-13-checks : (n : ℕ) → NodeCount (pairs t) p n → (R : ℕ) → b ≤ 2 * n + R * (n + 1)
      → length t.classes + n * (R + 1) ≤ 16384 → 64 * length t.classes + 2 * n + n * R * max 64 n ≤ 65536 → run_of (limits_for who) t p b ≢ refused 13
  not-refused-13-checks n count R short few light z =
      let (ps, c, k, beyond) = refused-13-slim who t v p h b z in
      let (l, s) = build-passed (pairs t) (limit_of who) p n count b c ps k in
      slim R c ps k (ends-checks t ps b R (rw l short)) (rw l few) (rw l light) beyond

  -- .. and n pairs, whatever the budget.
  pub not-refused-13-pairs : (n : ℕ) → NodeCount (pairs t) p n → length t.classes + n * (n + 1) ≤ 16384 → 64 * length t.classes + 2 * n + n * n * max 64 n ≤ 65536 → run_of (limits_for who) t p b ≢ refused 13
  not-refused-13-pairs n count few light z =
      let (ps, c, k, beyond) = refused-13-slim who t v p h b z in
      let (l, s) = build-passed (pairs t) (limit_of who) p n count b c ps k in
      slim (length ps) c ps k (ends-pairs who t p b c ps k b) (rw l few) (rw l light) beyond

  -- 13 is met in rounds only: 256 best terms and 4,096 starting terms, the most that a caller's pairs have, are within the limits.
  pub not-refused-13-before-rounds : (n : ℕ) → NodeCount (pairs t) p n → b ≤ 2 * n → run_of (limits_for who) t p b ≢ refused 13
  not-refused-13-before-rounds n count short z =
      let (ps, c, k, beyond) = refused-13-beyond who t v p h b z in
      let (l, s) = build-passed (pairs t) (limit_of who) p n count b c ps k in
      let few = most c ps k s (dec_le n (limit_of who)) in
      not-refused-13-checks n count 0 (omega arith) (omega (arith, v.counts.few_classes, limit-most who)) (omega (arith, v.counts.few_classes, limit-most who)) z
    where
      most : (c : ℕ) (ps : List Two) → build (limits_for who) t p b ≡ ok (passed ps c) → b ≡ n + c → Dec (n ≤ limit_of who) → n ≤ limit_of who
      most c ps k s (yes l) = l
      most c ps k s (no l) = absurd (refused-ok (sym (build-over (pairs t) (limit_of who) p n b count (omega arith) (omega arith)) ∙ k))
