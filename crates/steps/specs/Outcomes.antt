-- What the outcomes of runs have to do with the qualities after their rounds, and with each other.
use Rattle.std.specs.Prelude.{◌≡◌, refl, ◌≢◌, ◌↔◌, true, false, List, [], ◌∷◌, ℕ, suc, ◌*◌, ◌/◌, ◌%◌, ◌≤◌, ◌<◌, min, length, get_or}
use Rattle.std.proofs.Common.{sym, ap, ◌∙◌, inl, inr, zero-le, arith, le_refl, mod-lt, mul-le-mul_right, lt_of_not-le}
use Rattle.std.proofs.Math.Nat.{div-add-mod}
use Rattle.std.proofs.Math.Decide.{dec_le}
use Rattle.spec.specs.Bytes.{In, here, place, Two, ok, passed}
use Rattle.spec.specs.Pool.{Interned}
use Rattle.spec.specs.System.{System, Making, build, look_up, qualities_after, Outcome, started, run_of, Derivation, start, action}
use Rattle.spec.specs.Meaning.{◌⊑◌}
use Rattle.laws.specs.Tests.{clash}
use Rattle.steps.specs.Quality.{⊑-of-eq}
use Rattle.steps.specs.Rounds.{LeastOf, quality_after, changed, quiet_same, changed-differs}
use Rattle.steps.specs.Enter.{Starts}
use Rattle.steps.specs.Graph.{NodeCount, build-whole, build-first, build-passed, build-cut, build-same}
use Rattle.steps.specs.Run.{Status, Ended, Ends, in_building, in_starting, in_rounds, run_ends}

-- ---- the queried node stands first
first-place : {N : Type 0} (S : System N) (p : N) (ps : List N) (qs : List Two) → Starts (p ∷ []) ps → get_or qs 0 (0, 0) ≡ look_up S.same (0, 0) ps qs p
unfolding place
first-place S p ps qs (rest, e) = rw e (rw (S.decides.alike p, place) refl)

pub root_in : {N : Type 0} (S : System N) (lim : ℕ) (p : N) (b c : ℕ) (ps : List N) → build S lim p b ≡ ok (passed ps c) → In p ps
root_in S lim p b c ps e = let s = build-first S lim p b c ps e in rw s.1 here

pub root-quality : {N : Type 0} (S : System N) (lim : ℕ) (p : N) (b c d : ℕ) (ps : List N) (o : Outcome) → build S lim p b ≡ ok (passed ps c) → Ended S ps d o → o.quality ≡ quality_after S ps o.rounds p
root-quality S lim p b c d ps o e f = f.quality ∙ first-place S p ps (qualities_after S o.rounds ps) (build-first S lim p b c ps e)

-- ---- a run cut short before its rounds
pub started-says : {N : Type 0} (S : System N) (b : ℕ) (p : N) (root : Interned) (n : ℕ) (o : Outcome) → o ≡ started S b p root n → (o.nodes ≡ n) × (o.rounds ≡ 0) × (o.complete ≡ false) × (o.quality ≡ S.starting_quality p)
unfolding started
started-says S b p root n o e = (ap (λ (z : Outcome). z.nodes) e, ap (λ (z : Outcome). z.rounds) e, ap (λ (z : Outcome). z.complete) e, ap (λ (z : Outcome). z.quality) e)

zero-least : {N : Type 0} (S : System N) (Move : N → List N → List ℕ → Type 0) (p : N) → LeastOf S Move 0 p (S.starting_quality p)
zero-least S Move p = ((0, le_refl 0, start refl), λ y d. go d.0 d.1 y d.2)
  where
    go : (k : ℕ) → k ≤ 0 → (y : Two) → Derivation S Move k p y → S.starting_quality p ⊑ y
    go k h y (start e) = ⊑-of-eq (sym e)
    go k h y (action cs x m zs l e) = absurd (omega arith)

pub started-least : {N : Type 0} (S : System N) (Move : N → List N → List ℕ → Type 0) (b : ℕ) (p : N) (root : Interned) (n : ℕ) (o : Outcome) → o ≡ started S b p root n → LeastOf S Move o.rounds p o.quality
started-least S Move b p root n o e = let (a, r, c, q) = started-says S b p root n o e in rw (r, q) (zero-least S Move p)

-- ---- a run that reached its rounds
pub quiet-if-complete : {N : Type 0} (S : System N) (ps : List N) (b : ℕ) (o : Outcome) → Ended S ps b o → o.complete ≡ true → changed S ps o.rounds ≡ false
quiet-if-complete S ps b o f full = go f.status
  where
    go : Status S ps b o → changed S ps o.rounds ≡ false
    go (inl x) = x.1
    go (inr x) = absurd (clash (sym full ∙ x.0))

div_is : (d n r : ℕ) → r * suc n ≤ d → d < suc r * suc n → d / suc n ≡ r
div_is d n r h k = go (dec_le (d / suc n) r) (dec_le r (d / suc n))
  where
    go : Dec (d / suc n ≤ r) → Dec (r ≤ d / suc n) → d / suc n ≡ r
    go (yes x) (yes y) = omega arith
    go (no x) y = absurd (omega (arith, div-add-mod d (suc n), mul-le-mul_right (suc n) (lt_of_not-le x)))
    go (yes x) (no y) = let small : d % suc n < suc n = mod-lt d (omega arith) in absurd (omega (arith, div-add-mod d (suc n), mul-le-mul_right (suc n) (lt_of_not-le y)))

div-above : (d n r : ℕ) → r * suc n ≤ d → r ≤ d / suc n
div-above d n r h = go (dec_le r (d / suc n))
  where
    go : Dec (r ≤ d / suc n) → r ≤ d / suc n
    go (yes y) = y
    go (no y) = let small : d % suc n < suc n = mod-lt d (omega arith) in absurd (omega (arith, div-add-mod d (suc n), mul-le-mul_right (suc n) (lt_of_not-le y)))

-- the rounds reported, from the first round without change, R, and the checks
pub rounds-reported : {N : Type 0} (S : System N) (ps : List N) (R b : ℕ) (o : Outcome)
    → ((r : ℕ) → r < R → qualities_after S (suc r) ps ≢ qualities_after S r ps) → qualities_after S (suc R) ps ≡ qualities_after S R ps → Ended S ps b o
    → (o.rounds ≡ min R (b / suc (length ps))) × ((o.complete ≡ true) ↔ (suc R * suc (length ps) ≤ b))
rounds-reported S ps R b o earlier quiet f = go f.status
  where
    few : o.rounds ≤ R
    few = elim (dec_le o.rounds R) [ yes r ↦ r | no r ↦ absurd (changed-differs S ps R (f.moved R (lt_of_not-le r)) quiet) ]

    go : Status S ps b o → (o.rounds ≡ min R (b / suc (length ps))) × ((o.complete ≡ true) ↔ (suc R * suc (length ps) ≤ b))
    go (inl (x, y, w)) =
        let same : o.rounds ≡ R = elim (dec_le R o.rounds) [ yes r ↦ omega (arith, few) | no r ↦ absurd (earlier o.rounds (lt_of_not-le r) (quiet_same S ps o.rounds y)) ] in
        let all : suc R * suc (length ps) ≤ b = omega (arith, ap (λ (z : ℕ). suc z * suc (length ps)) same) in
        (omega (arith, div-above b (length ps) (suc R) all), ((λ z. all), λ z. x))
    go (inr (x, y)) = (
      omega (arith, few, div_is b (length ps) o.rounds f.enough y),
      ((λ z. absurd (clash (sym z ∙ x))), λ z. absurd (omega (arith, mul-le-mul_right (suc (length ps)) few))),
    )

-- ---- two runs: the longer one reports at least as many rounds
pub rounds-grow : {N : Type 0} (S : System N) (M : Making N) (p : N) (b c : ℕ) (o u : Outcome) → b ≤ c → run_of S M p b ≡ ok o → run_of S M p c ≡ ok u → o.rounds ≤ u.rounds
rounds-grow {N = N} S M p b c o u h e k = go (run_ends S M p b o e) (run_ends S M p c u k)
  where
    none : (root : Interned) (n : ℕ) → o ≡ started S b p root n → o.rounds ≤ u.rounds
    none root n s = rw (started-says S b p root n o s).1 zero-le

    count : (ps : List N) (d : ℕ) → build S M.limit p b ≡ ok (passed ps d) → NodeCount S p (length ps)
    count ps d i = (ps, build-whole S M.limit p b d ps i, refl)

    go : Ends S M p b o → Ends S M p c u → o.rounds ≤ u.rounds
    go (in_building root i s) j = none root 1 s
    go (in_starting root ps d i l s) j = none root (length ps) s
    go (in_rounds ps d m i l f) (in_building root j s) = absurd (omega (arith, build-cut S M.limit p (length ps) (count ps d i) c j, (build-passed S M.limit p (length ps) (count ps d i) b d ps i).1))
    go (in_rounds ps d m i l f) (in_starting root qs d' j l' s) =
        let (x, y) = build-passed S M.limit p (length ps) (count ps d i) c d' qs j in
        absurd (omega (arith, (build-passed S M.limit p (length ps) (count ps d i) b d ps i).1))
    go (in_rounds ps d m i l f) (in_rounds qs d' m' j l' g) = by (sym (build-same S M.limit p b d c d' ps qs i j)) g.status
      where
        by : qs ≡ ps → Status S qs m' u → o.rounds ≤ u.rounds
        by z (inl (x, y, w)) = elim (dec_le o.rounds u.rounds) [ yes r ↦ r | no r ↦ absurd (clash (sym (f.moved u.rounds (lt_of_not-le r)) ∙ rw z at y)) ]
        by z (inr (x, y)) =
            let n : length qs ≡ length ps = ap (λ (w : List N). length w) z in
            let longer : m ≤ m' = omega (arith, (build-passed S M.limit p (length ps) (count ps d i) b d ps i).1, (build-passed S M.limit p (length ps) (count ps d i) c d' qs j).1) in
            elim (dec_le o.rounds u.rounds) [
              | yes r ↦ r
              | no r ↦ absurd (omega (arith, f.enough, mul-le-mul_right (suc (length ps)) (lt_of_not-le r), ap (λ (w : ℕ). suc u.rounds * suc w) n))
            ]
