-- Where a run is not refused by 13: its terms, counted by classes, pairs and rounds, stay within 16,384, and their runs within 65,536.
use Rattle.std.specs.Prelude.{◌≡◌, List, [], ◌∷◌, ℕ, suc, ◌+◌, ◌*◌, ◌-◌, ◌≤◌, ◌<◌, length}
use Rattle.std.proofs.Common.{sym, ap, ◌∙◌, lt_of_not-le, mul-le-mul_right, arith, length-append}
use Rattle.std.proofs.Math.Decide.{dec_lt}
use Rattle.spec.specs.Bytes.{Two, each, ok, passed}
use Rattle.spec.specs.Image.{Tables}
use Rattle.spec.specs.Action.{structural, transports, cell_pairs, joins}
use Rattle.spec.specs.Graph.{build}
use Rattle.spec.specs.Pairs.{pairs}
use Rattle.spec.specs.Round.{look_up, qualities_after}
use Rattle.spec.specs.Run.{limit_of, limits_for}
use Rattle.spec.specs.declared.Caller.{Caller}
use Rattle.spec.specs.Meaning.{In, here, there}
use Rattle.steps.specs.Quality.{⊏-not, ⊑-of-eq}
use Rattle.steps.specs.Rounds.{quality_after, forever}
use Rattle.lgg.specs.Moves.{pair-backs}
use Rattle.lgg.specs.TurnPlaces.{turn-choice}
use Rattle.steps.specs.Demand3.{FirstQuiet}
use Rattle.steps.proofs.Demand3.{settled}
use Rattle.counted.specs.Counted.{Improved}
use Rattle.counted.specs.CountedFew.{Ends, FinalRuns, final-runs}

-- ---- the rounds that improve a pair
-- the budget ends before round R
pub ends-checks : (t : Tables) (ps : List Two) (b R : ℕ) → b ≤ 2 * length ps + R * (length ps + 1) → Ends t ps b R
ends-checks t ps b R h k p i m l = go (dec_lt k R)
  where
    go : Dec (k < R) → k < R
    go (yes z) = z
    go (no z) = absurd (omega (arith, mul-le-mul_right (length ps + 1) (lt_of_not-le z)))

quiet-not : (t : Tables) (ps : List Two) (k : ℕ) (p : Two) → qualities_after (suc k) t ps ≡ qualities_after k t ps → Improved t ps k p → ⊥
quiet-not t ps k p e m = ⊏-not (quality_after (pairs t) ps (suc k) p) (quality_after (pairs t) ps k p) m (⊑-of-eq (ap (λ (l : List Two). look_up (0, 0) ps l p) (sym e)))

-- round R is the first quiet one
pub ends-quiet : (t : Tables) (ps : List Two) (b R : ℕ) → FirstQuiet (pairs t) ps R → Ends t ps b R
ends-quiet t ps b R q k p i m l = go (dec_lt k R)
  where
    go : Dec (k < R) → k < R
    go (yes z) = z
    go (no z) =
        let e : k ≡ (k - R) + R = omega arith in
        let f : suc k ≡ suc (k - R) + R = omega arith in
        absurd (quiet-not t ps k p (ap (λ (n : ℕ). qualities_after n t ps) f ∙ forever (pairs t) ps R q.quiet (suc (k - R)) ∙ sym (ap (λ (n : ℕ). qualities_after n t ps) e ∙ forever (pairs t) ps R q.quiet (k - R))) m)

-- only the first n rounds can improve a pair
pub ends-pairs : (who : Caller) (t : Tables) (p : Two) (B C : ℕ) (ps : List Two) → build (limits_for who) t p B ≡ ok (passed ps C) → (b : ℕ) → Ends t ps b (length ps)
ends-pairs who t p B C ps e b k q i m l = go (dec_lt k (length ps))
  where
    go : Dec (k < length ps) → k < length ps
    go (yes z) = z
    go (no z) = absurd (quiet-not t ps k q (settled (pairs t) (limit_of who) (pair-backs t) p B C ps e k (omega arith)) m)

-- ---- the runs of final terms
-- at most as many as the places that the pair's actions join
each-longer : {A B : Type 0} (f : A → List B) (l : List A) (x : A) → In x l → length (f x) ≤ length (each f l)
unfolding each
each-longer f [] x i = elim i [ ]
each-longer f (y ∷ l) x here = omega (arith, length-append (f x) (each f l))
each-longer f (y ∷ l) x (there i) = omega (arith, length-append (f y) (each f l), each-longer f l x i)

pub final-runs-joined : (t : Tables) (ps : List Two) (b w : ℕ) → ((p : Two) → In p ps → length (joins t p) ≤ w) → FinalRuns t ps b w
unfolding joins
final-runs-joined t ps b w h k p i m l =
    final-runs t ps k p i m w
    (turn-choice (λ a. length a.places ≤ w) t (quality_after (pairs t) ps k) p
    (λ a j. omega (arith, h p i, each-longer (λ a. a.pairs) (structural t p.0 p.1) a j, all))
    (λ a j x e. omega (arith, h p i, each-longer (λ a. cell_pairs a.sides) (transports t p.0 p.1) a j, all)))
  where
    all : length (joins t p) ≡ length (each (λ a. a.pairs) (structural t p.0 p.1)) + length (each (λ a. cell_pairs a.sides) (transports t p.0 p.1))
    all = length-append (each (λ a. a.pairs) (structural t p.0 p.1)) (each (λ a. cell_pairs a.sides) (transports t p.0 p.1))
