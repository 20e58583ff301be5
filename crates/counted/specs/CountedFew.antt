-- How many terms are counted for 13, and how many runs they have: from the number of classes, of pairs, and of rounds that improve a pair.
use Rattle.std.specs.Prelude.{◌≡◌, refl, Bool, true, false, List, ℕ, suc, ◌≤◌, ◌<◌, eqb, length}
use Rattle.std.proofs.Common.{sym, ◌∙◌, inl, inr, arith}
use Rattle.spec.specs.Bytes.{pick, Two}
use Rattle.spec.specs.Image.{Tables, Lit, kind_of, best_member, children_of}
use Rattle.spec.specs.Pairs.{pairs}
use Rattle.spec.specs.Round.{Act, Choice, stay, act, changes, Turn, turn_of}
use Rattle.spec.specs.Meaning.{In, lit, node, Runs}
use Rattle.laws.specs.Tests.{clash}
use Rattle.laws.specs.Valid.{Valid}
use Rattle.steps.specs.Quality.{⊏-not, ⊑-of-eq}
use Rattle.steps.specs.Turn.{Told, turn-told}
use Rattle.lgg.specs.TurnPlaces.{children-few}
use Rattle.steps.specs.Rounds.{quality_after, q-next}
use Rattle.laws.specs.BestMembers.{IsClass, IsPair, best-in}
use Rattle.counted.specs.Counted.{join_trees, tree_runs, child_trees, best_tree, marked_tree, starting_tree, term_after, Improved, Begun}
use Rattle.counted.specs.CountedRuns.{join-runs, child-runs, marked-runs, choice-places}
use Rattle.counted.specs.CountedPool.{best-tree}

-- ---- the runs of a term
-- "child count (2, at most 64)"
pub best-runs : (t : Tables) → Valid t → (c : ℕ) → IsClass t c → tree_runs (best_tree t c) ≤ 64
unfolding tree_runs
best-runs t v c h = rw (best-tree t v c h) (go (eqb (kind_of t (best_member t c).op) Lit))
  where
    s : Runs
    s = child_trees (best_tree t) (children_of t (best_member t c))

    go : (x : Bool) → tree_runs (elim x [ true ↦ lit (best_member t c).op (best_member t c).value | false ↦ node (best_member t c).op (join_trees s) ]) ≤ 64
    go true = omega arith
    go false = omega (arith, join-runs s, child-runs (best_tree t) (children_of t (best_member t c)), children-few t v (best_member t c) c (best-in t v c h))

pub starting-runs : (t : Tables) → Valid t → (p : Two) → IsPair t p → tree_runs (starting_tree t p) ≤ 64
starting-runs t v p (h, k) = go (eqb p.0 p.1)
  where
    go : (y : Bool) → tree_runs (pick y (best_tree t p.0) (marked_tree (best_tree t p.0) (best_tree t p.1))) ≤ 64
    go true = best-runs t v p.0 h
    go false = omega (arith, marked-runs (best_tree t p.0) (best_tree t p.1))

-- an improved pair's turn chose an action
improved-acts : (t : Tables) (ps : List Two) (k : ℕ) (p : Two) → In p ps → Improved t ps k p → (a : Act) × ((turn_of t (quality_after (pairs t) ps k) p).choice ≡ act a)
improved-acts t ps k p i m = go (turn-told (pairs t) (quality_after (pairs t) ps k) p)
  where
    w : Turn
    w = turn_of t (quality_after (pairs t) ps k) p

    chose : (c : Choice) → w.choice ≡ c → changes w ≡ true → (a : Act) × (w.choice ≡ act a)
    chose stay e z = absurd (clash (sym z ∙ rw e refl))
    chose (act a) e z = (a, e)

    go : Told (quality_after (pairs t) ps k p) w → (a : Act) × (w.choice ≡ act a)
    go (inl (n, e)) = absurd (⊏-not (quality_after (pairs t) ps (suc k) p) (quality_after (pairs t) ps k p) m (⊑-of-eq (sym (q-next (pairs t) ps k p i ∙ e))))
    go (inr (n, l)) = chose w.choice refl n

-- a final term has at most as many runs as its action has places
pub final-runs : (t : Tables) (ps : List Two) (k : ℕ) (p : Two) → In p ps → Improved t ps k p → (w : ℕ) → ((a : Act) → (turn_of t (quality_after (pairs t) ps k) p).choice ≡ act a → length a.places ≤ w) → tree_runs (term_after t ps (suc k) p) ≤ w
unfolding term_after
final-runs t ps k p i m w h = let (a, e) = improved-acts t ps k p i m in rw e (omega (arith, h a e, choice-places t (term_after t ps k) (term_after t ps k p) a))

-- ---- the counted terms
-- no round with the index R or above is begun and improves a pair
abbrev pub Ends : Tables → List Two → ℕ → ℕ → Type 0
Ends t ps b R = (k : ℕ) (p : Two) → In p ps → Improved t ps k p → Begun (length ps) b k → k < R

-- a final term has at most w runs
abbrev pub FinalRuns : Tables → List Two → ℕ → ℕ → Type 0
FinalRuns t ps b w = (k : ℕ) (p : Two) → In p ps → Improved t ps k p → Begun (length ps) b k → tree_runs (term_after t ps (suc k) p) ≤ w
