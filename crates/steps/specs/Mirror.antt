-- (02, Paper 13) "Complete runs on (left, right) and (right, left), neither refused, must be shown to have equal pairs, rounds, size, mass and checks.": for nodes of any kind that can be turned round. (`turned` of spec/System is another word: the nodes that had their turn in building.)
use Rattle.std.specs.Prelude.{◌≡◌, List, map, ℕ}
use Rattle.std.proofs.Common.{sym, ap, ◌∙◌, subst}
use Rattle.spec.specs.Bytes.{In, Two}
use Rattle.spec.specs.System.{System, Act, worth, Outcome, Reachable, queried, joined}
use Rattle.laws.specs.Lists.{in_map, map-in, length-map, distinct-map}
use Rattle.steps.specs.Turn.{Won}
use Rattle.steps.specs.Graph.{Whole, NodeCount}

-- "in either order": the nodes turned round
pub record Symmetry {N : Type 0} (S : System N) : Type 0 where
  pub flip : N → N
  pub twice : (p : N) → flip (flip p) ≡ p
  pub start : (p : N) → S.starting_quality (flip p) ≡ S.starting_quality p
  -- the turned node joins what the node joins, turned round
  pub joins : (p c : N) → In c (S.joins p) → In (flip c) (S.joins (flip p))
  -- and for each of the node's offers it has one that is worth as much, where turned nodes have the qualities
  pub offers : (q : N → Two) (p : N) (a : Act N) → In a (S.offers q p) → Won S (λ c. q (flip c)) (flip p) (worth S q a)

module _ {N : Type 0} (S : System N) (Y : Symmetry S) where
  abbrev flip : N → N
  flip = Y.flip

  -- ---- the graph: the same nodes turned round
  pub reach-flip : (root p : N) → Reachable S root p → Reachable S (flip root) (flip p)
  reach-flip root p (queried e) = queried (ap flip e)
  reach-flip root p (joined {p = c} r i) = joined (reach-flip root c r) (Y.joins c p i)

  pub whole-flip : (root : N) (ps : List N) → Whole S root ps → Whole S (flip root) (map flip ps)
  whole-flip root ps w = record {
    once = distinct-map flip (λ x y e. sym (Y.twice x) ∙ ap flip e ∙ Y.twice y) ps w.once;
    exactly = λ q. (
      λ i. let (y, j, e) = map-in flip ps q i in rw (← e) (reach-flip root y ((w.exactly y).0 j)),
      λ r. subst (λ z. In z (map flip ps)) (Y.twice q) (in_map flip ((w.exactly (flip q)).1 (subst (λ z. Reachable S z (flip q)) (Y.twice root) (reach-flip (flip root) q r)))),
    );
  }

  -- "equal pairs"
  pub count-flip : (root : N) (n : ℕ) → NodeCount S root n → NodeCount S (flip root) n
  count-flip root n (ps, w, e) = (map flip ps, whole-flip root ps w, length-map flip ps ∙ e)

  pub in-flip : (root : N) (ps ps' : List N) → Whole S root ps → Whole S (flip root) ps' → (p : N) → In p ps → In (flip p) ps'
  in-flip root ps ps' w w' p i = (w'.exactly (flip p)).1 (reach-flip root p ((w.exactly p).0 i))

-- ---- the theorem
-- "equal pairs, rounds, size, mass and checks"
pub record Alike (o u : Outcome) : Type 0 where
  pub nodes : o.nodes ≡ u.nodes
  pub rounds : o.rounds ≡ u.rounds
  pub quality : o.quality ≡ u.quality
  pub checks : o.checks ≡ u.checks
