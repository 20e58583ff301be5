-- A turn reads the qualities and terms of its own node and of the nodes that it joins, and no other.
use Rattle.std.specs.Prelude.{◌≡◌, ℕ, eqb}
use Rattle.std.proofs.Math.Path.{refl, ap, ap₂, subst}
use Rattle.std.proofs.Common.{sym, ◌∙◌}
use Rattle.std.proofs.Math.Bool.{true, false}
use mathlib.Core.List.{List, [], ◌∷◌}
use Rattle.spec.specs.Bytes.{pick, In, here, there, Two}
use Rattle.spec.specs.Pool.{Pool}
use Rattle.spec.specs.System.{System, Making, Act, better, Choice, stay, act, Turn, worth, offer, offer_all, turn_of, plan_runs, choice_term}
use Rattle.spec.specs.Meaning.{◌⊑◌}
use Rattle.laws.specs.Lists.{map-ext}
use Rattle.steps.specs.Graph.{Closed}
use Rattle.steps.specs.Turn.{turn-new, all_stay, Inside, choice-joins}

-- the law: what is offered depends on the qualities of the joined nodes alone
pub record Reads {N : Type 0} (S : System N) : Type 0 where
  pub offered : (q q' : N → Two) (p : N) → ((c : N) → In c (S.joins p) → q c ≡ q' c) → S.offers q p ≡ S.offers q' p
  pub inside : Inside S

all-agree : {N : Type 0} (S : System N) (q q' : N → Two) (l : List (Act N)) (w : Turn N) → ((a : Act N) → In a l → (c : N) → In c a.places → q c ≡ q' c) → offer_all S q l w ≡ offer_all S q' l w
unfolding offer_all
all-agree S q q' [] w h = refl
all-agree {N = N} S q q' (a ∷ l) w h =
    ap (λ (z : List Two). offer_all S q l (pick (better (S.value a.counts z) w.quality) (record { quality = S.value a.counts z; choice = act a }) w)) (map-ext q q' a.places (h a here))
    ∙ all-agree S q q' l (offer S q' a w) (λ b i. h b (there i))

module _ {N : Type 0} (S : System N) (R : Reads S) where
  -- the offers over q', from a turn's beginning
  offers-agree : (q q' : N → Two) (p : N) (w : Turn N) → ((c : N) → In c (S.joins p) → q c ≡ q' c) → offer_all S q (S.offers q p) w ≡ offer_all S q' (S.offers q' p) w
  offers-agree q q' p w h = all-agree S q q' (S.offers q p) w (λ a i c j. h c (R.inside q p a i c j)) ∙ ap (λ (l : List (Act N)). offer_all S q' l w) (R.offered q q' p h)

  -- a node's own quality and those of the nodes that it joins are the same
  abbrev pub Agree : (N → Two) → (N → Two) → N → Type 0
  Agree q q' p = (q p ≡ q' p) × ((c : N) → In c (S.joins p) → q c ≡ q' c)

  pub turn-reads : (q q' : N → Two) (p : N) → Agree q q' p → turn_of S q p ≡ turn_of S q' p
  unfolding turn_of
  turn-reads q q' p (e, h) = offers-agree q q' p (record { quality = q p; choice = stay }) h ∙ ap (λ (z : Two). offer_all S q' (S.offers q' p) (record { quality = z; choice = stay })) e

  pub turn_agree : (q q' : N → Two) (p : N) → q p ≡ q' p → ((c : N) → In c (S.joins p) → q c ≡ q' c) → turn_of S q p ≡ turn_of S q' p
  turn_agree q q' p e h = turn-reads q q' p (e, h)

  -- q': the qualities after the round over q. Where no joined node changed in it, the node's next turn keeps what it has.
  pub turn-again : (q q' : N → Two) (p : N) → q' p ≡ (turn_of S q p).quality → ((c : N) → In c (S.joins p) → q' c ≡ q c) → turn_of S q' p ≡ record { quality = q' p; choice = stay }
  unfolding turn_of
  turn-again q q' p e h =
      let w : Turn N = record { quality = q' p; choice = stay } in
      offers-agree q' q p w h ∙ all_stay S q (S.offers q p) w (λ a i. subst (λ z. z ⊑ worth S q a) (sym e) (turn-new S q p a i))

  -- so a turn's term reads the terms of its own node and of the nodes that it joins
  pub turn-term-agree : (M : Making N) (q : N → Two) (of of' : N → ℕ) (pool : Pool) (p : N) → of p ≡ of' p → ((c : N) → In c (S.joins p) → of c ≡ of' c)
      → choice_term M of pool (of p) (turn_of S q p).choice ≡ choice_term M of' pool (of' p) (turn_of S q p).choice
  unfolding choice_term
  turn-term-agree M q of of' pool p e h = rw e (go (turn_of S q p).choice refl)
    where
      runs-agree : (ps : List N) (x : List ℕ) → ((c : N) → In c ps → of c ≡ of' c) → plan_runs of ps x ≡ plan_runs of' ps x
      runs-agree [] x h = refl
      runs-agree (p ∷ ps) [] h = refl
      runs-agree (p ∷ ps) (n ∷ x) h = ap₂ (λ (a : ℕ) (l : List Two). elim (eqb n 0) [ true ↦ l | false ↦ (a, n) ∷ l ]) (h p here) (runs-agree ps x (λ c i. h c (there i)))

      go : (c : Choice N) → (turn_of S q p).choice ≡ c → choice_term M of pool (of' p) c ≡ choice_term M of' pool (of' p) c
      go stay z = refl
      go (act a) z = ap (λ (l : List Two). M.action_term pool a.op l) (runs-agree a.places a.counts (λ c i. h c (choice-joins S R.inside q p a z c i)))

-- ---- over a list that holds every node it joins, a turn is read from any tables that agree with the list's qualities and terms
module _ {N : Type 0} (S : System N) (R : Reads S) (ps : List N) (closed : Closed S ps) where
  pub turn-closed : (q q' : N → Two) → ((c : N) → In c ps → q c ≡ q' c) → (p : N) → In p ps → turn_of S q p ≡ turn_of S q' p
  turn-closed q q' h p i = turn-reads S R q q' p (h p i, λ c j. h c (closed p c i j))

  pub term-closed : (M : Making N) (q q' : N → Two) (of of' : N → ℕ) (pool : Pool) → ((c : N) → In c ps → q c ≡ q' c) → ((c : N) → In c ps → of c ≡ of' c) → (p : N) → In p ps
      → choice_term M of pool (of p) (turn_of S q p).choice ≡ choice_term M of' pool (of' p) (turn_of S q' p).choice
  term-closed M q q' of of' pool h g p i =
      turn-term-agree S R M q of of' pool p (g p i) (λ c j. g c (closed p c i j)) ∙ ap (λ (w : Turn N). choice_term M of' pool (of' p) w.choice) (turn-closed q q' h p i)
