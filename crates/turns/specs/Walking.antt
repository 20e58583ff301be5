-- The walk through a pair's transports: each action found is offered in its turn.
use Rattle.std.specs.Prelude.{◌≡◌, refl, true, List, [], ◌∷◌, ◌++◌, ℕ, ◌*◌, ◌≤◌, ◌<◌, length, Option, Some, None}
use Rattle.std.proofs.Common.{sym, ap, ◌∙◌, arith}
use Rattle.spec.specs.Bytes.{Two, Limits, each}
use Rattle.spec.specs.Image.{Tables}
use Rattle.spec.specs.Monomial.{pair_of, narrow}
use Rattle.spec.specs.Action.{TransportAction, transports, cell_pairs}
use Rattle.spec.specs.Meaning.{In, here}
use Rattle.laws.specs.Tests.{both_true}
use Rattle.laws.specs.Valid.{Valid}
use Rattle.laws.specs.Lists.{in_left, in_right}
use Rattle.lgg.specs.Cells.{CellsFit}
use Rattle.lgg.specs.Moves.{transport-joins}
use Rattle.lgg.specs.Within.{joins-within}
use Rattle.monomial_terms.specs.Terms.{NUMBERS, held}
use Rattle.ac_repr.specs.Walk.{walks, all_walks, after_of, left_of, Within, Stepped}
use Rattle.ac_monomials.specs.Actions.{actions_at, Answered}
use Rattle.ac_monomials.specs.Sides.{action-none, action-one, action-narrow}
use Rattle.ac_monomials.specs.Transports.{actions_left, left-first, left-next, left_end}
use Rattle.ac_repr.specs.declared.Walk.{Walk}
use Rattle.cells.specs.Cells.{sides_of, Sides, Joined, cell-count}
use Rattle.plan_offer.specs.Plans.{action_of}
use Rattle.offers.specs.Offers.{Work, offer_in, offers_in}

-- ---- one offer after the other
pub offers-append : (k : ℕ) (q : Two → Two) (of : Two → ℕ) (l m : List TransportAction) (w : Work) → offers_in k q of (l ++ m) w ≡ offers_in k q of m (offers_in k q of l w)
unfolding offers_in
offers-append k q of [] m w = refl
offers-append k q of (a ∷ l) m w = offers-append k q of l m (offer_in k q of a w)

pub offers-none : (k : ℕ) (q : Two → Two) (of : Two → ℕ) (l : List TransportAction) (w : Work) → l ≡ [] → w ≡ offers_in k q of l w
unfolding offers_in
offers-none k q of l w e = rw e refl

pub offers-one : (k : ℕ) (q : Two → Two) (of : Two → ℕ) (l : List TransportAction) (a : TransportAction) (w w' : Work) → l ≡ a ∷ [] → w' ≡ offer_in k q of a w → w' ≡ offers_in k q of l w
unfolding offers_in
offers-one k q of l a w w' e f = rw e f

-- ---- the cells of a pair's transports
-- pairs of classes of the image, and no more than k
pub record Fitting (w k : ℕ) (a : TransportAction) : Type 0 where
  pub joined : Joined w a.sides
  pub few : length (cell_pairs a.sides) ≤ k

pub all-fitting : (t : Tables) → Valid t → (w : ℕ) → w ≡ length t.classes → (l r : ℕ) → l < w → r < w → (lim : Limits) → CellsFit lim t (l, r) → (a : TransportAction) → In a (transports t l r) → Fitting w lim.pairs a
all-fitting t v w e l r h k lim f a i = record {
  joined = λ p j. let (x, y) = joins-within t v (l, r) (omega (arith, e), omega (arith, e)) p (transport-joins t (l, r) a i p j) in (omega (arith, x, e), omega (arith, y, e));
  few = f a i;
}

pub one-fitting : {w k : ℕ} (l : List TransportAction) (a : TransportAction) → ((b : TransportAction) → In b l → Fitting w k b) → l ≡ a ∷ [] → Fitting w k a
one-fitting l a h e = h a (rw e here)

-- ---- what is found at a pair of places
module _ (t : Tables) (l r : ℕ) (w : Walk) (s u s' u' : List ℕ) (x : Option (ℕ × ℕ)) (D : Answered t l r w s u s' u' x) where
  pub found_none : x ≡ None → actions_at t l r w ≡ []
  found_none e = action-none t l r w s u s' u' (rw e at D)

  module _ (n m : ℕ) (e : x ≡ Some (n, m)) where
    found-few : (n ≤ 65) × (m ≤ 65)
    found-few = rw e at D.few

    pub found-one : actions_at t l r w ≡ action_of w.op (pair_of (held n s') (held m u')) ∷ []
    found-one = action-one t l r w s u s' u' n m (rw e at D)

    found_left : narrow (held n s') ≡ true
    found_left = ((both_true (narrow (held n s')) (narrow (held m u'))).0 (action-narrow t l r w s u s' u' n m (rw e at D))).0

    found_right : narrow (held m u') ≡ true
    found_right = ((both_true (narrow (held n s')) (narrow (held m u'))).0 (action-narrow t l r w s u s' u' n m (rw e at D))).1

    module _ (long : length s' ≡ NUMBERS) (wide : length u' ≡ NUMBERS) where
      pub found-sides : Sides s' n u' m
      found-sides = record { left_long = long; right_long = wide; few_rows = found-few.0; few_cols = found-few.1; narrow_rows = found_left; narrow_cols = found_right }

      pub found-fits : (c k : ℕ) → ((a : TransportAction) → In a (actions_at t l r w) → Fitting c k a) → Joined c (sides_of s' n u' m) × (n * m ≤ k)
      found-fits c k h =
          let F = one-fitting (actions_at t l r w) (action_of w.op (sides_of s' n u' m)) h found-one in
          (F.joined, omega (arith, F.few, cell-count s' n u' m found-sides))

-- At step x of the walk with the work w: the actions that are left make the whole.
pub record Walking (k : ℕ) (t : Tables) (q : Two → Two) (of : Two → ℕ) (l r : ℕ) (w₀ : Work) (x : Option Walk) (w : Work) : Type 0 where
  pub rest : offers_in k q of (actions_left t l r x) w ≡ offers_in k q of (transports t l r) w₀
  pub within : Within t l r x
  pub sound : (a : TransportAction) → In a (actions_left t l r x) → In a (transports t l r)

-- how many pairs of places are left
abbrev pub walk_left : Tables → ℕ → ℕ → Option Walk → ℕ
walk_left t l r x = length (left_of (walks t l r) x)

module _ (k : ℕ) (t : Tables) (q : Two → Two) (of : Two → ℕ) (l r : ℕ) (w₀ : Work) where
  pub walking-first : (x : Option Walk) → Valid t → (a : l < length t.classes) → (b : r < length t.classes) → Stepped t l r (walks t l r) (all_walks t l r) x → Walking k t q of l r w₀ x w₀
  walking-first x v a b d =
      let e = left-first t l r x v a b d in
      record { rest = ap (λ (m : List TransportAction). offers_in k q of m w₀) (sym e); within = d.within; sound = λ c i. rw e i }

  module _ (w : Work) where
    pub walking-end : (x : Option Walk) → x ≡ None → Walking k t q of l r w₀ x w → w ≡ offers_in k q of (transports t l r) w₀
    walking-end x e W =
        let f : actions_left t l r x ≡ [] = rw e (left_end t l r) in
        offers-none k q of (actions_left t l r x) w f ∙ W.rest

    module _ (x : Option Walk) (v : Walk) (e : x ≡ Some v) (W : Walking k t q of l r w₀ x w) where
      pub walking-within : Within t l r (Some v)
      walking-within = rw e at W.within

      -- what is found here is one of the pair's transports
      pub walking-sound : (a : TransportAction) → In a (actions_at t l r v) → In a (transports t l r)
      unfolding actions_left each
      walking-sound a i = W.sound a (rw e (in_left (each (actions_at t l r) (walks t l r (after_of v))) i))

      module _ (y : Option Walk) (d : Stepped t l r (walks t l r) (walks t l r (after_of v)) y) where
        split : actions_left t l r x ≡ actions_at t l r v ++ actions_left t l r y
        split = ap (actions_left t l r) e ∙ left-next t l r v y d

        pub walking-next : (w' : Work) → w' ≡ offers_in k q of (actions_at t l r v) w → Walking k t q of l r w₀ y w'
        walking-next w' f =
            record {
              rest =
                  ap (offers_in k q of (actions_left t l r y)) f
                  ∙ sym (offers-append k q of (actions_at t l r v) (actions_left t l r y) w)
                  ∙ ap (λ (m : List TransportAction). offers_in k q of m w) (sym split)
                  ∙ W.rest;
              within = d.within;
              sound = λ a i. W.sound a (rw split (in_right (actions_at t l r v) i));
            }

        pub walking-less : walk_left t l r y < walk_left t l r x
        walking-less = rw (e, ← d.left) (omega arith)
