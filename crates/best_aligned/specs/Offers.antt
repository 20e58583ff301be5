-- A pair's structural actions, offered one after the other.
use Rattle.std.specs.Prelude.{◌≡◌, Bool, true, false, Option, Some, None}
use Rattle.std.proofs.Math.Path.{refl, sym, ap}
use Rattle.std.proofs.Common.{◌∙◌, arith}
use mathlib.Core.List.{List}
use Prim.Native.Nat.{ℕ, zero, suc, ◌<◌}
use Rattle.std.proofs.Math.ListN.{length}
use Rattle.spec.specs.Bytes.{Two, pick}
use Rattle.spec.specs.Image.{Tables, tables_of}
use Rattle.spec.specs.Action.{Action, structural}
use Rattle.spec.specs.System.{offer_all}
use Rattle.spec.specs.Round.{better, Turn}
use Rattle.laws.specs.Scans.{nil-of-length}
use Rattle.laws.specs.Valid.{Valid}
use Rattle.image.specs.Loaded.{Loaded}
use Rattle.image.specs.declared.Image.{Image}
use Rattle.actions.specs.Place.{action_at, after_of}
use Rattle.enumeration.specs.Remaining.{StandsFound, list_from, found_in}
use Rattle.enumeration.specs.Seek.{start_of, seek_of}
use Rattle.enumeration.specs.SeekLaws.{start-list, seek-list, seek-stands}
use Rattle.actions.specs.declared.State.{State}
use Rattle.quality.specs.declared.How.TheVariants.{Stay, Aligned}
use Rattle.quality.specs.declared.Best.{Best}
use Rattle.quality.specs.Offer.{structural_quality, offer_at}
use Rattle.best_aligned.specs.Aligned.{offer_actions, at_found, best_from, best_aligned, choice_at, StandsAt, after_aligned, Aligns}

abbrev turn_at : Tables → Best → Turn
turn_at t b = record { quality = (b.size, b.mass); choice = choice_at t b.how }

module _ (t : Tables) (x b : Best) where
  turn-pick : (c : Bool) → turn_at t (pick c x b) ≡ pick c (turn_at t x) (turn_at t b)
  turn-pick true = refl
  turn-pick false = refl

  stands-pick : (c : Bool) → StandsAt t x.how → StandsAt t b.how → StandsAt t (pick c x b).how
  stands-pick true h k = h
  stands-pick false h k = k

-- ---- all of them
module _ {s : List ℕ} {im : Image} (L : Loaded s im) (ok : Valid (tables_of s)) (q : Two → Two) {l r : ℕ} (hl : l < im.classes) (hr : r < im.classes) where
  abbrev t : Tables
  t = tables_of s

  -- x is what the actions left at w make of b
  record Makes (w : State) (b x : Best) : Type 0 where
    turn : turn_at t x ≡ offer_actions t q (list_from t l r w) (turn_at t b)
    stands : StandsAt t x.how

  makes-step : (n : ℕ) (w : State) (b : Best) (x : Option State) → list_from t l r w ≡ found_in t l r x → StandsFound t x → StandsAt t b.how → length (list_from t l r w) ≡ suc n
      → ((u : State) (c : Best) → length (list_from t l r u) ≡ n → StandsAt t c.how → Makes u c (best_from t q (l, r) n u c))
      → Makes w b (at_found x b (λ v. best_from t q (l, r) n (after_of v) (offer_at t q v b)))
  unfolding offer_all
  makes-step n w b None e st h m ih = record { turn = ap (λ (z : List Action). offer_actions t q z (turn_at t b)) (sym e); stands = h }
  makes-step n w b (Some v) e st h m ih =
      let y = structural_quality q (action_at t v) in
      let x : Best = record { size = y.0; mass = y.1; how = Aligned v } in
      let c = better y (b.size, b.mass) in
      let f = ih (after_of v) (offer_at t q v b) (omega (arith, ap (λ (z : List Action). length z) e)) (stands-pick t x b c st h) in
      record { turn = f.turn ∙ ap (offer_actions t q (list_from t l r (after_of v))) (turn-pick t x b c) ∙ ap (λ (z : List Action). offer_actions t q z (turn_at t b)) (sym e); stands = f.stands }

  makes : (n : ℕ) (w : State) (b : Best) → length (list_from t l r w) ≡ n → StandsAt t b.how → Makes w b (best_from t q (l, r) n w b)
  unfolding best_from offer_all
  makes zero w b m h = record { turn = ap (λ (z : List Action). offer_actions t q z (turn_at t b)) (sym (nil-of-length (list_from t l r w) m)); stands = h }
  makes (suc n) w b m h = makes-step n w b (seek_of t l r w) (seek-list L ok hl hr w refl) (seek-stands L ok hl hr w refl) h m (makes n)

  -- the best is what the specification's turn has after the structural actions
  pub best-aligns : {x : Best} → x ≡ best_aligned t q (l, r) → Aligns t q (l, r) x
  unfolding best_aligned after_aligned
  best-aligns e =
      let f = start-list L ok hl hr refl in
      let b : Best = record { size = (q (l, r)).0; mass = (q (l, r)).1; how = Stay } in
      let g = makes (length (structural t l r)) (start_of t l r) b (ap (λ (z : List Action). length z) f) tt in
      let d : turn_at t (best_aligned t q (l, r)) ≡ after_aligned t q (l, r) = g.turn ∙ ap (λ (z : List Action). offer_actions t q z (turn_at t b)) f in
      rw e (record { quality = ap (λ (z : Turn). z.quality) d; choice = ap (λ (z : Turn). z.choice) d; stands = g.stands })

  -- ---- a turn of the loop
  pub best-first : {w : State} {size mass : ℕ} → w ≡ start_of t l r → size ≡ (q (l, r)).0 → mass ≡ (q (l, r)).1
      → best_from t q (l, r) (length (list_from t l r w)) w (record { size = size; mass = mass; how = Stay }) ≡ best_aligned t q (l, r)
  unfolding best_aligned
  best-first e f g =
      let n = ap (λ (z : List Action). length z) (start-list L ok hl hr e) in
      λ i. best_from t q (l, r) (n i) (e i) (record { size = f i; mass = g i; how = Stay })

  module _ (w : State) (b : Best) {x : Option State} (e : x ≡ seek_of t l r w) where
    pub best-last : (n : ℕ) → x ≡ None → best_from t q (l, r) n w b ≡ b
    unfolding best_from
    best-last zero f = refl
    best-last (suc n) f = ap (λ (z : Option State). at_found z b (λ v. best_from t q (l, r) n (after_of v) (offer_at t q v b))) (sym e ∙ f)

    pub best-next : (v : State) → x ≡ Some v → {u : State} {c : Best} → c ≡ offer_at t q v b → u ≡ after_of v → best_from t q (l, r) (length (list_from t l r w)) w b ≡ best_from t q (l, r) (length (list_from t l r u)) u c
    unfolding best_from
    best-next v f g h =
        ap (λ (z : List Action). best_from t q (l, r) (length z) w b) (seek-list L ok hl hr w e ∙ ap (found_in t l r) f)
        ∙ ap (λ (z : Option State). at_found z b (λ u. best_from t q (l, r) (length (list_from t l r (after_of v))) (after_of u) (offer_at t q u b))) (sym e ∙ f)
        ∙ sym (λ i. best_from t q (l, r) (length (list_from t l r (h i))) (h i) (g i))
