-- A node's turn: it ends with the best of what the node has and of what its actions offer.
use Rattle.std.specs.Prelude.{◌≡◌, ◌⊎◌, Bool, ℕ}
use Rattle.std.proofs.Math.Path.{refl, ap}
use Rattle.std.proofs.Common.{sym, ◌∙◌, inl, arith}
use Rattle.std.proofs.Math.Logic.{inr}
use Rattle.std.proofs.Math.Bool.{true, false}
use mathlib.Core.List.{List, [], ◌∷◌, ◌++◌}
use Rattle.spec.specs.Bytes.{pick, In, here, there, Two}
use Rattle.spec.specs.System.{System, Act, better, Choice, stay, act, Turn, changes, worth, offer, offer_all, turn_of}
use Rattle.spec.specs.Meaning.{◌⊑◌}
use Rattle.steps.specs.Quality.{◌⊏◌, ⊏-⊑-trans, ⊑_refl, ⊑_trans, ⊏-⊑, ⊏-not, better-is, better-not}

-- what the turn chose tells whether the quality is better than z
abbrev pub Told : {N : Type 0} → Two → Turn N → Type 0
Told z w = ((changes w ≡ false) × (w.quality ≡ z)) ⊎ ((changes w ≡ true) × (w.quality ⊏ z))

told-⊑ : {N : Type 0} (z : Two) (w : Turn N) → Told z w → w.quality ⊑ z
told-⊑ z w (inl (n, e)) = rw e (⊑_refl z)
told-⊑ z w (inr (n, l)) = ⊏-⊑ {a = w.quality} {b = z} l

module _ {N : Type 0} (S : System N) (q : N → Two) where
  -- ---- one offer
  pub offer-old : (a : Act N) (w : Turn N) → (offer S q a w).quality ⊑ w.quality
  offer-old a w = go (better (worth S q a) w.quality) refl
    where
      go : (b : Bool) → better (worth S q a) w.quality ≡ b → (offer S q a w).quality ⊑ w.quality
      go true e = rw e (⊏-⊑ {a = worth S q a} {b = w.quality} (better-is (worth S q a) w.quality e))
      go false e = rw e (⊑_refl w.quality)

  pub offer-new : (a : Act N) (w : Turn N) → (offer S q a w).quality ⊑ worth S q a
  offer-new a w = go (better (worth S q a) w.quality) refl
    where
      go : (b : Bool) → better (worth S q a) w.quality ≡ b → (offer S q a w).quality ⊑ worth S q a
      go true e = rw e (⊑_refl (worth S q a))
      go false e = rw e (better-not (worth S q a) w.quality e)

  offer-one : (P : Two → Type 0) (a : Act N) (w : Turn N) → P (worth S q a) → P w.quality → P (offer S q a w).quality
  offer-one P a w h k = go (better (worth S q a) w.quality) refl
    where
      go : (x : Bool) → better (worth S q a) w.quality ≡ x → P (offer S q a w).quality
      go true e = rw e h
      go false e = rw e k

  offer-told : (z : Two) (a : Act N) (w : Turn N) → Told z w → Told z (offer S q a w)
  offer-told z a w k = go (better (worth S q a) w.quality) refl
    where
      go : (b : Bool) → better (worth S q a) w.quality ≡ b → Told z (offer S q a w)
      go true e = rw e (inr (refl, ⊏-⊑-trans (worth S q a) w.quality z (better-is (worth S q a) w.quality e) (told-⊑ z w k)))
      go false e = rw e k

  -- ---- all offers: what every offer keeps, never above what it was, never above what was offered, one of them
  pub all_keep : (I : Turn N → Type 0) → ((a : Act N) (w : Turn N) → I w → I (offer S q a w)) → (l : List (Act N)) (w : Turn N) → I w → I (offer_all S q l w)
  unfolding offer_all
  all_keep I keeps [] w k = k
  all_keep I keeps (a ∷ l) w k = all_keep I keeps l (offer S q a w) (keeps a w k)

  pub all_old : (l : List (Act N)) (w : Turn N) → (offer_all S q l w).quality ⊑ w.quality
  all_old l w = all_keep (λ u. u.quality ⊑ w.quality) (λ a u k. ⊑_trans (offer S q a u).quality u.quality w.quality (offer-old a u) k) l w (⊑_refl w.quality)

  pub all_new : (l : List (Act N)) (w : Turn N) (a : Act N) → In a l → (offer_all S q l w).quality ⊑ worth S q a
  unfolding offer_all
  all_new [] w a x' = elim x' [ ]
  all_new (b ∷ l) w a here = ⊑_trans (offer_all S q l (offer S q a w)).quality (offer S q a w).quality (worth S q a) (all_old l (offer S q a w)) (offer-new a w)
  all_new (b ∷ l) w a (there i) = all_new l (offer S q b w) a i

  all_one : (P : Two → Type 0) (l : List (Act N)) (w : Turn N) → ((a : Act N) → In a l → P (worth S q a)) → P w.quality → P (offer_all S q l w).quality
  unfolding offer_all
  all_one P [] w f b = b
  all_one P (a ∷ l) w f b = all_one P l (offer S q a w) (λ c i. f c (there i)) (offer-one P a w (f a here) b)

  -- ---- the turn
  pub turn-told : (p : N) → Told (q p) (turn_of S q p)
  unfolding turn_of
  turn-told p = all_keep (Told (q p)) (λ a w k. offer-told (q p) a w k) (S.offers q p) (record { quality = q p; choice = stay }) (inl (refl, refl))

  pub turn-old : (p : N) → (turn_of S q p).quality ⊑ q p
  turn-old p = told-⊑ (q p) (turn_of S q p) (turn-told p)

  pub turn-new : (p : N) (a : Act N) → In a (S.offers q p) → (turn_of S q p).quality ⊑ worth S q a
  unfolding turn_of
  turn-new p a i = all_new (S.offers q p) (record { quality = q p; choice = stay }) a i

  abbrev pub Won : N → Two → Type 0
  Won p z = (a : Act N) × In a (S.offers q p) × (z ≡ worth S q a)

  pub turn-from : (p : N) → ((turn_of S q p).quality ≡ q p) ⊎ Won p (turn_of S q p).quality
  unfolding turn_of
  turn-from p = all_one (λ z. (z ≡ q p) ⊎ Won p z) (S.offers q p) (record { quality = q p; choice = stay }) (λ a i. inr (a, i, refl)) (inl refl)

-- ---- offers that are not better
module _ {N : Type 0} (S : System N) (q : N → Two) where
  pub all_append : (l m : List (Act N)) (w : Turn N) → offer_all S q (l ++ m) w ≡ offer_all S q m (offer_all S q l w)
  unfolding offer_all
  all_append [] m w = refl
  all_append (a ∷ l) m w = all_append l m (offer S q a w)

  -- what is not better is not taken
  pub offer-stays : (a : Act N) (w : Turn N) → w.quality ⊑ worth S q a → offer S q a w ≡ w
  offer-stays a w h = go (better (worth S q a) w.quality) refl
    where
      go : (b : Bool) → better (worth S q a) w.quality ≡ b → offer S q a w ≡ w
      go true e = absurd (⊏-not (worth S q a) w.quality (better-is (worth S q a) w.quality e) h)
      go false e = rw e refl

  pub all_stay : (l : List (Act N)) (w : Turn N) → ((a : Act N) → In a l → w.quality ⊑ worth S q a) → offer_all S q l w ≡ w
  unfolding offer_all
  all_stay [] w h = refl
  all_stay (a ∷ l) w h = ap (offer_all S q l) (offer-stays a w (h a here)) ∙ all_stay l w (λ b i. h b (there i))

-- ---- what a turn chooses
module _ {N : Type 0} (S : System N) (q : N → Two) where
  -- the turn stayed, or took an offer
  pub data Chosen (p : N) (w : Turn N) : Type 0 where
    stayed : w.choice ≡ stay → w.quality ≡ q p → Chosen p w
    acted : (a : Act N) → In a (S.offers q p) → w.choice ≡ act a → w.quality ≡ worth S q a → Chosen p w

  all_say : (p : N) (l : List (Act N)) → ((a : Act N) → In a l → In a (S.offers q p)) → (w : Turn N) → Chosen p w → Chosen p (offer_all S q l w)
  unfolding offer_all
  all_say p [] h w W = W
  all_say p (a ∷ l) h w W = all_say p l (λ b i. h b (there i)) (offer S q a w) (go (better (worth S q a) w.quality))
    where
      go : (b : Bool) → Chosen p (pick b (record { quality = worth S q a; choice = act a }) w)
      go true = acted a (h a here) refl refl
      go false = W

  pub turn-says : (p : N) → Chosen p (turn_of S q p)
  unfolding turn_of
  turn-says p = all_say p (S.offers q p) (λ a i. i) (record { quality = q p; choice = stay }) (stayed refl refl)

  -- what was chosen was offered
  pub turn-chosen : (p : N) (a : Act N) → (turn_of S q p).choice ≡ act a → In a (S.offers q p)
  turn-chosen p a e = go (turn-says p)
    where
      no : ◌≡◌ {A = Choice N} stay (act a) → ⊥
      no e = let z : ◌≡◌ {A = ℕ} 0 1 = cc in omega arith

      same : (b : Act N) → ◌≡◌ {A = Choice N} (act b) (act a) → a ≡ b
      same b e = cc

      go : Chosen p (turn_of S q p) → In a (S.offers q p)
      go (stayed x y) = absurd (no (sym x ∙ e))
      go (acted b j x y) = rw (same b (sym x ∙ e)) j

-- every place of an offer is one that the node joins
abbrev pub Inside : {N : Type 0} → System N → Type 0
Inside {N} S = (q : N → Two) (p : N) (a : Act N) → In a (S.offers q p) → (c : N) → In c a.places → In c (S.joins p)

-- so the places that a turn chose are joined
pub choice-joins : {N : Type 0} (S : System N) → Inside S → (q : N → Two) (p : N) (a : Act N) → (turn_of S q p).choice ≡ act a → (c : N) → In c a.places → In c (S.joins p)
choice-joins S I q p a e = I q p a (turn-chosen S q p a e)
