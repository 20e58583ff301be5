-- Where an action's value is "1 plus the sum of count × size, and the sum of count × mass", the laws of the actions give the bound.
use Rattle.std.specs.Prelude.{◌≡◌, ◌⊎◌}
use Rattle.std.proofs.Math.Path.{refl, ap}
use Rattle.std.proofs.Common.{sym, ◌∙◌}
use Rattle.std.proofs.Math.Logic.{inl, inr}
use mathlib.Core.List.{List, [], ◌∷◌, map}
use Prim.Native.Nat.{ℕ, zero, suc, ◌+◌, ◌*◌}
use native.Mathlib.Omega.{arith}
use Rattle.spec.specs.Bytes.{In, here, there, Two}
use Rattle.spec.specs.Transport.{plan_size, plan_mass}
use Rattle.spec.specs.System.{System, turn_of}
use Rattle.spec.specs.Round.{quality_over}
use Rattle.spec.specs.Meaning.{◌⊑◌}
use Rattle.steps.specs.Quality.{◌⊏◌, ⊑-or, ⊑-antisym, ⊑-of-eq, ⊑_trans, ⊏-not, two-eq, Total}
use Rattle.steps.specs.Turn.{turn-from, Won}
use Rattle.steps.specs.Rounds.{Backs, NoMore, Moves, turn-move}

-- Where f is never above g: the totals are equal, or at a place with a count above 0 f is strictly better, with both numbers at most the total's.
module _ {N : Type 0} where
  abbrev Strict : (N → Two) → (N → Two) → List ℕ → List N → Type 0
  Strict f g x cs = (c : N) × In c cs × (f c ⊏ g c) × NoMore (f c) (Total x (map f cs))

  differ : (f g : N → Two) (x : List ℕ) (cs : List N) → ((c : N) → In c cs → f c ⊑ g c) → (Total x (map f cs) ≡ Total x (map g cs)) ⊎ Strict f g x cs
  unfolding plan_size plan_mass
  differ f g [] cs h = inl refl
  differ f g (n ∷ x) [] h = inl refl
  differ f g (n ∷ x) (p ∷ cs) h = go n (⊑-or (g p) (f p)) (differ f g x cs (λ q i. h q (there i)))
    where
      go : (n : ℕ) → (g p ⊑ f p) ⊎ (f p ⊏ g p) → (Total x (map f cs) ≡ Total x (map g cs)) ⊎ Strict f g x cs → (Total (n ∷ x) (map f (p ∷ cs)) ≡ Total (n ∷ x) (map g (p ∷ cs))) ⊎ Strict f g (n ∷ x) (p ∷ cs)
      go n o (inr (q, i, l, s)) = inr (q, there i, l, (omega (arith, s.0), omega (arith, s.1)))
      go zero o (inl e) = inl (two-eq (omega (arith, ap (λ (z : Two). z.0) e)) (omega (arith, ap (λ (z : Two). z.1) e)))
      go (suc n) (inl k) (inl e) =
          let c = ⊑-antisym (f p) (g p) (h p here) k in
          inl (two-eq (omega (arith, ap (λ (z : Two). z.0) e, ap (λ (z : Two). suc n * z.0) c)) (omega (arith, ap (λ (z : Two). z.1) e, ap (λ (z : Two). suc n * z.1) c)))
      go (suc n) (inr k) (inl e) = inr (p, here, k, (omega arith, omega arith))

module _ {N : Type 0} (S : System N) (plain : (x : List ℕ) (l : List Two) → S.value x l ≡ quality_over x l) (Move : N → List N → List ℕ → Type 0) (M : Moves S Move) where
  pub backs : Backs S
  backs = record { back = λ q r p falls is l. go q r p falls is l (turn-from S r p) }
    where
      go : (q r : N → Two) (p : N) → ((c : N) → In c (S.joins p) → r c ⊑ q c) → r p ≡ (turn_of S q p).quality → (turn_of S r p).quality ⊏ r p
          → ((turn_of S r p).quality ≡ r p) ⊎ Won S r p (turn_of S r p).quality → (c : N) × In c (S.joins p) × (r c ⊏ q c) × NoMore (r c) (turn_of S r p).quality
      go q r p falls is l (inl e) = absurd (⊏-not (turn_of S r p).quality (r p) l (⊑-of-eq (sym e)))
      go q r p falls is l (inr (a, j, e)) = by (differ r q a.counts a.places (λ c k. falls c (from c k)))
        where
          m : Move p a.places a.counts
          m = M.sound r p a j

          from : (c : N) → In c a.places → In c (S.joins p)
          from = M.joined p a.places a.counts m

          z : (turn_of S r p).quality ≡ quality_over a.counts (map r a.places)
          z = e ∙ plain a.counts (map r a.places)

          by : (Total a.counts (map r a.places) ≡ Total a.counts (map q a.places)) ⊎ Strict r q a.counts a.places → (c : N) × In c (S.joins p) × (r c ⊏ q c) × NoMore (r c) (turn_of S r p).quality
          by (inl same) =
              absurd (⊏-not (turn_of S r p).quality (r p) l (rw is
              (⊑_trans (turn_of S q p).quality (S.value a.counts (map q a.places)) (turn_of S r p).quality (turn-move S Move M q p a.places a.counts m)
              (⊑-of-eq (plain a.counts (map q a.places) ∙ ap {B = Two} (λ (y : Two). (1 + y.0, y.1)) (sym same) ∙ sym z)))))
          by (inr (c, i, k, s)) = (c, from c i, k, (omega (arith, s.0, ap (λ (y : Two). y.0) z), omega (arith, s.1, ap (λ (y : Two). y.1) z)))
