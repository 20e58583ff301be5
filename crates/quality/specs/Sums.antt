-- A structural action counts each of its pairs once: its quality as plain sums, pair by pair.
use Rattle.std.specs.Prelude.{◌≡◌, ℕ, ◌+◌, ◌*◌, ◌≤◌, ◌<◌, length, get_or, drop}
use Rattle.std.proofs.Math.Path.{refl}
use Rattle.std.proofs.Common.{ap, ◌∙◌, arith, add-one, drop_of_length-le}
use mathlib.Core.List.{List, [], ◌∷◌, map}
use Rattle.std.proofs.Math.Seq.{drop-cons}
use Rattle.spec.specs.Bytes.{Two, sum}
use Rattle.spec.specs.Transport.{plan_size, plan_mass}
use Rattle.spec.specs.Action.{Action}
use Rattle.spec.specs.Round.{cells_over, ones}
use Rattle.quality.specs.Offer.{structural_quality}

-- the entry k of a list, by its two parts
two-parts : (ps : List Two) (k l r : ℕ) → l ≡ (get_or ps k (0, 0)).0 → r ≡ (get_or ps k (0, 0)).1 → (l, r) ≡ get_or ps k (0, 0)
two-parts ps k l r e f = λ i. (e i, f i)

module _ (q : Two → Two) where
  abbrev pub sizes : List Two → ℕ
  sizes ps = sum (map (λ p. (q p).0) ps)

  abbrev pub masses : List Two → ℕ
  masses ps = sum (map (λ p. (q p).1) ps)

  pub ones-size : (ps : List Two) → plan_size (ones ps) (cells_over (map q ps)) ≡ sizes ps
  unfolding plan_size sum
  ones-size [] = refl
  ones-size (p ∷ ps) = omega (arith, ones-size ps)

  pub ones-mass : (ps : List Two) → plan_mass (ones ps) (cells_over (map q ps)) ≡ masses ps
  unfolding plan_mass sum
  ones-mass [] = refl
  ones-mass (p ∷ ps) = omega (arith, ones-mass ps)

-- The first k of the pairs ps are added: what is left makes the whole.
pub record Summed (q : Two → Two) (ps : List Two) (k size mass : ℕ) : Type 0 where
  pub done : k ≤ length ps
  pub size_left : size + sizes q (drop k ps) ≡ 1 + sizes q ps
  pub mass_left : mass + masses q (drop k ps) ≡ masses q ps
  pub few_size : size ≤ 1 + k * 4294967295
  pub few_mass : mass ≤ k * 4294967295

module _ (q : Two → Two) (ps : List Two) where
  pub summed-none : Summed q ps 0 1 0
  summed-none = record { done = omega arith; size_left = refl; mass_left = omega arith; few_size = omega arith; few_mass = omega arith }

  module _ (k size mass : ℕ) (S : Summed q ps k size mass) where
    module _ (h : k < length ps) where
      sizes-next : sizes q (drop k ps) ≡ (q (get_or ps k (0, 0))).0 + sizes q (drop (k + 1) ps)
      unfolding sum
      sizes-next = rw (add-one, drop-cons ps k (0, 0)) refl

      masses-next : masses q (drop k ps) ≡ (q (get_or ps k (0, 0))).1 + masses q (drop (k + 1) ps)
      unfolding sum
      masses-next = rw (add-one, drop-cons ps k (0, 0)) refl

      pub summed-more : (l r x y : ℕ) → l ≡ (get_or ps k (0, 0)).0 → r ≡ (get_or ps k (0, 0)).1 → x ≡ (q (l, r)).0 → y ≡ (q (l, r)).1
          → x < 4294967296 → y < 4294967296 → Summed q ps (k + 1) (size + x) (mass + y)
      summed-more l r x y e f u w a b =
          let p = two-parts ps k l r e f in
          let u' : x ≡ (q (get_or ps k (0, 0))).0 = u ∙ ap (λ (z : Two). (q z).0) p in
          let w' : y ≡ (q (get_or ps k (0, 0))).1 = w ∙ ap (λ (z : Two). (q z).1) p in
          record {
            done = omega arith;
            size_left = omega (arith, S.size_left, sizes-next);
            mass_left = omega (arith, S.mass_left, masses-next);
            few_size = omega (arith, S.few_size);
            few_mass = omega (arith, S.few_mass);
          }

pub summed-all : (q : Two → Two) (a : Action) (k size mass : ℕ) → Summed q a.pairs k size mass → length a.pairs ≤ k → (size, mass) ≡ structural_quality q a
unfolding sum
summed-all q a k size mass S h =
    let d : drop k a.pairs ≡ [] = drop_of_length-le a.pairs h in
    let s : size + 0 ≡ 1 + sizes q a.pairs = rw d at S.size_left in
    let m : mass + 0 ≡ masses q a.pairs = rw d at S.mass_left in
    let s' : size ≡ 1 + plan_size (ones a.pairs) (cells_over (map q a.pairs)) = omega (arith, ones-size q a.pairs) in
    let m' : mass ≡ plan_mass (ones a.pairs) (cells_over (map q a.pairs)) = omega (arith, ones-mass q a.pairs) in
    λ i. (s' i, m' i)
