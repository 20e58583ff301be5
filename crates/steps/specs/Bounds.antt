-- A turn's mass is at most its size where it is so of all that it reads, and the size does not grow.
use Rattle.std.specs.Prelude.{◌≡◌, ◌⊎◌, List, [], ◌∷◌, map, ℕ, ◌≤◌, ◌<◌}
use Rattle.std.proofs.Common.{inl, inr, mul-le-mul_right, arith}
use Rattle.spec.specs.Bytes.{In, here, there, Two}
use Rattle.spec.specs.Transport.{plan_size, plan_mass}
use Rattle.spec.specs.System.{System, turn_of}
use Rattle.spec.specs.Pairs.{cells_over, quality_over}
use Rattle.laws.specs.Lists.{map-in}
use Rattle.steps.specs.Quality.{⊑-size}
use Rattle.steps.specs.Turn.{turn-old, turn-from, Won, Inside}

abbrev pub Low : Two → Type 0
Low z = z.1 ≤ z.0

pub over-low : (x : List ℕ) (qs : List Two) → ((z : Two) → In z qs → Low z) → Low (quality_over x qs)
unfolding plan_mass plan_size
over-low x qs h = omega (arith, go x qs h)
  where
    go : (x : List ℕ) (qs : List Two) → ((z : Two) → In z qs → Low z) → plan_mass x (cells_over qs) ≤ plan_size x (cells_over qs)
    go [] qs h = omega arith
    go (n ∷ x) [] h = omega arith
    go (n ∷ x) (z ∷ qs) h = omega (arith, mul-le-mul_right n (h z here), go x qs (λ y i. h y (there i)))

module _ {N : Type 0} (S : System N) (I : Inside S) (low : (x : List ℕ) (qs : List Two) → ((z : Two) → In z qs → Low z) → Low (S.value x qs)) where
  pub turn_low : (q : N → Two) (p : N) → Low (q p) → ((c : N) → In c (S.joins p) → Low (q c)) → Low (turn_of S q p).quality
  turn_low q p e h = go (turn-from S q p)
    where
      go : ((turn_of S q p).quality ≡ q p) ⊎ Won S q p (turn_of S q p).quality → Low (turn_of S q p).quality
      go (inl k) = rw k e
      go (inr (a, i, k)) = rw k (low a.counts (map q a.places) (λ z j. let (c, n, f) = map-in q a.places z j in rw (← f) (h c (I q p a i c n))))

  -- so both numbers stay below a bound
  pub turn_small : (q : N → Two) (p : N) (b : ℕ) → (q p).0 < b → Low (q p) → ((c : N) → In c (S.joins p) → Low (q c)) → ((turn_of S q p).quality.0 < b) × ((turn_of S q p).quality.1 < b)
  turn_small q p b l e h = let s = ⊑-size (turn_of S q p).quality (q p) (turn-old S q p) in let m = turn_low q p e h in (omega arith, omega arith)
