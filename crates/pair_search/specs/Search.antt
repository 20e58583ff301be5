-- The search as the loop makes it, and what it finds. Assumes nothing.
use Rattle.std.specs.Prelude.{◌≡◌, refl, Bool, true, false, List, ◌∷◌, map, ℕ, zero, suc, ◌+◌, ◌-◌, ◌≤◌, min, length, get_or, take, drop}
use Rattle.std.proofs.Common.{ap, ◌∙◌, arith}
use Rattle.std.proofs.Math.Nat.{min-le_right}
use Rattle.spec.specs.Bytes.{pick, either, place, Two, same_two}
use Rattle.laws.specs.Tests.{clash}
use Rattle.pair_search.specs.declared.Pair.{Pair}
use Rattle.pair_search.specs.Records.{none, two_of, find_of}
use Rattle.pair_search.specs.Lists.{drop-cons, take_min}

-- n records from place i on: the first place that holds the pair, or the place after them
abbrev pub seek : List Pair → Two → ℕ → ℕ → ℕ
seek s p zero i = i
seek s p (suc n) i = pick (same_two p (two_of (get_or s i none))) i (seek s p n (suc i))

-- at a place that holds the pair, and at one that does not
pub seek-here : (s : List Pair) (p : Two) (n i : ℕ) → same_two p (two_of (get_or s i none)) ≡ true → seek s p (suc n) i ≡ i
seek-here s p n i e = ap (λ (t : Bool). pick t i (seek s p n (suc i))) e

pub seek-on : (s : List Pair) (p : Two) (n i : ℕ) → same_two p (two_of (get_or s i none)) ≡ false → seek s p (suc n) i ≡ seek s p n (i + 1)
seek-on s p n i e = ap (λ (t : Bool). pick t i (seek s p n (suc i))) e ∙ ap (seek s p n) (omega arith)

-- whether one of n records from place i on holds the pair
abbrev pub any_from : List Pair → Two → ℕ → ℕ → Bool
any_from s p zero i = false
any_from s p (suc n) i = either (same_two p (two_of (get_or s i none))) (any_from s p n (suc i))

-- the next record is looked at
pub any_step : (s : List Pair) (p : Two) (n i : ℕ) (t : Bool) → either (either t (same_two p (two_of (get_or s i none)))) (any_from s p n (i + 1)) ≡ either t (any_from s p (suc n) i)
any_step s p n i true = refl
any_step s p n i false = ap (λ (j : ℕ). either (same_two p (two_of (get_or s i none))) (any_from s p n j)) (omega arith)

-- records that do not hold the pair are passed over
seek-past : (s : List Pair) (p : Two) (n m i : ℕ) → any_from s p n i ≡ false → seek s p (n + m) i ≡ seek s p m (i + n)
seek-past s p zero m i h = at_both (zero + m) m i (i + zero) (omega arith) (omega arith)
  where
    at_both : (a b c d : ℕ) → a ≡ b → c ≡ d → seek s p a c ≡ seek s p b d
    at_both a b c d e f = ap (λ (k : ℕ). seek s p k c) e ∙ ap (seek s p b) f
seek-past s p (suc n) m i h = ap (λ (k : ℕ). seek s p k i) (more n m) ∙ go (same_two p (two_of (get_or s i none))) refl h (seek-past s p n m (suc i))
  where
    more : (a b : ℕ) → suc a + b ≡ suc (a + b)
    more a b = omega arith

    go : (t : Bool) → same_two p (two_of (get_or s i none)) ≡ t → either t (any_from s p n (suc i)) ≡ false → (any_from s p n (suc i) ≡ false → seek s p (n + m) (suc i) ≡ seek s p m (suc i + n))
        → seek s p (suc (n + m)) i ≡ seek s p m (i + suc n)
    go true e q ih = absurd (clash q)
    go false e q ih = ap (λ (t : Bool). pick t i (seek s p (n + m) (suc i))) e ∙ ih q ∙ ap (seek s p m) (omega arith)

-- the same, by places: nothing from i to j
pub seek-to : (s : List Pair) (p : Two) (end i j : ℕ) → i ≤ j → j ≤ end → any_from s p (j - i) i ≡ false → seek s p (end - i) i ≡ seek s p (end - j) j
seek-to s p end i j a b h = ap (λ (k : ℕ). seek s p k i) whole ∙ seek-past s p (j - i) (end - j) i h ∙ ap (seek s p (end - j)) (omega (arith, a))
  where
    whole : end - i ≡ (j - i) + (end - j)
    whole = omega (arith, a, b)

seek_is : (s : List Pair) (p : Two) (n i : ℕ) → i + n ≤ length s → seek s p n i ≡ i + place (same_two p) (map two_of (take n (drop i s)))
unfolding place
seek_is s p zero i h = omega arith
seek_is s p (suc n) i h = rw (drop-cons s i none (omega (arith, h))) (go (same_two p (two_of (get_or s i none))) refl (seek_is s p n (suc i) (omega (arith, h))))
  where
    go : (t : Bool) → same_two p (two_of (get_or s i none)) ≡ t → seek s p n (suc i) ≡ suc i + place (same_two p) (map two_of (take n (drop (suc i) s)))
        → pick (same_two p (two_of (get_or s i none))) i (seek s p n (suc i)) ≡ i + place (same_two p) (two_of (get_or s i none) ∷ map two_of (take n (drop (suc i) s)))
    go true e ih = rw (e, place) (omega arith)
    go false e ih = rw (e, place) (omega (arith, ih))

-- the search over all of `count` records that there are
pub seek_finds : (s : List Pair) (p : Two) (count : ℕ) → seek s p (min count (length s)) 0 ≡ find_of s count p
seek_finds s p count = seek_is s p (min count (length s)) 0 (omega (arith, min-le_right count (length s))) ∙ whole ∙ ap (λ (l : List Pair). place (same_two p) (map two_of l)) (take_min count s)
  where
    whole : 0 + place (same_two p) (map two_of (take (min count (length s)) s)) ≡ place (same_two p) (map two_of (take (min count (length s)) s))
    whole = omega arith
