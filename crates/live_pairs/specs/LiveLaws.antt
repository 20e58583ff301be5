-- Live pairs: the test, and the search for the next one.
use Rattle.std.specs.Prelude.{◌≡◌, refl, Bool, true, false, List, ℕ, suc, ◌+◌, ◌*◌, ◌-◌, ◌≤◌, ◌<◌, ltb, get_or}
use Rattle.std.proofs.Common.{sym, ap, ◌∙◌, arith, lt-ltb, le-ltb}
use Rattle.laws.specs.Firsts.{first_from, first-stop, first_more, first-end}
use Rattle.arrays.specs.Arrays.{unkey, pairs_in}
use Rattle.arrays.specs.ArrayLaws.{unkeyed-at}
use Rattle.live_pairs.specs.Live.{live_in, next_live, due_of}

-- ---- live
pub live-left : (llive rlive : List ℕ) (l r : ℕ) → 0 < get_or llive l 0 → ltb 0 (get_or rlive r 0) ≡ live_in llive rlive (l, r)
live-left llive rlive l r h = rw (lt-ltb 0 (get_or llive l 0) h) refl

pub live-none : (llive rlive : List ℕ) (l r : ℕ) → get_or llive l 0 ≤ 0 → false ≡ live_in llive rlive (l, r)
live-none llive rlive l r h = rw (le-ltb 0 (get_or llive l 0) h) refl

-- ---- the search for the next live pair
module _ (w : ℕ) (graph llive rlive : List ℕ) (n j l r : ℕ) (h : j < n) (el : l ≡ (unkey (get_or graph (w * w + j) 0)).0) (er : r ≡ (unkey (get_or graph (w * w + j) 0)).1) (b : Bool) (is : b ≡ live_in llive rlive (l, r)) where
  abbrev f : ℕ → Bool
  f i = live_in llive rlive (get_or (pairs_in w graph n) i (0, 0))

  here : f j ≡ b
  here = ap (live_in llive rlive) (unkeyed-at graph (w * w) n j h ∙ sym (λ i. (el i, er i))) ∙ sym is

  pub next-found : b ≡ true → next_live (pairs_in w graph n) llive rlive j n ≡ j
  next-found e = first-stop f j n h (here ∙ e)

  pub next-later : b ≡ false → next_live (pairs_in w graph n) llive rlive j n ≡ next_live (pairs_in w graph n) llive rlive (j + 1) n
  next-later e = let y : suc j ≡ j + 1 = omega arith in first_more f j n h (here ∙ e) ∙ ap (λ (i : ℕ). first_from f i n) y

pub next-none : (w : ℕ) (graph llive rlive : List ℕ) (n j : ℕ) → n ≤ j → next_live (pairs_in w graph n) llive rlive j n ≡ j
next-none w graph llive rlive n j h = first-end (λ i. live_in llive rlive (get_or (pairs_in w graph n) i (0, 0))) j n h

-- ---- the checks of a step
pub due-idle : (k j : ℕ) → k < j → j - k ≡ due_of k j
due-idle k j h = rw (lt-ltb k j h) refl

pub due-live : (k j : ℕ) → j ≤ k → 1 ≡ due_of k j
due-live k j h = rw (le-ltb k j h) refl
