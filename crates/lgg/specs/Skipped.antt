-- (02, Paper 7) "the number of monomial pairs passed over in building": of a graph built in full it is that of all its pairs, so that it is the same for every budget that builds it; a longer run never shows less.
use Rattle.std.specs.Prelude.{◌≡◌, true, ℕ, ◌+◌, ◌*◌, ◌-◌, ◌≤◌, length}
use Rattle.std.proofs.Common.{sym, ◌∙◌, arith}
use Rattle.std.proofs.Math.Path.{ap}
use mathlib.Core.List.{List, [], ◌∷◌, ◌++◌, map}
use Rattle.std.proofs.Math.Nat.{mul-le-mul_left}
use Rattle.spec.specs.Bytes.{sum, In, here, there, Two, Limits, Res, ok, Checked, passed}
use Rattle.spec.specs.Image.{Tables}
use Rattle.spec.specs.Action.{skipped_at}
use Rattle.spec.specs.System.{turned, started}
use Rattle.spec.specs.Pool.{Interned}
use Rattle.spec.specs.Pairs.{pairs, making}
use Rattle.spec.specs.Graph.{build, skipped_in}
use Rattle.spec.specs.Run.{Outcome, run_of}
use Rattle.laws.specs.Valid.{Valid}
use Rattle.laws.specs.BestMembers.{IsPair}
use Rattle.laws.specs.Tests.{clash}
use Rattle.laws.specs.Results.{Later}
use Rattle.steps.specs.Graph.{build-later}
use Rattle.steps.specs.Turned.{turned_built, turned-longer, turned-limit, turned-reached}
use Rattle.steps.specs.Run.{Ends, in_building, in_starting, in_rounds, run_ends}
use Rattle.steps.specs.Outcomes.{started-says}
use Rattle.lgg.specs.Within.{reach-within}

sum-append : (f : Two → ℕ) (l m : List Two) → sum (map f (l ++ m)) ≡ sum (map f l) + sum (map f m)
unfolding sum
sum-append f [] m = omega arith
sum-append f (x ∷ l) m = omega (arith, sum-append f l m)

sum-few : (f : Two → ℕ) (w : ℕ) (l : List Two) → ((x : Two) → In x l → f x ≤ w) → sum (map f l) ≤ length l * w
unfolding sum
sum-few f w [] h = omega arith
sum-few f w (x ∷ l) h = omega (arith, h x here, sum-few f w l (λ y i. h y (there i)))

module _ (lim : Limits) (t : Tables) (p : Two) where
  -- Of a graph built in full it is the sum over all its pairs.
  pub skipped-built : (b c : ℕ) (ps : List Two) → build lim t p b ≡ ok (passed ps c) → skipped_in lim t p b ≡ sum (map (skipped_at t) ps)
  unfolding skipped_in
  skipped-built b c ps e = ap (λ (l : List Two). sum (map (skipped_at t) l)) (turned_built (pairs t) lim.pairs p b c ps e)

  -- A longer run never shows less.
  pub skipped-grows : (b c : ℕ) → b ≤ c → skipped_in lim t p b ≤ skipped_in lim t p c
  unfolding skipped_in
  skipped-grows b c h =
      let (a, e) = turned-longer (pairs t) lim.pairs p b c h in
      omega (arith, ap (λ (l : List Two). sum (map (skipped_at t) l)) e, sum-append (skipped_at t) (turned (pairs t) lim.pairs p b) a)

  -- One that builds the graph in full has the number of every longer one.
  pub skipped-stays : (b c x : ℕ) (ps : List Two) → build lim t p b ≡ ok (passed ps x) → b ≤ c → skipped_in lim t p c ≡ skipped_in lim t p b
  skipped-stays b c x ps e h = go (build lim t p b) e (build-later (pairs t) lim.pairs p b c (c - b) (omega arith))
    where
      go : (r : Res (Checked (List Two))) → r ≡ ok (passed ps x) → Later (c - b) r (build lim t p c) → skipped_in lim t p c ≡ skipped_in lim t p b
      go r z k = let f : build lim t p c ≡ ok (passed ps (x + (c - b))) = rw z at k in skipped-built c (x + (c - b)) ps f ∙ sym (skipped-built b x ps e)

  -- So has a complete one.
  pub same-skipped : (b c : ℕ) (o : Outcome) → b ≤ c → run_of lim t p b ≡ ok o → o.complete ≡ true → skipped_in lim t p c ≡ skipped_in lim t p b
  same-skipped b c o h e full = go (run_ends (pairs t) (making lim t) p b o e)
    where
      partial : (root : Interned) (n : ℕ) → o ≡ started (pairs t) b p root n → skipped_in lim t p c ≡ skipped_in lim t p b
      partial root n s = let (a, r, f, q) = started-says (pairs t) b p root n o s in absurd (clash (sym full ∙ f))

      go : Ends (pairs t) (making lim t) p b o → skipped_in lim t p c ≡ skipped_in lim t p b
      go (in_building root k s) = partial root 1 s
      go (in_starting root ps x k l s) = partial root (length ps) s
      go (in_rounds ps x d k l f) = skipped-stays b c x ps k h

  -- Where no pair of classes has more than w, no run has more than w for each pair that may be entered, refused or not.
  pub skipped-fits : Valid t → IsPair t p → (w : ℕ) → ((x : Two) → IsPair t x → skipped_at t x ≤ w) → (b : ℕ) → skipped_in lim t p b ≤ lim.pairs * w
  unfolding skipped_in
  skipped-fits v h w few b =
      let s = sum-few (skipped_at t) w (turned (pairs t) lim.pairs p b) (λ x i. few x (reach-within t v p x h (turned-reached (pairs t) lim.pairs p b x i))) in
      let l = turned-limit (pairs t) lim.pairs p b in
      omega (arith, s, mul-le-mul_left w l)
