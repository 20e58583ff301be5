-- The runs of an action's term: sorting is a permutation; written out they are the places with their counts; interning them.
use Rattle.std.specs.Prelude.{◌≡◌, refl, ◌≢◌, Bool, true, false, List, [], ◌∷◌, ◌++◌, map, ℕ, ◌<◌, eqb, length, replicate}
use Rattle.std.proofs.Common.{ap, arith, eqb-true}
use Rattle.std.proofs.lemmas.Bool.{eqb-false}
use Rattle.spec.specs.Bytes.{Two, pick}
use Rattle.spec.specs.Image.{Tables, kind_of, is_commutative}
use Rattle.spec.specs.Pool.{Pool, is_greater, structural_cmp, insert_run, sort_runs}
use Rattle.spec.specs.Round.{plan_runs}
use Rattle.spec.specs.Meaning.{In, here, there}
use Rattle.laws.specs.Bag.{Perm, nil, skip, swap, both, perm-refl, perm-sym, perm_in}
use Rattle.laws.specs.BagCount.{written, spread}
use Rattle.pools.specs.Pool.{RunsBelow, runs-below-nil, runs-below-cons}

insert-perm : (p : Pool) (r : Two) (l : List Two) → Perm (r ∷ l) (insert_run p r l)
unfolding insert_run
insert-perm p r [] = perm-refl (r ∷ [])
insert-perm p r (s ∷ l) = go (is_greater (structural_cmp (length p) p r.0 s.0)) (insert-perm p r l)
  where
    go : (b : Bool) → Perm (r ∷ l) (insert_run p r l) → Perm (r ∷ s ∷ l) (elim b [ true ↦ s ∷ insert_run p r l | false ↦ r ∷ s ∷ l ])
    go true ih = both (swap r s l) (skip s ih)
    go false ih = perm-refl (r ∷ s ∷ l)

pub sort-perm : (p : Pool) (l : List Two) → Perm l (sort_runs p l)
unfolding sort_runs
sort-perm p [] = nil
sort-perm p (r ∷ l) = both (skip r (sort-perm p l)) (insert-perm p r (sort_runs p l))

pub perm-below : {i : ℕ} {l m : List Two} → Perm l m → RunsBelow i l → RunsBelow i m
perm-below q b = record { earlier = λ r j. b.earlier r (perm_in (perm-sym q) j); counted = λ r j. b.counted r (perm_in (perm-sym q) j) }

-- places that are not used leave no run
pub plan-written : {N : Type 0} (of : N → ℕ) (ps : List N) (x : List ℕ) → written (plan_runs of ps x) ≡ spread (map of ps) x
unfolding plan_runs written spread
plan-written of [] x = refl
plan-written of (p ∷ ps) [] = refl
plan-written of (p ∷ ps) (n ∷ x) = go (eqb n 0) refl (plan-written of ps x)
  where
    go : (b : Bool) → eqb n 0 ≡ b → written (plan_runs of ps x) ≡ spread (map of ps) x → written (elim b [ true ↦ plan_runs of ps x | false ↦ (of p, n) ∷ plan_runs of ps x ]) ≡ replicate n (of p) ++ spread (map of ps) x
    go true e ih = rw (eqb-true n 0 e) ih
    go false e ih = ap (λ (z : List ℕ). replicate n (of p) ++ z) ih

pub plan-below : {N : Type 0} (of : N → ℕ) (i : ℕ) (ps : List N) (x : List ℕ) → ((c : N) → In c ps → of c < i) → RunsBelow i (plan_runs of ps x)
unfolding plan_runs
plan-below of i [] x h = runs-below-nil i
plan-below of i (p ∷ ps) [] h = runs-below-nil i
plan-below of i (p ∷ ps) (n ∷ x) h = go (eqb n 0) refl (plan-below of i ps x (λ c j. h c (there j)))
  where
    go : (b : Bool) → eqb n 0 ≡ b → RunsBelow i (plan_runs of ps x) → RunsBelow i (elim b [ true ↦ plan_runs of ps x | false ↦ (of p, n) ∷ plan_runs of ps x ])
    go true e ih = ih
    go false e ih = runs-below-cons {r = (of p, n)} (h p here) (let z : n ≢ 0 = eqb-false n 0 e in omega arith) ih

-- "children of commutative kinds are sorted"
abbrev pub action_runs : Tables → Pool → ℕ → List Two → List Two
action_runs t p o l = pick (is_commutative (kind_of t o)) (sort_runs p l) l

pub action-kept : (t : Tables) (p : Pool) (o : ℕ) (l : List Two) → is_commutative (kind_of t o) ≡ false → action_runs t p o l ≡ l
action-kept t p o l e = rw e refl
