-- Every query has its number of pairs: the classes of reachable pairs come from the image and from the query, so there are finitely many.
use Rattle.std.specs.Prelude.{◌≡◌, refl, ◌⊎◌, ℕ, zero, suc, ◌<◌}
use Rattle.std.proofs.Common.{inl, inr}
use mathlib.Core.List.{List, [], ◌∷◌, ◌++◌, map}
use Rattle.std.proofs.Math.ListN.{length, get_or}
use Rattle.spec.specs.Bytes.{each, Two}
use Rattle.spec.specs.Image.{Tables, Operation, NO-IDENTITY}
use Rattle.spec.specs.Pairs.{pairs}
use Rattle.spec.specs.Meaning.{In, here, there, Reachable}
use Rattle.laws.specs.Lists.{get_in, in_left, in_right, in_map, in-each}
use Rattle.laws.specs.Bag.{span-in}
use Rattle.lgg.specs.Within.{reachable-in}
use Rattle.steps.specs.Graph.{NodeCount, node-count}

-- the classes at hand
universe : Tables → Two → List ℕ
universe t p = p.0 ∷ p.1 ∷ 0 ∷ NO-IDENTITY ∷ map (λ c. c.0) t.children ++ map (λ o. o.identity) t.operations

get-identity : (l : List Operation) (o : ℕ) → ((get_or l o (record { kind = 0; flag = 0; identity = NO-IDENTITY })).identity ≡ NO-IDENTITY) ⊎ In (get_or l o (record { kind = 0; flag = 0; identity = NO-IDENTITY })).identity (map (λ o. o.identity) l)
get-identity [] o = inl refl
get-identity (x ∷ l) zero = inr here
get-identity (x ∷ l) (suc o) = elim (get-identity l o) [ inl e ↦ inl e | inr i ↦ inr (there i) ]

module _ (t : Tables) (root : Two) where
  abbrev U : List ℕ
  U = universe t root

  -- all pairs of classes at hand
  grid : List Two
  unfolding each
  grid = each (λ a. map (λ b. (a, b)) U) U

  in-grid : (p : Two) → In p.0 U × In p.1 U → In p grid
  unfolding grid
  in-grid p (h, k) = in-each (λ a. map (λ b. (a, b)) U) U p.0 p h (in_map (λ b. (p.0, b)) k)

  reachable-grid : (p : Two) → Reachable t root p → In p grid
  unfolding universe
  reachable-grid p r =
      in-grid p (reachable-in t (λ c. In c U) (there (there here))
      (λ c m i r j. there (there (there (there (in_left (map (λ o. o.identity) t.operations) (in_map (λ c. c.0) (child r (span-in t.children m.first m.count (0, 0) j))))))))
      (λ o e. identity (get-identity t.operations o)) root (here, there here) p r)
    where
      child : (r : Two) → (i : ℕ) × (i < length t.children) × (r ≡ get_or t.children i (0, 0)) → In r t.children
      child r (i, h, e) = rw e (get_in (0, 0) t.children i h)

      identity : {c : ℕ} → (c ≡ NO-IDENTITY) ⊎ In c (map (λ o. o.identity) t.operations) → In c U
      identity (inl e) = rw e (there (there (there here)))
      identity (inr i) = there (there (there (there (in_right (map (λ c. c.0) t.children) i))))

  -- Every query has one n, the number of its reachable pairs, whether or not a budget builds them all.
  pub pair-count : (n : ℕ) × NodeCount (pairs t) root n × ((m : ℕ) → NodeCount (pairs t) root m → m ≡ n)
  pair-count = node-count (pairs t) root grid reachable-grid
