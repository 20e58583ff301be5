-- Qualities from round to round, over a list of nodes that holds every node it joins. Three layers: what needs no law of the actions; the bound on rounds, from `Backs`;
-- least of each height and of every height, from `Moves`.
use Rattle.std.specs.Prelude.{◌≡◌, length}
use Rattle.std.proofs.Math.Path.{refl}
use Rattle.std.proofs.Common.{ap, inl, inr, arith, le_refl, le_trans, eq-or-lt_of_le}
use Rattle.std.proofs.Math.Bool.{true}
use mathlib.Core.List.{List, [], ◌∷◌}
use Prim.Native.Nat.{ℕ, zero, suc, ◌≤◌, ◌<◌}
use Rattle.spec.specs.Bytes.{In, Two}
use Rattle.spec.specs.System.{System}
use Rattle.spec.specs.Meaning.{◌⊑◌}
use Rattle.laws.specs.Lists.{in-nil, in-cons, Distinct, none, more, pigeon}
use Rattle.steps.specs.Quality.{◌⊏◌, ⊏-not, ⊏-⊑-trans}
use Rattle.steps.specs.Graph.{Closed}
use Rattle.steps.specs.Rounds.{quality_after, changed, q-next, q-falls, q-mono, changed-some, NoMore, Backs}

module _ {N : Type 0} (S : System N) (B : Backs S) (ps : List N) (closed : Closed S ps) where
  abbrev q : ℕ → N → Two
  q r = quality_after S ps r

  abbrev Improves : ℕ → N → Type 0
  Improves d p = q (suc d) p ⊏ q d p

  -- an improved node's winner joins a node that improved in the round before
  one-back : (d : ℕ) (p : N) → In p ps → Improves (suc d) p → (c : N) × In c ps × Improves d c × NoMore (q (suc d) c) (q (suc (suc d)) p)
  one-back d p i l =
      let e = q-next S ps (suc d) p i in
      let (c, j, k, m) = B.back (q d) (q (suc d)) p (λ c j. q-falls S ps d c (closed p c i j)) (q-next S ps d p i) (rw e at l) in
      (c, closed p c i j, k, rw e m)

  record Chain (d : ℕ) (p : N) (l : List N) : Type 0 where
    long : length l ≡ suc d
    apart : Distinct l
    of : (c : N) → In c l → In c ps
    sizes : (c : N) → In c l → (k : ℕ) × (k ≤ d) × NoMore (q (suc k) c) (q (suc d) p)

  no_more : (a b : Two) → NoMore a b → a ⊑ b
  no_more a b (h, k) = elim (eq-or-lt_of_le h) [ inl e ↦ inr (e, k) | inr l ↦ inl l ]

  chain : (d : ℕ) (p : N) → In p ps → Improves d p → (l : List N) × Chain d p l
  chain zero p i b = (
    p ∷ [],
    record {
      long = refl;
      apart = more in-nil none;
      of = λ c j. elim (in-cons j) [ inl e ↦ rw e i | inr k ↦ absurd (in-nil k) ];
      sizes = λ c j. elim (in-cons j) [ inl e ↦ (0, le_refl 0, rw e (le_refl _, le_refl _)) | inr k ↦ absurd (in-nil k) ];
    },
  )
  chain (suc d) p i b = let (c, j, bc, s) = one-back d p i b in go c s (chain d c j bc)
    where
      go : (c : N) → NoMore (q (suc d) c) (q (suc (suc d)) p) → (m : List N) × Chain d c m → (m : List N) × Chain (suc d) p m
      go c s (m, C) = (
        p ∷ m,
        record {
          long = ap suc C.long;
          apart = more (λ j. new (C.sizes p j)) C.apart;
          of = λ a j. elim (in-cons j) [ inl e ↦ rw e i | inr k ↦ C.of a k ];
          sizes = λ a j. elim (in-cons j) [ inl e ↦ (suc d, le_refl _, rw e (le_refl _, le_refl _)) | inr k ↦ let (y, u, z) = C.sizes a k in (y, omega arith, (le_trans z.0 s.0, le_trans z.1 s.1)) ];
        },
      )
        where
          new : (k : ℕ) × (k ≤ d) × NoMore (q (suc k) p) (q (suc d) c) → ⊥
          new (k, u, z) =
              ⊏-not (q (suc (suc d)) p) (q (suc k) p) (⊏-⊑-trans (q (suc (suc d)) p) (q (suc d) p) (q (suc k) p) b (q-mono S ps (suc k) (suc d) p i (omega arith)))
              (no_more (q (suc k) p) (q (suc (suc d)) p) (le_trans z.0 s.0, le_trans z.1 s.1))

  -- only a round with an index below the number of nodes changes anything
  pub bound : (d : ℕ) → changed S ps d ≡ true → d < length ps
  bound d e =
      let (p, i, b) = changed-some S ps d e in
      let (l, C) = chain d p i b in
      omega (arith, pigeon l ps C.apart C.of, C.long)
