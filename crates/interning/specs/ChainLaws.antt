-- A search along a chain, and the chains after one term more.
use Rattle.std.specs.Prelude.{◌≡◌, refl, ◌⊎◌, List, ℕ, ◌-◌, ◌≤◌, ◌<◌}
use Rattle.std.proofs.Common.{sym, ◌∙◌, inl, inr, not-suc-le-zero, eq-or-lt_of_le, arith}
use Rattle.terms.specs.Buffers.{BUCKETS, node_of, node_in, part_in, chain_in, bucket_in, count_in}
use Rattle.terms.specs.Chains.{key_of, key_in, Holds}
use Rattle.interning.specs.Interning.{Sought}
use Rattle.interning.specs.SameLaws.{node-numbers}

-- equal nodes, equal keys
pub key-of-node : (terms runs : List ℕ) (i h v : ℕ) (l : List ℕ) → node_in terms runs i ≡ node_of h v l → key_in terms runs i ≡ key_of h v l
key-of-node terms runs i h v l e = let (a, b, c) = node-numbers _ _ (part_in terms runs i) h v l e in rw (a, b, c) refl

-- t is a number of the chain plus 1, or 0: every entry that is the node stands below it
pub record Walking (terms runs : List ℕ) (h v : ℕ) (l : List ℕ) (t : ℕ) : Type 0 where
  pub small : t ≤ count_in terms
  pub keyed : 0 < t → key_in terms runs (t - 1) ≡ key_of h v l
  pub rest : (i : ℕ) → i < count_in terms → node_in terms runs i ≡ node_of h v l → i < t

module _ (terms runs : List ℕ) (h v : ℕ) (l : List ℕ) (H : Holds terms runs) where
  pub walk_start : (b t : ℕ) → b ≡ key_of h v l → b < BUCKETS → t ≡ bucket_in terms b → Walking terms runs h v l t
  walk_start b t e k q = record {
    small = rw q (H.chained.some b k);
    keyed = λ z. rw q (H.chained.last b k (rw q at z)) ∙ e;
    rest = λ i m n. rw q (rw (key-of-node terms runs i h v l n ∙ sym e) at (H.chained.all i m));
  }

  pub walk_turn : (t s : ℕ) → 0 < t → Walking terms runs h v l t → (node_in terms runs (t - 1) ≡ node_of h v l → ⊥) → s ≡ chain_in terms (t - 1) → Walking terms runs h v l s
  walk_turn t s z w d q =
      let m : t - 1 < count_in terms = omega (arith, w.small) in record {
        small = rw q (omega (arith, H.chained.falls (t - 1) m));
        keyed = λ y. rw q (H.chained.link (t - 1) m (rw q at y)) ∙ w.keyed z;
        rest = λ i k n. rw q (H.chained.next (t - 1) i m (below i k n) (key-of-node terms runs i h v l n ∙ sym (w.keyed z)));
      }
    where
      below : (i : ℕ) → i < count_in terms → node_in terms runs i ≡ node_of h v l → i < t - 1
      below i k n = go (eq-or-lt_of_le {n = i} {m = t - 1} (omega (arith, w.rest i k n)))
        where
          go : (i ≡ t - 1) ⊎ (i < t - 1) → i < t - 1
          go (inl e) = absurd (d (rw e at n))
          go (inr a) = a

  pub walk-found : (t : ℕ) → 0 < t → Walking terms runs h v l t → node_in terms runs (t - 1) ≡ node_of h v l → Sought terms runs (node_of h v l) t
  walk-found t z w e = record { there = λ y. (w.small, e); absent = λ y. absurd (omega arith) }

  pub walk_none : Walking terms runs h v l 0 → Sought terms runs (node_of h v l) 0
  walk_none w = record { there = λ y. absurd (not-suc-le-zero y); absent = λ y i k n. not-suc-le-zero (w.rest i k n) }

  pub walk-falls : (t s : ℕ) → 0 < t → Walking terms runs h v l t → s ≡ chain_in terms (t - 1) → s < t
  walk-falls t s z w q = omega (arith, H.chained.falls (t - 1) (omega (arith, w.small)))
