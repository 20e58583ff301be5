-- A relaxation on words is the definition's: the net holds the search afterwards too.
use Rattle.std.specs.Prelude.{◌≡◌, refl, ◌≢◌, Bool, true, false, List, [], ◌∷◌, ◌++◌, ℕ, ◌≤◌, ◌<◌, eqb, pos, length, get_or}
use Rattle.std.proofs.Common.{sym, ap, ◌∙◌, arith, eq-eqb, ne_eqb, get_or-set_same, get_or-set_other}
use Rattle.std.proofs.Math.Option.{none, some}
use Rattle.std.proofs.Math.Decide.{ℕ_discrete}
use Rattle.spec.specs.Bytes.{pick}
use Rattle.spec.specs.Meaning.{occurs, In}
use Rattle.spec.specs.Transport.{Problem, Search, node_count, label, improves}
use Rattle.laws.specs.Tests.{clash}
use Rattle.wide.specs.declared.Wide.{Wide}
use Rattle.wide.specs.Wrap.{Natural, less-natural}
use Rattle.flow.specs.Cut.{bit}
use Rattle.flow.specs.Search.{label_at, pred_at}
use Rattle.search_laws.specs.Holds.{NetHolds, ring_from}
use Rattle.search_laws.specs.NetReads.{labelled-size, labelled-at, labelled-off, labelled-pred, labelled-pred-off, labelled-state, labelled-head, labelled-count, labelled-ring, joined-size, joined-label, joined-pred, joined-state, joined-state-off, joined-head, joined-ring, ring-length}
use Rattle.search_laws.specs.Once.{one_same, one-other, occurs-last, queue-room}
use Rattle.net.specs.Net.{label_of, pred_of, state_of, head_of, count_of, labelled, joined, improved, offered, relaxed, NODES, NET}
use Rattle.net.specs.NetLaws.{improved-queued, improved-joins, relaxed-yes, relaxed-not}

bit_le : (b : Bool) → bit b ≤ 1
bit_le true = omega arith
bit_le false = omega arith

two-not : (x : ℕ) → eqb x 2 ≡ true → x ≡ 2
two-not x e = go (ℕ_discrete x 2)
  where
    go : Dec (x ≡ 2) → x ≡ 2
    go (yes q) = q
    go (no q) = absurd (clash (sym e ∙ ne_eqb x 2 q))

-- the lengths of a search's lists, and that its queue holds nodes
pub record Sized (p : Problem) (s : Search) : Type 0 where
  pub dist : length s.dist ≡ node_count p
  pub pred : length s.pred ≡ node_count p
  pub queued : length s.queued ≡ node_count p
  pub inside : (v : ℕ) → In v s.queue → v < node_count p

module _ (p : Problem) (few : node_count p ≤ NODES) (s : Search) (Z : Sized p s) (m : List ℕ) (N : NetHolds p s m)
    (u v : ℕ) (hv : v < node_count p) (d : Wide) (k : ℕ) (D : Natural d k) where
  abbrev t : Search
  t = label u v (pos k) s

  hv' : v < NODES
  hv' = omega arith

  Lv : label_at (label u v (pos k) s) v ≡ some (pos k)
  Lv = get_or-set_same s.dist v (some (pos k)) none (omega (arith, Z.dist))

  Lz : (z : ℕ) → z ≢ v → label_at (label u v (pos k) s) z ≡ label_at s z
  Lz z ne = get_or-set_other s.dist v z (some (pos k)) none ne

  Pv : pred_at (label u v (pos k) s) v ≡ u
  Pv = get_or-set_same s.pred v u 0 (omega (arith, Z.pred))

  Pz : (z : ℕ) → z ≢ v → pred_at (label u v (pos k) s) z ≡ pred_at s z
  Pz z ne = get_or-set_other s.pred v z u 0 ne

  Fv : get_or (label u v (pos k) s).queued v false ≡ true
  Fv = get_or-set_same s.queued v true false (omega (arith, Z.queued))

  Fz : (z : ℕ) → z ≢ v → get_or (label u v (pos k) s).queued z false ≡ get_or s.queued z false
  Fz z ne = get_or-set_other s.queued v z true false ne

  count-is : count_of m ≡ length s.queue
  count-is = sym (ring-length m (count_of m) (head_of m)) ∙ ap length N.ring

  -- a node that stands in the queue
  stays : state_of m v ≡ 2 → NetHolds p (label u v (pos k) s) (labelled m u v d)
  stays e = record {
    size = labelled-size m N.size u v hv' d;
    unseen = λ z hz q. unseen z hz q (ℕ_discrete z v);
    seen = λ z hz q. seen z hz q (ℕ_discrete z v);
    pred = λ z hz q. pred z hz q (ℕ_discrete z v);
    flags = λ z hz. flags z hz (ℕ_discrete z v);
    head = rw (labelled-head m N.size u v hv' d) N.head;
    ring = rw (labelled-count m N.size u v hv' d, labelled-head m N.size u v hv' d, labelled-ring m N.size u v hv' d (count_of m) (head_of m), flag) N.ring;
    once = λ z. once z (ℕ_discrete z v);
  }
    where
      st : (z : ℕ) → state_of (labelled m u v d) z ≡ state_of m z
      st z = labelled-state m N.size u v hv' d z

      flag : get_or s.queued v false ≡ true
      flag = sym (N.flags v hv) ∙ eq-eqb (state_of m v) 2 e

      unseen : (z : ℕ) → z < node_count p → state_of (labelled m u v d) z ≡ 0 → Dec (z ≡ v) → label_at (label u v (pos k) s) z ≡ none
      unseen z hz q (yes y) = absurd (clash (st z) (ap (state_of m) y))
        where
          clash : state_of (labelled m u v d) z ≡ state_of m z → state_of m z ≡ state_of m v → ⊥
          clash a b = omega arith
      unseen z hz q (no y) = Lz z y ∙ N.unseen z hz (sym (st z) ∙ q)

      seen : (z : ℕ) → z < node_count p → (state_of (labelled m u v d) z ≡ 0 → ⊥) → Dec (z ≡ v) → (l : ℕ) × (label_at (label u v (pos k) s) z ≡ some (pos l)) × Natural (label_of (labelled m u v d) z) l
      seen z hz q (yes y) = rw y (k, Lv, rw (labelled-at m N.size u v hv' d) D)
      seen z hz q (no y) = let (l, a, b) = N.seen z hz (λ o. q (st z ∙ o)) in (l, Lz z y ∙ a, rw (labelled-off m N.size u v hv' d z (omega arith) y) b)

      pred : (z : ℕ) → z < node_count p → (state_of (labelled m u v d) z ≡ 0 → ⊥) → Dec (z ≡ v) → pred_of (labelled m u v d) z ≡ pred_at (label u v (pos k) s) z
      pred z hz q (yes y) = rw y (labelled-pred m N.size u v hv' d ∙ sym Pv)
      pred z hz q (no y) = labelled-pred-off m N.size u v hv' d z (omega arith) y ∙ N.pred z hz (λ o. q (st z ∙ o)) ∙ sym (Pz z y)

      flags : (z : ℕ) → z < node_count p → Dec (z ≡ v) → eqb (state_of (labelled m u v d) z) 2 ≡ get_or (label u v (pos k) s).queued z false
      flags z hz (yes y) = rw y (eq-eqb (state_of (labelled m u v d) v) 2 (st v ∙ e) ∙ sym Fv)
      flags z hz (no y) = ap (λ (o : ℕ). eqb o 2) (st z) ∙ N.flags z hz ∙ sym (Fz z y)

      once : (z : ℕ) → Dec (z ≡ v) → occurs z (label u v (pos k) s).queue ≡ bit (get_or (label u v (pos k) s).queued z false)
      once z (yes y) = rw (y, flag) (N.once v ∙ ap bit (flag ∙ sym Fv))
      once z (no y) = rw flag (N.once z ∙ ap bit (sym (Fz z y)))

  -- a node that joins it
  joins : (state_of m v ≡ 2 → ⊥) → NetHolds p (label u v (pos k) s) (joined (labelled m u v d) v)
  joins e = record {
    size = joined-size m' len' v hv' hh hc;
    unseen = λ z hz q. unseen z hz q (ℕ_discrete z v);
    seen = λ z hz q. seen z hz q (ℕ_discrete z v);
    pred = λ z hz q. pred z hz q (ℕ_discrete z v);
    flags = λ z hz. flags z hz (ℕ_discrete z v);
    head = rw (joined-head m' len' v hv' hh hc) hh;
    ring = joined-ring m' len' v hv' hh hc ∙ ap (λ (l : List ℕ). l ++ (v ∷ [])) same-ring ∙ sym queue-is;
    once = λ z. once z (ℕ_discrete z v);
  }
    where
      m' : List ℕ
      m' = labelled m u v d

      len' : length (labelled m u v d) ≡ NET
      len' = labelled-size m N.size u v hv' d

      flag : get_or s.queued v false ≡ false
      flag = sym (N.flags v hv) ∙ ne_eqb (state_of m v) 2 e

      hh : head_of (labelled m u v d) < NODES
      hh = rw (labelled-head m N.size u v hv' d) N.head

      room : length s.queue < node_count p
      room = queue-room (node_count p) s.queue v Z.inside (λ z. rw (N.once z) (bit_le (get_or s.queued z false))) hv (N.once v ∙ ap bit flag)

      hc : count_of (labelled m u v d) < NODES
      hc = rw (labelled-count m N.size u v hv' d) (omega (arith, room, count-is))

      same-ring : ring_from (labelled m u v d) (count_of (labelled m u v d)) (head_of (labelled m u v d)) ≡ s.queue
      same-ring = rw (labelled-count m N.size u v hv' d, labelled-head m N.size u v hv' d, labelled-ring m N.size u v hv' d (count_of m) (head_of m)) N.ring

      queue-is : (label u v (pos k) s).queue ≡ s.queue ++ (v ∷ [])
      queue-is = rw flag refl

      st : (z : ℕ) → z < NODES → z ≢ v → state_of (joined (labelled m u v d) v) z ≡ state_of m z
      st z hz ne = joined-state-off m' len' v hv' hh hc z hz ne ∙ labelled-state m N.size u v hv' d z

      stv : state_of (joined (labelled m u v d) v) v ≡ 2
      stv = joined-state m' len' v hv' hh hc

      unseen : (z : ℕ) → z < node_count p → state_of (joined (labelled m u v d) v) z ≡ 0 → Dec (z ≡ v) → label_at (label u v (pos k) s) z ≡ none
      unseen z hz q (yes y) = absurd (clash (ap (state_of (joined (labelled m u v d) v)) y) stv)
        where
          clash : state_of (joined (labelled m u v d) v) z ≡ state_of (joined (labelled m u v d) v) v → state_of (joined (labelled m u v d) v) v ≡ 2 → ⊥
          clash a b = omega arith
      unseen z hz q (no y) = Lz z y ∙ N.unseen z hz (sym (st z (omega arith) y) ∙ q)

      seen : (z : ℕ) → z < node_count p → (state_of (joined (labelled m u v d) v) z ≡ 0 → ⊥) → Dec (z ≡ v) → (l : ℕ) × (label_at (label u v (pos k) s) z ≡ some (pos l)) × Natural (label_of (joined (labelled m u v d) v) z) l
      seen z hz q (yes y) = rw y (k, Lv, rw (joined-label m' len' v hv' hh hc v hv', labelled-at m N.size u v hv' d) D)
      seen z hz q (no y) =
          let (l, a, b) = N.seen z hz (λ o. q (st z (omega arith) y ∙ o)) in
          (l, Lz z y ∙ a, rw (joined-label m' len' v hv' hh hc z (omega arith), labelled-off m N.size u v hv' d z (omega arith) y) b)

      pred : (z : ℕ) → z < node_count p → (state_of (joined (labelled m u v d) v) z ≡ 0 → ⊥) → Dec (z ≡ v) → pred_of (joined (labelled m u v d) v) z ≡ pred_at (label u v (pos k) s) z
      pred z hz q (yes y) = rw y (joined-pred m' len' v hv' hh hc v hv' ∙ labelled-pred m N.size u v hv' d ∙ sym Pv)
      pred z hz q (no y) =
          joined-pred m' len' v hv' hh hc z (omega arith) ∙ labelled-pred-off m N.size u v hv' d z (omega arith) y
          ∙ N.pred z hz (λ o. q (st z (omega arith) y ∙ o)) ∙ sym (Pz z y)

      flags : (z : ℕ) → z < node_count p → Dec (z ≡ v) → eqb (state_of (joined (labelled m u v d) v) z) 2 ≡ get_or (label u v (pos k) s).queued z false
      flags z hz (yes y) = rw y (eq-eqb (state_of (joined (labelled m u v d) v) v) 2 stv ∙ sym Fv)
      flags z hz (no y) = ap (λ (o : ℕ). eqb o 2) (st z (omega arith) y) ∙ N.flags z hz ∙ sym (Fz z y)

      once : (z : ℕ) → Dec (z ≡ v) → occurs z (label u v (pos k) s).queue ≡ bit (get_or (label u v (pos k) s).queued z false)
      once z (yes y) = rw (y, queue-is, occurs-last v v s.queue, one_same v, N.once v, flag, Fv) refl
      once z (no y) = rw (queue-is, occurs-last z v s.queue, one-other v z (λ o. y (sym o)), N.once z, Fz z y) (omega arith)

  pub improved-holds : NetHolds p (label u v (pos k) s) (improved m u v d)
  improved-holds = go (ℕ_discrete (state_of m v) 2)
    where
      st : state_of (labelled m u v d) v ≡ state_of m v
      st = labelled-state m N.size u v hv' d v

      go : Dec (state_of m v ≡ 2) → NetHolds p (label u v (pos k) s) (improved m u v d)
      go (yes e) = rw (← improved-queued m u v d (st ∙ e)) (stays e)
      go (no e) = rw (← improved-joins m u v d (λ q. e (sym st ∙ q))) (joins e)

  -- whether the offer is better is the same test
  offered-is : offered m v d ≡ improves (pos k) (label_at s v)
  offered-is = go (ℕ_discrete (state_of m v) 0)
    where
      go : Dec (state_of m v ≡ 0) → offered m v d ≡ improves (pos k) (label_at s v)
      go (yes e) = rw (eq-eqb (state_of m v) 0 e, N.unseen v hv e) refl
      go (no e) = let (l, a, b) = N.seen v hv e in rw (ne_eqb (state_of m v) 0 e, a) (less-natural D b)

  pub relaxed-holds : NetHolds p (pick (improves (pos k) (label_at s v)) (label u v (pos k) s) s) (relaxed m u v d)
  relaxed-holds = go (improves (pos k) (label_at s v)) refl
    where
      go : (b : Bool) → improves (pos k) (label_at s v) ≡ b → NetHolds p (pick b (label u v (pos k) s) s) (relaxed m u v d)
      go true e = rw (← relaxed-yes m u v d (sym (offered-is ∙ e))) improved-holds
      go false e = rw (← relaxed-not m u v d (sym (offered-is ∙ e))) N
