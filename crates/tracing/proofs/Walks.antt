-- One turn of the walk back.
use mathlib.Core.Path.{◌≡◌, refl, sym, ap, ◌∙◌}
use mathlib.Core.List.{List, [], ◌∷◌}
use Prim.Native.Nat.{ℕ, zero, suc, ◌+◌, ◌-◌, ◌≤◌, ◌<◌}
use mathlib.Core.Bool.{false}
use lib.Dec.{eqb}
use native.Mathlib.Omega.{arith}
use borrow.Author.Tests.{eq-eqb, ne_eqb}
use lib.ListN.{length, get_or, set, length-set}
use lib.Seq.{get_or-set_same, get_or-set_other}
use Rattle.search_laws.specs.Walk.{steps_from, walk_net, walked_path, walked_at, Leads, arrived, onward, here, here-turn, LAST}
use Rattle.net.specs.Net.{pred_of, NODES}

-- ---- the walk back
steps-off : (path : List ℕ) (i x : ℕ) → (n a : ℕ) → i < a → steps_from (set path i x) n a ≡ steps_from path n a
unfolding steps_from
steps-off path i x zero a h = refl
steps-off path i x (suc n) a h = rw (get_or-set_other path i a x 0 (omega arith), get_or-set_other path i (a + 1) x 0 (omega arith), steps-off path i x n (a + 1) (omega arith)) refl

pub leads-on : {m : List ℕ} {n v : ℕ} → Leads m n v → (v ≡ 0 → ⊥) → (v < NODES) × ((k : ℕ) × (n ≡ suc k) × Leads m k (pred_of m v))
leads-on (arrived e) z = absurd (z e)
leads-on (onward {n = k} a b l) z = (b, (k, refl, l))

pub record Walking (m : List ℕ) (t : ℕ) (start path : List ℕ) (at v : ℕ) : Type 0 where
  pub low : at ≤ LAST
  pub size : length path ≡ NODES
  pub node : get_or path at 0 ≡ v
  pub leads : Leads m at v
  pub rest : walk_net m at v (here path at) ≡ walk_net m LAST t []
  pub place : walked_at m at v ≡ walked_at m LAST t
  pub whole : walked_path m at v path ≡ walked_path m LAST t start

pub walk_start : (m path : List ℕ) (t : ℕ) → Leads m LAST t → length path ≡ NODES → Walking m t (set path LAST t) (set path LAST t) LAST t
unfolding steps_from
walk_start m path t l e = record { low = omega arith; size = length-set path LAST t ∙ e; node = get_or-set_same path LAST t 0 (omega arith); leads = l; rest = refl; place = refl; whole = refl }

pub walk-facts : {m : List ℕ} {t : ℕ} {start path : List ℕ} {at v : ℕ} → Walking m t start path at v → (v ≡ 0 → ⊥) → (v < NODES) × (0 < at)
walk-facts W z = let (a, (k, e, l)) = leads-on W.leads z in (a, omega arith)

pub walk_turn : (m : List ℕ) (t : ℕ) (start path : List ℕ) (at v : ℕ) → Walking m t start path at v → (v ≡ 0 → ⊥) → Walking m t start (set path (at - 1) (pred_of m v)) (at - 1) (pred_of m v)
unfolding walk_net walked_at walked_path
walk_turn m t start path at v W z = go (leads-on W.leads z)
  where
    go : (v < NODES) × ((k : ℕ) × (at ≡ suc k) × Leads m k (pred_of m v)) → Walking m t start (set path (at - 1) (pred_of m v)) (at - 1) (pred_of m v)
    go (a, (k, e, l)) =
        let q : at - 1 ≡ k = omega arith in
        rw q (record {
          low = omega (arith, W.low);
          size = length-set path k (pred_of m v) ∙ W.size;
          node = get_or-set_same path k (pred_of m v) 0 (omega (arith, W.low, W.size));
          leads = l;
          rest = rw (here-turn (set path k (pred_of m v)) k (omega (arith, W.low)), get_or-set_same path k (pred_of m v) 0 (omega (arith, W.low, W.size)), get_or-set_other path k (k + 1) (pred_of m v) 0 (omega arith), steps-off path k (pred_of m v) (LAST - (k + 1)) (k + 1) (omega arith))
              (tail k e);
          place = sym (at-step k (ne_eqb v 0 z)) ∙ ap (λ (o : ℕ). walked_at m o v) (sym e) ∙ W.place;
          whole = sym (path-step k (ne_eqb v 0 z)) ∙ ap (λ (o : ℕ). walked_path m o v path) (sym e) ∙ W.whole;
        })
      where
        at-step : (k : ℕ) → eqb v 0 ≡ false → walked_at m (suc k) v ≡ walked_at m k (pred_of m v)
        at-step k o = rw o refl

        path-step : (k : ℕ) → eqb v 0 ≡ false → walked_path m (suc k) v path ≡ walked_path m k (pred_of m v) (set path k (pred_of m v))
        path-step k o = rw o refl

        tail : (k : ℕ) → at ≡ suc k → walk_net m k (pred_of m v) ((pred_of m v, get_or path (k + 1) 0) ∷ here path (k + 1)) ≡ walk_net m LAST t []
        tail k e =
            let n : k + 1 ≡ at = omega arith in
            let s : walk_net m (suc k) v (here path at) ≡ walk_net m k (pred_of m v) ((pred_of m v, v) ∷ here path at) = step (ne_eqb v 0 z) in
            rw (n, W.node) (sym s ∙ ap (λ (o : ℕ). walk_net m o v (here path at)) (sym e) ∙ W.rest)
          where
            step : eqb v 0 ≡ false → walk_net m (suc k) v (here path at) ≡ walk_net m k (pred_of m v) ((pred_of m v, v) ∷ here path at)
            step o = rw o refl

pub walk_end : (m : List ℕ) (t : ℕ) (start path : List ℕ) (at v : ℕ) → Walking m t start path at v → v ≡ 0 → (here path at ≡ walk_net m LAST t []) × (at ≡ walked_at m LAST t) × (path ≡ walked_path m LAST t start)
unfolding walk_net walked_at walked_path
walk_end m t start path at v W z = (sym (stop at) ∙ W.rest, sym (stop-at at) ∙ W.place, sym (stop-path at) ∙ W.whole)
  where
    stop : (n : ℕ) → walk_net m n v (here path at) ≡ here path at
    stop zero = refl
    stop (suc n) = rw (eq-eqb v 0 z) refl

    stop-at : (n : ℕ) → walked_at m n v ≡ n
    stop-at zero = refl
    stop-at (suc n) = rw (eq-eqb v 0 z) refl

    stop-path : (n : ℕ) → walked_path m n v path ≡ path
    stop-path zero = refl
    stop-path (suc n) = rw (eq-eqb v 0 z) refl
