-- One law for each way out of a step of the walk.
use Rattle.std.proofs.Common.{Option, Some, None}
use mathlib.Core.Path.{◌≡◌, refl, sym, ap, ◌∙◌}
use mathlib.Core.Bool.{Bool, true, false}
use mathlib.Core.List.{List, [], ◌∷◌, ◌++◌}
use Prim.Native.Nat.{ℕ, suc, ◌+◌, ◌≤◌, ◌<◌}
use native.Mathlib.Numerals.{add-one}
use native.Mathlib.Omega.{arith}
use borrow.Author.Tests.{eq-eqb, ne_eqb, ltb-true, ltb-false}
use lib.Dec.{ltb}
use lib.ListN.{length}
use Rattle.spec.specs.Bytes.{each}
use Rattle.spec.specs.Image.{Tables, the_class}
use Rattle.ac_repr.specs.Walk.{has_place, walk_at, row, rows, under, pairs_from, walks, all_walks, after_of, InRow, InOp, Stepped}
use Rattle.ac_repr.specs.WalkLaws.{row-some, row-none, rows-some, rows_none, rows-has, rows_empty, under-has, under-not, stepped}
use Rattle.laws.specs.Firsts.{first_from, found, passing-stop, passing-end}
use Rattle.ac_ops.specs.AcOps.{end_of, ac_op}
use Rattle.ac_repr.specs.declared.Walk.{Walk}

-- ---- beside one left place
module _ (t : Tables) (r o a b to f : ℕ) (e : to ≡ end_of t r) (z : f ≡ first_from (has_place t to o) b (suc to)) where
  z' : f ≡ first_from (has_place t (end_of t r) o) b (suc (end_of t r))
  z' = rw e at z

  pub row_ends : to < f → InRow t r o a b None
  row_ends h = record { left = row-none t (end_of t r) o a b f z' (rw e at h); beside = tt }

  pub row_goes : f ≤ to → InRow t r o a b (Some (walk_at o a f))
  row_goes h =
      let g : f ≤ end_of t r = rw e at h in
      record { left = rw add-one (row-some t (end_of t r) o a b f z' g); beside = (refl, refl, g) }

-- ---- under one operation
module _ (t : Tables) (l r o x to f : ℕ) (e : to ≡ end_of t l) (z : f ≡ first_from (has_place t to o) x (suc to)) where
  y : f ≡ first_from (has_place t (end_of t l) o) x (suc (end_of t l))
  y = rw e at z

  pub rows_end : to < f → InOp t l r o (rows t l r o x) None
  rows_end h = record { left = rows_none t l r o x f y (rw e at h); placed = tt }

  pub rows-go : (b : ℕ) (s : Option Walk) → f ≤ to → b ≡ (the_class t r).first → InRow t r o f b s → InOp t l r o (rows t l r o x) s
  rows-go b (Some w) h q d =
      let g : f ≤ end_of t l = rw e at h in
      let (i, j, k) = d.beside in
      let n : has_place t (end_of t l) w.op w.a ≡ true = rw (i, j) (rows-has t l r o x f y g) in
      let p : row t (end_of t r) o f (the_class t r).first ≡ w ∷ row t (end_of t r) o f (w.b + 1) = rw q at d.left in
      record {
        left = rows-some t l r o x f y g ∙ ap (λ (m : List Walk). m ++ rows t l r o (suc f)) p
            ∙ rw (under-has t l r (after_of w) n, i, j) refl;
        placed = (i, rw j g, k);
      }
  rows-go b None h q d = record { left = rows_empty t l r o x f (rw q at d.left); placed = tt }

has_within : (t : Tables) (end o x : ℕ) → has_place t end o x ≡ true → x ≤ end
has_within t end o x h = step (ltb x end) refl (ltb end x) refl
  where
    step : (p : Bool) → ltb x end ≡ p → (q : Bool) → ltb end x ≡ q → x ≤ end
    step true e q f = omega (arith, ltb-true x end e)
    step false e true f = absurd (let n : ◌≡◌ {A = Bool} false true = rw (e, f) at h in let z : ◌≡◌ {A = ℕ} 0 1 = cc in omega arith)
    step false e false f = ltb-false end x f

module _ (t : Tables) (l r : ℕ) (w : Walk) (to : ℕ) (b : Bool) (e : to ≡ end_of t l) (z : b ≡ has_place t to w.op w.a) where
  has : (c : Bool) → b ≡ c → has_place t (end_of t l) w.op w.a ≡ c
  has c q = rw e at (sym z ∙ q)

  pub op_row : (v : Walk) (s : Option Walk) → b ≡ true → s ≡ Some v → InRow t r w.op w.a w.b s → InOp t l r w.op (under t l r w) (Some v)
  op_row v s q p d =
      let d' : InRow t r w.op w.a w.b (Some v) = rw p at d in
      let (i, j, k) = d'.beside in
      let n : has_place t (end_of t l) v.op v.a ≡ true = rw (i, j) (has true q) in
      record {
        left = under-has t l r w (has true q) ∙ ap (λ (m : List Walk). m ++ rows t l r w.op (suc w.a)) d'.left
            ∙ rw (under-has t l r (after_of v) n, i, j) refl;
        placed = (i, rw j (has_within t (end_of t l) w.op w.a (has true q)), k);
      }

  pub op-rows : (s x : Option Walk) → b ≡ true → s ≡ None → InRow t r w.op w.a w.b s → InOp t l r w.op (rows t l r w.op (w.a + 1)) x → InOp t l r w.op (under t l r w) x
  op-rows s x q p d g =
      let n : row t (end_of t r) w.op w.a w.b ≡ [] = rw p at d.left in
      record { left = under-has t l r w (has true q) ∙ ap (λ (m : List Walk). m ++ rows t l r w.op (suc w.a)) n ∙ rw add-one at g.left; placed = g.placed }

  pub op-none : (x : Option Walk) → b ≡ false → InOp t l r w.op (rows t l r w.op (w.a + 1)) x → InOp t l r w.op (under t l r w) x
  op-none x q g = record { left = under-not t l r w (has false q) ∙ rw add-one at g.left; placed = g.placed }

-- ---- under all operations
-- the pairs under the operations from o on, where i is the first of these
pub record Ahead (t : Tables) (l r o i : ℕ) : Type 0 where
  pub same : pairs_from t l r o ≡ pairs_from t l r i
  pub acts : i < length t.operations → ac_op t l r i ≡ true
  pub low : o ≤ i

pub ahead : (t : Tables) (l r o i n : ℕ) → n ≡ length t.operations → i ≡ first_from (ac_op t l r) o n → Ahead t l r o i
unfolding pairs_from
ahead t l r o i n e z =
    let d = found (ac_op t l r) o (length t.operations) i (rw e at z) in
    record { same = rw d.same refl; acts = d.hits; low = d.low }

module _ (t : Tables) (l r o i : ℕ) (d : Ahead t l r o i) where
  ops-more : i < length t.operations → pairs_from t l r i ≡ rows t l r i (the_class t l).first ++ pairs_from t l r (suc i)
  unfolding pairs_from each
  ops-more h = rw (passing-stop (ac_op t l r) i (length t.operations) h (d.acts h)) refl

  pub ops-end : length t.operations ≤ i → Stepped t l r (walks t l r) (pairs_from t l r o) None
  unfolding pairs_from each
  ops-end h = stepped t l r (walks t l r) (pairs_from t l r o) None (d.same ∙ rw (passing-end (ac_op t l r) i (length t.operations) h) refl) tt

  pub ops-at : (v : Walk) (s : Option Walk) (x : ℕ) → i < length t.operations → x ≡ (the_class t l).first → s ≡ Some v → InOp t l r i (rows t l r i x) s → Stepped t l r (walks t l r) (pairs_from t l r o) (Some v)
  unfolding walks
  ops-at v s x h q p g =
      let g' : InOp t l r i (rows t l r i (the_class t l).first) (Some v) = rw (p, q) at g in
      let (a, b, c) = g'.placed in
      stepped t l r (walks t l r) (pairs_from t l r o) (Some v)
      (d.same ∙ ops-more h ∙ ap (λ (m : List Walk). m ++ pairs_from t l r (suc i)) g'.left ∙ rw a refl) (rw a h, b, c)

  pub ops-next : (s : Option Walk) (x j : ℕ) → i < length t.operations → x ≡ (the_class t l).first → s ≡ None → InOp t l r i (rows t l r i x) s → Ahead t l r (i + 1) j → Ahead t l r o j
  ops-next s x j h q p g k =
      let n : rows t l r i (the_class t l).first ≡ [] = rw (p, q) at g.left in
      record {
        same = d.same ∙ ops-more h ∙ ap (λ (m : List Walk). m ++ pairs_from t l r (suc i)) n ∙ rw add-one at k.same;
        acts = k.acts;
        low = omega (arith, d.low, k.low);
      }

-- ---- first and next
module _ (t : Tables) (l r : ℕ) where
  pub first-none : l ≡ r → Stepped t l r (walks t l r) (all_walks t l r) None
  unfolding all_walks
  first-none e = stepped t l r (walks t l r) (all_walks t l r) None (rw (eq-eqb l r e, all_walks) refl) tt

  pub first_some : (x : Option Walk) → (l ≡ r → ⊥) → Stepped t l r (walks t l r) (pairs_from t l r 0) x → Stepped t l r (walks t l r) (all_walks t l r) x
  unfolding all_walks
  first_some x n d =
      let e : all_walks t l r ≡ pairs_from t l r 0 = rw (ne_eqb l r n, all_walks) refl in
      rw e d

  pub next-at : (w v : Walk) (s : Option Walk) → w.op < length t.operations → s ≡ Some v → InOp t l r w.op (under t l r w) s → Stepped t l r (walks t l r) (walks t l r w) (Some v)
  unfolding walks
  next-at w v s h p g =
      let g' : InOp t l r w.op (under t l r w) (Some v) = rw p at g in
      let (a, b, c) = g'.placed in
      stepped t l r (walks t l r) (walks t l r w) (Some v) (ap (λ (m : List Walk). m ++ pairs_from t l r (suc w.op)) g'.left ∙ rw a refl) (rw a h, b, c)

  pub next-op : (w : Walk) (s x : Option Walk) → s ≡ None → InOp t l r w.op (under t l r w) s → Stepped t l r (walks t l r) (pairs_from t l r (w.op + 1)) x → Stepped t l r (walks t l r) (walks t l r w) x
  unfolding walks
  next-op w s x p g d =
      let n : under t l r w ≡ [] = rw p at g.left in
      let e : walks t l r w ≡ pairs_from t l r (w.op + 1) = ap (λ (m : List Walk). m ++ pairs_from t l r (suc w.op)) n ∙ rw add-one refl in
      rw e d
