-- Augmentations one after the other, from the empty plan: a plan of all units, or a search that does not reach the sink.
use Rattle.std.specs.Prelude.{Bool, true, false, not, List, [], ◌⊎◌, ◌≡◌, T, eqb, ℤ, pos, replicate}
use Rattle.std.proofs.Common.{inl, inr, sym, ap, ◌∙◌, le_refl, arith, eqb→eq}
use Rattle.std.proofs.Math.Option.{Option, none, some}
use Rattle.std.proofs.Math.Path.{refl}
use Prim.Native.Nat.{ℕ, zero, suc, ◌+◌, ◌*◌, ◌≤◌, ◌<◌, zero-le, ◌-◌}
use Rattle.std.proofs.Math.Decide.{dec_lt}
use Rattle.std.proofs.Math.Dec.{eqb_refl}
use Rattle.std.proofs.lemmas.List.{length-replicate}
use Rattle.spec.specs.Bytes.{either, sum_to, Two, sum}
use Rattle.spec.specs.Transport.{Problem, weight, rows_of, cols_of, supply_at, moved, Vertex, source, row, column, target, sink, node_count, vertex_of, residual, price, searched, found, walk_back, bottleneck, push, augment, solve_cells}
use Rattle.laws.specs.Tests.{clash}
use Rattle.flow.specs.Augmentation.{row_sum, col_sum, augmented-by, Partial, next-partial, grows}
use Rattle.flow.specs.AugmentingPath.{next, next-potential, path, bottleneck-le, bottleneck-carries, bottleneck-positive}
use Rattle.flow.specs.Network.{is-no}
use Rattle.flow.specs.Search.{label_at, status}
use Rattle.flow.specs.SearchEnds.{get_d-same, dearest, dear, searched-rests}
use Rattle.flow.specs.Signed.{pos_part, neg_part}
use Rattle.flow.specs.Sums.{sum-cong, sum-const, list_sum-is}

module _ (p : Problem) (w : ℕ) where
  abbrev pub total_of : ℕ
  total_of = sum_to (rows_of p) (supply_at p)

  abbrev pub placed : List ℕ → ℕ
  placed x = sum_to (rows_of p) (row_sum p x)

  abbrev pub path_of : List ℕ → List Two
  path_of x = walk_back (node_count p) (searched p w x).pred (sink p) []

  abbrev pub least_left : ℕ → List ℕ → ℕ
  least_left left x = bottleneck p x left (path_of x)

  pub data Augmenting : Option (List ℕ) → Type 0 where
    full : {o : Option (List ℕ)} (y : List ℕ) → Partial p w y → placed y ≡ total_of → o ≡ some y → Augmenting o
    halted : {o : Option (List ℕ)} (x : List ℕ) → Partial p w x → placed x < total_of → label_at (searched p w x) (sink p) ≡ none → o ≡ none → Augmenting o

  pub augment-zero : (left : ℕ) (x : List ℕ) → left ≡ 0 → augment zero p w left x ≡ some x
  unfolding augment
  augment-zero left x e = rw e refl

  pub augment-done : (f left : ℕ) (x : List ℕ) → left ≡ 0 → augment (suc f) p w left x ≡ some x
  unfolding augment
  augment-done f left x e = rw e refl

  two-no : (b c : Bool) (x y : Option (List ℕ)) → b ≡ false → c ≡ false → ◌≡◌ {A = Option (List ℕ)} (elim b [ true ↦ x | false ↦ elim c [ true ↦ y | false ↦ none ] ]) none
  two-no true c x y e q = absurd (clash e)
  two-no false true x y e q = absurd (clash q)
  two-no false false x y e q = refl

  one-no : (b c : Bool) (x y : Option (List ℕ)) → b ≡ false → c ≡ true → elim b [ true ↦ x | false ↦ elim c [ true ↦ y | false ↦ none ] ] ≡ y
  one-no true c x y e q = absurd (clash e)
  one-no false true x y e q = refl
  one-no false false x y e q = absurd (clash (sym q))

  not-zero : (l : ℕ) → 0 < l → eqb l 0 ≡ false
  not-zero l h = is-no (eqb l 0) (λ t. not-source (eqb→eq l 0 t))
    where
      not-source : l ≡ 0 → ⊥
      not-source e = omega arith

  pub augment-stuck : (f l : ℕ) (x : List ℕ) → 0 < l → label_at (searched p w x) (sink p) ≡ none → augment (suc f) p w l x ≡ none
  unfolding augment
  augment-stuck f l x h q = two-no (eqb l 0) (found (label_at (searched p w x) (sink p))) (some x) (augment f p w (l - least_left l x) (push p (least_left l x) (path_of x) x)) (not-zero l h) (ap found q)

  pub augment-more : (f l : ℕ) (x : List ℕ) {z : ℤ} → 0 < l → label_at (searched p w x) (sink p) ≡ some z → augment (suc f) p w l x ≡ augment f p w (l - least_left l x) (push p (least_left l x) (path_of x) x)
  unfolding augment
  augment-more f l x h q = one-no (eqb l 0) (found (label_at (searched p w x) (sink p))) (some x) (augment f p w (l - least_left l x) (push p (least_left l x) (path_of x) x)) (not-zero l h) (ap found q)

  -- one path: the invariant is kept, and more is placed
  pub one-path : (l : ℕ) (x : List ℕ) (k : ℕ) → 0 < l → Partial p w x → label_at (searched p w x) (sink p) ≡ some (pos k)
      → Partial p w (push p (least_left l x) (path_of x) x) × (placed (push p (least_left l x) (path_of x) x) ≡ placed x + least_left l x) × (0 < least_left l x) × (least_left l x ≤ l)
  one-path l x k h I q =
      let rest = searched-rests p w x I.π I.pot in
      let ch = path p w x I.π I.pot (searched p w x) rest k q in
      let pot' = next-potential p w x I.π I.pot (searched p w x) rest in
      let π' = next p w x I.π I.pot (searched p w x) rest in
      let pos-δ = bottleneck-positive p w x π' rest.hops l 0 (path_of x) h ch in
      let S = augmented-by p w x π' rest.hops (least_left l x) pos-δ I.len I.caps (path_of x) ch (bottleneck-carries p w x l (path_of x)) in
      (next-partial p w x I π' pot' (least_left l x) (push p (least_left l x) (path_of x) x) S, grows p w x I π' pot' (least_left l x) (push p (least_left l x) (path_of x) x) S, pos-δ, bottleneck-le p w x l (path_of x))

  pub augmented : (f l : ℕ) (x : List ℕ) → Partial p w x → l + placed x ≡ total_of → l ≤ f → Augmenting (augment f p w l x)
  augmented zero l x I e h = full x I (omega arith) (augment-zero l x (omega arith))
  augmented (suc f) l x I e h = go (dec_lt 0 l) (λ l' x' I' e' h'. augmented f l' x' I' e' h')
    where
      carry : {o o' : Option (List ℕ)} → o ≡ o' → Augmenting o' → Augmenting o
      carry q (full y Iy s z) = full y Iy s (q ∙ z)
      carry q (halted y Iy s n z) = halted y Iy s n (q ∙ z)

      at : 0 < l → ((l' : ℕ) (x' : List ℕ) → Partial p w x' → l' + placed x' ≡ total_of → l' ≤ f → Augmenting (augment f p w l' x'))
          → (label_at (searched p w x) (sink p) ≡ none) ⊎ ((k : ℕ) × (label_at (searched p w x) (sink p) ≡ some (pos k)) × (I.π (sink p) ≤ k)) → Augmenting (augment (suc f) p w l x)
      at hl ih (inl q) = halted x I (omega arith) q (augment-stuck f l x hl q)
      at hl ih (inr (k, q, y)) = let (I', g, d, d') = one-path l x k hl I q in carry (augment-more f l x hl q) (ih (l - least_left l x) (push p (least_left l x) (path_of x) x) I' (omega arith) (omega arith))

      go : Dec (0 < l) → ((l' : ℕ) (x' : List ℕ) → Partial p w x' → l' + placed x' ≡ total_of → l' ≤ f → Augmenting (augment f p w l' x')) → Augmenting (augment (suc f) p w l x)
      go (no z) ih = full x I (omega arith) (augment-done f l x (omega arith))
      go (yes z) ih = let rest = searched-rests p w x I.π I.pot in at z ih (status p w x I.π I.pot (dearest p w) (dear p w) (searched p w x) rest.hops rest.good (sink p))

-- ---- the empty plan
module _ (p : Problem) (w : ℕ) where
  abbrev pub empty : List ℕ
  empty = replicate (rows_of p * cols_of p) 0

  moved-0 : (i j : ℕ) → moved p empty i j ≡ 0
  moved-0 i j = get_d-same (rows_of p * cols_of p) (i * cols_of p + j) 0

  flat-slope : (m n : Vertex) → 0 < residual p empty m n → neg_part (price p w m n) ≤ pos_part (price p w m n)
  unfolding residual price
  flat-slope (column j) (row i) r = absurd (omega (arith, moved-0 i j))
  flat-slope (row i) (column j) r = zero-le
  flat-slope (row i) source r = zero-le
  flat-slope (row i) (row k) r = zero-le
  flat-slope (row i) target r = zero-le
  flat-slope (column j) source r = zero-le
  flat-slope (column j) (column k) r = zero-le
  flat-slope (column j) target r = zero-le
  flat-slope source n r = zero-le
  flat-slope target n r = zero-le

  row-0 : (i : ℕ) → row_sum p empty i ≡ 0
  row-0 i = omega (arith, sum-cong (cols_of p) {f = λ j. moved p empty i j} {g = λ j. 0} (λ j hj. moved-0 i j), sum-const (cols_of p) 0)

  col-0 : (j : ℕ) → col_sum p empty j ≡ 0
  col-0 j = omega (arith, sum-cong (rows_of p) {f = λ i. moved p empty i j} {g = λ i. 0} (λ i hi. moved-0 i j), sum-const (rows_of p) 0)

  pub start : Partial p w empty
  start = record {
    len = length-replicate (rows_of p * cols_of p) 0;
    rows = λ i hi. omega (arith, row-0 i);
    cols = λ j hj. omega (arith, col-0 j);
    caps = λ i j hi hj. omega (arith, moved-0 i j);
    π = λ v. 0;
    pot = record { at0 = refl; slope = λ a b ha hb r. omega (arith, flat-slope (vertex_of p a) (vertex_of p b) r) };
  }

  pub start-placed : placed p w empty ≡ 0
  start-placed = omega (arith, sum-cong (rows_of p) {f = row_sum p empty} {g = λ i. 0} (λ i hi. row-0 i), sum-const (rows_of p) 0)

-- ---- what the solver returns
pub data Outcome (p : Problem) (o : Option (List ℕ)) : Type 0 where
  refused_at_once : (0 < rows_of p → 0 < cols_of p → sum p.supply ≡ sum p.demand → ⊥) → o ≡ none → Outcome p o
  ran : 0 < rows_of p → 0 < cols_of p → sum p.supply ≡ sum p.demand → Augmenting p (weight p) o → Outcome p o

module _ (p : Problem) where
  abbrev last : Option (List ℕ)
  last = augment (sum p.supply) p (weight p) (sum p.supply) (replicate (rows_of p * cols_of p) 0)

  total-supply : sum p.supply ≡ total_of p (weight p)
  total-supply = list_sum-is p.supply

  by-test : (a b c : Bool) → (T a → rows_of p ≡ 0) → (T (not a) → 0 < rows_of p) → (T b → cols_of p ≡ 0) → (T (not b) → 0 < cols_of p) → (T c → sum p.supply ≡ sum p.demand) → (T (not c) → sum p.supply ≡ sum p.demand → ⊥)
      → Augmenting p (weight p) last → Outcome p (elim (either a (either b (not c))) [ true ↦ none | false ↦ last ])
  by-test true b c f g h k l n r = refused_at_once (λ x y z. let q = f tt in absurd (omega arith)) refl
  by-test false true c f g h k l n r = refused_at_once (λ x y z. let q = h tt in absurd (omega arith)) refl
  by-test false false false f g h k l n r = refused_at_once (λ x y z. n tt z) refl
  by-test false false true f g h k l n r = ran (g tt) (k tt) (l tt) r

  ne0 : (n : ℕ) → T (not (eqb n 0)) → 0 < n
  ne0 zero t = absurd t
  ne0 (suc n) t = omega arith

  neb : (a b : ℕ) → T (not (eqb a b)) → a ≡ b → ⊥
  neb a b t e = go (eqb a b) (rw e (eqb_refl b)) t
    where
      go : (c : Bool) → T c → T (not c) → ⊥
      go true x y = y
      go false x y = x

  pub solved : Outcome p (solve_cells p)
  unfolding solve_cells
  solved = by-test (eqb (rows_of p) 0) (eqb (cols_of p) 0) (eqb (sum p.supply) (sum p.demand))
      (eqb→eq (rows_of p) 0) (ne0 (rows_of p)) (eqb→eq (cols_of p) 0) (ne0 (cols_of p)) (eqb→eq (sum p.supply) (sum p.demand)) (neb (sum p.supply) (sum p.demand))
      (augmented p (weight p) (sum p.supply) (sum p.supply) (replicate (rows_of p * cols_of p) 0) (start p (weight p)) (omega (arith, start-placed p (weight p), total-supply)) (le_refl _))
