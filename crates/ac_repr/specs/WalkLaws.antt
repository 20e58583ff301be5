-- Laws of the walk: each pair of places leads to the one after it.
use Rattle.std.specs.Prelude.{◌≡◌, true, false, List, [], ◌∷◌, ◌++◌, map, ℕ, suc, ◌≤◌, ◌<◌, length, Option, Some, None}
use Rattle.std.proofs.Math.Path.{refl}
use Rattle.std.proofs.Common.{sym, ap, arith}
use Rattle.spec.specs.Bytes.{each}
use Rattle.spec.specs.Image.{Tables, the_class}
use Rattle.ac_repr.specs.Walk.{has_place, places_from, walk_at, row, rows, under, step_of, left_of, Within, Stepped}
use Rattle.ac_repr.specs.declared.Walk.{Walk}
use Rattle.laws.specs.Firsts.{first_from, found, found_some, found_none}
use Rattle.ac_ops.specs.AcOps.{end_of}

-- ---- pairs beside one left place
module _ (t : Tables) (end o a y f : ℕ) (z : f ≡ first_from (has_place t end o) y (suc end)) where
  pub row-some : f ≤ end → row t end o a y ≡ walk_at o a f ∷ row t end o a (suc f)
  unfolding row places_from
  row-some h = rw (found_some (has_place t end o) y (suc end) f z (omega arith)) refl

  pub row-none : end < f → row t end o a y ≡ []
  unfolding row places_from
  row-none h = rw (found_none (has_place t end o) y (suc end) f z (omega arith)) refl

-- no right place, no pair beside any left place
row-empty : (t : Tables) (end o a y : ℕ) → row t end o a y ≡ [] → (b : ℕ) → row t end o b y ≡ []
unfolding row
row-empty t end o a y = empty (places_from t end o y)
  where
    empty : (l : List ℕ) → map (walk_at o a) l ≡ [] → (b : ℕ) → map (walk_at o b) l ≡ []
    empty [] h b = refl
    empty (x ∷ l) h b = absurd (omega (arith, ap length h))

each_none : {A B : Type 0} (f : A → List B) (l : List A) → ((x : A) → f x ≡ []) → each f l ≡ []
unfolding each
each_none f [] h = refl
each_none f (x ∷ l) h = rw (h x) (each_none f l h)

-- ---- pairs under one operation
module _ (t : Tables) (l r o x f : ℕ) (z : f ≡ first_from (has_place t (end_of t l) o) x (suc (end_of t l))) where
  pub rows-some : f ≤ end_of t l → rows t l r o x ≡ row t (end_of t r) o f (the_class t r).first ++ rows t l r o (suc f)
  unfolding rows places_from each
  rows-some h = rw (found_some (has_place t (end_of t l) o) x (suc (end_of t l)) f z (omega arith)) refl

  pub rows_none : end_of t l < f → rows t l r o x ≡ []
  unfolding rows places_from each
  rows_none h = rw (found_none (has_place t (end_of t l) o) x (suc (end_of t l)) f z (omega arith)) refl

  pub rows-has : f ≤ end_of t l → has_place t (end_of t l) o f ≡ true
  rows-has h = (found (has_place t (end_of t l) o) x (suc (end_of t l)) f z).hits (omega arith)

pub rows_empty : (t : Tables) (l r o x a : ℕ) → row t (end_of t r) o a (the_class t r).first ≡ [] → rows t l r o x ≡ []
unfolding rows
rows_empty t l r o x a h = each_none (λ b. row t (end_of t r) o b (the_class t r).first) (places_from t (end_of t l) o x) (row-empty t (end_of t r) o a (the_class t r).first h)

module _ (t : Tables) (l r : ℕ) (w : Walk) where
  pub under-has : has_place t (end_of t l) w.op w.a ≡ true → under t l r w ≡ row t (end_of t r) w.op w.a w.b ++ rows t l r w.op (suc w.a)
  unfolding under
  under-has h = rw h refl

  pub under-not : has_place t (end_of t l) w.op w.a ≡ false → under t l r w ≡ rows t l r w.op (suc w.a)
  unfolding under
  under-not h = rw h refl

-- ---- steps
-- the answer follows from what is left
pub stepped : (t : Tables) (l r : ℕ) (later : Walk → List Walk) (list : List Walk) (x : Option Walk) → list ≡ left_of later x → Within t l r x → Stepped t l r later list x
stepped t l r later list (Some w) e b = record { answer = ap step_of (sym e); left = e; within = b }
stepped t l r later list None e b = record { answer = ap step_of (sym e); left = e; within = b }
