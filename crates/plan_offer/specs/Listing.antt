-- The runs of a plan: its cells with units, row by row.
use Rattle.std.specs.Prelude.{◌≡◌, Bool, ℕ, zero, suc, ◌+◌, ◌*◌, ◌≤◌, ◌<◌, eqb, length, get_or, set, take, drop}
use Rattle.std.proofs.Math.Path.{refl}
use Rattle.std.proofs.Common.{sym, ap, ◌∙◌, arith, add-one, length-set, drop_of_length-le, take-append-drop, take-suc-set, drop-set-lt, length-take-le}
use Rattle.std.proofs.Math.Bool.{true, false}
use mathlib.Core.List.{List, [], ◌∷◌, ◌++◌, map, append-nil}
use Rattle.std.proofs.Math.Seq.{drop-cons, append_snoc}
use Rattle.spec.specs.Bytes.{Two, pick}
use Rattle.spec.specs.Monomial.{MonomialPair}
use Rattle.spec.specs.Action.{cell_pairs}
use Rattle.spec.specs.Round.{plan_runs}
use Rattle.laws.specs.Buffers.{over}
use Rattle.action_runs.specs.Runs.{packed, runs_over}

abbrev pub runs_at : (Two → ℕ) → MonomialPair → List ℕ → List ℕ
runs_at of m x = runs_over of (cell_pairs m) x

-- a cell with x units of a pair whose term is v, behind m runs of a list
abbrev pub many_after : ℕ → ℕ → ℕ
many_after m x = pick (eqb x 0) m (m + 1)

abbrev pub cell_after : List ℕ → ℕ → ℕ → ℕ → List ℕ
cell_after list m x v = pick (eqb x 0) list (set list m (x * 16384 + v))

-- The first k cells are listed in m runs: what is left makes the whole.
pub record Listed (of : Two → ℕ) (ps : List Two) (x list₀ : List ℕ) (k m : ℕ) (list : List ℕ) : Type 0 where
  pub done : k ≤ length x
  pub few : m ≤ k
  pub long : length list ≡ length list₀
  pub front : take m list ++ runs_over of (drop k ps) (drop k x) ≡ runs_over of ps x
  pub behind : drop m list ≡ drop m list₀

module _ (of : Two → ℕ) (ps : List Two) (x list₀ : List ℕ) where
  pub listed-none : Listed of ps x list₀ 0 0 list₀
  listed-none = record { done = omega arith; few = omega arith; long = refl; front = refl; behind = refl }

  module _ (k m : ℕ) (list : List ℕ) (L : Listed of ps x list₀ k m list) where
    module _ (same : length ps ≡ length x) (fits : length x ≤ length list₀) (h : k < length x) where
      runs-next : (b : Bool) → eqb (get_or x k 0) 0 ≡ b
          → runs_over of (drop k ps) (drop k x) ≡ pick b (runs_over of (drop (k + 1) ps) (drop (k + 1) x)) ((get_or x k 0 * 16384 + of (get_or ps k (0, 0))) ∷ runs_over of (drop (k + 1) ps) (drop (k + 1) x))
      unfolding plan_runs
      runs-next true e = rw (add-one, drop-cons x k 0 h, drop-cons ps k (0, 0) (omega arith), plan_runs, e) refl
      runs-next false e = rw (add-one, drop-cons x k 0 h, drop-cons ps k (0, 0) (omega arith), plan_runs, e) refl

      step : (b : Bool) (u v : ℕ) → eqb (get_or x k 0) 0 ≡ b → u ≡ get_or x k 0 → v ≡ of (get_or ps k (0, 0))
          → Listed of ps x list₀ (k + 1) (pick b m (m + 1)) (pick b list (set list m (u * 16384 + v)))
      step true u v e p q = record {
        done = omega arith;
        few = omega (arith, L.few);
        long = L.long;
        front = ap (λ (l : List ℕ). take m list ++ l) (sym (runs-next true e)) ∙ L.front;
        behind = L.behind;
      }
      step false u v e p q =
          let i : m < length list = omega (arith, L.few, L.long) in
          let w : u * 16384 + v ≡ get_or x k 0 * 16384 + of (get_or ps k (0, 0)) = λ j. p j * 16384 + q j in
          record {
            done = omega arith;
            few = omega (arith, L.few);
            long = length-set list m (u * 16384 + v) ∙ L.long;
            front =
                ap (λ (n : ℕ). take n (set list m (u * 16384 + v)) ++ runs_over of (drop (k + 1) ps) (drop (k + 1) x)) (add-one m)
                ∙ ap (λ (l : List ℕ). l ++ runs_over of (drop (k + 1) ps) (drop (k + 1) x)) (take-suc-set list m (u * 16384 + v) i)
                ∙ append_snoc (take m list) (u * 16384 + v) (runs_over of (drop (k + 1) ps) (drop (k + 1) x))
                ∙ ap (λ (n : ℕ). take m list ++ n ∷ runs_over of (drop (k + 1) ps) (drop (k + 1) x)) w
                ∙ ap (λ (l : List ℕ). take m list ++ l) (sym (runs-next false e)) ∙ L.front;
            behind =
                drop-set-lt (m + 1) list m (u * 16384 + v) (omega arith)
                ∙ tail list list₀ m L.behind;
          }
        where
          tail : (l l' : List ℕ) (m : ℕ) → drop m l ≡ drop m l' → drop (m + 1) l ≡ drop (m + 1) l'
          tail l l' m e = ap (λ (n : ℕ). drop n l) (add-one m) ∙ rest l l' m e ∙ ap (λ (n : ℕ). drop n l') (sym (add-one m))
            where
              rest : (l l' : List ℕ) (m : ℕ) → drop m l ≡ drop m l' → drop (suc m) l ≡ drop (suc m) l'
              rest l l' m e = sym (one l m) ∙ ap (drop 1) e ∙ one l' m
                where
                  one : (l : List ℕ) (m : ℕ) → drop 1 (drop m l) ≡ drop (suc m) l
                  one [] zero = refl
                  one [] (suc m) = refl
                  one (y ∷ l) zero = refl
                  one (y ∷ l) (suc m) = one l m

      pub listed_more : (u v : ℕ) → u ≡ get_or x k 0 → v ≡ of (get_or ps k (0, 0)) → Listed of ps x list₀ (k + 1) (many_after m u) (cell_after list m u v)
      listed_more u v p q = rw (ap (λ (n : ℕ). eqb n 0) p) (step (eqb (get_or x k 0) 0) u v refl p q)

    module _ (h : length x ≤ k) (fits : length x ≤ length list₀) where
      runs-end : (ps : List Two) → plan_runs of ps [] ≡ []
      unfolding plan_runs
      runs-end [] = refl
      runs-end (p ∷ ps) = refl

      whole : take m list ≡ runs_over of ps x
      whole =
          sym (append-nil (take m list))
          ∙ ap (λ (l : List Two). take m list ++ map packed l) (sym (runs-end (drop k ps)))
          ∙ ap (λ (y : List ℕ). take m list ++ runs_over of (drop k ps) y) (sym (drop_of_length-le x h))
          ∙ L.front

      pub listed-many : m ≡ length (runs_over of ps x)
      listed-many = sym (length-take-le m list (omega (arith, L.few, L.long, L.done))) ∙ ap length whole

      pub listed-all : list ≡ over (runs_over of ps x) list₀
      listed-all =
          sym (take-append-drop m list)
          ∙ (λ i. whole i ++ L.behind i)
          ∙ ap (λ (n : ℕ). runs_over of ps x ++ drop n list₀) listed-many
