-- "Row and column sums of the plan equal the margins": written out, the cells of a plan have the rows as their left classes and the columns as their right ones.
use Rattle.std.specs.Prelude.{◌≡◌, refl, List, [], ◌∷◌, map, ℕ, zero, suc, ◌+◌, ◌*◌, ◌<◌, eqb, length, get_or, replicate}
use Rattle.std.proofs.Common.{sym, ap, ap₂, ◌∙◌, arith}
use Rattle.std.proofs.lemmas.List.{length-map}
use Rattle.spec.specs.Bytes.{pick, sum_to, Two}
use Rattle.spec.specs.Monomial.{MonomialPair, classes, counts}
use Rattle.spec.specs.Transport.{rows_of, cols_of, row_flow, col_flow}
use Rattle.spec.specs.Action.{TransportAction, cell_pairs}
use Rattle.spec.specs.Round.{problem_over}
use Rattle.spec.specs.Meaning.{Plan, occurs, count_in}
use Rattle.laws.specs.Grids.{cells-length, cells_at}
use Rattle.laws.specs.BagCount.{spread, occurs-append, occurs-replicate, times-pick}

-- ---- sums over a range
pub sum_to-cong : (n : ℕ) {f g : ℕ → ℕ} → ((i : ℕ) → i < n → f i ≡ g i) → sum_to n f ≡ sum_to n g
unfolding sum_to
sum_to-cong zero h = refl
sum_to-cong (suc n) {f} {g} h = omega (arith, sum_to-cong n {f = f} {g = g} (λ i k. h i (omega arith)), h n (omega arith))

pub sum_to-first : (n : ℕ) (f : ℕ → ℕ) → sum_to (suc n) f ≡ f 0 + sum_to n (λ i. f (suc i))
unfolding sum_to
sum_to-first zero f = omega arith
sum_to-first (suc n) f = omega (arith, sum_to-first n f)

pub sum_to-scale : (n a : ℕ) (f : ℕ → ℕ) → sum_to n (λ i. f i * a) ≡ sum_to n f * a
unfolding sum_to
sum_to-scale zero a f = omega arith
sum_to-scale (suc n) a f = omega (arith, sum_to-scale n a f)

sum_to-add : (n : ℕ) (f g : ℕ → ℕ) → sum_to n (λ i. f i + g i) ≡ sum_to n f + sum_to n g
unfolding sum_to
sum_to-add zero f g = refl
sum_to-add (suc n) f g = omega (arith, sum_to-add n f g)

sum_to-zero : (n : ℕ) → sum_to n (λ i. 0) ≡ 0
unfolding sum_to
sum_to-zero zero = refl
sum_to-zero (suc n) = omega (arith, sum_to-zero n)

pub sum_to-swap : (m n : ℕ) (f : ℕ → ℕ → ℕ) → sum_to m (λ i. sum_to n (λ j. f i j)) ≡ sum_to n (λ j. sum_to m (λ i. f i j))
unfolding sum_to
sum_to-swap zero n f = sym (sum_to-zero n)
sum_to-swap (suc m) n f = rw (sum_to-swap m n f) (sym (sum_to-add n (λ j. sum_to m (λ i. f i j)) (λ j. f m j)))

sum_to-split : (a b c : ℕ) (f : ℕ → ℕ) → c ≡ a + b → sum_to c f ≡ sum_to a f + sum_to b (λ j. f (a + j))
unfolding sum_to
sum_to-split a zero c f e = let z : c ≡ a = omega arith in rw z (omega arith)
sum_to-split a (suc b) zero f e = absurd (omega arith)
sum_to-split a (suc b) (suc c) f e = let z : c ≡ a + b = omega arith in omega (arith, sum_to-split a b c f z, ap f z)

-- a flat range row by row
pub sum_to-grid : (m n c : ℕ) (f : ℕ → ℕ) → c ≡ m * n → sum_to c f ≡ sum_to m (λ i. sum_to n (λ j. f (i * n + j)))
unfolding sum_to
sum_to-grid zero n c f e = let z : c ≡ 0 = omega arith in rw z refl
sum_to-grid (suc m) n c f e = omega (arith, sum_to-split (m * n) n c f (omega arith), sum_to-grid m n (m * n) f refl)

-- ---- counting what is written out
abbrev is : ℕ → ℕ → ℕ
is k c = pick (eqb c k) 1 0

occurs-spread : (k : ℕ) (f : Two → ℕ) (ps : List Two) (x : List ℕ) → occurs k (spread (map f ps) x) ≡ sum_to (length ps) (λ i. get_or x i 0 * is k (f (get_or ps i (0, 0))))
unfolding occurs spread sum_to
occurs-spread k f [] x = refl
occurs-spread k f (p ∷ ps) [] = omega (arith, sum_to-first (length ps) (λ i. 0 * is k (f (get_or (p ∷ ps) i (0, 0)))), occurs-spread k f ps [], none ps)
  where
    none : (ps : List Two) → occurs k (spread (map f ps) []) ≡ 0
    none [] = refl
    none (p ∷ ps) = refl
occurs-spread k f (p ∷ ps) (n ∷ x) =
    omega (arith, occurs-append k (replicate n (f p)) (spread (map f ps) x), occurs-replicate k n (f p), occurs-spread k f ps x, sum_to-first (length ps) (λ i. get_or (n ∷ x) i 0 * is k (f (get_or (p ∷ ps) i (0, 0)))))

count_in-sum : (k : ℕ) (l : List Two) → count_in k l ≡ sum_to (length l) (λ i. get_or (counts l) i 0 * is k (get_or (classes l) i 0))
unfolding count_in sum_to
count_in-sum k [] = refl
count_in-sum k (r ∷ l) =
    omega (arith, times-pick r.1 (eqb r.0 k), count_in-sum k l, sum_to-first (length l) (λ i. get_or (counts (r ∷ l)) i 0 * is k (get_or (classes (r ∷ l)) i 0)))

module _ (m : MonomialPair) (x : List ℕ) where
  abbrev wide : ℕ
  wide = length m.cols

  abbrev cell : ℕ → ℕ → ℕ
  cell i j = get_or x (i * wide + j) 0

  cells : (k : ℕ) (f : Two → ℕ) → occurs k (spread (map f (cell_pairs m)) x) ≡ sum_to (length m.rows) (λ i. sum_to wide (λ j. cell i j * is k (f (get_or (classes m.rows) i 0, get_or (classes m.cols) j 0))))
  cells k f =
      occurs-spread k f (cell_pairs m) x
      ∙ sum_to-grid (length m.rows) wide (length (cell_pairs m)) (λ i. get_or x i 0 * is k (f (get_or (cell_pairs m) i (0, 0)))) (cells-length m)
      ∙ sum_to-cong (length m.rows) (λ i hi. sum_to-cong wide (λ j hj. ap (λ (z : Two). cell i j * is k (f z)) (cells_at m i j (i * wide + j) hi hj refl)))

  pub rows-count : ((i : ℕ) → i < length m.rows → sum_to wide (λ j. cell i j) ≡ get_or (counts m.rows) i 0) → (k : ℕ) → occurs k (spread (map (λ p. p.0) (cell_pairs m)) x) ≡ count_in k m.rows
  rows-count h k =
      cells k (λ p. p.0)
      ∙ sum_to-cong (length m.rows) (λ i hi. sum_to-scale wide (is k (get_or (classes m.rows) i 0)) (λ j. cell i j) ∙ ap (λ (z : ℕ). z * is k (get_or (classes m.rows) i 0)) (h i hi))
      ∙ sym (count_in-sum k m.rows)

  pub columns-count : ((j : ℕ) → j < wide → sum_to (length m.rows) (λ i. cell i j) ≡ get_or (counts m.cols) j 0) → (k : ℕ) → occurs k (spread (map (λ p. p.1) (cell_pairs m)) x) ≡ count_in k m.cols
  columns-count h k =
      cells k (λ p. p.1)
      ∙ sum_to-swap (length m.rows) wide (λ i j. cell i j * is k (get_or (classes m.cols) j 0))
      ∙ sum_to-cong wide (λ j hj. sum_to-scale (length m.rows) (is k (get_or (classes m.cols) j 0)) (λ i. cell i j) ∙ ap (λ (z : ℕ). z * is k (get_or (classes m.cols) j 0)) (h j hj))
      ∙ sym (count_in-sum k m.cols)

-- "Row and column sums of the plan equal the margins": the left classes of its cells, written out, are the rows; the right ones the columns
pub plan-rows : (a : TransportAction) (qs : List Two) (x : List ℕ) → Plan (problem_over a qs) x → (k : ℕ) → occurs k (spread (map (λ p. p.0) (cell_pairs a.sides)) x) ≡ count_in k a.sides.rows
unfolding row_flow
plan-rows a qs x plan = rows-count a.sides x (λ i h. ap (λ (n : ℕ). sum_to n (λ j. get_or x (i * n + j) 0)) (sym lc) ∙ plan.rows i (omega (arith, lr)))
  where
    lr : rows_of (problem_over a qs) ≡ length a.sides.rows
    lr = length-map a.sides.rows (λ t. t.1)

    lc : cols_of (problem_over a qs) ≡ length a.sides.cols
    lc = length-map a.sides.cols (λ t. t.1)

pub plan-columns : (a : TransportAction) (qs : List Two) (x : List ℕ) → Plan (problem_over a qs) x → (k : ℕ) → occurs k (spread (map (λ p. p.1) (cell_pairs a.sides)) x) ≡ count_in k a.sides.cols
unfolding col_flow
plan-columns a qs x plan = columns-count a.sides x (λ j h. ap₂ (λ (m n : ℕ). sum_to m (λ i. get_or x (i * n + j) 0)) (sym lr) (sym lc) ∙ plan.columns j (omega (arith, lc)))
  where
    lr : rows_of (problem_over a qs) ≡ length a.sides.rows
    lr = length-map a.sides.rows (λ t. t.1)

    lc : cols_of (problem_over a qs) ≡ length a.sides.cols
    lc = length-map a.sides.cols (λ t. t.1)
