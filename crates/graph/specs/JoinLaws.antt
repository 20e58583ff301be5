-- What is left to be entered at each turn: pairs of an action, actions, columns, rows, transports. Assumes nothing.
use Rattle.std.specs.Prelude.{◌≡◌, ℕ, suc, ◌+◌, ◌≤◌, ◌<◌, length, get_or, drop, Option, Some, None}
use Rattle.std.proofs.Math.Path.{refl, ap}
use Rattle.std.proofs.Common.{sym, ◌∙◌, add-one, arith, drop_of_length-le, drop-cons, get_or-take}
use mathlib.Core.List.{List, [], ◌∷◌, ◌++◌, map, append_assoc}
use Rattle.spec.specs.Bytes.{Two, each}
use Rattle.spec.specs.Image.{Tables, tables_of}
use Rattle.spec.specs.Monomial.{Monomial, classes, pair_of}
use Rattle.spec.specs.Action.{Action, TransportAction, structural, transports, cell_pairs, joins}
use Rattle.laws.specs.Valid.{Valid}
use Rattle.laws.specs.Lists.{in_left, in_right}
use Rattle.laws.specs.BestMembers.{IsPair}
use Rattle.lgg.specs.Within.{joins-within}
use Rattle.image.specs.Loaded.{Loaded}
use Rattle.image.specs.declared.Image.{Image}
use Rattle.actions.specs.declared.State.{State}
use Rattle.actions.specs.Place as P
use Rattle.enumeration.specs.Remaining as R
use Rattle.enumeration.specs.Seek.{seek_of}
use Rattle.enumeration.specs.SeekLaws.{seek-list}
use Rattle.monomial_terms.specs.Terms.{TERMS, NUMBERS, terms, held}
use Rattle.monomial_terms.specs.TermLaws.{held-length}
use Rattle.padding.specs.Pad.{Few}
use Rattle.ac_repr.specs.Walk.{Within, Stepped, walks, all_walks, left_of, after_of}
use Rattle.ac_monomials.specs.Actions.{Answered, actions_at}
use Rattle.ac_monomials.specs.Sides.{action-one, action-none}
use Rattle.ac_monomials.specs.Transports.{actions_left, left-first, left-next, left_end}
use Rattle.ac_repr.specs.declared.Walk.{Walk}
use Rattle.entering.specs.Growing.{Small, AllSmall}

-- ---- lists, one after the other
each_append : {A B : Type 0} (f : A → List B) (a b : List A) → each f (a ++ b) ≡ each f a ++ each f b
unfolding each
each_append f [] b = refl
each_append f (x ∷ a) b = rw (each_append f a b) (sym (append_assoc (f x) (each f a) (each f b)))

-- ---- the pairs of an action
pub pair-next : (ps : List Two) (k x y : ℕ) → k < length ps → x ≡ (get_or ps k (0, 0)).0 → y ≡ (get_or ps k (0, 0)).1 → drop k ps ≡ ((x, y) ∷ []) ++ drop (k + 1) ps
pair-next ps k x y h e f = rw (e, f, add-one k) (drop-cons ps k (0, 0) h)

pub pair_end : (ps : List Two) (k : ℕ) → length ps ≤ k → drop k ps ≡ []
pair_end ps k h = drop_of_length-le ps h

-- ---- structural actions
abbrev pub pairs_of : List Action → List Two
pairs_of l = each (λ a. a.pairs) l

module _ {s : List ℕ} {im : Image} (L : Loaded s im) (ok : Valid (tables_of s)) {l r : ℕ} (hl : l < im.classes) (hr : r < im.classes) (v : State) {x : Option State} (e : x ≡ seek_of (tables_of s) l r v) where
  found : {y : Option State} → x ≡ y → R.list_from (tables_of s) l r v ≡ R.found_in (tables_of s) l r y
  found q = seek-list L ok hl hr v e ∙ ap (R.found_in (tables_of s) l r) q

  pub actions-next : (w : State) → x ≡ Some w → pairs_of (R.list_from (tables_of s) l r v) ≡ (P.action_at (tables_of s) w).pairs ++ pairs_of (R.list_from (tables_of s) l r (P.after_of w))
  unfolding each
  actions-next w q = ap pairs_of (found q)

  pub actions-end : x ≡ None → pairs_of (R.list_from (tables_of s) l r v) ≡ []
  unfolding each
  actions-end q = ap pairs_of (found q)

-- ---- the columns of a row, and the rows
abbrev pub row_from : ℕ → ℕ → List ℕ → ℕ → List Two
row_from l cols right j = map (λ b. (l, b)) (classes (drop j (held cols right)))

abbrev pub cells_from : ℕ → List ℕ → ℕ → List ℕ → ℕ → List Two
cells_from rows left cols right i = each (λ a. map (λ b. (a, b)) (classes (held cols right))) (classes (drop i (held rows left)))

held_next : (n : ℕ) (s : List ℕ) (j x : ℕ) → length s ≡ NUMBERS → n ≤ TERMS → j < n → x ≡ (get_or (terms s) j (0, 0)).0 → classes (drop j (held n s)) ≡ x ∷ classes (drop (j + 1) (held n s))
held_next n s j x e h k f =
    let d : drop j (held n s) ≡ get_or (held n s) j (0, 0) ∷ drop (suc j) (held n s) = drop-cons (held n s) j (0, 0) (omega (arith, k, held-length n s e h)) in
    let g : get_or (held n s) j (0, 0) ≡ get_or (terms s) j (0, 0) = get_or-take n (terms s) j (0, 0) k in
    rw (d, f, add-one j, g) refl

held-end : (n : ℕ) (s : List ℕ) (j : ℕ) → length s ≡ NUMBERS → n ≤ TERMS → n ≤ j → drop j (held n s) ≡ []
held-end n s j e h k = drop_of_length-le (held n s) {i = j} (omega (arith, k, held-length n s e h))

module _ (l cols : ℕ) (right : List ℕ) (e : length right ≡ NUMBERS) (h : cols ≤ TERMS) where
  pub row_next : (j r : ℕ) (x : ℕ) → j < cols → r ≡ x → x ≡ (get_or (terms right) j (0, 0)).0 → row_from l cols right j ≡ ((l, r) ∷ []) ++ row_from l cols right (j + 1)
  row_next j r x k f q = ap (λ (m : List ℕ). map (λ b. (l, b)) m) (held_next cols right j r e h k (f ∙ q))

  pub row-end : (j : ℕ) → cols ≤ j → row_from l cols right j ≡ []
  row-end j k = ap (λ (m : Monomial). map (λ b. (l, b)) (classes m)) (held-end cols right j e h k)

module _ (rows : ℕ) (left : List ℕ) (cols : ℕ) (right : List ℕ) (e : length left ≡ NUMBERS) (h : rows ≤ TERMS) where
  pub cells-start : cell_pairs (pair_of (held rows left) (held cols right)) ≡ cells_from rows left cols right 0
  unfolding cell_pairs
  cells-start = refl

  pub cells-next : (i l x : ℕ) → i < rows → l ≡ x → x ≡ (get_or (terms left) i (0, 0)).0 → cells_from rows left cols right i ≡ row_from l cols right 0 ++ cells_from rows left cols right (i + 1)
  unfolding each
  cells-next i l x k f q = ap (λ (m : List ℕ). each (λ a. map (λ b. (a, b)) (classes (held cols right))) m) (held_next rows left i l e h k (f ∙ q))

  pub cells-end : (i : ℕ) → rows ≤ i → cells_from rows left cols right i ≡ []
  unfolding each
  cells-end i k = ap (λ (m : Monomial). each (λ a. map (λ b. (a, b)) (classes (held cols right))) (classes m)) (held-end rows left i e h k)

-- ---- transports
abbrev pub cells_of : List TransportAction → List Two
cells_of l = each (λ a. cell_pairs a.sides) l

module _ (t : Tables) (l r : ℕ) (w : Walk) {s u s' u' : List ℕ} (x : Option (ℕ × ℕ)) (d : Answered t l r w s u s' u' x) where
  pub transport-none : x ≡ None → cells_of (actions_at t l r w) ≡ []
  unfolding each
  transport-none q = ap cells_of (action-none t l r w s u s' u' (rw q at d))

  pub transport-one : (n m : ℕ) → x ≡ Some (n, m) → cells_of (actions_at t l r w) ≡ cell_pairs (pair_of (held n s') (held m u')) ++ []
  unfolding each
  transport-one n m q = ap cells_of (action-one t l r w s u s' u' n m (rw q at d))

  pub transport-few : (n m : ℕ) → x ≡ Some (n, m) → (n ≤ TERMS) × (m ≤ TERMS)
  transport-few n m q = let f : Few (Some (n, m)) = rw q at d.few in f

module _ (t : Tables) (l r : ℕ) where
  pub transports-start : (x : Option Walk) → Valid t → l < length t.classes → r < length t.classes → Stepped t l r (walks t l r) (all_walks t l r) x → cells_of (transports t l r) ≡ cells_of (actions_left t l r x)
  transports-start x v a b d = ap cells_of (left-first t l r x v a b d)

  pub transports-next : (x : Option Walk) (w : Walk) (y : Option Walk) → x ≡ Some w → Stepped t l r (walks t l r) (walks t l r (after_of w)) y → cells_of (actions_left t l r x) ≡ cells_of (actions_at t l r w) ++ cells_of (actions_left t l r y)
  transports-next x w y q d = ap (λ (z : Option Walk). cells_of (actions_left t l r z)) q ∙ ap cells_of (left-next t l r w y d) ∙ each_append (λ a. cell_pairs a.sides) (actions_at t l r w) (actions_left t l r y)

  -- before the step after it is known
  pub transports-first : (x : Option Walk) (w : Walk) → x ≡ Some w → cells_of (actions_left t l r x) ≡ cells_of (actions_at t l r w) ++ cells_of (each (actions_at t l r) (walks t l r (after_of w)))
  unfolding actions_left each
  transports-first x w q = ap (λ (z : Option Walk). cells_of (actions_left t l r z)) q ∙ each_append (λ a. cell_pairs a.sides) (actions_at t l r w) (each (actions_at t l r) (walks t l r (after_of w)))

  pub transports-later : (w : Walk) (y : Option Walk) → Stepped t l r (walks t l r) (walks t l r (after_of w)) y → cells_of (each (actions_at t l r) (walks t l r (after_of w))) ≡ cells_of (actions_left t l r y)
  unfolding actions_left
  transports-later w y d = ap (λ (m : List Walk). cells_of (each (actions_at t l r) m)) d.left

  pub transports-end : (x : Option Walk) → x ≡ None → cells_of (actions_left t l r x) ≡ []
  unfolding each
  transports-end x q = ap (λ (z : Option Walk). cells_of (actions_left t l r z)) q ∙ ap cells_of (left_end t l r)

  -- how many pairs of places are left
  abbrev pub walks_left : Option Walk → ℕ
  walks_left x = length (left_of (walks t l r) x)

  pub walks-fewer : (x : Option Walk) (w : Walk) (y : Option Walk) → x ≡ Some w → Stepped t l r (walks t l r) (walks t l r (after_of w)) y → walks_left y < walks_left x
  walks-fewer x w y q d = omega (arith, ap walks_left q, ap (λ (m : List Walk). length m) d.left)

  pub within-here : (x : Option Walk) (w : Walk) → Within t l r x → x ≡ Some w → Within t l r (Some w)
  within-here x w d q = rw q at d

-- ---- all pairs are of classes of the image
module _ (t : Tables) (v : Valid t) (l r : ℕ) (a : l < length t.classes) (b : r < length t.classes) (w : ℕ) (many : length t.classes ≡ w) where
  pub small-pair : (p : Two) → IsPair t p → Small w p
  small-pair p (x, y) = (omega (arith, x, many), omega (arith, y, many))

  pub joins-small : AllSmall w (joins t (l, r))
  joins-small p i = small-pair p (joins-within t v (l, r) (a, b) p i)

  pub structural-small : AllSmall w (pairs_of (structural t l r))
  unfolding joins
  structural-small p i = small-pair p (joins-within t v (l, r) (a, b) p (in_left (cells_of (transports t l r)) i))

  pub transports-small : AllSmall w (cells_of (transports t l r))
  unfolding joins
  transports-small p i = small-pair p (joins-within t v (l, r) (a, b) p (in_right (pairs_of (structural t l r)) i))

pub joins-are : (t : Tables) (l r : ℕ) → joins t (l, r) ≡ pairs_of (structural t l r) ++ cells_of (transports t l r)
unfolding joins
joins-are t l r = refl
