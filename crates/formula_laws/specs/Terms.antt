-- The writer as the code has it: over pool numbers, calling itself on children, whose numbers are lower, with the surrounding precedence.
use Rattle.std.specs.Prelude.{◌≡◌, refl, Bool, true, false, List, [], ◌∷◌, ◌++◌, ltb, eqb, length, replicate}
use Rattle.std.proofs.Common.{sym, ap, ap₂, ◌∙◌, inl, inr, not-suc-le-zero, arith}
use Prim.Native.Nat.{ℕ, zero, suc, ◌<◌}
use Rattle.spec.specs.Bytes.{Two}
use Rattle.spec.specs.Pool.{Pool, Node, node_at, OP, LIT, VARIANTS}
use Rattle.spec.specs.Meaning.{In, here, there, Term, tree_at, tree_of, trees_after, runs_of}
use Rattle.laws.specs.Lists.{in-cons, in-nil, in-append}
use Rattle.laws.specs.Tests.{clash}
use Rattle.laws.specs.BagCount.{written}
use Rattle.pools.specs.Pool.{RunsBelow, runs-below-tail, Formed, operation, literal, marked, NodeValid, PoolValid, tree-operation, tree-literal, tree-marked}
use Rattle.pools.specs.PoolTrees.{tree_is}
use Rattle.formula.specs.Card.{Tree, two, many, Trees, none, also, Mark, between, list, next, close, begin, or, end, prec_of, left_level, right_level, bracketed, write, write_all}
use Rattle.formula.specs.Card as C
use Rattle.formula.specs.Lexer.{times, of_children, spelled, spelled_runs, card_tree}

-- one after the other, with a mark between
unfoldable pub series_of : (ℕ → List Mark) → Mark → List ℕ → List Mark
series_of w sep [] = []
series_of w sep (c ∷ []) = w c
series_of w sep (c ∷ d ∷ l) = w c ++ (sep ∷ series_of w sep (d ∷ l))

-- an operation over its children, counts written out; w m c: the marks of child c where m is the surrounding precedence
unfoldable pub operation_marks : List ℕ → (ℕ → ℕ → List Mark) → ℕ → ℕ → List ℕ → List Mark
unfolding series_of
operation_marks t w m o [] = list o ∷ close ∷ []
operation_marks t w m o (c ∷ []) = list o ∷ w 0 c ++ (close ∷ [])
operation_marks t w m o (c ∷ d ∷ []) = bracketed (ltb (prec_of t o) m) (w (left_level t (prec_of t o)) c ++ (between o ∷ w (right_level t (prec_of t o)) d))
operation_marks t w m o (c ∷ d ∷ e ∷ l) = list o ∷ series_of (w 0) next (c ∷ d ∷ e ∷ l) ++ (close ∷ [])

unfoldable pub node_marks : List ℕ → (ℕ → ℕ → List Mark) → ℕ → Node → List Mark
unfolding operation_marks series_of written
node_marks t w m n =
    elim (eqb n.head LIT) [
      | true ↦ C.literal n.value n.op ∷ []
      | false ↦ elim (eqb n.head VARIANTS) [ true ↦ begin ∷ series_of (w 0) or (written n.runs) ++ (end ∷ []) | false ↦ operation_marks t w m n.op (written n.runs) ]
    ]

-- fuel: above the number, since children stand earlier
unfoldable pub term_marks : ℕ → List ℕ → Pool → ℕ → ℕ → List Mark
unfolding node_marks
term_marks zero t p m a = []
term_marks (suc f) t p m a = node_marks t (term_marks f t p) m (node_at p a)

-- ---- children's trees
unfoldable pub trees_of : Pool → List ℕ → Trees
trees_of p [] = none
trees_of p (c ∷ l) = also (card_tree p c) (trees_of p l)

times-trees : (n : ℕ) (p : Pool) (c : ℕ) (l : List ℕ) → times n (card_tree p c) (trees_of p l) ≡ trees_of p (replicate n c ++ l)
unfolding times trees_of
times-trees zero p c l = refl
times-trees (suc n) p c l = ap (also (card_tree p c)) (times-trees n p c l)

pub runs-trees : (p : Pool) (l : List Two) → spelled_runs (runs_of (trees_after [] p) l) ≡ trees_of p (written l)
unfolding spelled_runs runs_of trees_of written
runs-trees p [] = refl
runs-trees p (r ∷ l) = ap (times r.1 (card_tree p r.0)) (runs-trees p l) ∙ times-trees r.1 p r.0 (written l)

all-trees : (t : List ℕ) (p : Pool) (sep : Mark) (l : List ℕ) → write_all t sep (trees_of p l) ≡ series_of (λ c. write t 0 (card_tree p c)) sep l
unfolding write_all trees_of series_of
all-trees t p sep [] = refl
all-trees t p sep (c ∷ []) = refl
all-trees t p sep (c ∷ d ∷ l) = ap (λ z. write t 0 (card_tree p c) ++ (sep ∷ z)) (all-trees t p sep (d ∷ l))

operation-trees : (t : List ℕ) (p : Pool) (m o : ℕ) (l : List ℕ) → write t m (of_children o (trees_of p l)) ≡ operation_marks t (λ m c. write t m (card_tree p c)) m o l
unfolding write trees_of operation_marks series_of
operation-trees t p m o [] = refl
operation-trees t p m o (c ∷ []) = refl
operation-trees t p m o (c ∷ d ∷ []) = refl
operation-trees t p m o (c ∷ d ∷ e ∷ l) = ap (λ z. list o ∷ z ++ (close ∷ [])) (all-trees t p next (c ∷ d ∷ e ∷ l))

-- ---- only what is written of the children counts
series-cong : (v w : ℕ → List Mark) (sep : Mark) (l : List ℕ) → ((c : ℕ) → In c l → v c ≡ w c) → series_of v sep l ≡ series_of w sep l
unfolding series_of
series-cong v w sep [] h = refl
series-cong v w sep (c ∷ []) h = h c here
series-cong v w sep (c ∷ d ∷ l) h = ap₂ (λ (x y : List Mark). x ++ (sep ∷ y)) (h c here) (series-cong v w sep (d ∷ l) (λ e i. h e (there i)))

operation-cong : (t : List ℕ) (v w : ℕ → ℕ → List Mark) (m o : ℕ) (l : List ℕ) → ((n c : ℕ) → In c l → v n c ≡ w n c) → operation_marks t v m o l ≡ operation_marks t w m o l
unfolding operation_marks
operation-cong t v w m o [] h = refl
operation-cong t v w m o (c ∷ []) h = ap (λ z. list o ∷ z ++ (close ∷ [])) (h 0 c here)
operation-cong t v w m o (c ∷ d ∷ []) h = ap₂ (λ (x y : List Mark). bracketed (ltb (prec_of t o) m) (x ++ (between o ∷ y))) (h (left_level t (prec_of t o)) c here) (h (right_level t (prec_of t o)) d (there here))
operation-cong t v w m o (c ∷ d ∷ e ∷ l) h = ap (λ z. list o ∷ z ++ (close ∷ [])) (series-cong (v 0) (w 0) next (c ∷ d ∷ e ∷ l) (h 0))

in-replicate : (n c d : ℕ) → In d (replicate n c) → d ≡ c
in-replicate zero c d i = absurd (in-nil i)
in-replicate (suc n) c d i = elim (in-cons i) [ inl e ↦ e | inr j ↦ in-replicate n c d j ]

pub written_below : (i : ℕ) (l : List Two) → RunsBelow i l → (c : ℕ) → In c (written l) → c < i
unfolding written
written_below i [] b c j = absurd (in-nil j)
written_below i (r ∷ l) b c j = elim (in-append (replicate r.1 r.0) j) [ inl k ↦ (let e = in-replicate r.1 r.0 c k in omega (arith, e, b.earlier r here)) | inr k ↦ written_below i l (runs-below-tail b) c k ]

-- ---- the two writers agree
pub literal-marks : (t : List ℕ) (w : ℕ → ℕ → List Mark) (m : ℕ) (n : Node) → n.head ≡ LIT → node_marks t w m n ≡ C.literal n.value n.op ∷ []
unfolding node_marks
literal-marks t w m n e = rw (e, node_marks) refl

pub operation-marks : (t : List ℕ) (w : ℕ → ℕ → List Mark) (m : ℕ) (n : Node) → n.head ≡ OP → node_marks t w m n ≡ operation_marks t w m n.op (written n.runs)
unfolding node_marks
operation-marks t w m n e = rw (e, node_marks) (inner (eqb n.head VARIANTS) (ap (λ z. eqb z VARIANTS) e))
  where
    inner : (x : Bool) → x ≡ false → (elim x [ true ↦ begin ∷ series_of (w 0) or (written n.runs) ++ (end ∷ []) | false ↦ operation_marks t w m n.op (written n.runs) ]) ≡ operation_marks t w m n.op (written n.runs)
    inner true f = absurd (clash f)
    inner false f = refl

pub marked-marks : (t : List ℕ) (w : ℕ → ℕ → List Mark) (m : ℕ) (n : Node) → n.head ≡ VARIANTS → node_marks t w m n ≡ begin ∷ series_of (w 0) or (written n.runs) ++ (end ∷ [])
unfolding node_marks
marked-marks t w m n e = rw (e, node_marks) (inner (eqb n.head VARIANTS) (ap (λ z. eqb z VARIANTS) e))
  where
    inner : (x : Bool) → x ≡ true → (elim x [ true ↦ begin ∷ series_of (w 0) or (written n.runs) ++ (end ∷ []) | false ↦ operation_marks t w m n.op (written n.runs) ]) ≡ begin ∷ series_of (w 0) or (written n.runs) ++ (end ∷ [])
    inner true f = refl
    inner false f = absurd (clash (sym f))

module _ (t : List ℕ) (p : Pool) (v : PoolValid p) where
  node-marks : (u : ℕ → ℕ → List Mark) (a : ℕ) → a < length p → ((m c : ℕ) → c < a → u m c ≡ write t m (card_tree p c)) → (m : ℕ) → node_marks t u m (node_at p a) ≡ write t m (card_tree p a)
  unfolding node_marks spelled write series_of
  node-marks u a h ih m = go w.formed
    where
      n : Node
      n = node_at p a

      w : NodeValid a n
      w = v.nodes a h

      ts : List Term
      ts = trees_after [] p

      tree : tree_at p a ≡ tree_of ts n
      tree = tree_is p v a h

      below : (c : ℕ) → In c (written n.runs) → c < a
      below = written_below a n.runs w.below

      lits : n.head ≡ LIT → node_marks t u m n ≡ write t m (card_tree p a)
      lits e = literal-marks t u m n e ∙ ap (λ z. write t m (spelled z)) (sym (tree ∙ tree-literal ts n e))

      ops : n.head ≡ OP → node_marks t u m n ≡ write t m (card_tree p a)
      ops e =
          operation-marks t u m n e
          ∙ operation-cong t u (λ m c. write t m (card_tree p c)) m n.op (written n.runs) (λ k c i. ih k c (below c i))
          ∙ sym (operation-trees t p m n.op (written n.runs))
          ∙ ap (λ z. write t m (of_children n.op z)) (sym (runs-trees p n.runs))
          ∙ ap (λ z. write t m (spelled z)) (sym (tree ∙ tree-operation ts n e))

      marks : n.head ≡ VARIANTS → node_marks t u m n ≡ write t m (card_tree p a)
      marks e =
          marked-marks t u m n e
          ∙ ap (λ (z : List Mark). begin ∷ z ++ (end ∷ [])) (series-cong (u 0) (λ c. write t 0 (card_tree p c)) or (written n.runs) (λ c i. ih 0 c (below c i)) ∙ sym (all-trees t p or (written n.runs)))
          ∙ ap (λ (z : Trees). write t m (C.marked z)) (sym (runs-trees p n.runs))
          ∙ ap (λ z. write t m (spelled z)) (sym (tree ∙ tree-marked ts n e))

      go : Formed n → node_marks t u m n ≡ write t m (card_tree p a)
      go (operation e z) = ops e
      go (literal e z) = lits e
      go (marked e x y) = marks e

  marks-below : (f a : ℕ) → a < f → a < length p → (m : ℕ) → term_marks f t p m a ≡ write t m (card_tree p a)
  unfolding term_marks
  marks-below zero a k h m = absurd (not-suc-le-zero k)
  marks-below (suc f) a k h m = node-marks (term_marks f t p) a h (λ n c l. marks-below f c (omega arith) (omega arith) n) m

  -- what the recursion over numbers writes is the card
  pub term-written : (m a : ℕ) → a < length p → term_marks (suc a) t p m a ≡ write t m (card_tree p a)
  term-written m a h = marks-below (suc a) a (omega arith) h m

  -- a term's card by its children's
  pub card-node : (m a : ℕ) → a < length p → write t m (card_tree p a) ≡ node_marks t (λ m c. write t m (card_tree p c)) m (node_at p a)
  card-node m a h = sym (node-marks (λ m c. write t m (card_tree p c)) a h (λ n c l. refl) m)
