-- A card read into any other pool yields a number of the same term; which refusals reading and writing give, and when.
use Rattle.std.specs.Prelude.{◌≡◌, length}
use Rattle.std.proofs.Math.Path.{refl, ap}
use Rattle.std.proofs.Common.{sym, ◌∙◌, arith}
use mathlib.Core.List.{List, [], ◌∷◌}
use Prim.Native.Nat.{ℕ, zero, suc, ◌≤◌, ◌<◌}
use Rattle.std.proofs.Math.Nat.{not-suc-le-zero}
use Rattle.spec.specs.Bytes.{Limits, Two, Res, ok, ◌>>=◌}
use Rattle.spec.specs.Pool.{Pool, Node, node_at, OP, LIT, VARIANTS, join_runs, op_node, lit_node, Interned, interned, intern, Children}
use Rattle.spec.specs.Meaning.{In, here, there, Term, Runs, Branched, tree_at, tree_of, trees_after, runs_of}
use Rattle.spec.specs.Meaning as Meaning
use Rattle.pools.specs.Pool.{Joined, RunsBelow, runs-below-tail, runs-below-cons, runs-below-nil, Formed, operation, literal, marked, NodeValid, PoolValid, numbered, tree-operation, tree-literal, tree-marked, op-valid, lit-valid, variants-valid, join-joined}
use Rattle.pools.specs.Pool as P
use Rattle.pools.specs.PoolTrees.{tree_is}
use Rattle.pools.proofs.PoolTrees.{trees-apart}
use Rattle.pools.specs.PoolIntern.{Extends, extends-refl, extends-trans, extends-tree, extends-within}
use Rattle.pools.proofs.PoolIntern.{intern-enters}
use Rattle.laws.specs.Results.{bind_ok, ok-inj}
use Rattle.formula.specs.Card.{Tree, lit, two, many, Trees, none, also, count, branches, spell, proper_mark, write, Mark, FormulaText}
use Rattle.formula.specs.Card as C
use Rattle.formula.specs.Lexer.{times, spelled, spelled_runs, card_tree, write_card, marked_node, enter, enter_all, read_text, read_card}
use Rattle.formula_laws.specs.Texts.{text-read, card-text}
use Rattle.formula_laws.specs.Entering.{spelled-shaped, repeat, ones, join-ones, children, enter-children, enter-own, written_is}

-- ---- what entering number a of pool p into pool q gives
pub record Enters (p q : Pool) (a : ℕ) (r : Interned) : Type 0 where
  pub valid : PoolValid r.pool
  pub grown : Extends q r.pool
  pub within : r.term < length r.pool
  pub means : tree_at r.pool r.term ≡ tree_at p a

-- runs of one pool and of another, of the same trees and as often
pub data Agree (q p : Pool) : List Two → List Two → Type 0 where
  agree-nil : Agree q p [] []
  agree-cons : {r s : Two} {l m : List Two} → tree_at q r.0 ≡ tree_at p s.0 → r.1 ≡ s.1 → r.0 < length q → Agree q p l m → Agree q p (r ∷ l) (s ∷ m)

pub agree-runs : {q p : Pool} {l m : List Two} → Agree q p l m → runs_of (trees_after [] q) l ≡ runs_of (trees_after [] p) m
unfolding runs_of
agree-runs agree-nil = refl
agree-runs (agree-cons {r = r} {s = s} e f h g) = rw (e, f, agree-runs g) refl

agree-grows : {q q' p : Pool} {l m : List Two} → Extends q q' → Agree q p l m → Agree q' p l m
agree-grows x agree-nil = agree-nil
agree-grows x (agree-cons {r = r} e f h g) = agree-cons (extends-tree x r.0 h ∙ e) f (extends-within x r.0 h) (agree-grows x g)

pub agree-below : {q p : Pool} {l m : List Two} (i : ℕ) → Agree q p l m → RunsBelow i m → RunsBelow (length q) l
agree-below i agree-nil b = runs-below-nil _
agree-below i (agree-cons {s = s} e f h g) b = runs-below-cons h (omega (arith, f, b.counted s here)) (agree-below i g (runs-below-tail b))

pub agree-joined : {q p : Pool} {l m : List Two} (i : ℕ) → PoolValid p → i ≤ length p → Agree q p l m → RunsBelow i m → Joined m → Joined l
agree-joined i v h agree-nil b j = P.none
agree-joined i v h (agree-cons e f k agree-nil) b j = P.one
agree-joined {p = p} i v h (agree-cons {r = r} {s = s} e f k (agree-cons {r = r'} {s = s'} e' f' k' g)) b (P.more n j) =
    P.more (λ z. n (trees-apart p v s.0 s'.0 (omega (arith, b.earlier s here)) (omega (arith, b.earlier s' (there here))) (sym e ∙ ap (tree_at _) z ∙ e')))
    (agree-joined i v h (agree-cons e' f' k' g) (runs-below-tail b) j)

-- ---- equal children are entered once
times-ok : (lim : Limits) (m : ℕ) (q : Pool) (d : ℕ) (a : Tree) (l : Trees) (k : Children) → enter lim q a ≡ ok (interned q d) → enter_all lim q (times m a l) ≡ ok k
    → (j : Children) × (enter_all lim q l ≡ ok j) × (k ≡ children j.pool (repeat m d j.runs))
unfolding times repeat enter_all
times-ok lim zero q d a l k e f = (k, f, refl)
times-ok lim (suc m) q d a l k e f =
    let (x, fx, gx) = bind_ok (enter lim q a) _ k f in
    let same : interned q d ≡ x = ok-inj (sym e ∙ fx) in
    let (y, fy, gy) = bind_ok (enter_all lim q (times m a l)) _ k (rw (← same) at gx) in
    let (j, fj, gj) = times-ok lim m q d a l y e fy in
    (j, fj, sym (ok-inj gy) ∙ ap (λ (z : Children). children z.pool ((d, 1) ∷ z.runs)) gj)

pub record RunsEnter (p q : Pool) (l : List Two) (k : Children) : Type 0 where
  pub valid : PoolValid k.pool
  pub grown : Extends q k.pool
  pub list : List Two
  pub is : k.runs ≡ ones list
  pub agree : Agree k.pool p list l

module _ (lim : Limits) (p : Pool) (v : PoolValid p) where
  pub runs-enter : (l : List Two) (i : ℕ) → RunsBelow i l → ((c : ℕ) → c < i → (q : Pool) (r : Interned) → PoolValid q → enter lim q (card_tree p c) ≡ ok r → Enters p q c r)
      → (q : Pool) (k : Children) → PoolValid q → enter_all lim q (spelled_runs (runs_of (trees_after [] p) l)) ≡ ok k → RunsEnter p q l k
  unfolding runs_of spelled_runs enter_all times ones repeat
  runs-enter [] i b ih q k w e = rw (← ok-inj e) (record { valid = w; grown = extends-refl q; list = []; is = refl; agree = agree-nil })
  runs-enter ((c, zero) ∷ l) i b ih q k w e = absurd (let z : 1 ≤ 0 = b.counted (c, zero) here in not-suc-le-zero z)
  runs-enter ((c, suc m) ∷ l) i b ih q k w e =
      let (x, fx, gx) = bind_ok (enter lim q (card_tree p c)) _ k e in
      let u = ih c (b.earlier (c, suc m) here) q x w fx in
      let own : enter lim x.pool (card_tree p c) ≡ ok (interned x.pool x.term) = ap (λ z. enter lim x.pool (spelled z)) (sym u.means) ∙ enter-own lim x.pool u.valid x.term u.within in
      let (y, fy, gy) = bind_ok (enter_all lim x.pool (times m (card_tree p c) (spelled_runs (runs_of (trees_after [] p) l)))) _ k gx in
      let (j, fj, gj) = times-ok lim m x.pool x.term (card_tree p c) (spelled_runs (runs_of (trees_after [] p) l)) y own fy in
      let rest = runs-enter l i (runs-below-tail b) ih x.pool j u.valid fj in
      let kk : children j.pool ((x.term, 1) ∷ repeat m x.term j.runs) ≡ k = ap (λ (z : Children). children z.pool ((x.term, 1) ∷ z.runs)) (sym gj) ∙ ok-inj gy in
      rw (← kk) (record {
        valid = rest.valid;
        grown = extends-trans u.grown rest.grown;
        list = (x.term, suc m) ∷ rest.list;
        is = ap (λ (z : List Two). (x.term, 1) ∷ repeat m x.term z) rest.is;
        agree = agree-cons (extends-tree rest.grown x.term u.within ∙ u.means) refl (extends-within rest.grown x.term u.within) rest.agree;
      })

  enter-node : (a : ℕ) → a < length p → ((c : ℕ) → c < a → (q : Pool) (r : Interned) → PoolValid q → enter lim q (card_tree p c) ≡ ok r → Enters p q c r)
      → (q : Pool) (r : Interned) → PoolValid q → enter lim q (card_tree p a) ≡ ok r → Enters p q a r
  unfolding spelled enter enter_all
  enter-node a h ih q r w e = go n-valid.formed
    where
      n : Node
      n = node_at p a

      ts : List Term
      ts = trees_after [] p

      n-valid : NodeValid a n
      n-valid = v.nodes a h

      tree : tree_at p a ≡ tree_of ts n
      tree = tree_is p v a h

      lits : n.head ≡ LIT → Enters p q a r
      lits f =
          let z = tree ∙ tree-literal ts n f in
          let g : intern lim q (lit_node n.op n.value) ≡ ok r = ap (λ y. enter lim q (spelled y)) (sym z) ∙ e in
          let x = intern-enters lim q (lit_node n.op n.value) r w (lit-valid (length q) n.op n.value) g in
          record { valid = x.valid; grown = x.grown; within = x.within; means = x.means ∙ tree-literal (trees_after [] q) (lit_node n.op n.value) refl ∙ sym z }

      ops : n.head ≡ OP → Enters p q a r
      ops f =
          let z = tree ∙ tree-operation ts n f in
          let l = n.runs in
          let g = sym (enter-children lim q n.op (spelled_runs (runs_of ts l))) ∙ ap (λ y. enter lim q (spelled y)) (sym z) ∙ e in
          let (k, fk, gk) = bind_ok (enter_all lim q (spelled_runs (runs_of ts l))) _ r g in
          let u = runs-enter l a n-valid.below ih q k w fk in
          let j = agree-joined a v (omega arith) u.agree n-valid.below n-valid.joined in
          let b = agree-below a u.agree n-valid.below in
          let same : join_runs k.runs ≡ u.list = ap join_runs u.is ∙ join-ones (length k.pool) u.list j b in
          let y : NodeValid (length k.pool) (op_node n.op k.runs) = record { formed = operation refl refl; below = rw same b; joined = rw same j } in
          let x = intern-enters lim k.pool (op_node n.op k.runs) r u.valid y gk in
          record {
            valid = x.valid;
            grown = extends-trans u.grown x.grown;
            within = x.within;
            means = x.means ∙ tree-operation (trees_after [] k.pool) (op_node n.op k.runs) refl ∙ ap (λ s. Meaning.node n.op (runs_of (trees_after [] k.pool) s)) same
                ∙ ap (Meaning.node n.op) (agree-runs u.agree) ∙ sym z;
          }

      marks : n.head ≡ VARIANTS → Enters p q a r
      marks f =
          let z = tree ∙ tree-marked ts n f in
          let l = n.runs in
          let g : enter lim q (C.marked (spelled_runs (runs_of ts l))) ≡ ok r = ap (λ y. enter lim q (spelled y)) (sym z) ∙ e in
          let (k, fk, gk) = bind_ok (enter_all lim q (spelled_runs (runs_of ts l))) _ r g in
          let u = runs-enter l a n-valid.below ih q k w fk in
          let j = agree-joined a v (omega arith) u.agree n-valid.below n-valid.joined in
          let b = agree-below a u.agree n-valid.below in
          let same : join_runs k.runs ≡ u.list = ap join_runs u.is ∙ join-ones (length k.pool) u.list j b in
          let y : NodeValid (length k.pool) (marked_node k.runs) = record { formed = marked refl refl refl; below = rw same b; joined = rw same j } in
          let x = intern-enters lim k.pool (marked_node k.runs) r u.valid y gk in
          record {
            valid = x.valid;
            grown = extends-trans u.grown x.grown;
            within = x.within;
            means = x.means ∙ tree-marked (trees_after [] k.pool) (marked_node k.runs) refl ∙ ap (λ s. Meaning.variants (runs_of (trees_after [] k.pool) s)) same
                ∙ ap Meaning.variants (agree-runs u.agree) ∙ sym z;
          }

      go : Formed n → Enters p q a r
      go (operation f z) = ops f
      go (literal f z) = lits f
      go (marked f x y) = marks f

  pub enter-below : (f a : ℕ) → a < f → a < length p → (q : Pool) (r : Interned) → PoolValid q → enter lim q (card_tree p a) ≡ ok r → Enters p q a r
  enter-below zero a k h = absurd (not-suc-le-zero k)
  enter-below (suc f) a k h = enter-node a h (λ c l. enter-below f c (omega arith) (omega arith))

-- "Reading a written card yields the same term", into any pool.
pub card-elsewhere : (lim : Limits) (t : List ℕ) (p q : Pool) (a n : ℕ) (s : List ℕ) (r : Interned) → PoolValid p → a < length p → Branched 2 (tree_at p a) → PoolValid q → write_card t p a n ≡ ok s → read_card lim t q s ≡ ok r → Enters p q a r
unfolding read_card
card-elsewhere lim t p q a n s r v h b w e f =
    let (x, y) = written_is t p a n s e in
    let g : read_text t s ≡ ok (card_tree p a) = ap (read_text t) y ∙ text-read t _ (card_tree p a) (card-text t (card_tree p a) (spelled-shaped (tree_at p a) b) x) in
    enter-below lim p v (suc a) a (omega arith) h q r w (ap (λ (z : Res Tree). z >>= enter lim q) (sym g) ∙ f)
