-- Interning: a node that is there keeps its number; a new one is entered at the end.
use Rattle.std.specs.Prelude.{◌≡◌, ◌⊎◌, Bool, ltb, leb, eqb}
use Rattle.std.proofs.Math.Path.{refl}
use Rattle.std.proofs.Common.{sym, ap, ◌∙◌, inl, inr, eq-or-lt_of_le, arith, eqb-true, eq-eqb, ltb-true, ltb-false, lt-ltb, length-append}
use Rattle.std.proofs.Math.Bool.{true, false}
use mathlib.Core.List.{List, [], ◌∷◌, ◌++◌}
use Prim.Native.Nat.{ℕ, suc, ◌+◌, ◌<◌}
use Rattle.std.proofs.Math.ListN.{length, get_or-append}
use Rattle.spec.specs.Bytes.{Limits, pick, both, place, Two, same_twos, ok, refused}
use Rattle.spec.specs.Pool.{Node, Pool, node_at, same_node, run_count, Interned, interned, intern}
use Rattle.spec.specs.Meaning.{tree_of, trees_after}
use Rattle.laws.specs.Tests.{both_true}
use Rattle.pools.specs.Pool.{NodeValid, PoolValid, get_d-last, tree-last}
use Rattle.pools.specs.PoolTrees.{node-ext, tree_is}
use Rattle.spec.specs.Pairs.{same_refl}
use Rattle.laws.specs.Results.{ok-inj, refused-ok}
use Rattle.pools.specs.PoolIntern.{same-twos, place-passes, place-first, extends-refl, Interns}

twos-same : (l : List Two) → same_twos l l ≡ true
unfolding same_twos
twos-same [] = refl
twos-same (p ∷ l) = rw (same_refl p, same_twos) (twos-same l)

same-node : (x y : Node) → same_node x y ≡ true → x ≡ y
same-node x y e =
    let (a, f) = (both_true (eqb x.head y.head) _).0 e in
    let (b, g) = (both_true (eqb x.op y.op) _).0 f in
    let (c, d) = (both_true (eqb x.value y.value) _).0 g in
    node-ext x y (eqb-true _ _ a) (eqb-true _ _ b) (eqb-true _ _ c) (same-twos x.runs y.runs d)

node-same : (x : Node) → same_node x x ≡ true
node-same x = rw (eq-eqb x.head x.head refl, eq-eqb x.op x.op refl, eq-eqb x.value x.value refl) (twos-same x.runs)

abbrev no_node : Node
no_node = record { head = 0; op = 0; value = 0; runs = [] }

-- a node that is not there makes the pool longer by one
pub added : (p : Pool) (n : Node) → PoolValid p → NodeValid (length p) n → ltb (place (same_node n) p) (length p) ≡ false → Interns p n (interned (p ++ (n ∷ [])) (length p))
added p n v w absent = record {
  valid = record { nodes = nodes; apart = apart };
  grown = record { later = n ∷ []; is = refl };
  within = omega (arith, length-append p (n ∷ []));
  entry = get_d-last p n _;
  means = tree-last p n;
}
  where
    new : (i : ℕ) → i < length p → node_at p i ≡ n → ⊥
    new i l q = let f = place-first (same_node n) no_node p i l (rw q (node-same n)) in let g = ltb-false (place (same_node n) p) (length p) absent in omega arith

    long : length (p ++ (n ∷ [])) ≡ suc (length p)
    long = omega (arith, length-append p (n ∷ []))

    old : (i : ℕ) → i < length p → node_at (p ++ (n ∷ [])) i ≡ node_at p i
    old i h = get_or-append p (n ∷ []) _ i h

    last : (i : ℕ) → i ≡ length p → node_at (p ++ (n ∷ [])) i ≡ n
    last i e = rw e (get_d-last p n _)

    nodes : (i : ℕ) → i < length (p ++ (n ∷ [])) → NodeValid i (node_at (p ++ (n ∷ [])) i)
    nodes i h = go (eq-or-lt_of_le {n = i} {m = length p} (omega (arith, long)))
      where
        go : (i ≡ length p) ⊎ (i < length p) → NodeValid i (node_at (p ++ (n ∷ [])) i)
        go (inl e) = rw (last i e, e) w
        go (inr l) = rw (old i l) (v.nodes i l)

    apart : (i j : ℕ) → i < length (p ++ (n ∷ [])) → j < length (p ++ (n ∷ [])) → node_at (p ++ (n ∷ [])) i ≡ node_at (p ++ (n ∷ [])) j → i ≡ j
    apart i j h k e = go (eq-or-lt_of_le {n = i} {m = length p} (omega (arith, long))) (eq-or-lt_of_le {n = j} {m = length p} (omega (arith, long)))
      where
        go : (i ≡ length p) ⊎ (i < length p) → (j ≡ length p) ⊎ (j < length p) → i ≡ j
        go (inl a) (inl b) = omega arith
        go (inl a) (inr b) = absurd (new j b (sym (old j b) ∙ sym e ∙ last i a))
        go (inr a) (inl b) = absurd (new i a (sym (old i a) ∙ e ∙ last j b))
        go (inr a) (inr b) = v.apart i j a b (sym (old i a) ∙ e ∙ old j b)

-- Interning keeps the pool valid and gives a number that means the node.
pub intern-enters : (lim : Limits) (p : Pool) (n : Node) (r : Interned) → PoolValid p → NodeValid (length p) n → intern lim p n ≡ ok r → Interns p n r
unfolding intern
intern-enters lim p n r v w e = go (ltb (place (same_node n) p) (length p)) refl (both (ltb (length p) lim.terms) (leb (run_count p + length n.runs) lim.runs)) e
  where
    go : (a : Bool) → ltb (place (same_node n) p) (length p) ≡ a → (b : Bool) → pick a (ok (interned p (place (same_node n) p))) (pick b (ok (interned (p ++ (n ∷ [])) (length p))) (refused 13)) ≡ ok r → Interns p n r
    go true h b e =
        let l = ltb-true _ _ h in
        let same : node_at p (place (same_node n) p) ≡ n = sym (same-node n _ (place-passes (same_node n) no_node p l)) in
        rw (← ok-inj e) (record { valid = v; grown = extends-refl p; within = l; entry = same; means = tree_is p v (place (same_node n) p) l ∙ ap (tree_of (trees_after [] p)) same })
    go false h true e = rw (← ok-inj e) (added p n v w h)
    go false h false e = absurd (refused-ok e)

-- Interning a node that is there gives its number.
pub intern-there : (lim : Limits) (p : Pool) (n : Node) (a : ℕ) → PoolValid p → a < length p → node_at p a ≡ n → intern lim p n ≡ ok (interned p a)
unfolding intern
intern-there lim p n a v h e =
    let f = place-first (same_node n) no_node p a h (rw e (node-same n)) in
    let l : place (same_node n) p < length p = omega arith in
    let same : place (same_node n) p ≡ a = v.apart (place (same_node n) p) a l h (sym (same-node n _ (place-passes (same_node n) no_node p l)) ∙ sym e) in
    rw (lt-ltb _ _ l, same) refl
