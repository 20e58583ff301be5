-- "18 for an operation in the term without a proper sign of its own and precedence": by a table's bindings.
use Rattle.std.specs.Prelude.{◌≡◌, refl, ◌≢◌, ◌↔◌, Bool, true, false, List, ℕ, ◌/◌, ◌%◌, ◌≤◌, ◌<◌, ltb, eqb, length, get_or}
use Rattle.std.proofs.Common.{sym, ap, ◌∙◌, eq-eqb, ne_eqb, lt-ltb, le-leb}
use native.Mathlib.Omega.{arith}
use Rattle.spec.specs.Bytes.{pick, all}
use Rattle.spec.specs.Pool.{Pool, node_at, VARIANTS}
use Rattle.laws.specs.Tests.{clash}
use Rattle.pools.specs.Pool.{Formed, operation, literal, marked, PoolValid}
use Rattle.formula.specs.Card.{prec_of, proper, binding_of, bindings, proper_mark, write}
use Rattle.formula.specs.Lexer.{card_tree}
use Rattle.formula_laws.specs.Terms.{written_below}
use Rattle.formula_laws.specs.Signed.{InTerm, itself, below, node_proper, nodes-proper, card-proper}
use Rattle.terms.specs.Buffers.{head_in, value_in, node_in, pool_of, count_in}
use Rattle.terms.specs.Chains.{Holds}
use Rattle.terms.specs.PoolLaws.{pool-length, pool-at}
use Rattle.sign_judge.specs.SignTests.{bindings-at}
use Rattle.card_forms.specs.Forms.{AllSigned}
use Rattle.card_forms.specs.RunLaws.{valid}
use Rattle.card_forms.specs.FormLaws.{placed, operation-proper}
use Rattle.card_judge.specs.Bound.{bound_node, AllBound}

-- an operation is bound where it has a proper sign of its own and precedence
binding-some : (t : List ℕ) (o : ℕ) → ltb 0 (binding_of t o) ≡ proper t o
binding-some t o = go (proper t o) refl
  where
    go : (x : Bool) → proper t o ≡ x → ltb 0 (pick x (prec_of t o) 0) ≡ x
    go true e = lt-ltb 0 (prec_of t o) (placed t o e).some
    go false e = refl

-- a node in the term is a node of the pool
in-pool : (p : Pool) → PoolValid p → {a c : ℕ} → InTerm p a c → a < length p → c < length p
in-pool p v itself h = h
in-pool p v (below {a = a} {b = d} i j) h = in-pool p v j (omega (arith, written_below a (node_at p a).runs (v.nodes a h).below d i))

module _ (t terms runs b : List ℕ) (q : b ≡ bindings t) (H : Holds terms runs) (fits : (i : ℕ) → value_in terms i ≤ 4294967295) where
  node-bound : (c : ℕ) → c < count_in terms → bound_node b (node_at (pool_of terms runs) c) ≡ node_proper t (node_at (pool_of terms runs) c)
  unfolding node_proper proper_mark
  node-bound c h = rw (pool-at terms runs c h) (go (valid terms runs H c h).formed)
    where
      h64 : head_in terms c % 64 < 64
      h64 = omega arith

      literal-true : head_in terms c / 64 ≡ 1 → node_proper t (node_in terms runs c) ≡ true
      literal-true e = rw (e, node_proper, le-leb (value_in terms c) 4294967295 (fits c), le-leb (head_in terms c % 64) 63 (omega arith)) refl

      marked-true : head_in terms c / 64 ≡ 2 → node_proper t (node_in terms runs c) ≡ true
      marked-true e = rw (e, node_proper) (inner (eqb (head_in terms c / 64) VARIANTS) (ap (λ z. eqb z VARIANTS) e))
        where
          inner : (x : Bool) → x ≡ true → (elim x [ true ↦ true | false ↦ proper t (head_in terms c % 64) ]) ≡ true
          inner true f = refl
          inner false f = absurd (clash (sym f))

      free : head_in terms c / 64 ≢ 0 → true ≡ bound_node b (node_in terms runs c)
      free e = rw (ne_eqb (head_in terms c / 64) 0 e) refl

      go : Formed (node_in terms runs c) → bound_node b (node_in terms runs c) ≡ node_proper t (node_in terms runs c)
      go (operation e z) = rw (eq-eqb (head_in terms c / 64) 0 e) (ap (λ (y : List ℕ). ltb 0 (get_or y (head_in terms c % 64) 0)) q ∙ ap (ltb 0) (bindings-at t (head_in terms c % 64) h64) ∙ binding-some t (head_in terms c % 64)) ∙ sym (operation-proper t (node_in terms runs c) e)
      go (literal e z) = sym (free (λ y. absurd (omega arith))) ∙ sym (literal-true e)
      go (marked e z u) = sym (free (λ y. absurd (omega arith))) ∙ sym (marked-true e)

  module _ (root : ℕ) (h : root < count_in terms) where
    inside : (c : ℕ) → InTerm (pool_of terms runs) root c → c < count_in terms
    inside c j = rw (pool-length terms runs) at (in-pool (pool_of terms runs) H.valid j (rw (pool-length terms runs) h))

    pub bound-signed : AllBound b (pool_of terms runs) root → AllSigned t (pool_of terms runs) root
    bound-signed A c j = sym (node-bound c (inside c j)) ∙ A c j

    signed-bound : AllSigned t (pool_of terms runs) root → AllBound b (pool_of terms runs) root
    signed-bound A c j = node-bound c (inside c j) ∙ A c j

    -- what `all_signed` answers
    pub card-signed : {r : Bool} → r ≡ true ↔ AllBound b (pool_of terms runs) root → r ≡ all (proper_mark t) (write t 0 (card_tree (pool_of terms runs) root))
    card-signed {r = r} e = go r (all (proper_mark t) (write t 0 (card_tree (pool_of terms runs) root))) (λ k. card-proper t (pool_of terms runs) H.valid root l (bound-signed (e.0 k))) (λ k. e.1 (signed-bound (nodes-proper t (pool_of terms runs) H.valid root l k)))
      where
        l : root < length (pool_of terms runs)
        l = rw (pool-length terms runs) h

        go : (x y : Bool) → (x ≡ true → y ≡ true) → (y ≡ true → x ≡ true) → x ≡ y
        go true y f g = sym (f refl)
        go false true f g = g refl
        go false false f g = refl
