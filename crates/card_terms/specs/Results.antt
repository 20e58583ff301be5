-- What is reached is `enter`'s result, and `read_card`'s.
use Rattle.std.specs.Prelude.{◌≡◌, true, false, List, [], ◌∷◌, ◌++◌, ℕ, ◌+◌, ltb, leb}
use Rattle.std.proofs.Math.Path.{refl, ap}
use Rattle.std.proofs.Common.{sym, ◌∙◌}
use Rattle.std.proofs.Math.Bool.{Bool}
use Rattle.std.proofs.Math.ListN.{length}
use Rattle.spec.specs.Bytes as bytes
use Rattle.spec.specs.Bytes.{Limits, Res, ok, refused, pick, both, place}
use Rattle.spec.specs.Pool.{Pool, Node, Interned, interned, intern, op_node, lit_node, same_node, run_count}
use Rattle.formula.specs.Card as card
use Rattle.formula.specs.Card.{Tree, lit, two, many, Trees, none, also}
use Rattle.formula.specs.Lexer.{marked_node, enter, enter_all, read_text, read_card}
use Rattle.formula_laws.specs.Refusals.{text-17}
use Rattle.card_terms.specs.Words.{Reached, whole, full, stuck, ◌>>=◌, result_of, reached_by, intern_at, enter_at, enter_all_at, enter_read, enter_text}

result-bind : {A B : Type 0} (m : Reached A) (f : A → Reached B) (n : Res A) (g : A → Res B) → result_of m ≡ n → ((a : A) → result_of (f a) ≡ g a) → result_of (m >>= f) ≡ bytes.◌>>=◌ n g
result-bind (whole a) f n g e h = h a ∙ ap (λ (z : Res _). bytes.◌>>=◌ z g) e
result-bind (full p) f n g e h = ap (λ (z : Res _). bytes.◌>>=◌ z g) e
result-bind stuck f n g e h = ap (λ (z : Res _). bytes.◌>>=◌ z g) e

module _ (lim : Limits) where
  result-intern : (p : Pool) (n : Node) → result_of (intern_at lim p n) ≡ intern lim p n
  unfolding intern_at intern
  result-intern p n = go (ltb (place (same_node n) p) (length p)) (both (ltb (length p) lim.terms) (leb (run_count p + length n.runs) lim.runs))
    where
      found : Bool → Bool → Res Interned
      found a b = pick a (ok (interned p (place (same_node n) p))) (pick b (ok (interned (p ++ (n ∷ [])) (length p))) (refused 13))

      go : (a b : Bool) → result_of (reached_by p (found a b)) ≡ found a b
      go true b = refl
      go false true = refl
      go false false = refl

  mutual
    unfolding enter_at enter

    pub result-enter : (a : Tree) (p : Pool) → result_of (enter_at lim p a) ≡ enter lim p a
    result-enter (lit o v) p = result-intern p (lit_node o v)
    result-enter (two o a b) p =
        result-bind (enter_at lim p a) _ (enter lim p a) _ (result-enter a p) (λ x. result-bind (enter_at lim x.pool b) _ (enter lim x.pool b) _ (result-enter b x.pool) (λ y. result-intern y.pool (op_node o ((x.term, 1) ∷ (y.term, 1) ∷ []))))
    result-enter (many o l) p = result-bind (enter_all_at lim p l) _ (enter_all lim p l) _ (result-all l p) (λ k. result-intern k.pool (op_node o k.runs))
    result-enter (card.marked l) p = result-bind (enter_all_at lim p l) _ (enter_all lim p l) _ (result-all l p) (λ k. result-intern k.pool (marked_node k.runs))

    result-all : (l : Trees) (p : Pool) → result_of (enter_all_at lim p l) ≡ enter_all lim p l
    result-all none p = refl
    result-all (also a l) p =
        result-bind (enter_at lim p a) _ (enter lim p a) _ (result-enter a p) (λ x. result-bind (enter_all_at lim x.pool l) _ (enter_all lim x.pool l) _ (result-all l x.pool) (λ k. refl))

  -- a text read into a pool: its term entered, 13, or 17
  pub result-text : (t : List ℕ) (p : Pool) (s : List ℕ) → result_of (enter_text lim t p s) ≡ read_card lim t p s
  unfolding enter_text read_card
  result-text t p s = go (read_text t s) refl
    where
      go : (r : Res Tree) → read_text t s ≡ r → result_of (enter_read lim p r) ≡ bytes.◌>>=◌ r (enter lim p)
      go (ok a) e = result-enter a p
      go (refused n) e = ap refused (sym (text-17 t s n e))
