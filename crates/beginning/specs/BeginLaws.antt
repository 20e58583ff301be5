-- `begin`, from what emptying the pool, the root's starting term and building say.
use Rattle.std.specs.Prelude.{◌≡◌, refl, List, [], ℕ, ◌≤◌, length, replicate, Option, Some, None}
use Rattle.std.proofs.Common.{sym, ap, ap₂, ◌∙◌, arith}
use Rattle.spec.specs.Bytes.{Two, Limits, Res, ok, refused, Checked, passed, cut_short}
use Rattle.spec.specs.Image.{Tables}
use Rattle.spec.specs.Pairs as P
use Rattle.spec.specs.Graph.{build, skipped_in}
use Rattle.spec.specs.Pool.{Pool, Interned, starting_term}
use Rattle.laws.specs.Results.{refused-ok}
use Rattle.pools.specs.Refused.{start-only}
use Rattle.steps.specs.Graph.{build-refused}
use Rattle.budget.specs.Budget.{budget_of}
use Rattle.budget.specs.declared.Budget.{Budget}
use Rattle.terms.specs.Buffers.{LEAST, pool_of}
use Rattle.terms.specs.Emptying.{emptied, emptied-pool, emptied-length}
use Rattle.best_terms.specs.Building.{full-told, term_told}
use Rattle.best_terms.specs.Starting.{Starts}
use Rattle.graph.specs.Building.{built_of, Builds}
use Rattle.beginning.specs.Beginning.{begun_of, Begins}
use Rattle.prepared.specs.declared.Begun.{Begun}
use Rattle.prepared.specs.declared.Begun.TheVariants as B
use Rattle.graph.specs.declared.Built.{Built}
use Rattle.graph.specs.declared.Built.TheVariants as G

-- ---- building's answer
built-full : (k : ℕ) (g : Res (Checked (List Two))) → None ≡ built_of k g → (n : ℕ) × (g ≡ refused n)
built-full k (ok (passed ps c)) e = absurd (let z : ◌≡◌ {A = ℕ} 0 1 = cc in omega arith)
built-full k (ok cut_short) e = absurd (let z : ◌≡◌ {A = ℕ} 0 1 = cc in omega arith)
built-full k (refused n) e = (n, refl)

built-cut : (k j : ℕ) (a : Interned) (g : Res (Checked (List Two))) → Some (G.Cut j) ≡ built_of k g → B.Cut a.term j ≡ begun_of k (ok a) g
built-cut k j a (ok (passed ps c)) e = absurd (let z : ◌≡◌ {A = ℕ} 0 1 = cc in omega arith)
built-cut k j a (ok cut_short) e = let x : j ≡ k = cc in ap (λ (u : ℕ). B.Cut a.term u) x
built-cut k j a (refused n) e = absurd (let z : ◌≡◌ {A = ℕ} 0 1 = cc in omega arith)

built-all : (k j : ℕ) (a : Interned) (g : Res (Checked (List Two))) (n : ℕ) (b : Budget) → Some (G.All n b j) ≡ built_of k g → B.All a.term n b j ≡ begun_of k (ok a) g
built-all k j a (ok (passed ps c)) n b e =
    let x : n ≡ length ps = cc in
    let y : b ≡ budget_of c = cc in
    let z : j ≡ k = cc in
    ap₂ (λ (u : ℕ) (v : Budget). B.All a.term u v j) x y ∙ ap (λ (u : ℕ). B.All a.term (length ps) (budget_of c) u) z
built-all k j a (ok cut_short) n b e = absurd (let z : ◌≡◌ {A = ℕ} 0 1 = cc in omega arith)
built-all k j a (refused m) n b e = absurd (let z : ◌≡◌ {A = ℕ} 0 1 = cc in omega arith)

module _ (lim : Limits) (t : Tables) (p : Two) (budget w : ℕ) (graph ts us best ts' us' best' : List ℕ) (long : LEAST ≤ length ts) where
  -- the pool was empty
  from-none : starting_term lim t (pool_of (emptied ts) us) p ≡ starting_term lim t [] p
  from-none = ap (λ (z : Pool). starting_term lim t z p) (emptied-pool ts us)

  pub begin-refused : Starts lim t p (emptied ts) us best ts' us' best' None → Begins lim t p budget w graph ts us graph ts' us' (B.Stopped 13)
  begin-refused X =
      let (n, e) = full-told (starting_term lim t (pool_of (emptied ts) us) p) X.answer in
      let f : starting_term lim t [] p ≡ refused n = sym from-none ∙ e in
      let k : n ≡ 13 = start-only lim t [] p n f in
      let c = X.cleared n e in
      record {
        answer = rw (f, k) refl;
        graph = rw f refl;
        grows = λ a z. absurd (refused-ok (sym f ∙ z));
        cleared = λ m z. (c.0 ∙ ap {B = List ℕ} (λ (i : ℕ). replicate i 0) (emptied-length ts us long), c.1);
      }

  module _ (x : ℕ) (X : Starts lim t p (emptied ts) us best ts' us' best' (Some x)) (graph' : List ℕ) where
    begun : (r : Begun) (b : Option Built) → Builds w (skipped_in lim t p budget) (build lim t p budget) graph graph' b → ((a : Interned) → a.term ≡ x → r ≡ begun_of (skipped_in lim t p budget) (ok a) (build lim t p budget)) → Begins lim t p budget w graph ts us graph' ts' us' r
    begun r b Y z =
        let (a, e, f) = term_told (starting_term lim t (pool_of (emptied ts) us) p) x X.answer in
        let s : starting_term lim t [] p ≡ ok a = sym from-none ∙ e in
        record {
          answer = z a f ∙ ap (λ (y : Res Interned). begun_of (skipped_in lim t p budget) y (build lim t p budget)) (sym s);
          graph = rw s Y.graph;
          grows = λ d q. X.grows d (from-none ∙ q);
          cleared = λ n q. absurd (refused-ok (sym q ∙ s));
        }

    pub begin-full : Builds w (skipped_in lim t p budget) (build lim t p budget) graph graph' None → Begins lim t p budget w graph ts us graph' ts' us' (B.Stopped 12)
    begin-full Y = begun (B.Stopped 12) None Y (λ a f. full a)
      where
        full : (a : Interned) → B.Stopped 12 ≡ begun_of (skipped_in lim t p budget) (ok a) (build lim t p budget)
        full a =
            let (n, q) = built-full (skipped_in lim t p budget) (build lim t p budget) Y.answer in
            let k : n ≡ 12 = (build-refused (P.pairs t) lim.pairs p budget n q).0 in
            rw (q, k) refl

    pub begin-cut : (k : ℕ) → Builds w (skipped_in lim t p budget) (build lim t p budget) graph graph' (Some (G.Cut k)) → Begins lim t p budget w graph ts us graph' ts' us' (B.Cut x k)
    begin-cut k Y = begun (B.Cut x k) (Some (G.Cut k)) Y (λ a f. ap (λ (y : ℕ). B.Cut y k) (sym f) ∙ built-cut (skipped_in lim t p budget) k a (build lim t p budget) Y.answer)

    pub begin-all : (n : ℕ) (b : Budget) (k : ℕ) → Builds w (skipped_in lim t p budget) (build lim t p budget) graph graph' (Some (G.All n b k)) → Begins lim t p budget w graph ts us graph' ts' us' (B.All x n b k)
    begin-all n b k Y = begun (B.All x n b k) (Some (G.All n b k)) Y (λ a f. ap (λ (y : ℕ). B.All y n b k) (sym f) ∙ built-all (skipped_in lim t p budget) k a (build lim t p budget) n b Y.answer)
