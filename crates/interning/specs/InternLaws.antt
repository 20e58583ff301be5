-- `intern` in the buffers: found, entered, or refused with 13.
use Rattle.std.specs.Prelude.{◌≡◌, refl, Bool, true, false, List, [], ◌∷◌, ◌++◌, ℕ, zero, suc, ◌+◌, ◌*◌, ◌-◌, ◌^◌, ◌≤◌, ◌<◌, ltb, leb, eqb, length, Some, None}
use Rattle.std.proofs.Common.{sym, ap, ◌∙◌, arith, ltb-true, ltb-false, lt-ltb, le-ltb, le-leb, eqb-true, length-append}
use Rattle.std.proofs.lemmas.Bool.{lt-leb}
use Rattle.std.proofs.lemmas.List.{length-map}
use Rattle.spec.specs.Bytes.{Limits, pick, both, place, sum, ok, refused}
use Rattle.spec.specs.Pool.{Pool, Node, node_at, same_node, run_count, interned, intern}
use Rattle.laws.specs.Tests.{both_true}
use Rattle.pools.specs.Pool.{PoolValid, NodeValid}
use Rattle.pools.specs.PoolTrees.{node-ext}
use Rattle.pools.specs.PoolIntern.{same-twos, place-passes}
use Rattle.pools.proofs.PoolIntern.{intern-there, intern-enters}
use Rattle.terms.specs.Buffers.{BUCKETS, LEAST, part, unpack, node_of, node_in, nodes_in, pool_of, part_in, length_in, first_in, count_in}
use Rattle.terms.specs.Chains.{key_of, Holds, Rooms}
use Rattle.interning.specs.Interning.{Sought, pool_after, Interning}
use Rattle.term_entry.specs.TermEntry.{enter_term, enter_runs}
use Rattle.terms.specs.PartLaws.{part_length}
use Rattle.terms.specs.PoolLaws.{pool-length, pool-at}
use Rattle.term_entry.specs.EnterLaws.{adds, pool-new, holds-new}

same-node : (x y : Node) → same_node x y ≡ true → x ≡ y
same-node x y e =
    let (a, f) = (both_true (eqb x.head y.head) _).0 e in
    let (b, g) = (both_true (eqb x.op y.op) _).0 f in
    let (c, d) = (both_true (eqb x.value y.value) _).0 g in
    node-ext x y (eqb-true _ _ a) (eqb-true _ _ b) (eqb-true _ _ c) (same-twos x.runs y.runs d)

-- a node that no entry is: entered where there is room
new-place : (p : Pool) (n : Node) → ((i : ℕ) → i < length p → node_at p i ≡ n → ⊥) → length p ≤ place (same_node n) p
new-place p n d = go (ltb (place (same_node n) p) (length p)) refl
  where
    go : (t : Bool) → ltb (place (same_node n) p) (length p) ≡ t → length p ≤ place (same_node n) p
    go true e = let l = ltb-true _ _ e in absurd (d (place (same_node n) p) l (sym (same-node n _ (place-passes (same_node n) _ p l))))
    go false e = ltb-false _ _ e

pub intern-new : (lim : Limits) (p : Pool) (n : Node) → ((i : ℕ) → i < length p → node_at p i ≡ n → ⊥)
    → intern lim p n ≡ pick (both (ltb (length p) lim.terms) (leb (run_count p + length n.runs) lim.runs)) (ok (interned (p ++ (n ∷ [])) (length p))) (refused 13)
unfolding intern
intern-new lim p n d = rw (le-ltb _ _ (new-place p n d)) refl

-- ---- the runs are counted by the place where the next ones begin
run_count-snoc : (p : Pool) (n : Node) → run_count (p ++ (n ∷ [])) ≡ run_count p + length n.runs
unfolding run_count sum
run_count-snoc [] n = omega arith
run_count-snoc (m ∷ p) n = omega (arith, run_count-snoc p n)

pub runs-counted : (terms runs : List ℕ) → Holds terms runs → (k : ℕ) → k ≤ count_in terms → run_count (nodes_in terms runs k) ≡ first_in terms k
unfolding nodes_in run_count sum
runs-counted terms runs H zero q = sym H.begins
runs-counted terms runs H (suc k) q =
    let z : k + 1 ≡ suc k = omega arith in
    let l : length (node_in terms runs k).runs ≡ length_in terms k = length-map (part_in terms runs k) unpack ∙ part_length runs (first_in terms k) (length_in terms k) in
    let r : first_in terms k ≤ first_in terms (k + 1) = H.rises k (omega arith) in
    run_count-snoc (nodes_in terms runs k) (node_in terms runs k) ∙ rw (l, runs-counted terms runs H k (omega arith)) (rw (← z) (omega arith))

-- ---- the ways out of `intern`
module _ (lim : Limits) (terms runs list : List ℕ) (n h v : ℕ) (H : Holds terms runs) where
  abbrev p : Pool
  p = pool_of terms runs

  abbrev node : Node
  node = node_of h v (part list 0 n)

  node-runs : length node.runs ≡ n
  node-runs = length-map (part list 0 n) unpack ∙ part_length list 0 n

  counted : run_count p ≡ first_in terms (count_in terms)
  counted = runs-counted terms runs H (count_in terms) (omega arith)

  pub intern-found : (r : ℕ) → 0 < r → Sought terms runs node r → Interning lim terms runs list n h v terms runs (Some (r - 1))
  intern-found r z s =
      let (l, e) = s.there z in
      let m : r - 1 < count_in terms = omega arith in
      let q : intern lim p node ≡ ok (interned p (r - 1)) = intern-there lim p node (r - 1) H.valid (omega (arith, pool-length terms runs)) (pool-at terms runs (r - 1) m ∙ e) in
      let g : ltb (length p) (length p) ≡ false = le-ltb (length p) (length p) (omega arith) in record {
        answer = rw q refl;
        pool = rw q refl;
        holds = H;
        terms_are = rw (q, g) refl;
        runs_are = rw (q, g) refl;
      }

  absent : Sought terms runs node 0 → (i : ℕ) → i < length p → node_at p i ≡ node → ⊥
  absent s i k e = let m : i < count_in terms = omega (arith, pool-length terms runs) in s.absent refl i m (sym (pool-at terms runs i m) ∙ e)

  refused-keeps : intern lim p node ≡ refused 13 → Interning lim terms runs list n h v terms runs None
  refused-keeps q =
      let g : ltb (length p) (length p) ≡ false = le-ltb (length p) (length p) (omega arith) in record {
        answer = rw q refl;
        pool = rw q refl;
        holds = H;
        terms_are = rw (q, g) refl;
        runs_are = rw (q, g) refl;
      }

  pub intern-full-terms : Sought terms runs node 0 → lim.terms ≤ count_in terms → Interning lim terms runs list n h v terms runs None
  intern-full-terms s k =
      let l : lim.terms ≤ length p = omega (arith, pool-length terms runs) in
      refused-keeps (intern-new lim p node (absent s) ∙ rw (le-ltb (length p) lim.terms l) refl)

  pub intern-full-runs : Sought terms runs node 0 → count_in terms < lim.terms → lim.runs < first_in terms (count_in terms) + n → Interning lim terms runs list n h v terms runs None
  intern-full-runs s k f =
      let l : length p < lim.terms = omega (arith, pool-length terms runs) in
      let m : lim.runs < run_count p + length node.runs = omega (arith, counted, node-runs) in
      refused-keeps (intern-new lim p node (absent s) ∙ rw (lt-ltb (length p) lim.terms l, lt-leb (run_count p + length node.runs) lim.runs m) refl)

  pub intern-entered : Sought terms runs node 0 → Rooms lim terms runs → count_in terms < lim.terms → first_in terms (count_in terms) + n ≤ lim.runs → sum (part list 0 n) < 2 ^ 64 → NodeValid (count_in terms) node → n ≤ length list → (b : ℕ) → b ≡ key_of h v (part list 0 n) → b < BUCKETS
      → Interning lim terms runs list n h v (enter_term terms h v n b) (enter_runs terms runs list n) (Some (count_in terms))
  intern-entered s r k f light w long b own small =
      let room : LEAST + (count_in terms + 1) * 4 ≤ length terms = omega (arith, r.long) in
      let fits : first_in terms (count_in terms) + n ≤ length runs = omega (arith, r.roomy) in
      let l : length p < lim.terms = omega (arith, pool-length terms runs) in
      let m : run_count p + length node.runs ≤ lim.runs = omega (arith, counted, node-runs) in
      let q : intern lim p node ≡ ok (interned (p ++ (node ∷ [])) (length p)) = intern-new lim p node (absent s) ∙ rw (lt-ltb (length p) lim.terms l, le-leb (run_count p + length node.runs) lim.runs m) refl in
      let A = adds terms runs list h v n b room fits small long in
      let new = pool-new terms runs list h v n b H own (enter_term terms h v n b) (enter_runs terms runs list n) A in
      let valid : PoolValid (pool_of (enter_term terms h v n b) (enter_runs terms runs list n)) = rw new (intern-enters lim p node _ H.valid (rw (pool-length terms runs) w) q).valid in
      let g : ltb (length p) (length (p ++ (node ∷ []))) ≡ true = lt-ltb (length p) _ (omega (arith, length-append p (node ∷ []))) in record {
        answer = rw (q, pool-length terms runs) refl;
        pool = new ∙ sym (ap (pool_after p) q);
        holds = holds-new terms runs list h v n b H own (enter_term terms h v n b) (enter_runs terms runs list n) A small (omega (arith, r.few)) (omega (arith, r.ends)) room fits light valid;
        terms_are = rw (q, g, ← own) refl;
        runs_are = rw (q, g) refl;
      }
