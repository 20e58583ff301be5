-- A term entered over a list of runs, or without any, and put on the stack.
use Rattle.std.specs.Prelude.{◌≡◌, List, map, ℕ, ◌+◌, ◌/◌, ◌%◌, ◌^◌, ◌≤◌, ◌<◌, length, drop, set, Option, Some, None}
use Rattle.std.proofs.Math.Path.{refl}
use Rattle.std.proofs.Common.{sym, ap, ◌∙◌, inl, inr, arith}
use Rattle.spec.specs.Bytes.{Limits, Two, Res, ok, refused, sum}
use Rattle.spec.specs.Pool.{Pool, Node, Interned, intern, lit_node}
use Rattle.pools.specs.Pool.{RunsBelow, NodeValid, Formed, operation, marked, join-below, join-joined, lit-valid}
use Rattle.pools.proofs.PoolIntern.{intern-enters}
use Rattle.terms.specs.Buffers.{count_in, part, unpack, node_of, pool_of}
use Rattle.terms.specs.Chains.{Holds}
use Rattle.terms.specs.PartLaws.{part-front}
use Rattle.terms.specs.PoolLaws.{pool-length}
use Rattle.joining.specs.Joining.{Begins, joined_in}
use Rattle.joining.specs.JoinLaws.{joined-runs, join-sum}
use Rattle.interning.specs.Interning.{entered_of, pool_after, Interning}
use Rattle.interning.specs.GrowLaws.{grows-intern}
use Rattle.card_terms.specs.Words.{intern_at, reached_by}
use Rattle.card_terms.specs.Reading.{HeadFormed, head_node, reached_term, TermIn, Enters, Placed}

-- ---- the node
head-formed : (h : ℕ) (l : List Two) → HeadFormed h → Formed (head_node h l)
head-formed h l (inl k) = operation (let e : h / 64 ≡ 0 = omega arith in e) refl
head-formed h l (inr k) = marked (let e : h / 64 ≡ 2 = omega arith in e) (let e : h % 64 ≡ 0 = omega arith in e) refl

head-valid : (N h : ℕ) (l : List Two) → HeadFormed h → RunsBelow N l → NodeValid N (head_node h l)
head-valid N h l f b = record { formed = head-formed h l f; below = join-below N l b; joined = join-joined l }

module _ (list : List ℕ) (n : ℕ) (list₂ : List ℕ) (m : ℕ) (J : Begins (joined_in list n) list list₂ m) where
  joined : part list₂ 0 m ≡ joined_in list n
  joined = rw J.numbers (part-front (joined_in list n) (drop (length (joined_in list n)) list) m J.many)

  pub items-light : sum (part list 0 n) < 2 ^ 64 → sum (part list₂ 0 m) < 2 ^ 64
  items-light h = omega (arith, ap sum joined, join-sum list n)

  pub items-node : (h : ℕ) → node_of h 0 (part list₂ 0 m) ≡ head_node h (map unpack (part list 0 n))
  items-node h = ap (λ (l : List Two). record { head = h / 64; op = h % 64; value = 0; runs = l }) (ap (map unpack) joined ∙ joined-runs list n)

  pub items-valid : (N h : ℕ) → HeadFormed h → RunsBelow N (map unpack (part list 0 n)) → NodeValid N (node_of h 0 (part list₂ 0 m))
  items-valid N h f b = rw (items-node h) (head-valid N h (map unpack (part list 0 n)) f b)

-- a literal's node
pub literal-node : (h o v : ℕ) (l : List ℕ) → h ≡ 64 + o → o < 64 → node_of h v (part l 0 0) ≡ lit_node o v
unfolding part
literal-node h o v l e k = let a : h / 64 ≡ 1 = omega arith in let b : h % 64 ≡ o = omega arith in rw (a, b) refl

pub literal-valid : (N h o v : ℕ) (l : List ℕ) → h ≡ 64 + o → o < 64 → NodeValid N (node_of h v (part l 0 0))
literal-valid N h o v l e k = rw (literal-node h o v l e k) (lit-valid N o v)

pub none-light : (l : List ℕ) → sum (part l 0 0) < 2 ^ 64
unfolding part sum
none-light l = omega arith

-- ---- it is entered
module _ (lim : Limits) {terms runs list : List ℕ} {n h v : ℕ} {terms' runs' : List ℕ} {r : Option ℕ} (x : Node) (e : node_of h v (part list 0 n) ≡ x) (H : Holds terms runs) (fine : NodeValid (count_in terms) (node_of h v (part list 0 n))) (k : n ≤ length list) (I : Interning lim terms runs list n h v terms' runs' r) where
  abbrev p : Pool
  p = pool_of terms runs

  abbrev node : Node
  node = node_of h v (part list 0 n)

  reached-as : (m : Res Interned) → r ≡ entered_of m → pool_of terms' runs' ≡ pool_after p m → reached_term r (pool_of terms' runs') ≡ reached_by p m
  reached-as (ok y) a q = rw (a, q) refl
  reached-as (refused c) a q = rw (a, q) refl

  within-as : (m : Res Interned) → intern lim p node ≡ m → r ≡ entered_of m → pool_of terms' runs' ≡ pool_after p m → TermIn (count_in terms') r
  within-as (ok y) z a q = rw a (rw (ap length (sym q) ∙ pool-length terms' runs') at (intern-enters lim p node y H.valid (rw (pool-length terms runs) fine) z).within)
  within-as (refused c) z a q = rw a tt

  pub enters-of : Enters lim terms runs terms' runs' x r
  unfolding intern_at
  enters-of = record {
    reached = rw (← e) (reached-as (intern lim p node) I.answer I.pool);
    grows = rw I.pool (grows-intern lim k I);
    within = within-as (intern lim p node) refl I.answer I.pool;
  }

-- ---- and put on the stack
pub term-small : {r : Option ℕ} {a n : ℕ} → r ≡ Some a → TermIn n r → a < n
term-small {r} {a} {n} e h = rw e at h

pub placed-term : (frames : List ℕ) (to : ℕ) {r : Option ℕ} {a x : ℕ} {frames' : List ℕ} → r ≡ Some a → x ≡ a → frames' ≡ set frames to (16384 + x) → Placed frames to r frames' (Some (to + 1))
placed-term frames to e f g = rw (e, ← f) (g, refl)

pub placed-full : (frames : List ℕ) (to : ℕ) {r : Option ℕ} → r ≡ None → Placed frames to r frames None
placed-full frames to e = rw e (refl, refl)
