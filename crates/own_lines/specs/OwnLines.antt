-- (02, Paper 1) The lines of a listing that our own merge writes are read back to the same term, and have its card.
use Rattle.std.specs.Prelude.{◌≡◌, refl, List, map, ℕ, ◌-◌, ◌≤◌, ◌<◌, length, get_or}
use Rattle.std.proofs.Common.{ap, ◌∙◌, arith}
use Rattle.spec.specs.Bytes.{In, here, there, Two, sum, Limits, ok}
use Rattle.spec.specs.Image.{Tables, image_of}
use Rattle.spec.specs.Pool.{Pool, Node, node_at, TERMS, RUNS, run_count, expanded_length}
use Rattle.spec.specs.Run.{Outcome, limits_for, run_of}
use Rattle.spec.specs.Listing.{subterms, lines_of}
use Rattle.spec.specs.declared.Caller.{Caller}
use Rattle.spec.specs.Meaning.{Term, Branched, tree_at}
use Rattle.laws.specs.Lists.{map-map, length-map, get_in, get-map}
use Rattle.laws.specs.Valid.{Valid}
use Rattle.laws.specs.Accepted as A
use Rattle.laws.specs.BestMembers.{IsPair}
use Rattle.pools.specs.Pool.{PoolValid}
use Rattle.lgg.specs.Limits.{limit-most}
use Rattle.readings.specs.Readings.{run-pool, run-quality}
use Rattle.readings.specs.Readings as readings
use Rattle.formula.specs.Lexer.{write_card}
use Rattle.formula.specs.Lines.{read_lines, card_of_lines}
use Rattle.formula_laws.specs.LineTerms.{Read, Lined}
use Rattle.own_lines.specs.Loading.{read-lines}
use Rattle.own_lines.specs.Renumbering.{Built, walk-built, subterms-all, root-last, by_place, renumber, nodes_of, built-within, Renumbered, renumbered, no-more-terms, no-more-runs}
use Rattle.own_lines.specs.Text.{own-text}
use Rattle.own_lines.specs.Sizes.{Sized, child-sized, counts-sized, two-branches}
use Rattle.own_lines.specs.Tidy.{Bytes, Narrow, image-narrow, Plain, Tidy, run-tidy}
use Rattle.own_lines.specs.Numbers.{run-reports}

-- an accepted image of bytes
pub accepted : (image : List ℕ) (t : Tables) → Bytes image → image_of image ≡ ok t → Valid t × Narrow t
accepted image t b e = (A.valid image t e, rw ((A.accepted image t).0 e).0 (image-narrow image b))

-- the lines s are read back to the term a
pub record ReadBack (lim : Limits) (s : List ℕ) (a : Term) : Type 0 where
  pub lines : Pool
  pub read : read_lines lim s ≡ ok lines
  pub some : 0 < length lines
  pub means : tree_at lines (length lines - 1) ≡ a

-- the card of lines is that of their term
pub card-of : (lim : Limits) (s : List ℕ) (p : Pool) (a : ℕ) → ReadBack lim s (tree_at p a) → (t : List ℕ) (room : ℕ) → card_of_lines lim t s room ≡ write_card t p a room
unfolding card_of_lines write_card
card-of lim s p a R t room = rw (R.read, R.means) refl

runs-within : (p : Pool) (n : Node) → In n p → length n.runs ≤ run_count p
unfolding run_count
runs-within p n i = go p i
  where
    go : (p : Pool) → In n p → length n.runs ≤ sum (map (λ m. length m.runs) p)
    go p (here {l = q}) = omega arith
    go p (there {l = q} i) = omega (arith, go q i)

-- ---- what the lines need of a term of a pool
pub record Printable (p : Pool) (a : ℕ) : Type 0 where
  pub valid : PoolValid p
  pub within : a < length p
  pub few : length p ≤ TERMS
  pub few_runs : run_count p ≤ RUNS
  pub plain : (n : Node) → In n p → Plain n
  pub sized : Sized p 4294967295 a

module _ (p : Pool) (a : ℕ) (K : Printable p a) where
  abbrev order : List ℕ
  order = subterms p a

  pub own-built : Built p order
  own-built = walk-built p K.valid a K.within

  N : Renumbered p order
  N = renumbered p K.valid order own-built

  abbrev q : Pool
  q = nodes_of p order

  long : length q ≡ length order
  long = length-map (λ b. renumber order (node_at p b)) order

  sized-all : (b : ℕ) → In b order → Sized p 4294967295 b
  sized-all = subterms-all p K.valid (Sized p 4294967295) (λ b h S r i. child-sized p K.valid 4294967295 b h S r i) a K.within K.sized

  same-counts : (b : ℕ) → expanded_length (map (by_place order) (node_at p b).runs) ≡ expanded_length (node_at p b).runs
  same-counts b = ap sum (map-map (by_place order) (λ r. r.1) (node_at p b).runs)

  line-prints : (i b : ℕ) → i < length q → In b order → node_at q i ≡ renumber order (node_at p b) → Read i (node_at q i)
  line-prints i b h j e =
      let l = built-within p order own-built b j in
      let S = sized-all b j in
      let (o, x) = K.plain (node_at p b) (get_in _ p b l) in
      record {
        valid = N.valid.nodes i h;
        operations = rw e (omega arith);
        value = rw e x;
        light = rw e (omega (arith, same-counts b, counts-sized p K.valid 4294967295 b l S));
        few = omega (arith, runs-within q (node_at q i) (get_in _ q i h), no-more-runs p K.valid order own-built, K.few_runs);
        branches = λ z. rw e (same-counts b ∙ two-branches p K.valid 4294967295 b l S (rw e at z));
      }

  -- every line can be printed
  pub lines-print : (i : ℕ) → i < length q → Read i (node_at q i)
  lines-print i h =
      let l : i < length order = omega (arith, long) in
      line-prints i (get_or order i 0) h (get_in 0 order i l) (get-map (λ b. renumber order (node_at p b)) order i 0 _ l)

  -- .. their counts too have 32 bits
  pub lines-counts : (i : ℕ) → i < length q → expanded_length (node_at q i).runs ≤ 4294967295
  lines-counts i h =
      let l : i < length order = omega (arith, long) in
      let b = get_or order i 0 in
      let j = get_in 0 order i l in
      let e : node_at q i ≡ renumber order (node_at p b) = get-map (λ b. renumber order (node_at p b)) order i 0 _ l in
      omega (arith, ap (λ (n : Node). expanded_length n.runs) e, same-counts b, counts-sized p K.valid 4294967295 b (built-within p order own-built b j) (sized-all b j))

  pub lines-back : (lim : Limits) → TERMS ≤ lim.terms → RUNS ≤ lim.runs → ReadBack lim (lines_of p a) (tree_at p a)
  lines-back lim terms runs = record {
    lines = q;
    read = ap (read_lines lim) (own-text p a own-built) ∙ read-lines lim q lined fewer some;
    some = some;
    means = ap (λ (k : ℕ). tree_at q (k - 1)) long ∙ N.trees (length order - 1) (omega (arith, (root-last p a).0)) ∙ ap (tree_at p) (root-last p a).1;
  }
    where
      some : 0 < length q
      some = omega (arith, (root-last p a).0, long)

      fewer : length q ≤ 16384
      fewer = omega (arith, no-more-terms p K.valid order own-built, K.few)

      lined : Lined lim q
      lined = record { valid = N.valid; reads = lines-print; terms = omega (arith, fewer); runs = omega (arith, no-more-runs p K.valid order own-built, K.few_runs) }

-- ---- the run
module _ (who : Caller) (t : Tables) (v : Valid t) (narrow : Narrow t) (p : Two) (h : IsPair t p) (budget : ℕ) (o : Outcome) (ran : run_of (limits_for who) t p budget ≡ ok o) where
  tidy : Tidy (limits_for who) o.pool
  tidy = run-tidy t v narrow (limits_for who) p h budget o ran

  -- "the marked place Variants of two best terms"
  pub own-branched : Branched 2 (tree_at o.pool o.root)
  own-branched = readings.two-branches (limits_for who) t v p h budget o ran

  pub own-printable : Printable o.pool o.root
  own-printable =
      let (w, l) = run-pool (limits_for who) t v p h budget o ran in record {
        valid = w;
        within = l;
        few = tidy.few;
        few_runs = tidy.few_runs;
        plain = tidy.plain;
        sized = record { branched = own-branched; within = omega (arith, ap (λ (x : Two). x.0) (run-quality (limits_for who) t v p h budget o ran), (run-reports (limits_for who) (limit-most who) t v p h budget o ran).size) };
      }

  -- The lines behind the first line are read back to the listed term, under the document's limits and any larger ones.
  pub own-lines : (lim : Limits) → TERMS ≤ lim.terms → RUNS ≤ lim.runs → ReadBack lim (lines_of o.pool o.root) (tree_at o.pool o.root)
  own-lines = lines-back o.pool o.root own-printable

  -- So their card is that of the term.
  pub own-card : (lim : Limits) → TERMS ≤ lim.terms → RUNS ≤ lim.runs → (signs : List ℕ) (room : ℕ) → card_of_lines lim signs (lines_of o.pool o.root) room ≡ write_card signs o.pool o.root room
  own-card lim terms runs = card-of lim (lines_of o.pool o.root) o.pool o.root (own-lines lim terms runs)
