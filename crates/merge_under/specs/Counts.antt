-- "Above a covered engine on plain arrays": the pair table counts the engine's pairs. Where the graph is built in full, each of its pairs is new at its own number and the queried pair is the first, so that all are counted.
use Rattle.std.specs.Prelude.{◌≡◌, refl, List, [], ℕ, ◌+◌, ◌*◌, ◌≤◌, length, replicate}
use Rattle.std.proofs.Common.{sym, ap, ◌∙◌, arith, leb-true}
use Rattle.spec.specs.Bytes.{Two, Limits, Res, ok, refused, Checked, passed, cut_short}
use Rattle.spec.specs.Image.{Tables, tables_of}
use Rattle.spec.specs.Graph.{build, skipped_in}
use Rattle.spec.specs.Pool.{Interned, starting_term}
use Rattle.laws.specs.Valid.{Valid}
use Rattle.laws.specs.Accepted as A
use Rattle.laws.specs.BestMembers.{IsPair}
use Rattle.image.specs.Loaded.{classes-many}
use Rattle.query.specs.Settings.{asked_of}
use Rattle.query.specs.declared.Query.{Query}
use Rattle.arrays.specs.Arrays.{unkeyed}
use Rattle.pair_search.specs.declared.Pair.{Pair}
use Rattle.pair_count.specs.Counted.{entered_of, counted_of}
use Rattle.pair_count.specs.From.{counts_all, counts-none}
use Rattle.entering.specs.Entered.{entered}
use Rattle.graph.specs.Building.{graph_after}
use Rattle.graph.specs.Built.{built-apart, built-first, built-some, built-few, built-pairs}
use Rattle.beginning.specs.Beginning.{begun_of, Ready}
use Rattle.prepared.specs.declared.Begun.{Begun}
use Rattle.prepared.specs.declared.Begun.TheVariants as B
use Rattle.prepared.specs.Pairs.{pairs_begun, pairs_of, keys_of}
use Rattle.prepared.specs.declared.Prepared.{Prepared}
use Rattle.prepared.specs.declared.Prepared.TheVariants.{Refused, Doubled, Go}
use Rattle.merge_under.specs.Engine.{Stands}
use Rattle.prepared.specs.Pairs.{counted_as}

-- n pairs are entered, and so many are counted
abbrev CountsAll : List ℕ → ℕ → Two → List Pair → ℕ → Type 0
CountsAll graph from p table n = (counted_of (entered_of graph from n 0 table) p).pairs ≡ n

module _ (lim : Limits) (few : lim.pairs ≤ 4096) (t : Tables) (v : Valid t) (p : Two) (h : IsPair t p) (budget w : ℕ) (is : length t.classes ≡ w) (graph : List ℕ) (room : w * w + lim.pairs ≤ length graph) (table : List Pair) (wide : lim.pairs ≤ length table) where
  -- the graph stands in its array
  graph-counts : (ps : List Two) (c : ℕ) → build lim t p budget ≡ ok (passed ps c) → graph ≡ graph_after w (build lim t p budget) graph → CountsAll graph (w * w) p table (length ps)
  graph-counts ps c g e =
      let stands : graph ≡ entered w 0 ps (replicate (length graph) 0) = e ∙ ap (λ (z : Res (Checked (List Two))). graph_after w z graph) g in
      let are : unkeyed graph (w * w) (length ps) ≡ ps = ap (λ (z : List ℕ). unkeyed z (w * w) (length ps)) stands ∙ built-pairs lim t p budget c ps g v h w is (length graph) room in
      let most = built-few lim t p budget c ps g in
      let all = counts_all graph (w * w) ps (omega (arith, most, few)) are table (omega (arith, most, wide)) (built-apart lim t p budget c ps g) (built-some lim t p budget c ps g) in
      ap (λ (q : Two). (counted_of (entered_of graph (w * w) (length ps) 0 table) q).pairs) (sym (built-first lim t p budget c ps g)) ∙ all

  begun-counts : (b : Begun) (terms runs : List ℕ) → Ready lim t p budget w b graph terms runs → CountsAll graph (w * w) p table (pairs_begun b)
  begun-counts b terms runs R = go (starting_term lim t [] p) refl (build lim t p budget) refl R.answer
    where
      go : (x : Res Interned) → starting_term lim t [] p ≡ x → (g : Res (Checked (List Two))) → build lim t p budget ≡ g → b ≡ begun_of (skipped_in lim t p budget) x g → CountsAll graph (w * w) p table (pairs_begun b)
      go (refused k) q g y z = rw z (counts-none graph (w * w) table p)
      go (ok a) q (refused k) y z = rw z (counts-none graph (w * w) table p)
      go (ok a) q (ok cut_short) y z = rw z (counts-none graph (w * w) table p)
      go (ok a) q (ok (passed ps c)) y z = rw z (graph-counts ps c y (R.built a q))

-- "Its n pairs are counted once each": what the end of a run asks of the table
pub table-counts : (lim : Limits) → lim.pairs ≤ 4096 → (image : List ℕ) (q : Query) (p : Prepared) (graph terms runs : List ℕ) (table : List Pair) → lim.pairs ≤ length table → Stands lim image q p graph terms runs → (counted_of (entered_of graph (keys_of p) (pairs_of p) 0 table) (asked_of q)).pairs ≡ pairs_of p
table-counts lim few image q (Refused k) graph terms runs table wide P = counts-none graph 0 table (asked_of q)
table-counts lim few image q (Doubled c) graph terms runs table wide P = counts-none graph 0 table (asked_of q)
table-counts lim few image q (Go im b) graph terms runs table wide (G, R) =
    let is = classes-many image im G.loaded in
    begun-counts lim few (tables_of image) (A.valid image (tables_of image) G.read) (asked_of q) (omega (arith, G.left, is), omega (arith, G.right, is)) q.budget im.classes is graph (leb-true (im.classes * im.classes + lim.pairs) (length graph) G.wide) table wide b terms runs R

-- the run over as many pairs as are counted
pub counted_same : (b : Begun) (n : ℕ) → n ≡ pairs_begun b → counted_as b n ≡ b
counted_same (B.Stopped k) n e = refl
counted_same (B.Cut root k) n e = refl
counted_same (B.All root m left k) n e = ap (λ (j : ℕ). B.All root j left k) e
