-- What the arrays of a built graph hold, and the state between two rounds that they stand for.
use Rattle.std.specs.Prelude.{◌≡◌, List, ℕ, ◌+◌, ◌*◌, ◌-◌, ◌≤◌, ◌<◌, length, get_or}
use Rattle.std.proofs.Common.{sym, ap, ap₂, ◌∙◌, arith}
use Rattle.spec.specs.Bytes.{Limits, place, Two, same_two}
use Rattle.spec.specs.Image.{Tables}
use Rattle.spec.specs.Pairs as P
use Rattle.spec.specs.Round.{look_up, turn_of, choice_term}
use Rattle.spec.specs.Run.{State}
use Rattle.spec.specs.Pool.{Pool}
use Rattle.spec.specs.Meaning.{In}
use Rattle.laws.specs.Valid.{Valid}
use Rattle.laws.specs.BestMembers.{IsPair}
use Rattle.lgg.specs.Pairs.{Closed, turn_term}
use Rattle.lgg.specs.Stands.{Fits}
use Rattle.laws.specs.Lists.{get_in, place_in, place_at, Distinct}
use Rattle.steps.specs.Standing.{Standing, Midway}
use Rattle.pools.specs.PoolIntern.{extends-within}
use Rattle.lgg.specs.TurnRead.{turn-read, term-read}
use Rattle.lgg.specs.Cells.{CellsFit, cells-within}
use Rattle.arrays.specs.Arrays.{unkey, pairs_in, number_in, qualities_in, terms_in, quality_in, term_in, Known, TermsBelow}
use Rattle.arrays.specs.ArrayLaws.{quality-at, term-at, unkeyed-length, unkeyed-at}
use Rattle.terms.specs.Buffers.{count_in, pool_of}
use Rattle.terms.specs.PoolLaws.{pool-length}

-- the state between two rounds that the arrays stand for, with so many checks left of the run's budget
abbrev pub state_in : List ℕ → List ℕ → List ℕ → ℕ → ℕ → ℕ → ℕ → State
state_in pairs terms runs n rounds left budget = record { pool = pool_of terms runs; qualities = qualities_in pairs 0 n; terms = terms_in pairs 0 n; rounds = rounds; budget = left; spent = budget - left }

-- every pair is one of classes of the image
abbrev pub InRange : Tables → List Two → Type 0
InRange t ps = (p : Two) → In p ps → IsPair t p

-- a graph of n pairs over w classes, each with its number in the index
pub record Graphs (lim : Limits) (t : Tables) (w : ℕ) (ps : List Two) (n : ℕ) (graph : List ℕ) : Type 0 where
  pub many : length ps ≡ n
  pub some : 0 < n
  pub few : n ≤ lim.pairs
  pub wide : w * w + lim.pairs ≤ length graph
  pub classes : w ≡ length t.classes
  pub below : (i : ℕ) → i < w * w → get_or graph i 0 < n
  pub numbers : (p : Two) → In p ps → number_in w graph p ≡ place (same_two p) ps
  pub closed : Closed t ps
  pub once : Distinct ps
  pub pairs : InRange t ps

pub graphs-length : (lim : Limits) (t : Tables) (w : ℕ) (ps : List Two) (n : ℕ) (graph : List ℕ) → Graphs lim t w ps n graph → Graphs lim t w ps (length ps) graph
graphs-length lim t w ps n graph G = rw G.many G

-- what the round before gave is that of the state s
pub record Reads (s : State) (pairs : List ℕ) (n : ℕ) : Type 0 where
  pub long : 6 * n ≤ length pairs
  pub qualities : qualities_in pairs 0 n ≡ s.qualities
  pub terms : terms_in pairs 0 n ≡ s.terms

module _ (lim : Limits) (t : Tables) (w : ℕ) (ps : List Two) (n : ℕ) (graph : List ℕ) (G : Graphs lim t w ps n graph) where
  -- no transport of a pair of the graph has more cells than the limit
  pub cells_fit : (p : Two) → In p ps → CellsFit lim t p
  cells_fit p i a h = omega (arith, cells-within t ps G.closed p i a h, G.many, G.few)

  module _ (k : ℕ) (h : k < n) (p : Two) (is : p ≡ get_or ps k (0, 0)) where
    pub among : In p ps
    among = rw is (get_in (0, 0) ps k (omega (arith, G.many)))

    -- pair k has number k
    pub number-here : number_in w graph p ≡ k
    number-here = G.numbers p among ∙ ap (λ (x : Two). place (same_two x) ps) is ∙ place_at P.two-decides (0, 0) ps k G.once (omega (arith, G.many))

  module _ (s : State) (pairs : List ℕ) (R : Reads s pairs n) where
    -- an entry of the state, in the arrays
    quality-here : (k : ℕ) → k < n → ◌≡◌ {A = Two} (get_or pairs (6 * k) 0, get_or pairs (6 * k + 1) 0) (get_or s.qualities k (0, 0))
    quality-here k h =
        let e : 6 * k ≡ 6 * k + 0 = omega arith in
        ap (λ (x : ℕ). (get_or pairs x 0, get_or pairs (x + 1) 0)) e ∙ sym (quality-at pairs 0 n k h) ∙ ap (λ (l : List Two). get_or l k (0, 0)) R.qualities

    pub term-here : (k : ℕ) → k < n → get_or pairs (6 * k + 2) 0 ≡ get_or s.terms k 0
    term-here k h =
        let e : 6 * k ≡ 6 * k + 0 = omega arith in
        ap (λ (x : ℕ). get_or pairs (x + 2) 0) e ∙ sym (term-at pairs 0 n k h) ∙ ap (λ (l : List ℕ). get_or l k 0) R.terms

    -- what the code reads of a pair is what the state has of it
    pub agree-quality : (c : Two) → In c ps → quality_in w graph pairs c ≡ look_up (0, 0) ps s.qualities c
    agree-quality c i =
        ap (λ (k : ℕ). (get_or pairs (6 * k) 0, get_or pairs (6 * k + 1) 0)) (G.numbers c i)
        ∙ quality-here (place (same_two c) ps) (omega (arith, place_in P.two-decides c ps i, G.many))

    agree-term : (c : Two) → In c ps → term_in w graph pairs c ≡ look_up 0 ps s.terms c
    agree-term c i = ap (λ (k : ℕ). get_or pairs (6 * k + 2) 0) (G.numbers c i) ∙ term-here (place (same_two c) ps) (omega (arith, place_in P.two-decides c ps i, G.many))

    -- pair k's turn
    pub turn-here : (k : ℕ) → k < n → turn_of t (quality_in w graph pairs) (get_or ps k (0, 0)) ≡ turn_of t (look_up (0, 0) ps s.qualities) (get_or ps k (0, 0))
    turn-here k h = turn-read lim t ps G.closed (quality_in w graph pairs) s.qualities agree-quality k (omega (arith, G.many))

    pub choice-here : (k : ℕ) (pool : Pool) → k < n
        → choice_term lim t (term_in w graph pairs) pool (term_in w graph pairs (get_or ps k (0, 0))) (turn_of t (quality_in w graph pairs) (get_or ps k (0, 0))).choice ≡ turn_term lim t (look_up 0 ps s.terms) ps s.qualities k pool
    choice-here k pool h = term-read lim t ps G.closed (quality_in w graph pairs) s.qualities (term_in w graph pairs) s.terms agree-quality agree-term k pool (omega (arith, G.many))

    module _ (S : Standing Fits ps s) where
      pub known-here : Valid t → Known w graph pairs
      known-here v = record {
        few = omega (arith, G.classes, v.counts.few_classes);
        wide = omega (arith, G.wide);
        below = λ i h. omega (arith, G.below i h, R.long);
        low = λ i h. low (get_or graph i 0) (G.below i h);
      }
        where
          low : (k : ℕ) → k < n → get_or pairs (6 * k + 1) 0 ≤ get_or pairs (6 * k) 0
          low k h = let e = quality-here k h in let z = (S.fits k (omega (arith, G.many))).0 in omega (arith, ap (λ (q : Two). q.0) e, ap (λ (q : Two). q.1) e)

      pub terms-here : (from : Pool) (j : ℕ) (done : List ℕ) (terms runs : List ℕ) → from ≡ s.pool → Midway from j done (pool_of terms runs) → TermsBelow w graph pairs (count_in terms)
      terms-here from j done terms runs e M i h = within (get_or graph i 0) (G.below i h)
        where
          within : (k : ℕ) → k < n → get_or pairs (6 * k + 2) 0 < count_in terms
          within k l =
              let z : get_or s.terms k 0 < length from = rw e (S.within k (omega (arith, G.many))) in
              omega (arith, term-here k l, extends-within M.grown (get_or s.terms k 0) z, pool-length terms runs)

-- ---- pair k, by its classes in the array
module _ (t : Tables) (w : ℕ) (graph : List ℕ) (n k : ℕ) (h : k < n) where
  pub pair-at : (l r : ℕ) → l ≡ (unkey (get_or graph (w * w + k) 0)).0 → r ≡ (unkey (get_or graph (w * w + k) 0)).1 → ◌≡◌ {A = Two} (l, r) (get_or (pairs_in w graph n) k (0, 0))
  pair-at l r e f = ap₂ (λ (x y : ℕ). (x, y)) e f ∙ sym (unkeyed-at graph (w * w) n k h)

  pub pair-ranged : InRange t (pairs_in w graph n) → (l r : ℕ) → l ≡ (unkey (get_or graph (w * w + k) 0)).0 → r ≡ (unkey (get_or graph (w * w + k) 0)).1 → (l < length t.classes) × (r < length t.classes)
  pair-ranged i l r e f =
      let z = i (get_or (pairs_in w graph n) k (0, 0)) (get_in (0, 0) (pairs_in w graph n) k (omega (arith, unkeyed-length graph (w * w) n))) in
      let q = pair-at l r e f in
      (omega (arith, z.0, ap (λ (p : Two). p.0) q), omega (arith, z.1, ap (λ (p : Two). p.1) q))
