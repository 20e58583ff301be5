-- What holds of a graph that is built in full: "it holds the queried pair (left class, right class) and, with each pair, every pair of classes that an action of it joins. Its n pairs are counted once each."
use Rattle.std.specs.Prelude.{◌≡◌, refl, false, List, ℕ, ◌+◌, ◌*◌, ◌≤◌, ◌<◌, length, get_or, take, replicate}
use Rattle.std.proofs.Common.{ap, ◌∙◌, arith}
use Rattle.std.proofs.lemmas.List.{length-replicate, get_or-replicate}
use Rattle.spec.specs.Bytes.{Limits, Two, any, place, same_two, Res, ok, refused, passed, cut_short, Checked}
use Rattle.spec.specs.Image.{Tables}
use Rattle.spec.specs.Pairs.{two-decides, pairs}
use Rattle.spec.specs.Graph.{build}
use Rattle.spec.specs.Meaning.{In}
use Rattle.laws.specs.Valid.{Valid}
use Rattle.laws.specs.Lists.{get_in, place_at, apart-at, Distinct}
use Rattle.laws.specs.BestMembers.{IsPair}
use Rattle.lgg.specs.Within.{reach-within}
use Rattle.steps.specs.Graph.{Closed}
use Rattle.steps.specs.Graph as L
use Rattle.arrays.specs.Arrays.{place_of, number_in, key_of, pairs_in}
use Rattle.arrays.specs.ArrayLaws.{place-lt}
use Rattle.entering.specs.Entered.{entered, cleared}
use Rattle.graph.specs.Building.{graph_after}
use Rattle.entering.specs.Growing.{AllSmall}
use Rattle.entering.specs.EnteredLaws.{entered-length, entered-key, entered-pairs, Numbered, kept, given, numbered-at, place-one}

-- ---- the index
-- it has each pair's number
pub number_of : (w : ℕ) (ps : List Two) (z : List ℕ) → Distinct ps → AllSmall w ps → w * w ≤ length z → (q : Two) → In q ps → number_in w (entered w 0 ps z) q ≡ place (same_two q) ps
number_of w ps z d s m q i = go (numbered-at w 0 ps z (place_of w q) (place-lt w q.0 q.1 (s q i).0 (s q i).1) m)
  where
    go : Numbered w 0 ps z (place_of w q) → number_in w (entered w 0 ps z) q ≡ place (same_two q) ps
    go (kept e f) = absurd (f q i refl)
    go (given j l e f) =
        let u : get_or ps j (0, 0) ≡ q = place-one w (get_or ps j (0, 0)) q (s (get_or ps j (0, 0)) (get_in (0, 0) ps j l)) (s q i) f in
        let y : place (same_two (get_or ps j (0, 0))) ps ≡ j = place_at two-decides (0, 0) ps j d l in
        let x : place (same_two (get_or ps j (0, 0))) ps ≡ place (same_two q) ps = ap (λ (p : Two). place (same_two p) ps) u in
        omega (arith, e, x, y)

-- every number of it is that of a pair
pub number-below : (w : ℕ) (ps : List Two) (m i : ℕ) → 1 ≤ length ps → w * w ≤ m → i < w * w → get_or (entered w 0 ps (replicate m 0)) i 0 < length ps
number-below w ps m i h wide l = go (numbered-at w 0 ps (replicate m 0) i l (omega (arith, length-replicate {A = ℕ} m 0)))
  where
    go : Numbered w 0 ps (replicate m 0) i → get_or (entered w 0 ps (replicate m 0)) i 0 < length ps
    go (kept e f) = omega (arith, e, h, get_or-replicate {A = ℕ} m i 0 0 (omega arith))
    go (given j k e f) = omega (arith, e, k)

-- ---- what building leaves
pub after-length : (w : ℕ) (g : Res (Checked (List Two))) (graph : List ℕ) → length (graph_after w g graph) ≡ length graph
after-length w (ok (passed ps c)) graph = entered-length w 0 ps (cleared graph) ∙ length-replicate {A = ℕ} (length graph) 0
after-length w (ok cut_short) graph = length-replicate {A = ℕ} (length graph) 0
after-length w (refused n) graph = length-replicate {A = ℕ} (length graph) 0

-- building again leaves the same
pub after-again : (w : ℕ) (g : Res (Checked (List Two))) (graph : List ℕ) → graph_after w g (graph_after w g graph) ≡ graph_after w g graph
after-again w (ok (passed ps c)) graph = ap (λ (n : ℕ). entered w 0 ps (replicate n 0)) (after-length w (ok (passed ps c)) graph)
after-again w (ok cut_short) graph = ap {B = List ℕ} (λ (n : ℕ). replicate n 0) (after-length w (ok cut_short) graph)
after-again w (refused k) graph = ap {B = List ℕ} (λ (n : ℕ). replicate n 0) (after-length w (refused k) graph)

-- ---- a graph that is built in full
module _ (lim : Limits) (t : Tables) (p : Two) (b c : ℕ) (ps : List Two) (e : build lim t p b ≡ ok (passed ps c)) where
  -- "Its n pairs are counted once each."
  pub built-distinct : Distinct ps
  built-distinct = (L.build-whole (pairs t) lim.pairs p b c ps e).once

  pub built-apart : (j : ℕ) → j < length ps → any (same_two (get_or ps j (0, 0))) (take j ps) ≡ false
  built-apart j h = apart-at two-decides (0, 0) ps j built-distinct h

  -- "with each pair, every pair of classes that an action of it joins"
  pub built-closed : Closed (pairs t) ps
  built-closed = L.build-closed (pairs t) lim.pairs p b c ps e

  -- the queried pair is the first
  pub built-first : get_or ps 0 (0, 0) ≡ p
  built-first = let (rest, z) = L.build-first (pairs t) lim.pairs p b c ps e in ap (λ (l : List Two). get_or l 0 (0, 0)) z

  pub built-some : 1 ≤ length ps
  built-some = let (rest, z) = L.build-first (pairs t) lim.pairs p b c ps e in omega (arith, ap (λ (l : List Two). length l) z)

  -- "a pair beyond 4,096 would be entered": 12
  pub built-few : length ps ≤ lim.pairs
  built-few = L.build-few (pairs t) lim.pairs p b c ps e

  module _ (v : Valid t) (h : IsPair t p) where
    -- both classes are the image's
    pub built-within : (q : Two) → In q ps → IsPair t q
    built-within q i = reach-within t v p q h (((L.build-whole (pairs t) lim.pairs p b c ps e).exactly q).0 i)

    -- the array that building leaves, over w classes and of m numbers
    module _ (w : ℕ) (is : length t.classes ≡ w) (m : ℕ) (room : w * w + lim.pairs ≤ m) where
      pub built-small : AllSmall w ps
      built-small q i = let (x, y) = built-within q i in (omega (arith, x, is), omega (arith, y, is))

      zeros : length {A = ℕ} (replicate m 0) ≡ m
      zeros = length-replicate {A = ℕ} m 0

      -- it holds the pairs
      pub built-pairs : pairs_in w (entered w 0 ps (replicate m 0)) (length ps) ≡ ps
      built-pairs = entered-pairs w ps (replicate m 0) (omega (arith, is, v.counts.few_classes)) built-small (omega (arith, built-few, room, zeros))

      pub built-key : (k : ℕ) → k < length ps → get_or (entered w 0 ps (replicate m 0)) (w * w + k) 0 ≡ key_of (get_or ps k (0, 0))
      built-key k l = entered-key w ps (replicate m 0) k built-small (omega (arith, built-few, room, zeros)) l

      -- the index has each pair's number, and every number of it is that of a pair
      pub built-number : (q : Two) → In q ps → number_in w (entered w 0 ps (replicate m 0)) q ≡ place (same_two q) ps
      built-number = number_of w ps (replicate m 0) built-distinct built-small (omega (arith, room, zeros))

      pub built-below : (i : ℕ) → i < w * w → get_or (entered w 0 ps (replicate m 0)) i 0 < length ps
      built-below i l = number-below w ps m i built-some (omega (arith, room)) l
