-- What the end of a round leaves. Classes are marked by the pairs that change in a round; a pair is live in the next round if each of its classes is over a marked one.
use Rattle.std.specs.Prelude.{◌≡◌, Bool, true, false, not, List, ℕ, zero, suc, ◌+◌, ◌*◌, eqb, get_or, set, replicate}
use Rattle.spec.specs.Bytes.{pick, Two}
use Rattle.spec.specs.Image.{Tables}
use Rattle.laws.specs.Buffers.{over}
use Rattle.changes.specs.Marks.{live_of}
use Rattle.arrays.specs.Arrays.{unkey, given}

-- the round gives pair k another size or mass than it has
abbrev pub differs_at : List ℕ → ℕ → Bool
differs_at pairs k = pick (eqb (get_or pairs (6 * k) 0) (get_or pairs (6 * k + 3) 0)) (pick (eqb (get_or pairs (6 * k + 1) 0) (get_or pairs (6 * k + 4) 0)) false true) true

-- it has other numbers: another size or mass, or another term
abbrev pub moved_by : Bool → ℕ → ℕ → Bool
moved_by changed old new = pick changed true (not (eqb old new))

-- ---- marks
-- class x is marked where a pair changed
abbrev pub marked_by : Bool → List ℕ → ℕ → List ℕ
marked_by c marks x = pick c (set marks x 1) marks

-- the left class of a pair, the right one
abbrev pub left : Two → ℕ
left p = p.0

abbrev pub right : Two → ℕ
right p = p.1

-- the first k pairs that change have marked a class each
unfoldable pub marks_of : (Two → ℕ) → ℕ → List ℕ → List ℕ → List ℕ → ℕ → List ℕ
marks_of side w graph pairs marks zero = marks
marks_of side w graph pairs marks (suc k) = marked_by (differs_at pairs k) (marks_of side w graph pairs marks k) (side (unkey (get_or graph (w * w + k) 0)))

-- ---- what the pairs have
-- pair k has what the round gave it, over the array `now`
abbrev pub settled_at : List ℕ → List ℕ → ℕ → List ℕ
settled_at now pairs k = given now (6 * k) (get_or pairs (6 * k + 3) 0) (get_or pairs (6 * k + 4) 0) (get_or pairs (6 * k + 5) 0)

-- the first k pairs
unfoldable pub settled : List ℕ → ℕ → List ℕ
settled pairs zero = pairs
settled pairs (suc k) = settled_at (settled pairs k) pairs k

-- ---- the end of a round over n pairs
pub record Ends (t : Tables) (w : ℕ) (graph : List ℕ) (n : ℕ) (pairs₀ llive₀ rlive₀ pairs' llive' rlive' : List ℕ) : Type 0 where
  pub pairs : pairs' ≡ settled pairs₀ n
  pub llive : llive' ≡ over (live_of t (marks_of left w graph pairs₀ (replicate 256 0) n)) llive₀
  pub rlive : rlive' ≡ over (live_of t (marks_of right w graph pairs₀ (replicate 256 0) n)) rlive₀
