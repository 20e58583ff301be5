-- The arrays of a run over an image of w classes.
-- graph: at left * w + right the number of that pair; from w * w on each pair's two classes in one number, left * 256 + right.
-- pairs: six numbers a pair: its size, mass and term, then those that the round at hand gives it.
use Rattle.std.specs.Prelude.{List, [], ◌∷◌, ℕ, zero, suc, ◌+◌, ◌*◌, ◌/◌, ◌%◌, ◌≤◌, ◌<◌, length, get_or, set}
use Rattle.spec.specs.Bytes.{Limits, Two}

-- ---- the graph's array
-- where a pair's number stands
abbrev pub place_of : ℕ → Two → ℕ
place_of w p = p.0 * w + p.1

abbrev pub number_in : ℕ → List ℕ → Two → ℕ
number_in w graph p = get_or graph (place_of w p) 0

-- a pair as one number
abbrev pub key_of : Two → ℕ
key_of p = p.0 * 256 + p.1

abbrev pub unkey : ℕ → Two
unkey k = (k / 256, k % 256)

-- n pairs from place i on
unfoldable pub unkeyed : List ℕ → ℕ → ℕ → List Two
unkeyed graph i zero = []
unkeyed graph i (suc n) = unkey (get_or graph i 0) ∷ unkeyed graph (suc i) n

-- the first n pairs of the graph
abbrev pub pairs_in : ℕ → List ℕ → ℕ → List Two
pairs_in w graph n = unkeyed graph (w * w) n

-- ---- the pairs' array
-- how many numbers a pair has, and which of them the round at hand gives
abbrev pub WIDTH : ℕ
WIDTH = 6

abbrev pub NEW : ℕ
NEW = 3

-- "(size, mass)" of n pairs, from place i on
unfoldable pub qualities_from : List ℕ → ℕ → ℕ → List Two
qualities_from pairs i zero = []
qualities_from pairs i (suc n) = (get_or pairs i 0, get_or pairs (i + 1) 0) ∷ qualities_from pairs (i + WIDTH) n

-- their terms
unfoldable pub terms_from : List ℕ → ℕ → ℕ → List ℕ
terms_from pairs i zero = []
terms_from pairs i (suc n) = get_or pairs (i + 2) 0 ∷ terms_from pairs (i + WIDTH) n

-- of the first n pairs: what the round before gave (at 0), or what the round at hand gives (at NEW)
abbrev pub qualities_in : List ℕ → ℕ → ℕ → List Two
qualities_in pairs at n = qualities_from pairs at n

abbrev pub terms_in : List ℕ → ℕ → ℕ → List ℕ
terms_in pairs at n = terms_from pairs at n

-- one pair's size, mass and term, from place `at` on
unfoldable pub given : List ℕ → ℕ → ℕ → ℕ → ℕ → List ℕ
given pairs at size mass term = set (set (set pairs at size) (at + 1) mass) (at + 2) term

-- ---- what is known of a pair of classes from the round before
abbrev pub quality_in : ℕ → List ℕ → List ℕ → Two → Two
quality_in w graph pairs p = (get_or pairs (WIDTH * number_in w graph p) 0, get_or pairs (WIDTH * number_in w graph p + 1) 0)

abbrev pub term_in : ℕ → List ℕ → List ℕ → Two → ℕ
term_in w graph pairs p = get_or pairs (WIDTH * number_in w graph p + 2) 0

-- every number in the graph's index is that of a pair with its six numbers, whose mass is not above its size
pub record Known (w : ℕ) (graph pairs : List ℕ) : Type 0 where
  pub few : w ≤ 256
  pub wide : w * w ≤ length graph
  pub below : (i : ℕ) → i < w * w → WIDTH * get_or graph i 0 + WIDTH ≤ length pairs
  pub low : (i : ℕ) → i < w * w → get_or pairs (WIDTH * get_or graph i 0 + 1) 0 ≤ get_or pairs (WIDTH * get_or graph i 0) 0

-- every number in the graph's index is that of a pair whose term stands among m terms
abbrev pub TermsBelow : ℕ → List ℕ → List ℕ → ℕ → Type 0
TermsBelow w graph pairs m = (i : ℕ) → i < w * w → get_or pairs (WIDTH * get_or graph i 0 + 2) 0 < m

-- ---- the scratch of a turn
-- work: a list of runs at its front, and from place `pairs` on three numbers for each cell of a transport; flow: a number for each cell. A transport has no more cells than the graph has pairs, a structural action at most 64 runs.
pub record Scratch (lim : Limits) (work flow : List ℕ) : Type 0 where
  pub few : lim.pairs ≤ 4096
  pub list : 64 ≤ length work
  pub costs : 4 * lim.pairs ≤ length work
  pub plan : lim.pairs ≤ length flow
