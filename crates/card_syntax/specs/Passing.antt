-- The pass over a text's marks, and its frames in a buffer.
use Rattle.std.specs.Prelude.{◌≡◌, Bool, true, false, List, [], ◌∷◌, map, ℕ, zero, suc, ◌+◌, ◌<◌, min, eqb, get_or}
use Rattle.spec.specs.Bytes.{pick, either, within, Res, ok, refused}
use Rattle.formula.specs.Card.{Mark, literal, between, list, next, close, opens, shuts, begin, or, end}
use Rattle.formula.specs.Lexer.{read_text}
use Rattle.formula_laws.specs.Syntax.{Open, aBracket, items, choices, Phase, fresh, wanted, done, failed}
use Rattle.card_syntax.specs.declared.Pass.{Pass}
use Rattle.card_syntax.specs.declared.Pass.TheVariants as P

-- the text is a formula
abbrev pub is_ok : {A : Type 0} → Res A → Bool
is_ok (ok a) = true
is_ok (refused n) = false

unfoldable pub is_formula : List ℕ → List ℕ → Bool
unfolding read_text
is_formula t s = is_ok (read_text t s)

abbrev pub is_close : Mark → Bool
is_close (literal v o) = false
is_close (between o) = false
is_close (list o) = false
is_close next = false
is_close close = true
is_close opens = false
is_close shuts = false
is_close begin = false
is_close or = false
is_close end = false

-- ---- frames
-- a frame's number: what is open, and whether it has no child, one or more
abbrev pub frame_of : Open → ℕ
frame_of aBracket = 0
frame_of (items n) = 1 + min n 2
frame_of (choices n) = 4 + min n 2

-- the first n numbers of a buffer, the last one first
unfoldable pub stack : List ℕ → ℕ → List ℕ
stack f zero = []
stack f (suc n) = get_or f n 0 ∷ stack f n

-- the buffer holds what is open
pub record Stacked (f : List ℕ) (n : ℕ) (k : List Open) : Type 0 where
  pub numbers : map frame_of k ≡ stack f n

-- it holds what is open in a phase
abbrev pub Passes : List ℕ → Pass → Phase → Type 0
Passes f (P.Fresh n) u = (k : List Open) × (u ≡ fresh k) × Stacked f n (items 0 ∷ k)
Passes f (P.Wanted n) u = (k : List Open) × (u ≡ wanted k) × Stacked f n k
Passes f (P.Done n) u = (k : List Open) × (u ≡ done k) × Stacked f n k
Passes f P.Failed u = u ≡ failed

-- fewer frames than b; right behind `[` at least one
abbrev pub Room : ℕ → Pass → Type 0
Room b (P.Fresh n) = (0 < n) × (n < b)
Room b (P.Wanted n) = n < b
Room b (P.Done n) = n < b
Room b P.Failed = Unit

abbrev pub depth_of : Pass → ℕ
depth_of (P.Fresh n) = n
depth_of (P.Wanted n) = n
depth_of (P.Done n) = n
depth_of P.Failed = 0

-- ---- the top frame
-- closed, where its number is a or b
abbrev pub popped : ℕ → ℕ → List Open → Phase
popped a b [] = failed
popped a b (x ∷ k) = pick (either (eqb (frame_of x) a) (eqb (frame_of x) b)) (done k) failed

-- with a child more, where it is a list (low is 1) or a marked place (4)
abbrev pub more : Open → Open
more aBracket = aBracket
more (items n) = items (suc n)
more (choices n) = choices (suc n)

abbrev pub counted : ℕ → List Open → Phase
counted low [] = failed
counted low (x ∷ k) = pick (within low (low + 2) (frame_of x)) (wanted (more x ∷ k)) failed
