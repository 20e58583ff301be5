-- A term's text by its form: what stands round its children and between them.
use Rattle.std.specs.Prelude.{◌≡◌, Bool, true, false, List, [], ◌∷◌, ◌++◌, map, ℕ, zero, suc, ◌+◌, ◌-◌, ◌/◌, ◌%◌, ◌≤◌, ◌<◌, ltb, eqb, length, get_or}
use Rattle.spec.specs.Bytes.{pick, decimal, Two}
use Rattle.spec.specs.Pool.{Pool, node_at, LIT, VARIANTS, RUNS, expanded_length}
use Rattle.formula.specs.Card.{operations, sign, prec_of, spell, left_level, right_level, write}
use Rattle.formula.specs.Lexer.{card_tree}
use Rattle.formula_laws.specs.Signed.{InTerm, node_proper}
use Rattle.terms.specs.Buffers.{part, unpack, first_in, head_in, value_in, pool_of}
use Rattle.card_forms.specs.declared.Infix.{Infix}
use Rattle.card_forms.specs.declared.Form.{Form}
use Rattle.card_forms.specs.declared.Form.TheVariants as F

-- the text of term a where m is the surrounding precedence
abbrev pub card_text : List ℕ → Pool → ℕ → ℕ → List ℕ
card_text t p m a = spell t (write t m (card_tree p a))

-- every operation in the term has a proper sign of its own and precedence
abbrev pub AllSigned : List ℕ → Pool → ℕ → Type 0
AllSigned t p a = (c : ℕ) → InTerm p a c → node_proper t (node_at p c) ≡ true

-- ---- a literal
abbrev pub literal_text : ℕ → ℕ → List ℕ
literal_text v o = decimal v ++ (35 ∷ decimal o)

-- ---- a sign between two children
abbrev pub infix_of : List ℕ → ℕ → ℕ → ℕ → ℕ → Infix
infix_of t x y o m = record { operation = o; left = record { term = x; level = left_level t (prec_of t o) }; right = record { term = y; level = right_level t (prec_of t o) }; bracketed = ltb (prec_of t o) m }

-- "with the fewest brackets"
abbrev pub open_text : Bool → List ℕ
open_text b = pick b (40 ∷ []) []

abbrev pub shut_text : Bool → List ℕ
shut_text b = pick b (41 ∷ []) []

-- a sign with a space on each side
unfoldable pub sign_text : List ℕ → ℕ → List ℕ
unfolding sign
sign_text t o = 32 ∷ sign t o ++ (32 ∷ [])

pub record IsBetween (t : List ℕ) (p : Pool) (m a : ℕ) (x : Infix) : Type 0 where
  pub whole : card_text t p m a ≡ open_text x.bracketed ++ (card_text t p x.left.level x.left.term ++ (sign_text t x.operation ++ (card_text t p x.right.level x.right.term ++ shut_text x.bracketed)))
  pub known : x.operation < operations t
  pub left_below : x.left.term < a
  pub right-below : x.right.term < a
  pub left-signed : AllSigned t p x.left.term
  pub right-signed : AllSigned t p x.right.term

-- ---- a list, "`; `", or a marked place, "`{a | b}`": by its head
abbrev pub opening_text : List ℕ → ℕ → List ℕ
opening_text t h = pick (eqb (h / 64) VARIANTS) (123 ∷ []) (sign t (h % 64) ++ (91 ∷ []))

abbrev pub gap_text : ℕ → List ℕ
gap_text h = pick (eqb (h / 64) VARIANTS) (32 ∷ 124 ∷ 32 ∷ []) (59 ∷ 32 ∷ [])

abbrev pub closing_text : ℕ → List ℕ
closing_text h = pick (eqb (h / 64) VARIANTS) (125 ∷ []) (93 ∷ [])

unfoldable pub copies : ℕ → List ℕ → List ℕ
copies zero x = []
copies (suc n) x = x ++ copies n x

-- runs from the left, "counts written out"; w c: child c's text. All but the first child have the gap before them.
unfoldable pub series_text : Bool → List ℕ → (ℕ → List ℕ) → List ℕ → List ℕ
unfolding copies
series_text first gap w [] = []
series_text first gap w (r ∷ l) = pick first [] gap ++ (w (r % 16384) ++ (copies (r / 16384 - 1) (gap ++ w (r % 16384)) ++ series_text false gap w l))

-- the runs at places from .. to - 1
abbrev pub runs_at : List ℕ → ℕ → ℕ → List Two
runs_at runs from to = map unpack (part runs from (to - from))

abbrev pub Counted : List ℕ → ℕ → ℕ → Type 0
Counted runs from to = (i : ℕ) → from ≤ i → i < to → 1 ≤ get_or runs i 0 / 16384

pub record IsSeries (t terms runs : List ℕ) (m a h from to : ℕ) : Type 0 where
  pub whole : card_text t (pool_of terms runs) m a ≡ opening_text t h ++ (series_text true (gap_text h) (card_text t (pool_of terms runs) 0) (part runs from (to - from)) ++ closing_text h)
  pub known : (h / 64 ≡ VARIANTS → ⊥) → h % 64 < operations t
  pub rises : from ≤ to
  pub within : to ≤ length runs
  pub few : to ≤ RUNS
  pub counted : Counted runs from to
  pub below : (i : ℕ) → from ≤ i → i < to → get_or runs i 0 % 16384 < a
  pub signed : (i : ℕ) → from ≤ i → i < to → AllSigned t (pool_of terms runs) (get_or runs i 0 % 16384)

abbrev pub FormOf : List ℕ → List ℕ → List ℕ → ℕ → ℕ → Form → Type 0
FormOf t terms runs m a (F.Literal v o) = card_text t (pool_of terms runs) m a ≡ literal_text v o
FormOf t terms runs m a (F.Between x) = IsBetween t (pool_of terms runs) m a x
FormOf t terms runs m a (F.Series h from to) = IsSeries t terms runs m a h from to

-- the form by the numbers in the pool's buffers
abbrev pub form_of : List ℕ → List ℕ → List ℕ → ℕ → ℕ → Form
form_of t terms runs m a =
    let h = head_in terms a in
    let from = first_in terms a in
    let to = first_in terms (a + 1) in
    pick (eqb (h / 64) LIT) (F.Literal (value_in terms a) (h % 64))
    (pick (eqb (h / 64) VARIANTS) (F.Series h from to)
    (pick (eqb (expanded_length (runs_at runs from to)) 2) (F.Between (infix_of t (get_or runs from 0 % 16384) (get_or runs (to - 1) 0 % 16384) (h % 64) m)) (F.Series h from to)))
