-- Lines one after the other, and what the functions answer and leave: the rest of the text stands at the place that they answer, the pool in the buffers.
use Rattle.std.specs.Prelude.{Result, Ok, Err, ◌≡◌, true, false, List, [], ℕ, zero, suc, ◌≤◌, ◌<◌, eqb, length, drop, replicate}
use Rattle.spec.specs.Bytes.{Limits, Res, ok, refused, rule, ◌>>=◌}
use Rattle.spec.specs.Pool.{Pool, intern}
use Rattle.formula.specs.Lexer.{is_nil}
use Rattle.formula.specs.Lines.{Cut, cut_line, read_lines}
use Rattle.terms.specs.Buffers.{pool_of}
use Rattle.terms.specs.Emptying.{emptied}
use Rattle.interning.specs.Growing.{Grows}
use Rattle.term_lines.specs.declared.Fault.{Fault}
use Rattle.term_lines.specs.declared.Fault.TheVariants as F

-- ---- one line more
unfoldable pub add_line : Limits → Pool → List ℕ → Cut Pool
add_line lim p s = do
  n ← cut_line (length p) s
  x ← intern lim p n.0
  _ ← rule 17 (eqb x.term (length p))
  ok (x.pool, n.1)

-- the pool afterwards; as it was where the line is refused
abbrev pub pool_then : Pool → Cut Pool → Pool
pool_then p (ok x) = x.0
pool_then p (refused n) = p

abbrev pub added_of : List ℕ → Pool → Result ℕ Fault → Cut Pool
added_of s p (Ok e) = ok (p, drop e s)
added_of s p (Err F.Broken) = refused 17
added_of s p (Err F.Full) = refused 13

-- the place is a place of the text behind `at`
abbrev pub AddedBehind : List ℕ → ℕ → Result ℕ Fault → Type 0
AddedBehind s at (Ok e) = (at < e) × (e ≤ length s)
AddedBehind s at (Err F.Broken) = Unit
AddedBehind s at (Err F.Full) = Unit

pub record AddsLine (lim : Limits) (s : List ℕ) (at : ℕ) (terms runs terms' runs' : List ℕ) (r : Result ℕ Fault) : Type 0 where
  pub answer : added_of s (pool_of terms' runs') r ≡ add_line lim (pool_of terms runs) (drop at s)
  pub behind : AddedBehind s at r
  pub grows : Grows terms runs terms' runs' (pool_then (pool_of terms runs) (add_line lim (pool_of terms runs) (drop at s)))

-- ---- all lines
-- the pool of the lines before the first that is refused, or of all lines. Fuel: the text's length.
unfoldable pub lines_taken : Limits → ℕ → Pool → List ℕ → Pool
lines_taken lim zero p s = p
lines_taken lim (suc f) p s =
    elim (is_nil s) [
      | true ↦ p
      | false ↦ elim (add_line lim p s) [ ok x ↦ lines_taken lim f x.0 x.1 | refused n ↦ p ]
    ]

abbrev pub loaded_of : Pool → Result Unit Fault → Res Pool
loaded_of p (Ok tt) = ok p
loaded_of p (Err F.Broken) = refused 17
loaded_of p (Err F.Full) = refused 13

pub record AddsLines (lim : Limits) (s terms runs terms' runs' : List ℕ) (r : Result Unit Fault) : Type 0 where
  pub answer : loaded_of (pool_of terms' runs') r ≡ read_lines lim s
  pub grows : Grows terms runs terms' runs' (lines_taken lim (length s) [] s)

-- the buffers hold the lines that were taken, entered one after the other; the work buffer is cleared
pub record Loads (lim : Limits) (s list terms runs list' terms' runs' : List ℕ) (r : Result Unit Fault) : Type 0 where
  pub answer : loaded_of (pool_of terms' runs') r ≡ read_lines lim s
  pub grows : Grows (emptied terms) runs terms' runs' (lines_taken lim (length s) [] s)
  pub clear : list' ≡ replicate (length list) 0
