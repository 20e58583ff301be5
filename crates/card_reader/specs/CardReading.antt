-- What reading a card leaves in the buffers, and its answer.
use Rattle.std.specs.Prelude.{Result, Ok, Err, ◌≡◌, List, ℕ, ◌-◌, eqb, length, drop}
use Rattle.spec.specs.Bytes.{Limits, Res, ok, refused, pick}
use Rattle.spec.specs.Pool.{Pool, Interned}
use Rattle.terms.specs.Buffers.{pool_of}
use Rattle.terms.specs.Chains.{Holds}
use Rattle.interning.specs.Interning.{pool_after}
use Rattle.interning.specs.Growing.{Buffers, laid_over}
use Rattle.term_undo.specs.Undoing.{undo_over, Clean}
use Rattle.formula.specs.Lexer.{read_card}
use Rattle.card_terms.specs.Words.{Reached, whole, full, stuck, enter_text}
use Rattle.card_reader.specs.declared.Unread.{Unread}
use Rattle.card_reader.specs.declared.Unread.TheVariants as U

-- refusal 17 is `NoFormula`, 13 is `Full`
abbrev pub read_of : Res Interned → Result ℕ Unread
read_of (ok x) = Ok x.term
read_of (refused n) = pick (eqb n 17) (Err U.NoFormula) (Err U.Full)

-- the buffers: the term's nodes laid over the pool; those up to a refusal laid and taken back
abbrev pub buffers_after : Pool → Buffers → Reached Interned → Buffers
buffers_after p b (whole x) = laid_over b (drop (length p) x.pool)
buffers_after p b (full q) = undo_over (length q - length p) (laid_over b (drop (length p) q))
buffers_after p b stuck = b

-- the buffers after a refusal are as they were
abbrev pub Same : Buffers → Buffers → Res Interned → Type 0
Same b c (ok x) = Unit
Same b c (refused n) = c ≡ b

-- `read_card` into the pool
pub record CardRead (lim : Limits) (t s terms runs terms' runs' : List ℕ) (r : Result ℕ Unread) : Type 0 where
  pub answer : r ≡ read_of (read_card lim t (pool_of terms runs) s)
  pub pool : pool_of terms' runs' ≡ pool_after (pool_of terms runs) (read_card lim t (pool_of terms runs) s)
  pub holds : Holds terms' runs'
  pub numbers : ◌≡◌ {A = Buffers} (terms', runs') (buffers_after (pool_of terms runs) (terms, runs) (enter_text lim t (pool_of terms runs) s))
  -- where nothing but zeros stood behind the pool
  pub same : Clean terms runs → Same (terms, runs) (terms', runs') (read_card lim t (pool_of terms runs) s)
  pub clean : Clean terms runs → Clean terms' runs'
