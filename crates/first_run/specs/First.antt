-- A call's first run: its limits, and which of its answers is not yet the call's.
use Rattle.std.specs.Prelude.{Bool, false, eqb}
use Rattle.spec.specs.Bytes.{either, Limits}
use Rattle.spec.specs.declared.Caller.{Caller}
use Rattle.spec.specs.declared.Caller.TheVariants.{Page, Desk}
use Rattle.contract.specs.declared.Answer.{Answer}
use Rattle.contract.specs.declared.Answer.TheVariants.{Listing, Refused, Doubled}

-- The limits of the first run, for which the lent buffers have room: as many pairs as the quote page may hold.
abbrev pub small_limits : Limits
small_limits = record { pairs = 256; terms = 512; runs = 1024 }

-- 13: a term or a run beyond the first run's limits, or no room for the classes of the image. It is not yet the caller's.
abbrev pub over_terms : Answer → Bool
over_terms (Listing n) = false
over_terms (Refused k) = eqb k 13
over_terms (Doubled d) = false

-- 12: a 257th pair. It is the page's own, and not yet the desk's.
abbrev pub over_pairs : Caller → Answer → Bool
over_pairs Page a = false
over_pairs Desk (Listing n) = false
over_pairs Desk (Refused k) = eqb k 12
over_pairs Desk (Doubled d) = false

-- "12 and 13 as met": a limit was met that is not the caller's own
abbrev pub limited : Caller → Answer → Bool
limited c a = either (over_terms a) (over_pairs c a)
