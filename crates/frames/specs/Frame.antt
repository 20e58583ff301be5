-- The frame of the input, and the line of a refusal.
use Rattle.std.specs.Prelude.{Bool, List, [], ◌∷◌, ℕ, ◌+◌, leb, eqb, length}
use Rattle.spec.specs.Bytes.{both, be2, be4, text, decimal}
use Rattle.spec.specs.Listing.{line}
use Rattle.spec.specs.Merge.{INPUT}
use Rattle.spec.specs.declared.Caller.TheVariants.{Desk}
use Rattle.query.specs.declared.Query.{Query}

-- the test of `answer_to`: the image ends where its length field says, and the query's eight bytes follow
abbrev pub framed : List ℕ → Bool
framed s = both (leb (length s) INPUT) (both (leb 4 (length s)) (eqb (be4 s 0 + 4 + 8) (length s)))

-- the query in those eight bytes; program `merge` is the desk's
abbrev pub query_of : List ℕ → Query
query_of s = record { left = be2 s (be4 s 0 + 4); right = be2 s (be4 s 0 + 4 + 2); budget = be4 s (be4 s 0 + 4 + 4); caller = Desk }

abbrev pub refusal_bytes : ℕ → List ℕ
refusal_bytes k = line (text "refused" ∷ decimal k ∷ [])
