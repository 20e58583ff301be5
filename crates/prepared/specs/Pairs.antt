-- The pairs of a graph that is built in full: how many there are, and where their keys begin.
use Rattle.std.specs.Prelude.{ℕ, ◌*◌}
use Rattle.prepared.specs.declared.Begun.{Begun}
use Rattle.prepared.specs.declared.Begun.TheVariants as B
use Rattle.prepared.specs.declared.Prepared.{Prepared}
use Rattle.prepared.specs.declared.Prepared.TheVariants.{Refused, Doubled, Go}

-- how many pairs the graph has where it is built in full
abbrev pub pairs_begun : Begun → ℕ
pairs_begun (B.Stopped k) = 0
pairs_begun (B.Cut root k) = 0
pairs_begun (B.All root n left k) = n

abbrev pub pairs_of : Prepared → ℕ
pairs_of (Refused k) = 0
pairs_of (Doubled c) = 0
pairs_of (Go im b) = pairs_begun b

-- where the keys of its pairs begin
abbrev pub keys_of : Prepared → ℕ
keys_of (Refused k) = 0
keys_of (Doubled c) = 0
keys_of (Go im b) = im.classes * im.classes

-- what has begun, with n pairs
abbrev pub counted_as : Begun → ℕ → Begun
counted_as (B.Stopped k) n = B.Stopped k
counted_as (B.Cut root k) n = B.Cut root k
counted_as (B.All root m left k) n = B.All root n left k

-- (02, Paper 7) how many monomial pairs were passed over in building
abbrev pub skipped_of : Begun → ℕ
skipped_of (B.Stopped k) = 0
skipped_of (B.Cut root k) = k
skipped_of (B.All root n left k) = k
