use denote.Struct.Laws as LL
use Rattle.pair_search.specs.Records.{two_of}
use Rattle.pair_search.specs.Code.{same_code}
use Rattle.pair_search.specs.contracts.Pair as P
use Rattle.pair_search.proofs.Pair.TheLaws as P'
use Rattle.pair_search.proofs.is_pair.Goals as goal

pub returns : goal.returns
returns c = rw (c.code.ensures, c.code-2.ensures) (same_code (c.args.left, c.args.right) (two_of c.args.p) c.ranges.left.fits (LL.owed P.the_type P'.the_laws c.args.p _ c.well_formed.0).0.1)
