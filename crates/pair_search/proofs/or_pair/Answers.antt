use Rattle.pair_search.specs.Lists.{or-either}
use Rattle.pair_search.proofs.or_pair.Goals as goal

pub returns : goal.returns
returns c = or-either c.args.any _ _ c.is_pair.ensures
