use Rattle.padding.proofs.Scans.{fits_is}
use Rattle.padding.proofs.is_narrow.Goals as goal

pub returns : goal.returns
returns c = fits_is _ _ _ c.narrow.ensures c.is_none.ensures
