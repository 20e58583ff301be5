use Rattle.wide.specs.Sign.{val_of}
use Rattle.wide.proofs.Wide.of.Goals as goal

pub returns : goal.returns
returns c = val_of c.args.x
