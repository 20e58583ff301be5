use Rattle.std.proofs.Common.{ap, ◌∙◌, arith, rules}
use Rattle.wide.specs.Value.{val}
use Rattle.wide.proofs.Words.{add-law}
use Rattle.wide.proofs.Wide.add.Goals as goal

pub returns : goal.returns
returns c =
    ap val c.wrapping_add.ensures ∙ add-law c.args.self c.args.b (record { low = omega arith; high = omega arith }) (record { low = omega arith; high = omega arith }) c.requires.0 c.requires.1
