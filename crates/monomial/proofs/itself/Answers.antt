use Rattle.monomial.proofs.Children.{none-roomy, itself-made}
use Rattle.monomial.proofs.itself.Goals as goal

pub add_class-requires : goal.add_class-requires
add_class-requires c = none-roomy c.args.mono.now c.requires

pub returns : goal.returns
returns c =
    itself-made c.args.c c.long_size.result c.args.mono.now c.add_class.new.mono c.add_class.result c.long_size.ensures c.add_class.ensures
