use Rattle.child_list.proofs.Insert.{roomy-fits}
use Rattle.child_list.proofs.add_class.Goals as goal

pub add_at-requires : goal.add_at-requires
add_at-requires c =
    roomy-fits c.args.n c.place-p.result c.args.c c.args.k c.args.mono.now c.requires c.place-p.ensures.0 c.place-p.ensures.1

pub returns : goal.returns
returns c = c.add_at.ensures.0
