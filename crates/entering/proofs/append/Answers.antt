use Rattle.entering.specs.EnteredLaws.{with-puts}
use native.Mathlib.Omega.{arith}
use borrow.Author.Rules.{rules}
use Rattle.entering.proofs.append.Goals as goal

pub place-requires : goal.place-requires
place-requires c = (c.requires.0, c.requires.3.0, c.requires.3.1)

pub put_u16-requires : goal.put_u16-requires
put_u16-requires c = (omega (arith, c.place.ensures.1, c.requires.2), omega (arith, c.requires.1))

pub key-requires : goal.key-requires
key-requires c =
    (omega (arith, c.requires.3.0, c.requires.0), omega (arith, c.requires.3.1, c.requires.0))

pub put_u16-requires-2 : goal.put_u16-requires-2
put_u16-requires-2 c =
    (omega (arith, c.keys.ensures.0, c.requires.2, c.put_u16.auto), c.key.ensures.1)

pub returns : goal.returns
returns c =
    with-puts c.args.w c.args.n c.args.l c.args.r c.args.graph.now c.place.ensures.0 c.keys.ensures.0 c.key.ensures.0 c.put_u16.ensures c.put_u16-2.ensures
