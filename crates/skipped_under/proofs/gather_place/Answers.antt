use Rattle.spec.specs.Image.{tables_of}
use Rattle.monomial.specs.Places.{monomial_at}
use Rattle.skipped_under.proofs.Terms.{made-small, put_is}
use native.Mathlib.Omega.{arith}
use Rattle.skipped_under.proofs.gather_place.Goals as goal

pub total-all-requires : goal.total-all-requires
total-all-requires c =
    let q = made-small _ _ _ _ c.of_place-n.ensures in
    omega (arith, c.of_place-n.ensures)

pub most_of-most-requires : goal.most_of-most-requires
most_of-most-requires c =
    let q = made-small _ _ _ _ c.of_place-n.ensures in
    omega (arith, c.of_place-n.ensures, c.total-all.ensures)

pub returns : goal.returns
returns c = (
  put_is (monomial_at (tables_of c.args.s.now) c.args.c c.args.x) c.args.id c.args.x c.long_size.result c.total-all.result c.most_of-most.result c.args.i c.of_place-n.result _ _ c.args.f.now c.put_facts.new.f c.of_place-n.ensures c.long_size.ensures c.total-all.ensures c.most_of-most.ensures c.put_facts.ensures,
  c.of_place-n.ensures.small,
)
