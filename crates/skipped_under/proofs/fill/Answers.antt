use Rattle.skipped_under.proofs.Terms.{made-small, fill-held, fill-few}
use Rattle.spec.specs.Image.{tables_of}
use Rattle.monomial.specs.Places.{monomial_at}
use native.Mathlib.Omega.{arith}
use Rattle.skipped_under.proofs.fill.Goals as goal

pub total-all-requires : goal.total-all-requires
total-all-requires c =
    omega (arith, c.of_place-n.ensures, made-small (monomial_at (tables_of c.args.s.now) c.args.c c.args.x) c.args.mono.now c.of_place-n.new.mono c.of_place-n.result c.of_place-n.ensures)

pub returns : goal.returns
returns c = (
  fill-held (monomial_at (tables_of c.args.s.now) c.args.c c.args.x) c.args.id c.total-all.result c.args.mono.now c.of_place-n.new.mono c.level.new.mono c.of_place-n.result c.level.result c.of_place-n.ensures c.total-all.ensures c.level.ensures,
  fill-few (monomial_at (tables_of c.args.s.now) c.args.c c.args.x) c.args.id c.total-all.result c.args.mono.now c.of_place-n.new.mono c.level.new.mono c.of_place-n.result c.level.result c.of_place-n.ensures c.total-all.ensures c.level.ensures,
)
