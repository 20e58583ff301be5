use Rattle.padding.specs.PadLaws.{paddable, pads-made}
use Rattle.monomial.specs.Places.{monomial_at}
use Rattle.spec.specs.Image.{tables_of, identity_of}
use mathlib.Core.Path.{◌∙◌}
use Rattle.ac_monomials.proofs.monomials.Goals as goal

pub of_place-n-requires : goal.of_place-n-requires
of_place-n-requires c = (c.requires.0, c.requires.1, c.requires.2, c.requires.5)

pub identity-id-requires : goal.identity-id-requires
identity-id-requires c = (c.requires.0, c.requires.4)

pub pad_pair-requires : goal.pad_pair-requires
pad_pair-requires c =
    paddable _ _ c.args.left.now c.args.right.now
    c.of_place-n.new.mono c.of_place-m.new.mono c.of_place-n.result c.of_place-m.result
    (c.of_place-n.auto.mono ∙ c.requires.5) (c.of_place-m.auto.mono ∙ c.requires.6) c.of_place-n.ensures c.of_place-m.ensures

pub returns : goal.returns
returns c =
    pads-made c.args.l c.args.r c.identity-id.result (identity_of (tables_of c.args.s.now) c.args.w.op)
    (monomial_at (tables_of c.args.s.now) c.args.l c.args.w.a) (monomial_at (tables_of c.args.s.now) c.args.r c.args.w.b) c.args.left.now c.args.right.now
    c.of_place-n.new.mono c.of_place-m.new.mono c.pad_pair.new.left c.pad_pair.new.right
    c.of_place-n.result c.of_place-m.result c.pad_pair.result c.identity-id.ensures.0 c.of_place-n.ensures c.of_place-m.ensures c.pad_pair.ensures
