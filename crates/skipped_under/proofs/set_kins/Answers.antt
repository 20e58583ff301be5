use Rattle.skipped_under.proofs.Kins.{told-kin}
use Rattle.spec.specs.Image.{tables_of}
use Rattle.monomial.specs.Places.{monomial_at}
use native.Mathlib.Omega.{arith}
use mathlib.Core.Path.{◌≡◌, refl, ◌∙◌}
use Rattle.skipped_under.proofs.set_kins.Goals as goal

pub loop-i-init : goal.loop-i-init
loop-i-init c = (omega arith, refl, λ ps q h. h)

pub kin_of-k-requires : goal.kin_of-k-requires
kin_of-k-requires c =
    (c.requires.0, c.requires.1, c.requires.2, omega (arith, c.requires, c.loop-i.invariant.1))

pub loop-i-preserved : goal.loop-i-preserved
loop-i-preserved c = (
  omega arith,
  c.put_kin.auto.f ∙ c.loop-i.invariant.1,
  λ ps q h. told-kin c.args.id (monomial_at (tables_of c.args.s.now) c.args.c) ps c.args.n c.loop-i.i c.long_size.result c.loop-i.f c.put_kin.new.f q (omega arith) (omega (arith, c.requires, c.loop-i.invariant.1)) (c.long_size.ensures ∙ c.kin_of-k.ensures) c.put_kin.ensures (c.loop-i.invariant.2 ps q h),
)

pub shape_of-f : goal.shape_of-f
shape_of-f c = c.loop-i.invariant.1

pub returns : goal.returns
returns c =
    let e : c.loop-i.i ≡ c.args.n = omega arith in
    λ ps q h. rw e at (c.loop-i.invariant.2 ps q h)
