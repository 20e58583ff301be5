use Rattle.monomial.proofs.Children.{roomy-less}
use native.Mathlib.Omega.{arith}
use Rattle.monomial.proofs.add_kth.Goals as goal

pub add_class-requires : goal.add_class-requires
add_class-requires c =
    roomy-less c.args.n c.child_times-times.result 4294967295 c.args.mono.now (omega (arith, c.child_times-times.ensures.1)) c.requires.2

pub returns : goal.returns
returns c = (
  rw (← c.child_class.ensures.0, ← c.long_size-c.ensures, ← c.child_times-times.ensures.0) c.add_class.ensures,
  omega (arith, c.child_times-times.ensures),
)
