use Rattle.skipped_under.proofs.Kins.{kin-test}
use Rattle.laws.specs.Firsts.{turn-stop, turn_more, turn_end}
use Rattle.spec.specs.Bytes.{same_twos}
use Rattle.skips.specs.Facts.{filled}
use Rattle.skipped_pairs.specs.Held.{place_in}
use Rattle.spec.specs.Image.{tables_of}
use Rattle.monomial.specs.Places.{monomial_at}
use native.Mathlib.Omega.{arith}
use mathlib.Core.Path.{◌≡◌, refl, sym, ◌∙◌}
use Rattle.skipped_under.proofs.kin_of.Goals as goal

pub loop-k-init : goal.loop-k-init
loop-k-init c = (omega arith, refl)

pub is_kin-requires : goal.is_kin-requires
is_kin-requires c =
    (c.requires.0, c.requires.1, c.requires.2, omega (arith, c.fill-n.ensures.1))

pub returns-then-is_kin : goal.returns-then-is_kin
returns-then-is_kin c =
    turn-stop (λ k. same_twos (filled c.args.id (monomial_at (tables_of c.args.s.now) c.args.c (place_in c.args.f.now c.args.i))) (filled c.args.id (monomial_at (tables_of c.args.s.now) c.args.c (place_in c.args.f.now k)))) 0 c.args.i c.loop-k.k c.loop-k.invariant.1 c.is_kin.result (omega arith) (kin-test c.args.id (monomial_at (tables_of c.args.s.now) c.args.c) c.args.f.now c.args.i c.loop-k.k c.size_u64.result c.size_u64-in-loop-k.result _ c.is_kin.result (c.size_u64.ensures ∙ c.place_at.ensures) c.fill-n.ensures.0 (c.size_u64-in-loop-k.ensures ∙ c.place_at-in-loop-k.ensures) c.is_kin.ensures) c.if-is_kin.true

pub loop-k-preserved : goal.loop-k-preserved
loop-k-preserved c =
    (omega arith, turn_more (λ k. same_twos (filled c.args.id (monomial_at (tables_of c.args.s.now) c.args.c (place_in c.args.f.now c.args.i))) (filled c.args.id (monomial_at (tables_of c.args.s.now) c.args.c (place_in c.args.f.now k)))) 0 c.args.i c.loop-k.k c.loop-k.invariant.1 c.is_kin.result (omega arith) (kin-test c.args.id (monomial_at (tables_of c.args.s.now) c.args.c) c.args.f.now c.args.i c.loop-k.k c.size_u64.result c.size_u64-in-loop-k.result _ c.is_kin.result (c.size_u64.ensures ∙ c.place_at.ensures) c.fill-n.ensures.0 (c.size_u64-in-loop-k.ensures ∙ c.place_at-in-loop-k.ensures) c.is_kin.ensures) c.if-is_kin.false)

pub returns : goal.returns
returns c =
    let e : c.loop-k.k ≡ c.args.i = omega arith in
    sym e ∙ turn_end (λ k. same_twos (filled c.args.id (monomial_at (tables_of c.args.s.now) c.args.c (place_in c.args.f.now c.args.i))) (filled c.args.id (monomial_at (tables_of c.args.s.now) c.args.c (place_in c.args.f.now k)))) 0 c.args.i c.loop-k.k c.loop-k.invariant.1 (omega arith)
