use native.Mathlib.Omega.{arith}
use Rattle.spec.specs.Image.{tables_of}
use Rattle.image.specs.Loaded.{classes-many}
use Rattle.starting.specs.StartSizes.{mass-same, mass-two, sizes-fit}
use Rattle.starting.proofs.start_mass.Goals as goal

pub returns-then-l-r : goal.returns-then-l-r
returns-then-l-r c =
    let a = c.args in
    mass-same (tables_of a.s.now) a.l a.r c.if-l-r.true

pub short_u64-requires : goal.short_u64-requires
short_u64-requires c =
    let a = c.args in
    let n = classes-many a.s.now a.im c.requires.0 in
    omega (arith, sizes-fit (tables_of a.s.now) a.l a.r c.requires.1 (omega arith) (omega arith))

pub returns : goal.returns
returns c =
    let a = c.args in
    omega (arith, mass-two (tables_of a.s.now) a.l a.r c.if-l-r.false)
