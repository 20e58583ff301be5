use Rattle.starting.specs.Report.{started-as}
use Rattle.spec.specs.Image.{tables_of}
use native.Mathlib.Omega.{arith}
use Rattle.starting.proofs.report_started.Goals as goal

pub start_size-requires : goal.start_size-requires
start_size-requires c =
    (c.requires.0, c.requires.1, omega (arith, c.requires.2, c.size_u16-l.ensures.0), omega (arith, c.requires.3, c.size_u16-r.ensures.0))

pub start_mass-requires : goal.start_mass-requires
start_mass-requires c =
    (c.requires.0, c.requires.1, omega (arith, c.requires.2, c.size_u16-l.ensures.0), omega (arith, c.requires.3, c.size_u16-r.ensures.0))

pub returns : goal.returns
returns c =
    let a = c.args in
    started-as (tables_of a.s.now) a.n a.root a.q.budget c.size_u16-l.result c.size_u16-r.result a.q.left a.q.right c.size_u16-l.ensures.0 c.size_u16-r.ensures.0 c.start_size.result c.start_mass.result c.start_size.ensures c.start_mass.ensures
