use native.Mathlib.Nat.{sub-zero}
use Rattle.cells.specs.Problem.{counts-front}
use Rattle.laying.proofs.plan_transport.Goals as goal

pub solve-requires : goal.solve-requires
solve-requires c =
    let a = c.args in (
      c.requires.0,
      c.requires.1,
      c.requires.2,
      rw (sub-zero a.rows) (counts-front a.left.now a.rows c.requires.1.left_long c.requires.1.few_rows _ _ c.lay_margin.ensures),
      rw (sub-zero a.cols) (counts-front a.right.now a.cols c.requires.1.right_long c.requires.1.few_cols _ _ c.lay_margin-2.ensures),
      c.requires.3,
      c.requires.4,
    )
