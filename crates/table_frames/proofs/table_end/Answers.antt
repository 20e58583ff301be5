use native.Mathlib.Omega.{arith}
use Rattle.table_frames.specs.TableLaws.{tabled-says}
use Rattle.table_frames.proofs.table_end.Goals as goal

pub be4-requires : goal.be4-requires
be4-requires c =
    let F = tabled-says c.args.input.now c.requires in omega (arith, F.some)

pub returns : goal.returns
returns c =
    let F = tabled-says c.args.input.now c.requires in
    omega (arith, F.short, F.whole, c.size_u64.ensures, c.be4.ensures.0)
