use Prim.Native.Nat.{ℕ, ◌-◌}
use native.Mathlib.Omega.{arith}
use mathlib.Core.Path.{◌≡◌, ap}
use lib.ListN.{take}
use borrow.Author.Rules.{rules}
use Rattle.frames.specs.FrameLaws.{framed-says}
use Rattle.answer.specs.RespondingLaws.{asks-from}
use Rattle.answer.proofs.ask.Goals as goal

pub slice_bounds-merge_plain-start : goal.slice_bounds-merge_plain-start
slice_bounds-merge_plain-start c =
    let F = framed-says c.args.input.now c.requires in
    omega (arith, F.ends, c.image_length-n.ensures)

pub slice_bounds-merge_plain-end : goal.slice_bounds-merge_plain-end
slice_bounds-merge_plain-end c =
    let F = framed-says c.args.input.now c.requires in
    omega (arith, F.ends, c.image_length-n.ensures)

pub returns : goal.returns
returns c =
    let s = c.args.input.now in
    let m = c.merge_plain.ensures in
    let i = c.image_length-n in
    let u : i.result - 0 ≡ i.result = omega arith in
    (asks-from s _ i.result c.query_of-q.result _ _ _ _ (ap (λ (k : ℕ). take k s) u) i.ensures c.query_of-q.ensures m.0, m.1)
