use Rattle.std.proofs.Common.{rules}
use Rattle.wide.specs.Value.{unsigned}
use Rattle.wide.proofs.Columns.{half-law}
use Rattle.wide.proofs.mul_half.Goals as goal

pub returns : goal.returns
unfolding unsigned
returns c =
    let hi = c.high-3 in
    let l₁ = c.low-3 in
    let l₀ = c.low-2 in
    let t = c.half_mul-t in
    let h = c.high-2 in
    let a₁ = c.high in
    let w = c.half_mul-w in
    let a₀ = c.low in
    half-law c.args.a c.args.k a₀.result a₁.result w.result h.result t.result l₀.result l₁.result hi.result
    a₀.ensures a₁.ensures w.ensures h.ensures t.ensures l₀.ensures l₁.ensures hi.ensures
