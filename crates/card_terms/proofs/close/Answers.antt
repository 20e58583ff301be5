use Rattle.card_terms.specs.CloseLaws.{head-stands, head-items, steps-most}
use Rattle.terms.specs.Buffers.{pool_of}
use Rattle.query.specs.Settings.{limits_of}
use native.Mathlib.Omega.{arith}
use mathlib.Core.Logic.{⊎_elim}
use Rattle.card_terms.proofs.close.Goals as goal

pub short_u64-h-requires : goal.short_u64-h-requires
short_u64-h-requires c = ⊎_elim (λ w. omega (arith, w)) (λ w. omega (arith, w)) c.first_item-from.ensures.formed

pub intern_items-requires : goal.intern_items-requires
intern_items-requires c =
    let a = c.args in
    let H = c.first_item-from.ensures in
    let r = c.first_item-from.result in
    rw c.short_u64-h.ensures (head-stands (limits_of a.lim) a.terms.now a.runs.now a.frames.now a.top r c.requires.0 H, H.formed, omega arith, H.inside, omega (arith, H.some, H.inside), c.requires.0.inside, c.requires.2, head-items (limits_of a.lim) a.terms.now a.runs.now a.frames.now a.top r c.requires.0 H)

pub returns : goal.returns
returns c =
    let a = c.args in
    let H = c.first_item-from.ensures in
    let e = rw c.short_u64-h.ensures at c.intern_items.ensures in
    rw (H.closed (limits_of a.lim) (pool_of a.terms.now a.runs.now)) (steps-most (omega (arith, H.some, H.inside)) e)
