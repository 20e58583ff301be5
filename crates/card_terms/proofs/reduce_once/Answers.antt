use mathlib.Core.Logic.{inl}
use Rattle.query.specs.Settings.{limits_of}
use Rattle.card_terms.specs.ReduceLaws.{once-stands, once-items, once-made}
use native.Mathlib.Omega.{arith}
use lib.ListN.{length-set}
use Rattle.card_terms.proofs.reduce_once.Goals as goal

pub intern_items-requires : goal.intern_items-requires
intern_items-requires c =
    let a = c.args in
    let Z = c.requires.0 in
    let L = c.requires.1 in
    rw (c.put_u64.ensures, c.short_u64-h.ensures) (once-stands (limits_of a.lim) a.terms.now a.runs.now a.frames.now a.n Z L, inl L.known, omega arith, omega arith, omega (arith, L.two), simp length-set Z.inside, c.requires.2, once-items (limits_of a.lim) a.terms.now a.runs.now a.frames.now a.n Z L)

pub returns : goal.returns
returns c =
    let a = c.args in
    let i = c.intern_items in
    let e = rw c.put_u64.ensures at i.ensures in
    rw (← once-made (limits_of a.lim) a.terms.now a.runs.now a.frames.now a.n c.requires.0 c.requires.1 c.short_u64-h.result c.short_u64-h.ensures) e
