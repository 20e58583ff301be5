use Rattle.spec.specs.Pool.{lit_node}
use Rattle.query.specs.Settings.{limits_of}
use Rattle.terms.specs.Buffers.{count_in}
use Rattle.card_terms.specs.ItemLaws.{literal-node, literal-valid, none-light, enters-of}
use Rattle.card_terms.specs.StandLaws.{term-most, enters-placed}
use Prim.Native.Nat.{◌+◌}
use native.Mathlib.Omega.{arith}
use mathlib.Core.Path.{◌≡◌, refl}
use Rattle.card_terms.proofs.intern_literal.Goals as goal

pub intern-r-requires : goal.intern-r-requires
intern-r-requires c =
    let a = c.args in
    let e : c.short_size-h.result ≡ 64 + a.o = omega (arith, c.short_size-h.ensures, c.size_u8.ensures.0) in
    (c.requires.0.holds, literal-valid (count_in a.terms.now) c.short_size-h.result a.o a.v a.frames.now e c.requires.2, omega arith, none-light a.frames.now, c.requires.0.rooms)

pub place-requires : goal.place-requires
place-requires c =
    let a = c.args in
    let e : c.short_size-h.result ≡ 64 + a.o = omega (arith, c.short_size-h.ensures, c.size_u8.ensures.0) in
    let i = c.intern-r in
    let X = enters-of (limits_of a.lim) (lit_node a.o a.v) (literal-node c.short_size-h.result a.o a.v a.frames.now e c.requires.2) c.requires.0.holds (literal-valid (count_in a.terms.now) c.short_size-h.result a.o a.v a.frames.now e c.requires.2) (omega arith) i.ensures in
    (c.requires.1, term-most _ X.grows.holds.few i.result X.within)

pub returns : goal.returns
returns c =
    let a = c.args in
    let e : c.short_size-h.result ≡ 64 + a.o = omega (arith, c.short_size-h.ensures, c.size_u8.ensures.0) in
    let i = c.intern-r in
    let X = enters-of (limits_of a.lim) (lit_node a.o a.v) (literal-node c.short_size-h.result a.o a.v a.frames.now e c.requires.2) c.requires.0.holds (literal-valid (count_in a.terms.now) c.short_size-h.result a.o a.v a.frames.now e c.requires.2) (omega arith) i.ensures in
    enters-placed (limits_of a.lim) c.requires.0 (lit_node a.o a.v) i.auto.terms i.auto.runs a.frames.now refl refl c.requires.1 _ _ i.result X c.place.ensures
