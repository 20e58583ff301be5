use Rattle.spec.specs.Image.{tables_of}
use Rattle.laws.specs.Accepted as A
use borrow.Author.Tests.{leb-true}
use lib.ListN.{length}
use Rattle.query.specs.Settings.{limits_of}
use Rattle.prepare.specs.Preparing.{Goes}
use Rattle.prepare.specs.PreparingLaws.{left-refused, right-refused, room-refused, few-classes}
use native.Mathlib.Omega.{arith}
use mathlib.Core.Path.{refl, sym, ◌∙◌}
use Rattle.prepare.proofs.start.Goals as goal

pub returns-then-size_u16-im : goal.returns-then-size_u16-im
returns-then-size_u16-im c =
    (left-refused (limits_of c.args.lim) (length c.args.graph.now) c.args.s.now c.args.q c.args.im c.requires.0 c.requires.1 (omega (arith, c.size_u16.ensures.0, c.if-size_u16-im.true)), λ z. absurd (omega arith), (refl, refl, refl))

pub returns-then-size_u16-im-2 : goal.returns-then-size_u16-im-2
returns-then-size_u16-im-2 c =
    (right-refused (limits_of c.args.lim) (length c.args.graph.now) c.args.s.now c.args.q c.args.im c.requires.0 c.requires.1 (omega (arith, c.size_u16.ensures.0, c.if-size_u16-im.false)) (omega (arith, c.size_u16-2.ensures.0, c.if-size_u16-im-2.true)), λ z. absurd (omega arith), (refl, refl, refl))

pub has_room-requires : goal.has_room-requires
has_room-requires c = (few-classes c.args.s.now c.args.im c.requires.0 c.requires.1, c.requires.2)

pub begin-b-requires : goal.begin-b-requires
begin-b-requires c =
    let e = sym c.has_room.ensures ∙ c.if-has_room.true in
    (c.requires.0, A.valid c.args.s.now (tables_of c.args.s.now) c.requires.1, omega (arith, c.size_u16.ensures.0, c.if-size_u16-im.false), omega (arith, c.size_u16-2.ensures.0, c.if-size_u16-im-2.false), c.requires.3, leb-true _ _ e, c.requires.2)

pub returns-then-has_room : goal.returns-then-has_room
returns-then-has_room c =
    let e = sym c.has_room.ensures ∙ c.if-has_room.true in
    let G : Goes (limits_of c.args.lim) (length c.args.graph.now) c.args.s.now c.args.q c.args.im = record { read = c.requires.1; loaded = c.requires.0; left = omega (arith, c.size_u16.ensures.0, c.if-size_u16-im.false); right = omega (arith, c.size_u16-2.ensures.0, c.if-size_u16-im-2.false); wide = e } in
    (G, c.begin-b.ensures)

pub returns : goal.returns
returns c =
    let e = sym c.has_room.ensures ∙ c.if-has_room.false in
    (room-refused (limits_of c.args.lim) (length c.args.graph.now) c.args.s.now c.args.q c.args.im c.requires.0 c.requires.1 (omega (arith, c.size_u16.ensures.0, c.if-size_u16-im.false)) (omega (arith, c.size_u16-2.ensures.0, c.if-size_u16-im-2.false)) e, λ z. absurd (omega arith), (refl, refl, refl))
