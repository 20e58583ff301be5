use Rattle.terms.specs.PartLaws.{part_length}
use mathlib.Core.List.{map}
use Rattle.card_terms.specs.Reading.{head_node}
use Rattle.query.specs.Settings.{limits_of}
use Rattle.terms.specs.Buffers.{count_in, part, unpack}
use Rattle.card_terms.specs.StandLaws.{items-below, items-fit, part-drop, back-same, back_long, rest-long, term-most, enters-placed}
use Prim.Native.Nat.{◌-◌}
use native.Mathlib.Omega.{arith}
use Rattle.card_terms.proofs.intern_items.Goals as goal

pub enter_items-r-requires : goal.enter_items-r-requires
enter_items-r-requires c =
    let a = c.args in
    let l = a.frames.now in
    let d = part-drop l a.from (a.top - a.from) in
    let i = c.requires.7 in
    (c.requires.0.holds, c.requires.0.rooms, c.requires.1, omega (arith, rest-long l a.from, c.requires.5), rw d (items-fit (count_in a.terms.now) (part l a.from (a.top - a.from)) i (omega (arith, part_length l a.from (a.top - a.from), c.requires.6))), rw d (items-below (count_in a.terms.now) (part l a.from (a.top - a.from)) i))

pub place-requires : goal.place-requires
place-requires c =
    let a = c.args in
    (omega (arith, back_long a.frames.now c.enter_items-r.new.list a.from (omega (arith, c.requires.3, c.requires.5)) c.enter_items-r.auto.list), term-most _ c.enter_items-r.ensures.grows.holds.few c.enter_items-r.result c.enter_items-r.ensures.within)

pub returns : goal.returns
returns c =
    let a = c.args in
    let l = a.frames.now in
    let ys = c.enter_items-r.new.list in
    enters-placed (limits_of a.lim) c.requires.0 (head_node a.h (map unpack (part l a.from (a.top - a.from)))) c.enter_items-r.auto.terms c.enter_items-r.auto.runs _ (back-same l ys a.from a.to c.requires.2 (omega (arith, c.requires.3, c.requires.5))) (back_long l ys a.from (omega (arith, c.requires.3, c.requires.5)) c.enter_items-r.auto.list) (omega (arith, c.requires.4, c.requires.5)) _ _ c.enter_items-r.result (rw (← part-drop l a.from (a.top - a.from)) c.enter_items-r.ensures) c.place.ensures
