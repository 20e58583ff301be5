use native.Mathlib.Omega.{arith}
use Rattle.card_forms.specs.Forms.{gap_text}
use Rattle.card_text.specs.CopyLaws.{copying-start, gap-room, again-asks, copying-turn, copying-end}
use Rattle.card_text.proofs.write_copies.Goals as goal

pub loop-k-init : goal.loop-k-init
loop-k-init c =
    let a = c.args in
    copying-start a.out.now a.from a.to (gap_text a.h) a.n c.requires.0 c.requires.1

pub write_gap-a-requires : goal.write_gap-a-requires
write_gap-a-requires c =
    let a = c.args in
    gap-room a.out.now a.from a.to (gap_text a.h) a.n c.requires.0 c.requires.1 c.loop-k.invariant (omega arith)

pub write_again-at-requires : goal.write_again-at-requires
write_again-at-requires c =
    let a = c.args in
    again-asks a.out.now a.from a.to (gap_text a.h) a.n c.requires.0 c.requires.1 c.loop-k.invariant (omega arith) c.write_gap-a.ensures

pub loop-k-preserved : goal.loop-k-preserved
loop-k-preserved c =
    let a = c.args in
    copying-turn a.out.now a.from a.to (gap_text a.h) a.n c.requires.0 c.requires.1 c.loop-k.invariant (omega arith) c.write_gap-a.ensures c.write_again-at.ensures

pub shape_of-out : goal.shape_of-out
shape_of-out c = c.loop-k.invariant.left.same

pub returns : goal.returns
returns c =
    let a = c.args in
    copying-end a.out.now a.from a.to (gap_text a.h) a.n c.requires.0 c.requires.1 c.loop-k.invariant (omega arith)
