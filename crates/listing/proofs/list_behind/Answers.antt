use Rattle.widths.specs.LineLaws.{ready}
use Rattle.listing.specs.BehindLaws.{behind-full, lines-room, behind-bytes}
use native.Mathlib.Omega.{arith}
use Rattle.listing.proofs.list_behind.Goals as goal

pub lines_width-requires : goal.lines_width-requires
lines_width-requires c =
    (c.requires.0, ready c.args.terms.now c.args.runs.now _ c.args.root c.number_all-n.result c.requires.0 c.requires.1 c.number_all-n.ensures.1)

pub returns-then-size-out : goal.returns-then-size-out
returns-then-size-out c =
    behind-full c.args.head.now c.args.terms.now c.args.runs.now c.args.root c.args.marks.now c.args.out.now _ c.number_all-n.result c.requires.0 c.requires.1 c.number_all-n.ensures.0 c.number_all-n.ensures.1 c.lines_width.ensures.0 (omega arith)

pub write_lines-requires : goal.write_lines-requires
write_lines-requires c =
    (c.requires.0, ready c.args.terms.now c.args.runs.now _ c.args.root c.number_all-n.result c.requires.0 c.requires.1 c.number_all-n.ensures.1, lines-room c.args.head.now c.args.terms.now c.args.runs.now c.args.root c.args.marks.now c.args.out.now _ c.number_all-n.result c.requires.0 c.requires.1 c.number_all-n.ensures.0 c.number_all-n.ensures.1 c.lines_width.ensures.0 (omega arith) c.text-at.ensures)

pub returns : goal.returns
returns c =
    behind-bytes c.args.head.now c.args.terms.now c.args.runs.now c.args.root c.args.marks.now c.args.out.now _ c.number_all-n.result c.requires.0 c.requires.1 c.number_all-n.ensures.0 c.number_all-n.ensures.1 c.lines_width.ensures.0 (omega (arith, c.if-size-out.false)) c.text-at.ensures c.write_lines.ensures
