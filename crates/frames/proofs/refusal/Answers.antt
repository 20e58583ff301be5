use native.Mathlib.Omega.{arith}
use mathlib.Core.Path.{ap, ◌∙◌}
use lib.ListN.{length}
use borrow.Author.Rules.{rules}
use Rattle.spec.specs.Bytes as X
use Rattle.decimals.specs.WriteLaws.{wrote_as}
use Rattle.frames.specs.Frame.{refusal_bytes}
use Rattle.frames.specs.FrameLaws.{room-label, room-end, wrote-line}
use Rattle.frames.proofs.refusal.Goals as goal

pub labelled-a-requires : goal.labelled-a-requires
unfolding X.text
labelled-a-requires c =
    let l = c.long_size-n in
    room-label l.result (length c.args.out.now) (omega (arith, l.ensures, c.size_u8.ensures.1)) c.requires

pub text-requires : goal.text-requires
unfolding X.text
text-requires c =
    let l = c.long_size-n in
    room-end l.result c.args.out.now _ _ (omega (arith, l.ensures, c.size_u8.ensures.1)) c.requires c.labelled-a.ensures

pub returns : goal.returns
unfolding X.text
returns c =
    let l = c.long_size-n in
    let k = c.size_u8 in
    wrote_as (ap refusal_bytes (l.ensures ∙ k.ensures.0)) (wrote-line l.result c.args.out.now _ _ (omega (arith, l.ensures, k.ensures.1)) c.requires c.labelled-a.ensures c.text.ensures)
