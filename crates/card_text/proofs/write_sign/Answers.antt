use mathlib.Core.Path.{refl}
use Rattle.card_text.specs.PieceLaws.{sign-bytes}
use Rattle.decimals.specs.WriteLaws.{wrote_as}
use Rattle.card_text.proofs.write_sign.Goals as goal

pub returns : goal.returns
returns c =
    let a = c.args in
    wrote_as (sign-bytes a.table.now a.o c.sign_length-n.ensures.0 c.sign_length-n.ensures.1 refl) c.text.ensures
