use mathlib.Core.Path.{refl}
use lib.ListN.{length}
use Rattle.card_widths.specs.RoomLaws.{run-charged, gaps-over}
use Rattle.card_forms.specs.Forms.{gap_text}
use Rattle.card_widths.proofs.charge_run.Goals as goal

pub returns : goal.returns
returns c =
    let a = c.args in
    run-charged a.room a.w (length (gap_text a.h)) a.n a.first c.gap_width.ensures c.gaps.ensures c.in_ok-b.ensures refl c.charge_times-2.ensures

pub returns-in_err-b : goal.returns-in_err-b
returns-in_err-b c =
    let a = c.args in
    rw c.from_residual.ensures (gaps-over a.room a.w (length (gap_text a.h)) a.n a.first c.gap_width.ensures c.gaps.ensures c.in_err-b.ensures refl)
