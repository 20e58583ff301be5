use Prim.Native.Nat.{◌-◌}
use native.Mathlib.Omega.{arith}
use mathlib.Core.Path.{◌≡◌, ap, ◌∙◌}
use lib.ListN.{take}
use borrow.Author.Rules.{rules}
use Rattle.decimals.specs.DecimalLaws.{decimal-short}
use Rattle.decimals.specs.WriteLaws.{wrote-front}
use Rattle.text_cut.specs.CutLaws.{word-as}
use Rattle.text_cut.proofs.cut_decimal.Goals as goal

pub decimal-n-requires : goal.decimal-n-requires
decimal-n-requires c = omega (arith, decimal-short c.long_size.result (search rules))

pub slice_bounds-cut_word-end : goal.slice_bounds-cut_word-end
slice_bounds-cut_word-end c =
    let d = c.decimal-n in
    let n = c.long_size.result in
    omega (arith, d.ensures.after, c.long_size.ensures, decimal-short n (search rules))

pub returns : goal.returns
returns c =
    let d = c.decimal-n in
    let e : d.result - 0 ≡ d.result = omega arith in
    rw (← c.long_size.ensures) (word-as (ap (λ n. take n d.new.out) e ∙ wrote-front d.ensures) c.cut_word.ensures)
