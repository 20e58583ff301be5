use Rattle.decimals.specs.WriteLaws.{wrote-front}
use Rattle.listing.specs.BehindLaws.{lists-behind}
use Prim.Native.Nat.{◌-◌}
use native.Mathlib.Omega.{arith}
use mathlib.Core.Path.{◌≡◌, ap, ◌∙◌}
use lib.ListN.{take}
use Rattle.listing.proofs.list.Goals as goal

pub returns : goal.returns
returns c =
    let w = c.write_first-w in
    let e : w.result - 0 ≡ w.result = omega arith in
    lists-behind c.args.terms.now c.args.runs.now c.args.root c.args.f _ c.args.marks.now c.args.out.now _ _ _ (ap (λ n. take n w.new.line) e ∙ wrote-front w.ensures.0) c.list_behind.ensures
