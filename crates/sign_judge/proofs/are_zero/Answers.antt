use Rattle.std.proofs.Common.{rules, tests, ◌∙◌, ◌-◌, take, drop}
use Rattle.std.proofs.lemmas.Iterator.{YieldsList-from_slice}
use Rattle.std.proofs.lemmas.Iterator.Search.{all_from_yields_List}
use Rattle.sign_judge.specs.SignTests.{all-between}
use Rattle.sign_judge.specs.Judging.{is_zero}
use Rattle.sign_judge.proofs.are_zero.Goals as goal

pub returns : goal.returns
returns c =
    let a = c.args in
    let e = all_from_yields_List is_zero _ _ c.all.result c.all.ensures.ran (YieldsList-from_slice (take (a.to - a.from) (drop a.from a.table.now)) cc) (λ x b q k. search (rules, tests)) in
    e ∙ all-between is_zero a.table.now a.from a.to c.requires.0 c.requires.1
