use Rattle.std.proofs.Common.{◌≡◌, ap, ◌∙◌, ◌++◌, ℕ, List, length, take, drop, replicate, rules, arith}
use lib.Seq.{length-take-le}
use Rattle.numbering.proofs.clear_marks.Goals as goal

pub returns : goal.returns
returns c =
    let a = c.args in
    let e : c.fill.new.self ≡ replicate (length (take a.m a.marks.now)) 0 = search rules in
    ap (λ (l : List ℕ). l ++ drop a.m a.marks.now) (e ∙ ap {B = List ℕ} (λ (n : ℕ). replicate n 0) (length-take-le a.m a.marks.now (omega arith)))
