use Rattle.std.proofs.Common.{◌≡◌, ap, ◌∙◌, ◌++◌, ℕ, List, length, take, drop, replicate, rules, arith}
use lib.Seq.{length-take-le}
use Rattle.terms.specs.Buffers.{LEAST}
use Rattle.terms.specs.Emptying.{emptied}
use Rattle.terms.proofs.empty.Goals as goal

pub returns : goal.returns
unfolding emptied
returns c =
    let t = c.args.terms.now in
    let e : c.fill.new.self ≡ replicate (length (take LEAST t)) 0 = search rules in
    ap (λ (l : List ℕ). l ++ drop LEAST t) (e ∙ ap {B = List ℕ} (λ (n : ℕ). replicate n 0) (length-take-le LEAST t (omega arith)))
