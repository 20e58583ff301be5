use Rattle.net.specs.Net.{NODES, HEAD, COUNT, head_of, count_of, left}
use Rattle.std.proofs.Common.{ℕ, ◌+◌, ◌-◌, ◌%◌, List, set, refl, ap, ◌∙◌, rules}
use Rattle.net.proofs.leave.Goals as goal

pub returns : goal.returns
unfolding left
returns c =
    let m = c.args.net.now in (
      refl,
      c.put-3.ensures
          ∙ ap (λ (l : List ℕ). set l COUNT (count_of m - 1)) (c.put-2.ensures
          ∙ ap (λ (l : List ℕ). set l HEAD ((head_of m + 1) % NODES)) c.put.ensures),
    )
