use Rattle.net.specs.Net.{joined}
use Rattle.std.proofs.Common.{◌-◌, refl, rules}
use Rattle.net.proofs.join.Goals as goal

pub returns : goal.returns
unfolding joined
returns c =
    rw (c.put-3.ensures, c.put-2.ensures, c.put.ensures, c.wrapping_add_u64-n.ensures.value, c.wrapping_add_u64.ensures.value) refl
