use Rattle.search_laws.specs.PathLaws.{sent-kept}
use Rattle.augment.proofs.Augments.{low_of, ready_of, not-sent, way, units-fit, path-steps, sent-along}
use Rattle.search_laws.specs.Walk.{steps_from, LAST}
use Prim.Native.Nat.{ℕ, ◌-◌, ◌*◌}
use mathlib.Core.Path.{refl, ap, ◌∙◌}
use mathlib.Core.List.{List}
use lib.ListN.{length, drop}
use Rattle.augment.proofs.augment.Goals as goal

pub balance-requires : goal.balance-requires
balance-requires c = (c.requires.0, c.requires.1, refl, refl, c.requires.4, low_of c.requires.8 c.requires.3)

pub search-requires : goal.search-requires
search-requires c = let y = c.balance.new.left in let B = c.balance.ensures in (c.requires.0, c.requires.1, c.requires.2, c.requires.3, c.requires.5, ready_of c.requires.8 y B)

pub trace-from-requires : goal.trace-from-requires
trace-from-requires c = let a = c.args in let M = c.requires.8 in let y = c.balance.new.left in let B = c.balance.ensures in let m = c.search.new.net in let w = way M y B m (rw c.if-search.true at (c.search.ensures.2 (ready_of M y B))) in (w.leads, c.requires.6)

pub bottleneck-n-requires : goal.bottleneck-n-requires
bottleneck-n-requires c = let a = c.args in let M = c.requires.8 in let y = c.balance.new.left in let B = c.balance.ensures in let m = c.search.new.net in let w = way M y B m (rw c.if-search.true at (c.search.ensures.2 (ready_of M y B))) in let l = steps_from c.trace-from.new.path (LAST - c.trace-from.result) c.trace-from.result in (c.requires.0, c.requires.1, c.requires.2, c.requires.3, c.trace-from.ensures.0, path-steps M y m w l c.trace-from.ensures.2)

pub send-requires : goal.send-requires
send-requires c = let a = c.args in let M = c.requires.8 in let y = c.balance.new.left in let B = c.balance.ensures in let m = c.search.new.net in let w = way M y B m (rw c.if-search.true at (c.search.ensures.2 (ready_of M y B))) in let l = steps_from c.trace-from.new.path (LAST - c.trace-from.result) c.trace-from.result in (c.requires.0, c.requires.1, c.requires.3, c.trace-from.ensures.0, path-steps M y m w l c.trace-from.ensures.2, units-fit M y m w a.rest c.bottleneck-n.result l c.requires.7 c.trace-from.ensures.2 c.bottleneck-n.ensures c.requires.3)

pub returns-then-search : goal.returns-then-search
returns-then-search c = let a = c.args in let M = c.requires.8 in let y = c.balance.new.left in let B = c.balance.ensures in let m = c.search.new.net in let w = way M y B m (rw c.if-search.true at (c.search.ensures.2 (ready_of M y B))) in let l = steps_from c.trace-from.new.path (LAST - c.trace-from.result) c.trace-from.result in (
  B.size,
  (c.search.ensures.2 (ready_of M y B)).net.size,
  c.trace-from.ensures.1,
  λ M'. sent-along M' y m (way M' y B m (rw c.if-search.true at (c.search.ensures.2 (ready_of M' y B)))) a.rest c.bottleneck-n.result l c.send.new.flow c.trace-from.ensures.2 c.bottleneck-n.ensures c.send.ensures c.requires.3,
  ap (λ (f : List ℕ). drop (length a.supply.now * length a.demand.now) f) c.send.ensures ∙ sent-kept (length a.supply.now) (length a.demand.now) c.bottleneck-n.result l a.flow.now (path-steps M y m w l c.trace-from.ensures.2),
)

pub returns : goal.returns
returns c = let a = c.args in let y = c.balance.new.left in let B = c.balance.ensures in let m = c.search.new.net in
    (B.size, (c.search.ensures.2 (ready_of c.requires.8 y B)).net.size, c.requires.6, λ M'. not-sent M' y B m a.rest a.flow.now (rw c.if-search.false at (c.search.ensures.2 (ready_of M' y B))), refl)
