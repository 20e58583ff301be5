use mathlib.Core.Path.{subst}
use Rattle.query.specs.Settings.{limits_of}
use Rattle.prepared.specs.declared.Prepared.{Prepared}
use Rattle.prepared.specs.Pairs.{pairs_begun, pairs_of}
use Rattle.merge_under.specs.Engine.{Stands}
use Rattle.merge_under.specs.Counts.{counted_same}
use Rattle.merge_under.specs.UnderLaws.{finish-asks, merges-refused, merges-doubled, merges-run, cleared-of}
use Prim.Native.Nat.{◌-◌}
use mathlib.Core.Path.{◌≡◌, ap, ◌∙◌}
use lib.ListN.{length}
use borrow.Author.Rules.{rules}
use Rattle.merge_under.proofs.finish.Goals as goal

pub finish-requires : goal.finish-requires
finish-requires c =
    let R = subst (λ (z : Prepared). Stands (limits_of c.args.lim) c.args.s.now c.args.q z c.args.graph.now c.args.terms.now c.args.runs.now) c.in-Go.is c.requires.0 in
    let n : c.args.c.pairs ≡ pairs_begun c.in-Go.b = c.requires.2 ∙ ap pairs_of c.in-Go.is in
    finish-asks (limits_of c.args.lim) c.args.s.now c.args.q c.in-Go.im c.in-Go.b _ (c.counted.ensures ∙ counted_same c.in-Go.b c.args.c.pairs n) _ _ _ _ _ _ R c.requires.1

pub returns-in-Refused : goal.returns-in-Refused
returns-in-Refused c =
    let R = subst (λ (z : Prepared). Stands (limits_of c.args.lim) c.args.s.now c.args.q z c.args.graph.now c.args.terms.now c.args.runs.now) c.in-Refused.is c.requires.0 in
    (merges-refused (limits_of c.args.lim) (length c.args.graph.now) c.args.s.now c.args.q c.in-Refused.k c.args.out.now R.0 R.1, cleared-of c.clear_all.ensures)

pub returns-in-Doubled : goal.returns-in-Doubled
returns-in-Doubled c =
    let R = subst (λ (z : Prepared). Stands (limits_of c.args.lim) c.args.s.now c.args.q z c.args.graph.now c.args.terms.now c.args.runs.now) c.in-Doubled.is c.requires.0 in
    (merges-doubled (limits_of c.args.lim) (length c.args.graph.now) c.args.s.now c.args.q c.in-Doubled.d c.args.out.now R.0 R.1, cleared-of c.clear_all-in-Doubled.ensures)

pub returns-in-Go : goal.returns-in-Go
returns-in-Go c =
    let R = subst (λ (z : Prepared). Stands (limits_of c.args.lim) c.args.s.now c.args.q z c.args.graph.now c.args.terms.now c.args.runs.now) c.in-Go.is c.requires.0 in
    let F = merges-run (limits_of c.args.lim) (length c.args.graph.now) c.args.s.now c.args.q c.in-Go.im R.0 c.args.out.now c.finish.new.out c.finish.result c.finish.ensures.0 c.finish.auto.out in
    (rw c.answer_of.ensures F, cleared-of c.finish.ensures.1)
