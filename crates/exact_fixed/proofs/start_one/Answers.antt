use Rattle.exact_fixed.specs.Starting.{one-refused, one-small, one_has}
use Rattle.image.specs.Loaded.{classes-many}
use Rattle.query.specs.Settings.{limits_of}
use Rattle.spec.specs.Image.{tables_of}
use native.Mathlib.Omega.{arith}
use Rattle.exact_fixed.proofs.start_one.Goals as goal

pub evaluate_generalize_action-requires : goal.evaluate_generalize_action-requires
evaluate_generalize_action-requires c = (c.requires.6, c.requires.0, c.requires.1, c.requires.2, c.requires.3, c.requires.8, c.requires.9, c.requires.7)

pub returns-in_err-t : goal.returns-in_err-t
returns-in_err-t c =
    let a = c.args in
    rw c.from_residual.ensures (one-refused (limits_of a.lim) (tables_of a.s.now) (a.l, a.r) a.terms.now a.runs.now a.best.now _ _ _ (rw c.in_err-t.was at c.evaluate_generalize_action.ensures))

pub short_size-requires : goal.short_size-requires
short_size-requires c =
    let a = c.args in
    let n = classes-many a.s.now a.im c.requires.0 in
    let u = rw c.in_ok-t.was at c.evaluate_generalize_action.ensures in
    one-small (limits_of a.lim) (tables_of a.s.now) c.requires.1 (a.l, a.r) (omega (arith, n, c.requires.2), omega (arith, n, c.requires.3)) a.terms.now a.runs.now a.best.now _ _ _ c.requires.6 _ u

pub returns : goal.returns
returns c =
    let a = c.args in
    let n = classes-many a.s.now a.im c.requires.0 in
    let u = rw c.in_ok-t.was at c.evaluate_generalize_action.ensures in
    one_has (limits_of a.lim) (tables_of a.s.now) c.requires.1 (a.l, a.r) (omega (arith, n, c.requires.2), omega (arith, n, c.requires.3)) a.terms.now a.runs.now a.best.now _ _ _ c.requires.6 _ u a.k c.start_size-size.result c.start_mass-mass.result c.short_size.result a.pairs.now _ c.start_size-size.ensures c.start_mass-mass.ensures c.short_size.ensures c.give.ensures
