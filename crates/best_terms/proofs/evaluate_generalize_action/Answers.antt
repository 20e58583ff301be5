use Rattle.std.specs.Prelude.{◌≡◌, refl, true, false, not, ℕ, Option, Some, None, is_some}
use Rattle.spec.specs.Image.{tables_of}
use Rattle.best_terms.specs.Starting.{starts-made, starts-full}
use Rattle.query.specs.Settings.{limits_of}
use native.Mathlib.Omega.{arith}
use mathlib.Core.Path.{ap, ◌∙◌}
use Rattle.best_terms.proofs.evaluate_generalize_action.Goals as goal

none_of : (r : Option ℕ) → is_some r ≡ false → r ≡ None
none_of None e = refl
none_of (Some a) e = cc

some_of : (r : Option ℕ) → is_some r ≡ true → (a : ℕ) × (r ≡ Some a)
some_of None e = cc
some_of (Some a) e = (a, refl)

pub returns-then-is_none : goal.returns-then-is_none
returns-then-is_none c =
    let a = c.args in
    let k = c.starting_term-e in
    let x = k.new.terms in
    let y = k.new.runs in
    let z = k.new.best in
    let e = none_of k.result (c.is_none.ensures ∙ ap not c.if-is_none.true) in
    rw e (starts-full (limits_of a.lim) (tables_of a.s.now) (a.l, a.r) a.terms.now a.runs.now a.best.now x y z (omega (arith, k.auto)) (omega (arith, k.auto)) (omega (arith, k.auto)) (rw e at k.ensures) _ _ _ c.clear.ensures)

pub returns-else-is_none : goal.returns-else-is_none
returns-else-is_none c =
    let a = c.args in
    let k = c.starting_term-e in
    let x = k.new.terms in
    let y = k.new.runs in
    let z = k.new.best in
    let (t, e) = some_of k.result (c.is_none.ensures ∙ ap not c.if-is_none.false) in
    rw e (starts-made (limits_of a.lim) (tables_of a.s.now) (a.l, a.r) a.terms.now a.runs.now a.best.now x y z t (omega (arith, k.auto)) (rw e at k.ensures))
