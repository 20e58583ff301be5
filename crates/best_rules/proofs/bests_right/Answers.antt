use mathlib.Core.Path.{ap}
use mathlib.Core.Bool.{not}
use Rattle.image.specs.Loaded.{classes-many}
use Rattle.laws.specs.AcceptedTurns.{all_go, all-stop, all_end, failed, passed}
use Rattle.spec.specs.Image.{best_right, tables_of}
use native.Mathlib.Omega.{arith}
use mathlib.Core.Path.{refl, sym, ◌∙◌}
use Rattle.best_rules.proofs.bests_right.Goals as goal

pub loop-c-init : goal.loop-c-init
loop-c-init c = (omega arith, refl)

pub returns-then-not-best_right : goal.returns-then-not-best_right
returns-then-not-best_right c =
    let s = c.args.s.now in
    sym (c.loop-c.invariant.1
    ∙ all-stop (best_right (tables_of s)) (tables_of s).classes c.loop-c.c _ (omega (arith, classes-many s c.args.im c.requires.0)) (failed c.best_right.ensures (ap not c.if-not-best_right.true)))

pub loop-c-preserved : goal.loop-c-preserved
loop-c-preserved c =
    let s = c.args.s.now in (
      omega arith,
      c.loop-c.invariant.1
          ∙ sym (all_go (best_right (tables_of s)) (tables_of s).classes c.loop-c.c _ (omega (arith, classes-many s c.args.im c.requires.0)) (passed c.best_right.ensures (ap not c.if-not-best_right.false))),
    )

pub returns : goal.returns
returns c =
    let s = c.args.s.now in
    sym (c.loop-c.invariant.1 ∙ all_end (best_right (tables_of s)) (tables_of s).classes c.loop-c.c (omega (arith, classes-many s c.args.im c.requires.0)))
