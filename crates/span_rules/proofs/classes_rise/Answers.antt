use mathlib.Core.Path.{ap}
use mathlib.Core.Bool.{not}
use Rattle.image.specs.Loaded.{classes-many}
use Rattle.laws.specs.AcceptedTurns.{all_go, all-stop, all_end, failed, passed}
use Rattle.spec.specs.Image.{members_in, rises, tables_of}
use mathlib.Core.List.{map}
use native.Mathlib.Omega.{arith}
use mathlib.Core.Path.{refl, sym, ◌∙◌}
use Rattle.span_rules.proofs.classes_rise.Goals as goal

pub loop-c-init : goal.loop-c-init
loop-c-init c = (omega arith, refl)

pub returns-then-not-class_rises : goal.returns-then-not-class_rises
returns-then-not-class_rises c =
    let s = c.args.s.now in
    sym (c.loop-c.invariant.1
    ∙ all-stop (λ c. rises (map (λ m. m.op) (members_in (tables_of s) c))) (tables_of s).classes c.loop-c.c _ (omega (arith, classes-many s c.args.im c.requires.0)) (failed c.class_rises.ensures (ap not c.if-not-class_rises.true)))

pub loop-c-preserved : goal.loop-c-preserved
loop-c-preserved c =
    let s = c.args.s.now in (
      omega arith,
      c.loop-c.invariant.1
          ∙ sym (all_go (λ c. rises (map (λ m. m.op) (members_in (tables_of s) c))) (tables_of s).classes c.loop-c.c _ (omega (arith, classes-many s c.args.im c.requires.0)) (passed c.class_rises.ensures (ap not c.if-not-class_rises.false))),
    )

pub returns : goal.returns
returns c =
    let s = c.args.s.now in
    sym (c.loop-c.invariant.1 ∙ all_end (λ c. rises (map (λ m. m.op) (members_in (tables_of s) c))) (tables_of s).classes c.loop-c.c (omega (arith, classes-many s c.args.im c.requires.0)))
