use Rattle.laws.specs.Doubled.{doubled_later, first-later}
use Rattle.laws.specs.Firsts.{turn-stop, turn_more, turn_end}
use Rattle.image.specs.Loaded.{classes-many}
use Rattle.spec.specs.Image.{tables_of}
use native.Mathlib.Omega.{arith}
use mathlib.Core.Path.{◌≡◌, refl, ◌∙◌}
use lib.ListN.{length}
use Rattle.literals.proofs.first_doubled.Goals as goal

pub loop-c-init : goal.loop-c-init
loop-c-init c = refl

pub returns-then-class_doubled : goal.returns-then-class_doubled
returns-then-class_doubled c =
    let t = tables_of c.args.s.now in
    turn-stop (doubled_later t) 0 (length t.classes) c.loop-c.c c.loop-c.invariant c.class_doubled.result (omega (arith, c.loop-c-test.true, classes-many c.args.s.now c.args.im c.requires.0)) c.class_doubled.ensures c.if-class_doubled.true
    ∙ first-later t

pub loop-c-preserved : goal.loop-c-preserved
loop-c-preserved c =
    let t = tables_of c.args.s.now in
    turn_more (doubled_later t) 0 (length t.classes) c.loop-c.c c.loop-c.invariant c.class_doubled.result (omega (arith, c.loop-c-test.true, classes-many c.args.s.now c.args.im c.requires.0)) c.class_doubled.ensures c.if-class_doubled.false

pub returns : goal.returns
returns c =
    let t = tables_of c.args.s.now in
    let e : c.args.im.classes ≡ c.loop-c.c = omega arith in
    e ∙ turn_end (doubled_later t) 0 (length t.classes) c.loop-c.c c.loop-c.invariant (omega (arith, c.loop-c-test.false, classes-many c.args.s.now c.args.im c.requires.0))
    ∙ first-later t
