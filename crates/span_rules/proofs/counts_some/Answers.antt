use Rattle.image.specs.Loaded.{classes-many}
use Rattle.laws.specs.AcceptedTurns.{all_go, all-stop, all_end}
use Rattle.spec.specs.Image.{tables_of, the_class}
use lib.Dec.{leb}
use borrow.Author.Tests.{le-leb, lt-leb}
use native.Mathlib.Omega.{arith}
use mathlib.Core.Path.{refl, sym, ◌∙◌}
use Rattle.span_rules.proofs.counts_some.Goals as goal

pub loop-c-init : goal.loop-c-init
loop-c-init c = (omega arith, refl)

pub returns-then-member_count-lt1 : goal.returns-then-member_count-lt1
returns-then-member_count-lt1 c =
    let s = c.args.s.now in
    sym (c.loop-c.invariant.1
    ∙ all-stop (λ c. leb 1 c.count) (tables_of s).classes c.loop-c.c _ (omega (arith, classes-many s c.args.im c.requires)) (lt-leb 1 (the_class (tables_of s) c.loop-c.c).count (omega (arith, c.member_count.ensures.0))))

pub loop-c-preserved : goal.loop-c-preserved
loop-c-preserved c =
    let s = c.args.s.now in (
      omega arith,
      c.loop-c.invariant.1
          ∙ sym (all_go (λ c. leb 1 c.count) (tables_of s).classes c.loop-c.c _ (omega (arith, classes-many s c.args.im c.requires)) (le-leb 1 (the_class (tables_of s) c.loop-c.c).count (omega (arith, c.member_count.ensures.0)))),
    )

pub returns : goal.returns
returns c =
    let s = c.args.s.now in
    sym (c.loop-c.invariant.1 ∙ all_end (λ c. leb 1 c.count) (tables_of s).classes c.loop-c.c (omega (arith, classes-many s c.args.im c.requires)))
