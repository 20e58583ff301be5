use Rattle.image.specs.Loaded.{members-many}
use Rattle.laws.specs.AcceptedTurns.{any-go, any-stop, any-end}
use Rattle.laws.specs.AcceptedLiterals.{is_literal}
use Rattle.spec.specs.Image.{tables_of}
use native.Mathlib.Omega.{arith}
use mathlib.Core.Path.{refl, sym, ◌∙◌}
use Rattle.class_literals.proofs.literal_from.Goals as goal

pub loop-m-init : goal.loop-m-init
loop-m-init c = refl

pub returns-then-is_literal : goal.returns-then-is_literal
returns-then-is_literal c =
    let s = c.args.s.now in
    sym (c.loop-m.invariant
    ∙ any-stop (is_literal (tables_of s) (c.args.o, c.args.v)) (tables_of s).members c.loop-m.m _ (omega (arith, members-many s c.args.im c.requires.0)) (sym c.is_literal.ensures ∙ c.if-is_literal.true))

pub loop-m-preserved : goal.loop-m-preserved
loop-m-preserved c =
    let s = c.args.s.now in
    c.loop-m.invariant
    ∙ sym (any-go (is_literal (tables_of s) (c.args.o, c.args.v)) (tables_of s).members c.loop-m.m _ (omega (arith, members-many s c.args.im c.requires.0)) (sym c.is_literal.ensures ∙ c.if-is_literal.false))

pub returns : goal.returns
returns c =
    let s = c.args.s.now in
    sym (c.loop-m.invariant ∙ any-end (is_literal (tables_of s) (c.args.o, c.args.v)) (tables_of s).members c.loop-m.m (omega (arith, members-many s c.args.im c.requires.0)))
