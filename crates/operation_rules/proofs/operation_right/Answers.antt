use Rattle.spec.specs.Image.{tables_of, the_operation}
use Rattle.operation_rules.proofs.OperationLaws.{kind-wrong, flag-wrong, flag-right}
use Rattle.operation_rules.proofs.operation_right.Goals as goal

pub returns-then-k-ge10 : goal.returns-then-k-ge10
returns-then-k-ge10 c =
    kind-wrong c.args.im.classes (the_operation (tables_of c.args.s.now) c.args.o) c.kind-k.ensures.0 c.if-k-ge10.true

pub returns-then-flag-flag_of : goal.returns-then-flag-flag_of
returns-then-flag-flag_of c =
    flag-wrong c.args.im.classes (the_operation (tables_of c.args.s.now) c.args.o) c.kind-k.ensures.0 c.if-k-ge10.false
    c.flag.ensures.0 c.flag_of.ensures c.if-flag-flag_of.true

pub returns : goal.returns
returns c =
    flag-right c.args.im.classes (the_operation (tables_of c.args.s.now) c.args.o) c.kind-k.ensures.0 c.if-k-ge10.false
    c.flag.ensures.0 c.flag_of.ensures c.if-flag-flag_of.false c.identity.ensures.0 c.identity_right.ensures
