use Rattle.padding.proofs.Padding.{level-more, level-none, level-same, level-room}
use Rattle.monomial_terms.specs.TermLaws.{held_same}
use Rattle.monomial_terms.specs.Terms.{held}
use native.Mathlib.Omega.{arith}
use Rattle.padding.proofs.level.Goals as goal
use Rattle.padding.proofs.level.Goals.{else-a-b-via-then-a-b+else-id-ne-NO_IDENTITY, else-a-b-via-else-a-b}

pub add_class-requires : goal.add_class-requires
add_class-requires c =
    level-room c.args.n c.args.a c.args.b c.args.mono.now c.requires.0 c.requires.1 c.requires.2 c.requires.3 c.if-a-b.true

pub returns-then-id-ne-NO_IDENTITY : goal.returns-then-id-ne-NO_IDENTITY
returns-then-id-ne-NO_IDENTITY c =
    level-more (held c.args.n c.args.mono.now) c.args.id c.args.a c.args.b c.args.mono.now c.add_class.new.mono c.add_class.result c.long_size.result
    c.if-a-b.true c.if-id-ne-NO_IDENTITY.true c.long_size.ensures c.add_class.ensures

pub returns : goal.returns
returns c =
    let d = held_same c.args.n c.args.mono.now c.requires.0 (omega arith) in
    elim c.else-a-b.branch [
      | else-a-b-via-then-a-b+else-id-ne-NO_IDENTITY w ↦ level-none (held c.args.n c.args.mono.now) c.args.id c.args.a c.args.b c.args.mono.now c.args.mono.now c.args.n w.if-id-ne-NO_IDENTITY.false d
      | else-a-b-via-else-a-b w ↦ level-same (held c.args.n c.args.mono.now) c.args.id c.args.a c.args.b c.args.mono.now c.args.mono.now c.args.n w.if-a-b.false d
    ]
