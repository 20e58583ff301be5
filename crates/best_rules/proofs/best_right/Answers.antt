use Rattle.best_rules.proofs.BestLaws.{best-below, best-above, size_none, size-large, size-left, best-room}
use Rattle.spec.specs.Image.{tables_of, the_class}
use Rattle.best_rules.proofs.best_right.Goals as goal

pub returns-then-b-from : goal.returns-then-b-from
returns-then-b-from c =
    best-below (tables_of c.args.s.now) (the_class (tables_of c.args.s.now) c.args.c) c.first_member-from.ensures.0 c.best_member-b.ensures.0 c.if-b-from.true

pub returns-then-b-from-2 : goal.returns-then-b-from-2
returns-then-b-from-2 c =
    best-above (tables_of c.args.s.now) (the_class (tables_of c.args.s.now) c.args.c) c.first_member-from.ensures.0 c.best_member-b.ensures.0 c.if-b-from.false c.member_count.ensures.0 c.if-b-from-2.true

pub returns-then-size-lt1 : goal.returns-then-size-lt1
returns-then-size-lt1 c =
    size_none (tables_of c.args.s.now) (the_class (tables_of c.args.s.now) c.args.c) c.first_member-from.ensures.0 c.best_member-b.ensures.0 c.if-b-from.false c.member_count.ensures.0 c.if-b-from-2.false c.best_size-size.ensures.0 c.if-size-lt1.true

pub returns-then-size-gt-BEST_SIZE : goal.returns-then-size-gt-BEST_SIZE
returns-then-size-gt-BEST_SIZE c =
    size-large (tables_of c.args.s.now) (the_class (tables_of c.args.s.now) c.args.c) c.first_member-from.ensures.0 c.best_member-b.ensures.0 c.if-b-from.false c.member_count.ensures.0 c.if-b-from-2.false c.best_size-size.ensures.0 c.if-size-lt1.false c.if-size-gt-BEST_SIZE.true

pub size_right-requires : goal.size_right-requires
size_right-requires c = (
  c.requires.0,
  best-room c.args.s.now c.args.im c.requires.0 c.requires.2 c.requires.1 c.first_member-from.ensures.0 c.member_count.ensures.0 c.if-b-from-2.false,
  c.if-size-gt-BEST_SIZE.false,
  c.requires.2,
  c.requires.3,
)

pub returns : goal.returns
returns c =
    size-left (tables_of c.args.s.now) (the_class (tables_of c.args.s.now) c.args.c) c.first_member-from.ensures.0 c.best_member-b.ensures.0 c.if-b-from.false c.member_count.ensures.0 c.if-b-from-2.false c.best_size-size.ensures.0 c.if-size-lt1.false c.if-size-gt-BEST_SIZE.false c.size_right.ensures
