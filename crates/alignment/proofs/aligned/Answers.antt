use Rattle.alignment.proofs.Many.{other-op, spair-many, ac-many, lit-many, unequal-many, equal-many}
use Rattle.alignment.specs.Members.{op-number, count-number}
use Rattle.spec.specs.Image.{SPair, tables_of, the_member, kind_of}
use mathlib.Core.Path.{◌≡◌, sym, ap, ◌∙◌}
use borrow.Author.Rules.{rules}
use Rattle.alignment.proofs.aligned.Goals as goal

pub returns-then-member_op-o : goal.returns-then-member_op-o
returns-then-member_op-o c =
    let t = tables_of c.args.s.now in let x = the_member t c.args.a in let y = the_member t c.args.b in
    other-op t x y (λ e. c.if-member_op-o.true (c.member_op.ensures.0 ∙ e ∙ sym c.member_op-o.ensures.0))

pub kind-k-requires : goal.kind-k-requires
kind-k-requires c = (c.requires.0, op-number c.args.s.now c.args.im c.requires.0 c.requires.1 c.args.a c.requires.2 c.member_op-o.ensures.0)

pub both_ways-requires : goal.both_ways-requires
both_ways-requires c =
    let t = tables_of c.args.s.now in let x = the_member t c.args.a in let y = the_member t c.args.b in
    let k : kind_of t x.op ≡ SPair = sym (c.kind-k.ensures.0 ∙ ap (kind_of t) c.member_op-o.ensures.0) ∙ c.if-k-eq-SPAIR.true in
    let e : y.op ≡ x.op = sym c.member_op.ensures.0 ∙ c.if-member_op-o.false ∙ c.member_op-o.ensures.0 in
    (c.requires.0, c.requires.1, c.requires.2, c.requires.3, k, ap (kind_of t) e ∙ k)

pub returns-then-k-eq-SPAIR : goal.returns-then-k-eq-SPAIR
returns-then-k-eq-SPAIR c =
    let t = tables_of c.args.s.now in let x = the_member t c.args.a in let y = the_member t c.args.b in
    spair-many t x y (c.kind-k.ensures.0 ∙ ap (kind_of t) c.member_op-o.ensures.0) (sym c.member_op.ensures.0 ∙ c.if-member_op-o.false ∙ c.member_op-o.ensures.0) c.if-k-eq-SPAIR.true c.both_ways.ensures

pub returns-then-is_ac : goal.returns-then-is_ac
returns-then-is_ac c =
    let t = tables_of c.args.s.now in let x = the_member t c.args.a in let y = the_member t c.args.b in
    ac-many t x y (c.kind-k.ensures.0 ∙ ap (kind_of t) c.member_op-o.ensures.0) (sym c.member_op.ensures.0 ∙ c.if-member_op-o.false ∙ c.member_op-o.ensures.0) c.if-k-eq-SPAIR.false (sym c.if-is_ac.true ∙ c.is_ac.ensures)

pub returns-then-k-eq-LIT : goal.returns-then-k-eq-LIT
returns-then-k-eq-LIT c =
    let t = tables_of c.args.s.now in let x = the_member t c.args.a in let y = the_member t c.args.b in
    lit-many t x y (c.kind-k.ensures.0 ∙ ap (kind_of t) c.member_op-o.ensures.0) (sym c.member_op.ensures.0 ∙ c.if-member_op-o.false ∙ c.member_op-o.ensures.0) c.if-k-eq-SPAIR.false (sym c.if-is_ac.false ∙ c.is_ac.ensures) c.if-k-eq-LIT.true

pub returns-then-child_count : goal.returns-then-child_count
returns-then-child_count c =
    let t = tables_of c.args.s.now in let x = the_member t c.args.a in let y = the_member t c.args.b in
    unequal-many t x y (c.kind-k.ensures.0 ∙ ap (kind_of t) c.member_op-o.ensures.0) (sym c.member_op.ensures.0 ∙ c.if-member_op-o.false ∙ c.member_op-o.ensures.0) c.if-k-eq-SPAIR.false (sym c.if-is_ac.false ∙ c.is_ac.ensures) c.if-k-eq-LIT.false
    (λ e. c.if-child_count.true (count-number c.args.s.now c.args.im c.requires.0 c.requires.1 c.args.a c.requires.2 c.child_count.ensures.0 ∙ e ∙ sym (count-number c.args.s.now c.args.im c.requires.0 c.requires.1 c.args.b c.requires.3 c.child_count-2.ensures.0)))

pub returns : goal.returns
returns c =
    let t = tables_of c.args.s.now in let x = the_member t c.args.a in let y = the_member t c.args.b in
    equal-many t x y (c.kind-k.ensures.0 ∙ ap (kind_of t) c.member_op-o.ensures.0) (sym c.member_op.ensures.0 ∙ c.if-member_op-o.false ∙ c.member_op-o.ensures.0) c.if-k-eq-SPAIR.false (sym c.if-is_ac.false ∙ c.is_ac.ensures) c.if-k-eq-LIT.false
    (sym (count-number c.args.s.now c.args.im c.requires.0 c.requires.1 c.args.a c.requires.2 c.child_count.ensures.0) ∙ c.if-child_count.false ∙ count-number c.args.s.now c.args.im c.requires.0 c.requires.1 c.args.b c.requires.3 c.child_count-2.ensures.0)
