use Rattle.query.specs.Settings.{limits_of}
use Rattle.terms.specs.PoolLaws.{rooms_same}
use native.Mathlib.Nat.{not-suc-le-zero}
use lib.ListN.{replicate, get_or-replicate, length-replicate}
use Rattle.spec.specs.Image.{tables_of}
use Rattle.image.specs.Loaded.{classes-many}
use Rattle.best_terms.specs.Building.{walk_start, more-built, turn-class, turn-fits, turn-member, turn-child, turn_inside, turn-ready, turn-falls, turn-down, turn-full, turn_small, turn_end, turn_up, turn-less}
use Prim.Native.Nat.{ℕ, ◌-◌, ◌+◌}
use native.Mathlib.Omega.{arith}
use mathlib.Core.Path.{◌≡◌, refl, ap, sym, ◌∙◌}
use lib.ListN.{length, length-set}
use Rattle.best_terms.proofs.build_best_term.Goals as goal

pub outer-init : goal.outer-init
outer-init c =
    let a = c.args in
    (walk_start (limits_of a.lim) (tables_of a.s.now) a.class a.terms.now a.runs.now a.best.now c.requires.0 c.requires.5 (omega (arith, c.requires.3, classes-many a.s.now a.im c.requires.1)) c.requires.6 (replicate 256 0) (get_or-replicate 256 a.class 0 0 (omega (arith, c.requires.3, classes-many a.s.now a.im c.requires.1, c.requires.2.counts.few_classes))), c.requires.4, length-replicate {A = ℕ} 256 0, refl, refl)

pub best_member-m-requires : goal.best_member-m-requires
best_member-m-requires c =
    let a = c.args in
    let o = c.outer in
    (c.requires.1, turn-class (limits_of a.lim) a.s.now a.im c.requires.1 c.requires.2 a.terms.now a.runs.now a.best.now a.class o.terms o.runs o.best o.waiting o.c o.invariant.0 o.invariant.1)

pub first_child-k-requires : goal.first_child-k-requires
first_child-k-requires c =
    let a = c.args in
    let o = c.outer in
    (c.requires.1, turn-member (limits_of a.lim) a.s.now a.im c.requires.1 c.requires.2 a.terms.now a.runs.now a.best.now a.class o.terms o.runs o.best o.waiting o.c o.invariant.0 o.invariant.1 c.best_member-m.result c.best_member-m.ensures.0)

pub child_count-n-requires : goal.child_count-n-requires
child_count-n-requires c =
    let a = c.args in
    let o = c.outer in
    (c.requires.1, turn-member (limits_of a.lim) a.s.now a.im c.requires.1 c.requires.2 a.terms.now a.runs.now a.best.now a.class o.terms o.runs o.best o.waiting o.c o.invariant.0 o.invariant.1 c.best_member-m.result c.best_member-m.ensures.0)

pub loop-i-init : goal.loop-i-init
loop-i-init c =
    (refl, refl, λ j h. absurd (not-suc-le-zero h))

pub member_term-requires : goal.member_term-requires
member_term-requires c =
    let a = c.args in
    let o = c.outer in
    let l = c.loop-i in
    let r = turn-ready (limits_of a.lim) a.s.now a.im c.requires.1 c.requires.2 a.terms.now a.runs.now a.best.now a.class o.terms o.runs o.best o.waiting o.c o.invariant.0 o.invariant.1 c.best_member-m.result c.best_member-m.ensures.0 c.first_child-k.result c.child_count-n.result c.first_child-k.ensures.0 c.child_count-n.ensures.0 (λ j h. l.invariant.2 j (omega arith)) in
    (o.invariant.0.holds, c.requires.1, turn-member (limits_of a.lim) a.s.now a.im c.requires.1 c.requires.2 a.terms.now a.runs.now a.best.now a.class o.terms o.runs o.best o.waiting o.c o.invariant.0 o.invariant.1 c.best_member-m.result c.best_member-m.ensures.0, r.0, r.1, r.2, rooms_same o.invariant.3 o.invariant.4 c.requires.7)

pub shape_of-terms-in_err-t : goal.shape_of-terms-in_err-t
shape_of-terms-in_err-t c =
    let o = c.outer in
    let l = c.loop-i in
    omega (arith, o.invariant.3, c.member_term.auto)

pub shape_of-runs-in_err-t : goal.shape_of-runs-in_err-t
shape_of-runs-in_err-t c =
    let o = c.outer in
    let l = c.loop-i in
    omega (arith, o.invariant.4, c.member_term.auto)

pub returns-in_err-t : goal.returns-in_err-t
returns-in_err-t c =
    let a = c.args in
    let o = c.outer in
    let l = c.loop-i in
    rw c.from_residual.ensures (turn-full (limits_of a.lim) a.s.now a.im c.requires.1 c.requires.2 a.terms.now a.runs.now a.best.now a.class o.terms o.runs o.best o.waiting o.c o.invariant.0 o.invariant.1 c.best_member-m.result c.best_member-m.ensures.0 c.first_child-k.result c.child_count-n.result c.first_child-k.ensures.0 c.child_count-n.ensures.0 (λ j h. l.invariant.2 j (omega arith)) _ _ (rw c.in_err-t.was at c.member_term.ensures))

pub overflow_add-k : goal.overflow_add-k
overflow_add-k c =
    let a = c.args in
    let o = c.outer in
    let l = c.loop-i in
    omega (arith, turn-child (limits_of a.lim) a.s.now a.im c.requires.1 c.requires.2 a.terms.now a.runs.now a.best.now a.class o.terms o.runs o.best o.waiting o.c o.invariant.0 o.invariant.1 c.best_member-m.result c.best_member-m.ensures.0 c.first_child-k.result c.child_count-n.result c.first_child-k.ensures.0 c.child_count-n.ensures.0 l.i (omega arith), c.first_child-k.ensures.1)

pub child_class-d-requires : goal.child_class-d-requires
child_class-d-requires c =
    let a = c.args in
    let o = c.outer in
    let l = c.loop-i in
    (c.requires.1, turn-child (limits_of a.lim) a.s.now a.im c.requires.1 c.requires.2 a.terms.now a.runs.now a.best.now a.class o.terms o.runs o.best o.waiting o.c o.invariant.0 o.invariant.1 c.best_member-m.result c.best_member-m.ensures.0 c.first_child-k.result c.child_count-n.result c.first_child-k.ensures.0 c.child_count-n.ensures.0 l.i (omega arith))

pub at_u16-requires : goal.at_u16-requires
at_u16-requires c =
    let a = c.args in
    let o = c.outer in
    let l = c.loop-i in
    omega (arith, turn_inside (limits_of a.lim) a.s.now a.im c.requires.1 c.requires.2 a.terms.now a.runs.now a.best.now a.class o.terms o.runs o.best o.waiting o.c o.invariant.0 o.invariant.1 c.best_member-m.result c.best_member-m.ensures.0 c.first_child-k.result c.child_count-n.result c.first_child-k.ensures.0 c.child_count-n.ensures.0 l.i (omega arith), c.child_class-d.ensures.0, o.invariant.1)

pub overflow_add-c : goal.overflow_add-c
overflow_add-c c =
    let a = c.args in
    let o = c.outer in
    let l = c.loop-i in
    omega (arith, turn-fits (limits_of a.lim) a.s.now a.im c.requires.1 c.requires.2 a.terms.now a.runs.now a.best.now a.class o.terms o.runs o.best o.waiting o.c o.invariant.0 o.invariant.1, l.invariant.1)

pub put_u16-requires : goal.put_u16-requires
put_u16-requires c =
    let a = c.args in
    let o = c.outer in
    let l = c.loop-i in
    (omega (arith, turn_inside (limits_of a.lim) a.s.now a.im c.requires.1 c.requires.2 a.terms.now a.runs.now a.best.now a.class o.terms o.runs o.best o.waiting o.c o.invariant.0 o.invariant.1 c.best_member-m.result c.best_member-m.ensures.0 c.first_child-k.result c.child_count-n.result c.first_child-k.ensures.0 c.child_count-n.ensures.0 l.i (omega arith), c.child_class-d.ensures.0, o.invariant.2, ap length l.invariant.0), omega (arith, turn-fits (limits_of a.lim) a.s.now a.im c.requires.1 c.requires.2 a.terms.now a.runs.now a.best.now a.class o.terms o.runs o.best o.waiting o.c o.invariant.0 o.invariant.1, l.invariant.1))

pub outer-smaller-then-at_u16-eq0 : goal.outer-smaller-then-at_u16-eq0
outer-smaller-then-at_u16-eq0 c =
    let a = c.args in
    let o = c.outer in
    let l = c.loop-i in
    omega (arith, turn-falls (limits_of a.lim) a.s.now a.im c.requires.1 c.requires.2 a.terms.now a.runs.now a.best.now a.class o.terms o.runs o.best o.waiting o.c o.invariant.0 o.invariant.1 c.best_member-m.result c.best_member-m.ensures.0 c.first_child-k.result c.child_count-n.result c.first_child-k.ensures.0 c.child_count-n.ensures.0 l.i c.child_class-d.result (omega arith) c.child_class-d.ensures.0)

pub outer-preserved-then-at_u16-eq0 : goal.outer-preserved-then-at_u16-eq0
outer-preserved-then-at_u16-eq0 c =
    let a = c.args in
    let o = c.outer in
    let l = c.loop-i in
    let w = turn-down (limits_of a.lim) a.s.now a.im c.requires.1 c.requires.2 a.terms.now a.runs.now a.best.now a.class o.terms o.runs o.best o.waiting o.c o.invariant.0 o.invariant.1 c.best_member-m.result c.best_member-m.ensures.0 c.first_child-k.result c.child_count-n.result c.first_child-k.ensures.0 c.child_count-n.ensures.0 l.i c.child_class-d.result (omega arith) c.child_class-d.ensures.0 l.invariant.2 (sym c.at_u16.ensures.0 ∙ c.if-at_u16-eq0.true) (omega (arith, turn_inside (limits_of a.lim) a.s.now a.im c.requires.1 c.requires.2 a.terms.now a.runs.now a.best.now a.class o.terms o.runs o.best o.waiting o.c o.invariant.0 o.invariant.1 c.best_member-m.result c.best_member-m.ensures.0 c.first_child-k.result c.child_count-n.result c.first_child-k.ensures.0 c.child_count-n.ensures.0 l.i (omega arith), c.child_class-d.ensures.0, o.invariant.2)) in
    (rw (c.put_u16.ensures, l.invariant.0, l.invariant.1) w, o.invariant.1, rw (c.put_u16.ensures, l.invariant.0) (length-set o.waiting _ _ ∙ o.invariant.2), o.invariant.3, o.invariant.4)

pub loop-i-preserved : goal.loop-i-preserved
loop-i-preserved c =
    let a = c.args in
    let o = c.outer in
    let l = c.loop-i in
    (l.invariant.0, l.invariant.1, more-built o.best (tables_of a.s.now) c.first_child-k.result l.i c.child_class-d.result c.child_class-d.ensures.0 (omega (arith, c.at_u16.ensures.0, c.if-at_u16-eq0.false)) l.invariant.2)

pub overflow_add-t : goal.overflow_add-t
overflow_add-t c =
    let a = c.args in
    let o = c.outer in
    let l = c.loop-i in
    omega (arith, turn_small (limits_of a.lim) a.s.now a.im c.requires.1 c.requires.2 a.terms.now a.runs.now a.best.now a.class o.terms o.runs o.best o.waiting o.c o.invariant.0 o.invariant.1 c.best_member-m.result c.best_member-m.ensures.0 c.first_child-k.result c.child_count-n.result c.first_child-k.ensures.0 c.child_count-n.ensures.0 (λ j h. l.invariant.2 j (omega arith)) _ _ _ (rw c.in_ok-t.was at c.member_term.ensures))

pub put_u16-requires-in-outer : goal.put_u16-requires-in-outer
put_u16-requires-in-outer c =
    let a = c.args in
    let o = c.outer in
    let l = c.loop-i in
    (omega (arith, turn-fits (limits_of a.lim) a.s.now a.im c.requires.1 c.requires.2 a.terms.now a.runs.now a.best.now a.class o.terms o.runs o.best o.waiting o.c o.invariant.0 o.invariant.1, l.invariant.1, o.invariant.1), omega (arith, turn_small (limits_of a.lim) a.s.now a.im c.requires.1 c.requires.2 a.terms.now a.runs.now a.best.now a.class o.terms o.runs o.best o.waiting o.c o.invariant.0 o.invariant.1 c.best_member-m.result c.best_member-m.ensures.0 c.first_child-k.result c.child_count-n.result c.first_child-k.ensures.0 c.child_count-n.ensures.0 (λ j h. l.invariant.2 j (omega arith)) _ _ _ (rw c.in_ok-t.was at c.member_term.ensures)))

pub slice_bounds-at_u16-end : goal.slice_bounds-at_u16-end
slice_bounds-at_u16-end c =
    let o = c.outer in
    let l = c.loop-i in
    omega (arith, ap length l.invariant.0, o.invariant.2)

pub at_u16-q-requires : goal.at_u16-q-requires
at_u16-q-requires c =
    let a = c.args in
    let o = c.outer in
    let l = c.loop-i in
    omega (arith, turn-fits (limits_of a.lim) a.s.now a.im c.requires.1 c.requires.2 a.terms.now a.runs.now a.best.now a.class o.terms o.runs o.best o.waiting o.c o.invariant.0 o.invariant.1, l.invariant.1, ap length l.invariant.0, o.invariant.2)

pub shape_of-terms-then-q-eq0 : goal.shape_of-terms-then-q-eq0
shape_of-terms-then-q-eq0 c =
    let o = c.outer in
    let l = c.loop-i in
    omega (arith, o.invariant.3, c.member_term.auto)

pub shape_of-runs-then-q-eq0 : goal.shape_of-runs-then-q-eq0
shape_of-runs-then-q-eq0 c =
    let o = c.outer in
    let l = c.loop-i in
    omega (arith, o.invariant.4, c.member_term.auto)

pub shape_of-best-then-q-eq0 : goal.shape_of-best-then-q-eq0
shape_of-best-then-q-eq0 c =
    let a = c.args in
    let o = c.outer in
    omega (arith, o.invariant.1, c.requires.4, c.put_u16-in-outer.auto)

pub returns-then-q-eq0 : goal.returns-then-q-eq0
returns-then-q-eq0 c =
    let a = c.args in
    let o = c.outer in
    let l = c.loop-i in
    let z = rw (l.invariant.0, l.invariant.1) at (sym c.at_u16-q.ensures.0 ∙ c.if-q-eq0.true) in
    rw (c.put_u16-in-outer.ensures, l.invariant.1) (turn_end (limits_of a.lim) a.s.now a.im c.requires.1 c.requires.2 a.terms.now a.runs.now a.best.now a.class o.terms o.runs o.best o.waiting o.c o.invariant.0 o.invariant.1 c.best_member-m.result c.best_member-m.ensures.0 c.first_child-k.result c.child_count-n.result c.first_child-k.ensures.0 c.child_count-n.ensures.0 (λ j h. l.invariant.2 j (omega arith)) _ _ _ (rw c.in_ok-t.was at c.member_term.ensures) z)

pub outer-smaller : goal.outer-smaller
outer-smaller c =
    let a = c.args in
    let o = c.outer in
    let l = c.loop-i in
    let q = c.at_u16-q.result in
    let e : q ≡ q - 1 + 1 = omega (arith, c.if-q-eq0.false) in
    let z = rw (l.invariant.0, l.invariant.1) at (sym c.at_u16-q.ensures.0) ∙ e in
    rw (c.put_u16-in-outer.ensures, l.invariant.1) (turn-less (limits_of a.lim) a.s.now a.im c.requires.1 c.requires.2 a.terms.now a.runs.now a.best.now a.class o.terms o.runs o.best o.waiting o.c o.invariant.0 o.invariant.1 c.best_member-m.result c.best_member-m.ensures.0 c.first_child-k.result c.child_count-n.result c.first_child-k.ensures.0 c.child_count-n.ensures.0 (λ j h. l.invariant.2 j (omega arith)) _ _ _ (rw c.in_ok-t.was at c.member_term.ensures) (q - 1) (turn_up (limits_of a.lim) a.s.now a.im c.requires.1 c.requires.2 a.terms.now a.runs.now a.best.now a.class o.terms o.runs o.best o.waiting o.c o.invariant.0 o.invariant.1 c.best_member-m.result c.best_member-m.ensures.0 c.first_child-k.result c.child_count-n.result c.first_child-k.ensures.0 c.child_count-n.ensures.0 (λ j h. l.invariant.2 j (omega arith)) _ _ _ (rw c.in_ok-t.was at c.member_term.ensures) (q - 1) z).within)

pub outer-preserved : goal.outer-preserved
outer-preserved c =
    let a = c.args in
    let o = c.outer in
    let l = c.loop-i in
    let q = c.at_u16-q.result in
    let e : q ≡ q - 1 + 1 = omega (arith, c.if-q-eq0.false) in
    let z = rw (l.invariant.0, l.invariant.1) at (sym c.at_u16-q.ensures.0) ∙ e in
    (rw (c.put_u16-in-outer.ensures, l.invariant.0, l.invariant.1) (turn_up (limits_of a.lim) a.s.now a.im c.requires.1 c.requires.2 a.terms.now a.runs.now a.best.now a.class o.terms o.runs o.best o.waiting o.c o.invariant.0 o.invariant.1 c.best_member-m.result c.best_member-m.ensures.0 c.first_child-k.result c.child_count-n.result c.first_child-k.ensures.0 c.child_count-n.ensures.0 (λ j h. l.invariant.2 j (omega arith)) _ _ _ (rw c.in_ok-t.was at c.member_term.ensures) (q - 1) z), rw c.put_u16-in-outer.ensures (length-set o.best _ _ ∙ o.invariant.1), rw l.invariant.0 o.invariant.2, omega (arith, o.invariant.3, c.member_term.auto), omega (arith, o.invariant.4, c.member_term.auto))
