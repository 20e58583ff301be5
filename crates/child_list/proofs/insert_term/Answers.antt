use Rattle.child_list.proofs.Buffer.{rippled-none, rippled-more}
use Rattle.monomial_terms.specs.Terms.{terms}
use Prim.Native.Nat.{◌<◌, ◌+◌, ◌*◌}
use native.Mathlib.Omega.{arith}
use mathlib.Core.Path.{◌≡◌, refl, ◌∙◌}
use lib.ListN.{length}
use Rattle.child_list.proofs.insert_term.Goals as goal

pub loop-j-init : goal.loop-j-init
loop-j-init c =
    (omega arith, refl, refl, rippled-none (terms c.args.mono.now) c.args.p (c.args.c, c.args.k))

pub loop-j-preserved : goal.loop-j-preserved
loop-j-preserved c =
    let h : 2 * (c.args.p + c.loop-j.j) + 1 < length c.args.mono.now = omega arith in (
      omega arith,
      c.put_term.auto.mono ∙ c.loop-j.invariant.1,
      c.put_term.ensures.1 ∙ c.loop-j.invariant.2,
      rippled-more c.args.mono.now c.loop-j.mono c.put_term.new.mono c.args.p c.loop-j.j (c.args.c, c.args.k) (c.loop-j.x, c.loop-j.y)
          c.class_at-t.result c.count_at-u.result h c.loop-j.invariant.3 c.class_at-t.ensures c.count_at-u.ensures c.put_term.ensures.0,
    )

pub returns-2 : goal.returns-2
returns-2 c =
    let h : 2 * (c.args.p + c.loop-j.j) + 1 < length c.args.mono.now = omega arith in
    let r = rippled-more c.args.mono.now c.loop-j.mono c.put_term.new.mono c.args.p c.loop-j.j (c.args.c, c.args.k) (c.loop-j.x, c.loop-j.y)
    c.class_at-t.result c.count_at-u.result h c.loop-j.invariant.3 c.class_at-t.ensures c.count_at-u.ensures c.put_term.ensures.0 in
    let e : c.loop-j.j ≡ c.args.n = omega arith in
    (rw (← e) r.whole, c.put_term.ensures.1 ∙ c.loop-j.invariant.2)

pub returns : goal.returns
returns c =
    let e : c.args.n + 1 ≡ c.loop-j.j = omega arith in
    (rw e c.loop-j.invariant.3.whole, c.loop-j.invariant.2)
