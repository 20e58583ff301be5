use Rattle.interning.specs.InternLaws.{intern-found, intern-full-terms, intern-full-runs, intern-entered}
use Rattle.term_entry.specs.EnterLaws.{first-at}
use Rattle.query.specs.Settings.{limits_of}
use native.Mathlib.Omega.{arith}
use mathlib.Core.Path.{◌≡◌}
use Rattle.interning.proofs.intern.Goals as goal

pub returns-then-found-gt0 : goal.returns-then-found-gt0
returns-then-found-gt0 c =
    let a = c.args in
    intern-found (limits_of a.lim) a.terms.now a.runs.now a.list.now a.n a.h a.v c.requires.0 c.look_up-found.result c.if-found-gt0.true c.look_up-found.ensures

pub returns-then-t-lim : goal.returns-then-t-lim
returns-then-t-lim c =
    let a = c.args in
    let z : c.look_up-found.result ≡ 0 = omega (arith, c.if-found-gt0.false) in
    let s = rw z at c.look_up-found.ensures in
    intern-full-terms (limits_of a.lim) a.terms.now a.runs.now a.list.now a.n a.h a.v c.requires.0 s (omega (arith, c.count-t.ensures.0, c.if-t-lim.true))

pub returns-then-from-lim : goal.returns-then-from-lim
returns-then-from-lim c =
    let a = c.args in
    let z : c.look_up-found.result ≡ 0 = omega (arith, c.if-found-gt0.false) in
    let s = rw z at c.look_up-found.ensures in
    let e = first-at a.terms.now c.count-t.ensures.0 c.first-from.ensures.0 in
    intern-full-runs (limits_of a.lim) a.terms.now a.runs.now a.list.now a.n a.h a.v c.requires.0 s (omega (arith, c.count-t.ensures.0, c.if-t-lim.false)) (omega (arith, c.if-from-lim.true))

pub returns-then-n-lim : goal.returns-then-n-lim
returns-then-n-lim c =
    let a = c.args in
    let z : c.look_up-found.result ≡ 0 = omega (arith, c.if-found-gt0.false) in
    let s = rw z at c.look_up-found.ensures in
    let e = first-at a.terms.now c.count-t.ensures.0 c.first-from.ensures.0 in
    intern-full-runs (limits_of a.lim) a.terms.now a.runs.now a.list.now a.n a.h a.v c.requires.0 s (omega (arith, c.count-t.ensures.0, c.if-t-lim.false)) (omega (arith, c.if-from-lim.false, c.if-n-lim.true))

pub enter-requires : goal.enter-requires
enter-requires c =
    let t = c.count-t.ensures.0 in
    let e = first-at c.args.terms.now t c.first-from.ensures.0 in
    let r = c.requires.4 in
    let k = c.if-t-lim.false in
    let l = c.if-from-lim.false in
    let m = c.if-n-lim.false in
    (c.requires.0, omega (arith, r.few), omega (arith, r.ends), omega (arith, r.long), omega (arith, r.roomy), c.requires.2, c.key-bucket.ensures.1)

pub returns : goal.returns
returns c =
    let a = c.args in
    let z : c.look_up-found.result ≡ 0 = omega (arith, c.if-found-gt0.false) in
    let s = rw z at c.look_up-found.ensures in
    let t = c.count-t.ensures.0 in
    let e = first-at a.terms.now t c.first-from.ensures.0 in
    let k = c.if-t-lim.false in
    let l = c.if-from-lim.false in
    let m = c.if-n-lim.false in
    rw (c.enter.ensures.0, c.enter.ensures.1, t)
    (intern-entered (limits_of a.lim) a.terms.now a.runs.now a.list.now a.n a.h a.v c.requires.0 s c.requires.4 (omega arith) (omega arith) c.requires.3 c.requires.1 c.requires.2 c.key-bucket.result c.key-bucket.ensures.0 c.key-bucket.ensures.1)
