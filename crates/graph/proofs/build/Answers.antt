use borrow.Author.Rules.{rules}
use Prim.Native.Nat.{ℕ}
use Rattle.graph.specs.TurnLaws.{finish-all, finish-cut, finish-full}
use Rattle.query.specs.Settings.{limits_of}
use lib.ListN.{length, replicate}
use mathlib.Core.Path.{◌∙◌, ◌≡◌, ap, sym}
use native.Mathlib.Omega.{arith}
use Rattle.graph.proofs.build.Goals as goal

pub build_first-requires : goal.build_first-requires
build_first-requires c =
    let k = c.fill.auto.self in
    let z : c.fill.new.self ≡ replicate (length c.args.graph.now) 0 = search rules in
    (c.requires.0, c.requires.1, c.requires.2, c.requires.3, omega (arith, c.requires.4, k), c.requires.5, z ∙ ap (λ (n : ℕ). replicate n 0) (sym k))

pub returns-in-Some-All : goal.returns-in-Some-All
returns-in-Some-All c =
    finish-all (limits_of c.args.lim) c.args.im.classes c.args.graph.now c.build_first.result c.build_first.ensures c.in-Some-All.n c.in-Some-All.b c.in-Some-All.k (rw c.in-Some-All.field-0-is at c.in-Some-All.is) (omega (arith, c.build_first.auto, c.fill.auto))

pub returns-in-Some-Cut : goal.returns-in-Some-Cut
returns-in-Some-Cut c =
    let k : length c.build_first.new.graph ≡ length c.args.graph.now = omega (arith, c.build_first.auto, c.fill.auto) in
    let z : c.fill-in-Some-Cut.new.self ≡ replicate (length c.build_first.new.graph) 0 = search rules in
    finish-cut (limits_of c.args.lim) c.args.im.classes c.args.graph.now c.build_first.result c.build_first.ensures (z ∙ ap (λ (n : ℕ). replicate n 0) k) c.in-Some-Cut.k (rw c.in-Some-Cut.field-0-is at c.in-Some-Cut.is)

pub returns-in-None : goal.returns-in-None
returns-in-None c =
    let k : length c.build_first.new.graph ≡ length c.args.graph.now = omega (arith, c.build_first.auto, c.fill.auto) in
    let z : c.fill-in-None.new.self ≡ replicate (length c.build_first.new.graph) 0 = search rules in
    finish-full (limits_of c.args.lim) c.args.im.classes c.args.graph.now c.build_first.result c.build_first.ensures (z ∙ ap (λ (n : ℕ). replicate n 0) k) c.in-None.is
