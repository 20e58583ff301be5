use Prim.Native.Nat.{ℕ}
use native.Mathlib.Omega.{arith}
use mathlib.Core.Path.{◌≡◌, ap, ◌∙◌}
use mathlib.Core.List.{List}
use lib.ListN.{length}
use lib.ListN.{replicate, length-replicate}
use Rattle.spec.specs.Image.{tables_of}
use Rattle.laws.specs.Buffers.{over}
use Rattle.image.specs.Loaded.{classes-many}
use Rattle.changes.specs.Marks.{live_of}
use Rattle.settling.proofs.end_round.Goals as goal

pub settle-requires : goal.settle-requires
settle-requires c =
    let m = classes-many c.args.s.now c.args.im c.requires.0 in
    let z : length (replicate {A = ℕ} 256 0) ≡ 256 = length-replicate {A = ℕ} 256 0 in
    (omega (arith, m, c.requires.1.counts.few_classes), c.requires.2, c.requires.3, c.requires.4, omega (arith, z), omega (arith, z))

pub touch_all-requires : goal.touch_all-requires
touch_all-requires c =
    let z : length (replicate {A = ℕ} 256 0) ≡ 256 = length-replicate {A = ℕ} 256 0 in
    (c.requires.0, c.requires.1, omega (arith, z, c.settle.auto), omega (arith, c.touch_all-arg-1.given.0.1))

pub touch_all-requires-2 : goal.touch_all-requires-2
touch_all-requires-2 c =
    let z : length (replicate {A = ℕ} 256 0) ≡ 256 = length-replicate {A = ℕ} 256 0 in
    (c.requires.0, c.requires.1, omega (arith, z, c.settle.auto), omega (arith, c.touch_all-arg-2-1.given.0.1))

pub returns : goal.returns
returns c =
    let a = c.args in
    let e = c.settle.ensures in
    record {
      pairs = e.0;
      llive = c.touch_all.ensures ∙ ap (λ (m : List ℕ). over (live_of (tables_of a.s.now) m) a.llive.now) e.1;
      rlive = c.touch_all-2.ensures ∙ ap (λ (m : List ℕ). over (live_of (tables_of a.s.now) m) a.rlive.now) e.2;
    }
