use Rattle.changes.specs.Marks.{live_of}
use Rattle.changes.specs.MarkLaws.{live-length, live-entry}
use Rattle.changes.specs.Readers.{class-few}
use Rattle.laws.specs.Buffers.{filled_none, filled_more, filled-all}
use Rattle.image.specs.Loaded.{classes-many}
use Rattle.spec.specs.Bytes.{pick}
use Rattle.spec.specs.Image.{tables_of}
use Prim.Native.Nat.{ℕ}
use native.Mathlib.Omega.{arith}
use mathlib.Core.Bool.{Bool, true, false}
use mathlib.Core.Path.{◌≡◌, refl, sym, ap, ◌∙◌}
use mir.Val.{bool_byte}
use Rattle.changes.proofs.touch_all.Goals as goal

-- a truth value as a number
byte_is : (b : Bool) → bool_byte b ≡ pick b 1 0
byte_is true = refl
byte_is false = refl

pub loop-c-init : goal.loop-c-init
loop-c-init c =
    filled_none (live_of (tables_of c.args.s.now) c.args.marks.now) c.args.live.now

pub touched-requires : goal.touched-requires
touched-requires c =
    let t = tables_of c.args.s.now in let many = classes-many c.args.s.now c.args.im c.requires.0 in
    (c.requires.0, c.requires.1, omega (arith, c.loop-c-test), c.requires.2, c.any_identity-through.ensures, c.has_identity-itself.ensures)

pub bounds-live-c : goal.bounds-live-c
bounds-live-c c =
    let t = tables_of c.args.s.now in let many = classes-many c.args.s.now c.args.im c.requires.0 in
    omega (arith, c.loop-c-test, class-few c.args.s.now c.args.im c.requires.0 c.requires.1 {c = c.loop-c.c} (omega (arith, c.loop-c-test)), c.loop-c.invariant.same, c.requires.3)

pub loop-c-preserved : goal.loop-c-preserved
loop-c-preserved c =
    let t = tables_of c.args.s.now in let many = classes-many c.args.s.now c.args.im c.requires.0 in
    filled_more (live_of t c.args.marks.now) c.args.live.now c.loop-c.c c.loop-c.live c.loop-c.invariant c.from.result (omega (arith, c.loop-c-test, live-length t c.args.marks.now, many))
    (omega (arith, class-few c.args.s.now c.args.im c.requires.0 c.requires.1 {c = c.loop-c.c} (omega (arith, c.loop-c-test)), c.loop-c.invariant.same, c.requires.3))
    (c.from.ensures ∙ byte_is _ ∙ ap (λ (b : Bool). pick {A = ℕ} b 1 0) c.touched.ensures ∙ sym (live-entry t c.args.marks.now c.loop-c.c (omega (arith, c.loop-c-test, many))))

pub returns : goal.returns
returns c =
    let t = tables_of c.args.s.now in let many = classes-many c.args.s.now c.args.im c.requires.0 in
    filled-all (live_of t c.args.marks.now) c.args.live.now c.loop-c.c c.loop-c.live c.loop-c.invariant (omega (arith, c.loop-c-test, live-length t c.args.marks.now, many))
