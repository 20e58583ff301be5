use Prim.Native.Nat.{◌+◌, ℕ}
use Rattle.entering.specs.GrowLaws.{known-key, known_past}
use lib.ListN.{get_or}
use mathlib.Core.Path.{◌∙◌, ap}
use native.Mathlib.Omega.{arith}
use borrow.Author.Rules.{rules}
use Rattle.entering.proofs.known.Goals as goal

pub place-requires : goal.place-requires
place-requires c =
    let s = c.requires.1 in
    (c.requires.0.wide, omega (arith, s.0, s.1), omega (arith, s.0, s.1))

pub at_u16-k-requires : goal.at_u16-k-requires
at_u16-k-requires c = omega (arith, c.place.ensures.1, c.requires.0.room)

pub returns-then-k-n : goal.returns-then-k-n
returns-then-k-n c =
    known_past c.requires.0 c.args.l c.args.r c.requires.1 c.at_u16-k.result (c.at_u16-k.ensures.0 ∙ ap (λ (i : ℕ). get_or c.args.graph.now i 0) c.place.ensures.0) c.if-k-n.true

pub at_u16-requires : goal.at_u16-requires
at_u16-requires c = omega (arith, c.keys.ensures.0, c.if-k-n.false, c.requires.0.room)

pub key-requires : goal.key-requires
key-requires c =
    (omega (arith, c.requires.1.0, c.requires.0.wide), omega (arith, c.requires.1.1, c.requires.0.wide))

pub returns : goal.returns
returns c =
    let g = c.args.graph.now in
    known-key c.requires.0 c.args.l c.args.r c.requires.1 c.at_u16-k.result (c.at_u16-k.ensures.0 ∙ ap (λ (i : ℕ). get_or g i 0) c.place.ensures.0) c.at_u16.result c.key.result c.if-k-n.false (c.at_u16.ensures.0 ∙ ap (λ (k : ℕ). get_or g (k + c.at_u16-k.result) 0) c.keys.ensures.0) c.key.ensures.0
