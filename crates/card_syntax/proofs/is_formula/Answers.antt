use lib.ListN.{replicate, length}
use Prim.Native.Nat.{ℕ}
use mathlib.Core.Path.{◌≡◌, ap, ◌∙◌}
use borrow.Author.Rules.{rules}
use Rattle.card_syntax.proofs.is_formula.Goals as goal

pub returns : goal.returns
returns c =
    let e : length c.read-r.new.frames ≡ length c.args.frames.now = search rules in
    let z : c.fill.new.self ≡ replicate (length c.read-r.new.frames) 0 = search rules in
    (c.read-r.ensures, z ∙ ap (λ (n : ℕ). replicate n 0) e)
