use lib.ListN.{length, replicate}
use Prim.Native.Nat.{ℕ}
use mathlib.Core.Path.{◌≡◌, ap, ◌∙◌}
use borrow.Author.Rules.{rules}
use Rattle.card_terms.proofs.enter_terms.Goals as goal

pub returns : goal.returns
returns c =
    let r = c.read_terms-r in
    let z : c.fill.new.self ≡ replicate (length r.new.frames) 0 = search rules in
    (r.ensures, z ∙ ap (λ (n : ℕ). replicate n 0) r.auto.frames)
