use lib.Seq.{length-take-le}
use Prim.Native.Nat.{ℕ, ◌≤◌}
use native.Mathlib.Omega.{arith}
use borrow.Author.Rules.{rules}
use mathlib.Core.Path.{◌≡◌, refl, ap, sym, ◌∙◌}
use mathlib.Core.List.{List, ◌++◌}
use lib.ListN.{length, take, drop, replicate, length-replicate}
use Rattle.laws.specs.Buffers.{over}
use Rattle.plan_parts.proofs.empty_plan.Goals as goal

-- n numbers at its front are cleared
front-cleared : (f : List ℕ) (n : ℕ) → n ≤ length f → replicate (length (take n f)) 0 ++ drop n f ≡ over (replicate n 0) f
front-cleared f n h = rw (length-take-le n f h, length-replicate {A = ℕ} n 0) refl

pub slice_bounds-fill-end-2 : goal.slice_bounds-fill-end-2
slice_bounds-fill-end-2 c = sym (length-take-le c.args.n c.args.flow.now (omega arith))

pub returns : goal.returns
returns c =
    let a = c.args in
    let e : c.fill.new.self ≡ replicate (length (take a.n a.flow.now)) 0 = search rules in
    ap (λ (l : List ℕ). l ++ drop a.n a.flow.now) e ∙ front-cleared a.flow.now a.n (omega arith)
