use Rattle.cost_matrix.specs.Cells.{problem_of, cell_of, mass-is, cells-many, cell-at}
use Rattle.cost_matrix.specs.Laying.{largest-none, largest-more, largest-all}
use Prim.Native.Nat.{max}
use Prim.Native.Nat.{ℕ}
use native.Mathlib.Omega.{arith}
use mathlib.Core.Path.{sym, ap, ◌∙◌}
use lib.ListN.{get_or}
use Rattle.slice_matrix.proofs.largest_mass.Goals as goal

pub loop-i-init : goal.loop-i-init
loop-i-init c = let a = c.args in (omega arith, λ s d z e. largest-none (problem_of s d z a.masses.now a.allowed.now))

pub loop-i-preserved : goal.loop-i-preserved
loop-i-preserved c =
    let a = c.args in
    let l = c.loop-i in
    let m = a.masses.now in
    let f = a.allowed.now in
    (omega arith, λ s d z e. largest-more (problem_of s d z m f) l.i l.v (omega (arith, e, cells-many s d z m f)) (l.invariant.1 s d z e) (cell_of z m f l.i) c.larger-v.result (cell-at s d z m f l.i (omega (arith, e))) (c.larger-v.ensures ∙ ap (λ (x : ℕ). max l.v x) (sym (mass-is (get_or f l.i 0) (get_or z l.i 0) (get_or m l.i 0)))))

pub returns : goal.returns
returns c =
    let a = c.args in
    let l = c.loop-i in
    λ s d z e. largest-all (problem_of s d z a.masses.now a.allowed.now) l.i l.v (omega (arith, e, cells-many s d z a.masses.now a.allowed.now)) (l.invariant.1 s d z e)
