use native.Mathlib.Omega.{arith}
use Rattle.std.proofs.Common.{List, ℕ, drop, Err}
use Rattle.text_cut.specs.Cutting.{CutsNumber}
use Rattle.term_lines.specs.Reading.{op_at, CutsRuns, CutsLine}
use Rattle.term_lines.specs.declared.Fault.{Fault}
use Rattle.term_lines.specs.declared.Fault.TheVariants as F
use Rattle.term_lines.proofs.Faults.{was-some, was-none, passed-on}
use Rattle.std.proofs.Common.{Some}
use Rattle.term_lines.specs.LineLaws.{op-no-operation, op-broken, op-full, op-there}
use Rattle.term_lines.proofs.cut_op.Goals as goal

op-fault : (k : ℕ) (s : List ℕ) (at : ℕ) (list : List ℕ) {o a : ℕ} → CutsNumber 63 s at (Some (o, a)) → (x : Fault) → CutsRuns k s a list (Err x) → CutsLine (op_at k (drop at s)) s at list (Err x)
op-fault k s at list O F.Broken Q = op-broken k s at list O Q
op-fault k s at list O F.Full Q = op-full k s at list O Q

pub returns-in_err-o : goal.returns-in_err-o
returns-in_err-o c =
    let a = c.args in
    let n = was-none _ c.in_err-o.ensures.value in
    rw (passed-on _ c.from_residual.ensures.1, n.1) (op-no-operation a.k a.text.now a.at a.list.now (rw n.0 at c.cut_number.ensures))

pub cut_runs-requires : goal.cut_runs-requires
cut_runs-requires c =
    let O = rw (was-some _ _ c.in_ok-o.ensures.value) at c.cut_number.ensures in
    (O.behind.1, c.requires.1)

pub returns-in_err-n : goal.returns-in_err-n
returns-in_err-n c =
    let a = c.args in
    let O = rw (was-some _ _ c.in_ok-o.ensures.value) at c.cut_number.ensures in
    rw (passed-on _ c.from_residual-in_err-n.ensures.1) (op-fault a.k a.text.now a.at _ O _ c.in_err-n.ensures)

pub short_size-requires : goal.short_size-requires
short_size-requires c =
    let O = rw (was-some _ _ c.in_ok-o.ensures.value) at c.cut_number.ensures in
    omega (arith, O.behind.2)

pub returns : goal.returns
returns c =
    let a = c.args in
    let O = rw (was-some _ _ c.in_ok-o.ensures.value) at c.cut_number.ensures in
    op-there a.k a.text.now a.at _ O c.in_ok-n.ensures c.short_size.ensures
