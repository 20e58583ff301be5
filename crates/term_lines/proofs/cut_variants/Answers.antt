use Rattle.std.proofs.Common.{List, ℕ, drop, Some, Err}
use Rattle.spec.specs.Bytes.{text}
use Rattle.text_cut.specs.Cutting.{CutsWord}
use Rattle.term_lines.specs.Reading.{variants_at, CutsRuns, CutsLine}
use Rattle.term_lines.specs.declared.Fault.{Fault}
use Rattle.term_lines.specs.declared.Fault.TheVariants as F
use Rattle.term_lines.proofs.Faults.{was-some, was-none, passed-on}
use Rattle.term_lines.specs.LineLaws.{variants-no-word, variants-broken, variants-full, variants-other, variants-there}
use Rattle.term_lines.proofs.cut_variants.Goals as goal

variants-fault : (k : ℕ) (s : List ℕ) (at : ℕ) (list : List ℕ) {a : ℕ} → CutsWord (text " variants") s at (Some a) → (x : Fault) → CutsRuns k s a list (Err x) → CutsLine (variants_at k (drop at s)) s at list (Err x)
variants-fault k s at list W F.Broken Q = variants-broken k s at list W Q
variants-fault k s at list W F.Full Q = variants-full k s at list W Q

pub returns-in_err-a : goal.returns-in_err-a
unfolding text
returns-in_err-a c =
    let a = c.args in
    let n = was-none _ c.in_err-a.ensures.value in
    rw (passed-on _ c.from_residual.ensures.1, n.1) (variants-no-word a.k a.text.now a.at a.list.now (rw n.0 at c.cut_word.ensures))

pub cut_runs-requires : goal.cut_runs-requires
unfolding text
cut_runs-requires c =
    let W = rw (was-some _ _ c.in_ok-a.ensures.value) at c.cut_word.ensures in
    (W.behind.1, c.requires.1)

pub returns-in_err-n : goal.returns-in_err-n
unfolding text
returns-in_err-n c =
    let a = c.args in
    let W = rw (was-some _ _ c.in_ok-a.ensures.value) at c.cut_word.ensures in
    rw (passed-on _ c.from_residual-in_err-n.ensures.1) (variants-fault a.k a.text.now a.at _ W _ c.in_err-n.ensures)

pub returns-then-t-ne2 : goal.returns-then-t-ne2
unfolding text
returns-then-t-ne2 c =
    let a = c.args in
    let W = rw (was-some _ _ c.in_ok-a.ensures.value) at c.cut_word.ensures in
    variants-other a.k a.text.now a.at _ W c.in_ok-n.ensures c.if-t-ne2.true

pub returns : goal.returns
unfolding text
returns c =
    let a = c.args in
    let W = rw (was-some _ _ c.in_ok-a.ensures.value) at c.cut_word.ensures in
    variants-there a.k a.text.now a.at _ W c.in_ok-n.ensures c.if-t-ne2.false
