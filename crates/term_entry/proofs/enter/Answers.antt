use Rattle.term_entry.specs.TermEntry.{enter_term, enter_runs}
use Rattle.term_entry.specs.EnterLaws.{first-at}
use native.Mathlib.Omega.{arith}
use mathlib.Core.Path.{refl}
use Rattle.term_entry.proofs.enter.Goals as goal

pub copy_runs-requires : goal.copy_runs-requires
copy_runs-requires c =
    let e = first-at c.args.terms.now c.count-t.ensures.0 c.first-from.ensures.0 in
    (omega (arith, c.requires.0.roomy), omega arith)

pub short_size-requires : goal.short_size-requires
short_size-requires c =
    let e = first-at c.args.terms.now c.count-t.ensures.0 c.first-from.ensures.0 in
    omega (arith, c.requires.2)

pub returns : goal.returns
unfolding enter_term enter_runs
returns c =
    let t = c.count-t.ensures.0 in
    let f = first-at c.args.terms.now t c.first-from.ensures.0 in
    (rw (c.put_chain.ensures, c.put_term.ensures, c.short_size.ensures, f, t) refl, rw (c.copy_runs.ensures, f) refl)
