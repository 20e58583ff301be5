use mathlib.Core.Path.{refl}
use borrow.Author.Rules.{rules}
use Rattle.contract.specs.declared.Answer.TheVariants.{Listing, Refused, Doubled}
use Rattle.frames.specs.Frame.{refusal_bytes}
use Rattle.frames.specs.Printing.{prints-as, wrote-front}
use Rattle.frames.proofs.print.Goals as goal

pub returns-in-Listing : goal.returns-in-Listing
returns-in-Listing c =
    let a = c.args in
    prints-as a.out.now a.out.now a.a (Listing c.in-Listing.n) c.in-Listing.n c.in-Listing.is (refl, refl)

pub returns-in-Refused : goal.returns-in-Refused
returns-in-Refused c =
    let a = c.args in
    let k = c.in-Refused.k in
    prints-as a.out.now _ a.a (Refused k) _ c.in-Refused.is (wrote-front (refusal_bytes k) a.out.now _ _ c.refusal.ensures)

pub returns-in-Doubled : goal.returns-in-Doubled
returns-in-Doubled c =
    let a = c.args in
    prints-as a.out.now _ a.a (Doubled c.in-Doubled.c) _ c.in-Doubled.is (wrote-front (refusal_bytes 10) a.out.now _ _ c.refusal-in-Doubled.ensures)
