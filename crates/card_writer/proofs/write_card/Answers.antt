use mathlib.Core.Path.{ap}
use mathlib.Core.Bool.{not}
use Prim.Native.Nat.{ℕ, ◌≤◌, ◌+◌, ◌*◌}
use native.Mathlib.Omega.{arith}
use mathlib.Core.Path.{refl}
use Rattle.laws.specs.AcceptedTurns.{passed}
use Rattle.terms.specs.Buffers.{VALUES, value_in}
use Rattle.card_judge.specs.SignedLaws.{bound-signed, card-signed}
use Rattle.card_writer.specs.WriterLaws.{writes-unsigned, writes-full, room-is, writes_bytes}
use Rattle.card_writer.proofs.write_card.Goals as goal

pub returns-then-not-all_signed : goal.returns-then-not-all_signed
returns-then-not-all_signed c =
    let a = c.args in
    let v : (i : ℕ) → value_in a.terms.now i ≤ 4294967295 = λ i. omega (arith, c.shared_slice_known-2-1.given (VALUES + i * 4)) in
    writes-unsigned a.table.now a.terms.now a.runs.now a.root a.marks.now a.out.now _ c.all_signed.ensures.1 (card-signed a.table.now a.terms.now a.runs.now a.binds.now c.requires.3 c.requires.0 v a.root c.requires.1 c.all_signed.ensures.0) (ap not c.if-not-all_signed.true)

pub measure-requires : goal.measure-requires
measure-requires c =
    let a = c.args in
    let v : (i : ℕ) → value_in a.terms.now i ≤ 4294967295 = λ i. omega (arith, c.shared_slice_known-2-1.given (VALUES + i * 4)) in
    (c.requires.0, c.requires.1, bound-signed a.table.now a.terms.now a.runs.now a.binds.now c.requires.3 c.requires.0 v a.root c.requires.1 (c.all_signed.ensures.0.0 (passed refl (ap not c.if-not-all_signed.false))))

pub write_term-requires : goal.write_term-requires
write_term-requires c =
    let a = c.args in
    let v : (i : ℕ) → value_in a.terms.now i ≤ 4294967295 = λ i. omega (arith, c.shared_slice_known-2-1.given (VALUES + i * 4)) in
    (c.requires.0, c.requires.1, bound-signed a.table.now a.terms.now a.runs.now a.binds.now c.requires.3 c.requires.0 v a.root c.requires.1 (c.all_signed.ensures.0.0 (passed refl (ap not c.if-not-all_signed.false))), room-is a.table.now a.terms.now a.runs.now a.root a.marks.now a.out.now _ c.all_signed.ensures.1 (card-signed a.table.now a.terms.now a.runs.now a.binds.now c.requires.3 c.requires.0 v a.root c.requires.1 c.all_signed.ensures.0) (ap not c.if-not-all_signed.false) c.measure.ensures c.in-Some.is)

pub returns-in-Some : goal.returns-in-Some
returns-in-Some c =
    let a = c.args in
    let v : (i : ℕ) → value_in a.terms.now i ≤ 4294967295 = λ i. omega (arith, c.shared_slice_known-2-1.given (VALUES + i * 4)) in
    writes_bytes a.table.now a.terms.now a.runs.now a.root a.marks.now a.out.now _ c.all_signed.ensures.1 (card-signed a.table.now a.terms.now a.runs.now a.binds.now c.requires.3 c.requires.0 v a.root c.requires.1 c.all_signed.ensures.0) (ap not c.if-not-all_signed.false) c.measure.ensures c.in-Some.is c.write_term.ensures

pub returns-in-None : goal.returns-in-None
returns-in-None c =
    let a = c.args in
    let v : (i : ℕ) → value_in a.terms.now i ≤ 4294967295 = λ i. omega (arith, c.shared_slice_known-2-1.given (VALUES + i * 4)) in
    writes-full a.table.now a.terms.now a.runs.now a.root a.marks.now a.out.now _ c.all_signed.ensures.1 (card-signed a.table.now a.terms.now a.runs.now a.binds.now c.requires.3 c.requires.0 v a.root c.requires.1 c.all_signed.ensures.0) (ap not c.if-not-all_signed.false) c.measure.ensures c.in-None.is
