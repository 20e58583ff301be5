use Rattle.card_cut.specs.NumberLaws.{number_read, no_value, value-ends, no-hash, no-operation, literal-there}
use Prim.Native.Nat.{◌<◌, ◌+◌}
use native.Mathlib.Omega.{arith}
use lib.ListN.{length}
use Rattle.card_cut.proofs.cut_literal.Goals as goal

pub returns-in_err-v : goal.returns-in_err-v
returns-in_err-v c = λ t. let a = c.args in rw c.from_residual.ensures (no_value t a.text.now a.at c.requires.0 c.requires.1 c.in_err-v.ensures)

-- the value that was read
pub returns-then-e-text : goal.returns-then-e-text
returns-then-e-text c = λ t. let a = c.args in value-ends t a.text.now a.at c.requires.0 c.requires.1 _ _ (number_read 4294967295 a.text.now a.at c.in_ok-v.v c.in_ok-v.e (omega arith) c.in_ok-v.ensures) c.if-e-text.true

-- it is not at the text's end
pub bounds-text-e : goal.bounds-text-e
bounds-text-e c = omega (arith, c.in_ok-v.ensures.behind, c.if-e-text.false)

pub returns-then-text-e-ne35 : goal.returns-then-text-e-ne35
returns-then-text-e-ne35 c = λ t. let a = c.args in no-hash t a.text.now a.at c.requires.0 c.requires.1 _ _ (number_read 4294967295 a.text.now a.at c.in_ok-v.v c.in_ok-v.e (omega arith) c.in_ok-v.ensures) (omega (arith, c.in_ok-v.ensures.behind, c.if-e-text.false)) c.if-text-e-ne35.true

pub overflow_add-e : goal.overflow_add-e
overflow_add-e c = record { fits = omega (arith, c.in_ok-v.ensures.behind, c.if-e-text.false) }

pub cut_number-requires-2 : goal.cut_number-requires-2
cut_number-requires-2 c = omega (arith, c.in_ok-v.ensures.behind, c.if-e-text.false)

pub returns-in_err-o : goal.returns-in_err-o
returns-in_err-o c = λ t. let a = c.args in rw c.from_residual-in_err-o.ensures (no-operation t a.text.now a.at c.requires.0 c.requires.1 _ _ (number_read 4294967295 a.text.now a.at c.in_ok-v.v c.in_ok-v.e (omega arith) c.in_ok-v.ensures) (omega (arith, c.in_ok-v.ensures.behind, c.if-e-text.false)) c.if-text-e-ne35.false c.in_err-o.ensures)

-- the operation that was read
pub short_size-requires : goal.short_size-requires
short_size-requires c = omega (arith, c.in_ok-v.ensures.behind)

pub byte-requires : goal.byte-requires
byte-requires c = omega (arith, c.in_ok-o.ensures.behind)

pub returns : goal.returns
returns c = λ t.
    let a = c.args in
    let l : c.in_ok-v.e < length a.text.now = omega (arith, c.in_ok-v.ensures.behind, c.if-e-text.false) in
    rw (c.short_size.ensures, c.byte.ensures) (literal-there t a.text.now a.at c.requires.0 c.requires.1 _ _ (number_read 4294967295 a.text.now a.at c.in_ok-v.v c.in_ok-v.e (omega arith) c.in_ok-v.ensures) l c.if-text-e-ne35.false _ _ (number_read 63 a.text.now (c.in_ok-v.e + 1) c.in_ok-o.o c.in_ok-o.f (omega arith) c.in_ok-o.ensures))
