use Rattle.cost_matrix.specs.Places.{cells_fit}
use borrow.Author.Rules.{rules}
use borrow.Author.Tests.{le-leb, lt-leb, eq-eqb, ne_eqb}
use Rattle.spec.specs.Transport.{WIDEST}
use Prim.Native.Nat.{◌*◌}
use native.Mathlib.Omega.{arith}
use mathlib.Core.Path.{refl}
use Rattle.transport.proofs.shaped.Goals as goal

pub returns-then-r-gt-WIDEST : goal.returns-then-r-gt-WIDEST
returns-then-r-gt-WIDEST c = rw (lt-leb c.args.r WIDEST (omega arith)) refl

pub returns-then-c-gt-WIDEST : goal.returns-then-c-gt-WIDEST
returns-then-c-gt-WIDEST c = rw (le-leb c.args.r WIDEST (omega arith), lt-leb c.args.c WIDEST (omega arith)) refl

pub overflow_mul-n : goal.overflow_mul-n
overflow_mul-n c = let h = cells_fit c.args.r c.args.c (omega arith) (omega arith) in search rules

pub returns-then-s-n : goal.returns-then-s-n
returns-then-s-n c = rw (le-leb c.args.r WIDEST (omega arith), le-leb c.args.c WIDEST (omega arith), ne_eqb c.args.s (c.args.r * c.args.c) c.if-s-n.true) refl

pub returns-then-m-n : goal.returns-then-m-n
returns-then-m-n c = rw (le-leb c.args.r WIDEST (omega arith), le-leb c.args.c WIDEST (omega arith), eq-eqb c.args.s (c.args.r * c.args.c) c.if-s-n.false, ne_eqb c.args.m (c.args.r * c.args.c) c.if-m-n.true) refl

pub returns-then-a-n : goal.returns-then-a-n
returns-then-a-n c = rw (le-leb c.args.r WIDEST (omega arith), le-leb c.args.c WIDEST (omega arith), eq-eqb c.args.s (c.args.r * c.args.c) c.if-s-n.false, eq-eqb c.args.m (c.args.r * c.args.c) c.if-m-n.false, ne_eqb c.args.a (c.args.r * c.args.c) c.if-a-n.true) refl

pub returns : goal.returns
returns c = rw (le-leb c.args.r WIDEST (omega arith), le-leb c.args.c WIDEST (omega arith), eq-eqb c.args.s (c.args.r * c.args.c) c.if-s-n.false, eq-eqb c.args.m (c.args.r * c.args.c) c.if-m-n.false, eq-eqb c.args.a (c.args.r * c.args.c) c.if-a-n.false) refl
