use Rattle.card_cut.specs.SignLaws.{sign_part, judged, sign-improper, sign-missing, sign-ends, sign-last}
use Rattle.text_cut.specs.CutLaws.{word_fits}
use Rattle.formula.specs.Card.{sign}
use Rattle.formula.specs.Lexer.{starts_with}
use mathlib.Core.Bool.{true}
use Prim.Native.Nat.{ℕ, ◌≤◌, ◌+◌}
use native.Mathlib.Omega.{arith}
use mathlib.Core.Path.{◌≡◌, ap, sym, ◌∙◌}
use mathlib.Core.List.{List}
use lib.ListN.{length, drop}
use Rattle.card_cut.proofs.sign_fits.Goals as goal

pub returns-then-binds-o-eq0 : goal.returns-then-binds-o-eq0
returns-then-binds-o-eq0 c = sign-improper c.args.table.now c.args.text.now c.args.at c.args.o c.args.last (sym (judged c.args.table.now c.args.binds.now c.args.o c.requires.0 c.requires.1) ∙ c.if-binds-o-eq0.true)

pub returns-then-not-starts_with : goal.returns-then-not-starts_with
returns-then-not-starts_with c = sign-missing c.args.table.now c.args.text.now c.args.at c.args.o c.args.last (λ e. c.if-binds-o-eq0.false (judged c.args.table.now c.args.binds.now c.args.o c.requires.0 c.requires.1 ∙ e)) (sym c.if-not-starts_with.true ∙ (let it : c.starts_with.result ≡ starts_with (sign c.args.table.now c.args.o) (drop c.args.at c.args.text.now) = let n = c.sign_length-n in c.starts_with.ensures ∙ ap (λ (z : List ℕ). starts_with z (drop c.args.at c.args.text.now)) (sign_part c.args.table.now c.args.o n.result c.requires.1 n.ensures.0 n.ensures.1) in it))

-- the whole of it
pub returns-then-at-n : goal.returns-then-at-n
returns-then-at-n c = sign-ends c.args.table.now c.args.text.now c.args.at c.args.o c.args.last (λ e. c.if-binds-o-eq0.false (judged c.args.table.now c.args.binds.now c.args.o c.requires.0 c.requires.1 ∙ e)) ((let it : true ≡ starts_with (sign c.args.table.now c.args.o) (drop c.args.at c.args.text.now) = sym c.if-not-starts_with.false ∙ (let it : c.starts_with.result ≡ starts_with (sign c.args.table.now c.args.o) (drop c.args.at c.args.text.now) = let n = c.sign_length-n in c.starts_with.ensures ∙ ap (λ (z : List ℕ). starts_with z (drop c.args.at c.args.text.now)) (sign_part c.args.table.now c.args.o n.result c.requires.1 n.ensures.0 n.ensures.1) in it) in it)) (omega (arith, c.if-at-n.true, c.sign_length-n.ensures.0))

pub bounds-text-at : goal.bounds-text-at
bounds-text-at c = omega (arith, (let it : c.args.at + c.sign_length-n.result ≤ length c.args.text.now = let a = c.args in omega (arith, word_fits (sign a.table.now a.o) a.text.now a.at ((let it : true ≡ starts_with (sign c.args.table.now c.args.o) (drop c.args.at c.args.text.now) = sym c.if-not-starts_with.false ∙ (let it : c.starts_with.result ≡ starts_with (sign c.args.table.now c.args.o) (drop c.args.at c.args.text.now) = let n = c.sign_length-n in c.starts_with.ensures ∙ ap (λ (z : List ℕ). starts_with z (drop c.args.at c.args.text.now)) (sign_part c.args.table.now c.args.o n.result c.requires.1 n.ensures.0 n.ensures.1) in it) in it)) c.requires.2, c.sign_length-n.ensures.0) in it), c.if-at-n.false)

pub returns : goal.returns
returns c = rw c.sign_length-n.ensures.0 (sign-last c.args.table.now c.args.text.now c.args.at c.args.o c.args.last (λ e. c.if-binds-o-eq0.false (judged c.args.table.now c.args.binds.now c.args.o c.requires.0 c.requires.1 ∙ e)) ((let it : true ≡ starts_with (sign c.args.table.now c.args.o) (drop c.args.at c.args.text.now) = sym c.if-not-starts_with.false ∙ (let it : c.starts_with.result ≡ starts_with (sign c.args.table.now c.args.o) (drop c.args.at c.args.text.now) = let n = c.sign_length-n in c.starts_with.ensures ∙ ap (λ (z : List ℕ). starts_with z (drop c.args.at c.args.text.now)) (sign_part c.args.table.now c.args.o n.result c.requires.1 n.ensures.0 n.ensures.1) in it) in it)) (omega (arith, (let it : c.args.at + c.sign_length-n.result ≤ length c.args.text.now = let a = c.args in omega (arith, word_fits (sign a.table.now a.o) a.text.now a.at ((let it : true ≡ starts_with (sign c.args.table.now c.args.o) (drop c.args.at c.args.text.now) = sym c.if-not-starts_with.false ∙ (let it : c.starts_with.result ≡ starts_with (sign c.args.table.now c.args.o) (drop c.args.at c.args.text.now) = let n = c.sign_length-n in c.starts_with.ensures ∙ ap (λ (z : List ℕ). starts_with z (drop c.args.at c.args.text.now)) (sign_part c.args.table.now c.args.o n.result c.requires.1 n.ensures.0 n.ensures.1) in it) in it)) c.requires.2, c.sign_length-n.ensures.0) in it), c.if-at-n.false, c.sign_length-n.ensures.0)))
