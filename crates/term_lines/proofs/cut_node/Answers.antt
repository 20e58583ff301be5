use Prim.Native.Nat.{◌≤◌, ◌+◌}
use native.Mathlib.Omega.{arith}
use mathlib.Core.Path.{◌≡◌, sym, ◌∙◌}
use lib.ListN.{length, drop}
use mathlib.Core.Bool.{true, false}
use Rattle.spec.specs.Bytes.{text}
use Rattle.formula.specs.Lexer.{starts_with}
use Rattle.text_cut.specs.CutLaws.{word_fits}
use Rattle.term_lines.specs.LineLaws.{node-is-lit, node-is-op, node-is-variants}
use Rattle.term_lines.proofs.cut_node.Goals as goal

pub overflow_add-at : goal.overflow_add-at
unfolding text
overflow_add-at c = omega (arith, (let it : c.args.at + 5 ≤ length c.args.text.now = word_fits (text " lit ") c.args.text.now c.args.at ((let it : true ≡ starts_with (text " lit ") (drop c.args.at c.args.text.now) = sym c.if-starts_with.true ∙ c.starts_with.ensures in it)) c.requires.0 in it))

pub cut_lit-requires : goal.cut_lit-requires
unfolding text
cut_lit-requires c = (let it : c.args.at + 5 ≤ length c.args.text.now = word_fits (text " lit ") c.args.text.now c.args.at ((let it : true ≡ starts_with (text " lit ") (drop c.args.at c.args.text.now) = sym c.if-starts_with.true ∙ c.starts_with.ensures in it)) c.requires.0 in it)

pub returns-then-starts_with : goal.returns-then-starts_with
unfolding text
returns-then-starts_with c =
    let a = c.args in
    node-is-lit a.k a.text.now a.at a.list.now _ ((let it : true ≡ starts_with (text " lit ") (drop c.args.at c.args.text.now) = sym c.if-starts_with.true ∙ c.starts_with.ensures in it)) (c.cut_lit.ensures a.list.now)

pub overflow_add-at-then-starts_with-2 : goal.overflow_add-at-then-starts_with-2
unfolding text
overflow_add-at-then-starts_with-2 c = omega (arith, (let it : c.args.at + 4 ≤ length c.args.text.now = word_fits (text " op ") c.args.text.now c.args.at ((let it : true ≡ starts_with (text " op ") (drop c.args.at c.args.text.now) = sym c.if-starts_with-2.true ∙ c.starts_with-2.ensures in it)) c.requires.0 in it))

pub cut_op-requires : goal.cut_op-requires
unfolding text
cut_op-requires c = ((let it : c.args.at + 4 ≤ length c.args.text.now = word_fits (text " op ") c.args.text.now c.args.at ((let it : true ≡ starts_with (text " op ") (drop c.args.at c.args.text.now) = sym c.if-starts_with-2.true ∙ c.starts_with-2.ensures in it)) c.requires.0 in it), c.requires.1)

pub returns-then-starts_with-2 : goal.returns-then-starts_with-2
unfolding text
returns-then-starts_with-2 c =
    let a = c.args in
    node-is-op a.k a.text.now a.at _ _ ((let it : false ≡ starts_with (text " lit ") (drop c.args.at c.args.text.now) = sym c.if-starts_with.false ∙ c.starts_with.ensures in it)) ((let it : true ≡ starts_with (text " op ") (drop c.args.at c.args.text.now) = sym c.if-starts_with-2.true ∙ c.starts_with-2.ensures in it)) c.cut_op.ensures

pub returns : goal.returns
unfolding text
returns c =
    let a = c.args in
    node-is-variants a.k a.text.now a.at _ _ ((let it : false ≡ starts_with (text " lit ") (drop c.args.at c.args.text.now) = sym c.if-starts_with.false ∙ c.starts_with.ensures in it)) ((let it : false ≡ starts_with (text " op ") (drop c.args.at c.args.text.now) = sym c.if-starts_with-2.false ∙ c.starts_with-2.ensures in it)) c.cut_variants.ensures
