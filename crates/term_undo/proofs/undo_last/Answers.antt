use Rattle.term_undo.specs.Undoing.{undo_term}
use Rattle.term_undo.specs.UndoLaws.{span-rises, span-inside, span_rest, span_key, span-cleared}
use native.Mathlib.Omega.{arith}
use mathlib.Core.Path.{◌≡◌, ap, ◌∙◌}
use Rattle.std.proofs.Common.{◌-◌, take, drop, length, replicate, rules}
use Rattle.term_undo.proofs.undo_last.Goals as goal

pub slice_bounds-key-count : goal.slice_bounds-key-count
slice_bounds-key-count c = omega (arith, span-rises c.args.terms.now c.args.runs.now c.args.i c.requires.0 c.requires.1 c.first-from.result c.first-end.result c.first-from.ensures.0 c.first-end.ensures.0, span-inside c.args.terms.now c.args.runs.now c.args.i c.requires.0 c.requires.1 c.first-from.result c.first-end.result c.first-from.ensures.0 c.first-end.ensures.0)

pub slice_bounds-key-start : goal.slice_bounds-key-start
slice_bounds-key-start c = omega (arith, span-rises c.args.terms.now c.args.runs.now c.args.i c.requires.0 c.requires.1 c.first-from.result c.first-end.result c.first-from.ensures.0 c.first-end.ensures.0, span-inside c.args.terms.now c.args.runs.now c.args.i c.requires.0 c.requires.1 c.first-from.result c.first-end.result c.first-from.ensures.0 c.first-end.ensures.0)

pub overflow_sub-end : goal.overflow_sub-end
overflow_sub-end c = span-rises c.args.terms.now c.args.runs.now c.args.i c.requires.0 c.requires.1 c.first-from.result c.first-end.result c.first-from.ensures.0 c.first-end.ensures.0

pub key-bucket-requires : goal.key-bucket-requires
key-bucket-requires c = span_rest c.args.terms.now c.args.runs.now c.args.i c.requires.0 c.requires.1 c.first-from.result c.first-end.result c.first-from.ensures.0 c.first-end.ensures.0

pub slice_bounds-fill-count : goal.slice_bounds-fill-count
slice_bounds-fill-count c = span-rises c.args.terms.now c.args.runs.now c.args.i c.requires.0 c.requires.1 c.first-from.result c.first-end.result c.first-from.ensures.0 c.first-end.ensures.0

pub slice_bounds-fill-start : goal.slice_bounds-fill-start
slice_bounds-fill-start c = span-rises c.args.terms.now c.args.runs.now c.args.i c.requires.0 c.requires.1 c.first-from.result c.first-end.result c.first-from.ensures.0 c.first-end.ensures.0

pub slice_bounds-fill-end : goal.slice_bounds-fill-end
slice_bounds-fill-end c = span-inside c.args.terms.now c.args.runs.now c.args.i c.requires.0 c.requires.1 c.first-from.result c.first-end.result c.first-from.ensures.0 c.first-end.ensures.0

pub returns : goal.returns
returns c =
    let k = rw (c.head.ensures, c.value.ensures) at c.key-bucket.ensures.0 ∙ span_key c.args.terms.now c.args.runs.now c.args.i c.requires.0 c.requires.1 c.first-from.result c.first-end.result c.first-from.ensures.0 c.first-end.ensures.0 in
    let q : c.fill.new.self ≡ replicate (length (take (c.first-end.result - c.first-from.result) (drop c.first-from.result c.args.runs.now))) 0 = search rules in
    (c.undo_term.ensures ∙ ap (undo_term c.args.terms.now c.args.i) k, rw q (span-cleared c.args.terms.now c.args.runs.now c.args.i c.requires.0 c.requires.1 c.first-from.result c.first-end.result c.first-from.ensures.0 c.first-end.ensures.0))
