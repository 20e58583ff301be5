use borrow.Author.Rules.{part_to_end}
use Rattle.read_answer.specs.ReadingLaws.{asks-from, table-part, text-part, part-short}
use Prim.Native.Nat.{◌-◌, ◌+◌}
use Rattle.read_answer.proofs.ask.Goals as goal

-- src/lib.rt:18:1
pub returns : goal.returns
returns c =
    asks-from c.args.input.now _ _ c.args.frames.now c.args.marks.now c.args.terms.now c.args.runs.now c.args.out.now _ _ (table-part c.args.input.now c.table_end-e.result c.table_end-e.ensures.0) (text-part c.args.input.now _ c.table_end-e.result c.text_length-n.result c.table_end-e.ensures.0 (part_to_end c.args.input.now c.table_end-e.result) c.text_length-n.ensures.1) (part-short c.args.input.now c.table_end-e.result (c.table_end-e.result + c.text_length-n.result - c.table_end-e.result) c.table_end-e.ensures.2) c.requires.1 c.lines_of_card.ensures
