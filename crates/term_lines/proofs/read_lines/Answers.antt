use lib.ListN.{length}
use borrow.Author.Rules.{rules}
use Rattle.term_lines.specs.LoadLaws.{emptied-ready, loads}
use Rattle.term_lines.proofs.read_lines.Goals as goal

pub add_lines-r-requires : goal.add_lines-r-requires
add_lines-r-requires c =
    let (h, r, z) = emptied-ready c.requires.1 c.empty.ensures in
    (c.requires.0, h, r, z)

pub returns : goal.returns
returns c = loads (length c.add_lines-r.new.list) c.empty.ensures c.add_lines-r.ensures (search rules) (search rules)
