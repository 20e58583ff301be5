use mathlib.Core.List.{map}
use Rattle.card_terms.specs.Reading.{head_node}
use Rattle.query.specs.Settings.{limits_of}
use Rattle.terms.specs.Buffers.{count_in, part, unpack}
use Rattle.joining.specs.JoinLaws.{begins-fits}
use Rattle.card_terms.specs.ItemLaws.{items-light, items-valid, items-node, enters-of}
use Rattle.card_terms.proofs.enter_items.Goals as goal

pub intern-requires : goal.intern-requires
intern-requires c =
    let a = c.args in
    let J = c.join_runs-m.ensures in
    (c.requires.0, items-valid a.list.now a.n _ c.join_runs-m.result J (count_in a.terms.now) a.h c.requires.2 c.requires.5, begins-fits J, items-light a.list.now a.n _ c.join_runs-m.result J c.requires.4, c.requires.1)

pub returns : goal.returns
returns c =
    let a = c.args in
    let J = c.join_runs-m.ensures in
    enters-of (limits_of a.lim) (head_node a.h (map unpack (part a.list.now 0 a.n))) (items-node a.list.now a.n _ c.join_runs-m.result J a.h) c.requires.0 (items-valid a.list.now a.n _ c.join_runs-m.result J (count_in a.terms.now) a.h c.requires.2 c.requires.5) (begins-fits J) c.intern.ensures
