use mathlib.Core.Path.{◌∙◌}
use borrow.Author.Rules.{rules}
use Rattle.returned.specs.Children.{returns-added}
use Rattle.tariff.proofs.tariff_add_child.Goals as goal

pub returns : goal.returns
returns c =
    returns-added c.args.terms c.args.class c.args.count c.long_size.result c.args.list.now c.add_child-a.new.mono c.add_child-a.result c.numbers_of_added.result (c.long_size.ensures ∙ c.size_u16.ensures.0) c.numbers_of_added.ensures c.add_child-a.ensures
