use Rattle.arrays.specs.Arrays.{term_in}
use Rattle.action_runs.specs.Listed.{listed_more, listed-all, many-runs}
use Rattle.action_runs.specs.Runs.{runs_of}
use Rattle.laws.specs.Buffers.{filled_none}
use Rattle.actions.specs.Place.{action_at}
use Rattle.spec.specs.Image.{tables_of}
use native.Mathlib.Omega.{arith}
use mathlib.Core.Path.{sym, ◌∙◌}
use Rattle.action_runs.proofs.list_action.Goals as goal

pub loop-k-init : goal.loop-k-init
loop-k-init c =
    filled_none (runs_of (term_in c.args.im.classes c.args.graph.now c.args.pairs.now) (action_at (tables_of c.args.s.now) c.args.v).pairs) c.args.list.now

pub left_class-l-requires : goal.left_class-l-requires
left_class-l-requires c = (c.requires.0, c.requires.1, c.requires.2, omega (arith, c.loop-k-test.true, c.count-m.ensures.0))

pub right_class-r-requires : goal.right_class-r-requires
right_class-r-requires c = (c.requires.0, c.requires.1, c.requires.2, omega (arith, c.loop-k-test.true, c.count-m.ensures.0))

pub term_of-requires : goal.term_of-requires
term_of-requires c = (c.requires.3, c.left_class-l.ensures.1, c.right_class-r.ensures.1)

pub loop-k-preserved : goal.loop-k-preserved
loop-k-preserved c =
    listed_more (term_in c.args.im.classes c.args.graph.now c.args.pairs.now) (action_at (tables_of c.args.s.now) c.args.v).pairs c.args.list.now c.loop-k.k c.loop-k.list c.loop-k.invariant (omega (arith, c.loop-k-test.true, c.count-m.ensures.0))
    (omega (arith, c.loop-k-test.true, c.count-m.ensures.1, c.loop-k.invariant.same, c.requires.4)) _ _ _ _
    c.left_class-l.ensures.0 c.right_class-r.ensures.0 (c.long_u32.ensures.0 ∙ c.term_of.ensures) c.put_u64.ensures

pub returns : goal.returns
returns c = (
  c.count-m.ensures.0 ∙ sym (many-runs (term_in c.args.im.classes c.args.graph.now c.args.pairs.now) (action_at (tables_of c.args.s.now) c.args.v).pairs),
  listed-all (term_in c.args.im.classes c.args.graph.now c.args.pairs.now) (action_at (tables_of c.args.s.now) c.args.v).pairs c.args.list.now c.loop-k.k c.loop-k.list c.loop-k.invariant (omega (arith, c.loop-k-test.false, c.count-m.ensures.0)),
)
