use Rattle.skipped_under.proofs.Under.{under-is}
use Rattle.spec.specs.Image.{tables_of}
use Rattle.image.specs.Loaded.{classes-many}
use Rattle.skipped_pairs.specs.Held.{facts_in}
use Rattle.skipped_under.proofs.skipped_under.Goals as goal

pub returns : goal.returns
returns c =
    let n = classes-many c.args.s.now c.args.im c.requires.0 in (
      under-is (tables_of c.args.s.now) c.args.l c.args.r c.args.o c.identity-id.result c.facts_of-m.result c.facts_of-n.result c.count_pairs.result (facts_in c.facts_of-m.new.f) (facts_in c.facts_of-n.new.f) c.requires.1 (rw n c.requires.2) (rw n c.requires.3) c.identity-id.ensures.0
          c.facts_of-m.ensures.0 c.facts_of-n.ensures.0 c.facts_of-m.ensures.2 c.facts_of-n.ensures.2 c.facts_of-m.ensures.3 c.facts_of-n.ensures.3 c.count_pairs.ensures.0,
      c.count_pairs.ensures.1,
    )
