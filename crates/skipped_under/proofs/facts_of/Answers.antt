use Rattle.skipped_under.proofs.Places.{all-many, all-facts, all-low}
use Rattle.skipped_under.specs.Told.{places_of}
use Rattle.laws.specs.AcceptedUses.{members_within}
use Rattle.image.specs.Loaded.{classes-many}
use Rattle.ac_ops.specs.AcOps.{end_of}
use Rattle.spec.specs.Image.{tables_of}
use Prim.Native.Nat.{◌≤◌}
use native.Mathlib.Omega.{arith}
use lib.ListN.{length}
use Rattle.skipped_under.proofs.facts_of.Goals as goal

pub set_kins-requires : goal.set_kins-requires
set_kins-requires c =
    (c.requires.0, c.requires.1, c.requires.2, omega (arith, c.requires, c.gather-n.ensures.1, c.gather-n.auto.f))

pub returns : goal.returns
returns c =
    let w : end_of (tables_of c.args.s.now) c.args.c ≤ length (tables_of c.args.s.now).members = members_within (tables_of c.args.s.now) c.requires.1 c.args.c (rw (classes-many c.args.s.now c.args.im c.requires.0) c.requires.2) in (
      all-many (tables_of c.args.s.now) c.args.c c.args.o c.args.id c.gather-n.result c.set_kins.new.f w c.gather-n.ensures.0 (c.set_kins.ensures (places_of (tables_of c.args.s.now) c.args.c c.args.o) c.gather-n.ensures.0 c.gather-n.ensures.2),
      c.gather-n.ensures.1,
      all-facts (tables_of c.args.s.now) c.args.c c.args.o c.args.id c.gather-n.result c.set_kins.new.f w c.gather-n.ensures.0 (c.set_kins.ensures (places_of (tables_of c.args.s.now) c.args.c c.args.o) c.gather-n.ensures.0 c.gather-n.ensures.2),
      all-low (tables_of c.args.s.now) c.args.c c.args.o c.args.id c.gather-n.result c.set_kins.new.f w c.gather-n.ensures.0 (c.set_kins.ensures (places_of (tables_of c.args.s.now) c.args.c c.args.o) c.gather-n.ensures.0 c.gather-n.ensures.2),
    )
