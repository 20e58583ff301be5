use lib.Signed.{lt_z}
use Rattle.wide.specs.declared.Wide.{Wide}
use Rattle.wide.specs.Value.{val}
use Rattle.net.specs.Net.{state_of}
use borrow.Author.Tests.{eq-eqb, ne_eqb}
use mathlib.Core.Path.{refl, ap, ◌∙◌}
use Rattle.labels.proofs.improves.Goals as goal

pub returns-then-net-v-eq0 : goal.returns-then-net-v-eq0
returns-then-net-v-eq0 c = rw (eq-eqb (state_of c.args.net.now c.args.v) 0 c.if-net-v-eq0.true) refl

pub returns : goal.returns
returns c =
    let a = c.args in
    rw (ne_eqb (state_of a.net.now a.v) 0 c.if-net-v-eq0.false) (c.less.ensures ∙ ap (λ (w : Wide). lt_z (val a.d) (val w)) c.label.ensures)
