use Rattle.spec.specs.Bytes.{text}
use Rattle.spec.specs.Listing.{status_of}
use Rattle.first_line.specs.FieldLaws.{status-as, status-wrote}
use Rattle.first_line.proofs.write_status.Goals as goal

pub text-requires : goal.text-requires
unfolding status_of text
text-requires c =
    status-as c.args.line.now c.if-complete.true c.requires

pub returns-then-complete : goal.returns-then-complete
unfolding status_of text
returns-then-complete c =
    status-wrote c.if-complete.true c.text.ensures

pub text-requires-2 : goal.text-requires-2
unfolding status_of text
text-requires-2 c =
    status-as c.args.line.now c.if-complete.false c.requires

pub returns : goal.returns
unfolding status_of text
returns c =
    status-wrote c.if-complete.false c.text-2.ensures
