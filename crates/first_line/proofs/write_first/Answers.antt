use Rattle.std.proofs.Common.{◌+◌, ◌≤◌, length, arith}
use Rattle.spec.specs.Bytes.{text}
use Rattle.spec.specs.Listing.{report_line}
use Rattle.first_line.specs.Fields.{fields_of}
use Rattle.first_line.specs.FieldLaws.{report-short, status-room, still-start, still-room, still-turn, end-room, still-end}
use Rattle.decimals.specs.WriteLaws.{wrote-length}
use Rattle.first_line.proofs.write_first.Goals as goal

pub write_status-at-requires : goal.write_status-at-requires
unfolding fields_of
write_status-at-requires c =
    let fs = fields_of c.args.f in
    let short : length (report_line c.args.f.complete fs) ≤ 200 = omega (arith, report-short c.args.f.complete fs (omega arith)) in
    let fits : 0 + length (report_line c.args.f.complete fs) ≤ length c.args.line.now = omega arith in
    status-room c.args.f.complete fs c.args.line.now fits

pub labelled-at-requires : goal.labelled-at-requires
unfolding fields_of text
labelled-at-requires c =
    let fs = fields_of c.args.f in
    let short : length (report_line c.args.f.complete fs) ≤ 200 = omega (arith, report-short c.args.f.complete fs (omega arith)) in
    let fits : 0 + length (report_line c.args.f.complete fs) ≤ length c.args.line.now = omega arith in
    -- the first fields are written, one more in each line
    let u0 = still-start c.args.f.complete fs c.args.line.now fits c.write_status-at.ensures in
    still-room u0

pub labelled-at-requires-2 : goal.labelled-at-requires-2
unfolding fields_of text
labelled-at-requires-2 c =
    let fs = fields_of c.args.f in
    let short : length (report_line c.args.f.complete fs) ≤ 200 = omega (arith, report-short c.args.f.complete fs (omega arith)) in
    let fits : 0 + length (report_line c.args.f.complete fs) ≤ length c.args.line.now = omega arith in
    -- the first fields are written, one more in each line
    let u0 = still-start c.args.f.complete fs c.args.line.now fits c.write_status-at.ensures in
    let u1 = still-turn u0 c.labelled-at.ensures in
    still-room u1

pub labelled-at-requires-3 : goal.labelled-at-requires-3
unfolding fields_of text
labelled-at-requires-3 c =
    let fs = fields_of c.args.f in
    let short : length (report_line c.args.f.complete fs) ≤ 200 = omega (arith, report-short c.args.f.complete fs (omega arith)) in
    let fits : 0 + length (report_line c.args.f.complete fs) ≤ length c.args.line.now = omega arith in
    -- the first fields are written, one more in each line
    let u0 = still-start c.args.f.complete fs c.args.line.now fits c.write_status-at.ensures in
    let u1 = still-turn u0 c.labelled-at.ensures in
    let u2 = still-turn u1 c.labelled-at-2.ensures in
    still-room u2

pub labelled-at-requires-4 : goal.labelled-at-requires-4
unfolding fields_of text
labelled-at-requires-4 c =
    let fs = fields_of c.args.f in
    let short : length (report_line c.args.f.complete fs) ≤ 200 = omega (arith, report-short c.args.f.complete fs (omega arith)) in
    let fits : 0 + length (report_line c.args.f.complete fs) ≤ length c.args.line.now = omega arith in
    -- the first fields are written, one more in each line
    let u0 = still-start c.args.f.complete fs c.args.line.now fits c.write_status-at.ensures in
    let u1 = still-turn u0 c.labelled-at.ensures in
    let u2 = still-turn u1 c.labelled-at-2.ensures in
    let u3 = still-turn u2 c.labelled-at-3.ensures in
    still-room u3

pub labelled-at-requires-5 : goal.labelled-at-requires-5
unfolding fields_of text
labelled-at-requires-5 c =
    let fs = fields_of c.args.f in
    let short : length (report_line c.args.f.complete fs) ≤ 200 = omega (arith, report-short c.args.f.complete fs (omega arith)) in
    let fits : 0 + length (report_line c.args.f.complete fs) ≤ length c.args.line.now = omega arith in
    -- the first fields are written, one more in each line
    let u0 = still-start c.args.f.complete fs c.args.line.now fits c.write_status-at.ensures in
    let u1 = still-turn u0 c.labelled-at.ensures in
    let u2 = still-turn u1 c.labelled-at-2.ensures in
    let u3 = still-turn u2 c.labelled-at-3.ensures in
    let u4 = still-turn u3 c.labelled-at-4.ensures in
    still-room u4

pub labelled-at-requires-6 : goal.labelled-at-requires-6
unfolding fields_of text
labelled-at-requires-6 c =
    let fs = fields_of c.args.f in
    let short : length (report_line c.args.f.complete fs) ≤ 200 = omega (arith, report-short c.args.f.complete fs (omega arith)) in
    let fits : 0 + length (report_line c.args.f.complete fs) ≤ length c.args.line.now = omega arith in
    -- the first fields are written, one more in each line
    let u0 = still-start c.args.f.complete fs c.args.line.now fits c.write_status-at.ensures in
    let u1 = still-turn u0 c.labelled-at.ensures in
    let u2 = still-turn u1 c.labelled-at-2.ensures in
    let u3 = still-turn u2 c.labelled-at-3.ensures in
    let u4 = still-turn u3 c.labelled-at-4.ensures in
    let u5 = still-turn u4 c.labelled-at-5.ensures in
    still-room u5

pub text-requires : goal.text-requires
unfolding fields_of text
text-requires c =
    let fs = fields_of c.args.f in
    let short : length (report_line c.args.f.complete fs) ≤ 200 = omega (arith, report-short c.args.f.complete fs (omega arith)) in
    let fits : 0 + length (report_line c.args.f.complete fs) ≤ length c.args.line.now = omega arith in
    -- the first fields are written, one more in each line
    let u0 = still-start c.args.f.complete fs c.args.line.now fits c.write_status-at.ensures in
    let u1 = still-turn u0 c.labelled-at.ensures in
    let u2 = still-turn u1 c.labelled-at-2.ensures in
    let u3 = still-turn u2 c.labelled-at-3.ensures in
    let u4 = still-turn u3 c.labelled-at-4.ensures in
    let u5 = still-turn u4 c.labelled-at-5.ensures in
    let u6 = still-turn u5 c.labelled-at-6.ensures in
    end-room u6

pub shape_of-line : goal.shape_of-line
unfolding fields_of text
shape_of-line c =
    let fs = fields_of c.args.f in
    let short : length (report_line c.args.f.complete fs) ≤ 200 = omega (arith, report-short c.args.f.complete fs (omega arith)) in
    let fits : 0 + length (report_line c.args.f.complete fs) ≤ length c.args.line.now = omega arith in
    -- the first fields are written, one more in each line
    let u0 = still-start c.args.f.complete fs c.args.line.now fits c.write_status-at.ensures in
    let u1 = still-turn u0 c.labelled-at.ensures in
    let u2 = still-turn u1 c.labelled-at-2.ensures in
    let u3 = still-turn u2 c.labelled-at-3.ensures in
    let u4 = still-turn u3 c.labelled-at-4.ensures in
    let u5 = still-turn u4 c.labelled-at-5.ensures in
    let u6 = still-turn u5 c.labelled-at-6.ensures in
    wrote-length fits (still-end u6 c.text.ensures)

pub returns : goal.returns
unfolding fields_of text
returns c =
    let fs = fields_of c.args.f in
    let short : length (report_line c.args.f.complete fs) ≤ 200 = omega (arith, report-short c.args.f.complete fs (omega arith)) in
    let fits : 0 + length (report_line c.args.f.complete fs) ≤ length c.args.line.now = omega arith in
    -- the first fields are written, one more in each line
    let u0 = still-start c.args.f.complete fs c.args.line.now fits c.write_status-at.ensures in
    let u1 = still-turn u0 c.labelled-at.ensures in
    let u2 = still-turn u1 c.labelled-at-2.ensures in
    let u3 = still-turn u2 c.labelled-at-3.ensures in
    let u4 = still-turn u3 c.labelled-at-4.ensures in
    let u5 = still-turn u4 c.labelled-at-5.ensures in
    let u6 = still-turn u5 c.labelled-at-6.ensures in
    let w = still-end u6 c.text.ensures in
    (w, omega (arith, w.after, short))
