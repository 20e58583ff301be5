-- What the answers of `judge` stand for in the table of refusals.
use Rattle.std.specs.Prelude.{ℕ, Bool, List, eqb}
use Rattle.spec.specs.Bytes.{Res, ok, refused, pick, both, within}
use Rattle.spec.specs.Image.{Tables, OPERATIONS, CLASSES, MEMBERS, CHILDREN, image_of, lowest_doubled, tables_of, operation_count, class_count, member_count, child_count}
use Rattle.image.specs.Layout.{layout_of}
use Rattle.image.specs.declared.Image.{Image}
use Rattle.judge.specs.declared.Verdict.{Verdict}
use Rattle.judge.specs.declared.Verdict.TheVariants.{Accepted, Refused, Doubled}

-- the tables of an accepted image, or the number "Returned" in the table of refusals
abbrev pub result_of : List ℕ → Verdict → Res Tables
result_of s (Accepted im) = ok (tables_of s)
result_of s (Refused n) = refused n
result_of s (Doubled c) = refused 10

-- the layout that the header's counts give
abbrev pub header_of : List ℕ → Image
header_of s = layout_of (operation_count s) (class_count s) (member_count s) (child_count s)

-- the answer: for an accepted image its layout; with 10 "the lowest-numbered class holding a literal that also stands in another class" (02, Paper 2)
abbrev pub verdict_as : Image → List ℕ → Res Tables → Verdict
verdict_as im s (ok t) = Accepted im
verdict_as im s (refused n) = pick (eqb n 10) (Doubled (lowest_doubled (tables_of s))) (Refused n)

abbrev pub verdict_of : List ℕ → Verdict
verdict_of s = verdict_as (header_of s) s (image_of s)

-- 4: "operations (1 to 64), classes (1 to 256), members (1 to 1,024), children (0 to 4,096)"
abbrev pub counts_within : Image → Bool
counts_within im =
    both (within 1 OPERATIONS im.operations)
    (both (within 1 CLASSES im.classes) (both (within 1 MEMBERS im.members) (within 0 CHILDREN im.children)))
