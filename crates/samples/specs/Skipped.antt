-- (02, Paper 7) Monomial pairs passed over: answers of the listed Rust with its own count of checks, the number of skipped pairs from the model (oracle/sample/skipped.txt).
use Rattle.std.specs.Prelude.{◌≡◌, refl, List, [], ◌∷◌}
use Prim.Native.String.{String}
use Rattle.spec.specs.Bytes.{text}
use Rattle.spec.specs.Merge.{program_of}
use Rattle.spec.specs.Asked.{Asked, asked, frame, answers, expected, hex}

-- left or right, without identity: 4,294,967,296 is above the limit, 4,294,967,295 is not
abbrev left-or-right-without-identity-4-294-image : String
left-or-right-without-identity-4-294-image = "000000b70100020005000800060900ffff0701ffff000000010000000000010001000100010000000100020002000200000001000400020004000000010006000200060000000100000000000000000000000000000001000000000000000000020000000000010000000000000002000000000003000200000001000000000002000200000000000400040000000100000000000400020000ffffffff0000000000010000ffffffff0001000000010001ffffffff000000000001"

unfoldable left-or-right-without-identity-4-294 : List Asked
unfolding hex
left-or-right-without-identity-4-294 =
    asked (frame left-or-right-without-identity-4-294-image 2 3 60) "complete pairs 1 rounds 0 size 2 mass 2 skipped 1 checks 4\n0 lit 0 2\n1 lit 0 3\n2 variants 0:1 1:1\n"
    ∷ asked (frame left-or-right-without-identity-4-294-image 3 2 60) "complete pairs 1 rounds 0 size 2 mass 2 skipped 1 checks 4\n0 lit 0 3\n1 lit 0 2\n2 variants 0:1 1:1\n"
    ∷ asked (frame left-or-right-without-identity-4-294-image 3 4 60) "complete pairs 5 rounds 0 size 2 mass 2 skipped 0 checks 16\n0 lit 0 3\n1 lit 0 4\n2 variants 0:1 1:1\n"
    ∷ asked (frame left-or-right-without-identity-4-294-image 2 2 60) "complete pairs 1 rounds 0 size 1 mass 0 skipped 0 checks 4\n0 lit 0 2\n"
    ∷ []

left-or-right-without-identity-4-294-holds : answers left-or-right-without-identity-4-294 ≡ expected left-or-right-without-identity-4-294
unfolding program_of text answers expected left-or-right-without-identity-4-294
left-or-right-without-identity-4-294-holds = refl

-- at the limit and one above it, with an identity
abbrev at-the-limit-and-one-above-it-with-image : String
at-the-limit-and-one-above-it-with-image = "000000a10100020005000700040900ffff070100000000000100000000000100010001000100000001000200020002000000010004000200040000000100060001000600000001000000000000000000000000000000010000000000000000000200000000000100000000000000020000000000030002000000010000000000020002000000000004000400000001fffffffe0001000000010001ffffffff000100000001"

unfoldable at-the-limit-and-one-above-it-with : List Asked
unfolding hex
at-the-limit-and-one-above-it-with =
    asked (frame at-the-limit-and-one-above-it-with-image 2 4 60) "complete pairs 3 rounds 0 size 2 mass 2 skipped 0 checks 10\n0 lit 0 2\n1 lit 0 4\n2 variants 0:1 1:1\n"
    ∷ asked (frame at-the-limit-and-one-above-it-with-image 3 4 60) "complete pairs 1 rounds 0 size 2 mass 2 skipped 1 checks 4\n0 lit 0 3\n1 lit 0 4\n2 variants 0:1 1:1\n"
    ∷ asked (frame at-the-limit-and-one-above-it-with-image 4 3 60) "complete pairs 1 rounds 0 size 2 mass 2 skipped 1 checks 4\n0 lit 0 4\n1 lit 0 3\n2 variants 0:1 1:1\n"
    ∷ asked (frame at-the-limit-and-one-above-it-with-image 2 3 60) "complete pairs 3 rounds 0 size 2 mass 2 skipped 3 checks 10\n0 lit 0 2\n1 lit 0 3\n2 variants 0:1 1:1\n"
    ∷ []

at-the-limit-and-one-above-it-with-holds : answers at-the-limit-and-one-above-it-with ≡ expected at-the-limit-and-one-above-it-with
unfolding program_of text answers expected at-the-limit-and-one-above-it-with
at-the-limit-and-one-above-it-with-holds = refl

-- identities added: 4,294,967,295 are kept, one more is not
abbrev identities-added-4-294-967-295-are-image : String
identities-added-4-294-967-295-are-image = "000000e90100020007000b00060900ffff070100000000000100000000000100010001000100000001000200010002000000010003000200030000000100050002000500000001000700020007000000010009000200090000000100000000000000000000000000000001000000000000000000020000000000000000000300000000000100000000000000020000000000040002000000010000000000020002000000000005000400000001000000000004000100000000000600050000000100000000000500010001ffffffff0002000000010001ffffffff000200000002000200000001000000000001"

unfoldable identities-added-4-294-967-295-are : List Asked
unfolding hex
identities-added-4-294-967-295-are =
    asked (frame identities-added-4-294-967-295-are-image 3 5 60) "complete pairs 8 rounds 1 size 2 mass 2 skipped 0 checks 34\n0 lit 0 3\n1 lit 0 5\n2 variants 0:1 1:1\n"
    ∷ asked (frame identities-added-4-294-967-295-are-image 4 5 60) "complete pairs 2 rounds 0 size 2 mass 2 skipped 3 checks 7\n0 lit 0 4\n1 lit 0 5\n2 variants 0:1 1:1\n"
    ∷ asked (frame identities-added-4-294-967-295-are-image 5 4 60) "complete pairs 2 rounds 0 size 2 mass 2 skipped 3 checks 7\n0 lit 0 5\n1 lit 0 4\n2 variants 0:1 1:1\n"
    ∷ asked (frame identities-added-4-294-967-295-are-image 3 6 60) "complete pairs 6 rounds 0 size 2 mass 2 skipped 2 checks 19\n0 lit 0 3\n1 lit 0 6\n2 variants 0:1 1:1\n"
    ∷ []

identities-added-4-294-967-295-are-holds : answers identities-added-4-294-967-295-are ≡ expected identities-added-4-294-967-295-are
unfolding program_of text answers expected identities-added-4-294-967-295-are
identities-added-4-294-967-295-are-holds = refl

-- once each: two members are the same after padding, a third one without it
abbrev once-each-two-members-are-the-same-image : String
once-each-two-members-are-the-same-image = "000000c501000200040008000a0900ffff070100000000000100000000000100010001000100000001000200040002000000010006000200060000000100000000000000000000000000000001000000000000000000020000000000010000000000000002000100000000000200030001000000000005000300000000000300080000000100000000000800020001ffffffff0001000000010001ffffffff0001000000010000000000010000000000020001ffffffff0001000000010003ffffffff000300000003"

unfoldable once-each-two-members-are-the-same : List Asked
unfolding hex
once-each-two-members-are-the-same =
    asked (frame once-each-two-members-are-the-same-image 2 3 60) "complete pairs 1 rounds 0 size 2 mass 2 skipped 5 checks 4\n0 lit 0 2\n1 lit 0 3\n2 variants 0:1 1:1\n"
    ∷ asked (frame once-each-two-members-are-the-same-image 3 2 60) "complete pairs 1 rounds 0 size 2 mass 2 skipped 5 checks 4\n0 lit 0 3\n1 lit 0 2\n2 variants 0:1 1:1\n"
    ∷ []

once-each-two-members-are-the-same-holds : answers once-each-two-members-are-the-same ≡ expected once-each-two-members-are-the-same
unfolding program_of text answers expected once-each-two-members-are-the-same
once-each-two-members-are-the-same-holds = refl

-- one member twice, in another order: counted once, without identity
abbrev one-member-twice-in-another-order-image : String
one-member-twice-in-another-order-image = "000000bf0100020004000800090900ffff0701ffff0000000100000000000100010001000100000001000200030002000000010005000300050000000100000000000000000000000000000001000000000000000000020000000000010000000000000002000100000000000200020000000000030004000000010000000000040002000100000000000600030000ffffffff0000000000010000000000010000ffffffff0001fffffffe0001000000020001000000020001fffffffd000100000001"

unfoldable one-member-twice-in-another-order : List Asked
unfolding hex
one-member-twice-in-another-order =
    asked (frame one-member-twice-in-another-order-image 2 3 60) "complete pairs 1 rounds 0 size 2 mass 2 skipped 1 checks 4\n0 lit 0 2\n1 lit 0 3\n2 variants 0:1 1:1\n"
    ∷ asked (frame one-member-twice-in-another-order-image 3 2 60) "complete pairs 1 rounds 0 size 2 mass 2 skipped 1 checks 4\n0 lit 0 3\n1 lit 0 2\n2 variants 0:1 1:1\n"
    ∷ []

one-member-twice-in-another-order-holds : answers one-member-twice-in-another-order ≡ expected one-member-twice-in-another-order
unfolding program_of text answers expected one-member-twice-in-another-order
one-member-twice-in-another-order-holds = refl

-- equal rows beside other columns are another pair
abbrev equal-rows-beside-other-columns-are-image : String
equal-rows-beside-other-columns-are-image = "000000a30100020004000700060900ffff0701ffff00000001000000000001000100010001000000010002000200020000000100040003000400000001000000000000000000000000000000010000000000000000000200000000000100000000000000020000000000030002000000010000000000020002000100000000000400020000ffffffff0000000000010001ffffffff0001000000010001ffffffff000000000001"

unfoldable equal-rows-beside-other-columns-are : List Asked
unfolding hex
equal-rows-beside-other-columns-are =
    asked (frame equal-rows-beside-other-columns-are-image 2 3 60) "complete pairs 1 rounds 0 size 2 mass 2 skipped 2 checks 4\n0 lit 0 2\n1 lit 0 3\n2 variants 0:1 1:1\n"
    ∷ asked (frame equal-rows-beside-other-columns-are-image 3 2 60) "complete pairs 1 rounds 0 size 2 mass 2 skipped 2 checks 4\n0 lit 0 3\n1 lit 0 2\n2 variants 0:1 1:1\n"
    ∷ []

equal-rows-beside-other-columns-are-holds : answers equal-rows-beside-other-columns-are ≡ expected equal-rows-beside-other-columns-are
unfolding program_of text answers expected equal-rows-beside-other-columns-are
equal-rows-beside-other-columns-are-holds = refl

-- once for each pair of classes, and cut short between them
abbrev once-for-each-pair-of-classes-and-image : String
once-for-each-pair-of-classes-and-image = "000000fb0100030007000a000a0900ffff0701ffff0200ffff00000001000000000001000100010001000000010002000200020000000100040002000400000001000600020006000000010008000100080000000300090001000900000003000000000000000000000000000000010000000000000000000200000000000100000000000000020000000000030002000000010000000000020002000000000004000400000001000000000004000200020000000000060002000200000000000800020000ffffffff0000000000010001ffffffff0001000000010001ffffffff000100000001000200000001000200000001000300000001000400000001"

unfoldable once-for-each-pair-of-classes-and : List Asked
unfolding hex
once-for-each-pair-of-classes-and =
    asked (frame once-for-each-pair-of-classes-and-image 5 6 60) "complete pairs 3 rounds 1 size 5 mass 4 skipped 2 checks 14\n0 lit 0 2\n1 lit 0 3\n2 variants 0:1 1:1\n3 lit 0 4\n4 variants 0:1 3:1\n5 op 2 2:1 4:1\n"
    ∷ asked (frame once-for-each-pair-of-classes-and-image 5 6 4) "partial pairs 3 rounds 0 size 6 mass 6 skipped 2 checks 4\n0 lit 0 2\n1 op 2 0:2\n2 lit 0 3\n3 lit 0 4\n4 op 2 2:1 3:1\n5 variants 1:1 4:1\n"
    ∷ asked (frame once-for-each-pair-of-classes-and-image 5 6 3) "partial pairs 3 rounds 0 size 6 mass 6 skipped 2 checks 3\n0 lit 0 2\n1 op 2 0:2\n2 lit 0 3\n3 lit 0 4\n4 op 2 2:1 3:1\n5 variants 1:1 4:1\n"
    ∷ asked (frame once-for-each-pair-of-classes-and-image 5 6 2) "partial pairs 1 rounds 0 size 6 mass 6 skipped 1 checks 2\n0 lit 0 2\n1 op 2 0:2\n2 lit 0 3\n3 lit 0 4\n4 op 2 2:1 3:1\n5 variants 1:1 4:1\n"
    ∷ asked (frame once-for-each-pair-of-classes-and-image 5 6 1) "partial pairs 1 rounds 0 size 6 mass 6 skipped 0 checks 1\n0 lit 0 2\n1 op 2 0:2\n2 lit 0 3\n3 lit 0 4\n4 op 2 2:1 3:1\n5 variants 1:1 4:1\n"
    ∷ asked (frame once-for-each-pair-of-classes-and-image 5 6 0) "partial pairs 1 rounds 0 size 6 mass 6 skipped 0 checks 0\n0 lit 0 2\n1 op 2 0:2\n2 lit 0 3\n3 lit 0 4\n4 op 2 2:1 3:1\n5 variants 1:1 4:1\n"
    ∷ []

once-for-each-pair-of-classes-and-holds : answers once-for-each-pair-of-classes-and ≡ expected once-for-each-pair-of-classes-and
unfolding program_of text answers expected once-for-each-pair-of-classes-and
once-for-each-pair-of-classes-and-holds = refl

-- once for each operation, one with an identity and one without
abbrev once-for-each-operation-one-with-an-image : String
once-for-each-operation-one-with-an-image = "000000bd0100030004000800080900ffff0701ffff070100000000000100000000000100010001000100000001000200030002000000010005000300050000000100000000000000000000000000000001000000000000000000020000000000010000000000000002000200000000000200020000000000030004000000010000000000040002000200000000000600020000ffffffff0000000000010000ffffffff0000000000010001ffffffff0001000000010001ffffffff000100000001"

unfoldable once-for-each-operation-one-with-an : List Asked
unfolding hex
once-for-each-operation-one-with-an =
    asked (frame once-for-each-operation-one-with-an-image 2 3 60) "complete pairs 1 rounds 0 size 2 mass 2 skipped 4 checks 4\n0 lit 0 2\n1 lit 0 3\n2 variants 0:1 1:1\n"
    ∷ asked (frame once-for-each-operation-one-with-an-image 3 2 60) "complete pairs 1 rounds 0 size 2 mass 2 skipped 4 checks 4\n0 lit 0 3\n1 lit 0 2\n2 variants 0:1 1:1\n"
    ∷ []

once-for-each-operation-one-with-an-holds : answers once-for-each-operation-one-with-an ≡ expected once-for-each-operation-one-with-an
unfolding program_of text answers expected once-for-each-operation-one-with-an
once-for-each-operation-one-with-an-holds = refl

-- cut short with an identity: the pairs of classes whose check passed
abbrev cut-short-with-an-identity-the-pairs-image : String
cut-short-with-an-identity-the-pairs-image = "000000f70100030006000a000b0900ffff070100000200ffff000000010000000000010001000100010000000100020002000200000001000400020004000000010006000200060000000300080002000800000002000000000000000000000000000000010000000000000000000200000000000100000000000000020000000000030002000000010000000000020002000100000000000400020002000000000006000200010000000000080001000200000000000900020001ffffffff0001000000010001ffffffff000000000002000200000001000300000001000200000001000300000001000300000001000300000001000200000001"

unfoldable cut-short-with-an-identity-the-pairs : List Asked
unfolding hex
cut-short-with-an-identity-the-pairs =
    asked (frame cut-short-with-an-identity-the-pairs-image 4 5 90) "complete pairs 13 rounds 1 size 4 mass 2 skipped 15 checks 54\n0 lit 0 3\n1 lit 0 2\n2 lit 0 0\n3 variants 1:1 2:1\n4 op 1 0:1 3:1\n"
    ∷ asked (frame cut-short-with-an-identity-the-pairs-image 4 5 3) "partial pairs 1 rounds 0 size 5 mass 5 skipped 6 checks 3\n0 lit 0 2\n1 lit 0 3\n2 op 1 0:1 1:1\n3 op 1 1:1\n4 variants 2:1 3:1\n"
    ∷ asked (frame cut-short-with-an-identity-the-pairs-image 4 5 2) "partial pairs 1 rounds 0 size 5 mass 5 skipped 3 checks 2\n0 lit 0 2\n1 lit 0 3\n2 op 1 0:1 1:1\n3 op 1 1:1\n4 variants 2:1 3:1\n"
    ∷ asked (frame cut-short-with-an-identity-the-pairs-image 4 5 1) "partial pairs 1 rounds 0 size 5 mass 5 skipped 0 checks 1\n0 lit 0 2\n1 lit 0 3\n2 op 1 0:1 1:1\n3 op 1 1:1\n4 variants 2:1 3:1\n"
    ∷ []

cut-short-with-an-identity-the-pairs-holds : answers cut-short-with-an-identity-the-pairs ≡ expected cut-short-with-an-identity-the-pairs
unfolding program_of text answers expected cut-short-with-an-identity-the-pairs
cut-short-with-an-identity-the-pairs-holds = refl

-- none: unequal totals without identity are no pair, nor are both classes as themselves
abbrev none-unequal-totals-without-identity-image : String
none-unequal-totals-without-identity-image = "000000af0100030005000800040900ffff0701ffff07010000000000010000000000010001000100010000000100020002000200000001000400020004000000010006000200060000000100000000000000000000000000000001000000000000000000020000000000010000000000000002000000000003000200000001000000000002000200000000000400040000000200000000000400000000ffffffff0000000000010001ffffffff000100000002"

unfoldable none-unequal-totals-without-identity : List Asked
unfolding hex
none-unequal-totals-without-identity =
    asked (frame none-unequal-totals-without-identity-image 2 3 60) "complete pairs 1 rounds 0 size 2 mass 2 skipped 0 checks 4\n0 lit 0 2\n1 lit 0 3\n2 variants 0:1 1:1\n"
    ∷ asked (frame none-unequal-totals-without-identity-image 2 4 60) "complete pairs 2 rounds 0 size 2 mass 2 skipped 0 checks 7\n0 lit 0 2\n1 lit 0 4\n2 variants 0:1 1:1\n"
    ∷ asked (frame none-unequal-totals-without-identity-image 0 1 60) "complete pairs 1 rounds 0 size 2 mass 2 skipped 0 checks 4\n0 lit 0 0\n1 lit 0 1\n2 variants 0:1 1:1\n"
    ∷ []

none-unequal-totals-without-identity-holds : answers none-unequal-totals-without-identity ≡ expected none-unequal-totals-without-identity
unfolding program_of text answers expected none-unequal-totals-without-identity
none-unequal-totals-without-identity-holds = refl

-- cut short: which class stands left decides whose turn comes first
abbrev cut-short-which-class-stands-left-image : String
cut-short-which-class-stands-left-image = "000000f50100020007000b00080900ffff0701ffff0000000100000000000100010002000100000001000300010003000000010004000100040000000100050002000500000001000700020007000000010009000200090000000100000000000000000000000000000001000000000001000000000000000200000000000200020000000000000003000200000000000000040002000000010000000000020002000000000005000400000001000000000004000200000000000600060000000100000000000600020000ffffffff0000000000010000ffffffff000000000001000100000001000200000001000300000001000400000001"

unfoldable cut-short-which-class-stands-left : List Asked
unfolding hex
cut-short-which-class-stands-left =
    asked (frame cut-short-which-class-stands-left-image 5 6 60) "complete pairs 5 rounds 0 size 2 mass 2 skipped 1 checks 16\n0 lit 0 5\n1 lit 0 6\n2 variants 0:1 1:1\n"
    ∷ asked (frame cut-short-which-class-stands-left-image 5 6 3) "partial pairs 1 rounds 0 size 2 mass 2 skipped 1 checks 3\n0 lit 0 5\n1 lit 0 6\n2 variants 0:1 1:1\n"
    ∷ asked (frame cut-short-which-class-stands-left-image 6 5 3) "partial pairs 1 rounds 0 size 2 mass 2 skipped 0 checks 3\n0 lit 0 6\n1 lit 0 5\n2 variants 0:1 1:1\n"
    ∷ asked (frame cut-short-which-class-stands-left-image 5 6 2) "partial pairs 1 rounds 0 size 2 mass 2 skipped 0 checks 2\n0 lit 0 5\n1 lit 0 6\n2 variants 0:1 1:1\n"
    ∷ []

cut-short-which-class-stands-left-holds : answers cut-short-which-class-stands-left ≡ expected cut-short-which-class-stands-left
unfolding program_of text answers expected cut-short-which-class-stands-left
cut-short-which-class-stands-left-holds = refl
