-- Small queries for each feature, and budgets that cut in each phase: answers of the listed Rust with its own count of checks (oracle/sample/small.txt).
use Rattle.std.specs.Prelude.{◌≡◌, refl, List, [], ◌∷◌}
use Prim.Native.String.{String}
use Rattle.spec.specs.Bytes.{text}
use Rattle.spec.specs.Merge.{program_of}
use Rattle.spec.specs.Asked.{Asked, asked, frame, answers, expected, hex}

-- E: document 01's example
abbrev image-e-image : String
image-e-image = "000000790100020004000400040900ffff0200ffff0000000100000000000100010001000100000001000200010002000000030003000100030000000300000000000500000000000000000007000000000001000000000000000200010000000000020002000000000001000100000001000000000001000000000001"

unfoldable image-e : List Asked
unfolding hex
image-e =
    asked (frame image-e-image 2 3 14) "complete pairs 3 rounds 1 size 4 mass 2 skipped 0 checks 14\n0 lit 0 5\n1 lit 0 7\n2 variants 1:1 0:1\n3 op 1 0:1 2:1\n"
    ∷ asked (frame image-e-image 2 3 13) "partial pairs 3 rounds 1 size 4 mass 2 skipped 0 checks 13\n0 lit 0 5\n1 lit 0 7\n2 variants 1:1 0:1\n3 op 1 0:1 2:1\n"
    ∷ asked (frame image-e-image 2 3 10) "partial pairs 3 rounds 1 size 4 mass 2 skipped 0 checks 10\n0 lit 0 5\n1 lit 0 7\n2 variants 1:1 0:1\n3 op 1 0:1 2:1\n"
    ∷ asked (frame image-e-image 2 3 9) "partial pairs 3 rounds 0 size 6 mass 6 skipped 0 checks 9\n0 lit 0 5\n1 lit 0 7\n2 op 1 0:1 1:1\n3 op 1 0:2\n4 variants 2:1 3:1\n"
    ∷ asked (frame image-e-image 2 3 3) "partial pairs 3 rounds 0 size 6 mass 6 skipped 0 checks 3\n0 lit 0 5\n1 lit 0 7\n2 op 1 0:1 1:1\n3 op 1 0:2\n4 variants 2:1 3:1\n"
    ∷ asked (frame image-e-image 2 3 2) "partial pairs 1 rounds 0 size 6 mass 6 skipped 0 checks 2\n0 lit 0 5\n1 lit 0 7\n2 op 1 0:1 1:1\n3 op 1 0:2\n4 variants 2:1 3:1\n"
    ∷ asked (frame image-e-image 2 3 0) "partial pairs 1 rounds 0 size 6 mass 6 skipped 0 checks 0\n0 lit 0 5\n1 lit 0 7\n2 op 1 0:1 1:1\n3 op 1 0:2\n4 variants 2:1 3:1\n"
    ∷ asked (frame image-e-image 2 2 4) "complete pairs 1 rounds 0 size 3 mass 0 skipped 0 checks 4\n0 lit 0 5\n1 lit 0 7\n2 op 1 0:1 1:1\n"
    ∷ asked (frame image-e-image 2 2 3) "partial pairs 1 rounds 0 size 3 mass 0 skipped 0 checks 3\n0 lit 0 5\n1 lit 0 7\n2 op 1 0:1 1:1\n"
    ∷ asked (frame image-e-image 2 2 1) "partial pairs 1 rounds 0 size 3 mass 0 skipped 0 checks 1\n0 lit 0 5\n1 lit 0 7\n2 op 1 0:1 1:1\n"
    ∷ asked (frame image-e-image 0 1 4294967295) "complete pairs 1 rounds 0 size 2 mass 2 skipped 0 checks 4\n0 lit 0 5\n1 lit 0 7\n2 variants 0:1 1:1\n"
    ∷ []

image-e-holds : answers image-e ≡ expected image-e
unfolding program_of text answers expected image-e
image-e-holds = refl

-- shared best term: two Plain0 classes, one action of size 1
abbrev shared-best-term-two-plain0-classes-image : String
shared-best-term-two-plain0-classes-image = "000000350100010002000200000000ffff00000001000000000001000100010001000000010000000000000000000000000000000000000000"

unfoldable shared-best-term-two-plain0-classes : List Asked
unfolding hex
shared-best-term-two-plain0-classes =
    asked (frame shared-best-term-two-plain0-classes-image 0 1 20) "complete pairs 1 rounds 1 size 1 mass 0 skipped 0 checks 6\n0 op 0\n"
    ∷ asked (frame shared-best-term-two-plain0-classes-image 0 1 3) "partial pairs 1 rounds 0 size 2 mass 2 skipped 0 checks 3\n0 op 0\n1 variants 0:2\n"
    ∷ asked (frame shared-best-term-two-plain0-classes-image 0 1 2) "partial pairs 1 rounds 0 size 2 mass 2 skipped 0 checks 2\n0 op 0\n1 variants 0:2\n"
    ∷ []

shared-best-term-two-plain0-classes-holds : answers shared-best-term-two-plain0-classes ≡ expected shared-best-term-two-plain0-classes
unfolding program_of text answers expected shared-best-term-two-plain0-classes
shared-best-term-two-plain0-classes-holds = refl

-- variants of one shared best term, without an action: classes 1 and 2
abbrev variants-of-one-shared-best-term-image : String
variants-of-one-shared-best-term-image = "000000a30100030005000500070900ffff0100ffff0400ffff00000001000000000001000100010001000000020002000100020000000200030001000300000007000400010004000000050000000000000000000000010000000000000001000100000000000100010002000000000002000300020000000000050002000000000001000000000001000100000001000100000001000100000001000200000001000200000001"

unfoldable variants-of-one-shared-best-term : List Asked
unfolding hex
variants-of-one-shared-best-term =
    asked (frame variants-of-one-shared-best-term-image 3 4 20) "complete pairs 1 rounds 0 size 12 mass 12 skipped 0 checks 4\n0 lit 0 0\n1 op 1 0:1\n2 op 2 1:3\n3 op 2 1:2\n4 variants 2:1 3:1\n"
    ∷ asked (frame variants-of-one-shared-best-term-image 3 4 2) "partial pairs 1 rounds 0 size 12 mass 12 skipped 0 checks 2\n0 lit 0 0\n1 op 1 0:1\n2 op 2 1:3\n3 op 2 1:2\n4 variants 2:1 3:1\n"
    ∷ asked (frame variants-of-one-shared-best-term-image 1 2 9) "partial pairs 2 rounds 1 size 2 mass 0 skipped 0 checks 9\n0 lit 0 0\n1 op 1 0:1\n"
    ∷ []

variants-of-one-shared-best-term-holds : answers variants-of-one-shared-best-term ≡ expected variants-of-one-shared-best-term
unfolding program_of text answers expected variants-of-one-shared-best-term
variants-of-one-shared-best-term-holds = refl

-- variants 0:2: the best terms are equal, the classes are not
abbrev variants-0-2-the-best-terms-are-image : String
variants-0-2-the-best-terms-are-image = "000000730100020004000400030000ffff0600ffff0000000100000000000100010001000100000001000200010002000000030003000100030000000200000000000000000000000000000000000000000001000000000000000200010000000000020001000000000001000000000001000100000001"

unfoldable variants-0-2-the-best-terms-are : List Asked
unfolding hex
variants-0-2-the-best-terms-are =
    asked (frame variants-0-2-the-best-terms-are-image 2 3 1) "partial pairs 1 rounds 0 size 5 mass 5 skipped 0 checks 1\n0 op 0\n1 op 1 0:2\n2 op 1 0:1\n3 variants 1:1 2:1\n"
    ∷ asked (frame variants-0-2-the-best-terms-are-image 0 1 1) "partial pairs 1 rounds 0 size 2 mass 2 skipped 0 checks 1\n0 op 0\n1 variants 0:2\n"
    ∷ asked (frame variants-0-2-the-best-terms-are-image 2 3 9) "complete pairs 1 rounds 0 size 5 mass 5 skipped 0 checks 4\n0 op 0\n1 op 1 0:2\n2 op 1 0:1\n3 variants 1:1 2:1\n"
    ∷ []

variants-0-2-the-best-terms-are-holds : answers variants-0-2-the-best-terms-are ≡ expected variants-0-2-the-best-terms-are
unfolding program_of text answers expected variants-0-2-the-best-terms-are
variants-0-2-the-best-terms-are-holds = refl

-- literals use all 32 bits, and are ordered as unsigned
abbrev literals-use-all-32-bits-and-are-image : String
literals-use-all-32-bits-and-are-image = "0000008d0100020005000500040900ffff0801ffff00000001000000000001000100010001000000010002000100020000000100030001000300000003000400010004000000030000ffffffff0000000000000000000100000000000080000000000000000001000000000000000200010000000000020002000000000001000100000001000200000001000100000001"

unfoldable literals-use-all-32-bits-and-are : List Asked
unfolding hex
literals-use-all-32-bits-and-are =
    asked (frame literals-use-all-32-bits-and-are-image 3 4 100) "complete pairs 5 rounds 1 size 4 mass 2 skipped 0 checks 22\n0 lit 0 1\n1 lit 0 4294967295\n2 lit 0 2147483648\n3 variants 1:1 2:1\n4 op 1 0:1 3:1\n"
    ∷ asked (frame literals-use-all-32-bits-and-are-image 0 2 7) "complete pairs 1 rounds 0 size 2 mass 2 skipped 0 checks 4\n0 lit 0 4294967295\n1 lit 0 2147483648\n2 variants 0:1 1:1\n"
    ∷ []

literals-use-all-32-bits-and-are-holds : answers literals-use-all-32-bits-and-are ≡ expected literals-use-all-32-bits-and-are
unfolding program_of text answers expected literals-use-all-32-bits-and-are
literals-use-all-32-bits-and-are-holds = refl

-- SPair: crossed is better
abbrev spair-crossed-is-better-image : String
spair-crossed-is-better-image = "0000008d0100020005000500040900ffff0501ffff00000001000000000001000100010001000000010002000100020000000100030001000300000003000400010004000000030000000000010000000000000000000200000000000000000003000000000001000000000000000200010000000000020002000000000001000100000001000200000001000000000001"

unfoldable spair-crossed-is-better : List Asked
unfolding hex
spair-crossed-is-better =
    asked (frame spair-crossed-is-better-image 3 4 100) "complete pairs 5 rounds 1 size 4 mass 2 skipped 0 checks 22\n0 lit 0 1\n1 lit 0 2\n2 lit 0 3\n3 variants 1:1 2:1\n4 op 1 0:1 3:1\n"
    ∷ asked (frame spair-crossed-is-better-image 3 4 12) "partial pairs 5 rounds 0 size 6 mass 6 skipped 0 checks 12\n0 lit 0 1\n1 lit 0 2\n2 op 1 0:1 1:1\n3 lit 0 3\n4 op 1 3:1 0:1\n5 variants 2:1 4:1\n"
    ∷ asked (frame spair-crossed-is-better-image 3 4 5) "partial pairs 5 rounds 0 size 6 mass 6 skipped 0 checks 5\n0 lit 0 1\n1 lit 0 2\n2 op 1 0:1 1:1\n3 lit 0 3\n4 op 1 3:1 0:1\n5 variants 2:1 4:1\n"
    ∷ []

spair-crossed-is-better-holds : answers spair-crossed-is-better ≡ expected spair-crossed-is-better
unfolding program_of text answers expected spair-crossed-is-better
spair-crossed-is-better-holds = refl

-- SPair: a tie, straight first
abbrev spair-a-tie-straight-first-image : String
spair-a-tie-straight-first-image = "000000c10100020007000700060900ffff0501ffff0000000100000000000100010001000100000001000200010002000000010003000100030000000100040001000400000003000500010005000000030006000100060000000300000000000100000000000000000002000000000000000000030000000000000000000400000000000100000000000000020001000000000002000200010000000000040002000000000001000100000001000200000001000300000001000000000001000000000001"

unfoldable spair-a-tie-straight-first : List Asked
unfolding hex
spair-a-tie-straight-first =
    asked (frame spair-a-tie-straight-first-image 4 5 100) "complete pairs 5 rounds 1 size 5 mass 4 skipped 0 checks 22\n0 lit 0 1\n1 lit 0 3\n2 variants 0:1 1:1\n3 lit 0 2\n4 lit 0 4\n5 variants 3:1 4:1\n6 op 1 2:1 5:1\n"
    ∷ asked (frame spair-a-tie-straight-first-image 6 5 100) "complete pairs 3 rounds 1 size 5 mass 4 skipped 0 checks 14\n0 lit 0 1\n1 lit 0 3\n2 variants 0:1 1:1\n3 lit 0 4\n4 variants 0:1 3:1\n5 op 1 2:1 4:1\n"
    ∷ asked (frame spair-a-tie-straight-first-image 5 6 100) "complete pairs 3 rounds 1 size 5 mass 4 skipped 0 checks 14\n0 lit 0 3\n1 lit 0 1\n2 variants 0:1 1:1\n3 lit 0 4\n4 variants 3:1 1:1\n5 op 1 2:1 4:1\n"
    ∷ []

spair-a-tie-straight-first-holds : answers spair-a-tie-straight-first ≡ expected spair-a-tie-straight-first
unfolding program_of text answers expected spair-a-tie-straight-first
spair-a-tie-straight-first-holds = refl

-- Seq and PlainN: equal and unequal lengths, empty members
abbrev seq-and-plainn-equal-and-unequal-image : String
seq-and-plainn-equal-and-unequal-image = "000000bd0100030005000700080900ffff0600ffff0400ffff000000010000000000010001000100010000000100020002000200000001000400020004000000010006000100060000000300000000000100000000000000000002000000000001000000000000000000020000000000000003000100000000000300000002000000000003000300020000000000060002000000000001000100000001000000000001000100000001000100000001000000000001000000000001000100000001"

unfoldable seq-and-plainn-equal-and-unequal : List Asked
unfolding hex
seq-and-plainn-equal-and-unequal =
    asked (frame seq-and-plainn-equal-and-unequal-image 2 3 100) "complete pairs 4 rounds 1 size 1 mass 0 skipped 0 checks 18\n0 op 1\n"
    ∷ asked (frame seq-and-plainn-equal-and-unequal-image 2 4 100) "complete pairs 1 rounds 0 size 4 mass 4 skipped 0 checks 4\n0 op 1\n1 lit 0 1\n2 lit 0 2\n3 op 2 1:1 2:1\n4 variants 0:1 3:1\n"
    ∷ asked (frame seq-and-plainn-equal-and-unequal-image 3 4 100) "complete pairs 1 rounds 0 size 4 mass 4 skipped 0 checks 4\n0 op 1\n1 lit 0 1\n2 lit 0 2\n3 op 2 1:1 2:1\n4 variants 0:1 3:1\n"
    ∷ []

seq-and-plainn-equal-and-unequal-holds : answers seq-and-plainn-equal-and-unequal ≡ expected seq-and-plainn-equal-and-unequal
unfolding program_of text answers expected seq-and-plainn-equal-and-unequal
seq-and-plainn-equal-and-unequal-holds = refl

-- Plain3, positions kept
abbrev plain3-positions-kept-image : String
plain3-positions-kept-image = "000000bd0100030006000600080900ffff0300ffff0100ffff000000010000000000010001000100010000000100020001000200000004000300010003000000040004000100040000000500050001000500000005000000000009000000000000000000080000000000010000000000000003000100000000000300030002000000000006000100020000000000070001000100000001000000000001000100000001000000000001000000000001000100000001000200000001000300000001"

unfoldable plain3-positions-kept : List Asked
unfolding hex
plain3-positions-kept =
    asked (frame plain3-positions-kept-image 2 3 100) "complete pairs 4 rounds 1 size 5 mass 2 skipped 0 checks 18\n0 lit 0 8\n1 lit 0 9\n2 variants 0:1 1:1\n3 op 1 2:1 1:1 0:1\n"
    ∷ asked (frame plain3-positions-kept-image 4 5 100) "complete pairs 5 rounds 2 size 6 mass 2 skipped 0 checks 28\n0 lit 0 8\n1 lit 0 9\n2 variants 0:1 1:1\n3 op 1 2:1 1:1 0:1\n4 op 2 3:1\n"
    ∷ asked (frame plain3-positions-kept-image 4 5 21) "partial pairs 5 rounds 1 size 9 mass 8 skipped 0 checks 21\n0 lit 0 8\n1 lit 0 9\n2 op 1 0:1 1:1 0:1\n3 op 1 1:2 0:1\n4 variants 2:1 3:1\n5 op 2 4:1\n"
    ∷ asked (frame plain3-positions-kept-image 4 5 20) "partial pairs 5 rounds 1 size 9 mass 8 skipped 0 checks 20\n0 lit 0 8\n1 lit 0 9\n2 op 1 0:1 1:1 0:1\n3 op 1 1:2 0:1\n4 variants 2:1 3:1\n5 op 2 4:1\n"
    ∷ asked (frame plain3-positions-kept-image 4 5 11) "partial pairs 5 rounds 0 size 10 mass 10 skipped 0 checks 11\n0 lit 0 8\n1 lit 0 9\n2 op 1 0:1 1:1 0:1\n3 op 2 2:1\n4 op 1 1:2 0:1\n5 op 2 4:1\n6 variants 3:1 5:1\n"
    ∷ asked (frame plain3-positions-kept-image 4 5 10) "partial pairs 5 rounds 0 size 10 mass 10 skipped 0 checks 10\n0 lit 0 8\n1 lit 0 9\n2 op 1 0:1 1:1 0:1\n3 op 2 2:1\n4 op 1 1:2 0:1\n5 op 2 4:1\n6 variants 3:1 5:1\n"
    ∷ []

plain3-positions-kept-holds : answers plain3-positions-kept ≡ expected plain3-positions-kept
unfolding program_of text answers expected plain3-positions-kept
plain3-positions-kept-holds = refl

-- MSet with counts, no identity
abbrev mset-with-counts-no-identity-image : String
mset-with-counts-no-identity-image = "000000a70100020006000600050900ffff0701ffff000000010000000000010001000100010000000100020001000200000001000300010003000000040004000100040000000400050001000500000003000000000001000000000000000000020000000000000000000300000000000100000000000000020001000000000002000200010000000000040001000000000002000100000001000000000001000200000002000200000002"

unfoldable mset-with-counts-no-identity : List Asked
unfolding hex
mset-with-counts-no-identity =
    asked (frame mset-with-counts-no-identity-image 3 4 100) "complete pairs 5 rounds 1 size 6 mass 4 skipped 0 checks 22\n0 lit 0 1\n1 lit 0 3\n2 variants 0:1 1:1\n3 lit 0 2\n4 variants 3:1 1:1\n5 op 1 0:1 2:1 4:1\n"
    ∷ asked (frame mset-with-counts-no-identity-image 3 5 100) "complete pairs 1 rounds 0 size 7 mass 7 skipped 0 checks 4\n0 lit 0 1\n1 lit 0 2\n2 op 1 0:2 1:1\n3 lit 0 3\n4 op 1 3:2\n5 variants 2:1 4:1\n"
    ∷ asked (frame mset-with-counts-no-identity-image 4 3 100) "complete pairs 5 rounds 1 size 6 mass 4 skipped 0 checks 22\n0 lit 0 1\n1 lit 0 3\n2 variants 1:1 0:1\n3 lit 0 2\n4 variants 1:1 3:1\n5 op 1 0:1 2:1 4:1\n"
    ∷ []

mset-with-counts-no-identity-holds : answers mset-with-counts-no-identity ≡ expected mset-with-counts-no-identity
unfolding program_of text answers expected mset-with-counts-no-identity
mset-with-counts-no-identity-holds = refl

-- MSet with identity: padding, itself-monomials
abbrev mset-with-identity-padding-itself-image : String
mset-with-identity-padding-itself-image = "0000009b0100020006000600030900ffff070100000000000100000000000100010001000100000001000200010002000000010003000100030000000500040001000400000003000500010005000000010000000000000000000000000000000a0000000000000000001400000000000100000000000000020001000000000002000100000000001e00030000000100000003000200000001000100000002"

unfoldable mset-with-identity-padding-itself : List Asked
unfolding hex
mset-with-identity-padding-itself =
    asked (frame mset-with-identity-padding-itself-image 3 4 200) "complete pairs 9 rounds 1 size 7 mass 4 skipped 0 checks 38\n0 lit 0 10\n1 lit 0 0\n2 variants 0:1 1:1\n3 lit 0 20\n4 variants 3:1 1:1\n5 op 1 0:2 2:1 4:1\n"
    ∷ asked (frame mset-with-identity-padding-itself-image 4 3 200) "complete pairs 9 rounds 1 size 7 mass 4 skipped 0 checks 38\n0 lit 0 10\n1 lit 0 0\n2 variants 1:1 0:1\n3 lit 0 20\n4 variants 1:1 3:1\n5 op 1 0:2 2:1 4:1\n"
    ∷ asked (frame mset-with-identity-padding-itself-image 3 5 200) "complete pairs 5 rounds 0 size 6 mass 6 skipped 0 checks 16\n0 lit 0 10\n1 lit 0 20\n2 op 1 0:3 1:1\n3 lit 0 30\n4 variants 2:1 3:1\n"
    ∷ asked (frame mset-with-identity-padding-itself-image 5 3 200) "complete pairs 5 rounds 0 size 6 mass 6 skipped 0 checks 16\n0 lit 0 30\n1 lit 0 10\n2 lit 0 20\n3 op 1 1:3 2:1\n4 variants 0:1 3:1\n"
    ∷ asked (frame mset-with-identity-padding-itself-image 1 5 200) "complete pairs 1 rounds 0 size 2 mass 2 skipped 0 checks 4\n0 lit 0 10\n1 lit 0 30\n2 variants 0:1 1:1\n"
    ∷ asked (frame mset-with-identity-padding-itself-image 3 0 200) "complete pairs 3 rounds 0 size 6 mass 6 skipped 0 checks 10\n0 lit 0 10\n1 lit 0 20\n2 op 1 0:3 1:1\n3 lit 0 0\n4 variants 2:1 3:1\n"
    ∷ asked (frame mset-with-identity-padding-itself-image 3 1 200) "complete pairs 5 rounds 0 size 6 mass 6 skipped 0 checks 16\n0 lit 0 10\n1 lit 0 20\n2 op 1 0:3 1:1\n3 variants 2:1 0:1\n"
    ∷ []

mset-with-identity-padding-itself-holds : answers mset-with-identity-padding-itself ≡ expected mset-with-identity-padding-itself
unfolding program_of text answers expected mset-with-identity-padding-itself
mset-with-identity-padding-itself-holds = refl

-- document 01's padding: left 4:1, right 4:1 5:2
abbrev document-01-s-padding-left-4-1-right-image : String
document-01-s-padding-left-4-1-right-image = "000000870100020005000500030900ffff0701000100000001000000000001000100010001000000010002000100020000000100030001000300000002000400010004000000040000000000070000000000000000000000000000000000000009000000000001000000000000000100010000000000010002000100000001000100000001000000000002"

unfoldable document-01-s-padding-left-4-1-right : List Asked
unfolding hex
document-01-s-padding-left-4-1-right =
    asked (frame document-01-s-padding-left-4-1-right-image 3 4 200) "complete pairs 6 rounds 1 size 6 mass 4 skipped 0 checks 26\n0 lit 0 0\n1 lit 0 7\n2 variants 0:1 1:1\n3 op 1 0:1 2:2\n"
    ∷ asked (frame document-01-s-padding-left-4-1-right-image 4 3 200) "complete pairs 6 rounds 1 size 6 mass 4 skipped 0 checks 26\n0 lit 0 0\n1 lit 0 7\n2 variants 1:1 0:1\n3 op 1 0:1 2:2\n"
    ∷ []

document-01-s-padding-left-4-1-right-holds : answers document-01-s-padding-left-4-1-right ≡ expected document-01-s-padding-left-4-1-right
unfolding program_of text answers expected document-01-s-padding-left-4-1-right
document-01-s-padding-left-4-1-right-holds = refl

-- children 4:1, 2:3, 4:2 (one class twice), stored order kept in best terms
abbrev children-4-1-2-3-4-2-one-class-twice-image : String
children-4-1-2-3-4-2-one-class-twice-image = "000000790100020004000400040900ffff0701ffff0000000100000000000100010001000100000001000200010002000000070003000100030000000700000000000200000000000000000001000000000001000000000000000300010000000000030001000000000001000100000003000000000002000100000006"

unfoldable children-4-1-2-3-4-2-one-class-twice : List Asked
unfolding hex
children-4-1-2-3-4-2-one-class-twice =
    asked (frame children-4-1-2-3-4-2-one-class-twice-image 2 3 200) "complete pairs 3 rounds 1 size 10 mass 6 skipped 0 checks 14\n0 lit 0 1\n1 lit 0 2\n2 variants 1:1 0:1\n3 op 1 0:3 2:3\n"
    ∷ asked (frame children-4-1-2-3-4-2-one-class-twice-image 2 3 1) "partial pairs 1 rounds 0 size 14 mass 14 skipped 0 checks 1\n0 lit 0 2\n1 lit 0 1\n2 op 1 0:1 1:3 0:2\n3 op 1 1:6\n4 variants 2:1 3:1\n"
    ∷ asked (frame children-4-1-2-3-4-2-one-class-twice-image 2 2 9) "complete pairs 1 rounds 0 size 7 mass 0 skipped 0 checks 4\n0 lit 0 2\n1 lit 0 1\n2 op 1 0:1 1:3 0:2\n"
    ∷ []

children-4-1-2-3-4-2-one-class-twice-holds : answers children-4-1-2-3-4-2-one-class-twice ≡ expected children-4-1-2-3-4-2-one-class-twice
unfolding program_of text answers expected children-4-1-2-3-4-2-one-class-twice
children-4-1-2-3-4-2-one-class-twice-holds = refl

-- Set: identity, a class twice counts 2
abbrev set-identity-a-class-twice-counts-2-image : String
set-identity-a-class-twice-counts-2-image = "000000b30100020006000600070900ffff08010000000000010000000000010001000100010000000100020001000200000001000300010003000000030004000100040000000300050001000500000004000000000000000000000000000000010000000000000000000200000000000100000000000000020001000000000002000200010000000000040003000100000001000100000001000100000001000200000001000100000001000200000001000000000001"

unfoldable set-identity-a-class-twice-counts-2 : List Asked
unfolding hex
set-identity-a-class-twice-counts-2 =
    asked (frame set-identity-a-class-twice-counts-2-image 3 4 200) "complete pairs 9 rounds 1 size 4 mass 2 skipped 0 checks 38\n0 lit 0 1\n1 lit 0 2\n2 variants 0:1 1:1\n3 op 1 0:1 2:1\n"
    ∷ asked (frame set-identity-a-class-twice-counts-2-image 4 5 200) "complete pairs 15 rounds 1 size 4 mass 0 skipped 0 checks 62\n0 lit 0 0\n1 lit 0 1\n2 lit 0 2\n3 op 1 0:1 1:1 2:1\n"
    ∷ asked (frame set-identity-a-class-twice-counts-2-image 3 5 200) "complete pairs 11 rounds 1 size 5 mass 2 skipped 0 checks 46\n0 lit 0 0\n1 lit 0 1\n2 lit 0 2\n3 variants 1:1 2:1\n4 op 1 0:1 1:1 3:1\n"
    ∷ []

set-identity-a-class-twice-counts-2-holds : answers set-identity-a-class-twice-counts-2 ≡ expected set-identity-a-class-twice-counts-2
unfolding program_of text answers expected set-identity-a-class-twice-counts-2
set-identity-a-class-twice-counts-2-holds = refl

-- Set without identity: unequal totals have no pair
abbrev set-without-identity-unequal-totals-image : String
set-without-identity-unequal-totals-image = "000000730100020004000400030900ffff0801ffff0000000100000000000100010001000100000001000200010002000000030003000100030000000200000000000100000000000000000002000000000001000000000000000200010000000000020001000000000001000100000001000000000001"

unfoldable set-without-identity-unequal-totals : List Asked
unfolding hex
set-without-identity-unequal-totals =
    asked (frame set-without-identity-unequal-totals-image 2 3 50) "complete pairs 1 rounds 0 size 5 mass 5 skipped 0 checks 4\n0 lit 0 1\n1 lit 0 2\n2 op 1 0:1 1:1\n3 op 1 0:1\n4 variants 2:1 3:1\n"
    ∷ []

set-without-identity-unequal-totals-holds : answers set-without-identity-unequal-totals ≡ expected set-without-identity-unequal-totals
unfolding program_of text answers expected set-without-identity-unequal-totals
set-without-identity-unequal-totals-holds = refl

-- empty MSet member, with identity: padded to the identity
abbrev empty-mset-member-with-identity-image : String
empty-mset-member-with-identity-image = "000000710100020004000500010900ffff07010000000000020000000000010002000100020000000100030001000300000003000400010004000000010000000000000000000000010000000000000000000000000001000000000001000000000000000100010000000000010000000100000002"

unfoldable empty-mset-member-with-identity : List Asked
unfolding hex
empty-mset-member-with-identity =
    asked (frame empty-mset-member-with-identity-image 2 3 300) "complete pairs 4 rounds 0 size 4 mass 4 skipped 0 checks 13\n0 lit 0 1\n1 op 1 0:2\n2 op 1\n3 variants 1:1 2:1\n"
    ∷ asked (frame empty-mset-member-with-identity-image 0 2 300) "complete pairs 2 rounds 0 size 4 mass 4 skipped 0 checks 7\n0 lit 0 0\n1 lit 0 1\n2 op 1 1:2\n3 variants 0:1 2:1\n"
    ∷ asked (frame empty-mset-member-with-identity-image 0 3 300) "complete pairs 2 rounds 1 size 2 mass 0 skipped 0 checks 10\n0 lit 0 0\n1 op 1 0:1\n"
    ∷ asked (frame empty-mset-member-with-identity-image 3 1 300) "complete pairs 2 rounds 0 size 2 mass 2 skipped 0 checks 7\n0 op 1\n1 lit 0 1\n2 variants 0:1 1:1\n"
    ∷ []

empty-mset-member-with-identity-holds : answers empty-mset-member-with-identity ≡ expected empty-mset-member-with-identity
unfolding program_of text answers expected empty-mset-member-with-identity
empty-mset-member-with-identity-holds = refl

-- empty MSet members, no identity: a pair, but no plan
abbrev empty-mset-members-no-identity-a-image : String
empty-mset-members-no-identity-a-image = "000000390100020002000200000000ffff0701ffff00000001000000000001000100010001000000010001000000000000000000010000000000000000"

unfoldable empty-mset-members-no-identity-a : List Asked
unfolding hex
empty-mset-members-no-identity-a =
    asked (frame empty-mset-members-no-identity-a-image 0 1 30) "complete pairs 1 rounds 0 size 2 mass 2 skipped 0 checks 4\n0 op 1\n1 variants 0:2\n"
    ∷ []

empty-mset-members-no-identity-a-holds : answers empty-mset-members-no-identity-a ≡ expected empty-mset-members-no-identity-a
unfolding program_of text answers expected empty-mset-members-no-identity-a
empty-mset-members-no-identity-a-holds = refl

-- a cycle: a list class that holds itself
abbrev a-cycle-a-list-class-that-holds-image : String
a-cycle-a-list-class-that-holds-image = "0000008d0100020004000600040900ffff0200ffff00000001000000000001000100010001000000010002000200020000000100040002000400000001000000000000000000000000000000010000000000000000000900000000000100000000000000020000000000080002000000010000000000020002000000000001000200000001000100000001000300000001"

unfoldable a-cycle-a-list-class-that-holds : List Asked
unfolding hex
a-cycle-a-list-class-that-holds =
    asked (frame a-cycle-a-list-class-that-holds-image 2 3 100) "complete pairs 2 rounds 0 size 2 mass 2 skipped 0 checks 7\n0 lit 0 9\n1 lit 0 8\n2 variants 0:1 1:1\n"
    ∷ asked (frame a-cycle-a-list-class-that-holds-image 2 3 8) "complete pairs 2 rounds 0 size 2 mass 2 skipped 0 checks 7\n0 lit 0 9\n1 lit 0 8\n2 variants 0:1 1:1\n"
    ∷ []

a-cycle-a-list-class-that-holds-holds : answers a-cycle-a-list-class-that-holds ≡ expected a-cycle-a-list-class-that-holds
unfolding program_of text answers expected a-cycle-a-list-class-that-holds
a-cycle-a-list-class-that-holds-holds = refl

-- a cycle through a Plain1 member (succ), several members
abbrev a-cycle-through-a-plain1-member-succ-image : String
a-cycle-through-a-plain1-member-succ-image = "000000690100020003000400030900ffff0100ffff00000001000000000001000100020001000000020003000100030000000300000000000000000000000100000000000000010001000000000001000100010000000000020001000000000001000200000001000100000001"

unfoldable a-cycle-through-a-plain1-member-succ : List Asked
unfolding hex
a-cycle-through-a-plain1-member-succ =
    asked (frame a-cycle-through-a-plain1-member-succ-image 0 2 100) "complete pairs 1 rounds 0 size 4 mass 4 skipped 0 checks 4\n0 lit 0 0\n1 op 1 0:1\n2 op 1 1:1\n3 variants 0:1 2:1\n"
    ∷ asked (frame a-cycle-through-a-plain1-member-succ-image 1 2 100) "complete pairs 4 rounds 1 size 4 mass 3 skipped 0 checks 18\n0 lit 0 0\n1 op 1 0:1\n2 variants 0:1 1:1\n3 op 1 2:1\n"
    ∷ asked (frame a-cycle-through-a-plain1-member-succ-image 1 2 30) "complete pairs 4 rounds 1 size 4 mass 3 skipped 0 checks 18\n0 lit 0 0\n1 op 1 0:1\n2 variants 0:1 1:1\n3 op 1 2:1\n"
    ∷ []

a-cycle-through-a-plain1-member-succ-holds : answers a-cycle-through-a-plain1-member-succ ≡ expected a-cycle-through-a-plain1-member-succ
unfolding program_of text answers expected a-cycle-through-a-plain1-member-succ
a-cycle-through-a-plain1-member-succ-holds = refl

-- itself as a real member: MSet over itself once, no identity
abbrev itself-as-a-real-member-mset-over-image : String
itself-as-a-real-member-mset-over-image = "0000008d0100020003000700040900ffff0701ffff00000002000000000001000200020002000000010004000300040000000100000000000000000000000100000000000000010000000000010001000000010000000000010001000000000002000200000001000000000002000100010000000000030001000000000001000100000001000200000001000000000001"

unfoldable itself-as-a-real-member-mset-over : List Asked
unfolding hex
itself-as-a-real-member-mset-over =
    asked (frame itself-as-a-real-member-mset-over-image 0 1 60) "complete pairs 1 rounds 0 size 2 mass 2 skipped 0 checks 4\n0 lit 0 0\n1 lit 0 1\n2 variants 0:1 1:1\n"
    ∷ asked (frame itself-as-a-real-member-mset-over-image 0 2 60) "complete pairs 2 rounds 1 size 2 mass 0 skipped 0 checks 10\n0 lit 0 0\n1 op 1 0:1\n"
    ∷ []

itself-as-a-real-member-mset-over-holds : answers itself-as-a-real-member-mset-over ≡ expected itself-as-a-real-member-mset-over
unfolding program_of text answers expected itself-as-a-real-member-mset-over
itself-as-a-real-member-mset-over-holds = refl

-- both sides with several members: ties, first wins
abbrev both-sides-with-several-members-ties-image : String
both-sides-with-several-members-ties-image = "000000b90100020005000700080900ffff0200ffff000000010000000000010001000100010000000100020001000200000001000300020003000000030005000200050000000300000000000000000000000000000001000000000000000000020000000000010000000000000002000100000000000200020001000000000004000200010000000000060002000000000001000100000001000100000001000000000001000000000001000200000001000200000001000000000001"

unfoldable both-sides-with-several-members-ties : List Asked
unfolding hex
both-sides-with-several-members-ties =
    asked (frame both-sides-with-several-members-ties-image 3 4 100) "complete pairs 5 rounds 1 size 4 mass 2 skipped 0 checks 22\n0 lit 0 0\n1 lit 0 1\n2 lit 0 2\n3 variants 1:1 2:1\n4 op 1 0:1 3:1\n"
    ∷ asked (frame both-sides-with-several-members-ties-image 4 3 100) "complete pairs 5 rounds 1 size 4 mass 2 skipped 0 checks 22\n0 lit 0 0\n1 lit 0 2\n2 lit 0 1\n3 variants 1:1 2:1\n4 op 1 0:1 3:1\n"
    ∷ []

both-sides-with-several-members-ties-holds : answers both-sides-with-several-members-ties ≡ expected both-sides-with-several-members-ties
unfolding program_of text answers expected both-sides-with-several-members-ties
both-sides-with-several-members-ties-holds = refl

-- two operations tie: the lower number first; structural before transport
abbrev two-operations-tie-the-lower-number-image : String
two-operations-tie-the-lower-number-image = "0000012d0100040007000b00100900ffff0200ffff0801ffff0600ffff000000010000000000010001000100010000000100020001000200000001000300020003000000030005000200050000000300070002000700000003000900020009000000030000000000000000000000000000000100000000000000000002000000000002000000000000000200030000000000020002000200000000000400020003000000000006000200010000000000080002000300000000000a0002000100000000000c0002000300000000000e0002000000000001000100000001000000000001000100000001000000000001000200000001000000000001000200000001000000000001000100000001000000000001000100000001000000000001000200000001000000000001000200000001"

unfoldable two-operations-tie-the-lower-number : List Asked
unfolding hex
two-operations-tie-the-lower-number =
    asked (frame two-operations-tie-the-lower-number-image 3 4 100) "complete pairs 5 rounds 1 size 4 mass 2 skipped 0 checks 22\n0 lit 0 0\n1 lit 0 1\n2 lit 0 2\n3 variants 1:1 2:1\n4 op 3 0:1 3:1\n"
    ∷ asked (frame two-operations-tie-the-lower-number-image 5 6 100) "complete pairs 3 rounds 1 size 4 mass 2 skipped 0 checks 14\n0 lit 0 0\n1 lit 0 1\n2 lit 0 2\n3 variants 1:1 2:1\n4 op 1 0:1 3:1\n"
    ∷ []

two-operations-tie-the-lower-number-holds : answers two-operations-tie-the-lower-number ≡ expected two-operations-tie-the-lower-number
unfolding program_of text answers expected two-operations-tie-the-lower-number
two-operations-tie-the-lower-number-holds = refl

-- three rounds, every cut
abbrev three-rounds-every-cut-image : String
three-rounds-every-cut-image = "000000f50100020008000a00080900ffff0100ffff000000020000000000010002000200020000000100040001000400000002000500010005000000020006000100060000000300070001000700000003000800010008000000040009000100090000000400000000000000000000000100000000000000010000000000010001000000010000000000010001000100000000000200010001000000000003000100010000000000040001000100000000000500010001000000000006000100010000000000070001000200000001000300000001000000000001000100000001000200000001000300000001000400000001000500000001"

unfoldable three-rounds-every-cut : List Asked
unfolding hex
three-rounds-every-cut =
    asked (frame three-rounds-every-cut-image 6 7 100) "complete pairs 4 rounds 3 size 5 mass 2 skipped 0 checks 28\n0 lit 0 0\n1 lit 0 1\n2 variants 0:1 1:1\n3 op 1 2:1\n4 op 1 3:1\n5 op 1 4:1\n"
    ∷ asked (frame three-rounds-every-cut-image 6 7 8) "partial pairs 4 rounds 0 size 8 mass 8 skipped 0 checks 8\n0 lit 0 0\n1 op 1 0:1\n2 op 1 1:1\n3 op 1 2:1\n4 lit 0 1\n5 op 1 4:1\n6 op 1 5:1\n7 op 1 6:1\n8 variants 3:1 7:1\n"
    ∷ asked (frame three-rounds-every-cut-image 6 7 13) "partial pairs 4 rounds 1 size 7 mass 6 skipped 0 checks 13\n0 lit 0 0\n1 op 1 0:1\n2 op 1 1:1\n3 lit 0 1\n4 op 1 3:1\n5 op 1 4:1\n6 variants 2:1 5:1\n7 op 1 6:1\n"
    ∷ asked (frame three-rounds-every-cut-image 6 7 18) "partial pairs 4 rounds 2 size 6 mass 4 skipped 0 checks 18\n0 lit 0 0\n1 op 1 0:1\n2 lit 0 1\n3 op 1 2:1\n4 variants 1:1 3:1\n5 op 1 4:1\n6 op 1 5:1\n"
    ∷ asked (frame three-rounds-every-cut-image 6 7 23) "partial pairs 4 rounds 3 size 5 mass 2 skipped 0 checks 23\n0 lit 0 0\n1 lit 0 1\n2 variants 0:1 1:1\n3 op 1 2:1\n4 op 1 3:1\n5 op 1 4:1\n"
    ∷ asked (frame three-rounds-every-cut-image 6 7 7) "partial pairs 4 rounds 0 size 8 mass 8 skipped 0 checks 7\n0 lit 0 0\n1 op 1 0:1\n2 op 1 1:1\n3 op 1 2:1\n4 lit 0 1\n5 op 1 4:1\n6 op 1 5:1\n7 op 1 6:1\n8 variants 3:1 7:1\n"
    ∷ asked (frame three-rounds-every-cut-image 6 7 3) "partial pairs 1 rounds 0 size 8 mass 8 skipped 0 checks 3\n0 lit 0 0\n1 op 1 0:1\n2 op 1 1:1\n3 op 1 2:1\n4 lit 0 1\n5 op 1 4:1\n6 op 1 5:1\n7 op 1 6:1\n8 variants 3:1 7:1\n"
    ∷ asked (frame three-rounds-every-cut-image 6 7 24) "partial pairs 4 rounds 3 size 5 mass 2 skipped 0 checks 24\n0 lit 0 0\n1 lit 0 1\n2 variants 0:1 1:1\n3 op 1 2:1\n4 op 1 3:1\n5 op 1 4:1\n"
    ∷ []

three-rounds-every-cut-holds : answers three-rounds-every-cut ≡ expected three-rounds-every-cut
unfolding program_of text answers expected three-rounds-every-cut
three-rounds-every-cut-holds = refl

-- the best member need not be the smallest
abbrev the-best-member-need-not-be-the-image : String
the-best-member-need-not-be-the-image = "000000610100030003000400010900ffff0100ffff0000ffff00000002000100000002000200010002000000010003000100030000000100000000000300000000000100000000000000010002000000000001000000000000000400010000000100000001"

unfoldable the-best-member-need-not-be-the : List Asked
unfolding hex
the-best-member-need-not-be-the =
    asked (frame the-best-member-need-not-be-the-image 0 2 30) "complete pairs 1 rounds 0 size 3 mass 3 skipped 0 checks 4\n0 op 2\n1 op 1 0:1\n2 lit 0 4\n3 variants 1:1 2:1\n"
    ∷ asked (frame the-best-member-need-not-be-the-image 0 1 30) "complete pairs 1 rounds 0 size 3 mass 3 skipped 0 checks 4\n0 op 2\n1 op 1 0:1\n2 variants 1:1 0:1\n"
    ∷ asked (frame the-best-member-need-not-be-the-image 2 0 0) "partial pairs 1 rounds 0 size 3 mass 3 skipped 0 checks 0\n0 lit 0 4\n1 op 2\n2 op 1 1:1\n3 variants 0:1 2:1\n"
    ∷ []

the-best-member-need-not-be-the-holds : answers the-best-member-need-not-be-the ≡ expected the-best-member-need-not-be-the
unfolding program_of text answers expected the-best-member-need-not-be-the
the-best-member-need-not-be-the-holds = refl

-- skipped: one class above 4,294,967,295 with its identity; cells not entered
abbrev skipped-one-class-above-4-294-967-image : String
skipped-one-class-above-4-294-967-image = "0000008b0100030004000600030900ffff070100010000ffff000000010000000000010001000100010000000100020002000200000001000400020004000000010000000000000000000000000000000100000000000000000002000000000001000000000000000200000000000300020000000100000000000200010000ffffffff0000ffffffff000100000001"

unfoldable skipped-one-class-above-4-294-967 : List Asked
unfolding hex
skipped-one-class-above-4-294-967 =
    asked (frame skipped-one-class-above-4-294-967-image 2 3 60) "complete pairs 2 rounds 0 size 2 mass 2 skipped 3 checks 7\n0 lit 0 2\n1 lit 0 3\n2 variants 0:1 1:1\n"
    ∷ asked (frame skipped-one-class-above-4-294-967-image 3 2 60) "complete pairs 2 rounds 0 size 2 mass 2 skipped 3 checks 7\n0 lit 0 3\n1 lit 0 2\n2 variants 0:1 1:1\n"
    ∷ []

skipped-one-class-above-4-294-967-holds : answers skipped-one-class-above-4-294-967 ≡ expected skipped-one-class-above-4-294-967
unfolding program_of text answers expected skipped-one-class-above-4-294-967
skipped-one-class-above-4-294-967-holds = refl

-- one count of 4,294,967,295 is kept: its cells are entered, its plan never wins
abbrev one-count-of-4-294-967-295-is-kept-image : String
one-count-of-4-294-967-295-is-kept-image = "000000810100020004000600020900ffff07010001000000010000000000010001000100010000000100020002000200000001000400020004000000010000000000000000000000000000000100000000000000000002000000000001000000000000000100000000000300010000000100000000000100010000ffffffff000100000001"

unfoldable one-count-of-4-294-967-295-is-kept : List Asked
unfolding hex
one-count-of-4-294-967-295-is-kept =
    asked (frame one-count-of-4-294-967-295-is-kept-image 2 3 60) "complete pairs 4 rounds 0 size 2 mass 2 skipped 0 checks 13\n0 lit 0 2\n1 lit 0 3\n2 variants 0:1 1:1\n"
    ∷ asked (frame one-count-of-4-294-967-295-is-kept-image 3 2 60) "complete pairs 4 rounds 0 size 2 mass 2 skipped 0 checks 13\n0 lit 0 3\n1 lit 0 2\n2 variants 0:1 1:1\n"
    ∷ []

one-count-of-4-294-967-295-is-kept-holds : answers one-count-of-4-294-967-295-is-kept ≡ expected one-count-of-4-294-967-295-is-kept
unfolding program_of text answers expected one-count-of-4-294-967-295-is-kept
one-count-of-4-294-967-295-is-kept-holds = refl

-- lengths decide the order of children before what they hold
abbrev lengths-decide-the-order-of-children-image : String
lengths-decide-the-order-of-children-image = "000000d70100030007000700090900ffff0701ffff0801ffff00000001000000000001000100010001000000010002000100020000000600030001000300000004000400010004000000010005000100050000000c0006000100060000000c00000000000100000000000000000002000000000001000000000000000100010000000000010002000000000006000300000002000000000003000300020000000000060003000000000005000100000001000000000002000200000001000300000001000400000001000300000001000200000001000000000001"

unfoldable lengths-decide-the-order-of-children : List Asked
unfolding hex
lengths-decide-the-order-of-children =
    asked (frame lengths-decide-the-order-of-children-image 5 6 300) "complete pairs 10 rounds 1 size 13 mass 2 skipped 0 checks 42\n0 lit 0 2\n1 lit 0 1\n2 op 1 0:1 1:2\n3 op 1 1:5\n4 lit 0 6\n5 variants 4:1 1:1\n6 op 2 2:1 3:1 5:1\n"
    ∷ asked (frame lengths-decide-the-order-of-children-image 5 5 9) "complete pairs 1 rounds 0 size 12 mass 0 skipped 0 checks 4\n0 lit 0 1\n1 op 1 0:5\n2 lit 0 2\n3 op 1 2:1 0:2\n4 lit 0 6\n5 op 2 1:1 3:1 4:1\n"
    ∷ []

lengths-decide-the-order-of-children-holds : answers lengths-decide-the-order-of-children ≡ expected lengths-decide-the-order-of-children
unfolding program_of text answers expected lengths-decide-the-order-of-children
lengths-decide-the-order-of-children-holds = refl

-- mass decides where sizes tie
abbrev mass-decides-where-sizes-tie-image : String
mass-decides-where-sizes-tie-image = "000000b50100020006000800040900ffff0100ffff0000000100000000000100010001000100000001000200010002000000020003000100030000000200040002000400000001000600020006000000010000000000010000000000000000000200000000000100000000000000010001000000000001000100000000000700020000000100000000000200010000000000080003000000010000000000030001000000000001000100000001000200000001000300000001"

unfoldable mass-decides-where-sizes-tie : List Asked
unfolding hex
mass-decides-where-sizes-tie =
    asked (frame mass-decides-where-sizes-tie-image 4 5 80) "complete pairs 3 rounds 1 size 2 mass 2 skipped 0 checks 14\n0 lit 0 7\n1 lit 0 8\n2 variants 0:1 1:1\n"
    ∷ asked (frame mass-decides-where-sizes-tie-image 2 3 80) "complete pairs 2 rounds 1 size 3 mass 2 skipped 0 checks 10\n0 lit 0 1\n1 lit 0 2\n2 variants 0:1 1:1\n3 op 1 2:1\n"
    ∷ []

mass-decides-where-sizes-tie-holds : answers mass-decides-where-sizes-tie ≡ expected mass-decides-where-sizes-tie
unfolding program_of text answers expected mass-decides-where-sizes-tie
mass-decides-where-sizes-tie-holds = refl

-- transport: the queue's order picks among plans of equal total
abbrev transport-the-queue-s-order-picks-image : String
transport-the-queue-s-order-picks-image = "000000a10100020006000600040900ffff0701ffff000000010000000000010001000100010000000100020001000200000001000300010003000000010004000100040000000300050001000500000003000000000001000000000000000000020000000000000000000300000000000000000004000000000001000000000000000200010000000000020002000000000001000100000001000200000001000300000001"

unfoldable transport-the-queue-s-order-picks : List Asked
unfolding hex
transport-the-queue-s-order-picks =
    asked (frame transport-the-queue-s-order-picks-image 4 5 100) "complete pairs 5 rounds 1 size 5 mass 4 skipped 0 checks 22\n0 lit 0 1\n1 lit 0 3\n2 variants 0:1 1:1\n3 lit 0 2\n4 lit 0 4\n5 variants 3:1 4:1\n6 op 1 2:1 5:1\n"
    ∷ []

transport-the-queue-s-order-picks-holds : answers transport-the-queue-s-order-picks ≡ expected transport-the-queue-s-order-picks
unfolding program_of text answers expected transport-the-queue-s-order-picks
transport-the-queue-s-order-picks-holds = refl

-- size x W + mass picks another plan than size, then mass
abbrev size-x-w-mass-picks-another-plan-image : String
size-x-w-mass-picks-another-plan-image = "000000b10100030006000600060900ffff0701ffff0100ffff000000010000000000010001000100010000000100020001000200000002000300010003000000020004000100040000000500050001000500000006000000000001000000000000000000020000000000020000000000000001000200000000000100010001000000000002000200010000000000040002000000000001000100000001000000000002000200000001000100000001000300000002"

unfoldable size-x-w-mass-picks-another-plan : List Asked
unfolding hex
size-x-w-mass-picks-another-plan =
    asked (frame size-x-w-mass-picks-another-plan-image 4 5 200) "complete pairs 5 rounds 2 size 9 mass 7 skipped 0 checks 28\n0 lit 0 1\n1 lit 0 2\n2 variants 0:1 1:1\n3 op 2 2:1\n4 op 2 1:1\n5 variants 0:1 4:1\n6 op 1 3:1 5:1 2:1\n"
    ∷ asked (frame size-x-w-mass-picks-another-plan-image 5 4 200) "complete pairs 5 rounds 2 size 9 mass 7 skipped 0 checks 28\n0 lit 0 2\n1 lit 0 1\n2 variants 0:1 1:1\n3 op 2 2:1\n4 op 2 0:1\n5 variants 4:1 1:1\n6 op 1 3:1 5:1 2:1\n"
    ∷ []

size-x-w-mass-picks-another-plan-holds : answers size-x-w-mass-picks-another-plan ≡ expected size-x-w-mass-picks-another-plan
unfolding program_of text answers expected size-x-w-mass-picks-another-plan
size-x-w-mass-picks-another-plan-holds = refl

-- transport operations tie, each in one class only: the lower number first
abbrev transport-operations-tie-each-in-one-image : String
transport-operations-tie-each-in-one-image = "000000dd01000300060008000a0900ffff07010000070100000000000100000000000100010001000100000001000200020002000000030004000200040000000300060001000600000004000700010007000000040000000000000000000000000000000100000000000100000000000000020001000000000002000200020000000000040002000200000000000600020002000000000008000100010000000000090001000100000001000000000001000100000001000100000001000100000001000000000001000100000001000100000001000200000001000300000001"

unfoldable transport-operations-tie-each-in-one : List Asked
unfolding hex
transport-operations-tie-each-in-one =
    asked (frame transport-operations-tie-each-in-one-image 3 2 200) "complete pairs 9 rounds 2 size 5 mass 0 skipped 0 checks 48\n0 lit 0 0\n1 lit 0 1\n2 op 2 0:1 1:1\n3 op 1 2:1 0:1\n"
    ∷ asked (frame transport-operations-tie-each-in-one-image 2 3 200) "complete pairs 9 rounds 2 size 5 mass 0 skipped 0 checks 48\n0 lit 0 0\n1 lit 0 1\n2 op 2 0:1 1:1\n3 op 1 2:1 0:1\n"
    ∷ asked (frame transport-operations-tie-each-in-one-image 4 5 200) "complete pairs 16 rounds 3 size 6 mass 0 skipped 0 checks 100\n0 lit 0 0\n1 lit 0 1\n2 op 1 0:1 1:1\n3 op 2 2:1 0:1\n4 op 1 3:1\n"
    ∷ []

transport-operations-tie-each-in-one-holds : answers transport-operations-tie-each-in-one ≡ expected transport-operations-tie-each-in-one
unfolding program_of text answers expected transport-operations-tie-each-in-one
transport-operations-tie-each-in-one-holds = refl

-- skipped by the padding alone: 4,294,967,296 identities
abbrev skipped-by-the-padding-alone-4-294-image : String
skipped-by-the-padding-alone-4-294-image = "000000b10100020005000800050900ffff07010001000000010000000000010001000100010000000100020002000200000001000400020004000000010006000200060000000100000000000000000000000000000001000000000000000000020000000000010000000000000002000000000003000200000001000000000002000100000000000400030000000100000000000300020000ffffffff0001000000020001000000010000ffffffff000100000001"

unfoldable skipped-by-the-padding-alone-4-294 : List Asked
unfolding hex
skipped-by-the-padding-alone-4-294 =
    asked (frame skipped-by-the-padding-alone-4-294-image 2 3 60) "complete pairs 2 rounds 0 size 2 mass 2 skipped 3 checks 7\n0 lit 0 2\n1 lit 0 3\n2 variants 0:1 1:1\n"
    ∷ asked (frame skipped-by-the-padding-alone-4-294-image 4 3 60) "complete pairs 6 rounds 1 size 2 mass 2 skipped 2 checks 26\n0 lit 0 4\n1 lit 0 3\n2 variants 0:1 1:1\n"
    ∷ []

skipped-by-the-padding-alone-4-294-holds : answers skipped-by-the-padding-alone-4-294 ≡ expected skipped-by-the-padding-alone-4-294
unfolding program_of text answers expected skipped-by-the-padding-alone-4-294
skipped-by-the-padding-alone-4-294-holds = refl

-- one side as itself, the other a sum with the identity
abbrev one-side-as-itself-the-other-a-sum-image : String
one-side-as-itself-the-other-a-sum-image = "000000790100020004000400040900ffff080100000000000100000000000100010001000100000001000200010002000000030003000100030000000500000000000000000000000000000001000000000001000000000000000200010000000000020002000100000001000000000001000200000001000000000001"

unfoldable one-side-as-itself-the-other-a-sum : List Asked
unfolding hex
one-side-as-itself-the-other-a-sum =
    asked (frame one-side-as-itself-the-other-a-sum-image 1 2 100) "complete pairs 5 rounds 1 size 3 mass 0 skipped 0 checks 22\n0 lit 0 0\n1 lit 0 1\n2 op 1 0:1 1:1\n"
    ∷ asked (frame one-side-as-itself-the-other-a-sum-image 3 1 100) "complete pairs 7 rounds 2 size 5 mass 0 skipped 0 checks 38\n0 lit 0 0\n1 lit 0 1\n2 op 1 0:1 1:1\n3 op 1 2:1 0:1\n"
    ∷ asked (frame one-side-as-itself-the-other-a-sum-image 3 2 100) "complete pairs 11 rounds 2 size 5 mass 0 skipped 0 checks 58\n0 lit 0 1\n1 lit 0 0\n2 op 1 0:1 1:1\n3 op 1 2:1 1:1\n"
    ∷ []

one-side-as-itself-the-other-a-sum-holds : answers one-side-as-itself-the-other-a-sum ≡ expected one-side-as-itself-the-other-a-sum
unfolding program_of text answers expected one-side-as-itself-the-other-a-sum
one-side-as-itself-the-other-a-sum-holds = refl
