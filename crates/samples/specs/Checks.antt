-- (02, Paper 13) Checks that passed, and the two classes in either order: answers of the listed Rust with its own count of checks, the number of skipped pairs from the model (oracle/sample/checks.txt).
use Rattle.std.specs.Prelude.{◌≡◌, refl, List, [], ◌∷◌}
use Prim.Native.String.{String}
use Rattle.spec.specs.Bytes.{text}
use Rattle.spec.specs.Merge.{program_of}
use Rattle.spec.specs.Asked.{Asked, asked, frame, answers, expected, hex}

-- checks of image E, and a class with itself
abbrev checks-of-image-e-and-a-class-with-image : String
checks-of-image-e-and-a-class-with-image = "000000790100020004000400040900ffff0200ffff0000000100000000000100010001000100000001000200010002000000030003000100030000000300000000000500000000000000000007000000000001000000000000000200010000000000020002000000000001000100000001000000000001000000000001"

unfoldable checks-of-image-e-and-a-class-with : List Asked
unfolding hex
checks-of-image-e-and-a-class-with =
    asked (frame checks-of-image-e-and-a-class-with-image 2 3 14) "complete pairs 3 rounds 1 size 4 mass 2 skipped 0 checks 14\n0 lit 0 5\n1 lit 0 7\n2 variants 1:1 0:1\n3 op 1 0:1 2:1\n"
    ∷ asked (frame checks-of-image-e-and-a-class-with-image 2 3 13) "partial pairs 3 rounds 1 size 4 mass 2 skipped 0 checks 13\n0 lit 0 5\n1 lit 0 7\n2 variants 1:1 0:1\n3 op 1 0:1 2:1\n"
    ∷ asked (frame checks-of-image-e-and-a-class-with-image 2 3 9) "partial pairs 3 rounds 0 size 6 mass 6 skipped 0 checks 9\n0 lit 0 5\n1 lit 0 7\n2 op 1 0:1 1:1\n3 op 1 0:2\n4 variants 2:1 3:1\n"
    ∷ asked (frame checks-of-image-e-and-a-class-with-image 2 3 3) "partial pairs 3 rounds 0 size 6 mass 6 skipped 0 checks 3\n0 lit 0 5\n1 lit 0 7\n2 op 1 0:1 1:1\n3 op 1 0:2\n4 variants 2:1 3:1\n"
    ∷ asked (frame checks-of-image-e-and-a-class-with-image 2 3 2) "partial pairs 1 rounds 0 size 6 mass 6 skipped 0 checks 2\n0 lit 0 5\n1 lit 0 7\n2 op 1 0:1 1:1\n3 op 1 0:2\n4 variants 2:1 3:1\n"
    ∷ asked (frame checks-of-image-e-and-a-class-with-image 2 3 0) "partial pairs 1 rounds 0 size 6 mass 6 skipped 0 checks 0\n0 lit 0 5\n1 lit 0 7\n2 op 1 0:1 1:1\n3 op 1 0:2\n4 variants 2:1 3:1\n"
    ∷ asked (frame checks-of-image-e-and-a-class-with-image 2 3 1000) "complete pairs 3 rounds 1 size 4 mass 2 skipped 0 checks 14\n0 lit 0 5\n1 lit 0 7\n2 variants 1:1 0:1\n3 op 1 0:1 2:1\n"
    ∷ asked (frame checks-of-image-e-and-a-class-with-image 3 2 14) "complete pairs 3 rounds 1 size 4 mass 2 skipped 0 checks 14\n0 lit 0 5\n1 lit 0 7\n2 variants 0:1 1:1\n3 op 1 0:1 2:1\n"
    ∷ asked (frame checks-of-image-e-and-a-class-with-image 3 2 13) "partial pairs 3 rounds 1 size 4 mass 2 skipped 0 checks 13\n0 lit 0 5\n1 lit 0 7\n2 variants 0:1 1:1\n3 op 1 0:1 2:1\n"
    ∷ asked (frame checks-of-image-e-and-a-class-with-image 3 2 9) "partial pairs 3 rounds 0 size 6 mass 6 skipped 0 checks 9\n0 lit 0 5\n1 op 1 0:2\n2 lit 0 7\n3 op 1 0:1 2:1\n4 variants 1:1 3:1\n"
    ∷ asked (frame checks-of-image-e-and-a-class-with-image 3 2 3) "partial pairs 3 rounds 0 size 6 mass 6 skipped 0 checks 3\n0 lit 0 5\n1 op 1 0:2\n2 lit 0 7\n3 op 1 0:1 2:1\n4 variants 1:1 3:1\n"
    ∷ asked (frame checks-of-image-e-and-a-class-with-image 3 2 2) "partial pairs 1 rounds 0 size 6 mass 6 skipped 0 checks 2\n0 lit 0 5\n1 op 1 0:2\n2 lit 0 7\n3 op 1 0:1 2:1\n4 variants 1:1 3:1\n"
    ∷ asked (frame checks-of-image-e-and-a-class-with-image 3 2 0) "partial pairs 1 rounds 0 size 6 mass 6 skipped 0 checks 0\n0 lit 0 5\n1 op 1 0:2\n2 lit 0 7\n3 op 1 0:1 2:1\n4 variants 1:1 3:1\n"
    ∷ asked (frame checks-of-image-e-and-a-class-with-image 3 2 1000) "complete pairs 3 rounds 1 size 4 mass 2 skipped 0 checks 14\n0 lit 0 5\n1 lit 0 7\n2 variants 0:1 1:1\n3 op 1 0:1 2:1\n"
    ∷ asked (frame checks-of-image-e-and-a-class-with-image 3 3 4) "complete pairs 1 rounds 0 size 3 mass 0 skipped 0 checks 4\n0 lit 0 5\n1 op 1 0:2\n"
    ∷ asked (frame checks-of-image-e-and-a-class-with-image 3 3 3) "partial pairs 1 rounds 0 size 3 mass 0 skipped 0 checks 3\n0 lit 0 5\n1 op 1 0:2\n"
    ∷ asked (frame checks-of-image-e-and-a-class-with-image 3 3 2) "partial pairs 1 rounds 0 size 3 mass 0 skipped 0 checks 2\n0 lit 0 5\n1 op 1 0:2\n"
    ∷ asked (frame checks-of-image-e-and-a-class-with-image 3 3 1) "partial pairs 1 rounds 0 size 3 mass 0 skipped 0 checks 1\n0 lit 0 5\n1 op 1 0:2\n"
    ∷ asked (frame checks-of-image-e-and-a-class-with-image 3 3 0) "partial pairs 1 rounds 0 size 3 mass 0 skipped 0 checks 0\n0 lit 0 5\n1 op 1 0:2\n"
    ∷ asked (frame checks-of-image-e-and-a-class-with-image 3 3 1000) "complete pairs 1 rounds 0 size 3 mass 0 skipped 0 checks 4\n0 lit 0 5\n1 op 1 0:2\n"
    ∷ []

checks-of-image-e-and-a-class-with-holds : answers checks-of-image-e-and-a-class-with ≡ expected checks-of-image-e-and-a-class-with
unfolding program_of text answers expected checks-of-image-e-and-a-class-with
checks-of-image-e-and-a-class-with-holds = refl

-- checks, drawn: an SPair, straight and crossed
abbrev checks-drawn-an-spair-straight-and-image : String
checks-drawn-an-spair-straight-and-image = "000000b30100050006000600050900ffff0501ffff0100ffff0801ffff0900ffff000000010000000000010001000100010000000200020001000200000004000300010003000000010004000100040000000100050001000500000004000400000000000000000002000000000000000100010000000000010002000000000000000300000004000000010003000000010000000000030002000300000001000400000001000100000001000400000001000100000001"

unfoldable checks-drawn-an-spair-straight-and : List Asked
unfolding hex
checks-drawn-an-spair-straight-and =
    asked (frame checks-drawn-an-spair-straight-and-image 5 2 22) "complete pairs 5 rounds 1 size 4 mass 0 skipped 0 checks 22\n0 lit 0 0\n1 op 2 0:1\n2 lit 4 1\n3 op 1 1:1 2:1\n"
    ∷ asked (frame checks-drawn-an-spair-straight-and-image 5 2 21) "partial pairs 5 rounds 1 size 4 mass 0 skipped 0 checks 21\n0 lit 0 0\n1 op 2 0:1\n2 lit 4 1\n3 op 1 1:1 2:1\n"
    ∷ asked (frame checks-drawn-an-spair-straight-and-image 5 2 10) "partial pairs 5 rounds 0 size 8 mass 8 skipped 0 checks 10\n0 lit 4 1\n1 lit 0 0\n2 op 2 1:1\n3 op 1 0:1 2:1\n4 variants 3:2\n"
    ∷ asked (frame checks-drawn-an-spair-straight-and-image 5 2 9) "partial pairs 5 rounds 0 size 8 mass 8 skipped 0 checks 9\n0 lit 4 1\n1 lit 0 0\n2 op 2 1:1\n3 op 1 0:1 2:1\n4 variants 3:2\n"
    ∷ asked (frame checks-drawn-an-spair-straight-and-image 5 2 4) "partial pairs 1 rounds 0 size 8 mass 8 skipped 0 checks 4\n0 lit 4 1\n1 lit 0 0\n2 op 2 1:1\n3 op 1 0:1 2:1\n4 variants 3:2\n"
    ∷ asked (frame checks-drawn-an-spair-straight-and-image 5 2 1022) "complete pairs 5 rounds 1 size 4 mass 0 skipped 0 checks 22\n0 lit 0 0\n1 op 2 0:1\n2 lit 4 1\n3 op 1 1:1 2:1\n"
    ∷ asked (frame checks-drawn-an-spair-straight-and-image 2 5 22) "complete pairs 5 rounds 1 size 4 mass 0 skipped 0 checks 22\n0 lit 0 0\n1 op 2 0:1\n2 lit 4 1\n3 op 1 1:1 2:1\n"
    ∷ asked (frame checks-drawn-an-spair-straight-and-image 2 5 21) "partial pairs 5 rounds 1 size 4 mass 0 skipped 0 checks 21\n0 lit 0 0\n1 op 2 0:1\n2 lit 4 1\n3 op 1 1:1 2:1\n"
    ∷ asked (frame checks-drawn-an-spair-straight-and-image 2 5 1022) "complete pairs 5 rounds 1 size 4 mass 0 skipped 0 checks 22\n0 lit 0 0\n1 op 2 0:1\n2 lit 4 1\n3 op 1 1:1 2:1\n"
    ∷ []

checks-drawn-an-spair-straight-and-holds : answers checks-drawn-an-spair-straight-and ≡ expected checks-drawn-an-spair-straight-and
unfolding program_of text answers expected checks-drawn-an-spair-straight-and
checks-drawn-an-spair-straight-and-holds = refl

-- checks: padded on one side, with monomial pairs passed over
abbrev checks-padded-on-one-side-with-image : String
checks-padded-on-one-side-with-image = "000000bb01000200050006000a0900ffff0701000000000001000000000001000100010001000000010002000100020000000100030002000300000004000500010005000000060000000000000000000000000000000100000000000000000002000000000001000000000000000300010000000000030002000100000000000500050001000000010001000000010002000000010001ffffffff000100000001000200000001000200000001000200000001000200000001000100000001"

unfoldable checks-padded-on-one-side-with : List Asked
unfolding hex
checks-padded-on-one-side-with =
    asked (frame checks-padded-on-one-side-with-image 3 4 54) "complete pairs 13 rounds 1 size 9 mass 6 skipped 4 checks 54\n0 lit 0 1\n1 lit 0 2\n2 lit 0 0\n3 variants 2:1 1:1\n4 variants 0:1 1:1\n5 op 1 0:1 1:1 3:2 4:1\n"
    ∷ asked (frame checks-padded-on-one-side-with-image 3 4 53) "partial pairs 13 rounds 1 size 9 mass 6 skipped 4 checks 53\n0 lit 0 1\n1 lit 0 2\n2 lit 0 0\n3 variants 2:1 1:1\n4 variants 0:1 1:1\n5 op 1 0:1 1:1 3:2 4:1\n"
    ∷ asked (frame checks-padded-on-one-side-with-image 3 4 12) "partial pairs 1 rounds 0 size 10 mass 10 skipped 3 checks 12\n0 lit 0 1\n1 lit 0 2\n2 op 1 0:2 1:1\n3 op 1 1:4 0:1\n4 variants 2:1 3:1\n"
    ∷ asked (frame checks-padded-on-one-side-with-image 4 3 54) "complete pairs 13 rounds 1 size 9 mass 6 skipped 4 checks 54\n0 lit 0 1\n1 lit 0 2\n2 lit 0 0\n3 variants 1:1 2:1\n4 variants 1:1 0:1\n5 op 1 0:1 1:1 3:2 4:1\n"
    ∷ []

checks-padded-on-one-side-with-holds : answers checks-padded-on-one-side-with ≡ expected checks-padded-on-one-side-with
unfolding program_of text answers expected checks-padded-on-one-side-with
checks-padded-on-one-side-with-holds = refl

-- checks, drawn: Sets with identities, in 2 rounds
abbrev checks-drawn-sets-with-identities-in-image : String
checks-drawn-sets-with-identities-in-image = "0000016f0100030007000f001508010005080100060000ffff0000000100000000000200010002000200000002000300010003000000060004000100040000000100050005000700000001000a0004000d00000001000e0001000e00000002000100000000000000010000000000000001000300010000000000040001000100000000000500030002000000000008000000000000000000080002000000000000000a0001000100000000000b0000000200000000000b0000000200000000000b0000000000000000000b0004000100000000000f0003000100000000001200020002000000000014000000000000000000140001000500000001000000000001000600000001000600000001000500000001000600000001000400000001000600000001000600000001000500000001000100000001000600000001000500000001000500000001000500000001000300000001000500000001000500000001000500000001000500000001000500000001"

unfoldable checks-drawn-sets-with-identities-in : List Asked
unfolding hex
checks-drawn-sets-with-identities-in =
    asked (frame checks-drawn-sets-with-identities-in-image 6 3 48) "complete pairs 9 rounds 2 size 2 mass 0 skipped 0 checks 48\n0 op 2\n1 op 0 0:1\n"
    ∷ asked (frame checks-drawn-sets-with-identities-in-image 6 3 47) "partial pairs 9 rounds 2 size 2 mass 0 skipped 0 checks 47\n0 op 2\n1 op 0 0:1\n"
    ∷ asked (frame checks-drawn-sets-with-identities-in-image 6 3 17) "partial pairs 9 rounds 0 size 3 mass 3 skipped 0 checks 17\n0 op 2\n1 op 0 0:1\n2 variants 1:1 0:1\n"
    ∷ asked (frame checks-drawn-sets-with-identities-in-image 6 3 8) "partial pairs 1 rounds 0 size 3 mass 3 skipped 0 checks 8\n0 op 2\n1 op 0 0:1\n2 variants 1:1 0:1\n"
    ∷ asked (frame checks-drawn-sets-with-identities-in-image 3 6 48) "complete pairs 9 rounds 2 size 2 mass 0 skipped 0 checks 48\n0 op 2\n1 op 0 0:1\n"
    ∷ asked (frame checks-drawn-sets-with-identities-in-image 3 6 1048) "complete pairs 9 rounds 2 size 2 mass 0 skipped 0 checks 48\n0 op 2\n1 op 0 0:1\n"
    ∷ []

checks-drawn-sets-with-identities-in-holds : answers checks-drawn-sets-with-identities-in ≡ expected checks-drawn-sets-with-identities-in
unfolding program_of text answers expected checks-drawn-sets-with-identities-in
checks-drawn-sets-with-identities-in-holds = refl

-- checks, drawn: an MSet
abbrev checks-drawn-an-mset-image : String
checks-drawn-an-mset-image = "000000c101000600050005000a0900ffff0100ffff0900ffff0701ffff0501ffff0900ffff0000000100000000000100010001000100000001000200010002000000060003000100030000000600040001000400000001000200000001000000000002ffffffff000000000003000000000000000500030000000000050005000000000007000a0000000100000001000000000001000100000001000400000001000100000001000000000001000100000001000100000001000100000001000100000001"

unfoldable checks-drawn-an-mset : List Asked
unfolding hex
checks-drawn-an-mset =
    asked (frame checks-drawn-an-mset-image 3 2 30) "complete pairs 7 rounds 1 size 7 mass 2 skipped 0 checks 30\n0 lit 2 1\n1 lit 2 4294967295\n2 lit 0 7\n3 variants 1:1 2:1\n4 op 3 0:1 1:3 3:1\n"
    ∷ asked (frame checks-drawn-an-mset-image 3 2 29) "partial pairs 7 rounds 1 size 7 mass 2 skipped 0 checks 29\n0 lit 2 1\n1 lit 2 4294967295\n2 lit 0 7\n3 variants 1:1 2:1\n4 op 3 0:1 1:3 3:1\n"
    ∷ asked (frame checks-drawn-an-mset-image 3 2 6) "partial pairs 1 rounds 0 size 12 mass 12 skipped 0 checks 6\n0 lit 2 1\n1 lit 2 4294967295\n2 op 3 0:1 1:4\n3 lit 0 7\n4 op 3 1:1 0:1 1:1 3:1 1:1\n5 variants 2:1 4:1\n"
    ∷ asked (frame checks-drawn-an-mset-image 2 3 30) "complete pairs 7 rounds 1 size 7 mass 2 skipped 0 checks 30\n0 lit 2 1\n1 lit 2 4294967295\n2 lit 0 7\n3 variants 2:1 1:1\n4 op 3 0:1 1:3 3:1\n"
    ∷ asked (frame checks-drawn-an-mset-image 2 3 1030) "complete pairs 7 rounds 1 size 7 mass 2 skipped 0 checks 30\n0 lit 2 1\n1 lit 2 4294967295\n2 lit 0 7\n3 variants 2:1 1:1\n4 op 3 0:1 1:3 3:1\n"
    ∷ []

checks-drawn-an-mset-holds : answers checks-drawn-an-mset ≡ expected checks-drawn-an-mset
unfolding program_of text answers expected checks-drawn-an-mset
checks-drawn-an-mset-holds = refl

-- checks of the zones of examples/zones.txt, in 2 rounds
abbrev checks-of-the-zones-of-examples-image : String
checks-of-the-zones-of-examples-image = "000000dd01000300060008000a0900ffff0100ffff0600ffff0000000200000000000100020002000200000001000400010004000000020005000100050000000200060001000600000006000700010007000000060000000000c800000000000100000000000000010000000000e6000100000001000000000001000100010000000000020001000100000000000300010002000000000004000300020000000000070003000000000001000100000001000000000001000100000001000000000001000200000001000200000001000100000001000300000001000300000001"

unfoldable checks-of-the-zones-of-examples : List Asked
unfolding hex
checks-of-the-zones-of-examples =
    asked (frame checks-of-the-zones-of-examples-image 4 5 18) "complete pairs 3 rounds 2 size 9 mass 6 skipped 0 checks 18\n0 lit 0 200\n1 lit 0 230\n2 variants 0:1 1:1\n3 op 1 2:1\n4 op 2 2:1 3:2\n"
    ∷ asked (frame checks-of-the-zones-of-examples-image 4 5 17) "partial pairs 3 rounds 2 size 9 mass 6 skipped 0 checks 17\n0 lit 0 200\n1 lit 0 230\n2 variants 0:1 1:1\n3 op 1 2:1\n4 op 2 2:1 3:2\n"
    ∷ asked (frame checks-of-the-zones-of-examples-image 4 5 6) "partial pairs 3 rounds 0 size 12 mass 12 skipped 0 checks 6\n0 lit 0 200\n1 op 1 0:1\n2 op 2 0:1 1:2\n3 lit 0 230\n4 op 1 3:1\n5 op 2 3:1 4:2\n6 variants 2:1 5:1\n"
    ∷ asked (frame checks-of-the-zones-of-examples-image 4 5 5) "partial pairs 3 rounds 0 size 12 mass 12 skipped 0 checks 5\n0 lit 0 200\n1 op 1 0:1\n2 op 2 0:1 1:2\n3 lit 0 230\n4 op 1 3:1\n5 op 2 3:1 4:2\n6 variants 2:1 5:1\n"
    ∷ asked (frame checks-of-the-zones-of-examples-image 4 5 2) "partial pairs 1 rounds 0 size 12 mass 12 skipped 0 checks 2\n0 lit 0 200\n1 op 1 0:1\n2 op 2 0:1 1:2\n3 lit 0 230\n4 op 1 3:1\n5 op 2 3:1 4:2\n6 variants 2:1 5:1\n"
    ∷ asked (frame checks-of-the-zones-of-examples-image 4 5 1018) "complete pairs 3 rounds 2 size 9 mass 6 skipped 0 checks 18\n0 lit 0 200\n1 lit 0 230\n2 variants 0:1 1:1\n3 op 1 2:1\n4 op 2 2:1 3:2\n"
    ∷ asked (frame checks-of-the-zones-of-examples-image 5 4 18) "complete pairs 3 rounds 2 size 9 mass 6 skipped 0 checks 18\n0 lit 0 230\n1 lit 0 200\n2 variants 0:1 1:1\n3 op 1 2:1\n4 op 2 2:1 3:2\n"
    ∷ asked (frame checks-of-the-zones-of-examples-image 5 4 17) "partial pairs 3 rounds 2 size 9 mass 6 skipped 0 checks 17\n0 lit 0 230\n1 lit 0 200\n2 variants 0:1 1:1\n3 op 1 2:1\n4 op 2 2:1 3:2\n"
    ∷ asked (frame checks-of-the-zones-of-examples-image 5 4 1018) "complete pairs 3 rounds 2 size 9 mass 6 skipped 0 checks 18\n0 lit 0 230\n1 lit 0 200\n2 variants 0:1 1:1\n3 op 1 2:1\n4 op 2 2:1 3:2\n"
    ∷ []

checks-of-the-zones-of-examples-holds : answers checks-of-the-zones-of-examples ≡ expected checks-of-the-zones-of-examples
unfolding program_of text answers expected checks-of-the-zones-of-examples
checks-of-the-zones-of-examples-holds = refl
