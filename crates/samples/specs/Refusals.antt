-- A sound image, and a damaged one for each way to break a rule, refusals 2 to 11; images that break two rules show the order (oracle/sample/small.txt).
use Rattle.std.specs.Prelude.{◌≡◌, refl, List, [], ◌∷◌, ℕ}
use Rattle.spec.specs.Bytes.{text}
use Rattle.spec.specs.Merge.{program_of}
use Rattle.spec.specs.Asked.{Asked, asked, cut, answers, expected, hex, put}

-- five classes over Lit, Plain2, SPair and MSet, and a query
unfoldable sound : List ℕ
unfolding hex
sound = hex "000000c70100040005000700090900ffff0200ffff070100000501ffff0000000100000000000100010002000100000001000300010003000000030004000200040000000300060001000600000003000000000000000000000000000000070000000000000000000800000000000100000000000000020001000000000002000200020000000000040003000300000000000700020000000000010001000000010000000000010000000000010001000000030000000000010002000000010000000000010001000000010002000300000032"

unfoldable accepted : List Asked
unfolding hex put sound
accepted =
    -- sound: the image that the next ones damage
    asked (sound) "complete pairs 8 rounds 1 size 4 mass 2 skipped 0 checks 34\n0 lit 0 0\n1 lit 0 7\n2 variants 1:1 0:1\n3 op 1 0:1 2:1\n"
    -- sound: the other member of class 3, size 8
    ∷ asked (put ((64, 5) ∷ (68, 8) ∷ []) sound) "complete pairs 8 rounds 1 size 4 mass 2 skipped 0 checks 34\n0 lit 0 0\n1 lit 0 7\n2 variants 1:1 0:1\n3 op 1 0:1 2:1\n"
    -- sound: literal 7 twice in class 1
    ∷ asked (put ((104, 7) ∷ []) sound) "complete pairs 8 rounds 1 size 4 mass 2 skipped 0 checks 34\n0 lit 0 0\n1 lit 0 7\n2 variants 1:1 0:1\n3 op 1 0:1 2:1\n"
    ∷ []

accepted-holds : answers accepted ≡ expected accepted
unfolding program_of text answers expected accepted
accepted-holds = refl

unfoldable refused-2 : List Asked
unfolding hex put sound
refused-2 =
    -- 2: length field one too large
    asked (put ((3, 200) ∷ []) sound) "refused 2\n"
    -- 2: length field one too small
    ∷ asked (put ((3, 198) ∷ []) sound) "refused 2\n"
    -- 2: length field 4,294,967,295
    ∷ asked (put ((0, 255) ∷ (1, 255) ∷ (2, 255) ∷ (3, 255) ∷ []) sound) "refused 2\n"
    -- 2 before 3
    ∷ asked (put ((3, 200) ∷ (4, 2) ∷ []) sound) "refused 2\n"
    -- 2: the first 1 bytes
    ∷ asked (cut 1 sound) "refused 2\n"
    -- 2: the first 3 bytes
    ∷ asked (cut 3 sound) "refused 2\n"
    -- 2: the first 4 bytes
    ∷ asked (cut 4 sound) "refused 2\n"
    -- 2: the first 7 bytes
    ∷ asked (cut 7 sound) "refused 2\n"
    -- 2: the first 8 bytes
    ∷ asked (cut 8 sound) "refused 2\n"
    -- 2: the first 12 bytes
    ∷ asked (cut 12 sound) "refused 2\n"
    -- 2: the first 13 bytes
    ∷ asked (cut 13 sound) "refused 2\n"
    -- 2: the first 20 bytes
    ∷ asked (cut 20 sound) "refused 2\n"
    -- 2: the first 21 bytes
    ∷ asked (cut 21 sound) "refused 2\n"
    -- 2: the first 203 bytes
    ∷ asked (cut 203 sound) "refused 2\n"
    -- 2: the first 210 bytes
    ∷ asked (cut 210 sound) "refused 2\n"
    -- 2: one byte too many
    ∷ asked (hex "000000c70100040005000700090900ffff0200ffff070100000501ffff000000010000000000010001000200010000000100030001000300000003000400020004000000030006000100060000000300000000000000000000000000000007000000000000000000080000000000010000000000000002000100000000000200020002000000000004000300030000000000070002000000000001000100000001000000000001000000000001000100000003000000000001000200000001000000000001000100000001000200030000003200") "refused 2\n"
    -- 2: an image of 12 bytes, its length right
    ∷ asked (hex "0000000801000100010001000000000000000000") "refused 2\n"
    ∷ []

refused-2-holds : answers refused-2 ≡ expected refused-2
unfolding program_of text answers expected refused-2
refused-2-holds = refl

unfoldable refused-3 : List Asked
unfolding hex put sound
refused-3 =
    -- 3: version 0
    asked (put ((4, 0) ∷ []) sound) "refused 3\n"
    -- 3: version 2
    ∷ asked (put ((4, 2) ∷ []) sound) "refused 3\n"
    -- 3: version 255
    ∷ asked (put ((4, 255) ∷ []) sound) "refused 3\n"
    -- 3 before 4
    ∷ asked (put ((4, 0) ∷ (6, 0) ∷ []) sound) "refused 3\n"
    ∷ []

refused-3-holds : answers refused-3 ≡ expected refused-3
unfolding program_of text answers expected refused-3
refused-3-holds = refl

unfoldable refused-4 : List Asked
unfolding hex put sound
refused-4 =
    -- 4: no operations
    asked (put ((6, 0) ∷ []) sound) "refused 4\n"
    -- 4: 65 operations
    ∷ asked (put ((6, 65) ∷ []) sound) "refused 4\n"
    -- 4: 65,535 operations
    ∷ asked (put ((5, 255) ∷ (6, 255) ∷ []) sound) "refused 4\n"
    -- 4: no classes
    ∷ asked (put ((8, 0) ∷ []) sound) "refused 4\n"
    -- 4: 257 classes
    ∷ asked (put ((7, 1) ∷ (8, 1) ∷ []) sound) "refused 4\n"
    -- 4: 65,535 classes
    ∷ asked (put ((7, 255) ∷ (8, 255) ∷ []) sound) "refused 4\n"
    -- 4: no members
    ∷ asked (put ((10, 0) ∷ []) sound) "refused 4\n"
    -- 4: 1025 members
    ∷ asked (put ((9, 4) ∷ (10, 1) ∷ []) sound) "refused 4\n"
    -- 4: 65,535 members
    ∷ asked (put ((9, 255) ∷ (10, 255) ∷ []) sound) "refused 4\n"
    -- 4: 4097 children
    ∷ asked (put ((11, 16) ∷ (12, 1) ∷ []) sound) "refused 4\n"
    -- 4: 65,535 children
    ∷ asked (put ((11, 255) ∷ (12, 255) ∷ []) sound) "refused 4\n"
    -- 4 before 5: 257 classes and nothing else changed
    ∷ asked (put ((7, 1) ∷ (8, 1) ∷ (10, 9) ∷ []) sound) "refused 4\n"
    ∷ []

refused-4-holds : answers refused-4 ≡ expected refused-4
unfolding program_of text answers expected refused-4
refused-4-holds = refl

unfoldable refused-5 : List Asked
unfolding hex put sound
refused-5 =
    -- 5: one operation more
    asked (put ((6, 5) ∷ []) sound) "refused 5\n"
    -- 5: one class less
    ∷ asked (put ((8, 4) ∷ []) sound) "refused 5\n"
    -- 5: one member more
    ∷ asked (put ((10, 8) ∷ []) sound) "refused 5\n"
    -- 5: no children
    ∷ asked (put ((12, 0) ∷ []) sound) "refused 5\n"
    -- 5 before 6
    ∷ asked (put ((12, 8) ∷ (13, 10) ∷ []) sound) "refused 5\n"
    -- 5: an image of 13 bytes
    ∷ asked (hex "000000090100010001000100000000000000000000") "refused 5\n"
    ∷ []

refused-5-holds : answers refused-5 ≡ expected refused-5
unfolding program_of text answers expected refused-5
refused-5-holds = refl

unfoldable refused-6 : List Asked
unfolding hex put sound
refused-6 =
    -- 6: kind 10
    asked (put ((13, 10) ∷ []) sound) "refused 6\n"
    -- 6: kind 255
    ∷ asked (put ((25, 255) ∷ []) sound) "refused 6\n"
    -- 6: Lit with flag 1
    ∷ asked (put ((14, 1) ∷ []) sound) "refused 6\n"
    -- 6: MSet with flag 0
    ∷ asked (put ((22, 0) ∷ []) sound) "refused 6\n"
    -- 6: SPair with flag 2
    ∷ asked (put ((26, 2) ∷ []) sound) "refused 6\n"
    -- 6: identity for Plain2
    ∷ asked (put ((19, 0) ∷ (20, 0) ∷ []) sound) "refused 6\n"
    -- 6: identity for SPair
    ∷ asked (put ((27, 0) ∷ (28, 1) ∷ []) sound) "refused 6\n"
    -- 6: identity is class 5 of 5
    ∷ asked (put ((24, 5) ∷ []) sound) "refused 6\n"
    -- 6: identity 65,534
    ∷ asked (put ((23, 255) ∷ (24, 254) ∷ []) sound) "refused 6\n"
    -- 6 before 7: a late operation, an early span
    ∷ asked (put ((26, 0) ∷ (30, 1) ∷ []) sound) "refused 6\n"
    ∷ []

refused-6-holds : answers refused-6 ≡ expected refused-6
unfolding program_of text answers expected refused-6
refused-6-holds = refl

unfoldable refused-7 : List Asked
unfolding hex put sound
refused-7 =
    -- 7: first member of class 0 is 1
    asked (put ((30, 1) ∷ []) sound) "refused 7\n"
    -- 7: gap before class 2
    ∷ asked (put ((50, 4) ∷ []) sound) "refused 7\n"
    -- 7: overlap of classes
    ∷ asked (put ((50, 2) ∷ []) sound) "refused 7\n"
    -- 7: class 0 with no member
    ∷ asked (put ((32, 0) ∷ []) sound) "refused 7\n"
    -- 7: class 0 with no member, spans in step
    ∷ asked (put ((32, 0) ∷ (40, 0) ∷ (42, 3) ∷ []) sound) "refused 7\n"
    -- 7: last class does not use up the members
    ∷ asked (put ((72, 2) ∷ []) sound) "refused 7\n"
    -- 7: member count 65,535
    ∷ asked (put ((41, 255) ∷ (42, 255) ∷ []) sound) "refused 7\n"
    -- 7: operation number 4 of 4
    ∷ asked (put ((80, 4) ∷ []) sound) "refused 7\n"
    -- 7: operation number 65,535
    ∷ asked (put ((139, 255) ∷ (140, 255) ∷ []) sound) "refused 7\n"
    -- 7: members 4 and 5 of class 3 in falling operation order
    ∷ asked (put ((120, 2) ∷ (130, 1) ∷ []) sound) "refused 7\n"
    -- 7: literal value of a Plain2 member
    ∷ asked (put ((114, 1) ∷ []) sound) "refused 7\n"
    -- 7: gap before the children of member 4
    ∷ asked (put ((126, 3) ∷ []) sound) "refused 7\n"
    -- 7: first child of a literal is not in step
    ∷ asked (put ((86, 1) ∷ []) sound) "refused 7\n"
    -- 7: last member does not use up the children
    ∷ asked (put ((148, 1) ∷ []) sound) "refused 7\n"
    -- 7: child count 65
    ∷ asked (put ((138, 65) ∷ []) sound) "refused 7\n"
    -- 7 before 8: a late literal field, an early child
    ∷ asked (put ((144, 1) ∷ (150, 9) ∷ []) sound) "refused 7\n"
    -- 7 before 9: a span and a best size
    ∷ asked (put ((38, 9) ∷ (72, 2) ∷ []) sound) "refused 7\n"
    ∷ []

refused-7-holds : answers refused-7 ≡ expected refused-7
unfolding program_of text answers expected refused-7
refused-7-holds = refl

unfoldable refused-8 : List Asked
unfolding hex put sound
refused-8 =
    -- 8: child class 5 of 5
    asked (put ((150, 5) ∷ []) sound) "refused 8\n"
    -- 8: child class 65,535
    ∷ asked (put ((197, 255) ∷ (198, 255) ∷ []) sound) "refused 8\n"
    -- 8: child count 0
    ∷ asked (put ((178, 0) ∷ []) sound) "refused 8\n"
    -- 8: count 2 for Plain2
    ∷ asked (put ((154, 2) ∷ []) sound) "refused 8\n"
    -- 8: count 2 for SPair
    ∷ asked (put ((202, 2) ∷ []) sound) "refused 8\n"
    -- 8: count 4,294,967,295 for SPair
    ∷ asked (put ((199, 255) ∷ (200, 255) ∷ (201, 255) ∷ (202, 255) ∷ []) sound) "refused 8\n"
    -- 8: Plain2 with 1 child
    ∷ asked (put ((118, 1) ∷ (126, 1) ∷ (128, 3) ∷ []) sound) "refused 8\n"
    -- 8: Lit with 1 child
    ∷ asked (put ((88, 1) ∷ (96, 1) ∷ (106, 1) ∷ (116, 1) ∷ (118, 1) ∷ []) sound) "refused 8\n"
    -- 8: SPair made Plain3: 2 children
    ∷ asked (put ((25, 3) ∷ (26, 0) ∷ []) sound) "refused 8\n"
    -- 8 before 9: a late child, an early best size
    ∷ asked (put ((38, 2) ∷ (198, 9) ∷ []) sound) "refused 8\n"
    -- 8 before 10
    ∷ asked (put ((84, 7) ∷ (154, 0) ∷ []) sound) "refused 8\n"
    ∷ []

refused-8-holds : answers refused-8 ≡ expected refused-8
unfolding program_of text answers expected refused-8
refused-8-holds = refl

unfoldable refused-9 : List Asked
unfolding hex put sound
refused-9 =
    -- 9: best member of class 0 is member 1
    asked (put ((34, 1) ∷ []) sound) "refused 9\n"
    -- 9: best member 65,535
    ∷ asked (put ((73, 255) ∷ (74, 255) ∷ []) sound) "refused 9\n"
    -- 9: best size one too large
    ∷ asked (put ((58, 4) ∷ []) sound) "refused 9\n"
    -- 9: best size 0
    ∷ asked (put ((38, 0) ∷ []) sound) "refused 9\n"
    -- 9: best size 2,147,483,647
    ∷ asked (put ((35, 127) ∷ (36, 255) ∷ (37, 255) ∷ (38, 255) ∷ []) sound) "refused 9\n"
    -- 9: the size of the other member
    ∷ asked (put ((68, 8) ∷ []) sound) "refused 9\n"
    -- 9 before 10: a late best member, an early literal
    ∷ asked (put ((74, 0) ∷ (84, 7) ∷ []) sound) "refused 9\n"
    -- 9 before 11
    ∷ asked (put ((38, 2) ∷ (206, 9) ∷ []) sound) "refused 9\n"
    ∷ []

refused-9-holds : answers refused-9 ≡ expected refused-9
unfolding program_of text answers expected refused-9
refused-9-holds = refl

unfoldable refused-10 : List Asked
unfolding hex put sound
refused-10 =
    -- 10: literal 7 also in class 0
    asked (put ((84, 7) ∷ []) sound) "refused 10\n"
    -- 10 before 11
    ∷ asked (put ((84, 7) ∷ (204, 5) ∷ []) sound) "refused 10\n"
    ∷ []

refused-10-holds : answers refused-10 ≡ expected refused-10
unfolding program_of text answers expected refused-10
refused-10-holds = refl

unfoldable refused-11 : List Asked
unfolding hex put sound
refused-11 =
    -- 11: left class 5 of 5
    asked (put ((204, 5) ∷ []) sound) "refused 11\n"
    -- 11: right class 65,535
    ∷ asked (put ((205, 255) ∷ (206, 255) ∷ []) sound) "refused 11\n"
    ∷ []

refused-11-holds : answers refused-11 ≡ expected refused-11
unfolding program_of text answers expected refused-11
refused-11-holds = refl
