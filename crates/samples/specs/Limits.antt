-- The limits met and passed: refusals 1 and 12 to 16, and what the buffers hold afterwards.
use Rattle.std.specs.Prelude.{◌≡◌, refl, Bool, true, false, List, [], ◌∷◌, ◌++◌, map, ℕ, replicate}
use Rattle.spec.specs.Bytes.{Limits, text, Two, up_from, ok, refused, work_after}
use Rattle.spec.specs.System as system
use Rattle.spec.specs.Graph.{enter}
use Rattle.spec.specs.Pool.{Pool, op_node, lit_node, join_runs, intern, interned}
use Rattle.spec.specs.Transport.{Problem, Cell, cost, solve_transport, plan_after}
use Rattle.spec.specs.Run.{document_limits}
use Rattle.spec.specs.Merge.{merge_under, merge_of, output_after}
use Rattle.spec.specs.Asked.{hex}

unfoldable image_e : List ℕ
unfolding hex
image_e = hex "000000790100020004000400040900ffff0200ffff0000000100000000000100010001000100000001000200010002000000030003000100030000000300000000000500000000000000000007000000000001000000000000000200010000000000020002000000000001000100000001000000000001000000000001"

-- ---- 14: image E's listing has 114 bytes
abbrev listing_e : List ℕ
listing_e = text "complete pairs 3 rounds 1 size 4 mass 2 skipped 0 checks 14\n0 lit 0 5\n1 lit 0 7\n2 variants 1:1 0:1\n3 op 1 0:1 2:1\n"

exactly-fits : merge_of true image_e 2 3 14 114 ≡ ok listing_e
unfolding image_e merge_of text
exactly-fits = refl

refused-14 : merge_of true image_e 2 3 14 113 ≡ refused 14
unfolding image_e merge_of
refused-14 = refl

-- ---- 1 before all others: a wrong image, class and output, and a work buffer too short
refused-1 : merge_of false [] 9 9 0 0 ≡ refused 1
unfolding merge_of
refused-1 = refl

-- ---- "leaves output past the listing untouched"; a refusal leaves all of it
output-kept : (output_after (1 ∷ 2 ∷ 3 ∷ []) (ok (7 ∷ 8 ∷ [])) ≡ 7 ∷ 8 ∷ 3 ∷ []) × (output_after (1 ∷ 2 ∷ 3 ∷ []) (refused 13) ≡ 1 ∷ 2 ∷ 3 ∷ [])
unfolding output_after
output-kept = (refl, refl)

-- ---- work buffers: zero, or as they were where one was too short
work-cleared : (work_after {A = ℕ} 0 true (1 ∷ 2 ∷ []) ≡ 0 ∷ 0 ∷ []) × (work_after {A = ℕ} 0 false (1 ∷ 2 ∷ []) ≡ 1 ∷ 2 ∷ [])
work-cleared = (refl, refl)

-- ---- 12: 4,096 pairs are held, one more is refused, one that is there is not
unfoldable many_pairs : List Two
unfolding up_from
many_pairs = map (λ i. (i, 0)) (up_from 0 4096)

refused-12 : enter document_limits many_pairs (5, 1) ≡ refused 12
unfolding system.enter many_pairs
refused-12 = refl

there-already : enter document_limits many_pairs (4095, 0) ≡ ok many_pairs
unfolding system.enter many_pairs
there-already = refl

-- ---- 13: 16,384 terms are held, and 65,536 runs
unfoldable full_pool : Pool
unfolding up_from
full_pool = map (λ i. lit_node 0 i) (up_from 0 16384)

refused-13 : intern document_limits full_pool (lit_node 1 0) ≡ refused 13
unfolding full_pool intern
refused-13 = refl

found-again : intern document_limits full_pool (lit_node 0 16383) ≡ ok (interned full_pool 16383)
unfolding full_pool intern
found-again = refl

-- 1,024 terms of 64 runs each
unfoldable full_runs : Pool
unfolding up_from
full_runs = map (λ i. record { head = 0; op = i; value = 0; runs = map (λ k. (k, 1)) (up_from 0 64) }) (up_from 0 1024)

refused-13-runs : intern document_limits full_runs (op_node 1024 ((0, 1) ∷ [])) ≡ refused 13
unfolding full_runs intern join_runs
refused-13-runs = refl

-- a term without runs still has its place
place-left : intern document_limits full_runs (op_node 1024 []) ≡ ok (interned (full_runs ++ (op_node 1024 [] ∷ [])) 1024)
unfolding full_runs intern join_runs
place-left = refl

-- ---- other limits: image E's run enters 3 pairs, 7 terms and 9 runs
abbrev limits : ℕ → ℕ → ℕ → Limits
limits p t r = record { pairs = p; terms = t; runs = r }

of-the-document : (fit : Bool) (image : List ℕ) (left right budget room : ℕ) → merge_of fit image left right budget room ≡ merge_under (limits 4096 16384 65536) fit image left right budget room
unfolding merge_of
of-the-document fit image left right budget room = refl

enough : merge_under (limits 3 7 9) true image_e 2 3 14 114 ≡ ok listing_e
unfolding image_e merge_under text
enough = refl

a-pair-beyond : merge_under (limits 2 7 9) true image_e 2 3 14 114 ≡ refused 12
unfolding image_e merge_under
a-pair-beyond = refl

a-term-beyond : merge_under (limits 3 6 9) true image_e 2 3 14 114 ≡ refused 13
unfolding image_e merge_under
a-term-beyond = refl

a-run-beyond : merge_under (limits 3 7 8) true image_e 2 3 14 114 ≡ refused 13
unfolding image_e merge_under
a-run-beyond = refl

-- the queried pair itself is entered; its starting term before it
no-pair : merge_under (limits 0 5 5) true image_e 2 3 0 114 ≡ refused 12
unfolding image_e merge_under
no-pair = refl

one-pair : merge_under (limits 1 5 5) true image_e 2 3 0 200 ≡ ok (text "partial pairs 1 rounds 0 size 6 mass 6 skipped 0 checks 0\n0 lit 0 5\n1 lit 0 7\n2 op 1 0:1 1:1\n3 op 1 0:2\n4 variants 2:1 3:1\n")
unfolding image_e merge_under text
one-pair = refl

-- five terms are too few for the third starting term, and a run cut short before it does not enter it
cut-before-a-term : merge_under (limits 3 5 5) true image_e 2 3 5 200 ≡ ok (text "partial pairs 3 rounds 0 size 6 mass 6 skipped 0 checks 5\n0 lit 0 5\n1 lit 0 7\n2 op 1 0:1 1:1\n3 op 1 0:2\n4 variants 2:1 3:1\n")
unfolding image_e merge_under text
cut-before-a-term = refl

a-term-after-its-check : merge_under (limits 3 5 5) true image_e 2 3 6 200 ≡ refused 13
unfolding image_e merge_under
a-term-after-its-check = refl

-- a class not in the image is met before any limit
class-before-limits : merge_under (limits 0 0 0) true image_e 4 3 14 114 ≡ refused 11
unfolding image_e merge_under
class-before-limits = refl

root-before-pairs : merge_under (limits 0 4 5) true image_e 2 3 0 114 ≡ refused 13
unfolding image_e merge_under
root-before-pairs = refl

-- ---- transport: "in transport 1, 15, 16"
abbrev problem : List ℕ → List ℕ → List Cell → Problem
problem s d c = record { supply = s; demand = d; cells = c }

refused-1-transport : solve_transport false (problem (1 ∷ []) [] []) 7 ≡ refused 1
unfolding solve_transport
refused-1-transport = refl

refused-15-cells : solve_transport true (problem (1 ∷ []) (1 ∷ []) []) 1 ≡ refused 15
unfolding solve_transport
refused-15-cells = refl

refused-15-plan : solve_transport true (problem (1 ∷ []) (1 ∷ []) (cost 1 1 ∷ [])) 2 ≡ refused 15
unfolding solve_transport
refused-15-plan = refl

refused-15-more-cells : solve_transport true (problem (1 ∷ []) (1 ∷ []) (cost 1 1 ∷ cost 1 1 ∷ [])) 1 ≡ refused 15
unfolding solve_transport
refused-15-more-cells = refl

refused-15-short-plan : solve_transport true (problem (1 ∷ []) (1 ∷ []) (cost 1 1 ∷ [])) 0 ≡ refused 15
unfolding solve_transport
refused-15-short-plan = refl

refused-15-rows : solve_transport true (problem (replicate 66 1) [] []) 0 ≡ refused 15
unfolding solve_transport
refused-15-rows = refl

plan-written : plan_after (4 ∷ []) (solve_transport true (problem (2 ∷ []) (2 ∷ []) (cost 1 1 ∷ [])) 1) ≡ 2 ∷ []
unfolding plan_after solve_transport
plan-written = refl

plan-kept : plan_after (4 ∷ 5 ∷ []) (refused 16) ≡ 4 ∷ 5 ∷ []
unfolding plan_after
plan-kept = refl
