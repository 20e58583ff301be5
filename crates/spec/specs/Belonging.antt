-- What the relations of Meaning hold and what they refuse, on small tables.
use Rattle.std.specs.Prelude.{◌≡◌, refl, ◌≢◌, ◌⊎◌, Bool, true, false, List, [], ◌∷◌, map, ℕ, zero, suc, ◌+◌, ◌≤◌, ◌<◌, eqb}
use Rattle.std.proofs.Common.{◌∙◌, ap, sym, subst, inl, inr, arith}
use Rattle.spec.specs.Bytes.{pick, place, Two, Limits, ok, refused, passed, cut_short, sum_to}
use Rattle.spec.specs.Image.{Tables, Class, Member, tables_rules, kind_of, members_of, children_of}
use Rattle.spec.specs.Monomial.{classes}
use Rattle.spec.specs.Transport.{Cell, cost, forbidden, Problem, allowed, cell_at, supply_at, demand_at, moved, row_flow, col_flow, plan_size, plan_mass}
use Rattle.spec.specs.Action.{Action, TransportAction, structural, transports, cell_pairs, joins}
use Rattle.spec.specs.Pool.{lit_node, op_node, variants_node, join_runs, interned}
use Rattle.spec.specs.System as system
use Rattle.spec.specs.Pairs.{offers_of}
use Rattle.spec.specs.Graph.{enter, enter_all, build, build_from}
use Rattle.spec.specs.Round.{starting_quality, quality_over, ones, problem_over, qualities_after, Turn, stay, act, turn_of, turns_of, look_up, choice_term, turns_terms}
use Rattle.spec.specs.Meaning.{In, here, there, Term, lit, node, variants, Runs, done, run, term_quality, expand, read_first, read_second, reading, Branched, at_literal, at_node, at_place, AllBranched, no_branch, and_branch, tree_at, trees_after, Belongs, literal, ordered, unordered, AllBelong, no_more, and_then, Side, member, itself, padded, occurs, count_in, Plan, ◌⊑◌, Derivation, aligned, planned, start, action, Places, no_place, and_place, Reachable, queried, joined, HoldsDoubled}

-- ---- terms as trees
-- a marked place of two branches
abbrev marked : Term → Term → Term
marked a b = variants (run a 1 (run b 1 done))

abbrev mark : Term
mark = marked (node 1 (run (lit 0 5) 2 done)) (lit 0 7)

-- 3 × 1 + 2 × (3 + 1) + 1; the mass is the marked place's, twice
quality : term_quality (node 1 (run (lit 0 5) 3 (run mark 2 done))) ≡ (12, 8)
unfolding term_quality
quality = refl

expanded : expand (run (lit 0 5) 2 (run (lit 0 7) 1 done)) ≡ lit 0 5 ∷ lit 0 5 ∷ lit 0 7 ∷ []
unfolding expand
expanded = refl

abbrev marks : Term
marks = node 1 (run (marked (marked (lit 0 1) (lit 0 2)) (marked (lit 0 3) (lit 0 4))) 1 (run (marked (lit 0 5) (lit 0 6)) 2 done))

read : (read_first marks ≡ node 1 (run (lit 0 1) 1 (run (lit 0 5) 2 done))) × (read_second marks ≡ node 1 (run (lit 0 4) 1 (run (lit 0 6) 2 done)))
unfolding reading
read = (refl, refl)

-- branches that are alike, joined: both readings are the one; of three branches with the first two joined, the third is the other
alike : (read_first (variants (run mark 2 done)) ≡ node 1 (run (lit 0 5) 2 done)) × (read_second (variants (run mark 2 done)) ≡ lit 0 7)
unfolding reading
alike = (refl, refl)

third : (reading 1 (variants (run (lit 0 1) 2 (run mark 1 done))) ≡ lit 0 1) × (reading 2 (variants (run (lit 0 1) 2 (run (lit 0 3) 1 done))) ≡ lit 0 3)
unfolding reading
third = (refl, refl)

-- how many branches: two in `marks`, at every marked place; three are not two, also below an operation
two-branched : Branched 2 marks
unfolding expand
two-branched =
    at_node (and_branch (at_place refl (and_branch (at_place refl (and_branch at_literal (and_branch at_literal no_branch))) (and_branch (at_place refl (and_branch at_literal (and_branch at_literal no_branch))) no_branch)))
    (and_branch (at_place refl (and_branch at_literal (and_branch at_literal no_branch))) (and_branch (at_place refl (and_branch at_literal (and_branch at_literal no_branch))) no_branch)))

three-branched : Branched 3 (variants (run (lit 0 1) 2 (run (lit 0 3) 1 done)))
unfolding expand
three-branched = at_place refl (and_branch at_literal (and_branch at_literal (and_branch at_literal no_branch)))

not-two : Branched 2 (variants (run (lit 0 1) 2 (run (lit 0 3) 1 done))) → ⊥
unfolding expand
not-two (at_place e b) = omega (arith, e)

nor-below : {o : ℕ} → Branched 2 (node o (run (variants (run (lit 0 1) 2 (run (lit 0 3) 1 done))) 1 done)) → ⊥
unfolding expand
nor-below (at_node b) = go b
  where
    go : {l : List Term} → AllBranched 2 (variants (run (lit 0 1) 2 (run (lit 0 3) 1 done)) ∷ l) → ⊥
    go (and_branch c b) = not-two c

-- nor in a branch
nor-inside : Branched 2 (marked (variants (run (lit 0 1) 3 done)) (lit 0 5)) → ⊥
unfolding expand
nor-inside (at_place e b) = go b
  where
    go : {l : List Term} → AllBranched 2 (variants (run (lit 0 1) 3 done) ∷ l) → ⊥
    go (and_branch (at_place f c) b) = omega (arith, f)

-- three branches: 2 × 1 + 4, twice
three : term_quality (variants (run (lit 0 1) 2 (run mark 1 done))) ≡ (6, 6)
unfolding term_quality
three = refl

abbrev shared : Term
shared = node 1 (run (lit 0 5) 1 (run (marked (lit 0 7) (lit 0 5)) 2 done))

tree : tree_at (lit_node 0 5 ∷ lit_node 0 7 ∷ variants_node 1 0 ∷ op_node 1 ((0, 1) ∷ (2, 2) ∷ []) ∷ variants_node 3 3 ∷ []) 4 ≡ variants (run shared 2 done)
unfolding trees_after join_runs
tree = refl

counted : (occurs 4 (4 ∷ 2 ∷ 4 ∷ []) ≡ 2) × (count_in 4 ((4, 1) ∷ (2, 3) ∷ (4, 2) ∷ []) ≡ 3)
unfolding occurs count_in
counted = (refl, refl)

-- ---- image E's classes 0 to 3, and seven more
abbrev class_of : ℕ → ℕ → Class
class_of n size = record { first = n; count = 1; best = n; size = size }

abbrev member_of : ℕ → ℕ → ℕ → ℕ → Member
member_of o v first count = record { op = o; value = v; first = first; count = count }

-- operations Lit, Plain2, MSet with identity 0, MSet with none
abbrev D : Tables
D = record {
  operations = record { kind = 9; flag = 0; identity = 65535 } ∷ record { kind = 2; flag = 0; identity = 65535 } ∷ record { kind = 7; flag = 1; identity = 0 } ∷ record { kind = 7; flag = 1; identity = 65535 } ∷ [];
  classes = class_of 0 1 ∷ class_of 1 1 ∷ class_of 2 3 ∷ class_of 3 3 ∷ class_of 4 5 ∷ class_of 5 5 ∷ class_of 6 3 ∷ class_of 7 3 ∷ class_of 8 3 ∷ class_of 9 7 ∷ class_of 10 5 ∷ [];
  members = member_of 0 5 0 0 ∷ member_of 0 7 0 0 ∷ member_of 1 0 0 2 ∷ member_of 1 0 2 2 ∷ member_of 1 0 4 2 ∷ member_of 1 0 6 2 ∷ member_of 3 0 8 1 ∷ member_of 3 0 9 1 ∷ member_of 2 0 10 2 ∷ member_of 3 0 12 2 ∷ member_of 3 0 14 2 ∷ [];
  children = (0, 1) ∷ (1, 1) ∷ (0, 1) ∷ (0, 1) ∷ (2, 1) ∷ (0, 1) ∷ (3, 1) ∷ (0, 1) ∷ (1, 2) ∷ (0, 2) ∷ (1, 1) ∷ (1, 1) ∷ (2, 1) ∷ (6, 1) ∷ (1, 1) ∷ (3, 1) ∷ [];
}

accepted : tables_rules D ≡ ok D
unfolding tables_rules
accepted = refl

five : Belongs D (lit 0 5) 0
five = literal (member_of 0 5 0 0) here refl refl refl

seven : Belongs D (lit 0 7) 1
seven = literal (member_of 0 7 0 0) here refl refl refl

abbrev five_seven : Runs
five_seven = run (lit 0 5) 1 (run (lit 0 7) 1 done)

in-order : Belongs D (node 1 five_seven) 2
unfolding expand
in-order = ordered (member_of 1 0 0 2) here refl refl (omega arith) (and_then five (and_then seven no_more))

twice : Belongs D (node 1 (run (lit 0 5) 2 done)) 3
unfolding expand
twice = ordered (member_of 1 0 2 2) here refl refl (omega arith) (and_then five (and_then five no_more))

-- in another order, with the identity added
in-any-order : Belongs D (node 2 (run (lit 0 7) 1 (run (lit 0 5) 1 (run (lit 0 7) 1 done)))) 8
unfolding expand occurs count_in
in-any-order = unordered {o = 2} ((0, 1) ∷ (1, 1) ∷ (1, 1) ∷ []) (1 ∷ 0 ∷ 1 ∷ []) (padded 1 (omega arith) refl (member (member_of 2 0 10 2) here refl refl)) refl (and_then seven (and_then five (and_then seven no_more))) (λ k. omega arith)

as-itself : Belongs D (node 2 (run (lit 0 7) 1 done)) 1
unfolding expand occurs count_in
as-itself = unordered {o = 2} ((1, 1) ∷ []) (1 ∷ []) (itself (omega arith)) refl (and_then seven no_more) (λ k. refl)

-- ---- what they refuse
in-nil : {A : Type 0} {x : A} → In x [] → ⊥
in-nil i = elim i [ ]

clash : false ≡ true → ⊥
clash e = let y : ◌≡◌ {A = ℕ} 0 1 = cc in omega arith

clash' : true ≡ false → ⊥
clash' e = let y : ◌≡◌ {A = ℕ} 0 1 = cc in omega arith

not-seven : {n : Member} → In n (member_of 0 5 0 0 ∷ []) → 7 ≡ n.value → ⊥
not-seven here e = absurd (omega arith)
not-seven (there j) e = in-nil j

no-other-literal : Belongs D (lit 0 7) 0 → ⊥
no-other-literal (literal m i k o v) = not-seven i v

no-literal-of-another-operation : Belongs D (lit 3 5) 0 → ⊥
no-literal-of-another-operation (literal m i k o v) = go i o
  where
    go : {n : Member} → In n (member_of 0 5 0 0 ∷ []) → 3 ≡ n.op → ⊥
    go here e = absurd (omega arith)
    go (there j) e = in-nil j

no-literal-of-another-kind : Belongs D (lit 1 0) 2 → ⊥
no-literal-of-another-kind (literal m i k o v) = go i k
  where
    go : {n : Member} → In n (member_of 1 0 0 2 ∷ []) → kind_of D n.op ≡ 9 → ⊥
    go here e = absurd (omega arith)
    go (there j) e = in-nil j

no-other-order : Belongs D (node 1 (run (lit 0 7) 1 (run (lit 0 5) 1 done))) 2 → ⊥
unfolding expand
no-other-order (ordered m i o k z b) = go i b
  where
    go : {n : Member} → In n (member_of 1 0 0 2 ∷ []) → AllBelong D (lit 0 7 ∷ lit 0 5 ∷ []) (classes (children_of D n)) → ⊥
    go here (and_then (literal m i k o v) y) = not-seven i v
    go (there j) y = in-nil j
no-other-order (unordered l cs s k b p) = clash k

no-other-class : Belongs D (node 1 five_seven) 3 → ⊥
unfolding expand
no-other-class (ordered m i o k z b) = go i b
  where
    go : {n : Member} → In n (member_of 1 0 2 2 ∷ []) → AllBelong D (lit 0 5 ∷ lit 0 7 ∷ []) (classes (children_of D n)) → ⊥
    go here (and_then x (and_then (literal m i k o v) z)) = not-seven i v
    go (there j) y = in-nil j
no-other-class (unordered l cs s k b p) = clash k

no-other-operation : Belongs D (node 5 five_seven) 2 → ⊥
no-other-operation (ordered m i o k z b) = go i o
  where
    go : {n : Member} → In n (member_of 1 0 0 2 ∷ []) → 5 ≡ n.op → ⊥
    go here e = absurd (omega arith)
    go (there j) e = in-nil j
no-other-operation (unordered l cs s k b p) = clash k

no-child-missing : Belongs D (node 1 (run (lit 0 5) 1 done)) 2 → ⊥
unfolding expand
no-child-missing (ordered m i o k z b) = go i b
  where
    go : {n : Member} → In n (member_of 1 0 0 2 ∷ []) → AllBelong D (lit 0 5 ∷ []) (classes (children_of D n)) → ⊥
    go here (and_then x y) = elim y [ ]
    go (there j) y = in-nil j
no-child-missing (unordered l cs s k b p) = clash k

no-child-too-many : Belongs D (node 1 (run (lit 0 5) 1 (run (lit 0 7) 2 done))) 2 → ⊥
unfolding expand
no-child-too-many (ordered m i o k z b) = go i b
  where
    go : {n : Member} → In n (member_of 1 0 0 2 ∷ []) → AllBelong D (lit 0 5 ∷ lit 0 7 ∷ lit 0 7 ∷ []) (classes (children_of D n)) → ⊥
    go here (and_then x (and_then y z)) = elim z [ ]
    go (there j) y = in-nil j
no-child-too-many (unordered l cs s k b p) = clash k

no-mark : {r : Runs} {c : ℕ} → Belongs D (variants r) c → ⊥
no-mark x = elim x [ ]

no-lost-literal : Belongs D (node 0 done) 0 → ⊥
no-lost-literal (ordered m i o k z b) = z refl
no-lost-literal (unordered l cs s k b p) = clash k

-- under operation 2 class 1 is itself once, whatever is added; under 3, without an identity, class 6 is its member alone
one-once : {l : List Two} → Side D 1 2 l → count_in 1 l ≡ 1
unfolding count_in
one-once (member m i o e) = absurd (go i o)
  where
    go : {n : Member} → In n (member_of 0 7 0 0 ∷ []) → n.op ≡ 2 → ⊥
    go here x = omega arith
    go (there j) x = in-nil j
one-once (itself n) = refl
one-once (padded {l} k n e s) = let y : count_in 1 l ≡ 1 = one-once s in ap (λ z. count_in 1 ((z, k) ∷ l)) e ∙ omega arith

member-alone : {l : List Two} → Side D 6 3 l → l ≡ (1, 2) ∷ []
member-alone (member m i o e) = e ∙ go i
  where
    go : {n : Member} → In n (member_of 3 0 8 1 ∷ []) → children_of D n ≡ (1, 2) ∷ []
    go here = refl
    go (there j) = absurd (in-nil j)
member-alone (itself n) = absurd (n refl)
member-alone (padded k n e s) = absurd (n refl)

no-count-lost : Belongs D (node 3 (run (lit 0 7) 1 done)) 6 → ⊥
unfolding expand occurs count_in
no-count-lost (ordered m i o k z b) = clash' k
no-count-lost (unordered l cs s k b p) = go cs b (p 1 ∙ ap (count_in 1) (member-alone s))
  where
    few : (b : Bool) → pick b 1 0 + 0 ≡ 2 → ⊥
    few true e = omega arith
    few false e = omega arith

    go : (cs : List ℕ) → AllBelong D (lit 0 7 ∷ []) cs → occurs 1 cs ≡ 2 → ⊥
    go [] b e = elim b [ ]
    go (c ∷ []) b e = few (eqb c 1) e
    go (c ∷ d ∷ cs) (and_then x y) e = elim y [ ]

-- ---- plans
abbrev problem : List ℕ → List ℕ → List Cell → Problem
problem s d c = record { supply = s; demand = d; cells = c }

one-row : Plan (problem (1 ∷ []) (1 ∷ 0 ∷ []) (cost 1 0 ∷ forbidden ∷ [])) (1 ∷ 0 ∷ [])
unfolding sum_to row_flow col_flow
one-row = record { long = refl; some_row = omega arith; some_column = omega arith; rows = rows; columns = columns; kept = kept }
  where
    rows : (i : ℕ) → i < 1 → row_flow (problem (1 ∷ []) (1 ∷ 0 ∷ []) (cost 1 0 ∷ forbidden ∷ [])) (1 ∷ 0 ∷ []) i ≡ supply_at (problem (1 ∷ []) (1 ∷ 0 ∷ []) (cost 1 0 ∷ forbidden ∷ [])) i
    rows zero h = refl
    rows (suc i) h = absurd (omega arith)

    columns : (j : ℕ) → j < 2 → col_flow (problem (1 ∷ []) (1 ∷ 0 ∷ []) (cost 1 0 ∷ forbidden ∷ [])) (1 ∷ 0 ∷ []) j ≡ demand_at (problem (1 ∷ []) (1 ∷ 0 ∷ []) (cost 1 0 ∷ forbidden ∷ [])) j
    columns zero h = refl
    columns (suc zero) h = refl
    columns (suc (suc j)) h = absurd (omega arith)

    kept : (i j : ℕ) → i < 1 → j < 2 → allowed (cell_at (problem (1 ∷ []) (1 ∷ 0 ∷ []) (cost 1 0 ∷ forbidden ∷ [])) i j) ≡ false → moved (problem (1 ∷ []) (1 ∷ 0 ∷ []) (cost 1 0 ∷ forbidden ∷ [])) (1 ∷ 0 ∷ []) i j ≡ 0
    kept zero zero h k e = absurd (clash' e)
    kept zero (suc zero) h k e = refl
    kept zero (suc (suc j)) h k e = absurd (omega arith)
    kept (suc i) j h k e = absurd (omega arith)

no_row : Plan (problem [] (0 ∷ []) []) [] → ⊥
no_row p = let h = p.some_row in omega arith

no-column : Plan (problem (0 ∷ []) [] []) [] → ⊥
no-column p = let h = p.some_column in omega arith

too_long : Plan (problem (1 ∷ []) (1 ∷ []) (cost 1 0 ∷ [])) (1 ∷ 0 ∷ []) → ⊥
too_long p = let h = p.long in omega arith

row-short : Plan (problem (2 ∷ []) (1 ∷ []) (cost 1 0 ∷ [])) (1 ∷ []) → ⊥
unfolding row_flow
row-short p = let h = p.rows 0 (omega arith) in omega arith

column-short : Plan (problem (1 ∷ []) (2 ∷ []) (cost 1 0 ∷ [])) (1 ∷ []) → ⊥
unfolding col_flow
column-short p = let h = p.columns 0 (omega arith) in omega arith

forbidden-used : Plan (problem (1 ∷ []) (1 ∷ []) (forbidden ∷ [])) (1 ∷ []) → ⊥
forbidden-used p = let h = p.kept 0 0 (omega arith) (omega arith) refl in omega arith

-- ---- by size, then mass
smaller : ((1, 9) ⊑ (2, 0)) × ((1, 5) ⊑ (1, 5))
smaller = (inl (omega arith), inr (refl, omega arith))

not-smaller : ((2, 0) ⊑ (1, 9) → ⊥) × ((1, 2) ⊑ (1, 1) → ⊥)
not-smaller = (large, heavy)
  where
    large : (2, 0) ⊑ (1, 9) → ⊥
    large (inl h) = omega arith
    large (inr (e, h)) = omega arith

    heavy : (1, 2) ⊑ (1, 1) → ⊥
    heavy (inl h) = omega arith
    heavy (inr (e, h)) = omega arith

-- ---- derivations
at-start : {k : ℕ} {p q : Two} → k ≤ 0 → Derivation D k p q → q ≡ starting_quality D p
at-start h (start e) = e
at-start h (action cs x m qs ps e) = absurd (omega arith)

-- (2, 3) joins (0, 0) and (1, 0): 1 + 1 + 2, mass 2
step : Derivation D 1 (2, 3) (4, 2)
unfolding structural plan_size plan_mass
step = action ((0, 0) ∷ (1, 0) ∷ []) (1 ∷ 1 ∷ []) (aligned (record { op = 1; pairs = (0, 0) ∷ (1, 0) ∷ [] }) here refl refl) ((1, 0) ∷ (2, 2) ∷ []) (and_place {h = 0} {k = 0} (omega arith) (start refl) (and_place {h = 0} {k = 0} (omega arith) (start refl) no_place)) refl

-- (4, 5) joins (2, 3), of height 1, and (0, 0), of height 0
two_steps : Derivation D 2 (4, 5) (6, 2)
unfolding structural plan_size plan_mass
two_steps = action ((2, 3) ∷ (0, 0) ∷ []) (1 ∷ 1 ∷ []) (aligned (record { op = 1; pairs = (2, 3) ∷ (0, 0) ∷ [] }) here refl refl) ((4, 2) ∷ (1, 0) ∷ []) (and_place {h = 1} {k = 1} (omega arith) step (and_place {h = 1} {k = 0} (omega arith) (start refl) no_place)) refl

step-only : {q : Two} → Derivation D 1 (2, 3) q → q ≡ (4, 2)
unfolding structural transports plan_size plan_mass
step-only (action cs x (aligned a i c f) qs ps e) = e ∙ rw f (go i (rw c at ps))
  where
    go : {a : Action} → In a (record { op = 1; pairs = (0, 0) ∷ (1, 0) ∷ [] } ∷ []) → {qs : List Two} → Places D 0 a.pairs qs → quality_over (ones a.pairs) qs ≡ (4, 2)
    go here (and_place {z = u} h d (and_place {z = v} k f no_place)) = ap (λ (z : Two). quality_over (1 ∷ 1 ∷ []) (z ∷ v ∷ [])) (at-start h d) ∙ ap (λ (z : Two). quality_over (1 ∷ 1 ∷ []) ((1, 0) ∷ z ∷ [])) (at-start k f)
    go (there j) ps = absurd (in-nil j)
step-only (action cs x (planned a i c m) qs ps e) = absurd (in-nil i)

not_yet : {q : Two} → Derivation D 1 (4, 5) q → q ≡ (8, 6)
unfolding structural transports plan_size plan_mass
not_yet (action cs x (aligned a i c f) qs ps e) = e ∙ rw f (go i (rw c at ps))
  where
    go : {a : Action} → In a (record { op = 1; pairs = (2, 3) ∷ (0, 0) ∷ [] } ∷ []) → {qs : List Two} → Places D 0 a.pairs qs → quality_over (ones a.pairs) qs ≡ (8, 6)
    go here (and_place {z = u} h d (and_place {z = v} k f no_place)) = ap (λ (z : Two). quality_over (1 ∷ 1 ∷ []) (z ∷ v ∷ [])) (at-start h d) ∙ ap (λ (z : Two). quality_over (1 ∷ 1 ∷ []) ((6, 6) ∷ z ∷ [])) (at-start k f)
    go (there j) ps = absurd (in-nil j)
not_yet (action cs x (planned a i c m) qs ps e) = absurd (in-nil i)

no-action : {q : Two} → Derivation D 1 (0, 1) q → ⊥
unfolding structural transports
no-action (action cs x (aligned a i c f) qs ps e) = in-nil i
no-action (action cs x (planned a i c m) qs ps e) = in-nil i

-- (7, 6) by transport of 2 units over the one cell (0, 1): 1 + 2 × 2, mass 2 × 2
abbrev moves : TransportAction
moves = record { op = 3; sides = record { rows = (0, 2) ∷ []; cols = (1, 2) ∷ [] } }

by-transport : Derivation D 1 (7, 6) (5, 4)
unfolding transports cell_pairs plan_size plan_mass row_flow col_flow
by-transport = action ((0, 1) ∷ []) (2 ∷ []) (planned moves here refl plan) ((2, 2) ∷ []) (and_place {h = 0} {k = 0} (omega arith) (start refl) no_place) refl
  where
    rows : (i : ℕ) → i < 1 → row_flow (problem_over moves ((2, 2) ∷ [])) (2 ∷ []) i ≡ supply_at (problem_over moves ((2, 2) ∷ [])) i
    rows zero h = refl
    rows (suc i) h = absurd (omega arith)

    columns : (j : ℕ) → j < 1 → col_flow (problem_over moves ((2, 2) ∷ [])) (2 ∷ []) j ≡ demand_at (problem_over moves ((2, 2) ∷ [])) j
    columns zero h = refl
    columns (suc j) h = absurd (omega arith)

    kept : (i j : ℕ) → i < 1 → j < 1 → allowed (cell_at (problem_over moves ((2, 2) ∷ [])) i j) ≡ false → moved (problem_over moves ((2, 2) ∷ [])) (2 ∷ []) i j ≡ 0
    kept zero zero h k e = absurd (clash' e)
    kept zero (suc j) h k e = absurd (omega arith)
    kept (suc i) j h k e = absurd (omega arith)

    plan : Plan (problem_over moves ((2, 2) ∷ [])) (2 ∷ [])
    plan = record { long = refl; some_row = omega arith; some_column = omega arith; rows = rows; columns = columns; kept = kept }

transport-only : {q : Two} → Derivation D 1 (7, 6) q → q ≡ (5, 4)
unfolding structural transports cell_pairs plan_size plan_mass row_flow
transport-only (action cs x (aligned a i c f) qs ps e) = absurd (in-nil i)
transport-only (action cs x (planned a i c l) qs ps e) = e ∙ go i (rw c at ps) x (map (starting_quality D) cs) l
  where
    go : {a : TransportAction} → In a (moves ∷ []) → {qs : List Two} → Places D 0 (cell_pairs a.sides) qs → (x : List ℕ) (zs : List Two) → Plan (problem_over a zs) x → quality_over x qs ≡ (5, 4)
    go here (and_place {z = u} h d no_place) [] zs l = absurd (let k = l.long in omega arith)
    go here (and_place {z = u} h d no_place) (n ∷ []) zs l = let r = l.rows 0 (omega arith) in let k : n ≡ 2 = omega arith in ap (λ (z : Two). quality_over (n ∷ []) (z ∷ [])) (at-start h d) ∙ ap (λ (z : ℕ). quality_over (z ∷ []) ((2, 2) ∷ [])) k
    go here (and_place {z = u} h d no_place) (n ∷ m ∷ x) zs l = absurd (let k = l.long in omega arith)
    go (there j) ps x zs l = absurd (in-nil j)

no-transport-at-once : Derivation D 0 (7, 6) (5, 4) → ⊥
no-transport-at-once d = let e : ◌≡◌ {A = Two} (5, 4) (6, 6) = at-start (omega arith) d in let k : ◌≡◌ {A = ℕ} 5 6 = ap (λ (z : Two). z.0) e in omega arith

-- the same by rounds: (4, 5) improves twice
by-rounds : (qualities_after 1 D ((4, 5) ∷ (2, 3) ∷ (0, 0) ∷ (1, 0) ∷ []) ≡ (8, 6) ∷ (4, 2) ∷ (1, 0) ∷ (2, 2) ∷ []) × (qualities_after 2 D ((4, 5) ∷ (2, 3) ∷ (0, 0) ∷ (1, 0) ∷ []) ≡ (6, 2) ∷ (4, 2) ∷ (1, 0) ∷ (2, 2) ∷ [])
unfolding system.qualities_after offers_of plan_size plan_mass
by-rounds = (refl, refl)

-- (9, 10) moves 2 and 6 to 1 and 3: at the start both plans cost (10, 10) and the straight one comes first; once (2, 3) is (4, 2) the crossed one costs (8, 6)
by-plans : (qualities_after 1 D ((9, 10) ∷ (2, 1) ∷ (2, 3) ∷ (6, 1) ∷ (6, 3) ∷ (0, 0) ∷ (1, 0) ∷ []) ≡ (11, 10) ∷ (4, 4) ∷ (4, 2) ∷ (4, 4) ∷ (6, 6) ∷ (1, 0) ∷ (2, 2) ∷ [])
    × (qualities_after 2 D ((9, 10) ∷ (2, 1) ∷ (2, 3) ∷ (6, 1) ∷ (6, 3) ∷ (0, 0) ∷ (1, 0) ∷ []) ≡ (9, 6) ∷ (4, 4) ∷ (4, 2) ∷ (4, 4) ∷ (6, 6) ∷ (1, 0) ∷ (2, 2) ∷ [])
unfolding system.qualities_after offers_of plan_size plan_mass
by-plans = (refl, refl)

-- the first of them: (4, 5) reads what (2, 3) had
abbrev four : List Two
four = (4, 5) ∷ (2, 3) ∷ (0, 0) ∷ (1, 0) ∷ []

abbrev four_start : List Two
four_start = (10, 10) ∷ (6, 6) ∷ (1, 0) ∷ (2, 2) ∷ []

abbrev limits : ℕ → ℕ → ℕ → Limits
limits p t r = record { pairs = p; terms = t; runs = r }

abbrev taken : Two → List Two → Turn
taken q ps = record { quality = q; choice = act (record { op = 1; places = ps; counts = 1 ∷ 1 ∷ [] }) }

abbrev stays : Two → Turn
stays q = record { quality = q; choice = stay }

in-turn : turns_of D four four_start ≡ taken (8, 6) ((2, 3) ∷ (0, 0) ∷ []) ∷ taken (4, 2) ((0, 0) ∷ (1, 0) ∷ []) ∷ stays (1, 0) ∷ stays (2, 2) ∷ []
unfolding system.turns_of offers_of plan_size plan_mass
in-turn = refl

one-turn : (turn_of D (starting_quality D) (3, 2) ≡ taken (4, 2) ((0, 0) ∷ (0, 1) ∷ [])) × (look_up {A = ℕ} 9 four (7 ∷ 8 ∷ 6 ∷ []) (2, 3) ≡ 8) × (look_up {A = ℕ} 9 four (7 ∷ 8 ∷ 6 ∷ []) (1, 0) ≡ 9)
unfolding system.turn_of offers_of plan_size plan_mass place
one-turn = (refl, refl, refl)

-- a turn without change takes a check and leaves its term
left-as-it-was : (choice_term (limits 1 1 1) D (λ p. 4) [] 5 stay ≡ ok (interned [] 5)) × (turns_terms (limits 1 1 1) D (λ p. p.0) ((4, 5) ∷ (2, 3) ∷ []) (stays (1, 0) ∷ stays (1, 0) ∷ []) 3 [] ≡ ok (passed (record { pool = []; terms = 4 ∷ 2 ∷ [] }) 1))
unfolding system.turns_terms
left-as-it-was = (refl, refl)

-- ---- the graph in the order in which its pairs are joined: a check a pair, whatever it joins; three pairs are too few as soon as (1, 0) is joined
in-order-entered : (enter_all (limits 3 2 2) ((4, 5) ∷ []) ((2, 3) ∷ (4, 5) ∷ (0, 0) ∷ []) ≡ ok ((4, 5) ∷ (2, 3) ∷ (0, 0) ∷ [])) × (enter (limits 1 2 2) ((4, 5) ∷ []) (2, 3) ≡ refused 12)
unfolding system.enter_all
in-order-entered = (refl, refl)

built : (build (limits 4 3 3) D (4, 5) 6 ≡ ok (passed four 2)) × (build (limits 3 4 4) D (4, 5) 2 ≡ refused 12) × (build (limits 3 4 4) D (4, 5) 1 ≡ ok cut_short)
unfolding system.build joins
built = (refl, refl, refl)

built-on : (build_from (limits 4 3 3) 5 D ((4, 5) ∷ (2, 3) ∷ (0, 0) ∷ []) 1 ≡ ok (passed four 2)) × (build_from (limits 3 5 5) 5 D ((4, 5) ∷ (2, 3) ∷ (0, 0) ∷ []) 1 ≡ refused 12)
unfolding system.build_from joins
built-on = (refl, refl)

-- ---- reachable pairs: (4, 5), then (2, 3) and (0, 0), then (1, 0)
reaches : Reachable D (4, 5) (1, 0)
unfolding joins
reaches = joined (joined (queried refl) here) (there here)

reaches-only : {p : Two} → Reachable D (2, 3) p → In p ((2, 3) ∷ (0, 0) ∷ (1, 0) ∷ [])
unfolding joins
reaches-only (queried e) = subst (λ z. In z ((2, 3) ∷ (0, 0) ∷ (1, 0) ∷ [])) (sym e) here
reaches-only (joined r i) = go (split (reaches-only r)) i
  where
    split : {p y : Two} {l : List Two} → In p (y ∷ l) → (p ≡ y) ⊎ In p l
    split here = inl refl
    split (there j) = inr j

    from : {p q y : Two} → p ≡ y → In q (joins D p) → In q (joins D y)
    from {q = q} e j = subst (λ z. In q (joins D z)) e j

    last : {p q : Two} → (p ≡ (1, 0)) ⊎ In p [] → In q (joins D p) → ⊥
    last (inl e) j = in-nil (from e j)
    last (inr i) j = in-nil i

    middle : {p q : Two} → (p ≡ (0, 0)) ⊎ In p ((1, 0) ∷ []) → In q (joins D p) → ⊥
    middle (inl e) j = in-nil (from e j)
    middle (inr i) j = last (split i) j

    go : {p q : Two} → (p ≡ (2, 3)) ⊎ In p ((0, 0) ∷ (1, 0) ∷ []) → In q (joins D p) → In q ((2, 3) ∷ (0, 0) ∷ (1, 0) ∷ [])
    go (inl e) j = there (from e j)
    go (inr i) j = absurd (middle (split i) j)

-- ---- a literal in two classes: 5 in 0 and 1, by the same operation; 7 in 2 and, by another operation, in 3; 4 and 5 hold Plain0
abbrev H : Tables
H = record {
  operations = record { kind = 9; flag = 0; identity = 65535 } ∷ record { kind = 9; flag = 0; identity = 65535 } ∷ record { kind = 0; flag = 0; identity = 65535 } ∷ [];
  classes = class_of 0 1 ∷ class_of 1 1 ∷ class_of 2 1 ∷ class_of 3 1 ∷ class_of 4 1 ∷ class_of 5 1 ∷ [];
  members = member_of 0 5 0 0 ∷ member_of 0 5 0 0 ∷ member_of 0 7 0 0 ∷ member_of 1 7 0 0 ∷ member_of 2 0 0 0 ∷ member_of 2 0 0 0 ∷ [];
  children = [];
}

doubled : HoldsDoubled H 1
doubled = record { other = 0; two = omega arith; within = (omega arith, omega arith); here = member_of 0 5 0 0; there = member_of 0 5 0 0; of = here; too = here; literal = refl; alike = (refl, refl) }

not-doubled : HoldsDoubled H 2 → ⊥
not-doubled d = go d.other d.two d.too ((mine d.of).0 ∙ d.alike.0) ((mine d.of).1 ∙ d.alike.1)
  where
    mine : {m : Member} → In m (member_of 0 7 0 0 ∷ []) → (0 ≡ m.op) × (7 ≡ m.value)
    mine here = (refl, refl)
    mine (there j) = absurd (in-nil j)

    only : {m n : Member} → In n (m ∷ []) → n ≡ m
    only here = refl
    only (there j) = absurd (in-nil j)

    go : {n : Member} (o : ℕ) → 2 ≢ o → In n (members_of H o) → 0 ≡ n.op → 7 ≡ n.value → ⊥
    go zero x i e f = let k = ap (λ z. z.value) (only i) in omega arith
    go (suc zero) x i e f = let k = ap (λ z. z.value) (only i) in omega arith
    go (suc (suc zero)) x i e f = x refl
    go (suc (suc (suc zero))) x i e f = let k = ap (λ z. z.op) (only i) in omega arith
    go (suc (suc (suc (suc zero)))) x i e f = let k = ap (λ z. z.value) (only i) in omega arith
    go (suc (suc (suc (suc (suc zero))))) x i e f = let k = ap (λ z. z.value) (only i) in omega arith
    go (suc (suc (suc (suc (suc (suc o)))))) x i e f = in-nil i

no-literal-doubled : HoldsDoubled H 4 → ⊥
no-literal-doubled d = go d.of d.literal
  where
    go : {m : Member} → In m (member_of 2 0 0 0 ∷ []) → kind_of H m.op ≡ 9 → ⊥
    go here e = omega arith
    go (there j) e = in-nil j
