-- "Distinct terms counted for 13: best terms, starting terms, one final term for each pair improved in a round." As trees, with no pool in sight.
use Rattle.std.specs.Prelude.{◌≡◌, ◌⊎◌, Bool, true, false, List, [], ◌∷◌, map, ℕ, zero, suc, ◌+◌, ◌*◌, ◌<◌, eqb, length}
use Rattle.spec.specs.Bytes.{pick, both, sum, Two}
use Rattle.spec.specs.Image.{Tables, Lit, kind_of, is_commutative, best_size, best_member, children_of}
use Rattle.spec.specs.Pool.{Order, is_greater}
use Rattle.spec.specs.Pairs.{pairs}
use Rattle.spec.specs.Round.{Choice, stay, act, turn_of}
use Rattle.spec.specs.Meaning.{In, Term, lit, node, variants, Runs, done, run}
use Rattle.laws.specs.Lists.{Distinct}
use Rattle.steps.specs.Quality.{◌⊏◌}
use Rattle.steps.specs.Rounds.{quality_after}
use Rattle.pools.specs.OrderTerms.{term_cmp}

-- ---- whether two trees are the same
unfoldable mutual
  pub same_tree : Term → Term → Bool
  same_tree (lit o v) (lit p w) = both (eqb o p) (eqb v w)
  same_tree (lit o v) (node p s) = false
  same_tree (lit o v) (variants s) = false
  same_tree (node o r) (lit p w) = false
  same_tree (node o r) (node p s) = both (eqb o p) (same_runs r s)
  same_tree (node o r) (variants s) = false
  same_tree (variants r) (lit p w) = false
  same_tree (variants r) (node p s) = false
  same_tree (variants r) (variants s) = same_runs r s

  pub same_runs : Runs → Runs → Bool
  same_runs done done = true
  same_runs done (run b m s) = false
  same_runs (run a n r) done = false
  same_runs (run a n r) (run b m s) = both (same_tree a b) (both (eqb n m) (same_runs r s))

-- ---- "runs of (child, count), neighbours with the same child joined"
abbrev pub join_tree : Term → ℕ → Runs → Runs
join_tree a n done = run a n done
join_tree a n (run b m r) = pick (same_tree a b) (run a (n + m) r) (run a n (run b m r))

unfoldable pub join_trees : Runs → Runs
unfolding same_tree
join_trees done = done
join_trees (run a n r) = join_tree a n (join_trees r)

-- how many runs
unfoldable pub runs_in : Runs → ℕ
runs_in done = 0
runs_in (run a n r) = suc (runs_in r)

-- the runs of a term
unfoldable pub tree_runs : Term → ℕ
unfolding runs_in
tree_runs (lit o v) = 0
tree_runs (node o r) = runs_in r
tree_runs (variants r) = runs_in r

-- ---- "`structural_cmp`", with fuel above the depth: the number of places in the tree
unfoldable mutual
  pub places : Term → ℕ
  places (lit o v) = 1
  places (node o r) = suc (places_in r)
  places (variants r) = suc (places_in r)

  pub places_in : Runs → ℕ
  places_in done = 0
  places_in (run a n r) = places a + places_in r

abbrev pub tree_cmp : Term → Term → Order
tree_cmp a b = term_cmp (places a) a b

unfoldable pub insert_tree : Term → ℕ → Runs → Runs
unfolding term_cmp places
insert_tree a n done = run a n done
insert_tree a n (run b m r) = elim (is_greater (tree_cmp a b)) [ true ↦ run b m (insert_tree a n r) | false ↦ run a n (run b m r) ]

-- children of commutative kinds, sorted
unfoldable pub sort_trees : Runs → Runs
unfolding insert_tree
sort_trees done = done
sort_trees (run a n r) = insert_tree a n (sort_trees r)

-- ---- the best term of a class: its best member over its children's best terms, "which keep stored order"
unfoldable pub child_trees : (ℕ → Term) → List Two → Runs
child_trees best [] = done
child_trees best (c ∷ l) = run (best c.0) c.1 (child_trees best l)

-- fuel: the class's best size, for best sizes fall along the best members' children
unfoldable pub best_tree_in : ℕ → Tables → ℕ → Term
unfolding child_trees join_trees
best_tree_in zero t c = lit 0 0
best_tree_in (suc f) t c =
    let m = best_member t c in
    elim (eqb (kind_of t m.op) Lit) [ true ↦ lit m.op m.value | false ↦ node m.op (join_trees (child_trees (best_tree_in f t) (children_of t m))) ]

abbrev pub best_tree : Tables → ℕ → Term
best_tree t c = best_tree_in (best_size t c) t c

-- ---- "Starting term: the best term of one class; or the marked place Variants of two best terms"
-- a marked place has its two branches, joined where they are the same
abbrev pub marked_tree : Term → Term → Term
marked_tree a b = variants (join_trees (run a 1 (run b 1 done)))

abbrev pub starting_tree : Tables → Two → Term
starting_tree t p = pick (eqb p.0 p.1) (best_tree t p.0) (marked_tree (best_tree t p.0) (best_tree t p.1))

-- ---- the term that a turn's choice builds over the terms `of` the pairs that it joins
unfoldable pub plan_trees : (Two → Term) → List Two → List ℕ → Runs
plan_trees of [] x = done
plan_trees of (p ∷ ps) [] = done
plan_trees of (p ∷ ps) (n ∷ x) = elim (eqb n 0) [ true ↦ plan_trees of ps x | false ↦ run (of p) n (plan_trees of ps x) ]

unfoldable pub choice_tree : Tables → (Two → Term) → Term → Choice → Term
unfolding plan_trees sort_trees join_trees
choice_tree t of old stay = old
choice_tree t of old (act a) = let l = plan_trees of a.places a.counts in node a.op (join_trees (pick (is_commutative (kind_of t a.op)) (sort_trees l) l))

-- the term of pair p after r rounds over the graph's pairs ps: "All pairs read the previous round"
unfoldable pub term_after : Tables → List Two → ℕ → Two → Term
unfolding best_tree_in choice_tree
term_after t ps zero p = starting_tree t p
term_after t ps (suc r) p = choice_tree t (term_after t ps r) (term_after t ps r p) (turn_of t (quality_after (pairs t) ps r) p).choice

-- pair p is improved in the round with index k, counted from 0
abbrev pub Improved : Tables → List Two → ℕ → Two → Type 0
Improved t ps k p = quality_after (pairs t) ps (suc k) p ⊏ quality_after (pairs t) ps k p

-- With n pairs and b checks the round with index k is begun: n checks for building, n for starting terms, n + 1 for each round before it, and one for its start have passed.
abbrev pub Begun : ℕ → ℕ → ℕ → Type 0
Begun n b k = 2 * n + k * (n + 1) < b

-- ---- the terms counted for 13, of a run with b checks over the graph's pairs ps
pub data Counted (t : Tables) (ps : List Two) (b : ℕ) (x : Term) : Type 0 where
  -- "best terms"
  best : (c : ℕ) → c < length t.classes → x ≡ best_tree t c → Counted t ps b x
  -- "starting terms"
  starting : (p : Two) → In p ps → x ≡ starting_tree t p → Counted t ps b x
  -- "one final term for each pair improved in a round", "also in a round cut short later"
  final : (p : Two) (k : ℕ) → In p ps → Improved t ps k p → Begun (length ps) b k → x ≡ term_after t ps (suc k) p → Counted t ps b x

-- "a term beyond 16,384 or a run beyond 65,536": distinct terms of a kind that are more than 16,384, or have more than 65,536 runs
pub record Beyond (C : Term → Type 0) : Type 0 where
  pub terms : List Term
  pub distinct : Distinct terms
  pub counted : (x : Term) → In x terms → C x
  pub beyond : (16384 < length terms) ⊎ (65536 < sum (map tree_runs terms))
