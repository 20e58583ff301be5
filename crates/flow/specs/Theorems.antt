-- "Transport": what the definition of the solver does, in four theorems.
use Rattle.std.specs.Prelude.{Bool, true, false, ◌≡◌, ℤ, pos, ◌+ℤ◌}
use mathlib.Core.List.{List, [], ◌∷◌}
use Rattle.std.proofs.Math.Option.{Option, none, some}
use Rattle.std.proofs.Math.Path.{refl, ap}
use Rattle.std.proofs.Common.{◌∙◌, arith}
use Prim.Native.Nat.{ℕ, zero, suc, ◌+◌, ◌*◌, ◌-◌, ◌^◌, ◌≤◌, ◌<◌}
use Rattle.spec.specs.Bytes.{Two, sum, Res, ok, refused}
use Rattle.spec.specs.Transport.{Problem, Solution, weight, rows_of, cols_of, sink, node_count, vertex_of, neighbours, residual, price, Search, label_or0, leave, relax, visit, search, begin, search_fuel, searched, push, plan_size, plan_mass, solve_cells, solved_by, shape_right, solve_transport}
use Rattle.spec.specs.Meaning.{In, here, there, Plan, ◌⊑◌}
use Rattle.flow.specs.Search.{Labelled, label_at, label-range, offer-range, after, good-leave}
use Rattle.flow.specs.SearchEnds.{dearest, dear, inner, good-begin, searched-rests}
use Rattle.flow.specs.AugmentingPath.{TightPath, next, path}
use Rattle.flow.specs.Augmentation.{Partial}
use Rattle.flow.specs.Solver.{total_of, placed, path_of, least_left, one-path, empty, start, start-placed}
use Rattle.flow.specs.Sums.{list_sum-is}
use Rattle.flow.specs.Optimal as O
use Rattle.flow.specs.Magnitude.{Small, path-lt}

-- 1. "No unit is lost: row and column sums of the plan equal the margins", and forbidden cells are empty.
pub margins : (p : Problem) (x : List ℕ) → solve_cells p ≡ some x → Plan p x
margins = O.margins

-- 2. The plan is the least of all plans by size, then mass.
abbrev pub totals : Problem → List ℕ → Two
totals p x = (plan_size x p.cells, plan_mass x p.cells)

pub least : (p : Problem) (x : List ℕ) → solve_cells p ≡ some x → (y : List ℕ) → Plan p y → totals p x ⊑ totals p y
least p x e y Y = O.least p x y e Y

-- 3. No plan is returned exactly where there is none: `Plan` asks for a row and a column.
abbrev pub NoPlan : Problem → Type 0
NoPlan p = (y : List ℕ) → Plan p y → ⊥

pub refused-where : (p : Problem) → solve_cells p ≡ none → NoPlan p
refused-where p e = O.refused16 p e

pub refused-only : (p : Problem) → NoPlan p → solve_cells p ≡ none
refused-only p f = O.refused-only p f

pub no_row : (p : Problem) → rows_of p ≡ 0 → NoPlan p
no_row p e y Y = let h = Y.some_row in absurd (omega arith)

pub no-column : (p : Problem) → cols_of p ≡ 0 → NoPlan p
no-column p e y Y = let h = Y.some_column in absurd (omega arith)

-- ---- the public solver: "in transport 1, 15, 16", each in its case only
pub data Answer (p : Problem) (plan : ℕ) (r : Res Solution) : Type 0 where
  solved : (x : List ℕ) → r ≡ ok (record { plan = x; size = plan_size x p.cells; mass = plan_mass x p.cells }) → shape_right p plan ≡ true
      → Plan p x → ((y : List ℕ) → Plan p y → totals p x ⊑ totals p y) → Answer p plan r
  wrong_shape : r ≡ refused 15 → shape_right p plan ≡ false → Answer p plan r
  no_plan : r ≡ refused 16 → shape_right p plan ≡ true → NoPlan p → Answer p plan r

pub work-too-short : (p : Problem) (plan : ℕ) → solve_transport false p plan ≡ refused 1
unfolding solve_transport
work-too-short p plan = refl

pub answer : (p : Problem) (plan : ℕ) → Answer p plan (solve_transport true p plan)
unfolding solve_transport solved_by
answer p plan = go (shape_right p plan) refl (solve_cells p) refl
  where
    go : (b : Bool) → shape_right p plan ≡ b → (o : Option (List ℕ)) → solve_cells p ≡ o → Answer p plan (solve_transport true p plan)
    go false e o q = wrong_shape (rw e refl) e
    go true e none q = no_plan (rw (e, q) refl) e (refused-where p q)
    go true e (some x) q = solved x (rw (e, q) refl) e (margins p x q) (least p x q)

-- 4. The fuel suffices. A plan that the solver meets, with the units that are left:
pub data Met (p : Problem) : ℕ → List ℕ → Type 0 where
  first : {l : ℕ} {x : List ℕ} → l ≡ sum p.supply → x ≡ empty p (weight p) → Met p l x
  next-met : {l l' : ℕ} {x x' : List ℕ} (z : ℤ) → Met p l x → 0 < l → label_at (searched p (weight p) x) (sink p) ≡ some z
      → l' ≡ l - least_left p (weight p) l x → x' ≡ push p (least_left p (weight p) l x) (path_of p (weight p) x) x → Met p l' x'

module _ (p : Problem) where
  abbrev w : ℕ
  w = weight p

  natural : (x : List ℕ) → Partial p w x → (v : ℕ) (z : ℤ) → label_at (searched p w x) v ≡ some z → (k : ℕ) × (z ≡ pos k)
  natural x I v z e =
      let rest = searched-rests p w x I.π I.pot in
      let (k, q, _) = label-range p w x I.π I.pot (dearest p w) (dear p w) (searched p w x) rest.hops rest.good v z e in
      (k, q)

  pub met-partial : (l : ℕ) (x : List ℕ) → Met p l x → Partial p w x × (l + placed p w x ≡ total_of p w)
  met-partial l x (first e q) = rw (e, q) (start p w, (omega (arith, start-placed p w, list_sum-is p.supply)))
  met-partial l x (next-met {l = l₀} {x = x₀} z m h e el ex) =
      let (I, s) = met-partial l₀ x₀ m in
      let (k, q) = natural x₀ I (sink p) z e in
      let (J, g, d, d') = one-path p w l₀ x₀ k h I (e ∙ ap some q) in
      rw (el, ex) (J, (omega arith))

  -- "every queue runs empty"
  pub queue-empties : (l : ℕ) (x : List ℕ) → Met p l x → (searched p w x).queue ≡ []
  queue-empties l x m = let (I, _) = met-partial l x m in (searched-rests p w x I.π I.pot).quiet

  -- "every walk back reaches the source": the steps lead from the source to the sink, along edges with something left
  pub data Leads (x : List ℕ) : ℕ → List Two → Type 0 where
    arrived : {a : ℕ} → a ≡ sink p → Leads x a []
    onward : {a b : ℕ} {steps : List Two} → 0 < residual p x (vertex_of p a) (vertex_of p b) → Leads x b steps → Leads x a ((a, b) ∷ steps)

  leads : (x : List ℕ) (π h : ℕ → ℕ) (a : ℕ) (steps : List Two) → TightPath p w x π h a steps → Leads x a steps
  leads x π h a [] (TightPath.end e) = arrived e
  leads x π h a (s ∷ steps) (TightPath.step b ha hb b0 nt up r t c) = onward r (leads x π h b steps c)

  pub walk-arrives : (l : ℕ) (x : List ℕ) (z : ℤ) → Met p l x → label_at (searched p w x) (sink p) ≡ some z → Leads x 0 (path_of p w x)
  walk-arrives l x z m e =
      let (I, _) = met-partial l x m in
      let (k, q) = natural x I (sink p) z e in
      let rest = searched-rests p w x I.π I.pot in
      leads x (next p w x I.π I.pot (searched p w x) rest) rest.hops 0 (path_of p w x) (path p w x I.π I.pot (searched p w x) rest k (e ∙ ap some q))

  -- "each augmentation moves at least one unit", and no more than are left
  pub augmentation-moves : (l : ℕ) (x : List ℕ) (z : ℤ) → Met p l x → 0 < l → label_at (searched p w x) (sink p) ≡ some z → (0 < least_left p w l x) × (least_left p w l x ≤ l)
  augmentation-moves l x z m h e =
      let (I, _) = met-partial l x m in
      let (k, q) = natural x I (sink p) z e in
      let (J, g, d, d') = one-path p w l x k h I (e ∙ ap some q) in
      (d, d')

  -- ---- "every path cost lies in [0, nodes × largest cell cost]", at every moment of a search
  pub data Moment (x : List ℕ) : Search → Type 0 where
    begun : {s : Search} → s ≡ begin p → Moment x s
    taken : {s t : Search} (u : ℕ) (q : List ℕ) → Moment x s → s.queue ≡ u ∷ q → t ≡ leave u q s → Moment x t
    relaxed : {s t : Search} (u v : ℕ) (d : ℤ) → Moment x s → u < node_count p → v < node_count p → label_at s u ≡ some d → t ≡ relax p w x u d v s → Moment x t

  moment-labelled : (x : List ℕ) (I : Partial p w x) (s : Search) → Moment x s → (h : ℕ → ℕ) × Labelled p w x I.π (dearest p w) s h
  moment-labelled x I s (begun e) = rw e ((λ v. 0), good-begin p w x I.π I.pot (dearest p w))
  moment-labelled x I s (taken {s = s₀} u q m e et) = let (h, G) = moment-labelled x I s₀ m in rw et (h, good-leave p w x I.π I.pot (dearest p w) (dear p w) s₀ h G u q e)
  moment-labelled x I s (relaxed {s = s₀} u v d m hu hv e et) =
      let (h, G) = moment-labelled x I s₀ m in
      let (k, q, _) = label-range p w x I.π I.pot (dearest p w) (dear p w) s₀ h G u d e in
      let A = after p w x I.π I.pot (dearest p w) (dear p w) s₀ h G u v k hu hv (e ∙ ap some q) in
      rw (et, q) (A.hops, A.good)

  pub label-natural : (l : ℕ) (x : List ℕ) (s : Search) → Met p l x → Moment x s → (v : ℕ) (z : ℤ) → label_at s v ≡ some z → (k : ℕ) × (z ≡ pos k) × (k ≤ node_count p * dearest p w)
  label-natural l x s m o v z e =
      let (I, _) = met-partial l x m in
      let (h, G) = moment-labelled x I s o in
      let (k, q, b) = label-range p w x I.π I.pot (dearest p w) (dear p w) s h G v z e in
      (k, q, omega arith)

  pub offer-natural : (l : ℕ) (x : List ℕ) (s : Search) → Met p l x → Moment x s → (u v : ℕ) (z : ℤ) → u < node_count p → v < node_count p → label_at s u ≡ some z
      → 0 < residual p x (vertex_of p u) (vertex_of p v) → (k : ℕ) × (z +ℤ price p w (vertex_of p u) (vertex_of p v) ≡ pos k) × (k ≤ node_count p * dearest p w)
  offer-natural l x s m o u v z hu hv e r =
      let (I, _) = met-partial l x m in
      let (h, G) = moment-labelled x I s o in
      let (k, q, b) = label-range p w x I.π I.pot (dearest p w) (dear p w) s h G u z e in
      rw q (offer-range p w x I.π I.pot (dearest p w) (dear p w) s h G u v k hu hv (e ∙ ap some q) r)

  -- the search passes through such moments only
  visit-passes : (x : List ℕ) (I : Partial p w x) (u : ℕ) (d : ℤ) → u < node_count p → (vs : List ℕ) → ((v : ℕ) → In v vs → v < node_count p) → (s : Search) → Moment x s → label_at s u ≡ some d
      → Moment x (visit p w x u d vs s)
  unfolding visit
  visit-passes x I u d hu [] inn s m e = m
  visit-passes x I u d hu (v ∷ vs) inn s m e =
      let (h, G) = moment-labelled x I s m in
      let (k, q, _) = label-range p w x I.π I.pot (dearest p w) (dear p w) s h G u d e in
      let A = after p w x I.π I.pot (dearest p w) (dear p w) s h G u v k hu (inn v here) (e ∙ ap some q) in
      visit-passes x I u d hu vs (λ z i. inn z (there i)) (relax p w x u d v s) (relaxed u v d m hu (inn v here) e refl) (rw q A.still)

  search-passes : (x : List ℕ) (I : Partial p w x) (f : ℕ) (q : List ℕ) (s : Search) → Moment x s → s.queue ≡ q → Moment x (search p w x f q s)
  unfolding search
  search-passes x I zero q s m e = m
  search-passes x I (suc f) [] s m e = m
  search-passes x I (suc f) (u ∷ q) s m e =
      let (h, G) = moment-labelled x I s m in
      let (hu, (l, L)) = G.inside u (rw e here) in
      let r = visit p w x u (label_or0 (label_at s u)) (neighbours p (vertex_of p u)) (leave u q s) in
      search-passes x I f r.queue r
      (rw L (visit-passes x I u (pos l) hu (neighbours p (vertex_of p u)) (λ v i. inner p w x u v hu i) (leave u q s) (taken u q m e refl) L)) refl

  pub searched-moment : (l : ℕ) (x : List ℕ) → Met p l x → Moment x (searched p w x)
  unfolding searched
  searched-moment l x m = let (I, _) = met-partial l x m in search-passes x I (search_fuel p w) (0 ∷ []) (begin p) (begun refl) refl

  -- with 32-bit numbers and at most 65 rows and columns, far inside two signed words
  pub label_small : Small p → (l : ℕ) (x : List ℕ) (s : Search) → Met p l x → Moment x s → (v : ℕ) (z : ℤ) → label_at s v ≡ some z → (k : ℕ) × (z ≡ pos k) × (k < 2 ^ 111)
  label_small S l x s m o v z e = let (k, q, b) = label-natural l x s m o v z e in (k, q, path-lt p S k b)

  pub offer-small : Small p → (l : ℕ) (x : List ℕ) (s : Search) → Met p l x → Moment x s → (u v : ℕ) (z : ℤ) → u < node_count p → v < node_count p → label_at s u ≡ some z
      → 0 < residual p x (vertex_of p u) (vertex_of p v) → (k : ℕ) × (z +ℤ price p w (vertex_of p u) (vertex_of p v) ≡ pos k) × (k < 2 ^ 111)
  offer-small S l x s m o u v z hu hv e r = let (k, q, b) = offer-natural l x s m o u v z hu hv e r in (k, q, path-lt p S k b)
