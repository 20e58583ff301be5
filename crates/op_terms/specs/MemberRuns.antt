-- The runs of a member's best term in a list.
use Rattle.std.specs.Prelude.{◌≡◌, ◌⊎◌, List, [], ◌∷◌, map, ℕ, zero, suc, ◌+◌, ◌*◌, ◌-◌, ◌/◌, ◌%◌, ◌^◌, ◌≤◌, ◌<◌, length, get_or, set, drop, Option}
use Rattle.std.proofs.Math.Path.{refl}
use Rattle.std.proofs.Common.{ap, ap₂, ◌∙◌, inl, inr, not-suc-le-zero, eq-or-lt_of_le, mul-le-mul_right, arith, eq-eqb, ne_eqb, length-take, length-drop, get_or-take, get_or-drop}
use Rattle.std.proofs.Math.ListN.{length-set}
use Rattle.std.proofs.Math.Seq.{get_or-set_same, get_or-set_other}
use Rattle.spec.specs.Bytes.{Limits, Two, sum}
use Rattle.spec.specs.Image.{Tables, Member, Lit, kind_of, children_of, the_member}
use Rattle.spec.specs.Pool.{Node, lit_node, op_node, variants_node, join_runs, intern}
use Rattle.spec.specs.Meaning.{In, here, there}
use Rattle.pools.specs.Pool.{RunsBelow, runs-below-nil, runs-below-cons, NodeValid, lit-valid, op-valid, variants-valid}
use Rattle.image.specs.Loaded.{the_child}
use Rattle.image.specs.declared.Image.{Image}
use Rattle.terms.specs.Buffers.{part, unpack, pool_of, node_of}
use Rattle.interning.specs.Interning.{Interning}
use Rattle.joining.specs.Joining.{Begins, joined_in}
use Rattle.op_terms.specs.Members.{Gives, kept_run, kept_number, member_node, MemberReady}
use Rattle.terms.specs.PartLaws.{part-front}
use Rattle.joining.specs.JoinLaws.{joined-runs, join-sum, op-node}
use Rattle.interning.specs.GrowLaws.{grows-intern}

pub fill-turn : (P : ℕ → ℕ → Type 0) (list : List ℕ) (i x : ℕ) → i < length list → ((j : ℕ) → j < i → P j (get_or list j 0)) → P i x → (j : ℕ) → j < i + 1 → P j (get_or (set list i x) j 0)
fill-turn P list i x h f q j k = go (eq-or-lt_of_le {n = j} {m = i} (omega arith))
  where
    go : (j ≡ i) ⊎ (j < i) → P j (get_or (set list i x) j 0)
    go (inl e) = rw (e, get_or-set_same list i x 0 h) q
    go (inr l) = rw (get_or-set_other list i j x 0 (λ e. omega arith)) (f j l)

-- ---- nodes by their numbers
pub lit-node : (h o v : ℕ) (l : List ℕ) → h ≡ 64 + o → o < 64 → node_of h v (part l 0 0) ≡ lit_node o v
unfolding part
lit-node h o v l e k = let a : h / 64 ≡ 1 = omega arith in let b : h % 64 ≡ o = omega arith in rw (a, b) refl

pub lit-node-valid : (N h o v : ℕ) (l : List ℕ) → h ≡ 64 + o → o < 64 → NodeValid N (node_of h v (part l 0 0))
lit-node-valid N h o v l e k = rw (lit-node h o v l e k) (lit-valid N o v)

pub sum-none : (l : List ℕ) → sum (part l 0 0) < 2 ^ 64
unfolding part sum
sum-none l = omega arith

pub gives_of : (lim : Limits) {terms runs list : List ℕ} {n h v : ℕ} {terms' runs' : List ℕ} {r : Option ℕ} (x : Node) → node_of h v (part list 0 n) ≡ x → n ≤ length list → Interning lim terms runs list n h v terms' runs' r → Gives terms runs terms' runs' (intern lim (pool_of terms runs) x) r
gives_of lim x e k I = rw (← e) (record { answer = I.answer; pool = I.pool; holds = I.holds; grows = grows-intern lim k I })

-- ---- a member's children as runs over kept terms
unpack-kept : (best : List ℕ) (e : Two) → get_or best e.0 0 ≤ 16384 → 0 < get_or best e.0 0 → unpack (kept_number best e) ≡ kept_run best e
unpack-kept best e h z =
    let a : kept_number best e % 16384 ≡ get_or best e.0 0 - 1 = omega arith in
    let b : kept_number best e / 16384 ≡ e.1 = omega arith in
    ap₂ (λ (x y : ℕ). (x, y)) a b

part-map : (g : Two → Two) (l : List ℕ) (a n : ℕ) (L : List Two) → length L ≡ n → ((i : ℕ) → i < n → unpack (get_or l (a + i) 0) ≡ g (get_or L i (0, 0))) → map unpack (part l a n) ≡ map g L
unfolding part
part-map g l a zero [] e h = refl
part-map g l a zero (x ∷ L) e h = absurd (omega arith)
part-map g l a (suc n) [] e h = absurd (omega arith)
part-map g l a (suc n) (x ∷ L) e h =
    let z : a + 0 ≡ a = omega arith in
    ap₂ (λ (y : Two) (t : List Two). y ∷ t) (rw z at (h 0 (omega arith))) (part-map g l (suc a) n L (omega arith) rest)
  where
    rest : (i : ℕ) → i < n → unpack (get_or l (suc a + i) 0) ≡ g (get_or L i (0, 0))
    rest i k = let z : suc a + i ≡ a + suc i = omega arith in rw z (h (suc i) (omega arith))

sum-most : (l : List ℕ) (a n K : ℕ) → ((i : ℕ) → i < n → get_or l (a + i) 0 < K) → sum (part l a n) ≤ n * K
unfolding part sum
sum-most l a zero K h = omega arith
sum-most l a (suc n) K h =
    let z : a + 0 ≡ a = omega arith in
    let q : get_or l a 0 < K = rw z at (h 0 (omega arith)) in
    omega (arith, sum-most l (suc a) n K rest)
  where
    rest : (i : ℕ) → i < n → get_or l (suc a + i) 0 < K
    rest i k = let z : suc a + i ≡ a + suc i = omega arith in rw z (h (suc i) (omega arith))

in-at : (l : List Two) (i : ℕ) → i < length l → In (get_or l i (0, 0)) l
in-at [] i h = absurd (not-suc-le-zero h)
in-at (x ∷ l) zero h = here
in-at (x ∷ l) (suc i) h = there (in-at l i (omega arith))

in_map : (g : Two → Two) (l : List Two) (N : ℕ) → ((e : Two) → In e l → ((g e).0 < N) × (1 ≤ (g e).1)) → RunsBelow N (map g l)
in_map g [] N h = runs-below-nil N
in_map g (x ∷ l) N h = let (a, b) = h x here in runs-below-cons {r = g x} a b (in_map g l N (λ e i. h e (there i)))

module _ (t : Tables) (best : List ℕ) (N m : ℕ) (R : MemberReady t best N m) where
  abbrev L : List Two
  L = children_of t (the_member t m)

  abbrev first : ℕ
  first = (the_member t m).first

  abbrev count : ℕ
  count = (the_member t m).count

  child-at : (i : ℕ) → i < count → get_or L i (0, 0) ≡ the_child t (first + i)
  child-at i h = get_or-take count (drop first t.children) i (0, 0) h ∙ get_or-drop first t.children i (0, 0)

  child-in : (i : ℕ) → i < count → In (the_child t (first + i)) L
  child-in i h = rw (← child-at i h) (in-at L i (omega (arith, R.many)))

  pub child-there : (i : ℕ) → i < count → first + i < length t.children
  child-there i h = omega (arith, R.many, length-take count (drop first t.children), length-drop first t.children)

  pub child-ready : N ≤ 16384 → (i : ℕ) → i < count → ((the_child t (first + i)).0 < length best) × (0 < get_or best (the_child t (first + i)).0 0) × (get_or best (the_child t (first + i)).0 0 ≤ 16384)
  child-ready h i k = let (a, b) = R.built (the_child t (first + i)) (child-in i k) in (R.classes (the_child t (first + i)) (child-in i k), a, omega arith)

  -- what the loop over the children asks
  pub ready : N ≤ 16384 → (im : Image) → length t.children ≡ im.children → (i : ℕ) → i < count
      → (first + i < im.children) × ((the_child t (first + i)).0 < length best) × (0 < get_or best (the_child t (first + i)).0 0) × (get_or best (the_child t (first + i)).0 0 ≤ 16384)
  ready h im e i k = let (x, y, z) = child-ready h i k in (omega (arith, child-there i k), x, y, z)

  kept-below : RunsBelow N (map (kept_run best) L)
  kept-below = in_map (kept_run best) L N (λ e i. let (a, b) = R.built e i in (omega arith, R.counted e i))

  module _ (few : N ≤ 16384) (list : List ℕ) (F : (i : ℕ) → i < count → (get_or list i 0 ≡ kept_number best (the_child t (first + i))) × (get_or list i 0 < 2 ^ 47)) where
    pub kept-light : sum (part list 0 count) < 2 ^ 64
    kept-light = omega (arith, sum-most list 0 count (2 ^ 47) at, mul-le-mul_right (2 ^ 47) R.few)
      where
        at : (i : ℕ) → i < count → get_or list (0 + i) 0 < 2 ^ 47
        at i h = let z : 0 + i ≡ i = omega arith in rw z (F i h).1

    kept-runs-are : map unpack (part list 0 count) ≡ map (kept_run best) L
    kept-runs-are = part-map (kept_run best) list 0 count L R.many at
      where
        at : (i : ℕ) → i < count → unpack (get_or list (0 + i) 0) ≡ kept_run best (get_or L i (0, 0))
        at i h =
            let z : 0 + i ≡ i = omega arith in
            let (a, b, c) = child-ready few i h in
            rw (z, (F i h).0, child-at i h) (unpack-kept best (the_child t (first + i)) c b)

    module _ (list₂ : List ℕ) (j : ℕ) (J : Begins (joined_in list count) list list₂ j) where
      joined : part list₂ 0 j ≡ joined_in list count
      joined = rw J.numbers (part-front (joined_in list count) (drop (length (joined_in list count)) list) j J.many)

      pub joined-light : sum (part list₂ 0 j) < 2 ^ 64
      joined-light = omega (arith, ap sum joined, join-sum list count, kept-light)

      pub kept-node : (o : ℕ) → o < 64 → node_of o 0 (part list₂ 0 j) ≡ op_node o (map (kept_run best) L)
      kept-node o h = op-node o (part list₂ 0 j) _ h (ap (map unpack) joined ∙ joined-runs list count ∙ ap join_runs kept-runs-are)

      pub kept-valid : (o : ℕ) → o < 64 → NodeValid N (node_of o 0 (part list₂ 0 j))
      kept-valid o h = rw (kept-node o h) (op-valid N o (map (kept_run best) L) kept-below)

-- ---- the two forms of a member's node
pub member-literal : (t : Tables) (best : List ℕ) (m : Member) (o v : ℕ) → o ≡ m.op → v ≡ m.value → kind_of t m.op ≡ Lit → lit_node o v ≡ member_node t best m
member-literal t best m o v e f k = rw (e, f, eq-eqb (kind_of t m.op) Lit k) refl

pub member-operation : (t : Tables) (best : List ℕ) (m : Member) (o : ℕ) → o ≡ m.op → (kind_of t m.op ≡ Lit → ⊥) → op_node o (map (kept_run best) (children_of t m)) ≡ member_node t best m
member-operation t best m o e k = rw (e, ne_eqb (kind_of t m.op) Lit k) refl

-- ---- a marked place: two runs of 1
module _ (a b : ℕ) (ha : a < 16384) (hb : b < 16384) (l list : List ℕ) (two : length l ≡ 2) (x y : ℕ) (ex : x ≡ a) (ey : y ≡ b) (E : list ≡ set (set l 0 (16384 + x)) 1 (16384 + y)) where
  pair : part list 0 2 ≡ (16384 + a) ∷ (16384 + b) ∷ []
  unfolding part
  pair = rw (E, get_or-set_same (set l 0 (16384 + x)) 1 (16384 + y) 0 (simp length-set (omega arith)), get_or-set_other (set l 0 (16384 + x)) 1 0 (16384 + y) 0 (λ z. omega arith), get_or-set_same l 0 (16384 + x) 0 (omega arith), ex, ey) refl

  pub pair-light : sum (part list 0 2) < 2 ^ 64
  unfolding sum
  pair-light = rw pair (omega arith)

  module _ (list₂ : List ℕ) (j : ℕ) (J : Begins (joined_in list 2) list list₂ j) where
    pair-joined : part list₂ 0 j ≡ joined_in list 2
    pair-joined = rw J.numbers (part-front (joined_in list 2) (drop (length (joined_in list 2)) list) j J.many)

    pub pair-most : sum (part list₂ 0 j) < 2 ^ 64
    pair-most = omega (arith, ap sum pair-joined, join-sum list 2, pair-light)

    one : (c : ℕ) → c < 16384 → unpack (16384 + c) ≡ (c, 1)
    one c h = let e : (16384 + c) % 16384 ≡ c = omega arith in let f : (16384 + c) / 16384 ≡ 1 = omega arith in ap₂ (λ (p q : ℕ). (p, q)) e f

    runs-are : map unpack (part list₂ 0 j) ≡ join_runs ((a, 1) ∷ (b, 1) ∷ [])
    runs-are = ap (map unpack) pair-joined ∙ joined-runs list 2 ∙ ap (λ (m : List ℕ). join_runs (map unpack m)) pair ∙ ap₂ (λ (p q : Two). join_runs (p ∷ q ∷ [])) (one a ha) (one b hb)

    pub pair-node : node_of 128 0 (part list₂ 0 j) ≡ variants_node a b
    pair-node = rw runs-are refl

    pub pair-valid : (N : ℕ) → a < N → b < N → NodeValid N (node_of 128 0 (part list₂ 0 j))
    pair-valid N h k = rw pair-node (variants-valid N a b h k)
