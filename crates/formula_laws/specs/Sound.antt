-- Reading takes nothing but formulas: what was read so far is the text of what stands on the stack.
use Rattle.std.specs.Prelude.{◌≡◌, refl, ◌≢◌, Bool, true, false, List, [], ◌∷◌, ◌++◌, ℕ, suc, ◌≤◌, ◌<◌, leb, eqb}
use Rattle.std.proofs.Common.{sym, ap, ◌∙◌, zero-le, arith, leb-true, leb-false}
use Rattle.std.proofs.lemmas.Bool.{eqb-false}
use Rattle.spec.specs.Bytes.{pick, ok, refused}
use Rattle.formula.specs.Card.{Tree, two, many, marked, Trees, none, also, count, branches, Mark, literal, between, list, next, close, opens, shuts, begin, or, end, prec_of, left_level, right_level, Formula, aLiteral, aTwo, aList, aChoice, brackets, Items, nothing, single, more}
use Rattle.formula.specs.Reader.{snoc, Frame, bracket, left, in_list, in_marked, Top, top, State, wants, has, wrong, reduce, close_empty, next_item, close_list, next_branch, close_marked, close_bracket, step, run, finish, read_marks, alone}
use Rattle.formula_laws.specs.Complete.{turn_on, join, snoc-join, join_one}

app_assoc : {A : Type 0} (l m r : List A) → (l ++ m) ++ r ≡ l ++ (m ++ r)
app_assoc [] m r = refl
app_assoc (x ∷ l) m r = ap (λ z. x ∷ z) (app_assoc l m r)

app_nil : {A : Type 0} (l : List A) → l ++ [] ≡ l
app_nil [] = refl
app_nil (x ∷ l) = ap (λ z. x ∷ z) (app_nil l)

refused-ok : {A : Type 0} {n : ℕ} {a : A} → refused n ≡ ok a → ⊥
refused-ok e = let y : ◌≡◌ {A = ℕ} 0 1 = cc in omega arith

-- ---- items, each with its mark behind it
data Begun (t : List ℕ) : Mark → List Mark → Trees → Type 0 where
  fresh : {sep : Mark} → Begun t sep [] none
  after : {sep : Mark} {s : List Mark} {l : Trees} (q r : List Mark) (m : Trees) (a : Tree) → Begun t sep q m → Formula t 0 r a → s ≡ q ++ (r ++ (sep ∷ [])) → l ≡ snoc m a → Begun t sep s l

-- ---- a stack with the text that led to it, and the level that is wanted next
data Context (t : List ℕ) : List Frame → List Mark → ℕ → Type 0 where
  empty : Context t [] [] 0
  in_bracket : {k : List Frame} {s : List Mark} (p : List Mark) (m : ℕ) → Context t k p m → s ≡ p ++ (opens ∷ []) → Context t (bracket ∷ k) s 0
  right_of : {k : List Frame} {s : List Mark} {a : Tree} {o n : ℕ} (p r : List Mark) (m : ℕ) → Context t k p m → m ≤ prec_of t o → Formula t (left_level t (prec_of t o)) r a
      → s ≡ p ++ (r ++ (between o ∷ [])) → n ≡ right_level t (prec_of t o) → Context t (left a o ∷ k) s n
  among_list : {k : List Frame} {s : List Mark} {o : ℕ} {l : Trees} (p r : List Mark) (m : ℕ) → Context t k p m → Begun t next r l → s ≡ p ++ (list o ∷ r) → Context t (in_list o l ∷ k) s 0
  among_branches : {k : List Frame} {s : List Mark} {l : Trees} (p r : List Mark) (m : ℕ) → Context t k p m → Begun t or r l → s ≡ p ++ (begin ∷ r) → Context t (in_marked l ∷ k) s 0

begun-items : (t : List ℕ) {sep : Mark} {s : List Mark} {l : Trees} → Begun t sep s l → (r : List Mark) (b : Tree) (m : Trees) → Items t sep r (also b m) → Items t sep (s ++ r) (join l (also b m))
unfolding join
begun-items t fresh r b m i = i
begun-items t {sep = sep} (after q x n a g f e z) r b m i =
    rw (e, z, app_assoc q (x ++ (sep ∷ [])) r, app_assoc x (sep ∷ []) r, snoc-join n (also b m) a) (begun-items t g (x ++ (sep ∷ r)) a (also b m) (more x r f i refl))

begun-last : (t : List ℕ) {sep : Mark} {s : List Mark} {l : Trees} → Begun t sep s l → (r : List Mark) (a : Tree) → Formula t 0 r a → Items t sep (s ++ r) (snoc l a)
begun-last t {l = l} g r a f = rw (← join_one l a) (begun-items t g r a none (single f))

-- ---- finishing keeps the text
abbrev Stops : List ℕ → ℕ → List Frame → Type 0
Stops t n [] = Unit
Stops t n (bracket ∷ k) = Unit
Stops t n (left b o ∷ k) = prec_of t o < n
Stops t n (in_list o l ∷ k) = Unit
Stops t n (in_marked l ∷ k) = Unit

record Finished (t : List ℕ) (n : ℕ) (s : List Mark) (w : Top) : Type 0 where
  before : List Mark
  own : List Mark
  wanted : ℕ
  context : Context t w.frames before wanted
  is : s ≡ before ++ own
  fits : Formula t wanted own w.value
  binds : Formula t n own w.value
  stops : Stops t n w.frames

reduced : (t : List ℕ) (n m : ℕ) (k : List Frame) (p s : List Mark) (a : Tree) → Context t k p m → Formula t m s a → Formula t n s a → Finished t n (p ++ s) (reduce t n k a)
unfolding reduce
reduced t n m k p s a empty f g = record { before = []; own = s; wanted = 0; context = empty; is = refl; fits = f; binds = g; stops = tt }
reduced t n m k p s a (in_bracket q j c e) f g = record { before = p; own = s; wanted = 0; context = in_bracket q j c e; is = refl; fits = f; binds = g; stops = tt }
reduced t n m k p s a (among_list q r j c h e) f g = record { before = p; own = s; wanted = 0; context = among_list q r j c h e; is = refl; fits = f; binds = g; stops = tt }
reduced t n m k p s a (among_branches q r j c h e) f g = record { before = p; own = s; wanted = 0; context = among_branches q r j c h e; is = refl; fits = f; binds = g; stops = tt }
reduced t n m k p s a (right_of {k = k₁} {a = b} {o = o} q r j c h i e z) f g = go (leb n (prec_of t o)) refl (λ x y. reduced t n j k₁ q (r ++ (between o ∷ s)) (two o b a) c x y)
  where
    two_at : (u : ℕ) → u ≤ prec_of t o → Formula t u (r ++ (between o ∷ s)) (two o b a)
    two_at u l = aTwo {b = a} r s l i (rw z at f) refl

    text : p ++ s ≡ q ++ (r ++ (between o ∷ s))
    text = rw (e, app_assoc q (r ++ (between o ∷ [])) s, app_assoc r (between o ∷ []) s) refl

    go : (x : Bool) → leb n (prec_of t o) ≡ x → (Formula t j (r ++ (between o ∷ s)) (two o b a) → Formula t n (r ++ (between o ∷ s)) (two o b a) → Finished t n (q ++ (r ++ (between o ∷ s))) (reduce t n k₁ (two o b a)))
        → Finished t n (p ++ s) (elim x [ true ↦ reduce t n k₁ (two o b a) | false ↦ top (left b o ∷ k₁) a ])
    go true y rec = rw text (rec (two_at j h) (two_at n (leb-true n (prec_of t o) y)))
    go false y rec = record { before = p; own = s; wanted = m; context = right_of q r j c h i e z; is = refl; fits = f; binds = g; stops = leb-false n (prec_of t o) y }

-- ---- the invariant, mark by mark: a child that was read is bare or closed, so it may stand anywhere
record Anywhere (t : List ℕ) (k : List Frame) (a : Tree) (s : List Mark) : Type 0 where
  before : List Mark
  own : List Mark
  wanted : ℕ
  context : Context t k before wanted
  is : s ≡ before ++ own
  fits : (n : ℕ) → Formula t n own a

record Waiting (t : List ℕ) (k : List Frame) (s : List Mark) : Type 0 where
  wanted : ℕ
  context : Context t k s wanted

abbrev Good : List ℕ → State → List Mark → Type 0
Good t (wants k) s = Waiting t k s
Good t (has k a) s = Anywhere t k a s
Good t wrong s = Unit

finished : (t : List ℕ) (n : ℕ) (k : List Frame) (a : Tree) (s : List Mark) → Anywhere t k a s → Finished t n s (reduce t n k a)
finished t n k a s g = rw g.is (reduced t n g.wanted k g.before g.own a g.context (g.fits g.wanted) (g.fits n))

-- what is wanted where an operation comes
wanted-below : (t : List ℕ) (o m : ℕ) (k : List Frame) (p : List Mark) → Context t k p m → Stops t (left_level t (prec_of t o)) k → m ≤ prec_of t o
wanted-below t o m k p empty h = zero-le
wanted-below t o m k p (in_bracket q j c e) h = zero-le
wanted-below t o m k p (among_list q r j c g e) h = zero-le
wanted-below t o m k p (among_branches q r j c g e) h = zero-le
wanted-below t o m k p (right_of {o = v} q r j c g i e z) h = rw z (turn_on t (prec_of t o) (prec_of t v) h)

pushes : (t : List ℕ) (o : ℕ) (s : List Mark) (w : Top) → Finished t (left_level t (prec_of t o)) s w → Waiting t (left w.value o ∷ w.frames) (s ++ (between o ∷ []))
pushes t o s w f = record {
  wanted = right_level t (prec_of t o);
  context = right_of f.before f.own f.wanted f.context (wanted-below t o f.wanted w.frames f.before f.context f.stops) f.binds
      (ap (λ z. z ++ (between o ∷ [])) f.is ∙ app_assoc f.before f.own (between o ∷ [])) refl;
}

nexts : (t : List ℕ) (s : List Mark) (k : List Frame) (a : Tree) → (p r : List Mark) (m : ℕ) → Context t k p m → s ≡ p ++ r → Formula t 0 r a → Good t (next_item k a) (s ++ (next ∷ []))
unfolding next_item
nexts t s k a p r m empty e f = tt
nexts t s k a p r m (in_bracket q j c z) e f = tt
nexts t s k a p r m (right_of q x j c g i z y) e f = tt
nexts t s k a p r m (among_branches q x j c g z) e f = tt
nexts t s k a p r m (among_list {o = o} {l = l} q x j c g z) e f = record {
  wanted = 0;
  context = among_list {s = s ++ (next ∷ [])} {o = o} q (x ++ (r ++ (next ∷ []))) j c (after x r l a g f refl refl) (rw (e, z, app_assoc q (list o ∷ x) r, app_assoc q (list o ∷ x ++ r) (next ∷ []), app_assoc x r (next ∷ [])) refl);
}

branches-next : (t : List ℕ) (s : List Mark) (k : List Frame) (a : Tree) → (p r : List Mark) (m : ℕ) → Context t k p m → s ≡ p ++ r → Formula t 0 r a → Good t (next_branch k a) (s ++ (or ∷ []))
unfolding next_branch
branches-next t s k a p r m empty e f = tt
branches-next t s k a p r m (in_bracket q j c z) e f = tt
branches-next t s k a p r m (right_of q x j c g i z y) e f = tt
branches-next t s k a p r m (among_list q x j c g z) e f = tt
branches-next t s k a p r m (among_branches {l = l} q x j c g z) e f = record {
  wanted = 0;
  context = among_branches {s = s ++ (or ∷ [])} q (x ++ (r ++ (or ∷ []))) j c (after x r l a g f refl refl) (rw (e, z, app_assoc q (begin ∷ x) r, app_assoc q (begin ∷ x ++ r) (or ∷ []), app_assoc x r (or ∷ [])) refl);
}

closes-bracket : (t : List ℕ) (s : List Mark) (k : List Frame) (a : Tree) → (p r : List Mark) (m : ℕ) → Context t k p m → s ≡ p ++ r → Formula t 0 r a → Good t (close_bracket k a) (s ++ (shuts ∷ []))
unfolding close_bracket
closes-bracket t s k a p r m empty e f = tt
closes-bracket t s k a p r m (right_of q x j c g i z y) e f = tt
closes-bracket t s k a p r m (among_list q x j c g z) e f = tt
closes-bracket t s k a p r m (among_branches q x j c g z) e f = tt
closes-bracket t s k a p r m (in_bracket q j c z) e f = record {
  before = q;
  own = opens ∷ r ++ (shuts ∷ []);
  wanted = j;
  context = c;
  is = rw (e, z, app_assoc q (opens ∷ []) r, app_assoc q (opens ∷ r) (shuts ∷ [])) refl;
  fits = λ n. brackets r f refl;
}

closes-list : (t : List ℕ) (s : List Mark) (k : List Frame) (a : Tree) → (p r : List Mark) (m : ℕ) → Context t k p m → s ≡ p ++ r → Formula t 0 r a → Good t (close_list k a) (s ++ (close ∷ []))
unfolding close_list
closes-list t s k a p r m empty e f = tt
closes-list t s k a p r m (in_bracket q j c z) e f = tt
closes-list t s k a p r m (right_of q x j c g i z y) e f = tt
closes-list t s k a p r m (among_branches q x j c g z) e f = tt
closes-list t s k a p r m (among_list {k = k₁} {o = o} {l = l} q x j c g z) e f = go (eqb (count (snoc l a)) 2) (eqb-false (count (snoc l a)) 2)
  where
    go : (b : Bool) → (b ≡ false → count (snoc l a) ≢ 2) → Good t (pick b wrong (has k₁ (many o (snoc l a)))) (s ++ (close ∷ []))
    go true h = tt
    go false h = record {
      before = q;
      own = list o ∷ (x ++ r) ++ (close ∷ []);
      wanted = j;
      context = c;
      is = rw (e, z, app_assoc q (list o ∷ x) r, app_assoc q (list o ∷ x ++ r) (close ∷ [])) refl;
      fits = λ n. aList (x ++ r) (h refl) (begun-last t g r a f) refl;
    }

closes-marked : (t : List ℕ) (s : List Mark) (k : List Frame) (a : Tree) → (p r : List Mark) (m : ℕ) → Context t k p m → s ≡ p ++ r → Formula t 0 r a → Good t (close_marked k a) (s ++ (end ∷ []))
unfolding close_marked
closes-marked t s k a p r m empty e f = tt
closes-marked t s k a p r m (in_bracket q j c z) e f = tt
closes-marked t s k a p r m (right_of q x j c g i z y) e f = tt
closes-marked t s k a p r m (among_list q x j c g z) e f = tt
closes-marked t s k a p r m (among_branches {k = k₁} {l = l} q x j c g z) e f = go (branches (count (snoc l a))) refl
  where
    go : (b : Bool) → branches (count (snoc l a)) ≡ b → Good t (pick b (has k₁ (marked (snoc l a))) wrong) (s ++ (end ∷ []))
    go false h = tt
    go true h = record {
      before = q;
      own = begin ∷ (x ++ r) ++ (end ∷ []);
      wanted = j;
      context = c;
      is = rw (e, z, app_assoc q (begin ∷ x) r, app_assoc q (begin ∷ x ++ r) (end ∷ [])) refl;
      fits = λ n. aChoice (x ++ r) h (begun-last t g r a f) refl;
    }

begun-none : (t : List ℕ) {sep : Mark} {s : List Mark} {l : Trees} → Begun t sep s l → l ≡ none → s ≡ []
unfolding count snoc
begun-none t fresh e = refl
begun-none t (after q r m a g f z y) e = absurd (some m (sym e ∙ y))
  where
    some : (m : Trees) → none ≡ snoc m a → ⊥
    some none e = let z : ◌≡◌ {A = ℕ} 0 1 = ap count e in omega arith
    some (also b m) e = let z : ◌≡◌ {A = ℕ} 0 (suc (count (snoc m a))) = ap count e in omega arith

closes-empty : (t : List ℕ) (s : List Mark) (k : List Frame) (m : ℕ) → Context t k s m → Good t (close_empty k) (s ++ (close ∷ []))
unfolding close_empty count
closes-empty t s k m empty = tt
closes-empty t s k m (in_bracket q j c z) = tt
closes-empty t s k m (right_of q x j c g i z y) = tt
closes-empty t s k m (among_branches q x j c g z) = tt
closes-empty t s k m (among_list {k = k₁} {o = o} {l = l} q x j c g z) = go l g
  where
    go : (l : Trees) → Begun t next x l → Good t (close_empty (in_list o l ∷ k₁)) (s ++ (close ∷ []))
    go (also b l) h = tt
    go none h = record {
      before = q;
      own = list o ∷ close ∷ [];
      wanted = j;
      context = c;
      is = rw (z, begun-none t h refl, app_assoc q (list o ∷ []) (close ∷ [])) refl;
      fits = λ n. aList [] (λ e. absurd (let y : ◌≡◌ {A = ℕ} 0 2 = e in omega arith)) (nothing refl) refl;
    }

good-step : (t : List ℕ) (u : State) (c : Mark) (s : List Mark) → Good t u s → Good t (step t u c) (s ++ (c ∷ []))
unfolding step
good-step t (wants k) (literal v o) s g = record { before = s; own = literal v o ∷ []; wanted = g.wanted; context = g.context; is = refl; fits = λ n. aLiteral refl }
good-step t (wants k) (between o) s g = tt
good-step t (wants k) (list o) s g = record { wanted = 0; context = among_list s [] g.wanted g.context fresh refl }
good-step t (wants k) next s g = tt
good-step t (wants k) close s g = closes-empty t s k g.wanted g.context
good-step t (wants k) opens s g = record { wanted = 0; context = in_bracket s g.wanted g.context refl }
good-step t (wants k) shuts s g = tt
good-step t (wants k) begin s g = record { wanted = 0; context = among_branches s [] g.wanted g.context fresh refl }
good-step t (wants k) or s g = tt
good-step t (wants k) end s g = tt
good-step t (has k a) (literal v o) s g = tt
good-step t (has k a) (between o) s g = pushes t o s _ (finished t (left_level t (prec_of t o)) k a s g)
good-step t (has k a) (list o) s g = tt
good-step t (has k a) next s g = let f = finished t 0 k a s g in nexts t s _ _ f.before f.own f.wanted f.context f.is f.binds
good-step t (has k a) close s g = let f = finished t 0 k a s g in closes-list t s _ _ f.before f.own f.wanted f.context f.is f.binds
good-step t (has k a) opens s g = tt
good-step t (has k a) shuts s g = let f = finished t 0 k a s g in closes-bracket t s _ _ f.before f.own f.wanted f.context f.is f.binds
good-step t (has k a) begin s g = tt
good-step t (has k a) or s g = let f = finished t 0 k a s g in branches-next t s _ _ f.before f.own f.wanted f.context f.is f.binds
good-step t (has k a) end s g = let f = finished t 0 k a s g in closes-marked t s _ _ f.before f.own f.wanted f.context f.is f.binds
good-step t wrong c s g = tt

good-run : (t : List ℕ) (u : State) (r s : List Mark) → Good t u s → Good t (run t u r) (s ++ r)
unfolding run
good-run t u [] s g = rw (app_nil s) g
good-run t u (c ∷ r) s g = rw (← app_assoc s (c ∷ []) r) (good-run t (step t u c) r (s ++ (c ∷ [])) (good-step t u c s g))

alone-formula : (t : List ℕ) (s : List Mark) (a : Tree) (w : Top) → Finished t 0 s w → alone w.frames w.value ≡ ok a → Formula t 0 s a
unfolding alone
alone-formula t s a w f e = go w.frames f.before f.wanted f.context e f.is
  where
    go : (k : List Frame) (p : List Mark) (m : ℕ) → Context t k p m → alone k w.value ≡ ok a → s ≡ p ++ f.own → Formula t 0 s a
    go k p m empty e z = let y : w.value ≡ a = cc in rw (z, ← y) f.binds
    go k p m (in_bracket q j c x) e z = absurd (refused-ok e)
    go k p m (right_of q r j c g i x y) e z = absurd (refused-ok e)
    go k p m (among_list q r j c g x) e z = absurd (refused-ok e)
    go k p m (among_branches q r j c g x) e z = absurd (refused-ok e)

finish-sound : (t : List ℕ) (u : State) (s : List Mark) (a : Tree) → Good t u s → finish t u ≡ ok a → Formula t 0 s a
unfolding finish
finish-sound t (wants k) s a g e = absurd (refused-ok e)
finish-sound t (has k b) s a g e = alone-formula t s a (reduce t 0 k b) (finished t 0 k b s g) e
finish-sound t wrong s a g e = absurd (refused-ok e)

-- "17 for a text that is not a formula": what is read is a formula of what it is read as.
pub sound : (t : List ℕ) (s : List Mark) (a : Tree) → read_marks t s ≡ ok a → Formula t 0 s a
unfolding read_marks
sound t s a e = finish-sound t (run t (wants []) s) s a (good-run t (wants []) s [] (record { wanted = 0; context = empty })) e
