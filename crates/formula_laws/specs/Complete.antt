-- Reading finds the term of every formula: by the derivation, over any stack that waits for a child of this precedence.
use Rattle.std.specs.Prelude.{◌≡◌, refl, ◌≢◌, ◌⊎◌, Bool, true, false, List, [], ◌∷◌, ◌++◌, ℕ, suc, ◌≤◌, ◌<◌}
use Rattle.std.proofs.Common.{sym, ap, ◌∙◌, inl, inr, zero-le, le_refl, le_trans, arith, le-leb, ne_eqb}
use Rattle.std.proofs.Math.Decide.{ℕ_discrete}
use Rattle.std.proofs.lemmas.Bool.{lt-leb}
use Rattle.spec.specs.Bytes.{pick, ok}
use Rattle.laws.specs.Tests.{clash}
use Rattle.formula.specs.Card.{Tree, lit, two, many, marked, Trees, none, also, count, branches, Mark, literal, between, list, next, close, opens, shuts, begin, or, end, prec_of, groups_left, left_level, right_level, Formula, aLiteral, aTwo, aList, aChoice, brackets, Items, nothing, single, more}
use Rattle.formula.specs.Reader.{snoc, Frame, bracket, left, in_list, in_marked, Top, top, State, wants, has, reduce, close_empty, next_item, close_list, next_branch, close_marked, close_bracket, step, run, finish, read_marks, alone}

-- ---- the two levels: what stands left of precedence p is finished by it exactly where p may not stand right of what is left open
turn-off-by : (p q : ℕ) (x y : Bool) → (p ≡ q → x ≡ y) → pick y (suc q) q ≤ p → q < pick x p (suc p)
turn-off-by p q true true e h = h
turn-off-by p q true false e h = elim (ℕ_discrete p q) [ yes f ↦ absurd (clash (e f)) | no f ↦ omega arith ]
turn-off-by p q false true e h = omega arith
turn-off-by p q false false e h = omega arith

pub turn-off : (t : List ℕ) (p q : ℕ) → right_level t q ≤ p → q < left_level t p
turn-off t p q h = turn-off-by p q (groups_left t p) (groups_left t q) (ap (groups_left t)) h

turn-on-by : (p q : ℕ) (x y : Bool) → (p ≡ q → x ≡ y) → q < pick x p (suc p) → pick y (suc q) q ≤ p
turn-on-by p q true true e h = h
turn-on-by p q true false e h = omega arith
turn-on-by p q false true e h = elim (ℕ_discrete p q) [ yes f ↦ absurd (clash (sym (e f))) | no f ↦ omega arith ]
turn-on-by p q false false e h = omega arith

pub turn_on : (t : List ℕ) (p q : ℕ) → q < left_level t p → right_level t q ≤ p
turn_on t p q h = turn-on-by p q (groups_left t p) (groups_left t q) (ap (groups_left t)) h

right_by : (p : ℕ) (x : Bool) → p ≤ pick x (suc p) p
right_by p true = omega arith
right_by p false = omega arith

pub right-above : (t : List ℕ) (p : ℕ) → p ≤ right_level t p
right-above t p = right_by p (groups_left t p)

left_by : (p : ℕ) (x : Bool) → p ≤ pick x p (suc p)
left_by p true = omega arith
left_by p false = omega arith

pub left-above : (t : List ℕ) (p : ℕ) → p ≤ left_level t p
left-above t p = left_by p (groups_left t p)

-- ---- marks in a row
pub run-append : (t : List ℕ) (s : State) (l r : List Mark) → run t s (l ++ r) ≡ run t (run t s l) r
unfolding run
run-append t s [] r = refl
run-append t s (c ∷ l) r = run-append t (step t s c) l r

-- ---- a stack that waits for a child of precedence m at least
abbrev pub Blocked : List ℕ → ℕ → List Frame → Type 0
Blocked t m [] = Unit
Blocked t m (bracket ∷ k) = Unit
Blocked t m (left b o ∷ k) = right_level t (prec_of t o) ≤ m
Blocked t m (in_list o l ∷ k) = Unit
Blocked t m (in_marked l ∷ k) = Unit

blocked-up : (t : List ℕ) {m n : ℕ} (k : List Frame) → m ≤ n → Blocked t m k → Blocked t n k
blocked-up t [] h b = tt
blocked-up t (bracket ∷ k) h b = tt
blocked-up t (left c o ∷ k) h b = le_trans b h
blocked-up t (in_list o l ∷ k) h b = tt
blocked-up t (in_marked l ∷ k) h b = tt

reduce-blocked : (t : List ℕ) (m p : ℕ) (k : List Frame) (a : Tree) → Blocked t m k → m ≤ p → reduce t (left_level t p) k a ≡ top k a
unfolding reduce
reduce-blocked t m p [] a b h = refl
reduce-blocked t m p (bracket ∷ k) a b h = refl
reduce-blocked t m p (in_list o l ∷ k) a b h = refl
reduce-blocked t m p (in_marked l ∷ k) a b h = refl
reduce-blocked t m p (left c o ∷ k) a b h =
    rw (lt-leb (left_level t p) (prec_of t o) (turn-off t p (prec_of t o) (le_trans b h)), reduce) refl

reduce-left : (t : List ℕ) (n o : ℕ) (k : List Frame) (a b : Tree) → n ≤ prec_of t o → reduce t n (left a o ∷ k) b ≡ reduce t n k (two o a b)
unfolding reduce
reduce-left t n o k a b h = rw (le-leb n (prec_of t o) h, reduce) refl

-- ---- what reading a formula leaves on the stack: what it would be with the term itself
pub record Reads (t : List ℕ) (m : ℕ) (k : List Frame) (s : List Mark) (a : Tree) : Type 0 where
  pub frames : List Frame
  pub value : Tree
  pub ran : run t (wants k) s ≡ has frames value
  pub same : (n : ℕ) → n ≤ m → reduce t n frames value ≡ reduce t n k a

-- a mark, and what it leads to
run-one : (t : List ℕ) (s u : State) (c : Mark) → step t s c ≡ u → run t s (c ∷ []) ≡ u
unfolding run
run-one t s u c e = e

run-cons : (t : List ℕ) (s u : State) (c : Mark) (r : List Mark) → step t s c ≡ u → run t s (c ∷ r) ≡ run t u r
unfolding run
run-cons t s u c r e = ap (λ z. run t z r) e

-- an inner text, then one mark
run-closed : (t : List ℕ) (s u v : State) (l : List Mark) (c : Mark) → run t s l ≡ u → step t u c ≡ v → run t s (l ++ (c ∷ [])) ≡ v
run-closed t s u v l c e f = run-append t s l (c ∷ []) ∙ ap (λ z. run t z (c ∷ [])) e ∙ run-one t u v c f

-- ---- items one after the other, in a frame F
unfoldable pub join : Trees → Trees → Trees
join none m = m
join (also a l) m = also a (join l m)

pub snoc-join : (l m : Trees) (a : Tree) → join (snoc l a) m ≡ join l (also a m)
unfolding join snoc
snoc-join none m a = refl
snoc-join (also b l) m a = ap (also b) (snoc-join l m a)

pub join_one : (l : Trees) (a : Tree) → join l (also a none) ≡ snoc l a
unfolding join snoc
join_one none a = refl
join_one (also b l) a = ap (also b) (join_one l a)

-- a frame of items: nothing is finished past it, and its mark takes in one more
record Holds (t : List ℕ) (sep : Mark) (F : Trees → Frame) : Type 0 where
  flat : (n : ℕ) (l : Trees) (k : List Frame) (a : Tree) → reduce t n (F l ∷ k) a ≡ top (F l ∷ k) a
  free : (l : Trees) (k : List Frame) → Blocked t 0 (F l ∷ k)
  takes : (j : List Frame) (v : Tree) (l : Trees) (k : List Frame) (a : Tree) → reduce t 0 j v ≡ top (F l ∷ k) a → step t (has j v) sep ≡ wants (F (snoc l a) ∷ k)

-- the items are read but for the last, which is at hand
record ItemsRead (t : List ℕ) (F : Trees → Frame) (l : Trees) (k : List Frame) (s : List Mark) (m : Trees) : Type 0 where
  frames : List Frame
  value : Tree
  before : Trees
  last : Tree
  ran : run t (wants (F l ∷ k)) s ≡ has frames value
  stands : reduce t 0 frames value ≡ top (F before ∷ k) last
  whole : snoc before last ≡ join l m

abbrev Outcome : List ℕ → (Trees → Frame) → Trees → List Frame → List Mark → Trees → Type 0
Outcome t F l k s m = ((m ≡ none) × (s ≡ [])) ⊎ ItemsRead t F l k s m

items-single : (t : List ℕ) (sep : Mark) (F : Trees → Frame) → Holds t sep F → (l : Trees) (k : List Frame) (s : List Mark) (a : Tree) → Reads t 0 (F l ∷ k) s a → ItemsRead t F l k s (also a none)
items-single t sep F h l k s a r =
    record { frames = r.frames; value = r.value; before = l; last = a; ran = r.ran; stands = r.same 0 zero-le ∙ h.flat 0 l k a; whole = sym (join_one l a) }

items_more : (t : List ℕ) (sep : Mark) (F : Trees → Frame) → Holds t sep F → (l : Trees) (k : List Frame) (s q r : List Mark) (a b : Tree) (m : Trees)
    → Reads t 0 (F l ∷ k) q a → Outcome t F (snoc l a) k r (also b m) → s ≡ q ++ (sep ∷ r) → ItemsRead t F l k s (also a (also b m))
unfolding count
items_more t sep F h l k s q r a b m x (inl e) z = absurd (let y : suc (count m) ≡ 0 = ap count e.0 in omega arith)
items_more t sep F h l k s q r a b m x (inr y) z = record {
  frames = y.frames;
  value = y.value;
  before = y.before;
  last = y.last;
  ran = ap (run t (wants (F l ∷ k))) z ∙ run-append t (wants (F l ∷ k)) q (sep ∷ r) ∙ ap (λ w. run t w (sep ∷ r)) x.ran
      ∙ run-cons t (has x.frames x.value) (wants (F (snoc l a) ∷ k)) sep r (h.takes x.frames x.value l k a (x.same 0 zero-le ∙ h.flat 0 l k a)) ∙ y.ran;
  stands = y.stands;
  whole = y.whole ∙ snoc-join l (also b m) a;
}

in-list : (t : List ℕ) (o : ℕ) → Holds t next (in_list o)
unfolding reduce step next_item
in-list t o = record { flat = λ n l k a. refl; free = λ l k. tt; takes = λ j v l k a e. ap (λ (z : Top). next_item z.frames z.value) e }

in-marked : (t : List ℕ) → Holds t or in_marked
unfolding reduce step next_branch
in-marked t = record { flat = λ n l k a. refl; free = λ l k. tt; takes = λ j v l k a e. ap (λ (z : Top). next_branch z.frames z.value) e }

-- ---- a text between two marks
list-reads : (t : List ℕ) (m o : ℕ) (k : List Frame) (s r : List Mark) (l : Trees) → count l ≢ 2 → Outcome t (in_list o) none k r l → s ≡ list o ∷ r ++ (close ∷ []) → Reads t m k s (many o l)
unfolding step close_empty close_list join
list-reads t m o k s r l c (inl e) z = record {
  frames = k;
  value = many o none;
  ran = ap (run t (wants k)) (z ∙ ap (λ w. list o ∷ w ++ (close ∷ [])) e.1) ∙ run-cons t (wants k) (wants (in_list o none ∷ k)) (list o) (close ∷ []) refl ∙ run-one t (wants (in_list o none ∷ k)) (has k (many o none)) close refl;
  same = λ n h. ap (λ w. reduce t n k (many o w)) (sym e.0);
}
list-reads t m o k s r l c (inr y) z = record {
  frames = k;
  value = many o l;
  ran = ap (run t (wants k)) z ∙ run-cons t (wants k) (wants (in_list o none ∷ k)) (list o) (r ++ (close ∷ [])) refl
      ∙ run-closed t (wants (in_list o none ∷ k)) (has y.frames y.value) (has k (many o l)) r close y.ran
      (ap (λ (w : Top). close_list w.frames w.value) y.stands ∙ ends);
  same = λ n h. refl;
}
  where
    whole : snoc y.before y.last ≡ l
    whole = y.whole

    ends : close_list (in_list o y.before ∷ k) y.last ≡ has k (many o l)
    ends = rw (whole, ne_eqb (count l) 2 c) refl

choice-reads : (t : List ℕ) (m : ℕ) (k : List Frame) (s r : List Mark) (l : Trees) → branches (count l) ≡ true → Outcome t in_marked none k r l → s ≡ begin ∷ r ++ (end ∷ []) → Reads t m k s (marked l)
unfolding step close_marked join count
choice-reads t m k s r l c (inl e) z = absurd (clash (sym c ∙ ap (λ w. branches (count w)) e.0))
choice-reads t m k s r l c (inr y) z = record {
  frames = k;
  value = marked l;
  ran = ap (run t (wants k)) z ∙ run-cons t (wants k) (wants (in_marked none ∷ k)) begin (r ++ (end ∷ [])) refl
      ∙ run-closed t (wants (in_marked none ∷ k)) (has y.frames y.value) (has k (marked l)) r end y.ran
      (ap (λ (w : Top). close_marked w.frames w.value) y.stands ∙ ends);
  same = λ n h. refl;
}
  where
    whole : snoc y.before y.last ≡ l
    whole = y.whole

    ends : close_marked (in_marked y.before ∷ k) y.last ≡ has k (marked l)
    ends = rw (whole, c) refl

bracket-reads : (t : List ℕ) (m : ℕ) (k : List Frame) (s r : List Mark) (a : Tree) → Reads t 0 (bracket ∷ k) r a → s ≡ opens ∷ r ++ (shuts ∷ []) → Reads t m k s a
unfolding step close_bracket reduce
bracket-reads t m k s r a x z = record {
  frames = k;
  value = a;
  ran = ap (run t (wants k)) z ∙ run-cons t (wants k) (wants (bracket ∷ k)) opens (r ++ (shuts ∷ [])) refl
      ∙ run-closed t (wants (bracket ∷ k)) (has x.frames x.value) (has k a) r shuts x.ran (ap (λ (w : Top). close_bracket w.frames w.value) (x.same 0 zero-le));
  same = λ n h. refl;
}

-- the operation finishes what is left of it and binds at least as much; its right child is read over it
two-reads : (t : List ℕ) (m o : ℕ) (k : List Frame) (s l r : List Mark) (a b : Tree) → Blocked t m k → m ≤ prec_of t o
    → Reads t (left_level t (prec_of t o)) k l a → Reads t (right_level t (prec_of t o)) (left a o ∷ k) r b → s ≡ l ++ (between o ∷ r) → Reads t m k s (two o a b)
unfolding step
two-reads t m o k s l r a b w h x y z = record {
  frames = y.frames;
  value = y.value;
  ran = ap (run t (wants k)) z ∙ run-append t (wants k) l (between o ∷ r) ∙ ap (λ w. run t w (between o ∷ r)) x.ran
      ∙ run-cons t (has x.frames x.value) (wants (left a o ∷ k)) (between o) r pushed ∙ y.ran;
  same = λ n i. y.same n (le_trans (le_trans i h) (right-above t (prec_of t o))) ∙ reduce-left t n o k a b (le_trans i h);
}
  where
    pushed : step t (has x.frames x.value) (between o) ≡ wants (left a o ∷ k)
    pushed = ap (λ (w : Top). wants (left w.value o ∷ w.frames)) (x.same (left_level t (prec_of t o)) (le_refl _) ∙ reduce-blocked t m (prec_of t o) k a w h)

literal-reads : (t : List ℕ) (m v o : ℕ) (k : List Frame) (s : List Mark) → s ≡ literal v o ∷ [] → Reads t m k s (lit o v)
unfolding step
literal-reads t m v o k s z = record { frames = k; value = lit o v; ran = ap (run t (wants k)) z ∙ run-one t (wants k) (has k (lit o v)) (literal v o) refl; same = λ n h. refl }

mutual
  pub formula-reads : (t : List ℕ) {m : ℕ} {s : List Mark} {a : Tree} → Formula t m s a → (k : List Frame) → Blocked t m k → Reads t m k s a
  formula-reads t (aLiteral e) k b = literal-reads t _ _ _ k _ e
  formula-reads t (aTwo {o = o} {a = x} l r h f g e) k b = two-reads t _ o k _ l r x _ b h (formula-reads t f k (blocked-up t k (le_trans h (left-above t (prec_of t o))) b)) (formula-reads t g (left x o ∷ k) (le_refl _)) e
  formula-reads t (aList {o = o} r c i e) k b = list-reads t _ o k _ r _ c (items-read t i (in_list o) (in-list t o) none k) e
  formula-reads t (aChoice r c i e) k b = choice-reads t _ k _ r _ c (items-read t i in_marked (in-marked t) none k) e
  formula-reads t (brackets r f e) k b = bracket-reads t _ k _ r _ (formula-reads t f (bracket ∷ k) tt) e

  items-read : (t : List ℕ) {sep : Mark} {s : List Mark} {l : Trees} → Items t sep s l → (F : Trees → Frame) → Holds t sep F → (m : Trees) (k : List Frame) → Outcome t F m k s l
  items-read t (nothing e) F h m k = inl (refl, e)
  items-read t (single f) F h m k = inr (items-single t _ F h m k _ _ (formula-reads t f (F m ∷ k) (h.free m k)))
  items-read t (more {a = a} q r f i e) F h m k = inr (items_more t _ F h m k _ q r a _ _ (formula-reads t f (F m ∷ k) (h.free m k)) (items-read t i F h (snoc m a) k) e)

-- "Reading a written card yields the same term", and so does every formula.
pub complete : (t : List ℕ) (s : List Mark) (a : Tree) → Formula t 0 s a → read_marks t s ≡ ok a
unfolding read_marks finish reduce alone
complete t s a f =
    let r = formula-reads t f [] tt in
    ap (finish t) r.ran ∙ ap (λ (w : Top). alone w.frames w.value) (r.same 0 zero-le)

-- A text has one term.
pub unambiguous : (t : List ℕ) (s : List Mark) (a b : Tree) → Formula t 0 s a → Formula t 0 s b → a ≡ b
unambiguous t s a b f g = let e : ok a ≡ ok b = sym (complete t s a f) ∙ complete t s b g in cc
