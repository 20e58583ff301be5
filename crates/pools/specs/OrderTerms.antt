-- The order of terms on expanded child lists: "head's rank, operation, value, length, then the children from the left". At every fuel it can be reversed and is transitive.
use Rattle.std.specs.Prelude.{◌≡◌, Bool, true, false, ℕ, zero, suc, ◌<◌, ltb, eqb, length}
use Rattle.std.proofs.Math.Path.{refl}
use Rattle.std.proofs.Common.{sym, ap, ap₂, ◌∙◌, arith, ltb-true, ltb-false, eqb-true, lt-ltb, le-ltb, eq-eqb, ne_eqb}
use mathlib.Core.List.{List, [], ◌∷◌, map}
use Rattle.std.proofs.lemmas.Bool.{eqb-false}
use Rattle.spec.specs.Bytes.{pick}
use Rattle.spec.specs.Pool.{OP, LIT, VARIANTS, Order, less, equal, greater, compareℕ, then}
use Rattle.spec.specs.Meaning.{In, here, there, Term, lit, node, variants, expand}

-- ---- a term's parts
abbrev pub head_of : Term → ℕ
head_of (lit o v) = LIT
head_of (node o r) = OP
head_of (variants r) = VARIANTS

abbrev pub op_of : Term → ℕ
op_of (lit o v) = o
op_of (node o r) = o
op_of (variants r) = 0

abbrev pub value_of : Term → ℕ
value_of (lit o v) = v
value_of (node o r) = 0
value_of (variants r) = 0

-- the child list, every run written out
unfoldable pub expanded_children : Term → List Term
unfolding expand
expanded_children (lit o v) = []
expanded_children (node o r) = expand r
expanded_children (variants r) = expand r

-- from the left; a list before a longer one that it begins
unfoldable pub lex : {A : Type 0} → (A → A → Order) → List A → List A → Order
lex cmp [] [] = equal
lex cmp [] (y ∷ m) = less
lex cmp (x ∷ l) [] = greater
lex cmp (x ∷ l) (y ∷ m) = then (cmp x y) (lex cmp l m)

-- `structural_cmp` "as it does on the expanded lists". Fuel: above the depth.
unfoldable pub term_cmp : ℕ → Term → Term → Order
unfolding expanded_children lex
term_cmp zero s t = equal
term_cmp (suc f) s t =
    then (compareℕ (head_of s) (head_of t))
    (then (compareℕ (op_of s) (op_of t))
    (then (compareℕ (value_of s) (value_of t))
    (then (compareℕ (length (expanded_children s)) (length (expanded_children t))) (lex (term_cmp f) (expanded_children s) (expanded_children t)))))

-- ---- reversed
abbrev pub flip : Order → Order
flip less = greater
flip equal = equal
flip greater = less

pub flip-then : (x y : Order) → flip (then x y) ≡ then (flip x) (flip y)
flip-then less y = refl
flip-then equal y = refl
flip-then greater y = refl

-- what comparing two numbers says
pub data Compared (a b : ℕ) : Order → Type 0 where
  below : a < b → Compared a b less
  same : a ≡ b → Compared a b equal
  above : b < a → Compared a b greater

pub compared : (a b : ℕ) → Compared a b (compareℕ a b)
compared a b = go (ltb a b) refl (eqb a b) refl
  where
    go : (x : Bool) → ltb a b ≡ x → (y : Bool) → eqb a b ≡ y → Compared a b (pick x less (pick y equal greater))
    go true p y q = below (ltb-true a b p)
    go false p true q = same (eqb-true a b q)
    go false p false q = above (let h = ltb-false a b p in let n : (a ≡ b → ⊥) = eqb-false a b q in omega arith)

compare-less : (a b : ℕ) → a < b → compareℕ a b ≡ less
compare-less a b h = rw (lt-ltb a b h) refl

compare-equal : (a b : ℕ) → a ≡ b → compareℕ a b ≡ equal
compare-equal a b h = rw (le-ltb a b (omega arith), eq-eqb a b h) refl

compare-greater : (a b : ℕ) → b < a → compareℕ a b ≡ greater
compare-greater a b h = rw (le-ltb a b (omega arith), ne_eqb a b (λ e. omega arith)) refl

pub compare-flip : (a b : ℕ) → compareℕ b a ≡ flip (compareℕ a b)
compare-flip a b = go (compareℕ a b) (compared a b)
  where
    go : (o : Order) → Compared a b o → compareℕ b a ≡ flip o
    go less (below h) = compare-greater b a h
    go equal (same h) = compare-equal b a (sym h)
    go greater (above h) = compare-less b a h

pub compare_same : (a b : ℕ) → compareℕ a b ≡ equal → a ≡ b
compare_same a b e = go (compareℕ a b) (compared a b) e
  where
    go : (o : Order) → Compared a b o → o ≡ equal → a ≡ b
    go less (below h) e = cc
    go equal (same h) e = h
    go greater (above h) e = cc

-- ---- transitive: what x of (a, b) and y of (b, c) say of z of (a, c)
abbrev pub Tri : Order → Order → Order → Type 0
Tri equal y z = z ≡ y
Tri less equal z = z ≡ less
Tri less less z = z ≡ less
Tri less greater z = Unit
Tri greater equal z = z ≡ greater
Tri greater greater z = z ≡ greater
Tri greater less z = Unit

tri-less : (x : Order) → Tri x less less
tri-less equal = refl
tri-less less = refl
tri-less greater = tt

tri-greater : (x : Order) → Tri x greater greater
tri-greater equal = refl
tri-greater less = tt
tri-greater greater = refl

less-tri : (y : Order) → Tri less y less
less-tri equal = refl
less-tri less = refl
less-tri greater = tt

greater-tri : (y : Order) → Tri greater y greater
greater-tri equal = refl
greater-tri less = tt
greater-tri greater = refl

pub tri-then : (x y z x' y' z' : Order) → Tri x y z → Tri x' y' z' → Tri (then x x') (then y y') (then z z')
tri-then equal equal z x' y' z' e t = rw e t
tri-then equal less z x' y' z' e t = rw e (tri-less x')
tri-then equal greater z x' y' z' e t = rw e (tri-greater x')
tri-then less equal z x' y' z' e t = rw e (less-tri y')
tri-then less less z x' y' z' e t = rw e refl
tri-then less greater z x' y' z' e t = tt
tri-then greater equal z x' y' z' e t = rw e (greater-tri y')
tri-then greater less z x' y' z' e t = tt
tri-then greater greater z x' y' z' e t = rw e refl

pub compare-tri : (a b c : ℕ) → Tri (compareℕ a b) (compareℕ b c) (compareℕ a c)
compare-tri a b c = go (compareℕ a b) (compareℕ b c) (compared a b) (compared b c)
  where
    go : (x y : Order) → Compared a b x → Compared b c y → Tri x y (compareℕ a c)
    go equal y (same h) k = ap (λ (z : ℕ). compareℕ z c) h ∙ whole y k
      where
        whole : (y : Order) → Compared b c y → compareℕ b c ≡ y
        whole less (below i) = compare-less b c i
        whole equal (same i) = compare-equal b c i
        whole greater (above i) = compare-greater b c i
    go less less (below h) (below k) = compare-less a c (omega arith)
    go less equal (below h) (same k) = compare-less a c (omega arith)
    go less greater (below h) (above k) = tt
    go greater less (above h) (below k) = tt
    go greater equal (above h) (same k) = compare-greater a c (omega arith)
    go greater greater (above h) (above k) = compare-greater a c (omega arith)

-- ---- lists
module _ {A : Type 0} (cmp : A → A → Order) where
  pub lex-flip : ((s t : A) → cmp t s ≡ flip (cmp s t)) → (l m : List A) → lex cmp m l ≡ flip (lex cmp l m)
  unfolding lex
  lex-flip h [] [] = refl
  lex-flip h [] (y ∷ m) = refl
  lex-flip h (x ∷ l) [] = refl
  lex-flip h (x ∷ l) (y ∷ m) = rw (h x y, lex-flip h l m) (sym (flip-then (cmp x y) (lex cmp l m)))

  pub lex-tri : ((s t u : A) → Tri (cmp s t) (cmp t u) (cmp s u)) → (l m k : List A) → Tri (lex cmp l m) (lex cmp m k) (lex cmp l k)
  unfolding lex
  lex-tri h [] [] [] = refl
  lex-tri h [] [] (z ∷ k) = refl
  lex-tri h [] (y ∷ m) [] = tt
  lex-tri h [] (y ∷ m) (z ∷ k) = less-tri (then (cmp y z) (lex cmp m k))
  lex-tri h (x ∷ l) [] [] = refl
  lex-tri h (x ∷ l) [] (z ∷ k) = tt
  lex-tri h (x ∷ l) (y ∷ m) [] = tri-greater (then (cmp x y) (lex cmp l m))
  lex-tri h (x ∷ l) (y ∷ m) (z ∷ k) = tri-then (cmp x y) (cmp y z) (cmp x z) _ _ _ (h x y z) (lex-tri h l m k)

pub lex_map : {A B : Type 0} (cmp : A → A → Order) (f : B → A) (l m : List B) → lex cmp (map f l) (map f m) ≡ lex (λ x y. cmp (f x) (f y)) l m
unfolding lex
lex_map cmp f [] [] = refl
lex_map cmp f [] (y ∷ m) = refl
lex_map cmp f (x ∷ l) [] = refl
lex_map cmp f (x ∷ l) (y ∷ m) = ap (then (cmp (f x) (f y))) (lex_map cmp f l m)

pub lex-agree : {A : Type 0} (cmp other : A → A → Order) (l m : List A) → ((x y : A) → In x l → In y m → cmp x y ≡ other x y) → lex cmp l m ≡ lex other l m
unfolding lex
lex-agree cmp other [] [] h = refl
lex-agree cmp other [] (y ∷ m) h = refl
lex-agree cmp other (x ∷ l) [] h = refl
lex-agree cmp other (x ∷ l) (y ∷ m) h = ap₂ then (h x y here here) (lex-agree cmp other l m (λ a b i j. h a b (there i) (there j)))

pub then_equal : (a b : Order) → then a b ≡ equal → (a ≡ equal) × (b ≡ equal)
then_equal less b e = (e, let z : less ≡ equal = e in cc)
then_equal equal b e = (refl, e)
then_equal greater b e = (e, let z : greater ≡ equal = e in cc)

-- lists that compare as equal are equal, if their entries are
pub lex-same : {A : Type 0} (cmp : A → A → Order) (l m : List A) → ((x y : A) → In x l → In y m → cmp x y ≡ equal → x ≡ y) → lex cmp l m ≡ equal → l ≡ m
unfolding lex
lex-same cmp [] [] h e = refl
lex-same cmp [] (y ∷ m) h e = cc
lex-same cmp (x ∷ l) [] h e = cc
lex-same {A} cmp (x ∷ l) (y ∷ m) h e =
    let (a, b) = then_equal (cmp x y) (lex cmp l m) e in
    ap₂ (λ (z : A) (k : List A). z ∷ k) (h x y here here a) (lex-same cmp l m (λ z k i j. h z k (there i) (there j)) b)

-- ---- terms
pub term-flip : (f : ℕ) (s t : Term) → term_cmp f t s ≡ flip (term_cmp f s t)
unfolding term_cmp
term-flip zero s t = refl
term-flip (suc f) s t =
    turn (compareℕ (head_of s) (head_of t)) _ _ _ (compare-flip (head_of s) (head_of t))
    (turn (compareℕ (op_of s) (op_of t)) _ _ _ (compare-flip (op_of s) (op_of t))
    (turn (compareℕ (value_of s) (value_of t)) _ _ _ (compare-flip (value_of s) (value_of t))
    (turn (compareℕ (length (expanded_children s)) (length (expanded_children t))) _ _ _ (compare-flip (length (expanded_children s)) (length (expanded_children t)))
    (lex-flip (term_cmp f) (λ a b. term-flip f a b) (expanded_children s) (expanded_children t)))))
  where
    turn : (x y x' y' : Order) → x' ≡ flip x → y' ≡ flip y → then x' y' ≡ flip (then x y)
    turn x y x' y' e k = ap₂ then e k ∙ sym (flip-then x y)

pub term-tri : (f : ℕ) (s t u : Term) → Tri (term_cmp f s t) (term_cmp f t u) (term_cmp f s u)
unfolding term_cmp
term-tri zero s t u = refl
term-tri (suc f) s t u =
    tri-then (compareℕ (head_of s) (head_of t)) (compareℕ (head_of t) (head_of u)) (compareℕ (head_of s) (head_of u)) _ _ _ (compare-tri (head_of s) (head_of t) (head_of u))
    (tri-then (compareℕ (op_of s) (op_of t)) (compareℕ (op_of t) (op_of u)) (compareℕ (op_of s) (op_of u)) _ _ _ (compare-tri (op_of s) (op_of t) (op_of u))
    (tri-then (compareℕ (value_of s) (value_of t)) (compareℕ (value_of t) (value_of u)) (compareℕ (value_of s) (value_of u)) _ _ _ (compare-tri (value_of s) (value_of t) (value_of u))
    (tri-then (compareℕ (length (expanded_children s)) (length (expanded_children t))) (compareℕ (length (expanded_children t)) (length (expanded_children u))) (compareℕ (length (expanded_children s)) (length (expanded_children u))) _ _ _ (compare-tri (length (expanded_children s)) (length (expanded_children t)) (length (expanded_children u)))
    (lex-tri (term_cmp f) (λ a b c. term-tri f a b c) (expanded_children s) (expanded_children t) (expanded_children u)))))

pub term-refl : (f : ℕ) (s : Term) → term_cmp f s s ≡ equal
term-refl f s = go (term_cmp f s s) (term-flip f s s)
  where
    go : (o : Order) → o ≡ flip o → o ≡ equal
    go less e = cc
    go equal e = refl
    go greater e = cc
