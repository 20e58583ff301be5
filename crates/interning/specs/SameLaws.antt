-- An entry against a node: its runs one by one, and its numbers.
use Rattle.std.specs.Prelude.{◌≡◌, ◌≢◌, refl, Bool, true, false, List, [], ◌∷◌, ◌++◌, map, ℕ, suc, ◌+◌, ◌-◌, ◌/◌, ◌%◌, ◌<◌, ◌≤◌, length, get_or, take, drop}
use Rattle.std.specs.Bool.{MatchBool}
use Rattle.std.proofs.Common.{sym, ap, ap₂, ◌∙◌, arith, get_or-drop, length-drop}
use Rattle.spec.specs.Bytes.{Two}
use Rattle.spec.specs.Pool.{Node}
use Rattle.terms.specs.Buffers.{part, unpack, node_of, node_in, part_in, length_in, first_in, head_in, value_in}
use Rattle.terms.specs.PartLaws.{part_length, part_at, part-cong, part-snoc, part-take}
use Rattle.interning.specs.Interning.{Tells}

-- a turn of the comparison
pub parts_more : (l m : List ℕ) (a i : ℕ) → part l a i ≡ part m 0 i → get_or l (a + i) 0 ≡ get_or m i 0 → part l a (i + 1) ≡ part m 0 (i + 1)
parts_more l m a i e f = let s : i + 1 ≡ suc i = omega arith in rw s (part-snoc l a i ∙ ap₂ (λ (t : List ℕ) (x : ℕ). t ++ (x ∷ [])) e (f ∙ ap (λ (z : ℕ). get_or m z 0) (omega arith)) ∙ sym (part-snoc m 0 i))

pub parts-differ : (l m : List ℕ) (a n i : ℕ) → i < n → (get_or l (a + i) 0 ≡ get_or m i 0 → ⊥) → part l a n ≡ part m 0 n → ⊥
parts-differ l m a n i h d e = let z : 0 + i ≡ i = omega arith in d (sym (part_at l a n i h) ∙ ap (λ (t : List ℕ). get_or t i 0) e ∙ rw z at (part_at m 0 n i h))

pub parts_all : (l m : List ℕ) (a n i : ℕ) → i ≡ n → part l a i ≡ part m 0 i → part l a n ≡ part m 0 n
parts_all l m a n i h e = rw h at e

pub parts_none : (l m : List ℕ) (a : ℕ) → part l a 0 ≡ part m 0 0
unfolding part
parts_none l m a = refl

-- the comparison of the parts themselves
part-between : (l : List ℕ) (a n : ℕ) → a + n ≤ length l → part l a n ≡ take n (drop a l)
part-between l a n h = part-cong l (drop a l) a 0 n (λ i k. let z : 0 + i ≡ i = omega arith in rw z (sym (get_or-drop a l i 0))) ∙ part-take (drop a l) n (omega (arith, length-drop a l))

pub parts-told : (l m : List ℕ) (a n : ℕ) (r : Bool) → a + n ≤ length l → n ≤ length m → MatchBool r (take n (drop a l) ≡ take n m) (take n (drop a l) ≢ take n m) → Tells r (part l a n ≡ part m 0 n)
parts-told l m a n true h k e = part-between l a n h ∙ e ∙ sym (part-take m n k)
parts-told l m a n false h k d = λ e. d (sym (part-between l a n h) ∙ e ∙ part-take m n k)

-- the lengths
pub sub_same : {a b c d : ℕ} → a ≡ b → c ≡ d → a - c ≡ b - d
sub_same e f = rw (e, f) refl

-- ---- a node's numbers can be read off the node
split-inj : (x y : ℕ) → x / 64 ≡ y / 64 → x % 64 ≡ y % 64 → x ≡ y
split-inj x y e f = omega arith

unpack-inj : (x y : ℕ) → unpack x ≡ unpack y → x ≡ y
unpack-inj x y e = let f : x % 16384 ≡ y % 16384 = ap (λ (r : Two). r.0) e in let g : x / 16384 ≡ y / 16384 = ap (λ (r : Two). r.1) e in omega arith

unpacks-inj : (l m : List ℕ) → map unpack l ≡ map unpack m → l ≡ m
unpacks-inj [] [] e = refl
unpacks-inj [] (y ∷ m) e = cc
unpacks-inj (x ∷ l) [] e = cc
unpacks-inj (x ∷ l) (y ∷ m) e = ap₂ (λ (a : ℕ) (t : List ℕ). a ∷ t) (unpack-inj x y (first e)) (unpacks-inj l m (rest e))
  where
    first : unpack x ∷ map unpack l ≡ unpack y ∷ map unpack m → unpack x ≡ unpack y
    first q = cc

    rest : unpack x ∷ map unpack l ≡ unpack y ∷ map unpack m → map unpack l ≡ map unpack m
    rest q = cc

pub node-numbers : (h v : ℕ) (l : List ℕ) (h' v' : ℕ) (l' : List ℕ) → node_of h v l ≡ node_of h' v' l' → (h ≡ h') × (v ≡ v') × (l ≡ l')
node-numbers h v l h' v' l' e =
    (split-inj h h' (ap (λ (n : Node). n.head) e) (ap (λ (n : Node). n.op) e), ap (λ (n : Node). n.value) e, unpacks-inj l l' (ap (λ (n : Node). n.runs) e))

-- ---- an entry against a node with head h, value v and the n runs of list
module _ (terms runs : List ℕ) (t : ℕ) (list : List ℕ) (n h v : ℕ) where
  pub not-head : (head_in terms t ≡ h → ⊥) → node_in terms runs t ≡ node_of h v (part list 0 n) → ⊥
  not-head d e = d (node-numbers _ _ (part_in terms runs t) _ _ (part list 0 n) e).0

  pub not-value : (value_in terms t ≡ v → ⊥) → node_in terms runs t ≡ node_of h v (part list 0 n) → ⊥
  not-value d e = d (node-numbers _ _ (part_in terms runs t) _ _ (part list 0 n) e).1

  pub not-length : (length_in terms t ≡ n → ⊥) → node_in terms runs t ≡ node_of h v (part list 0 n) → ⊥
  not-length d e = d (sym (part_length runs (first_in terms t) (length_in terms t)) ∙ ap length (node-numbers _ _ (part_in terms runs t) _ _ (part list 0 n) e).2 ∙ part_length list 0 n)

  pub as-runs : (r : Bool) → head_in terms t ≡ h → value_in terms t ≡ v → length_in terms t ≡ n → Tells r (part runs (first_in terms t) n ≡ part list 0 n)
      → Tells r (node_in terms runs t ≡ node_of h v (part list 0 n))
  as-runs true a b c e = rw (a, b, c, e) refl
  as-runs false a b c d = λ e. d (sym (ap (λ (k : ℕ). part runs (first_in terms t) k) c) ∙ (node-numbers _ _ (part_in terms runs t) _ _ (part list 0 n) e).2)
