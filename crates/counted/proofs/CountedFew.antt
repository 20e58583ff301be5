-- How many terms are counted for 13, and how many runs they have: from the number of classes, of pairs, and of rounds that improve a pair.
use Rattle.std.specs.Prelude.{◌≡◌, refl, ◌⊎◌, Bool, true, false, List, [], ◌∷◌, map, ℕ, suc, ◌+◌, ◌*◌, ◌≤◌, ◌<◌, eqb, length}
use Rattle.std.proofs.Common.{ap, inl, inr, mul-le-mul_left, arith, length-append}
use Rattle.spec.specs.Bytes.{pick, each, up_from, sum, Two}
use Rattle.spec.specs.Image.{Tables}
use Rattle.spec.specs.Meaning.{In, here, there, Term}
use Rattle.laws.specs.Valid.{Valid}
use Rattle.laws.specs.Buffers.{up-length}
use Rattle.flow.specs.Queue.{up_from-in}
use Rattle.laws.specs.Lists.{in-cons, in-nil, in_map, in-each, length-map, Distinct, none, more, pigeon}
use Rattle.laws.specs.BestMembers.{IsClass, IsPair}
use Rattle.counted.specs.Counted.{tree_runs, best_tree, marked_tree, starting_tree, term_after, Improved, Begun, Counted, best, starting, final, Beyond}
use Rattle.counted.specs.CountedRuns.{marked-runs}
use Rattle.counted.specs.CountedFew.{best-runs, Ends}

-- ---- a list in two parts
record Parted {A : Type 0} (P Q : A → Type 0) (w : A → ℕ) (l : List A) : Type 0 where
  left : List A
  right : List A
  lefts : (x : A) → In x left → P x × In x l
  rights : (x : A) → In x right → Q x × In x l
  left_apart : Distinct left
  right_apart : Distinct right
  long : length l ≡ length left + length right
  weigh : sum (map w l) ≡ sum (map w left) + sum (map w right)

part : {A : Type 0} {P Q : A → Type 0} (w : A → ℕ) (l : List A) → Distinct l → ((x : A) → In x l → P x ⊎ Q x) → Parted P Q w l
unfolding sum
part w [] d h = record { left = []; right = []; lefts = λ x i. absurd (in-nil i); rights = λ x i. absurd (in-nil i); left_apart = none; right_apart = none; long = refl; weigh = refl }
part {A} {P} {Q} w (y ∷ l) (more g d) h = go (h y here) (part w l d (λ x i. h x (there i)))
  where
    go : P y ⊎ Q y → Parted P Q w l → Parted P Q w (y ∷ l)
    go (inl p) K = record {
      left = y ∷ K.left;
      right = K.right;
      lefts = λ x i. elim (in-cons i) [ inl e ↦ rw e (p, here) | inr j ↦ let z = K.lefts x j in (z.0, there z.1) ];
      rights = λ x i. let z = K.rights x i in (z.0, there z.1);
      left_apart = more (λ i. g (K.lefts y i).1) K.left_apart;
      right_apart = K.right_apart;
      long = omega (arith, K.long);
      weigh = omega (arith, K.weigh);
    }
    go (inr q) K = record {
      left = K.left;
      right = y ∷ K.right;
      lefts = λ x i. let z = K.lefts x i in (z.0, there z.1);
      rights = λ x i. elim (in-cons i) [ inl e ↦ rw e (q, here) | inr j ↦ let z = K.rights x j in (z.0, there z.1) ];
      left_apart = K.left_apart;
      right_apart = more (λ i. g (K.rights y i).1) K.right_apart;
      long = omega (arith, K.long);
      weigh = omega (arith, K.weigh);
    }

sum-few : {A : Type 0} (w : A → ℕ) (m : ℕ) (l : List A) → ((x : A) → In x l → w x ≤ m) → sum (map w l) ≤ m * length l
unfolding sum
sum-few w m [] h = omega arith
sum-few w m (x ∷ l) h = omega (arith, h x here, sum-few w m l (λ y i. h y (there i)))

each-length : {A B : Type 0} (f : A → List B) (n : ℕ) (l : List A) → ((x : A) → In x l → length (f x) ≡ n) → length (each f l) ≡ length l * n
unfolding each
each-length f n [] h = omega arith
each-length f n (x ∷ l) h = omega (arith, length-append (f x) (each f l), h x here, each-length f n l (λ y i. h y (there i)))

-- terms of a kind D that are counted, no final one with more than w runs
module _ (t : Tables) (v : Valid t) (ps : List Two) (within : (p : Two) → In p ps → IsPair t p) (b R w : ℕ) (ends : Ends t ps b R) (D : Term → Type 0) (counts : (x : Term) → D x → Counted t ps b x)
    (runs : (x : Term) → D x → (k : ℕ) (p : Two) → In p ps → Improved t ps k p → Begun (length ps) b k → x ≡ term_after t ps (suc k) p → tree_runs x ≤ w) where
  abbrev IsBest : Term → Type 0
  IsBest x = (c : ℕ) × IsClass t c × (x ≡ best_tree t c)

  abbrev IsMarked : Term → Type 0
  IsMarked x = (p : Two) × In p ps × (x ≡ starting_tree t p) × (tree_runs x ≤ 2)

  abbrev IsFinal : Term → Type 0
  IsFinal x = (p : Two) × (k : ℕ) × In p ps × (k < R) × (x ≡ term_after t ps (suc k) p) × (tree_runs x ≤ w)

  -- the starting term of a class with itself is a best term
  abbrev Begins : Term → Type 0
  Begins x = IsBest x ⊎ IsMarked x

  which : (x : Term) → D x → Begins x ⊎ IsFinal x
  which x d = by (counts x d)
    where
      by : Counted t ps b x → Begins x ⊎ IsFinal x
      by (best c h e) = inl (inl (c, h, e))
      by (starting p i e) = inl (go (eqb p.0 p.1) e)
        where
          go : (y : Bool) → x ≡ pick y (best_tree t p.0) (marked_tree (best_tree t p.0) (best_tree t p.1)) → Begins x
          go true z = inl (p.0, (within p i).0, z)
          go false z = inr (p, i, e, rw z (marked-runs (best_tree t p.0) (best_tree t p.1)))
      by (final p k i m h e) = inr (p, k, i, ends k p i m h, e, runs x d k p i m h e)

  few-bests : (l : List Term) → Distinct l → ((x : Term) → In x l → IsBest x) → length l ≤ length t.classes
  few-bests l d h =
      let cs = up_from 0 (length t.classes) in
      omega (arith, pigeon l (map (best_tree t) cs) d (λ x i. let (c, k, e) = h x i in rw e (in_map (best_tree t) (up_from-in (length t.classes) 0 c (omega arith) (omega arith)))), length-map (best_tree t) cs, up-length (length t.classes) 0)

  few-marked : (l : List Term) → Distinct l → ((x : Term) → In x l → IsMarked x) → length l ≤ length ps
  few-marked l d h = omega (arith, pigeon l (map (starting_tree t) ps) d (λ x i. let (p, j, e, n) = h x i in rw e (in_map (starting_tree t) j)), length-map (starting_tree t) ps)

  few-finals : (l : List Term) → Distinct l → ((x : Term) → In x l → IsFinal x) → length l ≤ R * length ps
  few-finals l d h =
      omega (
        arith,
        pigeon l (each round (up_from 0 R)) d (λ x i. there-is x (h x i)),
        each-length round (length ps) (up_from 0 R) (λ k i. length-map (term_after t ps (suc k)) ps),
        ap (λ (z : ℕ). z * length ps) (up-length R 0),
      )
    where
      round : ℕ → List Term
      round k = map (term_after t ps (suc k)) ps

      there-is : (x : Term) → IsFinal x → In x (each round (up_from 0 R))
      there-is x (p, k, j, s, e, n) = in-each round (up_from 0 R) k x (up_from-in R 0 k (omega arith) (omega arith)) (rw e (in_map (term_after t ps (suc k)) j))

  -- Best terms are at most as many as classes, starting terms as pairs, and final terms as pairs in R rounds.
  pub counted-few : length t.classes + length ps * (R + 1) ≤ 16384 → 64 * length t.classes + 2 * length ps + length ps * R * w ≤ 65536 → Beyond D → ⊥
  counted-few few light B = go B.beyond
    where
      K : Parted Begins IsFinal tree_runs B.terms
      K = part tree_runs B.terms B.distinct (λ x i. which x (B.counted x i))

      L : Parted IsBest IsMarked tree_runs K.left
      L = part tree_runs K.left K.left_apart (λ x i. (K.lefts x i).0)

      bests : length L.left ≤ length t.classes
      bests = few-bests L.left L.left_apart (λ x i. (L.lefts x i).0)

      marks : length L.right ≤ length ps
      marks = few-marked L.right L.right_apart (λ x i. (L.rights x i).0)

      finals : length K.right ≤ R * length ps
      finals = few-finals K.right K.right_apart (λ x i. (K.rights x i).0)

      go : (16384 < length B.terms) ⊎ (65536 < sum (map tree_runs B.terms)) → ⊥
      go (inl h) = omega (arith, K.long, L.long, bests, marks, finals)
      go (inr h) = omega (
        arith,
        K.weigh,
        L.weigh,
        bests,
        marks,
        sum-few tree_runs 64 L.left (λ x i. let (c, k, e) = (L.lefts x i).0 in rw e (best-runs t v c k)),
        sum-few tree_runs 2 L.right (λ x i. let (p, j, e, n) = (L.rights x i).0 in n),
        sum-few tree_runs w K.right (λ x i. let (p, k, j, s, e, n) = (K.rights x i).0 in n),
        mul-le-mul_left w finals,
      )
