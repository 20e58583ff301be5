-- What each action of two members joins.
use mathlib.Core.Path.{◌≡◌, refl, sym, ap, ◌∙◌}
use mathlib.Core.Bool.{Bool, true, false}
use mathlib.Core.List.{List, [], ◌∷◌}
use Prim.Native.Nat.{ℕ, zero, suc, ◌-◌, ◌<◌}
use native.Mathlib.Nat.{not-suc-le-zero, le_of_suc-le-suc, suc_inj}
use native.Mathlib.Omega.{arith}
use borrow.Author.Tests.{eqb-true}
use lib.Dec.{eqb}
use lib.ListN.{length, get_or}
use Rattle.spec.specs.Bytes.{Two, pick, either}
use Rattle.spec.specs.Image.{Tables, SPair, Lit, is_ac, kind_of, the_member}
use Rattle.spec.specs.Action.{Action, zip, by_position, straight_and_crossed, alignments, align_members}
use Rattle.laws.specs.Valid.{Valid}
use Rattle.alignment.specs.Members.{child_classes, many-classes, two-children}

pub record Joined (o n : ℕ) (xs ys : List ℕ) (x : Action) : Type 0 where
  pub op : x.op ≡ o
  pub many : length x.pairs ≡ length xs
  pub same : length xs ≡ length ys
  pub left : (k : ℕ) → k < length xs → (get_or x.pairs k (0, 0)).0 ≡ get_or xs k 0
  pub straight : n ≡ 0 → (k : ℕ) → k < length xs → (get_or x.pairs k (0, 0)).1 ≡ get_or ys k 0
  pub crossed : (n ≡ 0 → ⊥) → (length xs ≡ 2) × ((k : ℕ) → k < 2 → (get_or x.pairs k (0, 0)).1 ≡ get_or ys (1 - k) 0)

zip_length : (xs ys : List ℕ) → length xs ≡ length ys → length (zip xs ys) ≡ length xs
unfolding zip
zip_length [] ys e = refl
zip_length (x ∷ xs) [] e = sym e
zip_length (x ∷ xs) (y ∷ ys) e = ap suc (zip_length xs ys (suc_inj e))

zip-at : (xs ys : List ℕ) (k : ℕ) → length xs ≡ length ys → k < length xs → get_or (zip xs ys) k (0, 0) ≡ (get_or xs k 0, get_or ys k 0)
unfolding zip
zip-at [] ys k e h = absurd (not-suc-le-zero h)
zip-at (x ∷ xs) [] k e h = absurd (omega arith)
zip-at (x ∷ xs) (y ∷ ys) zero e h = refl
zip-at (x ∷ xs) (y ∷ ys) (suc k) e h = zip-at xs ys k (suc_inj e) (le_of_suc-le-suc h)

two-left : (xs : List ℕ) (c d k : ℕ) → k < 2 → (get_or {A = Two} ((get_or xs 0 0, c) ∷ (get_or xs 1 0, d) ∷ []) k (0, 0)).0 ≡ get_or xs k 0
two-left xs c d zero h = refl
two-left xs c d (suc zero) h = refl
two-left xs c d (suc (suc k)) h = absurd (omega arith)

two-straight : (ys : List ℕ) (a b k : ℕ) → k < 2 → (get_or {A = Two} ((a, get_or ys 0 0) ∷ (b, get_or ys 1 0) ∷ []) k (0, 0)).1 ≡ get_or ys k 0
two-straight ys a b zero h = refl
two-straight ys a b (suc zero) h = refl
two-straight ys a b (suc (suc k)) h = absurd (omega arith)

two-crossed : (ys : List ℕ) (a b k : ℕ) → k < 2 → (get_or {A = Two} ((a, get_or ys 1 0) ∷ (b, get_or ys 0 0) ∷ []) k (0, 0)).1 ≡ get_or ys (1 - k) 0
two-crossed ys a b zero h = refl
two-crossed ys a b (suc zero) h = refl
two-crossed ys a b (suc (suc k)) h = absurd (omega arith)

module _ (o : ℕ) (xs ys : List ℕ) where
  abbrev Joins : ℕ → List Action → Type 0
  Joins n l = n < length l → Joined o n xs ys (get_or l n (record { op = 0; pairs = [] }))

  position-joins : (n : ℕ) (b : Bool) → eqb (length xs) (length ys) ≡ b → Joins n (pick b (record { op = o; pairs = zip xs ys } ∷ []) [])
  position-joins n false q = λ h. absurd (not-suc-le-zero h)
  position-joins zero true q = λ h.
      let e : length xs ≡ length ys = eqb-true _ _ q in
      record {
        op = refl;
        many = zip_length xs ys e;
        same = e;
        left = λ k b. ap (λ (p : Two). p.0) (zip-at xs ys k e b);
        straight = λ z k b. ap (λ (p : Two). p.1) (zip-at xs ys k e b);
        crossed = λ z. absurd (z refl);
      }
  position-joins (suc n) true q = λ h. absurd (omega arith)

  module _ (ex : length xs ≡ 2) (ey : length ys ≡ 2) where
    straight-joined : Joined o 0 xs ys (record { op = o; pairs = (get_or xs 0 0, get_or ys 0 0) ∷ (get_or xs 1 0, get_or ys 1 0) ∷ [] })
    straight-joined = record {
      op = refl;
      many = sym ex;
      same = ex ∙ sym ey;
      left = λ k b. two-left xs _ _ k (omega arith);
      straight = λ z k b. two-straight ys _ _ k (omega arith);
      crossed = λ z. absurd (z refl);
    }

    crossed-joined : Joined o 1 xs ys (record { op = o; pairs = (get_or xs 0 0, get_or ys 1 0) ∷ (get_or xs 1 0, get_or ys 0 0) ∷ [] })
    crossed-joined = record {
      op = refl;
      many = sym ex;
      same = ex ∙ sym ey;
      left = λ k b. two-left xs _ _ k (omega arith);
      straight = λ z. absurd (let y : ◌≡◌ {A = ℕ} 1 0 = z in omega arith);
      crossed = λ z. (ex, λ k b. two-crossed ys _ _ k b);
    }

    spair-joins : (n : ℕ) (b : Bool) → Joins n (record { op = o; pairs = (get_or xs 0 0, get_or ys 0 0) ∷ (get_or xs 1 0, get_or ys 1 0) ∷ [] } ∷ pick b [] (record { op = o; pairs = (get_or xs 0 0, get_or ys 1 0) ∷ (get_or xs 1 0, get_or ys 0 0) ∷ [] } ∷ []))
    spair-joins zero b = λ h. straight-joined
    spair-joins (suc n) true = λ h. absurd (omega arith)
    spair-joins (suc zero) false = λ h. crossed-joined
    spair-joins (suc (suc n)) false = λ h. absurd (omega arith)

  kind-joins : (n : ℕ) (p q : Bool) → (p ≡ true → (length xs ≡ 2) × (length ys ≡ 2)) → Joins n (pick p (straight_and_crossed o xs ys) (pick q [] (by_position o xs ys)))
  unfolding straight_and_crossed by_position
  kind-joins n true q two = let (ex, ey) = two refl in spair-joins ex ey n (either (eqb (get_or xs 0 0) (get_or xs 1 0)) (eqb (get_or ys 0 0) (get_or ys 1 0)))
  kind-joins n false true two = λ h. absurd (not-suc-le-zero h)
  kind-joins n false false two = position-joins n (eqb (length xs) (length ys)) refl

  pub alignments-join : (n kind : ℕ) → (kind ≡ SPair → (length xs ≡ 2) × (length ys ≡ 2)) → Joins n (alignments kind o xs ys)
  unfolding alignments
  alignments-join n kind two = kind-joins n (eqb kind SPair) (either (is_ac kind) (eqb kind Lit)) (λ e. two (eqb-true _ _ e))

test-joins : (o : ℕ) (xs ys : List ℕ) (n : ℕ) (b : Bool) (l : List Action) → (b ≡ true → Joins o xs ys n l) → Joins o xs ys n (elim b [ true ↦ l | false ↦ [] ])
test-joins o xs ys n true l f = f refl
test-joins o xs ys n false l f = λ h. absurd (not-suc-le-zero h)

module _ (t : Tables) (v : Valid t) (a b : ℕ) (ha : a < length t.members) (hb : b < length t.members) where
  pub members-join : (n : ℕ) → n < length (align_members t (the_member t a) (the_member t b))
      → Joined (the_member t a).op n (child_classes t a) (child_classes t b) (get_or (align_members t (the_member t a) (the_member t b)) n (record { op = 0; pairs = [] }))
  unfolding align_members
  members-join n = test-joins (the_member t a).op (child_classes t a) (child_classes t b) n (eqb (the_member t a).op (the_member t b).op) _ (λ e.
      alignments-join (the_member t a).op (child_classes t a) (child_classes t b) n (kind_of t (the_member t a).op) (λ s. (
        many-classes t v a ha ∙ two-children t v a ha s,
        many-classes t v b hb ∙ two-children t v b hb (ap (kind_of t) (sym (eqb-true _ _ e)) ∙ s),
      )))
