-- The children of a member, by their numbers in the image, and what the image's readers give of them.
use Rattle.std.proofs.Math.Path.{◌≡◌}
use Rattle.std.proofs.Common.{sym, ap, ◌∙◌, arith}
use Rattle.std.specs.Prelude.{List, ℕ, ◌+◌, ◌<◌, eqb, length, get_or}
use Rattle.std.proofs.lemmas.List.{length-map}
use Rattle.std.proofs.Math.ListN.{get_or-map}
use Rattle.spec.specs.Bytes.{Two}
use Rattle.spec.specs.Image.{Tables, arities, FREE, SPair, tables_of, kind_of, the_member, children_of}
use Rattle.spec.specs.Monomial.{classes}
use Rattle.laws.specs.Valid.{Valid}
use Rattle.laws.specs.AcceptedLists.{in-at}
use Rattle.laws.specs.AcceptedUses.{child-of-at, children-length-at, children_within}
use Rattle.image.specs.Loaded.{Loaded, the_child, operations-many, classes-many, members-many, children-many}
use Rattle.image.specs.declared.Image.{Image}

abbrev pub child_classes : Tables → ℕ → List ℕ
child_classes t m = classes (children_of t (the_member t m))

-- ---- by the tables
module _ (t : Tables) (v : Valid t) (m : ℕ) (h : m < length t.members) where
  pub many-classes : length (child_classes t m) ≡ (the_member t m).count
  many-classes = length-map (children_of t (the_member t m)) (λ (c : Two). c.0) ∙ children-length-at t v m h

  pub class-at : (k : ℕ) → k < (the_member t m).count → get_or (child_classes t m) k 0 ≡ (get_or t.children ((the_member t m).first + k) (0, 0)).0
  class-at k b = get_or-map (λ (c : Two). c.0) (children_of t (the_member t m)) k (0, 0) ∙ ap (λ (c : Two). c.0) (child-of-at t v m k (0, 0) b)

  pub class-within : (k : ℕ) → k < (the_member t m).count → get_or (child_classes t m) k 0 < length t.classes
  class-within k b =
      let e : get_or (child_classes t m) k 0 ≡ (get_or (children_of t (the_member t m)) k (0, 0)).0 = get_or-map (λ (c : Two). c.0) (children_of t (the_member t m)) k (0, 0) in
      let i = in-at (children_of t (the_member t m)) k (0, 0) (omega (arith, children-length-at t v m h)) in
      omega (arith, e, v.children.child_class m (get_or (children_of t (the_member t m)) k (0, 0)) h i)

  -- "SPair have 2"
  pub two-children : kind_of t (the_member t m).op ≡ SPair → (the_member t m).count ≡ 2
  unfolding arities
  two-children e = rw e at (v.children.arity m h) (λ z. let y : ◌≡◌ {A = ℕ} 2 FREE = z in absurd (omega arith))

-- ---- by the readers
module _ (s : List ℕ) (im : Image) (l : Loaded s im) (v : Valid (tables_of s)) where
  abbrev t : Tables
  t = tables_of s

  module _ (m : ℕ) (h : m < im.members) where
    there : m < length t.members
    there = omega (arith, members-many s im l)

    pub op-number : {o : ℕ} → o ≡ (the_member t m).op → o < im.operations
    op-number e = omega (arith, e, operations-many s im l, v.spans.operation_within m there)

    pub child-number : {f : ℕ} (k : ℕ) → f ≡ (the_member t m).first → k < (the_member t m).count → f + k < im.children
    child-number k e b = omega (arith, e, children_within t v m there, children-many s im l)

    pub class-number : {f x : ℕ} (k : ℕ) → f ≡ (the_member t m).first → k < (the_member t m).count → x ≡ (the_child t (f + k)).0 → x ≡ get_or (child_classes t m) k 0
    class-number k e b q = q ∙ ap (λ (i : ℕ). (the_child t (i + k)).0) e ∙ sym (class-at t v m there k b)

    pub class-few : {x : ℕ} (k : ℕ) → k < (the_member t m).count → x ≡ get_or (child_classes t m) k 0 → x < im.classes
    class-few k b e = omega (arith, e, class-within t v m there k b, classes-many s im l)

    pub count-number : {n : ℕ} → n ≡ (the_member t m).count → n ≡ length (child_classes t m)
    count-number e = e ∙ sym (many-classes t v m there)

    -- an SPair's two children
    module _ (two : kind_of t (the_member t m).op ≡ SPair) {f : ℕ} (e : f ≡ (the_member t m).first) where
      pub first-of-two : f < im.children
      first-of-two = omega (arith, child-number 0 e (omega (arith, two-children t v m there two)))

      pub second-of-two : f + 1 < im.children
      second-of-two = child-number 1 e (omega (arith, two-children t v m there two))

      pub twins-are : {x y : ℕ} → x ≡ (the_child t f).0 → y ≡ (the_child t (f + 1)).0 → eqb x y ≡ eqb (get_or (child_classes t m) 0 0) (get_or (child_classes t m) 1 0)
      twins-are {x} {y} p q =
          let n : (the_member t m).count ≡ 2 = two-children t v m there two in
          let z : f ≡ f + 0 = omega arith in
          let a : x ≡ get_or (child_classes t m) 0 0 = class-number 0 e (omega arith) (p ∙ ap (λ (i : ℕ). (the_child t i).0) z) in
          let b : y ≡ get_or (child_classes t m) 1 0 = class-number 1 e (omega arith) q in
          ap (λ (i : ℕ). eqb i y) a ∙ ap (λ (i : ℕ). eqb (get_or (child_classes t m) 0 0) i) b
