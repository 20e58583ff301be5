-- How many actions two members give.
use mathlib.Core.Path.{◌≡◌, refl, sym, ◌∙◌}
use mathlib.Core.Bool.{true, false}
use mathlib.Core.List.{List}
use Prim.Native.Nat.{ℕ}
use borrow.Author.Tests.{eq-eqb, ne_eqb}
use lib.Dec.{eqb}
use lib.ListN.{length, get_or}
use Rattle.spec.specs.Image.{Tables, Member, SPair, Lit, is_ac, kind_of, children_of}
use Rattle.spec.specs.Monomial.{classes}
use Rattle.spec.specs.Action.{by_position, straight_and_crossed, alignments, align_members}

-- ---- straight, and crossed where neither side's two classes are equal
module _ (o : ℕ) (xs ys : List ℕ) where
  pub ways-left : true ≡ eqb (get_or xs 0 0) (get_or xs 1 0) → 1 ≡ length (straight_and_crossed o xs ys)
  unfolding straight_and_crossed
  ways-left e = rw (← e) refl

  pub ways-right : false ≡ eqb (get_or xs 0 0) (get_or xs 1 0) → true ≡ eqb (get_or ys 0 0) (get_or ys 1 0) → 1 ≡ length (straight_and_crossed o xs ys)
  unfolding straight_and_crossed
  ways-right e f = rw (← e, ← f) refl

  pub ways-both : false ≡ eqb (get_or xs 0 0) (get_or xs 1 0) → false ≡ eqb (get_or ys 0 0) (get_or ys 1 0) → 2 ≡ length (straight_and_crossed o xs ys)
  unfolding straight_and_crossed
  ways-both e f = rw (← e, ← f) refl

-- ---- by kind
module _ (t : Tables) (a b : Member) where
  pub other-op : (b.op ≡ a.op → ⊥) → 0 ≡ length (align_members t a b)
  unfolding align_members
  other-op n = rw (ne_eqb a.op b.op (λ e. n (sym e)), align_members) refl

  module _ {k : ℕ} (kind : k ≡ kind_of t a.op) (same : b.op ≡ a.op) where
    by_kind : align_members t a b ≡ alignments k a.op (classes (children_of t a)) (classes (children_of t b))
    unfolding align_members
    by_kind = rw (eq-eqb a.op b.op (sym same), align_members, kind) refl

    pub spair-many : {n : ℕ} → k ≡ SPair → n ≡ length (straight_and_crossed a.op (classes (children_of t a)) (classes (children_of t b))) → n ≡ length (align_members t a b)
    unfolding alignments
    spair-many e f = f ∙ sym (rw (by_kind, alignments, eq-eqb k SPair e) refl)

    module _ (n : k ≡ SPair → ⊥) where
      pub ac-many : true ≡ is_ac k → 0 ≡ length (align_members t a b)
      unfolding alignments
      ac-many e = rw (by_kind, alignments, ne_eqb k SPair n, ← e) refl

      module _ (f : false ≡ is_ac k) where
        pub lit-many : k ≡ Lit → 0 ≡ length (align_members t a b)
        unfolding alignments
        lit-many e = rw (by_kind, alignments, ne_eqb k SPair n, ← f, eq-eqb k Lit e) refl

        module _ (g : k ≡ Lit → ⊥) where
          pub unequal-many : (length (classes (children_of t a)) ≡ length (classes (children_of t b)) → ⊥) → 0 ≡ length (align_members t a b)
          unfolding alignments by_position
          unequal-many e = rw (by_kind, alignments, ne_eqb k SPair n, ← f, ne_eqb k Lit g, by_position, ne_eqb _ _ e) refl

          pub equal-many : length (classes (children_of t a)) ≡ length (classes (children_of t b)) → 1 ≡ length (align_members t a b)
          unfolding alignments by_position
          equal-many e = rw (by_kind, alignments, ne_eqb k SPair n, ← f, ne_eqb k Lit g, by_position, eq-eqb _ _ e) refl
