-- The rules in the order of the table of refusals: what each way out of the verdict stands for.
use mathlib.Core.Path.{◌≡◌, refl, ap, ◌∙◌}
use mathlib.Core.Bool.{Bool, true, false}
use mathlib.Core.List.{List}
use Prim.Native.Nat.{ℕ, ◌+◌, ◌*◌, ◌<◌, ◌≤◌, ◌^◌}
use native.Mathlib.Omega.{arith}
use borrow.Author.Tests.{le-leb, lt-leb, eq-eqb, ne_eqb}
use lib.Dec.{leb, eqb}
use lib.ListN.{length, get_or}
use Rattle.spec.specs.Bytes.{Res, refused, ok, all, both, within, be4}
use Rattle.spec.specs.Image.{Tables, HEADER, OPERATIONS, CLASSES, MEMBERS, CHILDREN, CHILD-BYTES, counts_right, operation_right, spans_right, children_right, best_right, literals_apart, tables_of, tables_rules, image_of, image_end, operation_count, class_count, member_count, child_count}
use Rattle.laws.specs.AcceptedRules.{counts-rule}
use Rattle.laws.specs.Entries.{operations-length, classes-length, members-length, children-length}
use Rattle.image.specs.Layout.{layout_of}
use Rattle.image.specs.Loaded.{Loaded, loaded}
use Rattle.image.specs.declared.Image.{Image}
use Rattle.judge.specs.Verdict.{counts_within, header_of}

pub within_low : (low high x : ℕ) → x < low → false ≡ within low high x
within_low low high x h = rw (lt-leb low x h) refl

pub within-high : (low high x : ℕ) → low ≤ x → leb x high ≡ within low high x
within-high low high x h = rw (le-leb low x h) refl

pub header_is : (s : List ℕ) {a b c d : ℕ} {r : Image} → a ≡ operation_count s → b ≡ class_count s → c ≡ member_count s → d ≡ child_count s
    → r ≡ layout_of a b c d → r ≡ header_of s
header_is s p q v w e = rw (← p, ← q, ← v, ← w) e

-- a struct that is the header's layout
module _ (s : List ℕ) {im : Image} (e : im ≡ header_of s) where
  pub counts-are : {r : Bool} → r ≡ counts_within im → r ≡ counts_right s
  counts-are h = h ∙ ap counts_within e

  pub end_is : im.child0 + im.children * CHILD-BYTES ≡ image_end s
  end_is = ap (λ (x : Image). x.child0 + x.children * CHILD-BYTES) e

  pub header-loaded : image_end s ≡ length s → Loaded s im
  header-loaded h = rw e (loaded s (omega arith))

-- ---- 4, count after count
pub operations-out : (im : Image) → within 1 OPERATIONS im.operations ≡ false → false ≡ counts_within im
operations-out im h = rw h refl

module _ (im : Image) (operations : within 1 OPERATIONS im.operations ≡ true) where
  pub classes-out : within 1 CLASSES im.classes ≡ false → false ≡ counts_within im
  classes-out h = rw (operations, h) refl

  module _ (classes : within 1 CLASSES im.classes ≡ true) where
    pub members-out : within 1 MEMBERS im.members ≡ false → false ≡ counts_within im
    members-out h = rw (operations, classes, h) refl

    pub children-left : {r : Bool} → within 1 MEMBERS im.members ≡ true → r ≡ within 0 CHILDREN im.children → r ≡ counts_within im
    children-left h e = rw (operations, classes, h) e

-- the tables of counts within their limits are small
pub end-small : (s : List ℕ) → counts_right s ≡ true → image_end s < 2 ^ 63
end-small s e =
    let v = (counts-rule s).0 e in
    let a : operation_count s ≤ 64 = omega (arith, v.few_operations, operations-length s) in
    let b : class_count s ≤ 256 = omega (arith, v.few_classes, classes-length s) in
    let c : member_count s ≤ 1024 = omega (arith, v.few_members, members-length s) in
    let d : child_count s ≤ 4096 = omega (arith, v.few_children, children-length s) in omega arith

pub members-few : (s : List ℕ) {im : Image} → im ≡ header_of s → counts_right s ≡ true → im.members < 65536
members-few s e h =
    let v = (counts-rule s).0 h in
    let c : member_count s ≤ 1024 = omega (arith, v.few_members, members-length s) in
    omega (arith, ap (λ (x : Image). x.members) e)

-- ---- 6 to 10, rule after rule
pub operations-refused : (t : Tables) → all (operation_right (length t.classes)) t.operations ≡ false → refused 6 ≡ tables_rules t
unfolding tables_rules
operations-refused t h = rw h refl

module _ (t : Tables) (six : all (operation_right (length t.classes)) t.operations ≡ true) where
  pub spans-refused : spans_right t ≡ false → refused 7 ≡ tables_rules t
  unfolding tables_rules
  spans-refused h = rw (six, h) refl

  module _ (seven : spans_right t ≡ true) where
    pub children-refused : children_right t ≡ false → refused 8 ≡ tables_rules t
    unfolding tables_rules
    children-refused h = rw (six, seven, h) refl

    module _ (eight : children_right t ≡ true) where
      pub bests-refused : all (best_right t) t.classes ≡ false → refused 9 ≡ tables_rules t
      unfolding tables_rules
      bests-refused h = rw (six, seven, eight, h) refl

      module _ (nine : all (best_right t) t.classes ≡ true) where
        pub literals-refused : literals_apart t t.classes ≡ false → refused 10 ≡ tables_rules t
        unfolding tables_rules
        literals-refused h = rw (six, seven, eight, nine, h) refl

        pub tables-accepted : literals_apart t t.classes ≡ true → ok t ≡ tables_rules t
        unfolding tables_rules
        tables-accepted h = rw (six, seven, eight, nine, h) refl

-- ---- 2 to 5, and the rest
pub short-refused : (s : List ℕ) → length s < HEADER → refused 2 ≡ image_of s
unfolding image_of
short-refused s h = rw (lt-leb HEADER (length s) h) refl

module _ (s : List ℕ) (long : HEADER ≤ length s) where
  pub length-refused : (be4 s 0 + 4 ≡ length s → ⊥) → refused 2 ≡ image_of s
  unfolding image_of
  length-refused n = rw (le-leb HEADER (length s) long, ne_eqb (be4 s 0 + 4) (length s) n) refl

  module _ (field : be4 s 0 + 4 ≡ length s) where
    two : both (leb HEADER (length s)) (eqb (be4 s 0 + 4) (length s)) ≡ true
    two = rw (le-leb HEADER (length s) long, eq-eqb (be4 s 0 + 4) (length s) field) refl

    pub version-refused : (get_or s 4 0 ≡ 1 → ⊥) → refused 3 ≡ image_of s
    unfolding image_of
    version-refused n = rw (two, ne_eqb (get_or s 4 0) 1 n) refl

    module _ (version : get_or s 4 0 ≡ 1) where
      pub counts-refused : counts_right s ≡ false → refused 4 ≡ image_of s
      unfolding image_of
      counts-refused h = rw (two, eq-eqb (get_or s 4 0) 1 version, h) refl

      module _ (counts : counts_right s ≡ true) where
        pub end_refused : (image_end s ≡ length s → ⊥) → refused 5 ≡ image_of s
        unfolding image_of
        end_refused n = rw (two, eq-eqb (get_or s 4 0) 1 version, counts, ne_eqb (image_end s) (length s) n) refl

        pub tables-left : {r : Res Tables} → image_end s ≡ length s → r ≡ tables_rules (tables_of s) → r ≡ image_of s
        unfolding image_of
        tables-left e q = rw (two, eq-eqb (get_or s 4 0) 1 version, counts, eq-eqb (image_end s) (length s) e) q
