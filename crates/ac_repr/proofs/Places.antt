-- The turns of the scans over places, members and operations.
use mathlib.Core.Path.{◌≡◌, refl, ◌∙◌}
use mathlib.Core.Bool.{Bool, true, false, not}
use mathlib.Core.List.{List}
use Prim.Native.Nat.{ℕ, ◌≤◌, ◌<◌, max}
use native.Mathlib.Omega.{arith}
use borrow.Author.Tests.{lt-ltb, le-ltb, ltb-true, ltb-false}
use lib.Dec.{eqb, ltb}
use Rattle.spec.specs.Image.{Tables, NO-IDENTITY, tables_of, identity_of, the_member}
use Rattle.laws.specs.Firsts.{first_from, turn_end}
use Rattle.laws.specs.Valid.{Valid}
use Rattle.laws.specs.AcceptedUses.{members_within}
use Rattle.image.specs.Loaded.{Loaded, classes-many}
use Rattle.image.specs.declared.Image.{Image}
use Rattle.ac_repr.specs.Walk.{has_place}
use Rattle.ac_ops.specs.AcOps.{end_of}

-- ---- a place
module _ (t : Tables) (end o x : ℕ) where
  pub place-op : (k : ℕ) → x < end → k ≡ (the_member t x).op → eqb k o ≡ has_place t end o x
  place-op k h e = rw (lt-ltb x end h, e) refl

  pub place-past : end < x → false ≡ has_place t end o x
  place-past h = let g : end ≤ x = omega arith in rw (le-ltb x end g, lt-ltb end x h) refl

  pub place_end : (k : ℕ) → end ≤ x → x ≤ end → k ≡ identity_of t o → not (eqb k NO-IDENTITY) ≡ has_place t end o x
  place_end k g h e = rw (le-ltb x end g, le-ltb end x h, e) refl

-- places are small numbers
pub end-small : (s : List ℕ) (im : Image) (c : ℕ) → Loaded s im → Valid (tables_of s) → c < im.classes → end_of (tables_of s) c ≤ 1024
end-small s im c l v h = omega (arith, members_within (tables_of s) v c (rw (classes-many s im l) h), v.counts.few_members)

-- none of the places from x on: i is where the scan ended
pub place_last : (f : ℕ → Bool) (x n i m : ℕ) → m ≡ max x n → (x ≤ n → i ≤ n) → n ≤ i → first_from f i n ≡ first_from f x n → m ≡ first_from f x n
place_last f x n i m e h g inv = step (ltb n x) refl
  where
    step : (b : Bool) → ltb n x ≡ b → m ≡ first_from f x n
    step true q =
        let k : n < x = ltb-true n x q in
        let z : m ≡ x = omega arith in
        z ∙ turn_end f x n x refl (omega arith)
    step false q =
        let k : x ≤ n = ltb-false n x q in
        let z : m ≡ i = omega (arith, h k) in
        z ∙ turn_end f x n i inv g
