-- The operations of either class that act by transport, and the scans over members and operations.
use Rattle.std.specs.Prelude.{◌≡◌, Bool, List, ◌∷◌, ◌++◌, ℕ, ◌+◌, suc, ◌≤◌, ◌<◌, length}
use Rattle.std.proofs.Math.Path.{refl}
use Rattle.std.proofs.Common.{sym, ap, ◌∙◌, arith}
use Rattle.std.proofs.Math.Bool.{true, false}
use borrow.Author.Tests.{eq-eqb, ne_eqb}
use Rattle.std.proofs.Math.Dec.{eqb}
use Rattle.std.proofs.Math.Seq.{slice, slice-cons, slice_empty}
use Rattle.spec.specs.Bytes.{any, both}
use Rattle.spec.specs.Image.{Tables, Member, tables_of, is_ac, kind_of, the_class, the_member, members_of}
use Rattle.laws.specs.Valid.{Valid}
use Rattle.laws.specs.AcceptedUses.{members_within}
use Rattle.laws.specs.AcceptedTurns.{any_append}
use Rattle.laws.specs.Scans.{part_slice}
use Rattle.image.specs.Loaded.{Loaded, classes-many, members-many}
use Rattle.classes.specs.Spans.{member_span}
use Rattle.image.specs.declared.Image.{Image}
use Rattle.image.specs.declared.Span.{Span}

abbrev pub end_of : Tables → ℕ → ℕ
end_of t c = (the_class t c).first + (the_class t c).count

-- ---- "An MSet or Set operation of either class"
unfoldable pub ac_op : Tables → ℕ → ℕ → ℕ → Bool
unfolding any
ac_op t l r o = both (is_ac (kind_of t o)) (any (λ m. eqb m.op o) (members_of t l ++ members_of t r))

-- ---- members of an operation
abbrev pub of_op : ℕ → Member → Bool
of_op o m = eqb m.op o

-- member i of the table has operation k
module _ (t : Tables) (o i to k : ℕ) (h : i < to) (b : to ≤ length t.members) (e : k ≡ (the_member t i).op) where
  part : slice i to t.members ≡ the_member t i ∷ slice (suc i) to t.members
  part = slice-cons i to t.members _ h b

  pub any-stop : k ≡ o → any (of_op o) (slice i to t.members) ≡ true
  unfolding any
  any-stop q = let z : eqb (the_member t i).op o ≡ true = eq-eqb (the_member t i).op o (sym e ∙ q) in rw (part, any, z) refl

  pub any-more : (k ≡ o → ⊥) → any (of_op o) (slice i to t.members) ≡ any (of_op o) (slice (suc i) to t.members)
  unfolding any
  any-more n = let z : eqb (the_member t i).op o ≡ false = ne_eqb (the_member t i).op o (λ q. n (e ∙ q)) in rw (part, any, z) refl

pub any-end : (t : Tables) (o i to : ℕ) → i ≤ to → to ≤ i → any (of_op o) (slice i to t.members) ≡ false
unfolding any
any-end t o i to g h = let e : i ≡ to = omega arith in rw (e, slice_empty to t.members) refl

-- the span that the image gives
module _ (s : List ℕ) (im : Image) (c : ℕ) (p : Span) (l : Loaded s im) (v : Valid (tables_of s)) (h : c < im.classes) (e : p ≡ member_span (the_class (tables_of s) c)) where
  inside : end_of (tables_of s) c ≤ length (tables_of s).members
  inside = members_within (tables_of s) v c (rw (classes-many s im l) h)

  pub span-end : p.to ≡ end_of (tables_of s) c
  span-end = ap (λ (q : Span). q.to) e

  pub span-from : p.from ≡ (the_class (tables_of s) c).first
  span-from = ap (λ (q : Span). q.from) e

  pub span-within : p.to ≤ length (tables_of s).members
  span-within = rw e inside

  pub span-members : p.to ≤ im.members
  span-members = omega (arith, span-within, members-many s im l)

  pub span-rises : p.from ≤ p.to
  span-rises = rw e (omega arith)

  pub span-any : (o : ℕ) → any (of_op o) (slice p.from p.to (tables_of s).members) ≡ any (of_op o) (members_of (tables_of s) c)
  span-any o = rw (e, part_slice (tables_of s).members (the_class (tables_of s) c).first (the_class (tables_of s) c).count inside) refl

-- ---- operations
module _ (t : Tables) (l r o k : ℕ) (a : Bool) (e : k ≡ kind_of t o) (f : a ≡ is_ac k) where
  pub op-other : a ≡ false → false ≡ ac_op t l r o
  unfolding ac_op
  op-other h = let z : is_ac (kind_of t o) ≡ false = rw (← e) (sym f ∙ h) in rw z refl

  pub op-left : (x : Bool) → a ≡ true → x ≡ any (of_op o) (members_of t l) → x ≡ true → true ≡ ac_op t l r o
  unfolding ac_op
  op-left x h i j =
      let z : is_ac (kind_of t o) ≡ true = rw (← e) (sym f ∙ h) in
      rw (z, any_append (of_op o) (members_of t l) (members_of t r), ← i, j) refl

  pub op-right : (x y : Bool) → a ≡ true → x ≡ any (of_op o) (members_of t l) → x ≡ false → y ≡ any (of_op o) (members_of t r) → y ≡ ac_op t l r o
  unfolding ac_op
  op-right x y h i j q =
      let z : is_ac (kind_of t o) ≡ true = rw (← e) (sym f ∙ h) in
      rw (z, any_append (of_op o) (members_of t l) (members_of t r), ← i, j, ← q) refl
