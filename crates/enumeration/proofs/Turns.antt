-- The walk, for each way out of a turn of its loops.
use Rattle.std.proofs.Common.{Option, Some, None}
use mathlib.Core.Path.{◌≡◌, refl, sym, ap, ◌∙◌}
use mathlib.Core.Bool.{Bool}
use mathlib.Core.List.{List}
use Prim.Native.Nat.{ℕ, suc, ◌+◌, ◌-◌, ◌≤◌, ◌<◌}
use native.Mathlib.Omega.{arith}
use borrow.Author.Tests.{lt-ltb, le-ltb}
use lib.Dec.{eqb}
use lib.ListN.{length}
use Rattle.spec.specs.Bytes.{pick}
use Rattle.spec.specs.Image.{Tables, tables_of, the_class}
use Rattle.laws.specs.Valid.{Valid}
use Rattle.laws.specs.AcceptedUses.{members_within}
use Rattle.image.specs.Loaded.{Loaded, classes-many, members-many}
use Rattle.classes.specs.Spans.{member_span}
use Rattle.image.specs.declared.Image.{Image}
use Rattle.image.specs.declared.Span.{Span}
use Rattle.actions.specs.Place.{actions_at}
use Rattle.enumeration.specs.Remaining.{end_of}
use Rattle.enumeration.specs.Seek.{start_of, next_right, seek_row, seek_right_of, next_left, or_else, seek_rows, seek_of}
use Rattle.actions.specs.declared.State.{State}

-- ---- the members of a class are the image's
pub span-end : (s : List ℕ) (im : Image) → Loaded s im → Valid (tables_of s) → (c : ℕ) (p : Span) → c < im.classes → p ≡ member_span (the_class (tables_of s) c) → p.to ≤ im.members
span-end s im l v c p h e =
    let q : p.to ≡ end_of (tables_of s) c = ap (λ (x : Span). x.to) e in
    omega (arith, members_within (tables_of s) v c (omega (arith, classes-many s im l)), members-many s im l)

-- ---- the start, by the span that the image gives
pub start-at : (t : Tables) (l r : ℕ) {p : Span} {x : ℕ} {b : Bool} → p ≡ member_span (the_class t l) → x ≡ (the_class t r).first → eqb l r ≡ b → ◌≡◌ {A = State} (record { left = pick b p.to p.from; right = x; past = 0 }) (start_of t l r)
start-at t l r e f g = λ i. record { left = pick (sym g i) (e i).to (e i).from; right = f i; past = 0 }

-- ---- right members before `to`
module _ (t : Tables) (to : ℕ) (w : State) where
  pub row_here : w.right < to → w.past < length (actions_at t w) → seek_right_of t to w ≡ Some w
  unfolding seek_row
  row_here h m = let e : to - w.right ≡ suc (to - (w.right + 1)) = omega arith in rw (e, seek_row, lt-ltb w.past (length (actions_at t w)) m) refl

  pub row_next : w.right < to → length (actions_at t w) ≤ w.past → seek_right_of t to w ≡ seek_right_of t to (next_right w)
  unfolding seek_row
  row_next h m = let e : to - w.right ≡ suc (to - (w.right + 1)) = omega arith in rw (e, seek_row, le-ltb w.past (length (actions_at t w)) m) refl

  pub row-over : to ≤ w.right → seek_right_of t to w ≡ None
  unfolding seek_row
  row-over h = let e : to - w.right ≡ 0 = omega arith in rw e refl

-- ---- left members, by the spans that the image gives
module _ (t : Tables) (l r : ℕ) {p q : Span} (ep : p ≡ member_span (the_class t l)) (eq : q ≡ member_span (the_class t r)) (w : State) where
  step : w.left < end_of t l → seek_of t l r w ≡ or_else (seek_right_of t (end_of t r) w) (seek_of t l r (next_left t r w))
  unfolding seek_rows
  step h = let e : end_of t l - w.left ≡ suc (end_of t l - (w.left + 1)) = omega arith in ap (λ (n : ℕ). seek_rows t r n w) e

  found : {x y : Option State} → x ≡ seek_right_of t (end_of t r) w → x ≡ y → w.left < end_of t l → seek_of t l r w ≡ or_else y (seek_of t l r (next_left t r w))
  found e f h = step h ∙ ap (λ (z : Option State). or_else z (seek_of t l r (next_left t r w))) (sym e ∙ f)

  pub seek-here : {x : Option State} (v : State) → x ≡ seek_right_of t q.to w → x ≡ Some v → w.left < p.to → seek_of t l r w ≡ Some v
  seek-here v = rw (ep, eq) (λ e f h. found e f h)

  pub seek-next : {x : Option State} → x ≡ seek_right_of t q.to w → x ≡ None → w.left < p.to → seek_of t l r w ≡ seek_of t l r (record { left = w.left + 1; right = q.from; past = 0 })
  seek-next = rw (ep, eq) (λ e f h. found e f h)

  pub seek-over : p.to ≤ w.left → seek_of t l r w ≡ None
  unfolding seek_rows
  seek-over = rw ep (λ h. let e : end_of t l - w.left ≡ 0 = omega arith in ap (λ (n : ℕ). seek_rows t r n w) e)
