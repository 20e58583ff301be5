-- What a buffer holds while a member's children are added one by one.
use mathlib.Core.Path.{◌≡◌, refl, sym, ap, ◌∙◌}
use mathlib.Core.List.{List, [], ◌∷◌, ◌++◌}
use Prim.Native.Nat.{ℕ, suc, ◌+◌, ◌*◌, ◌-◌, ◌≤◌, ◌<◌}
use native.Mathlib.Numerals.{add-one}
use native.Mathlib.Omega.{arith}
use borrow.Author.Tests.{lt-ltb, le-ltb}
use lib.ListN.{length, take, drop, get_or}
use lib.Seq.{slice, slice_empty, take-suc, drop-append-le, length-take-le}
use Rattle.spec.specs.Bytes.{Two, sum}
use Rattle.spec.specs.Image.{Tables, tables_of, the_class, the_member, children_of}
use Rattle.spec.specs.Monomial.{Monomial, insert_add, add_all, monomial, total, itself}
use Rattle.laws.specs.Monomials.{total-insert, monomial-more}
use Rattle.laws.specs.Scans.{part_slice}
use Rattle.laws.specs.Valid.{Valid}
use Rattle.laws.specs.AcceptedUses.{children_within, members_within}
use Rattle.image.specs.Loaded.{Loaded, members-many, children-many, classes-many}
use Rattle.classes.specs.Spans.{member_span}
use Rattle.members.specs.Spans.{child_span}
use Rattle.image.specs.declared.Image.{Image}
use Rattle.image.specs.declared.Span.{Span}
use Rattle.monomial_terms.specs.Terms.{terms, held, front, Holds, Roomy}
use Rattle.monomial.specs.Places.{Made, monomial_at}
use Rattle.monomial_terms.specs.TermLaws.{held-length, held-is, front-front, Grow, grow}

-- one child more is read
slice-more : (f k : ℕ) (l : List Two) (d : Two) → f ≤ k → k < length l → slice f (suc k) l ≡ slice f k l ++ (get_or l k d ∷ [])
slice-more f k l d h g = ap (drop f) (take-suc l k d g) ∙ drop-append-le f (take k l) (get_or l k d ∷ []) (rw (length-take-le k l (omega arith)) h)

pub roomy-less : (n k b : ℕ) (s : List ℕ) → k ≤ b → Roomy n b s → Roomy n k s
roomy-less n k b s h r = record { numbers = r.numbers; room = r.room; fits = omega (arith, r.fits) }

-- ---- the loop over the children
pub record Upto (t : Tables) (first to : ℕ) (s₀ s : List ℕ) (n k : ℕ) : Type 0 where
  pub from : first ≤ k
  pub within : k ≤ to
  pub numbers : length s ≡ 130
  pub few : n + first ≤ k
  pub whole : terms s ≡ front (held n s) (terms s₀)
  -- "after each child, the list held is the monomial of the children read so far" (02, Paper 6)
  pub so_far : held n s ≡ monomial (slice first k t.children)
  pub small : total (held n s) ≤ (k - first) * 4294967295

-- a member has at most 64 children, all in the table
pub record Fewest (t : Tables) (first to : ℕ) : Type 0 where
  pub few : to ≤ first + 64
  pub in_table : to ≤ length t.children
  pub rises : first ≤ to

module _ (t : Tables) (first to : ℕ) (f : Fewest t first to) where
  pub upto-none : (s : List ℕ) → length s ≡ 130 → Upto t first to s s 0 first
  unfolding add_all total sum
  upto-none s l = record {
    from = omega arith;
    within = f.rises;
    numbers = l;
    few = omega arith;
    whole = refl;
    so_far = rw (slice_empty first t.children) refl;
    small = omega arith;
  }

  pub upto-room : (s₀ s : List ℕ) (n k : ℕ) → Upto t first to s₀ s n k → k < to → Roomy n 4294967295 s
  upto-room s₀ s n k u h = record {
    numbers = u.numbers;
    room = omega (arith, u.few, f.few);
    fits = omega (arith, u.small, u.from, f.few);
  }

  pub upto_turn : (s₀ s s' : List ℕ) (n k r : ℕ) → Upto t first to s₀ s n k → k < to → length s' ≡ length s
      → Holds (insert_add (get_or t.children k (0, 0)).0 (get_or t.children k (0, 0)).1 (held n s)) s s' r × ((get_or t.children k (0, 0)).1 < 4294967296)
      → Upto t first to s₀ s' r (k + 1)
  upto_turn s₀ s s' n k r u h l d =
      let x : Two = get_or t.children k (0, 0) in
      let m : Monomial = insert_add x.0 x.1 (held n s) in
      let hm : held r s' ≡ m = held-is m s s' r d.0 in
      let g : Grow x.0 x.1 (held n s) = grow x.0 x.1 (held n s) in
      let ln : length (held n s) ≡ n = held-length n s u.numbers (omega (arith, u.few, f.few)) in
      let sl : slice first (suc k) t.children ≡ slice first k t.children ++ (x ∷ []) = slice-more first k t.children (0, 0) u.from (omega (arith, f.in_table)) in
      record {
        from = omega (arith, u.from);
        within = omega arith;
        numbers = l ∙ u.numbers;
        few = omega (arith, u.few, d.0.len);
        whole = rw hm (d.0.whole ∙ ap (λ (z : List Two). front m z) u.whole ∙ front-front (held n s) m (terms s₀) g.0);
        so_far = rw (hm, add-one, sl, monomial-more) (ap (insert_add x.0 x.1) u.so_far);
        small = rw hm (omega (arith, total-insert x.0 x.1 (held n s), u.small, u.from, d.1));
      }

  pub upto_all : (s₀ s : List ℕ) (n k : ℕ) → Upto t first to s₀ s n k → to ≤ k → Made (monomial (slice first to t.children)) s₀ s n
  upto_all s₀ s n k u h =
      let e : k ≡ to = omega (arith, u.within) in
      let m : held n s ≡ monomial (slice first to t.children) = rw e at u.so_far in
      let b : n ≤ 64 = omega (arith, u.few, f.few) in
      record {
        holds = record { len = rw (← m) (sym (held-length n s u.numbers (omega arith))); whole = rw (← m) u.whole };
        few = b;
        small = rw (← m) (omega (arith, u.small, u.from, f.few));
      }

-- ---- the span that the image gives
module _ (s : List ℕ) (im : Image) (l : Loaded s im) (v : Valid (tables_of s)) where
  pub member-few : (m : ℕ) (p : Span) → m < im.members → p ≡ child_span (the_member (tables_of s) m) → Fewest (tables_of s) p.from p.to
  member-few m p h e =
      let g : m < length (tables_of s).members = rw (members-many s im l) h in
      rw e (record {
        few = omega (arith, v.spans.few_own_children m g);
        in_table = children_within (tables_of s) v m g;
        rises = omega arith;
      })

  pub member-made : (m : ℕ) (p : Span) (s₀ u : List ℕ) (n : ℕ) → m < im.members → p ≡ child_span (the_member (tables_of s) m)
      → Made (monomial (slice p.from p.to (tables_of s).children)) s₀ u n → Made (monomial (children_of (tables_of s) (the_member (tables_of s) m))) s₀ u n
  member-made m p s₀ u n h e d =
      let g : m < length (tables_of s).members = rw (members-many s im l) h in
      rw (e, part_slice (tables_of s).children (the_member (tables_of s) m).first (the_member (tables_of s) m).count (children_within (tables_of s) v m g)) at d

  pub span-within : (m : ℕ) (p : Span) → m < im.members → p ≡ child_span (the_member (tables_of s) m) → p.to ≤ im.children
  span-within m p h e = omega (arith, (member-few m p h e).in_table, children-many s im l)

-- ---- a class itself once, in a buffer
pub none-roomy : (s : List ℕ) → length s ≡ 130 → Roomy 0 1 s
unfolding total sum
none-roomy s l = record { numbers = l; room = omega arith; fits = omega arith }

pub itself-made : (c x : ℕ) (s u : List ℕ) (r : ℕ) → x ≡ c → Holds (insert_add x 1 (held 0 s)) s u r → Made (itself c) s u r
unfolding insert_add total sum
itself-made c x s u r e h = record { holds = rw e at h; few = omega (arith, h.len); small = omega arith }

module _ (t : Tables) (c x : ℕ) (s u : List ℕ) (r : ℕ) (p : Span) (e : p ≡ member_span (the_class t c)) where
  pub place-member : x < p.to → Made (monomial (children_of t (the_member t x))) s u r → Made (monomial_at t c x) s u r
  unfolding monomial_at
  place-member h d = let g : x < (the_class t c).first + (the_class t c).count = rw e at h in rw (lt-ltb x ((the_class t c).first + (the_class t c).count) g, monomial_at) d

  pub place-itself : p.to ≤ x → Made (itself c) s u r → Made (monomial_at t c x) s u r
  unfolding monomial_at
  place-itself h d = let g : (the_class t c).first + (the_class t c).count ≤ x = rw e at h in rw (le-ltb x ((the_class t c).first + (the_class t c).count) g, monomial_at) d

pub member-number : (s : List ℕ) (im : Image) (c x : ℕ) (p : Span) → Loaded s im → Valid (tables_of s) → c < im.classes → p ≡ member_span (the_class (tables_of s) c) → x < p.to → x < im.members
member-number s im c x p l v h e f =
    let g : c < length (tables_of s).classes = rw (classes-many s im l) h in
    let q : x < (the_class (tables_of s) c).first + (the_class (tables_of s) c).count = rw e at f in
    omega (arith, members_within (tables_of s) v c g, members-many s im l)
