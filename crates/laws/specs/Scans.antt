-- A part of a table, scanned for an entry that passes a test.
use Rattle.std.specs.Prelude.{◌≡◌, refl, Bool, true, false, List, [], ◌∷◌, map, ℕ, suc, ◌+◌, ◌≤◌, ◌<◌, length, get_or, take, drop}
use Rattle.std.proofs.Math.Path.{sym, ap}
use Rattle.std.proofs.Common.{◌∙◌, add-one, arith, drop_of_length-le, drop_at, take-add, length-take-le}
use Rattle.std.proofs.Math.Seq.{slice, slice-cons}
use Rattle.spec.specs.Bytes.{any, either, each}
use Rattle.laws.specs.AcceptedLists.{any-cons}
use Rattle.laws.specs.AcceptedTurns.{any_append}

-- a list without entries
pub nil-of-length : {A : Type 0} (l : List A) → length l ≡ 0 → l ≡ []
nil-of-length [] e = refl
nil-of-length (x ∷ l) e = absurd (omega arith)

-- ---- parts of a table
pub part_slice : {A : Type 0} (l : List A) (first count : ℕ) → first + count ≤ length l → slice first (first + count) l ≡ take count (drop first l)
part_slice l first count h = rw take-add (drop_at (take first l) (take count (drop first l)) first (length-take-le first l (omega arith)))

pub slice_over : {A : Type 0} (f to : ℕ) (l : List A) → to ≤ length l → to ≤ f → slice f to l ≡ []
slice_over f to l k h = drop_of_length-le (take to l) {i = f} (omega (arith, length-take-le to l k, h))

-- ---- no entry from the first to before i passes: what is left decides
pub record Scanned {A : Type 0} (p : A → Bool) (l : List A) (first to i : ℕ) : Type 0 where
  pub from : first ≤ i
  pub rest : any p (slice i to l) ≡ any p (slice first to l)

module _ {A : Type 0} (p : A → Bool) (l : List A) (first to : ℕ) where
  pub scan-none : Scanned p l first to first
  scan-none = record { from = omega arith; rest = refl }

  module _ (k : to ≤ length l) (i : ℕ) (S : Scanned p l first to i) where
    pub scan-end : to ≤ i → any p (slice first to l) ≡ false
    unfolding any
    scan-end h = sym S.rest ∙ ap (any p) (slice_over i to l k h)

    module _ (d : A) (h : i < to) where
      scan-turn : any p (slice first to l) ≡ either (p (get_or l i d)) (any p (slice (i + 1) to l))
      scan-turn = sym S.rest ∙ rw (slice-cons i to l d h k, add-one i) (any-cons p (get_or l i d) (slice (suc i) to l))

      pub scan-found : p (get_or l i d) ≡ true → any p (slice first to l) ≡ true
      scan-found e = scan-turn ∙ ap (λ (b : Bool). either b (any p (slice (i + 1) to l))) e

      pub scan-more : p (get_or l i d) ≡ false → Scanned p l first to (i + 1)
      scan-more e = record { from = omega (arith, S.from); rest = sym (scan-turn ∙ ap (λ (b : Bool). either b (any p (slice (i + 1) to l))) e) }

-- ---- a test of lists made from a list
pub any-map : {A B : Type 0} (p : B → Bool) (f : A → B) (l : List A) → any p (map f l) ≡ any (λ x. p (f x)) l
unfolding any
any-map p f [] = refl
any-map p f (x ∷ l) = any-cons p (f x) (map f l) ∙ ap (either (p (f x))) (any-map p f l) ∙ sym (any-cons (λ y. p (f y)) x l)

pub any-each : {A B : Type 0} (p : B → Bool) (f : A → List B) (l : List A) → any p (each f l) ≡ any (λ x. any p (f x)) l
unfolding any each
any-each p f [] = refl
any-each p f (x ∷ l) = any_append p (f x) (each f l) ∙ ap (either (any p (f x))) (any-each p f l) ∙ sym (any-cons (λ y. any p (f y)) x l)
