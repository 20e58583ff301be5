-- The first line and the lines behind it are the listing: its length, and how it is written.
use Rattle.std.specs.Prelude.{◌≡◌, refl, true, false, List, ◌++◌, ℕ, ◌+◌, ◌≤◌, ◌<◌, leb, length, Some, None}
use Rattle.std.proofs.Common.{ap, ap₂, arith, length-append, le-leb}
use Rattle.std.proofs.lemmas.Bool.{lt-leb}
use Rattle.spec.specs.Listing.{report_line, listing_of}
use Rattle.decimals.specs.Writing.{Wrote}
use Rattle.decimals.specs.WriteLaws.{room-first, room-second, wrote-both}
use Rattle.first_line.specs.Fields.{fields_of}
use Rattle.first_line.specs.FieldLaws.{first-is}
use Rattle.first_line.specs.declared.Report.{Report}
use Rattle.terms.specs.Buffers.{pool_of, count_in}
use Rattle.terms.specs.Chains.{Holds}
use Rattle.numbering.specs.Numbering.{numbers_of, Listed}
use Rattle.widths.specs.Lines.{lines_in}
use Rattle.widths.specs.LineLaws.{lines_are}
use Rattle.listing.specs.Lists.{listing_in, Lists}

-- the first line
abbrev pub first_of : Report → List ℕ
first_of f = report_line f.complete (fields_of f)

module _ (terms runs : List ℕ) (root : ℕ) (f : Report) (marks out w : List ℕ) (n : ℕ) (H : Holds terms runs) (b : root < count_in terms) (q : w ≡ numbers_of terms runs root marks) (L : Listed terms runs w root n) where
  listing-is : listing_in f terms runs root ≡ first_of f ++ lines_in terms runs w 0 n
  unfolding listing_of
  listing-is = ap₂ (λ (x y : List ℕ). x ++ y) (first-is f (pool_of terms runs) root) (lines_are terms runs w root n H b L)

  module _ {a r : ℕ} (e : a ≡ 0 + length (first_of f)) (g : r ≡ length (lines_in terms runs w 0 n)) where
    size-is : a + r ≡ length (listing_in f terms runs root)
    size-is = omega (arith, ap length listing-is, length-append (first_of f) (lines_in terms runs w 0 n))

    pub lists-full : length out < a + r → Lists terms runs root f marks out w out None
    lists-full h =
        let l = listing_in f terms runs root in
        let z : leb (length l) (length out) ≡ false = lt-leb (length l) (length out) (omega (arith, size-is)) in
        record { numbers = q; answer = rw z refl; output = rw z refl }

    module _ (h : a + r ≤ length out) where
      room : 0 + length (first_of f ++ lines_in terms runs w 0 n) ≤ length out
      room = omega (arith, length-append (first_of f) (lines_in terms runs w 0 n))

      pub first-room : 0 + length (first_of f) ≤ length out
      first-room = room-first (first_of f) (lines_in terms runs w 0 n) out 0 room

      module _ {o₁ : List ℕ} {a₁ : ℕ} (W₁ : Wrote (first_of f) out 0 o₁ a₁) where
        pub lines-room : a₁ + length (lines_in terms runs w 0 n) ≤ length o₁
        lines-room = room-second (first_of f) (lines_in terms runs w 0 n) out 0 room W₁

        pub lists-bytes : {o₂ : List ℕ} {a₂ : ℕ} → Wrote (lines_in terms runs w 0 n) o₁ a₁ o₂ a₂ → Lists terms runs root f marks out w o₂ (Some (a + r))
        lists-bytes {o₂ = o₂} {a₂ = a₂} W₂ =
            let l = listing_in f terms runs root in
            let z : leb (length l) (length out) ≡ true = le-leb (length l) (length out) (omega (arith, size-is)) in
            let both : Wrote l out 0 o₂ a₂ = rw listing-is (wrote-both (first_of f) (lines_in terms runs w 0 n) out 0 room W₁ W₂) in
            let k : 0 + length l ≡ length l = omega arith in
            record { numbers = q; answer = rw z (ap (λ (m : ℕ). Some m) size-is); output = rw z (rw k at both.bytes) }
