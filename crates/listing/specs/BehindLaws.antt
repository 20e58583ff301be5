-- A head and the lines behind it: their length, and how they are written; the listing is its first line and the lines behind it.
use Rattle.std.specs.Prelude.{◌≡◌, refl, true, false, List, ◌++◌, ℕ, ◌+◌, ◌≤◌, ◌<◌, leb, length, Option, Some, None}
use Rattle.std.proofs.Common.{sym, ap, ◌∙◌, arith, length-append, le-leb}
use Rattle.std.proofs.lemmas.Bool.{lt-leb}
use Rattle.spec.specs.Listing.{lines_of, listing_of}
use Rattle.decimals.specs.Writing.{Wrote}
use Rattle.decimals.specs.WriteLaws.{room-first, room-second, wrote-both}
use Rattle.first_line.specs.FieldLaws.{first-is}
use Rattle.first_line.specs.declared.Report.{Report}
use Rattle.terms.specs.Buffers.{pool_of, count_in}
use Rattle.terms.specs.Chains.{Holds}
use Rattle.numbering.specs.Numbering.{numbers_of, Listed}
use Rattle.widths.specs.Lines.{lines_in}
use Rattle.widths.specs.LineLaws.{lines_are}
use Rattle.listing.specs.Lists.{answer_of, output_of, listing_in, Behind, Lists}
use Rattle.listing.specs.ListLaws.{first_of}

module _ (head terms runs : List ℕ) (root : ℕ) (marks out w : List ℕ) (n : ℕ) (H : Holds terms runs) (b : root < count_in terms) (q : w ≡ numbers_of terms runs root marks) (L : Listed terms runs w root n) where
  abbrev lines : List ℕ
  lines = lines_in terms runs w 0 n

  all-is : head ++ lines_of (pool_of terms runs) root ≡ head ++ lines
  all-is = ap (λ (x : List ℕ). head ++ x) (lines_are terms runs w root n H b L)

  module _ {r : ℕ} (g : r ≡ length lines) where
    size-is : length head + r ≡ length (head ++ lines_of (pool_of terms runs) root)
    size-is = omega (arith, ap length all-is, length-append head lines)

    pub behind-full : length out < length head + r → Behind head terms runs root marks out w out None
    behind-full h =
        let l = head ++ lines_of (pool_of terms runs) root in
        let z : leb (length l) (length out) ≡ false = lt-leb (length l) (length out) (omega (arith, size-is)) in
        record { numbers = q; answer = rw z refl; output = rw z refl }

    module _ (h : length head + r ≤ length out) where
      room : 0 + length (head ++ lines) ≤ length out
      room = omega (arith, length-append head lines)

      pub head-room : 0 + length head ≤ length out
      head-room = room-first head lines out 0 room

      module _ {o₁ : List ℕ} {a₁ : ℕ} (W₁ : Wrote head out 0 o₁ a₁) where
        pub lines-room : a₁ + length lines ≤ length o₁
        lines-room = room-second head lines out 0 room W₁

        pub behind-bytes : {o₂ : List ℕ} {a₂ : ℕ} → Wrote lines o₁ a₁ o₂ a₂ → Behind head terms runs root marks out w o₂ (Some (length head + r))
        behind-bytes {o₂ = o₂} {a₂ = a₂} W₂ =
            let l = head ++ lines_of (pool_of terms runs) root in
            let z : leb (length l) (length out) ≡ true = le-leb (length l) (length out) (omega (arith, size-is)) in
            let both : Wrote l out 0 o₂ a₂ = rw all-is (wrote-both head lines out 0 room W₁ W₂) in
            let k : 0 + length l ≡ length l = omega arith in
            record { numbers = q; answer = rw z (ap (λ (m : ℕ). Some m) size-is); output = rw z (rw k at both.bytes) }

pub lists-behind : (terms runs : List ℕ) (root : ℕ) (f : Report) (head marks out marks' out' : List ℕ) (r : Option ℕ) → head ≡ first_of f → Behind head terms runs root marks out marks' out' r → Lists terms runs root f marks out marks' out' r
unfolding listing_of
lists-behind terms runs root f head marks out marks' out' r e B =
    let is : head ++ lines_of (pool_of terms runs) root ≡ listing_in f terms runs root = ap (λ (x : List ℕ). x ++ lines_of (pool_of terms runs) root) (e ∙ sym (first-is f (pool_of terms runs) root)) in
    record { numbers = B.numbers; answer = B.answer ∙ ap (λ (l : List ℕ). answer_of l out) is; output = B.output ∙ ap (λ (l : List ℕ). output_of l out) is }
