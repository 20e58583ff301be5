-- A line of any fields, one after the other: its bytes, its length, how it is written.
use Rattle.std.specs.Prelude.{◌≡◌, Bool, true, false, ℕ, ◌+◌, ◌*◌, ◌^◌, ◌≤◌, ◌<◌, length}
use Rattle.std.proofs.Math.Path.{refl}
use Rattle.std.proofs.Common.{sym, ap, ◌∙◌, arith, length-append}
use mathlib.Core.List.{List, [], ◌∷◌, ◌++◌, append_assoc}
use Rattle.spec.specs.Bytes.{each, text, decimal}
use Rattle.spec.specs.Pool.{Pool}
use Rattle.spec.specs.Listing.{Field, line, named, status_of, report_line, reported, first_line}
use Rattle.decimals.specs.Writing.{Wrote}
use Rattle.decimals.specs.DecimalLaws.{decimal-short}
use Rattle.decimals.specs.WriteLaws.{Left, left-start, left-turn, left_end, left-room}
use Rattle.first_line.specs.Fields.{outcome_of, fields_of}
use Rattle.first_line.specs.declared.Report.{Report}

-- the bytes of a field, with the space before it
abbrev pub field_bytes : Field → List ℕ
field_bytes x = 32 ∷ (x.0 ++ (32 ∷ decimal x.1))

-- "fields stand one space apart, and each line ends with a line feed"
pub line-fields : (s : List ℕ) (l : List Field) → line (s ∷ each named l) ≡ s ++ (each field_bytes l ++ (10 ∷ []))
unfolding line each
line-fields s [] = refl
line-fields s (x ∷ l) =
    let d : List ℕ = 32 ∷ decimal x.1 in
    let r : List ℕ = each field_bytes l ++ (10 ∷ []) in
    let e : x.0 ++ (32 ∷ line (decimal x.1 ∷ each named l)) ≡ (x.0 ++ d) ++ r = ap (λ (z : List ℕ). x.0 ++ (32 ∷ z)) (line-fields (decimal x.1) l) ∙ sym (append_assoc x.0 d r) in
    ap (λ (z : List ℕ). s ++ (32 ∷ z)) (e ∙ sym (append_assoc (x.0 ++ d) (each field_bytes l) (10 ∷ [])))

pub report-is : (b : Bool) (l : List Field) → report_line b l ≡ status_of b ++ (each field_bytes l ++ (10 ∷ []))
unfolding report_line
report-is b l = line-fields (status_of b) l

-- the first line of the listing is that of the report
pub first-is : (f : Report) (pool : Pool) (root : ℕ) → first_line f.skipped (outcome_of f pool root) ≡ report_line f.complete (fields_of f)
unfolding first_line fields_of reported
first-is f pool root = refl

-- ---- length
-- names of at most 7 letters, numbers of 64 bits
abbrev pub Short : List Field → Type 0
Short [] = Unit
Short (x ∷ l) = (length x.0 ≤ 7) × (x.1 < 2 ^ 64) × Short l

fields-short : (l : List Field) → Short l → length (each field_bytes l) ≤ 29 * length l
unfolding each
fields-short [] h = omega arith
fields-short (x ∷ l) h = omega (arith, length-append (field_bytes x) (each field_bytes l), length-append x.0 (32 ∷ decimal x.1), decimal-short x.1 h.1, h.0, fields-short l h.2)

status-short : (b : Bool) → length (status_of b) ≤ 8
unfolding status_of text
status-short true = omega arith
status-short false = omega arith

pub report-short : (b : Bool) (l : List Field) → Short l → length (report_line b l) ≤ 9 + 29 * length l
report-short b l h = omega (arith, ap length (report-is b l), length-append (status_of b) (each field_bytes l ++ (10 ∷ [])), length-append (each field_bytes l) (10 ∷ []), status-short b, fields-short l h)

-- ---- writing
pub status-as : {a b : Bool} (out : List ℕ) → a ≡ b → 0 + length (status_of a) ≤ length out → 0 + length (status_of b) ≤ length out
status-as out e h = rw (← e) h

pub status-wrote : {a b : Bool} {out : List ℕ} {out' : List ℕ} {r : ℕ} → a ≡ b → Wrote (status_of b) out 0 out' r → Wrote (status_of a) out 0 out' r
status-wrote e A = rw e A

-- the fields l and the line feed are still to be written
pub record Still (whole out₀ : List ℕ) (l : List Field) (out : List ℕ) (at : ℕ) : Type 0 where
  pub left : Left (each field_bytes l ++ (10 ∷ [])) whole out₀ 0 out at

module _ {whole out₀ out : List ℕ} {at : ℕ} where
  pub still-room : {x : Field} {l : List Field} → Still whole out₀ (x ∷ l) out at → at + length (field_bytes x) ≤ length out
  unfolding each
  still-room {x = x} {l = l} S = left-room (field_bytes x) (each field_bytes l ++ (10 ∷ [])) (append_assoc (field_bytes x) (each field_bytes l) (10 ∷ [])) S.left

  pub still-turn : {x : Field} {l : List Field} {out' : List ℕ} {r : ℕ} → Still whole out₀ (x ∷ l) out at → Wrote (field_bytes x) out at out' r → Still whole out₀ l out' r
  unfolding each
  still-turn {x = x} {l = l} S W = record { left = left-turn (field_bytes x) (each field_bytes l ++ (10 ∷ [])) (append_assoc (field_bytes x) (each field_bytes l) (10 ∷ [])) S.left W }

  pub end-room : Still whole out₀ [] out at → at + length {A = ℕ} (10 ∷ []) ≤ length out
  unfolding each
  end-room S = left-room (10 ∷ []) [] refl S.left

  pub still-end : {out' : List ℕ} {r : ℕ} → Still whole out₀ [] out at → Wrote (10 ∷ []) out at out' r → Wrote whole out₀ 0 out' r
  unfolding each
  still-end S W = left_end refl (left-turn (10 ∷ []) [] refl S.left W)

module _ (b : Bool) (l : List Field) (out₀ : List ℕ) (h : 0 + length (report_line b l) ≤ length out₀) where
  pub status-room : 0 + length (status_of b) ≤ length out₀
  status-room = left-room (status_of b) (each field_bytes l ++ (10 ∷ [])) (report-is b l) (left-start (report_line b l) out₀ 0 h)

  pub still-start : {out : List ℕ} {at : ℕ} → Wrote (status_of b) out₀ 0 out at → Still (report_line b l) out₀ l out at
  still-start W = record { left = left-turn (status_of b) (each field_bytes l ++ (10 ∷ [])) (report-is b l) (left-start (report_line b l) out₀ 0 h) W }
