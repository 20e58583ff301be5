-- Writing piece by piece.
use Rattle.std.specs.Prelude.{◌≡◌, refl, List, [], ◌∷◌, ◌++◌, ℕ, suc, ◌+◌, ◌/◌, ◌%◌, ◌≤◌, ◌<◌, length, take, drop, set}
use Rattle.std.proofs.Common.{sym, ap, ◌∙◌, append_assoc, arith, length-append, length-drop, take-append-drop, take_at, drop_at, drop-drop, length-take-le}
use Rattle.std.proofs.Math.Seq.{paste, take-length}
use Rattle.std.proofs.lemmas.List.{set_split}
use Rattle.spec.specs.Bytes.{decimal}
use Rattle.decimals.specs.DecimalLaws.{decimal-one, decimal-more, decimal-length-one, decimal-length-more}
use Rattle.decimals.specs.Writing.{put_at, Wrote}

put-length : (out : List ℕ) (at : ℕ) (l : List ℕ) → at + length l ≤ length out → length (put_at out at l) ≡ length out
put-length out at l h = omega (arith, length-append (take at out) (l ++ drop (at + length l) out), length-append l (drop (at + length l) out), length-take-le at out (omega arith), length-drop (at + length l) out)

-- nothing written
put-none : (out : List ℕ) (at : ℕ) → put_at out at [] ≡ out
put-none out at = let e : at + 0 ≡ at = omega arith in rw e (take-append-drop at out)

-- one piece after the other
put-put : (out : List ℕ) (at : ℕ) (l m : List ℕ) → at + length l ≤ length out → put_at (put_at out at l) (at + length l) m ≡ put_at out at (l ++ m)
put-put out at l m h =
    let k : length (take at out ++ l) ≡ at + length l = length-append (take at out) l ∙ ap (λ (z : ℕ). z + length l) (length-take-le at out (omega arith)) in
    let s : put_at out at l ≡ (take at out ++ l) ++ drop (at + length l) out = sym (append_assoc (take at out) l (drop (at + length l) out)) in
    let t : take (at + length l) (put_at out at l) ≡ take at out ++ l = ap (λ (z : List ℕ). take (at + length l) z) s ∙ take_at (take at out ++ l) (drop (at + length l) out) (at + length l) k in
    let u : drop (at + length l + length m) (put_at out at l) ≡ drop (at + length (l ++ m)) out =
    sym (drop-drop (length m) (at + length l) (put_at out at l))
    ∙ ap (λ (z : List ℕ). drop (length m) z) (ap (λ (z : List ℕ). drop (at + length l) z) s ∙ drop_at (take at out ++ l) (drop (at + length l) out) (at + length l) k)
    ∙ drop-drop (length m) (at + length l) out ∙ ap (λ (z : ℕ). drop z out) (let e : at + length l + length m ≡ at + length (l ++ m) = omega (arith, length-append l m) in e) in
    rw (t, u) (append_assoc (take at out) l (m ++ drop (at + length (l ++ m)) out) ∙ ap (λ (z : List ℕ). take at out ++ z) (sym (append_assoc l m (drop (at + length (l ++ m)) out))))

pub wrote_none : (out : List ℕ) (at : ℕ) → Wrote [] out at out at
wrote_none out at = record { bytes = sym (put-none out at); after = omega arith }

pub wrote_then : {l m out : List ℕ} {at : ℕ} {out' : List ℕ} {r : ℕ} {out'' : List ℕ} {s : ℕ} → at + length l ≤ length out → Wrote l out at out' r → Wrote m out' r out'' s → Wrote (l ++ m) out at out'' s
wrote_then {l = l} {m = m} {out = out} {at = at} {out' = out'} {out'' = out''} h A B = record {
  bytes = B.bytes ∙ ap (λ (z : ℕ). put_at out' z m) A.after ∙ ap (λ (z : List ℕ). put_at z (at + length l) m) A.bytes ∙ put-put out at l m h;
  after = omega (arith, A.after, B.after, length-append l m);
}

pub wrote-length : {l out : List ℕ} {at : ℕ} {out' : List ℕ} {r : ℕ} → at + length l ≤ length out → Wrote l out at out' r → length out' ≡ length out
wrote-length {l = l} {out = out} {at = at} h A = ap length A.bytes ∙ put-length out at l h

-- what stands at the front
pub wrote-front : {l out out' : List ℕ} {r : ℕ} → Wrote l out 0 out' r → take r out' ≡ l
wrote-front {l = l} {out = out} A = let e : 0 + length l ≡ length l = omega arith in rw (A.bytes, A.after, e) (take_at l (drop (length l) out) (length l) refl)

-- one byte
pub wrote_one : (out : List ℕ) (at x : ℕ) → at < length out → Wrote (x ∷ []) out at (set out at x) (at + 1)
wrote_one out at x h = record { bytes = set_split out at x h ∙ (let e : suc at ≡ at + 1 = omega arith in ap (λ (z : ℕ). take at out ++ (x ∷ drop z out)) e); after = refl }

-- a copy of a whole list
pub wrote-copy : (out : List ℕ) (at : ℕ) (b : List ℕ) → Wrote b out at (paste out at b (length b)) (at + length b)
wrote-copy out at b = record { bytes = ap (λ (z : List ℕ). (take at out ++ z) ++ drop (at + length b) out) (take-length b) ∙ append_assoc (take at out) b (drop (at + length b) out); after = refl }

pub wrote_as : {l m out : List ℕ} {at : ℕ} {out' : List ℕ} {r : ℕ} → l ≡ m → Wrote l out at out' r → Wrote m out at out' r
wrote_as e A = rw (← e) A

-- ---- a number's digits
pub wrote-digit : {d : ℕ} {out' : List ℕ} (v : ℕ) (out : List ℕ) (at : ℕ) → v < 10 → at + length (decimal v) ≤ length out → d ≡ 48 + v → out' ≡ set out at d → Wrote (decimal v) out at out' (at + 1)
wrote-digit v out at h k e q =
    let o : Wrote ((48 + v) ∷ []) out at (set out at (48 + v)) (at + 1) = wrote_one out at (48 + v) (omega (arith, decimal-length-one v h)) in
    rw (q, e) (wrote_as (sym (decimal-one v h)) o)

module _ (v : ℕ) (out : List ℕ) (at : ℕ) (out' : List ℕ) (a : ℕ) (h : 10 ≤ v) (k : at + length (decimal v) ≤ length out) where
  pub front_fits : at + length (decimal (v / 10)) ≤ length out
  front_fits = omega (arith, decimal-length-more v h)

  pub last_fits : Wrote (decimal (v / 10)) out at out' a → a < length out'
  last_fits A = omega (arith, decimal-length-more v h, A.after, wrote-length front_fits A)

  pub wrote-last : {d : ℕ} {out'' : List ℕ} → Wrote (decimal (v / 10)) out at out' a → d ≡ 48 + v % 10 → out'' ≡ set out' a d → Wrote (decimal v) out at out'' (a + 1)
  wrote-last A e q =
      let o : Wrote ((48 + v % 10) ∷ []) out' a (set out' a (48 + v % 10)) (a + 1) = wrote_one out' a (48 + v % 10) (last_fits A) in
      rw (q, e) (wrote_as (sym (decimal-more v h)) (wrote_then front_fits A o))

-- ---- a copy's end
pub wrote-all : {out' : List ℕ} (out : List ℕ) (at : ℕ) (b : List ℕ) (i : ℕ) → i ≡ length b → out' ≡ paste out at b i → Wrote b out at out' (at + length b)
wrote-all out at b i e q = rw (q, e) (wrote-copy out at b)

-- ---- two pieces
module _ (l m out : List ℕ) (at : ℕ) (h : at + length (l ++ m) ≤ length out) where
  pub room-first : at + length l ≤ length out
  room-first = omega (arith, length-append l m)

  pub room-second : {out' : List ℕ} {r : ℕ} → Wrote l out at out' r → r + length m ≤ length out'
  room-second A = omega (arith, length-append l m, A.after, wrote-length room-first A)

  pub wrote-both : {out' : List ℕ} {r : ℕ} {out'' : List ℕ} {s : ℕ} → Wrote l out at out' r → Wrote m out' r out'' s → Wrote (l ++ m) out at out'' s
  wrote-both A B = wrote_then room-first A B

-- ---- a loop: rest is what it has still to write
pub record Left (rest whole out₀ : List ℕ) (at₀ : ℕ) (out : List ℕ) (at : ℕ) : Type 0 where
  pub same : length out ≡ length out₀
  pub fits : at + length rest ≤ length out
  pub bytes : put_at out at rest ≡ put_at out₀ at₀ whole
  pub after : at + length rest ≡ at₀ + length whole

pub left-start : (whole out₀ : List ℕ) (at₀ : ℕ) → at₀ + length whole ≤ length out₀ → Left whole whole out₀ at₀ out₀ at₀
left-start whole out₀ at₀ h = record { same = refl; fits = h; bytes = refl; after = refl }

pub left-turn : {rest whole out₀ : List ℕ} {at₀ : ℕ} {out : List ℕ} {at : ℕ} {out' : List ℕ} {r : ℕ} (l m : List ℕ) → rest ≡ l ++ m → Left rest whole out₀ at₀ out at → Wrote l out at out' r → Left m whole out₀ at₀ out' r
left-turn {rest = rest} {out = out} {at = at} {out' = out'} l m e I A =
    let k : at + length (l ++ m) ≤ length out = rw (← e) I.fits in
    let f = room-first l m out at k in
    record {
      same = omega (arith, wrote-length f A, I.same);
      fits = room-second l m out at k A;
      bytes = ap (λ (z : ℕ). put_at out' z m) A.after ∙ ap (λ (z : List ℕ). put_at z (at + length l) m) A.bytes ∙ put-put out at l m f ∙ sym (ap (λ (z : List ℕ). put_at out at z) e) ∙ I.bytes;
      after = omega (arith, A.after, I.after, length-append l m, ap length e);
    }

pub left_end : {rest whole out₀ : List ℕ} {at₀ : ℕ} {out : List ℕ} {at : ℕ} → rest ≡ [] → Left rest whole out₀ at₀ out at → Wrote whole out₀ at₀ out at
left_end {out = out} {at = at} e I = record { bytes = sym (put-none out at) ∙ sym (ap (λ (z : List ℕ). put_at out at z) e) ∙ I.bytes; after = omega (arith, I.after, ap length e) }

pub left-room : {rest whole out₀ : List ℕ} {at₀ : ℕ} {out : List ℕ} {at : ℕ} (l m : List ℕ) → rest ≡ l ++ m → Left rest whole out₀ at₀ out at → at + length l ≤ length out
left-room {out = out} {at = at} l m e I = room-first l m out at (rw (← e) I.fits)
