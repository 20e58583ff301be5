-- Bytes that stand in the output, written again behind them.
use Rattle.std.specs.Prelude.{◌≡◌, refl, List, ◌++◌, length, get_or, take, drop, set}
use Rattle.std.proofs.Common.{sym, ap, ◌∙◌, append_assoc, le_refl, length-append, length-drop, take-append-drop, get_or-take, get_or-drop, length-take-le}
use Prim.Native.Nat.{ℕ, suc, ◌+◌, ◌-◌, ◌≤◌, ◌<◌}
use Rattle.std.proofs.Math.Nat.{sub-zero}
use Rattle.std.proofs.Math.Decide.{dec_le}
use native.Mathlib.Omega.{arith}
use Rattle.std.proofs.Math.ListN.{get_or-append}
use Rattle.std.proofs.Math.Seq.{paste, paste-suc}
use Rattle.std.proofs.lemmas.List.{take-append-le, drop-append-le}
use Rattle.decimals.specs.Writing.{Wrote}
use Rattle.decimals.specs.WriteLaws.{Left, left-start, left-turn, left-room, left_end, wrote_as, wrote-all}
use Rattle.card_forms.specs.Forms.{copies}

-- the bytes at places from .. to - 1
abbrev pub bytes_at : List ℕ → ℕ → ℕ → List ℕ
bytes_at out from to = take (to - from) (drop from out)

bytes-length : (out : List ℕ) (from to : ℕ) → to ≤ length out → length (bytes_at out from to) ≡ to - from
bytes-length out from to h = length-take-le (to - from) (drop from out) (omega (arith, length-drop from out))

module _ (out : List ℕ) (at from to : ℕ) (h : from ≤ to) (k : to ≤ at) (r : at + (to - from) ≤ length out) where
  bytes-at : (i : ℕ) → i < to - from → get_or (paste out at (bytes_at out from to) i) (from + i) 0 ≡ get_or (bytes_at out from to) i 0
  bytes-at i l =
      let n : length (take at out) ≡ at = length-take-le at out (omega arith) in
      get_or-append (take at out ++ take i (bytes_at out from to)) (drop (at + i) out) 0 (from + i) (omega (arith, length-append (take at out) (take i (bytes_at out from to))))
      ∙ get_or-append (take at out) (take i (bytes_at out from to)) 0 (from + i) (omega arith) ∙ get_or-take at out (from + i) 0 (omega arith)
      ∙ sym (get_or-take (to - from) (drop from out) i 0 l ∙ get_or-drop from out i 0)

  pub again-turn : {out' : List ℕ} (i : ℕ) → i < to - from → out' ≡ paste out at (bytes_at out from to) i → set out' (at + i) (get_or out' (from + i) 0) ≡ paste out at (bytes_at out from to) (i + 1)
  again-turn i l e =
      let z : i + 1 ≡ suc i = omega arith in
      rw (e, bytes-at i l, z) (paste-suc out at (bytes_at out from to) i 0 (omega arith) (omega (arith, bytes-length out from to (omega arith))))

  pub again-end : {out' : List ℕ} (i : ℕ) → i ≡ to - from → out' ≡ paste out at (bytes_at out from to) i → Wrote (bytes_at out from to) out at out' (at + i)
  again-end i e q = let z : length (bytes_at out from to) ≡ i = omega (arith, bytes-length out from to (omega arith)) in rw (← z) (wrote-all out at (bytes_at out from to) (length (bytes_at out from to)) refl (rw z q))

-- what is written behind them leaves them as they are
bytes-front : (out z : List ℕ) (at from to : ℕ) → to ≤ at → at ≤ length out → bytes_at (take at out ++ z) from to ≡ bytes_at (take at out) from to
bytes-front out z at from to h k = go (dec_le from at)
  where
    n : length (take at out) ≡ at
    n = length-take-le at out k

    go : Dec (from ≤ at) → bytes_at (take at out ++ z) from to ≡ bytes_at (take at out) from to
    go (yes l) =
        ap (λ (y : List ℕ). take (to - from) y) (drop-append-le from (take at out) z (omega (arith, n)))
        ∙ take-append-le (to - from) (drop from (take at out)) z (omega (arith, n, length-drop from (take at out)))
    go (no l) = let e : to - from ≡ 0 = omega arith in rw e refl

bytes-stay : {l out : List ℕ} {at : ℕ} {out' : List ℕ} {r : ℕ} (from to : ℕ) → to ≤ at → at ≤ length out → Wrote l out at out' r → bytes_at out' from to ≡ bytes_at out from to
bytes-stay {l = l} {out = out} {at = at} from to h k A =
    ap (λ (y : List ℕ). bytes_at y from to) A.bytes ∙ bytes-front out (l ++ drop (at + length l) out) at from to h k
    ∙ sym (bytes-front out (drop at out) at from to h k) ∙ ap (λ (y : List ℕ). bytes_at y from to) (take-append-drop at out)

-- ---- n copies with the gap before each, of which k are written
pub record Copying (out₀ : List ℕ) (from to : ℕ) (gap : List ℕ) (n : ℕ) (out : List ℕ) (at k : ℕ) : Type 0 where
  pub few : k ≤ n
  pub behind : to ≤ at
  pub stands : bytes_at out from to ≡ bytes_at out₀ from to
  pub left : Left (copies (n - k) (gap ++ bytes_at out₀ from to)) (copies n (gap ++ bytes_at out₀ from to)) out₀ to out at

module _ (out₀ : List ℕ) (from to : ℕ) (gap : List ℕ) (n : ℕ) (h : from ≤ to) (q : to + length (copies n (gap ++ bytes_at out₀ from to)) ≤ length out₀) where
  pub copying-start : Copying out₀ from to gap n out₀ to 0
  copying-start = record { few = omega arith; behind = le_refl to; stands = refl; left = rw (sub-zero n) (left-start (copies n (gap ++ bytes_at out₀ from to)) out₀ to q) }

  size : length (bytes_at out₀ from to) ≡ to - from
  size = bytes-length out₀ from to (omega arith)

  module _ {out : List ℕ} {at k : ℕ} (I : Copying out₀ from to gap n out at k) where
    pub copying-end : n ≤ k → Wrote (copies n (gap ++ bytes_at out₀ from to)) out₀ to out at
    unfolding copies
    copying-end l = let e : n - k ≡ 0 = omega arith in left_end (rw e refl) I.left

    module _ (l : k < n) where
      rest-is : copies (n - k) (gap ++ bytes_at out₀ from to) ≡ gap ++ (bytes_at out₀ from to ++ copies (n - (k + 1)) (gap ++ bytes_at out₀ from to))
      unfolding copies
      rest-is = let e : n - k ≡ suc (n - (k + 1)) = omega arith in rw e (append_assoc gap (bytes_at out₀ from to) (copies (n - (k + 1)) (gap ++ bytes_at out₀ from to)))

      pub gap-room : at + length gap ≤ length out
      gap-room = left-room gap (bytes_at out₀ from to ++ copies (n - (k + 1)) (gap ++ bytes_at out₀ from to)) rest-is I.left

      module _ {out₁ : List ℕ} {a : ℕ} (A : Wrote gap out at out₁ a) where
        after-gap : Left (bytes_at out₀ from to ++ copies (n - (k + 1)) (gap ++ bytes_at out₀ from to)) (copies n (gap ++ bytes_at out₀ from to)) out₀ to out₁ a
        after-gap = left-turn gap (bytes_at out₀ from to ++ copies (n - (k + 1)) (gap ++ bytes_at out₀ from to)) rest-is I.left A

        still : bytes_at out₁ from to ≡ bytes_at out₀ from to
        still = bytes-stay from to I.behind (omega (arith, gap-room)) A ∙ I.stands

        pub again-asks : (from ≤ to) × (to ≤ a) × (a + (to - from) ≤ length out₁)
        again-asks = (h, omega (arith, I.behind, A.after), omega (arith, size, left-room (bytes_at out₀ from to) (copies (n - (k + 1)) (gap ++ bytes_at out₀ from to)) refl after-gap))

        pub copying-turn : {out₂ : List ℕ} {b : ℕ} → Wrote (bytes_at out₁ from to) out₁ a out₂ b → Copying out₀ from to gap n out₂ b (k + 1)
        copying-turn B = record {
          few = omega arith;
          behind = omega (arith, I.behind, A.after, B.after);
          stands = bytes-stay from to again-asks.1 (omega (arith, again-asks.2)) B ∙ still;
          left = left-turn (bytes_at out₀ from to) (copies (n - (k + 1)) (gap ++ bytes_at out₀ from to)) refl after-gap (wrote_as still B);
        }
