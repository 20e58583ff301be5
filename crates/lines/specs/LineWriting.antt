-- A line written piece by piece (its number, its head, its runs, a line feed).
use Rattle.std.specs.Prelude.{◌≡◌, List, [], ◌∷◌, ◌++◌, ℕ, ◌+◌, ◌-◌, ◌≤◌, ◌<◌, length}
use Rattle.spec.specs.Bytes.{decimal}
use Rattle.terms.specs.Buffers.{first_in, head_in, value_in}
use Rattle.terms.specs.Chains.{Holds}
use Rattle.decimals.specs.Writing.{Wrote}
use Rattle.decimals.specs.WriteLaws.{room-first, room-second, wrote-both}
use Rattle.widths.specs.Lines.{head_bytes, runs_in, term_in, line_in, Ready}
use Rattle.widths.specs.WidthLaws.{line-pieces}

module _ (terms runs w : List ℕ) (n k : ℕ) (H : Holds terms runs) (Y : Ready terms runs w n) (b : k < n) {t : ℕ} (e : t ≡ term_in w k) {from to : ℕ} (f : from ≡ first_in terms t) (g : to ≡ first_in terms (t + 1)) {h v : ℕ} (p : h ≡ head_in terms t) (q : v ≡ value_in terms t) where
  abbrev R : List ℕ
  R = runs_in runs w from (to - from)

  pieces : line_in terms runs w k ≡ decimal k ++ (head_bytes h v ++ (R ++ (10 ∷ [])))
  pieces = line-pieces terms runs w n k H Y b e f g p q

  module _ (out : List ℕ) (at : ℕ) (room : at + length (line_in terms runs w k) ≤ length out) where
    k₀ : at + length (decimal k ++ (head_bytes h v ++ (R ++ (10 ∷ [])))) ≤ length out
    k₀ = rw (← pieces) room

    module _ {o₁ : List ℕ} {a₁ : ℕ} (W₁ : Wrote (decimal k) out at o₁ a₁) where
      k₁ : a₁ + length (head_bytes h v ++ (R ++ (10 ∷ []))) ≤ length o₁
      k₁ = room-second (decimal k) (head_bytes h v ++ (R ++ (10 ∷ []))) out at k₀ W₁

      pub head-room : a₁ + length (head_bytes h v) ≤ length o₁
      head-room = room-first (head_bytes h v) (R ++ (10 ∷ [])) o₁ a₁ k₁

      module _ {o₂ : List ℕ} {a₂ : ℕ} (W₂ : Wrote (head_bytes h v) o₁ a₁ o₂ a₂) where
        k₂ : a₂ + length (R ++ (10 ∷ [])) ≤ length o₂
        k₂ = room-second (head_bytes h v) (R ++ (10 ∷ [])) o₁ a₁ k₁ W₂

        pub runs-room : a₂ + length (runs_in runs w from (to - from)) ≤ length o₂
        runs-room = room-first R (10 ∷ []) o₂ a₂ k₂

        module _ {o₃ : List ℕ} {a₃ : ℕ} (W₃ : Wrote (runs_in runs w from (to - from)) o₂ a₂ o₃ a₃) where
          pub feed-room : a₃ + length {A = ℕ} (10 ∷ []) ≤ length o₃
          feed-room = room-second R (10 ∷ []) o₂ a₂ k₂ W₃

          pub line_wrote : {o₄ : List ℕ} {a₄ : ℕ} → Wrote (10 ∷ []) o₃ a₃ o₄ a₄ → Wrote (line_in terms runs w k) out at o₄ a₄
          line_wrote W₄ =
              rw pieces (wrote-both (decimal k) (head_bytes h v ++ (R ++ (10 ∷ []))) out at k₀ W₁
              (wrote-both (head_bytes h v) (R ++ (10 ∷ [])) o₁ a₁ k₁ W₂
              (wrote-both R (10 ∷ []) o₂ a₂ k₂ W₃ W₄)))

pub number-room : (terms runs w out : List ℕ) (at k : ℕ) → at + length (line_in terms runs w k) ≤ length out → at + length (decimal k) ≤ length out
unfolding line_in
number-room terms runs w out at k h =
    let t = term_in w k in
    room-first (decimal k) (head_bytes (head_in terms t) (value_in terms t) ++ (runs_in runs w (first_in terms t) (first_in terms (t + 1) - first_in terms t) ++ (10 ∷ []))) out at h
