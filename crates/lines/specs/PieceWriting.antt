-- The pieces of a line: how they are written.
use Rattle.std.specs.Prelude.{◌≡◌, List, ◌++◌, ℕ, ◌+◌, ◌*◌, ◌-◌, ◌/◌, ◌%◌, ◌≤◌, length, get_or}
use Rattle.spec.specs.Bytes.{text, decimal}
use Rattle.decimals.specs.Writing.{Wrote}
use Rattle.decimals.specs.WriteLaws.{room-first, room-second, wrote-both}
use Rattle.widths.specs.Lines.{run_in, head_bytes}
use Rattle.widths.specs.WidthLaws.{run_is, head-lit, head-variants, head-op}

-- ---- a run
module _ (w : List ℕ) (r : ℕ) {a v : ℕ} (e : a ≡ r % 16384) (f : v ≡ get_or w (2 * a) 0 - 1) (out : List ℕ) (at : ℕ) (k : at + length (run_in w r) ≤ length out) where
  room : at + length ((text " " ++ decimal v) ++ (text ":" ++ decimal (r / 16384))) ≤ length out
  room = rw (← run_is w r e f) k

  pub run-first : at + length (text " " ++ decimal v) ≤ length out
  run-first = room-first (text " " ++ decimal v) (text ":" ++ decimal (r / 16384)) out at room

  pub run-second : {out' : List ℕ} {n : ℕ} → Wrote (text " " ++ decimal v) out at out' n → n + length (text ":" ++ decimal (r / 16384)) ≤ length out'
  run-second A = room-second (text " " ++ decimal v) (text ":" ++ decimal (r / 16384)) out at room A

  pub run-wrote : {out' : List ℕ} {n : ℕ} {out'' : List ℕ} {s : ℕ} → Wrote (text " " ++ decimal v) out at out' n → Wrote (text ":" ++ decimal (r / 16384)) out' n out'' s → Wrote (run_in w r) out at out'' s
  run-wrote A B = rw (run_is w r e f) (wrote-both (text " " ++ decimal v) (text ":" ++ decimal (r / 16384)) out at room A B)

-- ---- a head
abbrev lit_first : ℕ → List ℕ
lit_first h = text " lit " ++ decimal (h % 64)

abbrev lit_second : ℕ → List ℕ
lit_second v = text " " ++ decimal v

module _ (h v : ℕ) (out : List ℕ) (at : ℕ) (k : at + length (head_bytes h v) ≤ length out) where
  module _ (e : h / 64 ≡ 1) where
    room-lit : at + length ((text " lit " ++ decimal (h % 64)) ++ (text " " ++ decimal v)) ≤ length out
    room-lit = rw (← head-lit h v e) k

    pub lit-first : at + length (text " lit " ++ decimal (h % 64)) ≤ length out
    lit-first = room-first (lit_first h) (lit_second v) out at room-lit

    pub lit-second : {out' : List ℕ} {n : ℕ} → Wrote (text " lit " ++ decimal (h % 64)) out at out' n → n + length (text " " ++ decimal v) ≤ length out'
    lit-second A = room-second (lit_first h) (lit_second v) out at room-lit A

    pub lit-wrote : {out' : List ℕ} {n : ℕ} {out'' : List ℕ} {s : ℕ} → Wrote (text " lit " ++ decimal (h % 64)) out at out' n → Wrote (text " " ++ decimal v) out' n out'' s → Wrote (head_bytes h v) out at out'' s
    lit-wrote A B = rw (head-lit h v e) (wrote-both (lit_first h) (lit_second v) out at room-lit A B)

  module _ (e : h / 64 ≡ 2) where
    pub variants-room : at + length (text " variants") ≤ length out
    variants-room = rw (← head-variants h v e) k

    pub variants-wrote : {out' : List ℕ} {n : ℕ} → Wrote (text " variants") out at out' n → Wrote (head_bytes h v) out at out' n
    variants-wrote A = rw (head-variants h v e) A

  module _ (d : h / 64 ≡ 1 → ⊥) (e : h / 64 ≡ 2 → ⊥) where
    pub op_room : at + length (text " op " ++ decimal (h % 64)) ≤ length out
    op_room = rw (← head-op h v d e) k

    pub op-wrote : {out' : List ℕ} {n : ℕ} → Wrote (text " op " ++ decimal (h % 64)) out at out' n → Wrote (head_bytes h v) out at out' n
    op-wrote A = rw (head-op h v d e) A
