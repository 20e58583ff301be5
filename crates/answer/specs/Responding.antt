-- What program `merge` writes for an input, as a function on lent buffers.
use Rattle.std.specs.Prelude.{◌≡◌, Bool, true, List, ℕ, ◌+◌, length, take}
use Rattle.std.proofs.Common.{◌∙◌}
use Rattle.spec.specs.Bytes.{be2, be4}
use Rattle.spec.specs.Merge.{OUTPUT, program_of}
use Rattle.spec.specs.declared.Caller.TheVariants.{Desk}
use Rattle.contract.specs.declared.Answer.{Answer}
use Rattle.contract.specs.Merges.{fit_of, Merges}
use Rattle.frames.specs.Printing.{Front}

-- the call for a framed input: program `merge` is the desk's
abbrev pub Asks : List ℕ → Bool → List ℕ → List ℕ → Answer → Type 0
Asks s fit out out' a = Merges Desk (take (be4 s 0 + 4) s) (be2 s (be4 s 0 + 4)) (be2 s (be4 s 0 + 4 + 2)) (be4 s (be4 s 0 + 4 + 4)) fit out out' a

-- the buffers that the program lends
pub record Rooms (a b c d e f out : List ℕ) : Type 0 where
  pub fit : fit_of 256 (length a) (length b) (length c) (length d) (length e) (length f) ≡ true
  pub output : length out ≡ OUTPUT

-- what the program writes
abbrev pub Responds : List ℕ → List ℕ → List ℕ → ℕ → Type 0
Responds input out out' r = Front (program_of input) out out' r

-- buffers as long as those
pub rooms-kept : {a b c d e f o a' b' c' d' e' f' o' : List ℕ} → Rooms a b c d e f o → length a' ≡ length a → length b' ≡ length b → length c' ≡ length c → length d' ≡ length d → length e' ≡ length e → length f' ≡ length f → length o' ≡ length o
    → Rooms a' b' c' d' e' f' o'
rooms-kept R p q r s t u v = record { fit = rw (p, q, r, s, t, u) R.fit; output = v ∙ R.output }
