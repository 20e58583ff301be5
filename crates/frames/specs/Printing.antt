-- What is printed of an answer.
use Rattle.std.specs.Prelude.{◌≡◌, List, ◌++◌, ℕ, ◌+◌, length, drop}
use Rattle.std.proofs.Common.{ap, ◌∙◌, arith}
use Rattle.decimals.specs.Writing.{Wrote}
use Rattle.contract.specs.declared.Answer.{Answer}
use Rattle.contract.specs.declared.Answer.TheVariants.{Listing, Refused, Doubled}
use Rattle.frames.specs.Frame.{refusal_bytes}

-- the bytes of l stand at the output's front; past them it is as it was
pub record Front (l out out' : List ℕ) (r : ℕ) : Type 0 where
  pub long : r ≡ length l
  pub bytes : out' ≡ l ++ drop (length l) out

-- what is printed of an answer: a listing is there already
abbrev pub Prints : List ℕ → List ℕ → Answer → ℕ → Type 0
Prints out out' (Listing n) r = (r ≡ n) × (out' ≡ out)
Prints out out' (Refused k) r = Front (refusal_bytes k) out out' r
Prints out out' (Doubled c) r = Front (refusal_bytes 10) out out' r

pub wrote-front : (l out out' : List ℕ) (r : ℕ) → Wrote l out 0 out' r → Front l out out' r
wrote-front l out out' r A =
    let z : 0 + length l ≡ length l = omega arith in
    record { long = A.after ∙ z; bytes = A.bytes ∙ ap (λ (n : ℕ). l ++ drop n out) z }

-- ---- by the answer
pub prints-as : (out out' : List ℕ) (a b : Answer) (r : ℕ) → a ≡ b → Prints out out' b r → Prints out out' a r
prints-as out out' a b r e P = rw e P
