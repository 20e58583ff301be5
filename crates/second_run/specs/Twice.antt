-- A call's second run: where the first met a limit that is not the caller's own, once more at the caller's limits.
use Rattle.std.specs.Prelude.{◌≡◌, Bool, true, false, List, ℕ, ◌+◌, ◌*◌, ◌≤◌, length}
use Rattle.spec.specs.Run.{limit_of}
use Rattle.spec.specs.declared.Caller.{Caller}
use Rattle.query.specs.declared.Query.{Query}
use Rattle.contract.specs.declared.Answer.{Answer}
use Rattle.contract.specs.Merges.{Merges}

-- arrays with room for every run within the caller's limits, and for 256 classes
pub record Full (who : Caller) (a b c d e f : List ℕ) : Type 0 where
  pub graph : 65536 + limit_of who ≤ length a
  pub pairs : 6 * limit_of who ≤ length b
  pub work : 4 * limit_of who ≤ length c
  pub flow : limit_of who ≤ length d
  pub terms : 66562 ≤ length e
  pub runs : 65536 ≤ length f

-- what is answered after the first run's answer a: a itself, or where a limit was met that is not the caller's own what the call answers
abbrev pub Settles : Bool → List ℕ → Query → Answer → List ℕ → List ℕ → Answer → Type 0
Settles false image q a out out' r = (r ≡ a) × (out' ≡ out)
Settles true image q a out out' r = Merges q.caller image q.left q.right q.budget true out out' r
