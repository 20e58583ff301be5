-- What a call of `merge` gives and leaves: the contract of the public function.
use Rattle.std.specs.Prelude.{◌≡◌, Bool, List, ℕ, leb, length}
use Rattle.spec.specs.Bytes.{both}
use Rattle.spec.specs.Merge.{merge_for, output_after}
use Rattle.spec.specs.declared.Caller.{Caller}
use Rattle.pair_search.specs.declared.Pair.{Pair}
use Rattle.contract.specs.declared.Answer.{Answer}
use Rattle.contract.specs.Answers.{answer_of, Carries}

-- The constant lengths of the work buffers (docs/BUFFERS.md): whether none is "below its constant length". (02, Paper 9) "the work buffers' constant lengths are the same for both" callers.
abbrev pub fit_of : ℕ → ℕ → ℕ → ℕ → ℕ → ℕ → ℕ → Bool
fit_of table graph pairs work flow terms runs =
    both (leb 256 table) (both (leb 4352 graph) (both (leb 1536 pairs) (both (leb 1024 work) (both (leb 256 flow) (both (leb 3074 terms) (leb 1024 runs))))))

abbrev pub fits : List Pair → List ℕ → List ℕ → List ℕ → List ℕ → List ℕ → List ℕ → Bool
fits table graph pairs work flow terms runs = fit_of (length table) (length graph) (length pairs) (length work) (length flow) (length terms) (length runs)

-- A call of the caller c. `fit`: no work buffer is below its constant length; `out`, `out'`: the output buffer before and after the call.
pub record Merges (c : Caller) (image : List ℕ) (left right budget : ℕ) (fit : Bool) (out out' : List ℕ) (r : Answer) : Type 0 where
  pub answer : answer_of out' r ≡ merge_for c fit image left right budget (length out)
  pub output : out' ≡ output_after out (merge_for c fit image left right budget (length out))
  pub carries : Carries image out' r
