-- The merge at given limits: the contract of `merge_under`.
use Rattle.std.specs.Prelude.{◌≡◌, List, ℕ, ◌*◌, ◌≤◌, leb, length}
use Rattle.spec.specs.Bytes.{Limits, Res, ok, ◌>>=◌, rule}
use Rattle.spec.specs.System as system
use Rattle.spec.specs.Graph.{skipped_in}
use Rattle.spec.specs.Run.{run_of}
use Rattle.spec.specs.Listing.{listing_of}
use Rattle.spec.specs.Merge.{output_after}
use Rattle.query.specs.Settings.{asked_of}
use Rattle.query.specs.declared.Query.{Query}
use Rattle.arrays.specs.Arrays.{Scratch}
use Rattle.terms.specs.Chains.{Rooms}
use Rattle.prepare.specs.Preparing.{accepted_of}
use Rattle.contract.specs.declared.Answer.{Answer}
use Rattle.contract.specs.Answers.{answer_of, Carries}

-- `merge_under` past 1 (crate spec), but refused 13 too where the graph's array of m numbers has no room for the classes of the image
unfoldable pub merge_at : Limits → ℕ → List ℕ → Query → ℕ → Res (List ℕ)
unfolding accepted_of listing_of system.run_of skipped_in
merge_at lim m image q room = do
  t ← accepted_of lim m image q
  o ← run_of lim t (asked_of q) q.budget
  let l = listing_of (skipped_in lim t (asked_of q) q.budget) o
  _ ← rule 14 (leb (length l) room)
  ok l

-- buffers with room for a run within the limits, but for the classes that the graph's index takes
pub record Roomy (lim : Limits) (graph pairs work flow terms runs : List ℕ) : Type 0 where
  pub marks : 2 * lim.terms ≤ length graph
  pub numbers : 6 * lim.pairs ≤ length pairs
  pub scratch : Scratch lim work flow
  pub rooms : Rooms lim terms runs

-- `out`, `out'`: the output buffer before and after the call
pub record MergesUnder (lim : Limits) (m : ℕ) (image : List ℕ) (q : Query) (out out' : List ℕ) (r : Answer) : Type 0 where
  pub answer : answer_of out' r ≡ merge_at lim m image q (length out)
  pub output : out' ≡ output_after out (merge_at lim m image q (length out))
  pub carries : Carries image out' r
