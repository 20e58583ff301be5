-- What building leaves in the array before it is cleared where it is not built in full.
use Rattle.std.specs.Prelude.{◌≡◌, List, map, ℕ, Option, Some, None}
use Rattle.spec.specs.Bytes.{sum, Limits, Two, Res, ok, refused, Checked, passed, cut_short}
use Rattle.spec.specs.Image.{Tables}
use Rattle.spec.specs.Action.{skipped_at}
use Rattle.spec.specs.System.{turned_from}
use Rattle.spec.specs.Pairs.{pairs}
use Rattle.spec.specs.Meaning.{In}
use Rattle.laws.specs.BestMembers.{IsPair}
use Rattle.arrays.specs.Arrays.{pairs_in}
use Rattle.budget.specs.declared.Budget.{Budget}
use Rattle.entering.specs.Growing.{Graph}
use Rattle.graph.specs.declared.Built.{Built}
use Rattle.graph.specs.declared.Built.TheVariants.{All, Cut}

-- All of the graph stands in the array.
pub record Whole (lim : Limits) (w : ℕ) (g : Res (Checked (List Two))) (n : ℕ) (b : Budget) (graph : List ℕ) : Type 0 where
  pub leads : g ≡ ok (passed (pairs_in w graph n) b.left)
  pub holds : Graph lim w n graph

-- (02, Paper 7) how many monomial pairs are passed over from pair i's turn on
abbrev pub skipped_from : Limits → ℕ → Tables → List Two → ℕ → ℕ
skipped_from lim b t ps i = sum (map (skipped_at t) (turned_from (pairs t) lim.pairs b ps i))

-- What building from the pairs at hand leaves, by its answer, where k monomial pairs are passed over; the array is open where it is not built in full.
abbrev pub EndsAs : Limits → ℕ → ℕ → Res (Checked (List Two)) → List ℕ → Option Built → Type 0
EndsAs lim w k g graph (Some (All n b j)) = Whole lim w g n b graph × (j ≡ k)
EndsAs lim w k g graph (Some (Cut j)) = (g ≡ ok cut_short) × (j ≡ k)
EndsAs lim w k g graph None = g ≡ refused 12

pub record Ends (lim : Limits) (w k : ℕ) (g : Res (Checked (List Two))) (graph : List ℕ) (x : Option Built) : Type 0 where
  pub says : EndsAs lim w k g graph x

-- Every pair is of classes of the image.
abbrev pub AllPairs : Tables → List Two → Type 0
AllPairs t l = (p : Two) → In p l → IsPair t p
