-- The cells of a transport are distinct pairs of the graph: so rows × columns are no more than the graph's pairs, and need no limit of their own.
use Rattle.std.specs.Prelude.{◌≡◌}
use Rattle.std.proofs.Common.{arith}
use mathlib.Core.List.{List}
use Prim.Native.Nat.{ℕ}
use Rattle.spec.specs.Bytes.{Two, Limits, ok, passed}
use Rattle.spec.specs.Image.{Tables}
use Rattle.spec.specs.Pairs.{pairs}
use Rattle.spec.specs.Graph.{build}
use Rattle.spec.specs.Meaning.{In}
use Rattle.steps.specs.Graph.{build-closed, build-few}
use Rattle.lgg.specs.Cells.{CellsFit, cells-within}

pub cells-few : (lim : Limits) (t : Tables) (root : Two) (b c : ℕ) (ps : List Two) → build lim t root b ≡ ok (passed ps c) → (p : Two) → In p ps → CellsFit lim t p
cells-few lim t root b c ps e p i a h = omega (arith, cells-within t ps (build-closed (pairs t) lim.pairs root b c ps e) p i a h, build-few (pairs t) lim.pairs root b c ps e)
