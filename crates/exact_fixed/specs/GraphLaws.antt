-- A graph that is built in full, in the array that building leaves.
use Rattle.std.specs.Prelude.{◌≡◌, refl, List, ℕ, ◌+◌, ◌*◌, ◌≤◌, length, replicate}
use Rattle.std.proofs.Common.{arith}
use Rattle.std.proofs.lemmas.List.{length-replicate}
use Rattle.spec.specs.Bytes.{Two, Limits, ok, passed}
use Rattle.spec.specs.Image.{Tables}
use Rattle.spec.specs.Graph.{build}
use Rattle.laws.specs.Valid.{Valid}
use Rattle.laws.specs.BestMembers.{IsPair}
use Rattle.entering.specs.Entered.{entered}
use Rattle.entering.specs.EnteredLaws.{entered-length}
use Rattle.graph.specs.Built.{built-distinct, built-closed, built-some, built-few, built-below, built-within, built-number}
use Rattle.rounds.specs.Graphs.{Graphs}

pub graphs-built : (lim : Limits) (t : Tables) → Valid t → (p : Two) → IsPair t p → (b c : ℕ) (ps : List Two) → build lim t p b ≡ ok (passed ps c) → (w : ℕ) → length t.classes ≡ w → (m : ℕ) → w * w + lim.pairs ≤ m
    → Graphs lim t w ps (length ps) (entered w 0 ps (replicate m 0))
graphs-built lim t v p i b c ps e w k m wide = record {
  many = refl;
  some = built-some lim t p b c ps e;
  few = built-few lim t p b c ps e;
  wide = omega (arith, entered-length w 0 ps (replicate m 0), length-replicate {A = ℕ} m 0);
  classes = omega arith;
  below = built-below lim t p b c ps e v i w k m wide;
  numbers = built-number lim t p b c ps e v i w k m wide;
  closed = built-closed lim t p b c ps e;
  once = built-distinct lim t p b c ps e;
  pairs = built-within lim t p b c ps e v i;
}
