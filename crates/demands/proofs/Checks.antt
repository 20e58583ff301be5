-- (02, Paper 13) Checks spent, and the fleets turned round, of calls of `merge`, from their contracts.
use Rattle.std.specs.Prelude.{◌≡◌, Bool, true, List, ℕ}
use Rattle.std.proofs.Math.Path.{refl}
use Rattle.spec.specs.Image.{tables_of}
use Rattle.spec.specs.Run.{Outcome}
use Rattle.spec.specs.declared.Caller.{Caller}
use Rattle.spec.specs.Listing.{reported, first_line}
use Rattle.contract.specs.declared.Answer.TheVariants.{Listing}
use Rattle.contract.specs.Merges.{Merges}
use Rattle.demands.specs.Calls.{passed_over, accepted}
use Rattle.demands.proofs.SkippedPairs.{many-turned}
use Rattle.demands.proofs.Skipped.{counts-complete}
use Rattle.demands.specs.Checks.{turned_round}

module _ (who who₂ : Caller) (image : List ℕ) (left right b c : ℕ) (fit fit₂ : Bool) (out out' out₂ out₂' : List ℕ) (n n₂ : ℕ) (m : Merges who image left right b fit out out' (Listing n)) (m₂ : Merges who₂ image right left c fit₂ out₂ out₂' (Listing n₂)) where
  abbrev x : Outcome
  x = (accepted who image left right b fit out out' n m).o

  abbrev y : Outcome
  y = (accepted who₂ image right left c fit₂ out₂ out₂' n₂ m₂).o

  -- They skip as many monomial pairs
  pub turned-skipped : x.complete ≡ true → y.complete ≡ true → passed_over who image left right b ≡ passed_over who₂ image right left c
  turned-skipped e f =
      many-turned (tables_of image) (left, right) (passed_over who image left right b) (passed_over who₂ image right left c)
      (counts-complete who image left right b fit out out' n m e) (counts-complete who₂ image right left c fit₂ out₂ out₂' n₂ m₂ f)

  -- .. so that their first lines have the same bytes.
  pub turned-first-line : x.complete ≡ true → y.complete ≡ true → first_line (passed_over who image left right b) x ≡ first_line (passed_over who₂ image right left c) y
  unfolding first_line reported
  turned-first-line e f =
      let A = turned_round who who₂ image left right b c fit fit₂ out out' out₂ out₂' n n₂ m m₂ e f in
      rw (e, f, A.nodes, A.rounds, A.quality, A.checks, turned-skipped e f) refl
