-- Equal listings have equal terms: the bytes tell the whole formula, and not its first line alone.
use Rattle.std.specs.Prelude.{◌≡◌, Bool, take}
use Rattle.std.proofs.Math.Path.{sym}
use Rattle.std.proofs.Common.{◌∙◌}
use mathlib.Core.List.{List}
use Prim.Native.Nat.{ℕ, ◌<◌}
use Rattle.std.proofs.Math.ListN.{length}
use Rattle.spec.specs.Run.{Outcome}
use Rattle.spec.specs.declared.Caller.{Caller}
use Rattle.spec.specs.Listing.{listing_of}
use Rattle.spec.specs.Meaning.{tree_at}
use Rattle.pools.specs.Pool.{PoolValid}
use Rattle.contract.specs.declared.Answer.TheVariants.{Listing}
use Rattle.contract.specs.Merges.{Merges}
use Rattle.demands.specs.Calls.{passed_over, accepted}
use Rattle.demands.specs.Demand2 as D
use Rattle.demands.specs.FirstLine.{SameReport, first-line-cut}
use Rattle.demands.specs.ListingTells.{root-tree}

-- Two listings of the same bytes have the same first line and the same term.
pub listing-tells : (k j : ℕ) (o u : Outcome) → PoolValid o.pool → PoolValid u.pool → o.root < length o.pool → u.root < length u.pool → listing_of k o ≡ listing_of j u
    → SameReport k j o u × (tree_at o.pool o.root ≡ tree_at u.pool u.root)
unfolding listing_of
listing-tells k j o u v w h i e =
    let (r, l) = first-line-cut k j o u _ _ e in
    (r, root-tree o.pool u.pool v w o.root u.root h i l)

-- ---- of two calls
-- Two calls that print the same bytes have the same formula and the same number of pairs passed over, whatever their callers, images, queries and buffers: `D.o` is the run behind a call's listing.
pub same-bytes-same-formula : (who who₂ : Caller) (image image₂ : List ℕ) (left right budget left₂ right₂ budget₂ : ℕ) (fit fit₂ : Bool) (out out' out₂ out₂' : List ℕ) (n n₂ : ℕ)
    → (m : Merges who image left right budget fit out out' (Listing n)) (m₂ : Merges who₂ image₂ left₂ right₂ budget₂ fit₂ out₂ out₂' (Listing n₂)) → take n out' ≡ take n₂ out₂'
    → SameReport (passed_over who image left right budget) (passed_over who₂ image₂ left₂ right₂ budget₂) (D.o who image left right budget fit out out' n m) (D.o who₂ image₂ left₂ right₂ budget₂ fit₂ out₂ out₂' n₂ m₂)
    × (tree_at (D.o who image left right budget fit out out' n m).pool (D.o who image left right budget fit out out' n m).root ≡ tree_at (D.o who₂ image₂ left₂ right₂ budget₂ fit₂ out₂ out₂' n₂ m₂).pool (D.o who₂ image₂ left₂ right₂ budget₂ fit₂ out₂ out₂' n₂ m₂).root)
same-bytes-same-formula who who₂ image image₂ left right budget left₂ right₂ budget₂ fit fit₂ out out' out₂ out₂' n n₂ m m₂ e =
    let (v, h) = D.the_term who image left right budget fit out out' n m in
    let (w, k) = D.the_term who₂ image₂ left₂ right₂ budget₂ fit₂ out₂ out₂' n₂ m₂ in
    listing-tells _ _ _ _ v w h k (sym (accepted who image left right budget fit out out' n m).listed ∙ e ∙ (accepted who₂ image₂ left₂ right₂ budget₂ fit₂ out₂ out₂' n₂ m₂).listed)
