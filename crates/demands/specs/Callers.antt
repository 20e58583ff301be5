-- (02, Paper 9) The quote page with 256 pairs and the account desk with 4,096: what is said of two calls, one of each, from their contracts.
use Rattle.std.specs.Prelude.{◌≡◌, ◌⊎◌, ◌↔◌, Bool, List, ℕ, ◌≤◌, ◌<◌, length, take}
use Rattle.std.proofs.Math.Path.{refl, sym, ap}
use Rattle.std.proofs.Common.{◌∙◌, arith}
use Rattle.std.proofs.Math.Logic.{inl, inr}
use Rattle.spec.specs.Image.{tables_of}
use Rattle.spec.specs.Run.{limits_for}
use Rattle.spec.specs.Listing.{listing_of}
use Rattle.spec.specs.Merge.{merge_for, output_after}
use Rattle.spec.specs.declared.Caller.TheVariants.{Page, Desk}
use Rattle.laws.specs.Results.{ok-inj}
use Rattle.pools.specs.Refused.{NoLess}
use Rattle.lgg.specs.Pairs.{PairCount}
use Rattle.lgg.specs.Limits.{run-same, skipped-same, merge-or-twelve}
use Rattle.pair_search.specs.declared.Pair.{Pair}
use Rattle.contract.specs.declared.Answer.{Answer}
use Rattle.contract.specs.declared.Answer.TheVariants.{Listing, Refused}
use Rattle.contract.specs.Merges.{Merges}
use Rattle.demands.specs.Calls.{Taken, shown, refused-iff, Accepted, accepted}
use Rattle.demands.specs.Refusals.{refused-1, refused-12, run-12-only-beyond, refused-12-beyond, answer-tells}

-- the page's limits are the desk's, but for the pairs
pub page-less : NoLess (limits_for Page) (limits_for Desk)
page-less = record { pairs = omega arith; terms = omega arith; runs = omega arith }

-- ---- "Refusal 12 is returned at the caller's own limit, one of these two"
module _ (image : List ℕ) (left right budget : ℕ) (fit : Bool) (out out' : List ℕ) (r : Answer) where
  -- the quote page "may hold 256 pairs": 12 only where the queried pair has more
  pub page-12-only-beyond : Merges Page image left right budget fit out out' r → r ≡ Refused 12 → (n : ℕ) → PairCount (tables_of image) (left, right) n → 256 < n
  page-12-only-beyond m e n c = run-12-only-beyond Page image left right budget fit out out' r m n c ((refused-12 Page image left right budget fit out out' r m).0 e).1

  -- .. and where it has, with 256 checks or more
  pub page-12-beyond : Merges Page image left right budget fit out out' r → Taken fit image left right → (n : ℕ) → PairCount (tables_of image) (left, right) n → 256 < n → 256 ≤ budget → r ≡ Refused 12
  page-12-beyond m = refused-12-beyond Page image left right budget fit out out' r m

  -- "the account desk keeps 4,096"
  pub desk-12-only-beyond : Merges Desk image left right budget fit out out' r → r ≡ Refused 12 → (n : ℕ) → PairCount (tables_of image) (left, right) n → 4096 < n
  desk-12-only-beyond m e n c = run-12-only-beyond Desk image left right budget fit out out' r m n c ((refused-12 Desk image left right budget fit out out' r m).0 e).1

  pub desk-12-beyond : Merges Desk image left right budget fit out out' r → Taken fit image left right → (n : ℕ) → PairCount (tables_of image) (left, right) n → 4096 < n → 4096 ≤ budget → r ≡ Refused 12
  desk-12-beyond m = refused-12-beyond Desk image left right budget fit out out' r m

-- ---- "A query that both accept gives both the same bytes": the same image, classes and budget; each call has its own buffers
module _ (image : List ℕ) (left right budget : ℕ) (fit fit₂ : Bool) (out out' out₂ out₂' : List ℕ) (n : ℕ) (page : Merges Page image left right budget fit out out' (Listing n)) where
  -- the run behind the page's listing
  abbrev a : Accepted Page image left right budget fit out out' n
  a = accepted Page image left right budget fit out out' n page

  -- it is the desk's too, and prints the same
  pub desk-shows : shown Desk image left right budget a.o ≡ shown Page image left right budget a.o
  desk-shows = ap (λ (k : ℕ). listing_of k a.o) (skipped-same (limits_for Page) (limits_for Desk) page-less (tables_of image) (left, right) budget a.o a.ran)

  pub same-bytes : (n₂ : ℕ) → Merges Desk image left right budget fit₂ out₂ out₂' (Listing n₂) → (n ≡ n₂) × (take n out' ≡ take n₂ out₂')
  same-bytes n₂ desk =
      let z = accepted Desk image left right budget fit₂ out₂ out₂' n₂ desk in
      let q : z.o ≡ a.o = ok-inj (sym z.ran ∙ run-same (limits_for Page) (limits_for Desk) page-less (tables_of image) (left, right) budget a.o a.ran) in
      let w : shown Desk image left right budget z.o ≡ shown Page image left right budget a.o = ap (shown Desk image left right budget) q ∙ desk-shows in
      (a.long ∙ ap length (sym w) ∙ sym z.long, a.listed ∙ sym w ∙ sym z.listed)

-- ---- both callers lent buffers that fit in both calls or in neither, and the same output
module _ (image : List ℕ) (left right budget : ℕ) (fit : Bool) (out out₁ out₂ : List ℕ) (r₁ r₂ : Answer) (page : Merges Page image left right budget fit out out₁ r₁) (desk : Merges Desk image left right budget fit out out₂ r₂) where
  -- The page is refused by 12, or it has the desk's answer, be it a listing or a refusal, and leaves the desk's output.
  pub page-or-12 : (r₁ ≡ Refused 12) ⊎ ((r₁ ≡ r₂) × (out₁ ≡ out₂))
  unfolding merge_for
  page-or-12 = elim (merge-or-twelve (limits_for Page) (limits_for Desk) (omega arith) refl refl fit image left right budget (length out)) [
    | inl e ↦ inl ((refused-iff Page image left right budget fit out out₁ r₁ page 12 (λ z. absurd (omega arith))).1 e)
    | inr e ↦ inr (answer-tells image out₁ out₂ r₁ r₂ (page.answer ∙ e ∙ sym desk.answer) page.carries desk.carries, page.output ∙ ap (output_after out) e ∙ sym desk.output)
  ]

-- ---- "whatever the quote page accepts, the desk accepts with equal work and output buffers": lent the same, it writes the same listing and leaves every buffer as the page does
pub record AsThePage (n : ℕ) (r : Answer) (out₁ out₂ : List ℕ) (table₁ table₂ : List Pair) (a₁ a₂ b₁ b₂ c₁ c₂ d₁ d₂ e₁ e₂ f₁ f₂ : List ℕ) : Type 0 where
  pub answer : r ≡ Listing n
  pub output : out₂ ≡ out₁
  pub table : table₂ ≡ table₁
  pub graph : a₂ ≡ a₁
  pub pairs : b₂ ≡ b₁
  pub work : c₂ ≡ c₁
  pub flow : d₂ ≡ d₁
  pub terms : e₂ ≡ e₁
  pub runs : f₂ ≡ f₁

-- ---- "the work buffers' constant lengths are the same for both": whatever is asked, refusal 1 depends on these lengths alone (`fit`) and not on the caller
pub same-lengths : (fit : Bool) (image image₂ : List ℕ) (left right budget left₂ right₂ budget₂ : ℕ) (out out' out₂ out₂' : List ℕ) (r r₂ : Answer)
    → Merges Page image left right budget fit out out' r → Merges Desk image₂ left₂ right₂ budget₂ fit out₂ out₂' r₂ → (r ≡ Refused 1) ↔ (r₂ ≡ Refused 1)
same-lengths fit image image₂ left right budget left₂ right₂ budget₂ out out' out₂ out₂' r r₂ page desk =
    let i = refused-1 Page image left right budget fit out out' r page in
    let j = refused-1 Desk image₂ left₂ right₂ budget₂ fit out₂ out₂' r₂ desk in
    (λ e. j.1 (i.0 e), λ e. i.1 (j.0 e))
