-- (02, Paper 9) The quote page with 256 pairs and the account desk with 4,096: what is said of two calls, one of each, from their contracts.
use Rattle.std.specs.Prelude.{◌≡◌, ◌⊎◌, Bool, true, List, ℕ, ◌≤◌, length, take}
use Rattle.std.proofs.Math.Path.{sym, ap}
use Rattle.std.proofs.Common.{◌∙◌, arith}
use Rattle.std.proofs.Math.Logic.{inl, inr}
use Rattle.spec.specs.Image.{tables_of}
use Rattle.spec.specs.Run.{limits_for}
use Rattle.spec.specs.declared.Caller.TheVariants.{Page, Desk}
use Rattle.laws.specs.Results.{refused-ok}
use Rattle.lgg.specs.Pairs.{PairCount}
use Rattle.lgg.specs.Limits.{run-same}
use Rattle.pair_search.specs.declared.Pair.{Pair}
use Rattle.contract.specs.declared.Answer.{Answer}
use Rattle.contract.specs.declared.Answer.TheVariants.{Listing, Refused}
use Rattle.contract.specs.Merges.{Merges}
use Rattle.contract.specs.Answers.{answer_of, Cleared, Table}
use Rattle.demands.specs.Calls.{Accepted, accepted}
use Rattle.demands.specs.Refusals.{listing-where}
use Rattle.demands.specs.Callers.{page-less, page-12-only-beyond, desk-shows, same-bytes, page-or-12, AsThePage}

module _ (image : List ℕ) (left right budget : ℕ) (fit fit₂ : Bool) (out out' out₂ out₂' : List ℕ) (n : ℕ) (page : Merges Page image left right budget fit out out' (Listing n)) where
  abbrev a : Accepted Page image left right budget fit out out' n
  a = accepted Page image left right budget fit out out' n page

  -- ---- "whatever the quote page accepts, the desk accepts": with whatever buffers, if no work buffer is too short and the output has room for the listing
  pub page-then-desk-any : (r : Answer) → Merges Desk image left right budget fit₂ out₂ out₂' r → fit₂ ≡ true → n ≤ length out₂ → (r ≡ Listing n) × (take n out₂' ≡ take n out')
  page-then-desk-any r desk f h =
      let (k, e) =
      (listing-where Desk image left right budget fit₂ out₂ out₂' r desk).1
      (record { fits = f; sound = a.taken.sound; asked = a.taken.asked }, (a.o, run-same (limits_for Page) (limits_for Desk) page-less (tables_of image) (left, right) budget a.o a.ran, rw (desk-shows image left right budget fit fit₂ out out' out₂ out₂' n page, ← a.long) h)) in
      let (s, t) = same-bytes image left right budget fit fit₂ out out' out₂ out₂' n page k (rw e at desk) in
      (e ∙ ap Listing (sym s), ap (λ (i : ℕ). take i out₂') s ∙ sym t)

module _ (image : List ℕ) (left right budget : ℕ) (fit : Bool) (out out₁ out₂ : List ℕ) (r₁ r₂ : Answer) (page : Merges Page image left right budget fit out out₁ r₁) (desk : Merges Desk image left right budget fit out out₂ r₂) where
  -- "for small tariffs": where the queried pair has at most 256 pairs, the page has the desk's answer and leaves the desk's output.
  pub small-alike : (n : ℕ) → PairCount (tables_of image) (left, right) n → n ≤ 256 → (r₁ ≡ r₂) × (out₁ ≡ out₂)
  small-alike n c h = elim (page-or-12 image left right budget fit out out₁ out₂ r₁ r₂ page desk) [ inl e ↦ absurd (omega (arith, page-12-only-beyond image left right budget fit out out₁ r₁ page e n c)) | inr e ↦ e ]

pub page-then-desk : (image : List ℕ) (left right budget : ℕ) (fit : Bool) (out out₁ out₂ : List ℕ) (n : ℕ) (r : Answer) → Merges Page image left right budget fit out out₁ (Listing n) → Merges Desk image left right budget fit out out₂ r
    → (table table₁ table₂ : List Pair) → Table fit table table₁ → Table fit table table₂
    → {a a₁ a₂ b b₁ b₂ c c₁ c₂ d d₁ d₂ e e₁ e₂ f f₁ f₂ : List ℕ} → Cleared fit a a₁ b b₁ c c₁ d d₁ e e₁ f f₁ → Cleared fit a a₂ b b₂ c c₂ d d₂ e e₂ f f₂
    → AsThePage n r out₁ out₂ table₁ table₂ a₁ a₂ b₁ b₂ c₁ c₂ d₁ d₂ e₁ e₂ f₁ f₂
page-then-desk image left right budget fit out out₁ out₂ n r page desk table table₁ table₂ t u k j =
    let (s, o) = taken (page-or-12 image left right budget fit out out₁ out₂ (Listing n) r page desk) in
    record {
      answer = sym s;
      output = sym o;
      table = u ∙ sym t;
      graph = j.graph ∙ sym k.graph;
      pairs = j.pairs ∙ sym k.pairs;
      work = j.work ∙ sym k.work;
      flow = j.flow ∙ sym k.flow;
      terms = j.terms ∙ sym k.terms;
      runs = j.runs ∙ sym k.runs;
    }
  where
    -- a listing is not 12
    taken : (Listing n ≡ Refused 12) ⊎ ((Listing n ≡ r) × (out₁ ≡ out₂)) → (Listing n ≡ r) × (out₁ ≡ out₂)
    taken (inl e) = absurd (refused-ok (sym (ap (answer_of out₁) e)))
    taken (inr e) = e
