-- From what a call of `tariff_merge` (the desk's) or `tariff_quote` (the quote page's) returns back to the contract of `merge`: so every theorem of crate `demands` holds of such calls, with `who` their caller.
use Rattle.std.specs.Prelude.{◌≡◌, refl, ◌≢◌, ◌⊎◌, Bool, List, ℕ, ◌≤◌}
use Rattle.std.proofs.Common.{sym, ap, ◌∙◌, inl, inr, arith, eq-eqb, ne_eqb}
use Rattle.std.proofs.Math.Decide.{ℕ_discrete}
use Rattle.spec.specs.Image.{tables_of}
use Rattle.spec.specs.Run.{Outcome}
use Rattle.spec.specs.declared.Caller.{Caller}
use Rattle.spec.specs.declared.Caller.TheVariants.{Page, Desk}
use Rattle.spec.specs.Meaning.{◌⊑◌, read_first, read_second, tree_at, Belongs}
use Rattle.contract.specs.declared.Answer.{Answer}
use Rattle.contract.specs.declared.Answer.TheVariants.{Listing, Refused, Doubled}
use Rattle.contract.specs.Merges.{Merges}
use Rattle.demands.specs.Demand2 as D2
use Rattle.demands.specs.Demand3 as D3
use Rattle.demands.specs.Callers as C
use Rattle.returned.specs.declared.Returned.{Returned}
use Rattle.returned.specs.Returns.{returned_of, Returns}

as-numbers : (r s : Returned) → r.number ≡ s.number → r.bytes ≡ s.bytes → r.class ≡ s.class → r ≡ s
as-numbers r s a b c = λ i. record { number = a i; bytes = b i; class = c i }

module _ (who : Caller) (image : List ℕ) (left right budget : ℕ) (fit : Bool) (out out' : List ℕ) (r : Returned) (R : Returns who image left right budget fit out out' r) where
  -- 0: the listing
  pub number-0 : r.number ≡ 0 → Merges who image left right budget fit out out' (Listing r.bytes)
  number-0 e = record { answer = rw (eq-eqb r.number 0 e) at R.result; output = R.output; carries = R.room }

  -- 10: with a class
  pub number-10 : r.number ≡ 10 → Merges who image left right budget fit out out' (Doubled r.class)
  number-10 e = record { answer = rw e at R.result; output = R.output; carries = R.doubled e }

  -- another: the refusal
  pub number-other : r.number ≢ 0 → r.number ≢ 10 → Merges who image left right budget fit out out' (Refused r.number)
  number-other a b = record { answer = rw (ne_eqb r.number 0 a) at R.result; output = R.output; carries = b }

  -- The numbers are those of an answer of `merge`.
  pub reaches : (a : Answer) × (r ≡ returned_of a) × Merges who image left right budget fit out out' a
  reaches = go (ℕ_discrete r.number 0) (ℕ_discrete r.number 10)
    where
      go : Dec (r.number ≡ 0) → Dec (r.number ≡ 10) → (a : Answer) × (r ≡ returned_of a) × Merges who image left right budget fit out out' a
      go (yes e) d = (Listing r.bytes, as-numbers r (returned_of (Listing r.bytes)) e refl (R.no-class (λ z. absurd (omega arith))), number-0 e)
      go (no n) (yes e) = (Doubled r.class, as-numbers r (returned_of (Doubled r.class)) e (R.no-listing n) refl, number-10 e)
      go (no n) (no m) = (Refused r.number, as-numbers r (returned_of (Refused r.number)) refl (R.no-listing n) (R.no-class m), number-other n m)

-- ---- three of the demands, said of calls of `tariff_merge` and `tariff_quote`; the others follow in the same way
-- the run behind a listing
abbrev pub ran : (who : Caller) (image : List ℕ) (left right budget : ℕ) (fit : Bool) (out out' : List ℕ) (r : Returned) → Returns who image left right budget fit out out' r → r.number ≡ 0 → Outcome
ran who image left right budget fit out out' r R e = D2.o who image left right budget fit out out' r.bytes (number-0 who image left right budget fit out out' r R e)

-- "The formula read by the first branch at every marked place belongs to the left class, by the second to the right"
pub readings : (who : Caller) (image : List ℕ) (left right budget : ℕ) (fit : Bool) (out out' : List ℕ) (r : Returned) (R : Returns who image left right budget fit out out' r) (e : r.number ≡ 0)
    → let o = ran who image left right budget fit out out' r R e in Belongs (tables_of image) (read_first (tree_at o.pool o.root)) left × Belongs (tables_of image) (read_second (tree_at o.pool o.root)) right
readings who image left right budget fit out out' r R e = let m = number-0 who image left right budget fit out out' r R e in (D2.first-reading who image left right budget fit out out' r.bytes m, D2.second-reading who image left right budget fit out out' r.bytes m)

-- "The long run's size, then mass, is never above the short one's."
pub never-above : (who : Caller) (image : List ℕ) (left right b c : ℕ) → b ≤ c → (fit fit₂ : Bool) (out out' out₂ out₂' : List ℕ) (r r₂ : Returned) (R : Returns who image left right b fit out out' r) (R₂ : Returns who image left right c fit₂ out₂ out₂' r₂) (e : r.number ≡ 0) (e₂ : r₂.number ≡ 0)
    → (ran who image left right c fit₂ out₂ out₂' r₂ R₂ e₂).quality ⊑ (ran who image left right b fit out out' r R e).quality
never-above who image left right b c h fit fit₂ out out' out₂ out₂' r r₂ R R₂ e e₂ =
    D3.never-above who image left right b c h fit fit₂ out out' out₂ out₂' r.bytes (number-0 who image left right b fit out out' r R e) r₂.bytes (number-0 who image left right c fit₂ out₂ out₂' r₂ R₂ e₂)

-- (02, Paper 9) A call of `tariff_quote` and one of `tariff_merge`, with the same query and output, and work buffers that fit in both or in neither: the first is refused by 12, or it returns what the second returns and leaves the same output.
pub quote-or-12 : (image : List ℕ) (left right budget : ℕ) (fit : Bool) (out out₁ out₂ : List ℕ) (r₁ r₂ : Returned) → Returns Page image left right budget fit out out₁ r₁ → Returns Desk image left right budget fit out out₂ r₂
    → (r₁.number ≡ 12) ⊎ ((r₁ ≡ r₂) × (out₁ ≡ out₂))
quote-or-12 image left right budget fit out out₁ out₂ r₁ r₂ R₁ R₂ =
    let (a, e, m) = reaches Page image left right budget fit out out₁ r₁ R₁ in
    let (b, f, w) = reaches Desk image left right budget fit out out₂ r₂ R₂ in
    elim (C.page-or-12 image left right budget fit out out₁ out₂ a b m w) [
      | inl z ↦ inl (ap (λ (r : Returned). r.number) (e ∙ ap returned_of z))
      | inr z ↦ inr (e ∙ ap returned_of z.0 ∙ sym f, z.1)
    ]
