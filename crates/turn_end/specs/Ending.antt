-- A turn's end: the answer from what it found best and from its choice's term.
use Rattle.std.specs.Prelude.{◌≡◌, refl, Bool, true, false, List, ℕ, Option, Some, None}
use Rattle.std.proofs.Common.{sym, ap, ◌∙◌, arith}
use Rattle.spec.specs.Bytes.{Two, Limits, Res, ok, refused}
use Rattle.spec.specs.Image.{Tables}
use Rattle.spec.specs.Pool.{Interned}
use Rattle.spec.specs.Round.{Choice, stay, act, Turn, changes, turn_of, choice_term}
use Rattle.terms.specs.Buffers.{pool_of}
use Rattle.interning.specs.Interning.{entered_of}
use Rattle.quality.specs.declared.How.{How}
use Rattle.quality.specs.declared.How.TheVariants as H
use Rattle.quality.specs.declared.Best.{Best}
use Rattle.turn_term.specs.Agreeing.{Chosen, Agrees}
use Rattle.turn_term.specs.FinalTerm.{Ended}
use Rattle.turn_end.specs.Taking.{taken_of, changed_by, Takes}

-- ---- the answer
pub changed-is : (k : ℕ) (t : Tables) (of : Two → ℕ) (list : List ℕ) (h : How) (c : Choice) → Chosen k t of list h c → changed_by h ≡ elim c [ stay ↦ false | act a ↦ true ]
changed-is k t of list H.Stay c e = rw e refl
changed-is k t of list (H.Aligned v) c e = rw e.1 refl
changed-is k t of list (H.Plan o m) c e = rw e.is refl

module _ (k : ℕ) (t : Tables) (of : Two → ℕ) (list : List ℕ) (b : Best) (w : Turn) (A : Agrees k t of list b w) where
  pub taken-to : (z : Res Interned) (j : ℕ) → Some j ≡ entered_of z → (x : Bool) → x ≡ changed_by b.how → Some (record { size = b.size; mass = b.mass; term = j; changed = x }) ≡ taken_of w z
  taken-to (ok a) j e x f =
      let u : b.size ≡ w.quality.0 = ap (λ (s : Two). s.0) A.quality in
      let v : b.mass ≡ w.quality.1 = ap (λ (s : Two). s.1) A.quality in
      let y : j ≡ a.term = cc in
      let g : x ≡ changes w = f ∙ changed-is k t of list b.how w.choice A.chosen in
      λ i. Some (record { size = u i; mass = v i; term = y i; changed = g i })
  taken-to (refused n) j e x f = absurd (let y : ◌≡◌ {A = ℕ} 0 1 = cc in omega arith)

  pub taken-full : (z : Res Interned) → None ≡ entered_of z → None ≡ taken_of w z
  taken-full (ok a) e = absurd (let y : ◌≡◌ {A = ℕ} 0 1 = cc in omega arith)
  taken-full (refused n) e = refl

-- ---- the turn's end
module _ (lim : Limits) (t : Tables) (q : Two → Two) (of : Two → ℕ) (p : Two) (k : ℕ) (terms runs terms' runs' list list' : List ℕ) (b : Best) (A : Agrees k t of list b (turn_of t q p)) (e : Option ℕ)
    (D : Ended lim t of terms runs (of p) (turn_of t q p).choice list terms' runs' list' e) where
  pub takes-full : e ≡ None → Takes lim t q of p terms runs terms' runs' None
  takes-full f = record {
    answer = taken-full k t of list b (turn_of t q p) A (choice_term lim t of (pool_of terms runs) (of p) (turn_of t q p).choice) (sym f ∙ D.answer);
    pool = D.pool;
    holds = D.holds;
    grows = D.grows;
  }

  pub takes-to : (j : ℕ) → e ≡ Some j → (size mass : ℕ) (x : Bool) → size ≡ b.size → mass ≡ b.mass → x ≡ changed_by b.how
      → Takes lim t q of p terms runs terms' runs' (Some (record { size = size; mass = mass; term = j; changed = x }))
  takes-to j f size mass x u v g = record {
    answer = (λ i. Some (record { size = u i; mass = v i; term = j; changed = x })) ∙ taken-to k t of list b (turn_of t q p) A (choice_term lim t of (pool_of terms runs) (of p) (turn_of t q p).choice) j (sym f ∙ D.answer) x g;
    pool = D.pool;
    holds = D.holds;
    grows = D.grows;
  }
