-- Repeats change nothing: an offer that is worth as much as an earlier one, a node that is entered again.
use Rattle.std.specs.Prelude.{◌≡◌, Bool, true, false, List, [], ◌∷◌, ℕ}
use Rattle.std.proofs.Math.Path.{refl}
use Rattle.std.proofs.Math.Logic.{inl, inr}
use Rattle.spec.specs.Bytes.{any, In, here, Two, Res, ok, refused, ◌>>=◌}
use Rattle.spec.specs.System.{System, Act, Turn, enter, enter_all, worth, offer, offer_all}
use Rattle.spec.specs.Meaning.{◌⊑◌}
use Rattle.laws.specs.Lists.{in-cons, not_in}
use Rattle.laws.specs.Repeats.{Fewer, done, keep, drop, Equal}
use Rattle.steps.specs.Quality.{⊑-of-eq, ⊑_trans}
use Rattle.steps.specs.Enter.{Entered, grown, enter-says, starts-in}
use Rattle.steps.specs.Turn.{offer-old, offer-new, offer-stays}

-- what is worth as much as an earlier offer may go
module _ {N : Type 0} (S : System N) (q : N → Two) where
  module _ {R : Act N → Act N → Type 0} (alike : (a b : Act N) → R a b → worth S q a ≡ worth S q b) where
    pub all-fewer : (seen l m : List (Act N)) (w : Turn N) → ((a : Act N) → In a seen → w.quality ⊑ worth S q a) → Fewer R seen l m → offer_all S q l w ≡ offer_all S q m w
    unfolding offer_all
    all-fewer seen l m w h done = refl
    all-fewer seen l m w h (keep {x = x} {l = j} {m = k} d) =
        let v = offer S q x w in
        all-fewer (x ∷ seen) j k v (λ a i. elim (in-cons i) [ inl e ↦ rw e (offer-new S q x w) | inr n ↦ ⊑_trans v.quality w.quality (worth S q a) (offer-old S q x w) (h a n) ]) d
    all-fewer seen l m w h (drop {x = x} {l = j} y i r d) = rw (offer-stays S q x w (⊑_trans w.quality (worth S q y) (worth S q x) (h y i) (⊑-of-eq (alike y x r)))) (all-fewer seen j m w h d)

-- a node that has been entered may go
pub enter_all-fewer : {N : Type 0} (S : System N) (lim : ℕ) (seen l m ps : List N) → ((x : N) → In x seen → In x ps) → Fewer Equal seen l m → enter_all S.same lim ps l ≡ enter_all S.same lim ps m
unfolding enter_all enter
enter_all-fewer S lim seen l m ps h done = refl
enter_all-fewer {N = N} S lim seen l m ps h (keep {x = x} {l = j} {m = k} d) = go (enter S.same lim ps x) (enter-says S lim ps x) (λ qs g. enter_all-fewer S lim (x ∷ seen) j k qs g d)
  where
    go : (r : Res (List N)) → Entered lim ps (x ∷ []) r → ((qs : List N) → ((z : N) → In z (x ∷ seen) → In z qs) → enter_all S.same lim qs j ≡ enter_all S.same lim qs k)
        → (r >>= λ qs. enter_all S.same lim qs j) ≡ (r >>= λ qs. enter_all S.same lim qs k)
    go (ok qs) (grown g f) ih = ih qs (λ z i. elim (in-cons i) [ inl e ↦ rw e (g.all x here) | inr n ↦ starts-in ps qs z g.starts (h z n) ])
    go (refused n) e ih = refl
enter_all-fewer S lim seen l m ps h (drop {x = x} {l = j} y i e d) = rw (again (any (S.same x) ps) refl) (enter_all-fewer S lim seen j m ps h d)
  where
    again : (b : Bool) → any (S.same x) ps ≡ b → any (S.same x) ps ≡ true
    again true f = f
    again false f = absurd (not_in S.decides x ps f (rw e at (h y i)))
