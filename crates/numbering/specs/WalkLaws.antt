-- The walk: what it finishes, in terms of the pool alone.
use Rattle.std.specs.Prelude.{◌≡◌, ◌⊎◌, Bool, eqb, length}
use Rattle.std.proofs.Math.Path.{refl, ap}
use Rattle.std.proofs.Common.{sym, ◌∙◌, not-suc-le-zero, arith, eqb-true, eq-eqb}
use Rattle.std.proofs.Math.Logic.{inl, inr}
use Rattle.std.proofs.Math.Bool.{true, false}
use mathlib.Core.List.{List, [], ◌∷◌, ◌++◌}
use Prim.Native.Nat.{ℕ, zero, suc, ◌≤◌, ◌<◌}
use Rattle.spec.specs.Bytes.{Two, any}
use Rattle.spec.specs.Pool.{Pool, node_at}
use Rattle.spec.specs.Listing.{visit_runs, visit_term}
use Rattle.spec.specs.Meaning.{In, here, there}
use Rattle.laws.specs.Tests.{clash}
use Rattle.laws.specs.Lists.{in-nil, in-cons, in_left, in_right, in-append, any-in, any_none}
use Rattle.pools.specs.Pool.{PoolValid}

-- ---- a number in a list
pub is_seen : (a : ℕ) (l : List ℕ) → any (eqb a) l ≡ true → In a l
is_seen a l e = let (x, i, q) = any-in (eqb a) l e in rw (eqb-true a x q) i

pub not_seen : (a : ℕ) (l : List ℕ) → any (eqb a) l ≡ false → In a l → ⊥
not_seen a l e i = clash (sym (eq-eqb a a refl) ∙ any_none (eqb a) l a e i)

-- every child of a listed term is listed
abbrev pub Closed : Pool → List ℕ → Type 0
Closed p l = (a : ℕ) → In a l → (r : Two) → In r (node_at p a).runs → In r.0 l

abbrev Runs : ℕ → List Two → Type 0
Runs i rs = (r : Two) → In r rs → r.0 < i

-- ---- the children, for any visit
module _ (f g : ℕ → List ℕ → List ℕ) (i : ℕ) where
  runs_same : ((c : ℕ) (l : List ℕ) → c < i → f c l ≡ g c l) → (rs : List Two) → Runs i rs → (l : List ℕ) → visit_runs f rs l ≡ visit_runs g rs l
  unfolding visit_runs
  runs_same h [] b l = refl
  runs_same h (r ∷ rs) b l = ap (λ (z : List ℕ). visit_runs f rs z) (h r.0 l (b r here)) ∙ runs_same h rs (λ s j. b s (there j)) (g r.0 l)

module _ (f : ℕ → List ℕ → List ℕ) (i : ℕ) where
  runs-new : ((c : ℕ) (l : List ℕ) → c < i → (x : ℕ) → In x (f c l) → In x l ⊎ (x ≤ c)) → (rs : List Two) → Runs i rs → (l : List ℕ) (x : ℕ) → In x (visit_runs f rs l) → In x l ⊎ (x < i)
  unfolding visit_runs
  runs-new h [] b l x j = inl j
  runs-new h (r ∷ rs) b l x j =
      let below = b r here in
      elim (runs-new h rs (λ s k. b s (there k)) (f r.0 l) x j) [
        | inl k ↦ elim (h r.0 l below x k) [ inl z ↦ inl z | inr z ↦ inr (omega arith) ]
        | inr z ↦ inr z
      ]

  runs-keep : ((c : ℕ) (l : List ℕ) (x : ℕ) → In x l → In x (f c l)) → (rs : List Two) (l : List ℕ) (x : ℕ) → In x l → In x (visit_runs f rs l)
  unfolding visit_runs
  runs-keep h [] l x j = j
  runs-keep h (r ∷ rs) l x j = runs-keep h rs (f r.0 l) x (h r.0 l x j)

  runs-reach : ((c : ℕ) (l : List ℕ) (x : ℕ) → In x l → In x (f c l)) → ((c : ℕ) (l : List ℕ) → c < i → In c (f c l)) → (rs : List Two) → Runs i rs → (l : List ℕ)
      → (r : Two) → In r rs → In r.0 (visit_runs f rs l)
  unfolding visit_runs
  runs-reach k h [] b l r x'' = elim x'' [ ]
  runs-reach k h (s ∷ rs) b l r here = runs-keep k rs (f r.0 l) r.0 (h r.0 l (b r here))
  runs-reach k h (s ∷ rs) b l r (there j) = runs-reach k h rs (λ z u. b z (there u)) (f s.0 l) r j

  runs_closed : (p : Pool) → ((c : ℕ) (l : List ℕ) → c < i → Closed p l → Closed p (f c l)) → (rs : List Two) → Runs i rs → (l : List ℕ) → Closed p l → Closed p (visit_runs f rs l)
  unfolding visit_runs
  runs_closed p h [] b l k = k
  runs_closed p h (r ∷ rs) b l k = runs_closed p h rs (λ s j. b s (there j)) (f r.0 l) (h r.0 l (b r here) k)

-- ---- one term
abbrev visited : ℕ → List ℕ → List ℕ → Bool → List ℕ
visited a l k true = l
visited a l k false = k ++ (a ∷ [])

module _ (p : Pool) where
  visit-is : (f a : ℕ) (l : List ℕ) → visit_term (suc f) p a l ≡ visited a l (visit_runs (visit_term f p) (node_at p a).runs l) (any (eqb a) l)
  unfolding visit_term
  visit-is f a l = go (any (eqb a) l)
    where
      go : (b : Bool) → elim b [ true ↦ l | false ↦ visit_runs (visit_term f p) (node_at p a).runs l ++ (a ∷ []) ] ≡ visited a l (visit_runs (visit_term f p) (node_at p a).runs l) b
      go true = refl
      go false = refl

  pub visit-seen : (f a : ℕ) (l : List ℕ) → any (eqb a) l ≡ true → visit_term (suc f) p a l ≡ l
  visit-seen f a l e = visit-is f a l ∙ ap (visited a l (visit_runs (visit_term f p) (node_at p a).runs l)) e

  pub visit-fresh : (f a : ℕ) (l : List ℕ) → any (eqb a) l ≡ false → visit_term (suc f) p a l ≡ visit_runs (visit_term f p) (node_at p a).runs l ++ (a ∷ [])
  visit-fresh f a l e = visit-is f a l ∙ ap (visited a l (visit_runs (visit_term f p) (node_at p a).runs l)) e

  pub visit-keeps : (f a : ℕ) (l : List ℕ) (x : ℕ) → In x l → In x (visit_term f p a l)
  unfolding visit_term
  visit-keeps zero a l x j = j
  visit-keeps (suc f) a l x j = rw (visit-is f a l) (go (any (eqb a) l) (runs-keep (visit_term f p) 0 (λ c m y k. visit-keeps f c m y k) (node_at p a).runs l x j))
    where
      go : (b : Bool) → In x (visit_runs (visit_term f p) (node_at p a).runs l) → In x (visited a l (visit_runs (visit_term f p) (node_at p a).runs l) b)
      go true k = j
      go false k = in_left (a ∷ []) k

  pub visit-in : (f a : ℕ) (l : List ℕ) → a < f → In a (visit_term f p a l)
  visit-in zero a l h = absurd (not-suc-le-zero h)
  visit-in (suc f) a l h = rw (visit-is f a l) (go (any (eqb a) l) refl)
    where
      go : (b : Bool) → any (eqb a) l ≡ b → In a (visited a l (visit_runs (visit_term f p) (node_at p a).runs l) b)
      go true e = is_seen a l e
      go false e = in_right (visit_runs (visit_term f p) (node_at p a).runs l) here

  module _ (v : PoolValid p) where
    -- fuel above the term is enough
    pub visit-fuel : (f g a : ℕ) (l : List ℕ) → a < f → a < g → a < length p → visit_term f p a l ≡ visit_term g p a l
    visit-fuel zero g a l h k b = absurd (not-suc-le-zero h)
    visit-fuel (suc f) zero a l h k b = absurd (not-suc-le-zero k)
    visit-fuel (suc f) (suc g) a l h k b =
        visit-is f a l
        ∙ ap (λ (z : List ℕ). visited a l z (any (eqb a) l))
        (runs_same (visit_term f p) (visit_term g p) a (λ c m q. visit-fuel f g c m (omega arith) (omega arith) (omega arith)) (node_at p a).runs (v.nodes a b).below.earlier l)
        ∙ sym (visit-is g a l)

    -- what is new is the term or stands before it
    pub visit-new : (f a : ℕ) (l : List ℕ) → a < f → a < length p → (x : ℕ) → In x (visit_term f p a l) → In x l ⊎ (x ≤ a)
    visit-new zero a l h b = absurd (not-suc-le-zero h)
    visit-new (suc f) a l h b = λ x j. go x (any (eqb a) l)
        (runs-new (visit_term f p) a (λ c m q. visit-new f c m (omega arith) (omega arith)) (node_at p a).runs (v.nodes a b).below.earlier l x)
        (rw (visit-is f a l) at j)
      where
        last : (x : ℕ) → In x l ⊎ (x < a) → In x l ⊎ (x ≤ a)
        last x (inl j) = inl j
        last x (inr q) = inr (omega arith)

        go : (x : ℕ) (t : Bool) → (In x (visit_runs (visit_term f p) (node_at p a).runs l) → In x l ⊎ (x < a)) → In x (visited a l (visit_runs (visit_term f p) (node_at p a).runs l) t) → In x l ⊎ (x ≤ a)
        go x true ih j = inl j
        go x false ih j = elim (in-append (visit_runs (visit_term f p) (node_at p a).runs l) j) [
          | inl k ↦ last x (ih k)
          | inr k ↦ elim (in-cons k) [ inl e ↦ inr (omega arith) | inr z ↦ absurd (in-nil z) ]
        ]

    -- the children of a term are not the term
    pub children-new : (a : ℕ) (l : List ℕ) → a < length p → (In a l → ⊥) → In a (visit_runs (visit_term a p) (node_at p a).runs l) → ⊥
    children-new a l b n j = elim (runs-new (visit_term a p) a (λ c m q. visit-new a c m q (omega arith)) (node_at p a).runs (v.nodes a b).below.earlier l a j) [ inl k ↦ n k | inr q ↦ omega arith ]

    pub visit-closed : (f a : ℕ) (l : List ℕ) → a < f → a < length p → Closed p l → Closed p (visit_term f p a l)
    visit-closed zero a l h b = absurd (not-suc-le-zero h)
    visit-closed (suc f) a l h b = λ k. rw (visit-is f a l) (go (any (eqb a) l) k
        (runs_closed (visit_term f p) a p (λ c m q. visit-closed f c m (omega arith) (omega arith)) (node_at p a).runs (v.nodes a b).below.earlier l k))
      where
        reach : (r : Two) → In r (node_at p a).runs → In r.0 (visit_runs (visit_term f p) (node_at p a).runs l)
        reach = runs-reach (visit_term f p) a (λ c m x j. visit-keeps f c m x j) (λ c m q. visit-in f c m (omega arith)) (node_at p a).runs (v.nodes a b).below.earlier l

        go : (t : Bool) → Closed p l → Closed p (visit_runs (visit_term f p) (node_at p a).runs l) → Closed p (visited a l (visit_runs (visit_term f p) (node_at p a).runs l) t)
        go true k c = k
        go false k c = λ x j r i. elim (in-append (visit_runs (visit_term f p) (node_at p a).runs l) j) [
          | inl y ↦ in_left (a ∷ []) (c x y r i)
          | inr y ↦ elim (in-cons y) [ inl e ↦ in_left (a ∷ []) (reach r (rw e at i)) | inr z ↦ absurd (in-nil z) ]
        ]

    pub subterms-closed : (a : ℕ) → a < length p → Closed p (visit_term (suc a) p a [])
    subterms-closed a h = visit-closed (suc a) a [] (omega arith) h (λ x j. absurd (in-nil j))
