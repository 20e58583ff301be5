-- Entering nodes into a list: each once, in order, up to the limit.
use Rattle.std.specs.Prelude.{◌≡◌, refl, ◌⊎◌, Bool, true, false, List, [], ◌∷◌, ◌++◌, ℕ, ◌≤◌, ◌<◌, ltb, length}
use Rattle.std.proofs.Common.{sym, ap, ◌∙◌, inl, inr, append-nil, append_assoc, arith, length-append, ltb-true, ltb-false}
use Rattle.spec.specs.Bytes.{pick, any, In, here, there, Res, ok, refused, ◌>>=◌}
use Rattle.spec.specs.System.{System, enter, enter_all}
use Rattle.laws.specs.Lists.{in-nil, in-cons, in_left, in_right, in-append, is-in, not_in, Distinct, distinct-last}

-- qs begins with ps
abbrev pub Starts : {N : Type 0} → List N → List N → Type 0
Starts {N} ps qs = (rest : List N) × (qs ≡ ps ++ rest)

pub starts-refl : {N : Type 0} (ps : List N) → Starts ps ps
starts-refl ps = ([], sym (append-nil ps))

pub starts-trans : {N : Type 0} (ps qs rs : List N) → Starts ps qs → Starts qs rs → Starts ps rs
starts-trans {N} ps qs rs (a, e) (b, f) = (a ++ b, f ∙ ap (λ (l : List N). l ++ b) e ∙ append_assoc ps a b)

pub starts-in : {N : Type 0} (ps qs : List N) (x : N) → Starts ps qs → In x ps → In x qs
starts-in ps qs x (a, e) i = rw e (in_left a i)

pub starts-length : {N : Type 0} (ps qs : List N) → Starts ps qs → length ps ≤ length qs
starts-length {N} ps qs (a, e) = omega (arith, ap (λ (l : List N). length l) e, length-append ps a)

-- qs is ps with the nodes of l
pub record Grown {N : Type 0} (ps l qs : List N) : Type 0 where
  pub starts : Starts ps qs
  pub all : (x : N) → In x l → In x qs
  pub only : (x : N) → In x qs → In x ps ⊎ In x l
  pub apart : Distinct ps → Distinct qs

grown-none : {N : Type 0} (ps : List N) → Grown ps [] ps
grown-none ps = record { starts = starts-refl ps; all = λ x i. absurd (in-nil i); only = λ x i. inl i; apart = λ d. d }

grown-old : {N : Type 0} (ps : List N) (p : N) → In p ps → Grown ps (p ∷ []) ps
grown-old ps p old = record {
  starts = starts-refl ps;
  all = λ x i. elim (in-cons i) [ inl e ↦ rw e old | inr j ↦ absurd (in-nil j) ];
  only = λ x i. inl i;
  apart = λ d. d;
}

grown-new : {N : Type 0} (ps : List N) (p : N) → (In p ps → ⊥) → Grown ps (p ∷ []) (ps ++ (p ∷ []))
grown-new ps p new = record {
  starts = (p ∷ [], refl);
  all = λ x i. elim (in-cons i) [ inl e ↦ rw e (in_right ps here) | inr j ↦ absurd (in-nil j) ];
  only = λ x i. in-append ps i;
  apart = λ d. distinct-last ps p d new;
}

-- one node, then the others
module _ {N : Type 0} (ps : List N) (p : N) (l : List N) where
  widen : (x : N) → In x ps ⊎ In x (p ∷ []) → In x ps ⊎ In x (p ∷ l)
  widen x (inl i) = inl i
  widen x (inr i) = elim (in-cons i) [ inl e ↦ inr (rw e here) | inr j ↦ absurd (in-nil j) ]

  wider : (qs : List N) → Grown ps (p ∷ []) qs → (x : N) → In x qs ⊎ In x l → In x ps ⊎ In x (p ∷ l)
  wider qs g x (inl i) = widen x (g.only x i)
  wider qs g x (inr i) = inr (there i)

  grown-then : (qs rs : List N) → Grown ps (p ∷ []) qs → Grown qs l rs → Grown ps (p ∷ l) rs
  grown-then qs rs g h = record {
    starts = starts-trans ps qs rs g.starts h.starts;
    all = λ x i. elim (in-cons i) [ inl e ↦ starts-in qs rs x h.starts (rw e (g.all p here)) | inr j ↦ h.all x j ];
    only = λ x i. wider qs g x (h.only x i);
    apart = λ d. h.apart (g.apart d);
  }

-- ---- without a limit: there is such a list
pub grow : {N : Type 0} (S : System N) (l ps : List N) → (qs : List N) × Grown ps l qs
grow S [] ps = (ps, grown-none ps)
grow {N = N} S (p ∷ l) ps = go (any (S.same p) ps) refl (λ qs. grow S l qs)
  where
    next : (qs : List N) → Grown ps (p ∷ []) qs → (rs : List N) × Grown qs l rs → (rs : List N) × Grown ps (p ∷ l) rs
    next qs g (rs, h) = (rs, grown-then ps p l qs rs g h)

    go : (b : Bool) → any (S.same p) ps ≡ b → ((qs : List N) → (rs : List N) × Grown qs l rs) → (rs : List N) × Grown ps (p ∷ l) rs
    go true e ih = next ps (grown-old ps p (is-in S.decides p ps e)) (ih ps)
    go false e ih = next (ps ++ (p ∷ [])) (grown-new ps p (not_in S.decides p ps e)) (ih (ps ++ (p ∷ [])))

-- ---- with the limit
-- a node beyond the limit would be entered: then there are more than the limit
pub record Overfull {N : Type 0} (lim : ℕ) (ps l : List N) : Type 0 where
  pub nodes : List N
  pub some : (x : N) → In x nodes → In x ps ⊎ In x l
  pub once : Distinct ps → Distinct nodes
  pub many : lim < length nodes

pub data Entered {N : Type 0} (lim : ℕ) (ps l : List N) : Res (List N) → Type 0 where
  grown : {qs : List N} → Grown ps l qs → (length ps ≤ lim → length qs ≤ lim) → Entered lim ps l (ok qs)
  overfull : {n : ℕ} → n ≡ 12 → Overfull lim ps l → Entered lim ps l (refused n)

pub enter-says : {N : Type 0} (S : System N) (lim : ℕ) (ps : List N) (p : N) → Entered lim ps (p ∷ []) (enter S.same lim ps p)
unfolding enter
enter-says {N = N} S lim ps p = go (any (S.same p) ps) refl (ltb (length ps) lim) refl
  where
    go : (x : Bool) → any (S.same p) ps ≡ x → (y : Bool) → ltb (length ps) lim ≡ y → Entered lim ps (p ∷ []) (pick x (ok ps) (pick y (ok (ps ++ (p ∷ []))) (refused 12)))
    go true a y b = grown (grown-old ps p (is-in S.decides p ps a)) (λ h. h)
    go false a true b = grown (grown-new ps p (not_in S.decides p ps a)) (λ h. omega (arith, ltb-true (length ps) lim b, length-append ps (p ∷ [])))
    go false a false b = overfull refl (record {
      nodes = ps ++ (p ∷ []);
      some = λ x i. in-append ps i;
      once = λ d. distinct-last ps p d (not_in S.decides p ps a);
      many = omega (arith, ltb-false (length ps) lim b, length-append ps (p ∷ []));
    })

pub enter_all-says : {N : Type 0} (S : System N) (lim : ℕ) (l ps : List N) → Entered lim ps l (enter_all S.same lim ps l)
unfolding enter_all
enter_all-says S lim [] ps = grown (grown-none ps) (λ h. h)
enter_all-says {N = N} S lim (p ∷ l) ps = go (enter S.same lim ps p) (enter-says S lim ps p) (λ qs. enter_all-says S lim l qs)
  where
    next : (qs : List N) → Grown ps (p ∷ []) qs → (length ps ≤ lim → length qs ≤ lim) → (r : Res (List N)) → Entered lim qs l r → Entered lim ps (p ∷ l) r
    next qs g f (ok rs) (grown h k) = grown (grown-then ps p l qs rs g h) (λ b. k (f b))
    next qs g f (refused n) (overfull e o) = overfull e (record { nodes = o.nodes; some = λ x i. wider ps p l qs g x (o.some x i); once = λ d. o.once (g.apart d); many = o.many })

    go : (r : Res (List N)) → Entered lim ps (p ∷ []) r → ((qs : List N) → Entered lim qs l (enter_all S.same lim qs l)) → Entered lim ps (p ∷ l) (r >>= λ qs. enter_all S.same lim qs l)
    go (ok qs) (grown g f) ih = next qs g f (enter_all S.same lim qs l) (ih qs)
    go (refused n) (overfull e o) ih = overfull e (record { nodes = o.nodes; some = λ x i. widen ps p l x (o.some x i); once = o.once; many = o.many })
