-- (02, Paper 7) The nodes whose check in building passed: the graph's where it is built in full, no fewer with more checks, once each, no more than the checks and than the limit; and as a loop meets them.
use Rattle.std.proofs.Math.Path.{◌≡◌, refl, sym, ap}
use Rattle.std.proofs.Common.{◌∙◌, not-suc-le-zero, drop_of_length-le}
use Rattle.std.proofs.Math.Logic.{inl, inr}
use Rattle.std.specs.Prelude.{Bool}
use Rattle.std.proofs.Math.Bool.{true, false}
use mathlib.Core.List.{List, [], ◌∷◌, ◌++◌}
use Prim.Native.Nat.{ℕ, zero, suc, ◌+◌, ◌≤◌, ◌<◌, zero-le}
use native.Mathlib.Omega.{arith}
use Rattle.std.proofs.Math.Dec.{ltb}
use Rattle.std.proofs.Math.ListN.{length, get_or, drop}
use Rattle.std.proofs.Math.Seq.{drop-cons}
use borrow.Author.Tests.{ltb-true, ltb-false, lt-ltb, le-ltb}
use Rattle.spec.specs.Bytes.{In, Res, ok, refused, ◌>>=◌, passed, cut_short}
use Rattle.spec.specs.System.{System, enter, enter_all, build_from, build, turned_from, turned, Reachable, queried, joined}
use Rattle.laws.specs.Lists.{in-nil, in-cons, in_left, get_in, get-append, Distinct, none, more}
use Rattle.laws.specs.Results.{refused-ok, ok-inj, passed-inj, cut-passed}
use Rattle.steps.specs.Enter.{Starts, starts-refl, starts-trans, starts-length, Entered, grown, enter-says, enter_all-says}

-- ---- as a loop meets them: the turn of node i, with so many checks left
module _ {N : Type 0} (S : System N) (lim : ℕ) (ps : List N) where
  -- its check has expired
  pub turned-stop : (b i : ℕ) → b ≡ 0 → turned_from S lim b ps i ≡ []
  unfolding turned_from
  turned-stop b i e = rw (e, turned_from) refl

  -- it has its turn, then those after it, unless what it joins is refused
  pub turned_turn : (b c i : ℕ) → b ≡ suc c → i < length ps
      → turned_from S lim b ps i ≡ get_or ps i S.other ∷ elim (enter_all S.same lim ps (S.joins (get_or ps i S.other))) [ ok qs ↦ turned_from S lim c qs (suc i) | refused n ↦ [] ]
  unfolding turned_from
  turned_turn b c i e h = rw (e, turned_from, lt-ltb i (length ps) h) refl

  -- every node has had its turn
  pub turned-done : (b i : ℕ) → length ps ≤ i → turned_from S lim b ps i ≡ []
  unfolding turned_from
  turned-done zero i h = refl
  turned-done (suc b) i h = rw (turned_from, le-ltb i (length ps) h) refl

module _ {N : Type 0} (S : System N) (lim : ℕ) where
  -- ---- built in full: the graph's nodes
  abbrev Full : ℕ → List N → ℕ → List N → Type 0
  Full b ps i qs = Starts ps qs × (turned_from S lim b ps i ≡ drop i qs)

  from-full : (b : ℕ) (ps : List N) (i : ℕ) (qs : List N) (c : ℕ) → build_from S lim b ps i ≡ ok (passed qs c) → Full b ps i qs
  unfolding build_from turned_from
  from-full zero ps i qs c e = go (ltb i (length ps)) refl e
    where
      go : (x : Bool) → ltb i (length ps) ≡ x → elim x [ true ↦ ok cut_short | false ↦ ok (passed ps 0) ] ≡ ok (passed qs c) → Starts ps qs × ([] ≡ drop i qs)
      go true p z = absurd (cut-passed (ok-inj z))
      go false p z = let (q, _) = passed-inj (ok-inj z) in rw (← q) (starts-refl ps, sym (drop_of_length-le ps {i = i} (ltb-false i (length ps) p)))
  from-full (suc b) ps i qs c e = go (ltb i (length ps)) refl e (λ rs z. from-full b rs (suc i) qs c z)
    where
      next : i < length ps → (r : Res (List N)) → Entered lim ps (S.joins (get_or ps i S.other)) r → (r >>= λ rs. build_from S lim b rs (suc i)) ≡ ok (passed qs c)
          → ((rs : List N) → build_from S lim b rs (suc i) ≡ ok (passed qs c) → Full b rs (suc i) qs)
          → Starts ps qs × (get_or ps i S.other ∷ elim r [ ok rs ↦ turned_from S lim b rs (suc i) | refused n ↦ [] ] ≡ drop i qs)
      next h (ok rs) (grown g f) z ih =
          let (s, d) = ih rs z in
          let st = starts-trans ps rs qs g.starts s in
          let same : get_or qs i S.other ≡ get_or ps i S.other = ap (λ (l : List N). get_or l i S.other) st.1 ∙ get-append S.other ps st.0 i h in
          (st, ap (λ (l : List N). get_or ps i S.other ∷ l) d ∙ ap (λ (x : N). x ∷ drop (suc i) qs) (sym same) ∙ sym (drop-cons qs i S.other (omega (arith, h, starts-length ps qs st))))
      next h (refused n) w z ih = absurd (refused-ok z)

      go : (x : Bool) → ltb i (length ps) ≡ x
          → elim x [ false ↦ ok (passed ps (suc b)) | true ↦ (enter_all S.same lim ps (S.joins (get_or ps i S.other)) >>= λ rs. build_from S lim b rs (suc i)) ] ≡ ok (passed qs c)
          → ((rs : List N) → build_from S lim b rs (suc i) ≡ ok (passed qs c) → Full b rs (suc i) qs)
          → Starts ps qs × (elim x [ false ↦ [] | true ↦ get_or ps i S.other ∷ elim (enter_all S.same lim ps (S.joins (get_or ps i S.other))) [ ok rs ↦ turned_from S lim b rs (suc i) | refused n ↦ [] ] ] ≡ drop i qs)
      go true p z ih = next (ltb-true i (length ps) p) (enter_all S.same lim ps (S.joins (get_or ps i S.other))) (enter_all-says S lim (S.joins (get_or ps i S.other)) ps) z ih
      go false p z ih = let (q, _) = passed-inj (ok-inj z) in rw (← q) (starts-refl ps, sym (drop_of_length-le ps {i = i} (ltb-false i (length ps) p)))

  pub turned_built : (p : N) (b c : ℕ) (ps : List N) → build S lim p b ≡ ok (passed ps c) → turned S lim p b ≡ ps
  unfolding build turned
  turned_built p b c ps e = go (enter S.same lim [] p) e
    where
      go : (r : Res (List N)) → (r >>= λ qs. build_from S lim b qs 0) ≡ ok (passed ps c) → ◌≡◌ {A = List N} (elim r [ ok qs ↦ turned_from S lim b qs 0 | refused n ↦ [] ]) ps
      go (ok qs) z = (from-full b qs 0 ps c z).1
      go (refused n) z = absurd (refused-ok z)

  -- ---- more checks: the turns go on where they stopped
  from-longer : (b c : ℕ) (ps : List N) (i : ℕ) → b ≤ c → Starts (turned_from S lim b ps i) (turned_from S lim c ps i)
  unfolding turned_from
  from-longer zero c ps i h = (turned_from S lim c ps i, refl)
  from-longer (suc b) zero ps i h = absurd (not-suc-le-zero h)
  from-longer (suc b) (suc c) ps i h = go (ltb i (length ps)) (λ qs. from-longer b c qs (suc i) (omega arith))
    where
      next : (r : Res (List N)) → ((qs : List N) → Starts (turned_from S lim b qs (suc i)) (turned_from S lim c qs (suc i)))
          → Starts (get_or ps i S.other ∷ elim r [ ok qs ↦ turned_from S lim b qs (suc i) | refused n ↦ [] ]) (get_or ps i S.other ∷ elim r [ ok qs ↦ turned_from S lim c qs (suc i) | refused n ↦ [] ])
      next (ok qs) ih = let (a, e) = ih qs in (a, ap (λ (l : List N). get_or ps i S.other ∷ l) e)
      next (refused n) ih = ([], refl)

      go : (x : Bool) → ((qs : List N) → Starts (turned_from S lim b qs (suc i)) (turned_from S lim c qs (suc i)))
          → Starts {N = N}
          (elim x [ false ↦ [] | true ↦ get_or ps i S.other ∷ elim (enter_all S.same lim ps (S.joins (get_or ps i S.other))) [ ok qs ↦ turned_from S lim b qs (suc i) | refused n ↦ [] ] ])
          (elim x [ false ↦ [] | true ↦ get_or ps i S.other ∷ elim (enter_all S.same lim ps (S.joins (get_or ps i S.other))) [ ok qs ↦ turned_from S lim c qs (suc i) | refused n ↦ [] ] ])
      go true ih = next (enter_all S.same lim ps (S.joins (get_or ps i S.other))) ih
      go false ih = ([], refl)

  pub turned-longer : (p : N) (b c : ℕ) → b ≤ c → Starts (turned S lim p b) (turned S lim p c)
  unfolding turned
  turned-longer p b c h = go (enter S.same lim [] p)
    where
      go : (r : Res (List N)) → Starts {N = N} (elim r [ ok ps ↦ turned_from S lim b ps 0 | refused n ↦ [] ]) (elim r [ ok ps ↦ turned_from S lim c ps 0 | refused n ↦ [] ])
      go (ok ps) = from-longer b c ps 0 h
      go (refused n) = ([], refl)

  -- ---- once each: they begin a list without repeats
  begins-once : (l m : List N) → Distinct (l ++ m) → Distinct l
  begins-once [] m d = none
  begins-once (x ∷ l) m (more f d) = more (λ i. f (in_left m i)) (begins-once l m d)

  abbrev Part : ℕ → List N → ℕ → List N → Type 0
  Part b ps i qs = Starts ps qs × Distinct qs × Starts (turned_from S lim b ps i) (drop i qs)

  from-part : (b : ℕ) (ps : List N) (i : ℕ) → Distinct ps → (qs : List N) × Part b ps i qs
  unfolding turned_from
  from-part zero ps i d = (ps, (starts-refl ps, d, (drop i ps, refl)))
  from-part (suc b) ps i d = go (ltb i (length ps)) refl (λ rs f. from-part b rs (suc i) f)
    where
      next : i < length ps → (r : Res (List N)) → Entered lim ps (S.joins (get_or ps i S.other)) r → ((rs : List N) → Distinct rs → (qs : List N) × Part b rs (suc i) qs)
          → (qs : List N) × (Starts ps qs × Distinct qs × Starts (get_or ps i S.other ∷ elim r [ ok rs ↦ turned_from S lim b rs (suc i) | refused n ↦ [] ]) (drop i qs))
      next h (ok rs) (grown g f) ih =
          let (qs, (s, u, (w, e))) = ih rs (g.apart d) in
          let st = starts-trans ps rs qs g.starts s in
          let same : get_or qs i S.other ≡ get_or ps i S.other = ap (λ (l : List N). get_or l i S.other) st.1 ∙ get-append S.other ps st.0 i h in
          (qs, (st, u, (w, drop-cons qs i S.other (omega (arith, h, starts-length ps qs st)) ∙ ap (λ (x : N). x ∷ drop (suc i) qs) same ∙ ap (λ (l : List N). get_or ps i S.other ∷ l) e)))
      next h (refused n) z ih = (ps, (starts-refl ps, d, (drop (suc i) ps, drop-cons ps i S.other h)))

      go : (x : Bool) → ltb i (length ps) ≡ x → ((rs : List N) → Distinct rs → (qs : List N) × Part b rs (suc i) qs)
          → (qs : List N) × (Starts ps qs × Distinct qs × Starts {N = N} (elim x [ false ↦ [] | true ↦ get_or ps i S.other ∷ elim (enter_all S.same lim ps (S.joins (get_or ps i S.other))) [ ok rs ↦ turned_from S lim b rs (suc i) | refused n ↦ [] ] ]) (drop i qs))
      go true p ih = next (ltb-true i (length ps) p) (enter_all S.same lim ps (S.joins (get_or ps i S.other))) (enter_all-says S lim (S.joins (get_or ps i S.other)) ps) ih
      go false p ih = (ps, (starts-refl ps, d, (drop i ps, refl)))

  pub turned-once : (p : N) (b : ℕ) → Distinct (turned S lim p b)
  unfolding turned
  turned-once p b = go (enter S.same lim [] p) (enter-says S lim [] p)
    where
      go : (r : Res (List N)) → Entered lim [] (p ∷ []) r → Distinct {A = N} (elim r [ ok ps ↦ turned_from S lim b ps 0 | refused n ↦ [] ])
      go (ok ps) (grown g f) = let (qs, (s, d, (w, e))) = from-part b ps 0 (g.apart none) in begins-once (turned_from S lim b ps 0) w (rw e at d)
      go (refused n) z = none

  -- ---- no more than there are checks
  from-few : (b : ℕ) (ps : List N) (i : ℕ) → length (turned_from S lim b ps i) ≤ b
  unfolding turned_from
  from-few zero ps i = zero-le
  from-few (suc b) ps i = go (ltb i (length ps)) (λ qs. from-few b qs (suc i))
    where
      next : (r : Res (List N)) → ((qs : List N) → length (turned_from S lim b qs (suc i)) ≤ b) → length (get_or ps i S.other ∷ elim r [ ok qs ↦ turned_from S lim b qs (suc i) | refused n ↦ [] ]) ≤ suc b
      next (ok qs) ih = omega (arith, ih qs)
      next (refused n) ih = omega arith

      go : (x : Bool) → ((qs : List N) → length (turned_from S lim b qs (suc i)) ≤ b)
          → length {A = N} (elim x [ false ↦ [] | true ↦ get_or ps i S.other ∷ elim (enter_all S.same lim ps (S.joins (get_or ps i S.other))) [ ok qs ↦ turned_from S lim b qs (suc i) | refused n ↦ [] ] ]) ≤ suc b
      go true ih = next (enter_all S.same lim ps (S.joins (get_or ps i S.other))) ih
      go false ih = zero-le

  pub turned-few : (p : N) (b : ℕ) → length (turned S lim p b) ≤ b
  unfolding turned
  turned-few p b = go (enter S.same lim [] p)
    where
      go : (r : Res (List N)) → length {A = N} (elim r [ ok ps ↦ turned_from S lim b ps 0 | refused n ↦ [] ]) ≤ b
      go (ok ps) = from-few b ps 0
      go (refused n) = zero-le

  -- ---- no more than the limit, refused or not
  from-limit : (b : ℕ) (ps : List N) (i : ℕ) → i ≤ length ps → length ps ≤ lim → i + length (turned_from S lim b ps i) ≤ lim
  unfolding turned_from
  from-limit zero ps i h l = omega arith
  from-limit (suc b) ps i h l = go (ltb i (length ps)) refl (λ qs k m. from-limit b qs (suc i) k m)
    where
      next : i < length ps → (r : Res (List N)) → Entered lim ps (S.joins (get_or ps i S.other)) r → ((qs : List N) → suc i ≤ length qs → length qs ≤ lim → suc i + length (turned_from S lim b qs (suc i)) ≤ lim)
          → i + length (get_or ps i S.other ∷ elim r [ ok qs ↦ turned_from S lim b qs (suc i) | refused n ↦ [] ]) ≤ lim
      next k (ok qs) (grown g f) ih = omega (arith, ih qs (omega (arith, starts-length ps qs g.starts)) (f l))
      next k (refused n) z ih = omega arith

      go : (x : Bool) → ltb i (length ps) ≡ x → ((qs : List N) → suc i ≤ length qs → length qs ≤ lim → suc i + length (turned_from S lim b qs (suc i)) ≤ lim)
          → i + length {A = N} (elim x [ false ↦ [] | true ↦ get_or ps i S.other ∷ elim (enter_all S.same lim ps (S.joins (get_or ps i S.other))) [ ok qs ↦ turned_from S lim b qs (suc i) | refused n ↦ [] ] ]) ≤ lim
      go true p ih = next (ltb-true i (length ps) p) (enter_all S.same lim ps (S.joins (get_or ps i S.other))) (enter_all-says S lim (S.joins (get_or ps i S.other)) ps) ih
      go false p ih = omega arith

  pub turned-limit : (p : N) (b : ℕ) → length (turned S lim p b) ≤ lim
  unfolding turned
  turned-limit p b = go (enter S.same lim [] p) (enter-says S lim [] p)
    where
      go : (r : Res (List N)) → Entered lim [] (p ∷ []) r → length {A = N} (elim r [ ok ps ↦ turned_from S lim b ps 0 | refused n ↦ [] ]) ≤ lim
      go (ok ps) (grown g f) = omega (arith, from-limit b ps 0 zero-le (f zero-le))
      go (refused n) z = zero-le

  -- ---- all are reachable
  module _ (root : N) where
    from-reached : (b : ℕ) (ps : List N) (i : ℕ) → ((x : N) → In x ps → Reachable S root x) → (x : N) → In x (turned_from S lim b ps i) → Reachable S root x
    unfolding turned_from
    from-reached zero ps i w x j = absurd (in-nil j)
    from-reached (suc b) ps i w x j = go (ltb i (length ps)) refl j (λ qs u. from-reached b qs (suc i) u x)
      where
        next : i < length ps → (r : Res (List N)) → Entered lim ps (S.joins (get_or ps i S.other)) r → In x (get_or ps i S.other ∷ elim r [ ok qs ↦ turned_from S lim b qs (suc i) | refused n ↦ [] ])
            → ((qs : List N) → ((y : N) → In y qs → Reachable S root y) → In x (turned_from S lim b qs (suc i)) → Reachable S root x) → Reachable S root x
        next h (ok qs) (grown g f) k ih = elim (in-cons k) [
          | inl e ↦ rw e (w (get_or ps i S.other) (get_in S.other ps i h))
          | inr m ↦ ih qs (λ y n. elim (g.only y n) [ inl a ↦ w y a | inr a ↦ joined (w (get_or ps i S.other) (get_in S.other ps i h)) a ]) m
        ]
        next h (refused n) z k ih = elim (in-cons k) [ inl e ↦ rw e (w (get_or ps i S.other) (get_in S.other ps i h)) | inr m ↦ absurd (in-nil m) ]

        go : (y : Bool) → ltb i (length ps) ≡ y
            → In x (elim y [ false ↦ [] | true ↦ get_or ps i S.other ∷ elim (enter_all S.same lim ps (S.joins (get_or ps i S.other))) [ ok qs ↦ turned_from S lim b qs (suc i) | refused n ↦ [] ] ])
            → ((qs : List N) → ((y : N) → In y qs → Reachable S root y) → In x (turned_from S lim b qs (suc i)) → Reachable S root x) → Reachable S root x
        go true p k ih = next (ltb-true i (length ps) p) (enter_all S.same lim ps (S.joins (get_or ps i S.other))) (enter_all-says S lim (S.joins (get_or ps i S.other)) ps) k ih
        go false p k ih = absurd (in-nil k)

    pub turned-reached : (b : ℕ) (x : N) → In x (turned S lim root b) → Reachable S root x
    unfolding turned
    turned-reached b x j = go (enter S.same lim [] root) (enter-says S lim [] root) j
      where
        go : (r : Res (List N)) → Entered lim [] (root ∷ []) r → In x (elim r [ ok ps ↦ turned_from S lim b ps 0 | refused n ↦ [] ]) → Reachable S root x
        go (ok ps) (grown g f) k = from-reached b ps 0 (λ y m. elim (g.only y m) [ inl a ↦ absurd (in-nil a) | inr a ↦ elim (in-cons a) [ inl e ↦ queried e | inr c ↦ absurd (in-nil c) ] ]) x k
        go (refused n) z k = absurd (in-nil k)
