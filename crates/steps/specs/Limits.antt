-- Larger limits: what is accepted under some limits is accepted, and is the same, under limits that are no less; and where the limit of nodes alone is larger, whatever is not refused by 12 is the same.
use Rattle.std.proofs.Math.Path.{◌≡◌, refl, sym}
use Rattle.std.proofs.Common.{ap, ◌∙◌, arith}
use Rattle.std.specs.Prelude.{◌⊎◌, Bool, ltb, length}
use Rattle.std.proofs.Math.Logic.{inl, inr}
use Rattle.std.proofs.Math.Bool.{true, false}
use mathlib.Core.List.{List, [], ◌∷◌, ◌++◌}
use Prim.Native.Nat.{ℕ, zero, suc, ◌≤◌}
use Rattle.std.proofs.Math.ListN.{get_or}
use borrow.Author.Tests.{ltb-true, lt-ltb}
use Rattle.spec.specs.Bytes.{any, Two, Res, ok, refused, ◌>>=◌, Checked, passed, cut_short}
use Rattle.spec.specs.Pool.{Pool, Interned}
use Rattle.spec.specs.System.{System, Making, enter, enter_all, build_from, build, turned_from, turned, look_up, Choice, stay, act, Turn, changes, turns_of, plan_runs, choice_term, Terms, turns_terms, starting_terms, Outcome, State, outcome, state_after, after_round, round_terms, rounds_from, start_state, after_starting, after_building, run_of}
use Rattle.laws.specs.Results.{Only13, Kept, kept-bind, kept-ok, kept-room, refused-ok, bind_ok, bind-refused}
use Rattle.steps.specs.Graph.{build-refused}
use Rattle.steps.specs.Refusals.{Refuses13, after-only}

-- a making whose terms are refused no more
pub record Roomier {N : Type 0} (L M : Making N) : Type 0 where
  pub start : (p : Pool) (c : N) → Kept (L.starting_term p c) (M.starting_term p c)
  pub action : (p : Pool) (o : ℕ) (r : List Two) → Kept (L.action_term p o r) (M.action_term p o r)

-- a making that refuses no more
pub record Wider {N : Type 0} (L M : Making N) : Type 0 where
  pub nodes : L.limit ≤ M.limit
  pub terms : Roomier L M

-- ---- building
module _ {N : Type 0} (S : System N) (l m : ℕ) (h : l ≤ m) where
  enter-kept : (ps : List N) (p : N) → Kept (enter S.same l ps p) (enter S.same m ps p)
  unfolding enter
  enter-kept ps p =
      kept-room 12 ps (ps ++ (p ∷ [])) (any (S.same p) ps) (ltb (length ps) l) (ltb (length ps) m)
      (λ e. lt-ltb (length ps) m (omega (arith, ltb-true (length ps) l e, h)))

  all-kept : (qs ps : List N) → Kept (enter_all S.same l ps qs) (enter_all S.same m ps qs)
  unfolding enter_all
  all-kept [] ps = refl
  all-kept (p ∷ qs) ps = kept-bind (enter S.same l ps p) (enter S.same m ps p) _ _ (enter-kept ps p) (λ rs. all-kept qs rs)

  from-kept : (b : ℕ) (ps : List N) (i : ℕ) → Kept (build_from S l b ps i) (build_from S m b ps i)
  unfolding build_from
  from-kept zero ps i = go (ltb i (length ps))
    where
      go : (x : Bool) → Kept {A = Checked (List N)} (elim x [ true ↦ ok cut_short | false ↦ ok (passed ps 0) ]) (elim x [ true ↦ ok cut_short | false ↦ ok (passed ps 0) ])
      go true = refl
      go false = refl
  from-kept (suc b) ps i = go (ltb i (length ps)) (λ qs. from-kept b qs (suc i))
    where
      go : (x : Bool) → ((qs : List N) → Kept (build_from S l b qs (suc i)) (build_from S m b qs (suc i))) → Kept {A = Checked (List N)}
          (elim x [ false ↦ ok (passed ps (suc b)) | true ↦ (enter_all S.same l ps (S.joins (get_or ps i S.other)) >>= λ qs. build_from S l b qs (suc i)) ])
          (elim x [ false ↦ ok (passed ps (suc b)) | true ↦ (enter_all S.same m ps (S.joins (get_or ps i S.other)) >>= λ qs. build_from S m b qs (suc i)) ])
      go true ih = kept-bind (enter_all S.same l ps (S.joins (get_or ps i S.other))) (enter_all S.same m ps (S.joins (get_or ps i S.other))) _ _ (all-kept (S.joins (get_or ps i S.other)) ps) ih
      go false ih = refl

  pub build-kept : (p : N) (b : ℕ) → Kept (build S l p b) (build S m p b)
  unfolding build
  build-kept p b = kept-bind (enter S.same l [] p) (enter S.same m [] p) _ _ (enter-kept [] p) (λ ps. from-kept b ps 0)

  -- where building is not refused, the same nodes have their turns
  turned-from : (b : ℕ) (ps : List N) (i : ℕ) (g : Checked (List N)) → build_from S l b ps i ≡ ok g → turned_from S m b ps i ≡ turned_from S l b ps i
  unfolding build_from turned_from
  turned-from zero ps i g e = refl
  turned-from (suc b) ps i g e = go (ltb i (length ps)) e (λ qs z. turned-from b qs (suc i) g z)
    where
      next : (x y : Res (List N)) → Kept x y → (x >>= λ qs. build_from S l b qs (suc i)) ≡ ok g → ((qs : List N) → build_from S l b qs (suc i) ≡ ok g → turned_from S m b qs (suc i) ≡ turned_from S l b qs (suc i))
          → get_or ps i S.other ∷ elim y [ ok qs ↦ turned_from S m b qs (suc i) | refused n ↦ [] ] ≡ get_or ps i S.other ∷ elim x [ ok qs ↦ turned_from S l b qs (suc i) | refused n ↦ [] ]
      next (ok qs) y k z ih = rw k (ap (λ (r : List N). get_or ps i S.other ∷ r) (ih qs z))
      next (refused n) y k z ih = absurd (refused-ok z)

      go : (x : Bool) → elim x [ false ↦ ok (passed ps (suc b)) | true ↦ (enter_all S.same l ps (S.joins (get_or ps i S.other)) >>= λ qs. build_from S l b qs (suc i)) ] ≡ ok g
          → ((qs : List N) → build_from S l b qs (suc i) ≡ ok g → turned_from S m b qs (suc i) ≡ turned_from S l b qs (suc i))
          → ◌≡◌ {A = List N} (elim x [ false ↦ [] | true ↦ get_or ps i S.other ∷ elim (enter_all S.same m ps (S.joins (get_or ps i S.other))) [ ok qs ↦ turned_from S m b qs (suc i) | refused n ↦ [] ] ])
          (elim x [ false ↦ [] | true ↦ get_or ps i S.other ∷ elim (enter_all S.same l ps (S.joins (get_or ps i S.other))) [ ok qs ↦ turned_from S l b qs (suc i) | refused n ↦ [] ] ])
      go true z ih = next (enter_all S.same l ps (S.joins (get_or ps i S.other))) (enter_all S.same m ps (S.joins (get_or ps i S.other))) (all-kept (S.joins (get_or ps i S.other)) ps) z ih
      go false z ih = refl

  pub turned-kept : (p : N) (b : ℕ) (g : Checked (List N)) → build S l p b ≡ ok g → turned S m p b ≡ turned S l p b
  unfolding build turned
  turned-kept p b g e = go (enter S.same l [] p) (enter S.same m [] p) (enter-kept [] p) e
    where
      go : (x y : Res (List N)) → Kept x y → (x >>= λ ps. build_from S l b ps 0) ≡ ok g
          → ◌≡◌ {A = List N} (elim y [ ok ps ↦ turned_from S m b ps 0 | refused n ↦ [] ]) (elim x [ ok ps ↦ turned_from S l b ps 0 | refused n ↦ [] ])
      go (ok ps) y k z = rw k (turned-from b ps 0 g z)
      go (refused n) y k z = absurd (refused-ok z)

-- ---- terms
module _ {N : Type 0} (L M : Making N) (W : Roomier L M) where
  starting-kept : (cs : List N) (b : ℕ) (p : Pool) → Kept (starting_terms L cs b p) (starting_terms M cs b p)
  unfolding starting_terms
  starting-kept [] b p = refl
  starting-kept (c ∷ cs) zero p = refl
  starting-kept (c ∷ cs) (suc b) p = kept-bind (L.starting_term p c) (M.starting_term p c) _ _ (W.start p c) (λ a. kept-bind (starting_terms L cs b a.pool) (starting_terms M cs b a.pool) _ _ (starting-kept cs b a.pool) (λ r. refl))

  choice-kept : (of : N → ℕ) (p : Pool) (old : ℕ) (c : Choice N) → Kept (choice_term L of p old c) (choice_term M of p old c)
  unfolding choice_term
  choice-kept of p old stay = refl
  choice-kept of p old (act a) = W.action p a.op (plan_runs of a.places a.counts)

  turns-kept : (of : N → ℕ) (ps : List N) (ws : List (Turn N)) (b : ℕ) (p : Pool) → Kept (turns_terms L of ps ws b p) (turns_terms M of ps ws b p)
  unfolding turns_terms
  turns-kept of [] ws b p = refl
  turns-kept of (c ∷ ps) [] b p = refl
  turns-kept of (c ∷ ps) (w ∷ ws) zero p = refl
  turns-kept of (c ∷ ps) (w ∷ ws) (suc b) p = kept-bind (choice_term L of p (of c) w.choice) (choice_term M of p (of c) w.choice) _ _ (choice-kept of p (of c) w.choice) (λ a. kept-bind (turns_terms L of ps ws b a.pool) (turns_terms M of ps ws b a.pool) _ _ (turns-kept of ps ws b a.pool) (λ r. refl))

-- ---- rounds
module _ {N : Type 0} (S : System N) (L M : Making N) (W : Roomier L M) where
  round-kept : (ps : List N) (s : State) (ws : List (Turn N)) (b : ℕ) → Kept (round_terms S L ps s ws b) (round_terms S M ps s ws b)
  unfolding round_terms
  round-kept ps s ws zero = refl
  round-kept ps s ws (suc b) = turns-kept L M W (look_up S.same 0 ps s.terms) ps ws b s.pool

  rounds-kept : (f : ℕ) (ps : List N) (s : State) → Kept (rounds_from S L f ps s) (rounds_from S M f ps s)
  unfolding rounds_from after_round
  rounds-kept zero ps s = refl
  rounds-kept (suc f) ps s = kept-bind (round_terms S L ps s ws s.budget) (round_terms S M ps s ws s.budget) _ _ (round-kept ps s ws s.budget) (λ r. go r (λ u. rounds-kept f ps u))
    where
      ws : List (Turn N)
      ws = turns_of S ps s.qualities

      go : (r : Checked Terms) → ((u : State) → Kept (rounds_from S L f ps u) (rounds_from S M f ps u)) → Kept (after_round (λ u. rounds_from S L f ps u) ps s ws r) (after_round (λ u. rounds_from S M f ps u) ps s ws r)
      go cut_short ih = refl
      go (passed r b) ih = by (any changes ws)
        where
          u : State
          u = state_after s ws r b

          by : (x : Bool) → Kept {A = Outcome} (elim x [ false ↦ ok (outcome true ps s b) | true ↦ rounds_from S L f ps u ]) (elim x [ false ↦ ok (outcome true ps s b) | true ↦ rounds_from S M f ps u ])
          by true = ih u
          by false = refl

  after_kept : (budget : ℕ) (p : N) (root : Interned) (g : Checked (List N)) → Kept (after_building S L budget p root g) (after_building S M budget p root g)
  unfolding after_building after_starting
  after_kept budget p root cut_short = refl
  after_kept budget p root (passed ps b) = kept-bind (starting_terms L ps b root.pool) (starting_terms M ps b root.pool) _ _ (starting-kept L M W ps b root.pool) go
    where
      go : (r : Checked Terms) → Kept (after_starting S L budget p root ps r) (after_starting S M budget p root ps r)
      go cut_short = refl
      go (passed r c) = rounds-kept c ps (start_state S budget ps r c)

-- ---- the run
module _ {N : Type 0} (S : System N) (L M : Making N) (W : Wider L M) where
  pub run-kept : (p : N) (b : ℕ) → Kept (run_of S L p b) (run_of S M p b)
  unfolding run_of
  run-kept p b = kept-bind (L.starting_term [] p) (M.starting_term [] p) _ _ (W.terms.start [] p) (λ root. kept-bind (build S L.limit p b) (build S M.limit p b) _ _ (build-kept S L.limit M.limit W.nodes p b) (λ g. after_kept S L M W.terms b p root g))

  -- of a run that is not refused the same nodes have their turns in building
  pub run-turned : (p : N) (b : ℕ) (o : Outcome) → run_of S L p b ≡ ok o → turned S M.limit p b ≡ turned S L.limit p b
  unfolding run_of
  run-turned p b o e =
      let (root, _, f) = bind_ok (L.starting_term [] p) _ o e in
      let (g, k, _) = bind_ok (build S L.limit p b) _ o f in
      turned-kept S L.limit M.limit W.nodes p b g k

  -- Where both may enter as many nodes, a run refused by 12 is refused by 12: before it only the root's starting term was made, and the terms are refused by 13 alone.
  pub run-twelve : Refuses13 L → L.limit ≡ M.limit → (p : N) (b : ℕ) → run_of S L p b ≡ refused 12 → run_of S M p b ≡ refused 12
  unfolding run_of
  run-twelve R same p b e = go (bind-refused (L.starting_term [] p) (λ root. build S L.limit p b >>= λ g. after_building S L b p root g) 12 e)
    where
      go : (L.starting_term [] p ≡ refused 12) ⊎ ((root : Interned) × (L.starting_term [] p ≡ ok root) × ((build S L.limit p b >>= λ g. after_building S L b p root g) ≡ refused 12)) → (M.starting_term [] p >>= λ root. build S M.limit p b >>= λ g. after_building S M b p root g) ≡ refused 12
      go (inl z) = absurd (omega (arith, R.start [] p 12 z))
      go (inr (root, y, z)) = elim (bind-refused (build S L.limit p b) (λ g. after_building S L b p root g) 12 z) [
        | inl x ↦ rw (kept-ok (L.starting_term [] p) (M.starting_term [] p) root (W.terms.start [] p) y, sym (ap (λ (n : ℕ). build S n p b) same) ∙ x) refl
        | inr x ↦ absurd (omega (arith, after-only S L R b p root x.0 12 x.2))
      ]

-- ---- a larger limit of nodes alone
both-kept : {A : Type 0} (x y : Res A) → Kept x y → Kept y x → Only13 x → Only13 y → x ≡ y
both-kept (ok a) y k j h g = sym k
both-kept (refused n) (ok b) k j h g = j
both-kept (refused n) (refused i) k j h g = ap refused (h n refl ∙ sym (g i refl))

-- terms that are kept both ways and refused by 13 alone are the same
module _ {N : Type 0} (S : System N) (L M : Making N) (W : Wider L M) (B : Roomier M L) (R : Refuses13 L) (Q : Refuses13 M) where
  -- A run is refused by 12, or it is the run with the larger limit: only building reads the limit, and it is refused by 12 alone.
  pub run-or-twelve : (p : N) (b : ℕ) → (run_of S L p b ≡ refused 12) ⊎ (run_of S L p b ≡ run_of S M p b)
  unfolding run_of
  run-or-twelve p b = starts (L.starting_term [] p) (M.starting_term [] p) (both-kept (L.starting_term [] p) (M.starting_term [] p) (W.terms.start [] p) (B.start [] p) (R.start [] p) (Q.start [] p))
    where
      rest : Making N → Interned → Res (Checked (List N)) → Res Outcome
      rest K root g = g >>= λ x. after_building S K b p root x

      built : (root : Interned) (x : Res (Checked (List N))) → build S L.limit p b ≡ x → (y : Res (Checked (List N))) → Kept x y → (rest L root x ≡ refused 12) ⊎ (rest L root x ≡ rest M root y)
      built root (ok g) e y k = inr (rw k (both-kept (after_building S L b p root g) (after_building S M b p root g) (after_kept S L M W.terms b p root g) (after_kept S M L B b p root g) (after-only S L R b p root g) (after-only S M Q b p root g)))
      built root (refused n) e y k = inl (ap refused (build-refused S L.limit p b n e).0)

      starts : (x y : Res Interned) → x ≡ y → ((x >>= λ root. rest L root (build S L.limit p b)) ≡ refused 12) ⊎ ((x >>= λ root. rest L root (build S L.limit p b)) ≡ (y >>= λ root. rest M root (build S M.limit p b)))
      starts (ok root) y e = rw (← e) (built root (build S L.limit p b) refl (build S M.limit p b) (build-kept S L.limit M.limit W.nodes p b))
      starts (refused n) y e = inr (rw (← e) refl)
