-- The pool that a run leaves: within the limits of terms and runs, with operations of the image and values of 32 bits.
use Rattle.std.specs.Prelude.{◌≡◌, refl, ◌≢◌, Bool, ltb, leb, eqb, length, get_or}
use Rattle.std.proofs.Common.{ap, inl, inr, ltb-true, leb-true, length-append}
use Rattle.std.proofs.Math.Bool.{true, false}
use mathlib.Core.List.{List, [], ◌∷◌, ◌++◌}
use Prim.Native.Nat.{ℕ, zero, suc, ◌+◌, ◌≤◌, ◌<◌, zero-le}
use Rattle.std.proofs.Math.Decide.{dec_lt}
use native.Mathlib.Omega.{arith}
use Rattle.std.proofs.Math.ListN.{get_or-eq_default}
use Rattle.spec.specs.Bytes.{In, here, there, pick, both, place, Two, Limits, Res, ok, refused, ◌>>=◌}
use Rattle.spec.specs.Image.{Tables, Operation, Member, Lit, NO-IDENTITY, kind_of, identity_of, is_commutative, best_size, best_member, members_of, children_of, the_member, entries, member_at, member_count, members_from, MEMBER-BYTES, tables_of}
use Rattle.spec.specs.Pool.{Pool, Node, same_node, run_count, Interned, interned, intern, op_node, lit_node, variants_node, sort_runs, Children, child_terms, best_term_in, best_term, starting_term}
use Rattle.spec.specs.System.{Act}
use Rattle.spec.specs.Pairs.{action_term, offers_of, pairs, making}
use Rattle.spec.specs.Run.{Outcome, run_of}
use Rattle.spec.specs.Meaning.{Side, member, itself, padded}
use Rattle.laws.specs.Valid.{Valid}
use Rattle.laws.specs.Lists.{in-nil, in-cons, in-append, get_in}
use Rattle.laws.specs.Results.{bind_ok, ok-inj, refused-ok}
use Rattle.laws.specs.BestMembers.{IsClass, IsPair, member-number, best-in, child-within}
use Rattle.lgg.specs.Within.{joins-within}
use Rattle.lgg.specs.Moves.{each-offer}
use Rattle.readings.specs.ReadingsNode.{Covers, in_order, any_order}
use Rattle.readings.specs.ReadingsActions.{structural-legal, transport-carries}
use Rattle.own_lines.specs.Loading.{runs_append}
use Rattle.own_lines.specs.Keeping.{Keeps, run-keeps}

-- ---- an image of bytes has values of 32 bits
abbrev pub Bytes : List ℕ → Type 0
Bytes s = (i : ℕ) → get_or s i 0 < 256

abbrev pub Narrow : Tables → Type 0
Narrow t = (m : Member) → In m t.members → m.value ≤ 4294967295

pub image-narrow : (s : List ℕ) → Bytes s → Narrow (tables_of s)
unfolding tables_of
image-narrow s b = go (member_count s) (members_from s)
  where
    go : (n i : ℕ) (m : Member) → In m (entries (member_at s) MEMBER-BYTES n i) → m.value ≤ 4294967295
    go zero i m j = absurd (in-nil j)
    go (suc n) i m j = elim (in-cons j) [
      | inl e ↦ rw e (omega (arith, b (i + 2), b (i + 2 + 1), b (i + 2 + 2), b (i + 2 + 2 + 1)))
      | inr k ↦ go n (i + MEMBER-BYTES) m k
    ]

-- ---- a tidy pool
abbrev pub Plain : Node → Type 0
Plain n = (n.op < 64) × (n.value ≤ 4294967295)

pub record Tidy (lim : Limits) (p : Pool) : Type 0 where
  pub few : length p ≤ lim.terms
  pub few_runs : run_count p ≤ lim.runs
  pub plain : (n : Node) → In n p → Plain n

intern-tidy : (lim : Limits) (p : Pool) (n : Node) (r : Interned) → Plain n → Tidy lim p → intern lim p n ≡ ok r → Tidy lim r.pool
unfolding intern
intern-tidy lim p n r h T e = go (ltb (place (same_node n) p) (length p)) (ltb (length p) lim.terms) refl (leb (run_count p + length n.runs) lim.runs) refl e
  where
    go : (a x : Bool) → ltb (length p) lim.terms ≡ x → (y : Bool) → leb (run_count p + length n.runs) lim.runs ≡ y
        → pick a (ok (interned p (place (same_node n) p))) (pick (both x y) (ok (interned (p ++ (n ∷ [])) (length p))) (refused 13)) ≡ ok r → Tidy lim r.pool
    go true x kx y ky e = rw (← ok-inj e) T
    go false true kx true ky e = rw (← ok-inj e) (record {
      few = omega (arith, ltb-true (length p) lim.terms kx, length-append p (n ∷ []));
      few_runs = omega (arith, leb-true (run_count p + length n.runs) lim.runs ky, runs_append p (n ∷ []));
      plain = λ m i. elim (in-append p i) [ inl j ↦ T.plain m j | inr j ↦ elim (in-cons j) [ inl q ↦ rw q h | inr k ↦ absurd (in-nil k) ] ];
    })
    go false true kx false ky e = absurd (refused-ok e)
    go false false kx y ky e = absurd (refused-ok e)

-- ---- operations of the image
module _ (t : Tables) (v : Valid t) (narrow : Narrow t) where
  member-plain : (m : Member) (c : ℕ) → In m (members_of t c) → (m.op < 64) × (m.value ≤ 4294967295)
  member-plain m c i =
      let (k, h, e) = member-number t v m c i in
      rw e (omega (arith, v.spans.operation_within k h, v.counts.few_operations), narrow (the_member t k) (get_in _ t.members k h))

  identity-plain : (o : ℕ) → identity_of t o ≢ NO-IDENTITY → o < 64
  identity-plain o n = go (dec_lt o (length t.operations))
    where
      go : Dec (o < length t.operations) → o < 64
      go (yes h) = omega (arith, v.counts.few_operations)
      go (no h) = absurd (n (ap (λ (z : Operation). z.identity) (get_or-eq_default t.operations (record { kind = 0; flag = 0; identity = NO-IDENTITY }) {n = o} (omega arith))))

  side-plain : (c o : ℕ) (l : List Two) → Side t c o l → o < 64
  side-plain c o l (member m i e f) = omega (arith, e, (member-plain m c i).0)
  side-plain c o l (itself n) = identity-plain o n
  side-plain c o l (padded k n e s) = identity-plain o n

  covers-plain : (o c : ℕ) (cs : List ℕ) → Covers t o c cs → o < 64
  covers-plain o c cs (in_order m i e n z h) = omega (arith, e, (member-plain m c i).0)
  covers-plain o c cs (any_order l s n h) = side-plain c o l s

  offers-plain : (q : Two → Two) (p : Two) (a : Act Two) → In a (offers_of t q p) → a.op < 64
  offers-plain q p =
      each-offer (λ a. a.op < 64) t q p (λ a i. covers-plain a.op p.0 _ (structural-legal t v p a i).left)
      (λ a i x e. let r = (transport-carries t v p.0 p.1 a i).rows in side-plain p.0 a.op r.of r.side)

  -- ---- terms
  module _ (lim : Limits) where
    children-tidy : (best : Pool → ℕ → Res Interned) (l : List Two) → ((c : Two) → In c l → (p : Pool) (r : Interned) → Tidy lim p → best p c.0 ≡ ok r → Tidy lim r.pool)
        → (p : Pool) (k : Children) → Tidy lim p → child_terms best p l ≡ ok k → Tidy lim k.pool
    unfolding child_terms
    children-tidy best [] h p k T e = rw (← ok-inj e) T
    children-tidy best (c ∷ l) h p k T e =
        let (a, ea, e') = bind_ok (best p c.0) _ k e in
        let (m, em, e'') = bind_ok (child_terms best a.pool l) _ k e' in
        rw (← ok-inj e'') (children-tidy best l (λ d i. h d (there i)) a.pool m (h c here p a T ea) em)

    best-tidy : (f : ℕ) (p : Pool) (c : ℕ) (r : Interned) → IsClass t c → Tidy lim p → best_term_in lim f t p c ≡ ok r → Tidy lim r.pool
    unfolding best_term_in
    best-tidy zero p c r h T e = rw (← ok-inj e) T
    best-tidy (suc f) p c r h T e = go (eqb (kind_of t m.op) Lit) (λ d i q s. best-tidy f q d.0 s (child-within t v m c (best-in t v c h) d i)) e
      where
        m : Member
        m = best_member t c

        own : Plain (lit_node m.op m.value)
        own = member-plain m c (best-in t v c h)

        go : (b : Bool) → ((d : Two) → In d (children_of t m) → (q : Pool) (s : Interned) → Tidy lim q → best_term_in lim f t q d.0 ≡ ok s → Tidy lim s.pool)
            → (elim b [ true ↦ intern lim p (lit_node m.op m.value) | false ↦ child_terms (best_term_in lim f t) p (children_of t m) >>= (λ k. intern lim k.pool (op_node m.op k.runs)) ]) ≡ ok r → Tidy lim r.pool
        go true ih e = intern-tidy lim p (lit_node m.op m.value) r own T e
        go false ih e =
            let (k, ek, e') = bind_ok (child_terms (best_term_in lim f t) p (children_of t m)) _ r e in
            intern-tidy lim k.pool (op_node m.op k.runs) r (own.0, zero-le) (children-tidy (best_term_in lim f t) (children_of t m) ih p k T ek) e'

    starting-tidy : (p : Pool) (c : Two) (r : Interned) → IsPair t c → Tidy lim p → starting_term lim t p c ≡ ok r → Tidy lim r.pool
    unfolding starting_term
    starting-tidy p c r (h, k) T e = go (eqb c.0 c.1) e
      where
        go : (b : Bool) → (elim b [ true ↦ best_term lim t p c.0 | false ↦ best_term lim t p c.0 >>= (λ x. best_term lim t x.pool c.1 >>= (λ y. intern lim y.pool (variants_node x.term y.term))) ]) ≡ ok r → Tidy lim r.pool
        go true e = best-tidy (best_size t c.0) p c.0 r h T e
        go false e =
            let (x, ex, e') = bind_ok (best_term lim t p c.0) _ r e in
            let (y, ey, e'') = bind_ok (best_term lim t x.pool c.1) _ r e' in
            intern-tidy lim y.pool (variants_node x.term y.term) r (omega arith, zero-le) (best-tidy (best_size t c.1) x.pool c.1 y k (best-tidy (best_size t c.0) p c.0 x h T ex) ey) e''

    action-tidy : (p : Pool) (o : ℕ) (l : List Two) (r : Interned) → o < 64 → Tidy lim p → action_term lim t p o l ≡ ok r → Tidy lim r.pool
    unfolding action_term
    action-tidy p o l r h T e = intern-tidy lim p (op_node o (pick (is_commutative (kind_of t o)) (sort_runs p l) l)) r (h, zero-le) T e

    tidy-kept : Keeps (pairs t) (making lim t) (IsPair t) (Tidy lim)
    unfolding run_count
    tidy-kept = record {
      none = record { few = zero-le; few_runs = zero-le; plain = λ n i. absurd (in-nil i) };
      start = starting-tidy;
      action = λ pool p q a l r h i T e. action-tidy pool a.op l r (offers-plain q p a i) T e;
      onward = λ p c h i. joins-within t v p h c i;
    }

    -- The pool that a run leaves is within the limits, its operations are below 64 and its values have 32 bits.
    pub run-tidy : (p : Two) → IsPair t p → (b : ℕ) (o : Outcome) → run_of lim t p b ≡ ok o → Tidy lim o.pool
    run-tidy = run-keeps (pairs t) (making lim t) (IsPair t) (Tidy lim) tidy-kept
