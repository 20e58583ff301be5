-- "`dedup_and_insert` may go if it is proved to change no result": repeated actions, repeated monomials and repeated padded pairs change no turn and no graph.
use Rattle.std.specs.Prelude.{◌≡◌, refl, ◌⊎◌, Bool, true, false, List, [], ◌++◌, map, ℕ, ◌+◌, ◌*◌, eqb}
use Rattle.std.proofs.Common.{sym, ap, ◌∙◌, subst, inl, inr, arith}
use Rattle.spec.specs.Bytes as S
use Rattle.spec.specs.Bytes.{Limits, In, each, Two, ◌>>=◌}
use Rattle.spec.specs.Image.{Tables, identity_of}
use Rattle.spec.specs.Monomial.{Monomial, MonomialPair, monomials_of, pad_pair, both_itself, representation_pairs, narrow, narrow_pairs}
use Rattle.spec.specs.Transport.{plan_size, plan_mass}
use Rattle.spec.specs.Action.{Action, TransportAction, structural, ac_ops, transports, cell_pairs, joins}
use Rattle.spec.specs.System as system
use Rattle.spec.specs.System.{System, stay, worth, offer_all}
use Rattle.spec.specs.Pairs.{solved_plans, offers_of, pairs}
use Rattle.spec.specs.Graph.{enter_all}
use Rattle.spec.specs.Round.{ones, Act, of_action, Turn, turn_of}
use Rattle.laws.specs.Lists.{in-nil}
use Rattle.laws.specs.Bag.{Perm, nil, skip, swap, both, perm_in, perm-sym}
use Rattle.steps.specs.Quality.{two-eq, Total}
use Rattle.laws.specs.Repeats.{Fewer, done, Equal, fewer-all, fewer-seen, fewer-append, fewer-in, fewer-each, fewer-map, fewer-filter, fewer-trans}
use Rattle.steps.specs.Turn.{all_append}
use Rattle.steps.specs.Repeats.{all-fewer, enter_all-fewer}

-- ---- the same action twice: by operation and joined pairs, in whatever order (the signature of `dedup_and_insert`)
pub record Repeats (a b : Action) : Type 0 where
  pub op : a.op ≡ b.op
  pub pairs : Perm a.pairs b.pairs

perm-total : (q : Two → Two) (l m : List Two) → Perm l m → Total (ones l) (map q l) ≡ Total (ones m) (map q m)
unfolding plan_size plan_mass
perm-total q l m nil = refl
perm-total q l m (skip x {l = j} {m = k} d) = ap {B = Two} (λ (z : Two). (1 * (q x).0 + z.0, 1 * (q x).1 + z.1)) (perm-total q j k d)
perm-total q l m (swap x y k) = two-eq (omega arith) (omega arith)
perm-total q l m (both {m = k} d e) = perm-total q l k d ∙ perm-total q k m e

pub repeat-worth : (t : Tables) (q : Two → Two) (a b : Action) → Repeats a b → worth (pairs t) q (of_action a) ≡ worth (pairs t) q (of_action b)
repeat-worth t q a b r = ap {B = Two} (λ (z : Two). (1 + z.0, z.1)) (perm-total q a.pairs b.pairs r.pairs)

still : {A : Type 0} {z : A} {m : List A} → In z m ⊎ In z [] → In z m
still (inl i) = i
still (inr i) = absurd (in-nil i)

-- ---- the theorems
-- A turn without the repeats of actions ends as the turn with them: the same quality by the same choice.
pub turn-without-repeats : (t : Tables) (q : Two → Two) (p : Two) (l : List Action) (m : List TransportAction)
    → Fewer Repeats [] (structural t p.0 p.1) l → Fewer Equal [] (transports t p.0 p.1) m
    → offer_all (pairs t) q (map of_action l ++ each (solved_plans q) m) (record { quality = q p; choice = stay }) ≡ turn_of t q p
unfolding system.turn_of offers_of
turn-without-repeats t q p l m d e =
    all_append S q (map of_action l) (plans m) w
    ∙ ap (offer_all S q (plans m)) (sym (all-fewer S q {R = λ a b. worth S q a ≡ worth S q b} (λ a b r. r) [] (map of_action (structural t p.0 p.1)) (map of_action l) w (λ a i. absurd (in-nil i)) (fewer-map of_action (repeat-worth t q) [] (structural t p.0 p.1) l d)))
    ∙ sym (all_append S q (map of_action (structural t p.0 p.1)) (plans (transports t p.0 p.1)) w
    ∙ all-fewer S q {R = Equal} (λ a b r. ap (worth S q) r) [] (plans (transports t p.0 p.1)) (plans m) (offer_all S q (map of_action (structural t p.0 p.1)) w) (λ a i. absurd (in-nil i))
    (fewer-each (solved_plans q) (solved_plans q) [] [] (transports t p.0 p.1) m (λ a s. fewer-all (solved_plans q a) s) (λ y x r z i. subst (λ a. In z (solved_plans q a)) (sym r) i) (λ y i. absurd (in-nil i)) e))
  where
    S : System Two
    S = pairs t

    w : Turn
    w = record { quality = q p; choice = stay }

    plans : List TransportAction → List Act
    plans l = each (solved_plans q) l

-- And the pairs that they join are entered as before, in the same order.
pub joins-without-repeats : (lim : Limits) (t : Tables) (p : Two) (ps : List Two) (l : List Action) (m : List TransportAction)
    → Fewer Repeats [] (structural t p.0 p.1) l → Fewer Equal [] (transports t p.0 p.1) m
    → enter_all lim ps (each (λ a. a.pairs) l ++ each (λ a. cell_pairs a.sides) m) ≡ enter_all lim ps (joins t p)
unfolding joins
joins-without-repeats lim t p ps l m d e = sym (enter_all-fewer (pairs t) lim.pairs [] (joins t p) (kept ++ each cells m) ps (λ x i. absurd (in-nil i)) (fewer-append [] (each (λ a. a.pairs) (structural t p.0 p.1)) kept (each cells (transports t p.0 p.1)) (each cells m) first second))
  where
    cells : TransportAction → List Two
    cells a = cell_pairs a.sides

    kept : List Two
    kept = each (λ a. a.pairs) l

    first : Fewer Equal [] (each (λ a. a.pairs) (structural t p.0 p.1)) kept
    first = fewer-each (λ a. a.pairs) (λ a. a.pairs) [] [] (structural t p.0 p.1) l (λ a s. fewer-all a.pairs s) (λ y x r z i. perm_in (perm-sym r.pairs) i) (λ y i. absurd (in-nil i)) d

    second : Fewer Equal (kept ++ []) (each cells (transports t p.0 p.1)) (each cells m)
    second = fewer-each cells cells [] (kept ++ []) (transports t p.0 p.1) m (λ a s. fewer-all (cells a) s) (λ y x r z i. subst (λ a. In z (cells a)) (sym r) i) (λ y i. absurd (in-nil i)) e

-- The transports made of monomials and padded pairs without repeats are the transports without some repeats.
abbrev pub pairs_over : Tables → ℕ → ℕ → ℕ → List Monomial → List Monomial → List MonomialPair
pairs_over t l r o ls rs = each (λ a. each (λ b. elim (both_itself l r a b) [ true ↦ [] | false ↦ pad_pair (identity_of t o) a b ]) rs) ls

pub transports-without-repeats : (t : Tables) (l r : ℕ) (ls rs : ℕ → List Monomial) (ms : ℕ → List MonomialPair)
    → ((o : ℕ) → Fewer Equal [] (monomials_of t l o) (ls o)) → ((o : ℕ) → Fewer Equal [] (monomials_of t r o) (rs o)) → ((o : ℕ) → Fewer Equal [] (pairs_over t l r o (ls o) (rs o)) (ms o))
    → Fewer Equal [] (transports t l r) (elim (eqb l r) [ true ↦ [] | false ↦ each (λ o. map (λ m. record { op = o; sides = m }) (narrow_pairs (ms o))) (ac_ops t l r) ])
unfolding transports representation_pairs narrow_pairs
transports-without-repeats t l r ls rs ms d e f = go (eqb l r)
  where
    cell : ℕ → Monomial → Monomial → List MonomialPair
    cell o a b = elim (both_itself l r a b) [ true ↦ [] | false ↦ pad_pair (identity_of t o) a b ]

    -- one left monomial with all right ones
    row : (o : ℕ) (a : Monomial) (s : List MonomialPair) → Fewer Equal s (each (cell o a) (monomials_of t r o)) (each (cell o a) (rs o))
    row o a s = fewer-each (cell o a) (cell o a) [] s (monomials_of t r o) (rs o) (λ b k. fewer-all (cell o a b) k) (λ y x q z i. subst (λ b. In z (cell o a b)) (sym q) i) (λ y i. absurd (in-nil i)) (e o)

    sides : (o : ℕ) → Fewer Equal [] (representation_pairs t l r o) (ms o)
    sides o =
        fewer-trans [] (representation_pairs t l r o) (pairs_over t l r o (ls o) (rs o)) (ms o)
        (fewer-each (λ a. each (cell o a) (monomials_of t r o)) (λ a. each (cell o a) (rs o)) [] [] (monomials_of t l o) (ls o) (row o)
        (λ y x q z i. subst (λ a. In z (each (cell o a) (rs o))) (sym q) (still (fewer-in [] (each (cell o x) (monomials_of t r o)) (each (cell o x) (rs o)) (row o x []) z i)))
        (λ y i. absurd (in-nil i)) (d o))
        (f o)

    make : ℕ → List MonomialPair → List TransportAction
    make o l = map (λ m. record { op = o; sides = m }) (narrow_pairs l)

    made : (o : ℕ) → Fewer Equal [] (make o (representation_pairs t l r o)) (make o (ms o))
    made o = fewer-map (λ m. record { op = o; sides = m }) (λ y x e. ap (λ (m : MonomialPair). record { op = o; sides = m }) e) [] (narrow_pairs (representation_pairs t l r o)) (narrow_pairs (ms o)) (fewer-filter (λ p. S.both (narrow p.rows) (narrow p.cols)) [] [] (representation_pairs t l r o) (ms o) (λ x i. absurd (in-nil i)) (sides o))

    go : (b : Bool) → Fewer {A = TransportAction} Equal [] (elim b [ true ↦ [] | false ↦ each (λ o. make o (representation_pairs t l r o)) (ac_ops t l r) ]) (elim b [ true ↦ [] | false ↦ each (λ o. make o (ms o)) (ac_ops t l r) ])
    go true = done
    go false =
        fewer-each (λ o. make o (representation_pairs t l r o)) (λ o. make o (ms o)) [] [] (ac_ops t l r) (ac_ops t l r)
        (λ o s. fewer-seen [] s (make o (representation_pairs t l r o)) (make o (ms o)) (λ x i. absurd (in-nil i)) (made o))
        (λ y x q z i. subst (λ o. In z (make o (ms o))) (sym q) (still (fewer-in [] (make x (representation_pairs t l r x)) (make x (ms x)) (made x) z i)))
        (λ y i. absurd (in-nil i)) (fewer-all {R = Equal} (ac_ops t l r) [])
