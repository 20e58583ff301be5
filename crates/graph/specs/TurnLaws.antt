-- Building: pair after pair, with a check before each one's turn. Assumes nothing.
use Rattle.std.specs.Prelude.{◌≡◌, true, false, not, ℕ, zero, suc, ◌+◌, ◌*◌, ◌≤◌, ◌<◌, length, get_or, replicate, Option, Some, None}
use Rattle.std.proofs.Math.Path.{refl, sym, ap}
use Rattle.std.proofs.Common.{ap₂, ◌∙◌, add-one, arith}
use Rattle.std.proofs.Math.Logic.{⊎_elim}
use mathlib.Core.List.{List, [], ◌∷◌, map}
use Rattle.spec.specs.Bytes.{sum, Limits, Two, Res, ok, refused, ◌>>=◌, Checked, passed, cut_short}
use Rattle.spec.specs.Image.{Tables}
use Rattle.spec.specs.Action.{joins, skipped_at}
use Rattle.spec.specs.System as system
use Rattle.spec.specs.Pairs.{pairs}
use Rattle.spec.specs.Graph.{enter, enter_all, build_from, build, skipped_in}
use Rattle.spec.specs.Meaning.{In}
use Rattle.laws.specs.Tests.{clash}
use Rattle.laws.specs.Valid.{Valid}
use Rattle.laws.specs.Lists.{in-nil, in-cons, get_in}
use Rattle.laws.specs.Results.{refused-ok, ok-inj}
use Rattle.steps.specs.BuildFrom.{build-stop, build-turn, build-done}
use Rattle.steps.specs.Turned.{turned-stop, turned_turn, turned-done}
use Rattle.skips.specs.Few.{pair-few}
use Rattle.steps.specs.Enter.{Entered, grown, overfull, enter_all-says}
use Rattle.laws.specs.BestMembers.{IsPair}
use Rattle.lgg.specs.Within.{joins-within}
use Rattle.arrays.specs.Arrays.{unkey, unkeyed, pairs_in}
use Rattle.arrays.specs.ArrayLaws.{unkeyed-length, unkeyed-at}
use Rattle.budget.specs.declared.Budget.{Budget}
use Rattle.budget.specs.declared.Spent.{Spent}
use Rattle.budget.specs.Budget.{spend_at, spend_of}
use Rattle.graph.specs.declared.Built.{Built}
use Rattle.graph.specs.declared.Built.TheVariants.{All, Cut}
use Rattle.entering.specs.Entered.{entered, cleared}
use Rattle.graph.specs.Building.{Builds}
use Rattle.entering.specs.Growing.{Graph, Going, Grows}
use Rattle.graph.specs.Ending.{AllPairs, Whole, Ends, skipped_from}

-- ---- a check
pub check-none : (b : Budget) (x : Spent) → x ≡ spend_of b → not x.passed ≡ true → b.left ≡ 0
check-none b x e f = go b.left (sym (ap (λ (y : Spent). not y.passed) e) ∙ f)
  where
    go : (n : ℕ) → not (spend_at n).passed ≡ true → n ≡ 0
    go zero q = refl
    go (suc n) q = absurd (clash (sym q))

pub check-one : (b : Budget) (x : Spent) → x ≡ spend_of b → not x.passed ≡ false → b.left ≡ suc x.budget.left
check-one b x e f = go b.left (sym (ap (λ (y : Spent). not y.passed) e) ∙ f) ∙ ap (λ (y : Spent). suc y.budget.left) (sym e)
  where
    go : (n : ℕ) → not (spend_at n).passed ≡ false → n ≡ suc (spend_at n).budget.left
    go zero q = absurd (clash q)
    go (suc n) q = refl

-- ---- a pair's turn
module _ (lim : Limits) (t : Tables) (ps : List Two) where
  -- what is entered are pairs of the list or pairs that were there
  entered_only : (l qs : List Two) → enter_all lim ps l ≡ ok qs → (x : Two) → In x qs → (P : Two → Type 0) → ((y : Two) → In y ps → P y) → ((y : Two) → In y l → P y) → P x
  entered_only l qs e x i P f g = go (enter_all lim ps l) (enter_all-says (pairs t) lim.pairs l ps) e
    where
      go : (r : Res (List Two)) → Entered lim.pairs ps l r → r ≡ ok qs → P x
      go (ok rs) (grown d k) q = ⊎_elim (λ j. f x j) (λ j. g x j) (d.only x (rw (ok-inj q) i))
      go (refused n) (overfull z o) q = absurd (refused-ok q)

-- After i turns there are n pairs, j monomial pairs were passed over, and the rest of building leads to g and to k in all.
pub record Turning (lim : Limits) (t : Tables) (w k : ℕ) (g : Res (Checked (List Two))) (b : ℕ) (graph : List ℕ) (n j i : ℕ) : Type 0 where
  pub leads : build_from lim b t (pairs_in w graph n) i ≡ g
  pub counted : j + skipped_from lim b t (pairs_in w graph n) i ≡ k
  pub few_over : j ≤ i * 525376
  pub holds : Graph lim w n graph
  pub pairs : AllPairs t (pairs_in w graph n)

module _ (lim : Limits) (t : Tables) (w : ℕ) where
  pub turning-start : (b : ℕ) (graph : List ℕ) (n : ℕ) → Graph lim w n graph → AllPairs t (pairs_in w graph n) → Turning lim t w (skipped_from lim b t (pairs_in w graph n) 0) (build_from lim b t (pairs_in w graph n) 0) b graph n 0 0
  turning-start b graph n g p = record { leads = refl; counted = omega arith; few_over = omega arith; holds = g; pairs = p }

  module _ {k : ℕ} {g : Res (Checked (List Two))} {b : ℕ} {graph : List ℕ} {n j i : ℕ} (d : Turning lim t w k g b graph n j i) where
    many : length (pairs_in w graph n) ≡ n
    many = unkeyed-length graph (w * w) n

    -- no pair is left
    pub turning-end : (c : Budget) → b ≡ c.left → n ≤ i → Ends lim w k g graph (Some (All n c j))
    unfolding sum
    turning-end c e h = record {
      says = (
        record {
          leads = sym d.leads ∙ build-done (pairs t) lim.pairs (pairs_in w graph n) b i (omega (arith, h, many)) ∙ ap (λ (m : ℕ). ok (passed (pairs_in w graph n) m)) e;
          holds = d.holds;
        },
        omega (arith, d.counted, ap (λ (l : List Two). sum (map (skipped_at t) l)) (turned-done (pairs t) lim.pairs (pairs_in w graph n) b i (omega (arith, h, many)))),
      );
    }

    module _ (h : i < n) where
      -- the check is expired
      pub turning-cut : {graph' : List ℕ} → b ≡ 0 → Ends lim w k g graph' (Some (Cut j))
      unfolding sum
      turning-cut e = record {
        says = (sym d.leads ∙ build-stop (pairs t) lim.pairs (pairs_in w graph n) b i e (omega (arith, h, many)), omega (arith, d.counted, ap (λ (l : List Two). sum (map (skipped_at t) l)) (turned-stop (pairs t) lim.pairs (pairs_in w graph n) b i e)));
      }

      -- its key stands in the array
      pub turning-room : w * w + i < length graph
      turning-room = omega (arith, h, d.holds.keys.room)

      module _ (l r : ℕ) (x : l ≡ (unkey (get_or graph (w * w + i) 0)).0) (y : r ≡ (unkey (get_or graph (w * w + i) 0)).1) where
        here-is : get_or (pairs_in w graph n) i (0, 0) ≡ (l, r)
        here-is = unkeyed-at graph (w * w) n i h ∙ ap₂ (λ (u v : ℕ). (u, v)) (sym x) (sym y)

        -- the pair whose turn it is
        pub turning-pair : IsPair t (l, r)
        turning-pair = d.pairs (l, r) (rw here-is at (get_in (0, 0) (pairs_in w graph n) i (omega (arith, h, many))))

        -- what is counted so far leaves room
        pub turning-few : Valid t → (x : ℕ) → x ≡ skipped_at t (l, r) → (i + 1) * 525376 ≤ 4096 * 525376 × (j + x ≤ (i + 1) * 525376)
        turning-few v x q = (omega (arith, h, d.holds.keys.few), omega (arith, q, d.few_over, pair-few t v l r turning-pair.0 turning-pair.1))

        module _ (c : ℕ) (e : b ≡ suc c) where
          after : (z : Res (List Two)) → enter_all lim (pairs_in w graph n) (joins t (l, r)) ≡ z → g ≡ (z >>= λ qs. build_from lim c t qs (suc i))
          after z q =
              sym d.leads ∙ build-turn (pairs t) lim.pairs (pairs_in w graph n) b c i e (omega (arith, h, many))
              ∙ ap (λ (p : Two). enter_all lim (pairs_in w graph n) (joins t p) >>= λ qs. build_from lim c t qs (suc i)) here-is
              ∙ ap (λ (u : Res (List Two)). u >>= λ qs. build_from lim c t qs (suc i)) q

          pub turning-full : {graph' graph'' : List ℕ} (z : Option ℕ) → Grows lim w (enter_all lim (pairs_in w graph n) (joins t (l, r))) graph' z → z ≡ None → Ends lim w k g graph'' None
          turning-full z u q = record { says = after (refused 12) (rw q at u.says) }

          -- those of this pair, and of the turns after it
          over : (z : Res (List Two)) → enter_all lim (pairs_in w graph n) (joins t (l, r)) ≡ z
              → skipped_from lim b t (pairs_in w graph n) i ≡ skipped_at t (l, r) + sum (map (skipped_at t) (elim z [ ok qs ↦ system.turned_from (pairs t) lim.pairs c qs (suc i) | refused x ↦ [] ]))
          unfolding sum
          over z q =
              ap (λ (l : List Two). sum (map (skipped_at t) l)) (turned_turn (pairs t) lim.pairs (pairs_in w graph n) b c i e (omega (arith, h, many)))
              ∙ ap (λ (p : Two). skipped_at t p + sum (map (skipped_at t) (elim (enter_all lim (pairs_in w graph n) (joins t p)) [ ok qs ↦ system.turned_from (pairs t) lim.pairs c qs (suc i) | refused x ↦ [] ]))) here-is
              ∙ ap (λ (y : Res (List Two)). skipped_at t (l, r) + sum (map (skipped_at t) (elim y [ ok qs ↦ system.turned_from (pairs t) lim.pairs c qs (suc i) | refused x ↦ [] ]))) q

          pub turning-on : {m : ℕ} {graph' : List ℕ} (v : Valid t) (s : ℕ) → s ≡ skipped_at t (l, r) → (z : Option ℕ) → Grows lim w (enter_all lim (pairs_in w graph n) (joins t (l, r))) graph' z → z ≡ Some m → Turning lim t w k g c graph' m (j + s) (i + 1)
          unfolding system.enter_all
          turning-on {m} {graph'} v s f z u q = go (rw q at u.says)
            where
              go : Going lim w (enter_all lim (pairs_in w graph n) (joins t (l, r))) [] m graph' → Turning lim t w k g c graph' m (j + s) (i + 1)
              go u = record {
                leads = rw (add-one i) (sym (after (ok (pairs_in w graph' m)) (sym u.leads)));
                counted = rw (add-one i) (omega (arith, f, d.counted, over (ok (pairs_in w graph' m)) (sym u.leads)));
                few_over = (turning-few v s f).1;
                holds = u.holds;
                pairs = λ p j. entered_only lim t (pairs_in w graph n) (joins t (l, r)) (pairs_in w graph' m) (sym u.leads) p j (IsPair t) d.pairs (λ y k. joins-within t v (l, r) turning-pair y k);
              }

-- ---- from the queried pair on
module _ (lim : Limits) (t : Tables) (w l r b : ℕ) (graph : List ℕ) where
  -- a cleared array has no pair
  pub empty-graph : w ≤ 256 → lim.pairs ≤ 4096 → w * w + lim.pairs ≤ length graph → graph ≡ cleared graph → Graph lim w 0 graph
  unfolding unkeyed entered
  empty-graph h most room e = record {
    keys = record { wide = h; few = omega arith; room = omega (arith, room); small = λ p i. absurd (in-nil i); laid = e };
    few = omega arith;
    most = most;
    room = room;
  }

  module _ (x : Option ℕ) {graph₁ : List ℕ} (u : Grows lim w (enter_all lim (pairs_in w graph 0) ((l, r) ∷ [])) graph₁ x) where
    entered-first : (z : Res (List Two)) → enter_all lim (pairs_in w graph 0) ((l, r) ∷ []) ≡ z → build lim t (l, r) b ≡ (z >>= λ qs. build_from lim b t qs 0)
    unfolding unkeyed system.enter_all system.build
    entered-first z q = go (enter lim [] (l, r)) ∙ ap (λ (y : Res (List Two)). y >>= λ qs. build_from lim b t qs 0) q
      where
        go : (y : Res (List Two)) → (y >>= λ qs. build_from lim b t qs 0) ≡ ((y >>= λ qs. enter_all lim qs []) >>= λ qs. build_from lim b t qs 0)
        go (ok qs) = refl
        go (refused n) = refl

    counted-first : (z : Res (List Two)) → enter_all lim (pairs_in w graph 0) ((l, r) ∷ []) ≡ z → skipped_in lim t (l, r) b ≡ sum (map (skipped_at t) (elim z [ ok qs ↦ system.turned_from (pairs t) lim.pairs b qs 0 | refused n ↦ [] ]))
    unfolding unkeyed system.enter_all system.turned skipped_in
    counted-first z q = go (enter lim [] (l, r)) ∙ ap (λ (y : Res (List Two)). sum (map (skipped_at t) (elim y [ ok qs ↦ system.turned_from (pairs t) lim.pairs b qs 0 | refused n ↦ [] ]))) q
      where
        go : (y : Res (List Two)) → sum (map (skipped_at t) (elim y [ ok qs ↦ system.turned_from (pairs t) lim.pairs b qs 0 | refused n ↦ [] ]))
            ≡ sum (map (skipped_at t) (elim (y >>= λ qs. enter_all lim qs []) [ ok qs ↦ system.turned_from (pairs t) lim.pairs b qs 0 | refused n ↦ [] ]))
        go (ok qs) = refl
        go (refused n) = refl

    pub first-full : {graph'' : List ℕ} → x ≡ None → Ends lim w (skipped_in lim t (l, r) b) (build lim t (l, r) b) graph'' None
    first-full q = record { says = entered-first (refused 12) (rw q at u.says) }

    module _ (n : ℕ) (q : x ≡ Some n) where
      first-leads : Going lim w (enter_all lim (pairs_in w graph 0) ((l, r) ∷ [])) [] n graph₁
      first-leads = rw q at u.says

      first-is : enter_all lim (pairs_in w graph 0) ((l, r) ∷ []) ≡ ok (pairs_in w graph₁ n)
      unfolding system.enter_all
      first-is = sym first-leads.leads

      pub first-graph : Graph lim w n graph₁
      first-graph = first-leads.holds

      pub first-pairs : IsPair t (l, r) → AllPairs t (pairs_in w graph₁ n)
      unfolding unkeyed
      first-pairs h p i = entered_only lim t (pairs_in w graph 0) ((l, r) ∷ []) (pairs_in w graph₁ n) first-is p i (IsPair t) (λ y j. absurd (in-nil j)) (λ y j. ⊎_elim (λ e. rw e h) (λ k. absurd (in-nil k)) (in-cons j))

      pub first_on : {graph'' : List ℕ} (y : Option Built) → Ends lim w (skipped_from lim b t (pairs_in w graph₁ n) 0) (build_from lim b t (pairs_in w graph₁ n) 0) graph'' y → Ends lim w (skipped_in lim t (l, r) b) (build lim t (l, r) b) graph'' y
      first_on {graph''} y d =
          let e : build lim t (l, r) b ≡ build_from lim b t (pairs_in w graph₁ n) 0 = entered-first (ok (pairs_in w graph₁ n)) first-is in
          let k : skipped_in lim t (l, r) b ≡ skipped_from lim b t (pairs_in w graph₁ n) 0 = counted-first (ok (pairs_in w graph₁ n)) first-is in
          rw (e, k) d

-- ---- the cleared or full array
module _ (lim : Limits) (w : ℕ) {k : ℕ} {g : Res (Checked (List Two))} (graph : List ℕ) {graph' : List ℕ} (x : Option Built) (d : Ends lim w k g graph' x) where
  pub finish-all : (n : ℕ) (c : Budget) (j : ℕ) → x ≡ Some (All n c j) → length graph' ≡ length graph → Builds w k g graph graph' (Some (All n c j))
  finish-all n c j e size = go (rw e at d.says)
    where
      go : Whole lim w g n c graph' × (j ≡ k) → Builds w k g graph graph' (Some (All n c j))
      go (u, q) = rw (u.leads, q) (record {
        answer = ap (λ (m : ℕ). Some (All m c k)) (sym (unkeyed-length graph' (w * w) n));
        graph = u.holds.keys.laid ∙ ap (λ (m : ℕ). entered w 0 (pairs_in w graph' n) (replicate m 0)) size;
      })

  module _ {graph'' : List ℕ} (f : graph'' ≡ cleared graph) where
    pub finish-cut : (j : ℕ) → x ≡ Some (Cut j) → Builds w k g graph graph'' (Some (Cut j))
    finish-cut j e = let (z, q) : (g ≡ ok cut_short) × (j ≡ k) = rw e at d.says in rw (z, q) (record { answer = refl; graph = f })

    pub finish-full : x ≡ None → Builds w k g graph graph'' None
    finish-full e = let z : g ≡ refused 12 = rw e at d.says in rw z (record { answer = refl; graph = f })
