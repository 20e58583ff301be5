-- Entering pairs: one pair, by what the array says; then list after list. Assumes nothing.
use Rattle.std.specs.Prelude.{◌≡◌, Bool, true, false, ℕ, ◌+◌, ◌*◌, ◌/◌, ◌%◌, ◌≤◌, ◌<◌, eqb, replicate, Option, Some, None}
use Rattle.std.proofs.Math.Path.{refl, sym, ap}
use Rattle.std.proofs.Common.{◌∙◌, arith}
use Rattle.std.proofs.Math.Logic.{⊎_elim}
use mathlib.Core.List.{List, [], ◌∷◌, ◌++◌, append-nil}
use borrow.Author.Tests.{lt-ltb, le-ltb, eqb-true, eqb-false}
use Rattle.std.proofs.Math.ListN.{length, get_or, length-replicate, length-append}
use Rattle.spec.specs.Bytes.{Limits, Two, any, same_two, Res, ok, refused, ◌>>=◌}
use Rattle.spec.specs.System as system
use Rattle.spec.specs.Pairs.{two-decides}
use Rattle.spec.specs.Graph.{enter, enter_all}
use Rattle.spec.specs.Meaning.{In}
use Rattle.laws.specs.Lists.{in_left, in_right, in-append, in-cons, in-nil, is-in, in-any, get_in}
use Rattle.arrays.specs.Arrays.{number_in, key_of, unkey, pairs_in}
use Rattle.arrays.specs.ArrayLaws.{place-lt, unkey-key, unkeyed-length, unkeyed-at}
use Rattle.entering.specs.Entered.{with_pair, entered, cleared}
use Rattle.entering.specs.Growing.{Small, AllSmall, Laid, Graph, Going, Grows, Enters}
use Rattle.entering.specs.EnteredLaws.{with-length, entered-last, entered-pairs, Numbered, kept, given, numbered-at, place-one}

-- ---- whether a pair is known
module _ {w n : ℕ} {graph : List ℕ} (g : Laid w n graph) (l r : ℕ) (s : Small w (l, r)) where
  ps : List Two
  ps = pairs_in w graph n

  many : length ps ≡ n
  unfolding ps
  many = unkeyed-length graph (w * w) n

  -- the index leads to a pair that is there
  found : In (l, r) ps → (number_in w graph (l, r) < n) × (get_or ps (number_in w graph (l, r)) (0, 0) ≡ (l, r))
  unfolding ps
  found i = go (numbered-at w 0 ps (cleared graph) (l * w + r) (place-lt w l r s.0 s.1) (omega (arith, g.room, length-replicate {A = ℕ} (length graph) 0)))
    where
      at : number_in w graph (l, r) ≡ get_or (entered w 0 ps (cleared graph)) (l * w + r) 0
      at = ap (λ (z : List ℕ). get_or z (l * w + r) 0) g.laid

      go : Numbered w 0 ps (cleared graph) (l * w + r) → (number_in w graph (l, r) < n) × (get_or ps (number_in w graph (l, r)) (0, 0) ≡ (l, r))
      go (kept e f) = absurd (f (l, r) i refl)
      go (given j h e f) =
          let z : number_in w graph (l, r) ≡ j = omega (arith, at, e) in
          (omega (arith, z, h, many), ap (λ (k : ℕ). get_or ps k (0, 0)) z ∙ place-one w (get_or ps j (0, 0)) (l, r) (g.small (get_or ps j (0, 0)) (get_in (0, 0) ps j h)) s f)

  unknown : (In (l, r) ps → ⊥) → false ≡ any (same_two (l, r)) ps
  unknown f = go (any (same_two (l, r)) ps) refl
    where
      go : (t : Bool) → any (same_two (l, r)) ps ≡ t → false ≡ any (same_two (l, r)) ps
      go true e = absurd (f (is-in two-decides (l, r) ps e))
      go false e = sym e

  module _ (k : ℕ) (z : k ≡ number_in w graph (l, r)) where
    -- a number past the pairs
    pub known_past : n ≤ k → false ≡ any (same_two (l, r)) (pairs_in w graph n)
    unfolding ps
    known_past h = unknown (λ i. absurd (omega (arith, z, h, (found i).0)))

    -- the pair with this number has this key or another
    pub known-key : (x y : ℕ) → k < n → x ≡ get_or graph (w * w + k) 0 → y ≡ key_of (l, r) → eqb x y ≡ any (same_two (l, r)) (pairs_in w graph n)
    unfolding ps
    known-key x y h e f = go (eqb x y) refl
      where
        pair-at : get_or ps k (0, 0) ≡ unkey x
        pair-at = unkeyed-at graph (w * w) n k h ∙ ap unkey (sym e)

        here-is : In (l, r) ps → unkey x ≡ (l, r)
        here-is i = sym pair-at ∙ ap (λ (m : ℕ). get_or ps m (0, 0)) z ∙ (found i).1

        same : unkey x ≡ (l, r) → x ≡ y
        same u =
            let a : x / 256 ≡ l = ap (λ (p : Two). p.0) u in
            let b : x % 256 ≡ r = ap (λ (p : Two). p.1) u in
            omega (arith, f)

        go : (t : Bool) → eqb x y ≡ t → eqb x y ≡ any (same_two (l, r)) ps
        go true q =
            let d : get_or ps k (0, 0) ≡ (l, r) = pair-at ∙ ap unkey (eqb-true x y q ∙ f) ∙ unkey-key (l, r) (omega (arith, s.1, g.wide)) in
            q ∙ sym (in-any two-decides (l, r) ps (rw d at (get_in (0, 0) ps k (omega (arith, h, many)))))
        go false q = q ∙ unknown (λ i. eqb-false x y q (same (here-is i)))

-- ---- one pair
module _ (lim : Limits) (qs : List Two) (p : Two) where
  enter-known : true ≡ any (same_two p) qs → enter_all lim qs (p ∷ []) ≡ ok qs
  unfolding system.enter_all system.enter
  enter-known e = rw (← e) refl

  enter-full : false ≡ any (same_two p) qs → lim.pairs ≤ length qs → enter_all lim qs (p ∷ []) ≡ refused 12
  unfolding system.enter_all system.enter
  enter-full e h = rw (← e, le-ltb (length qs) lim.pairs h) refl

  enter-new : false ≡ any (same_two p) qs → length qs < lim.pairs → enter_all lim qs (p ∷ []) ≡ ok (qs ++ (p ∷ []))
  unfolding system.enter_all system.enter
  enter-new e h = rw (← e, lt-ltb (length qs) lim.pairs h) refl

none-small : {w : ℕ} → AllSmall w []
none-small p i = absurd (in-nil i)

enter-none : (lim : Limits) (qs : List Two) → enter_all lim qs [] ≡ ok qs
unfolding system.enter_all
enter-none lim qs = refl

module _ (lim : Limits) {w n : ℕ} {graph : List ℕ} (g : Graph lim w n graph) (l r : ℕ) where
  length_pairs : length (pairs_in w graph n) ≡ n
  length_pairs = unkeyed-length graph (w * w) n

  pub stays : true ≡ any (same_two (l, r)) (pairs_in w graph n) → Enters lim w n (l, r) graph graph (Some n)
  stays e = record {
    grows = record { says = record { leads = enter-none lim (pairs_in w graph n) ∙ sym (enter-known lim (pairs_in w graph n) (l, r) e); holds = g; small = none-small } };
    graph = rw (← e) refl;
  }

  pub fills : false ≡ any (same_two (l, r)) (pairs_in w graph n) → lim.pairs ≤ n → Enters lim w n (l, r) graph graph None
  fills e h = record {
    grows = record { says = enter-full lim (pairs_in w graph n) (l, r) e (omega (arith, h, length_pairs)) };
    graph = rw (← e, le-ltb n lim.pairs h) refl;
  }

  -- the array with one pair more
  module _ (s : Small w (l, r)) (h : n < lim.pairs) where
    more : List Two
    more = pairs_in w graph n ++ ((l, r) ∷ [])

    more-small : AllSmall w more
    unfolding more
    more-small p i = ⊎_elim (λ j. g.keys.small p j) (λ j. ⊎_elim (λ e. rw e s) (λ k. absurd (in-nil k)) (in-cons j)) (in-append (pairs_in w graph n) i)

    more-length : length more ≡ n + 1
    unfolding more
    more-length = omega (arith, length-append (pairs_in w graph n) ((l, r) ∷ []), length_pairs)

    more-laid : with_pair w n (l, r) graph ≡ entered w 0 more (cleared graph)
    unfolding more
    more-laid =
        ap (λ (z : List ℕ). with_pair w n (l, r) z) g.keys.laid
        ∙ ap (λ (k : ℕ). with_pair w k (l, r) (entered w 0 (pairs_in w graph n) (cleared graph))) {x = n} {y = 0 + length (pairs_in w graph n)} (omega (arith, length_pairs))
        ∙ sym (entered-last w 0 (pairs_in w graph n) (l, r) (cleared graph))

    more-pairs : pairs_in w (with_pair w n (l, r) graph) (n + 1) ≡ more
    more-pairs =
        ap (λ (z : List ℕ). pairs_in w z (n + 1)) more-laid
        ∙ ap (λ (k : ℕ). pairs_in w (entered w 0 more (cleared graph)) k) (sym more-length)
        ∙ entered-pairs w more (cleared graph) g.keys.wide more-small (omega (arith, more-length, h, g.room, length-replicate {A = ℕ} (length graph) 0))

    size : length (with_pair w n (l, r) graph) ≡ length graph
    size = with-length w n (l, r) graph

    pub graph-more : Graph lim w (n + 1) (with_pair w n (l, r) graph)
    graph-more = record {
      keys = record {
        wide = g.keys.wide;
        few = omega (arith, h, g.most);
        room = omega (arith, h, g.room, size);
        small = rw more-pairs more-small;
        laid = more-laid ∙ ap (λ (z : List Two). entered w 0 z (cleared graph)) (sym more-pairs) ∙ ap (λ (k : ℕ). entered w 0 (pairs_in w (with_pair w n (l, r) graph) (n + 1)) (replicate k 0)) (sym size);
      };
      few = omega (arith, h);
      most = g.most;
      room = omega (arith, g.room, size);
    }

    pub appends : {graph' : List ℕ} → false ≡ any (same_two (l, r)) (pairs_in w graph n) → graph' ≡ with_pair w n (l, r) graph → Enters lim w n (l, r) graph graph' (Some (n + 1))
    unfolding more
    appends e z = rw z (record {
      grows = record {
        says = record {
          leads = enter-none lim (pairs_in w (with_pair w n (l, r) graph) (n + 1)) ∙ ap (λ (z : List Two). ok z) more-pairs ∙ sym (enter-new lim (pairs_in w graph n) (l, r) e (omega (arith, h, length_pairs)));
          holds = graph-more;
          small = none-small;
        };
      };
      graph = rw (← e, lt-ltb n lim.pairs h) refl;
    })

-- ---- list after list
enter-append : (lim : Limits) (ps a b : List Two) → enter_all lim ps (a ++ b) ≡ (enter_all lim ps a >>= λ qs. enter_all lim qs b)
unfolding system.enter_all
enter-append lim ps [] b = refl
enter-append lim ps (p ∷ a) b = go (enter lim ps p) (λ qs. enter-append lim qs a b)
  where
    go : (x : Res (List Two)) → ((qs : List Two) → enter_all lim qs (a ++ b) ≡ (enter_all lim qs a >>= λ rs. enter_all lim rs b)) → (x >>= λ qs. enter_all lim qs (a ++ b)) ≡ ((x >>= λ qs. enter_all lim qs a) >>= λ rs. enter_all lim rs b)
    go (ok qs) ih = ih qs
    go (refused n) ih = refl

pub going_start : {lim : Limits} {w n : ℕ} {graph : List ℕ} (list : List Two) → Graph lim w n graph → AllSmall w list → Going lim w (enter_all lim (pairs_in w graph n) list) list n graph
going_start list g s = record { leads = refl; holds = g; small = s }

module _ {lim : Limits} {w : ℕ} {g : Res (List Two)} {rest : List Two} {n : ℕ} {graph : List ℕ} (d : Going lim w g rest n graph) where
  -- the same list in other words
  pub going-same : (other : List Two) → rest ≡ other → Going lim w g other n graph
  going-same other e = rw e at d

  module _ (a b : List Two) (e : rest ≡ a ++ b) where
    -- what comes first is small
    pub going-small : AllSmall w a
    going-small p i = d.small p (rw e (in_left b i))

    then : enter_all lim (pairs_in w graph n) rest ≡ (enter_all lim (pairs_in w graph n) a >>= λ qs. enter_all lim qs b)
    then = ap (λ (l : List Two). enter_all lim (pairs_in w graph n) l) e ∙ enter-append lim (pairs_in w graph n) a b

    after : (x : Res (List Two)) → enter_all lim (pairs_in w graph n) a ≡ x → g ≡ (x >>= λ qs. enter_all lim qs b)
    after x q = sym d.leads ∙ then ∙ ap (λ (y : Res (List Two)). y >>= λ qs. enter_all lim qs b) q

    -- it is entered, and the rest is left
    pub going_on : {m : ℕ} {graph' : List ℕ} (x : Option ℕ) → Grows lim w (enter_all lim (pairs_in w graph n) a) graph' x → x ≡ Some m → Going lim w g b m graph'
    going_on {m} {graph'} x y z = go (rw z at y.says)
      where
        go : Going lim w (enter_all lim (pairs_in w graph n) a) [] m graph' → Going lim w g b m graph'
        go y = record {
          leads = sym (after (ok (pairs_in w graph' m)) (sym y.leads ∙ enter-none lim (pairs_in w graph' m)));
          holds = y.holds;
          small = λ p i. d.small p (rw e (in_right a i));
        }

    -- it does not fit
    pub going-full : {graph' graph'' : List ℕ} (x : Option ℕ) → Grows lim w (enter_all lim (pairs_in w graph n) a) graph' x → x ≡ None → Grows lim w g graph'' None
    going-full x y z = record { says = after (refused 12) (rw z at y.says) }

  -- nothing is left
  pub going_end : rest ≡ [] → Grows lim w g graph (Some n)
  going_end e = record { says = rw e at d }

  -- the rest as one list, whatever the answer
  pub going-last : {graph' : List ℕ} (x : Option ℕ) → Grows lim w (enter_all lim (pairs_in w graph n) rest) graph' x → Grows lim w g graph' x
  going-last (Some m) y = record { says = going_on rest [] (sym (append-nil rest)) (Some m) y refl }
  going-last None y = going-full rest [] (sym (append-nil rest)) None y refl
