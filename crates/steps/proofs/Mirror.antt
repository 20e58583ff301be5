-- (02, Paper 13) "Complete runs on (left, right) and (right, left), neither refused, must be shown to have equal pairs, rounds, size, mass and checks.": for nodes of any kind that can be turned round. (`turned` of spec/System is another word: the nodes that had their turn in building.)
use Rattle.std.specs.Prelude.{◌≡◌, refl, ◌⊎◌, Bool, true, false, List, ℕ, zero, suc, ◌+◌, ◌*◌, ◌≤◌, length}
use Rattle.std.proofs.Common.{sym, ap, ap₂, ◌∙◌, subst, inl, inr, arith, lt_of_not-le, mul-le-mul_right}
use Rattle.std.proofs.Math.Decide.{dec_le}
use Rattle.spec.specs.Bytes.{In, Two, ok, passed, cut_short}
use Rattle.spec.specs.System.{System, Making, build, look_up, Turn, worth, turn_of, Outcome, started, run_of}
use Rattle.spec.specs.Meaning.{◌⊑◌}
use Rattle.laws.specs.Tests.{clash, is_false}
use Rattle.steps.specs.Quality.{◌⊏◌, ⊑-of-eq, ⊑_trans, ⊑-antisym, ⊏-not}
use Rattle.steps.specs.Turn.{turn-old, turn-new, turn-from, Won}
use Rattle.steps.specs.Reads.{Reads, turn_agree}
use Rattle.steps.specs.Rounds.{quality_after, changed, q-start, q-next, quiet_same, changed-some}
use Rattle.steps.specs.Graph.{Closed, Whole, NodeCount, build-closed, build-whole, build-passed, build-cut}
use Rattle.steps.specs.Run.{Status, Ended, Ends, in_building, in_starting, in_rounds, run_ends}
use Rattle.steps.specs.Charges.{Charge, charge}
use Rattle.steps.specs.Outcomes.{root_in, root-quality, started-says}
use Rattle.steps.specs.Demand3.{stays-complete}
use Rattle.spec.specs.Pool.{Interned}
use Rattle.steps.specs.Mirror.{Symmetry, count-flip, in-flip, Alike}

-- ---- turns and rounds
module _ {N : Type 0} (S : System N) (R : Reads S) (Y : Symmetry S) where
  -- the qualities of the turned nodes
  abbrev over : (N → Two) → N → Two
  over q c = q (Y.flip c)

  no-worse : (q : N → Two) (p : N) → (turn_of S (over q) (Y.flip p)).quality ⊑ (turn_of S q p).quality
  no-worse q p = go (turn-from S q p)
    where
      z : Two
      z = (turn_of S (over q) (Y.flip p)).quality

      go : ((turn_of S q p).quality ≡ q p) ⊎ Won S q p (turn_of S q p).quality → z ⊑ (turn_of S q p).quality
      go (inl e) = ⊑_trans z (over q (Y.flip p)) (turn_of S q p).quality (turn-old S (over q) (Y.flip p)) (⊑-of-eq (ap q (Y.twice p) ∙ sym e))
      go (inr (a, i, e)) =
          let (b, j, k) = Y.offers q p a i in
          ⊑_trans z (worth S (over q) b) (turn_of S q p).quality (turn-new S (over q) (Y.flip p) b j) (⊑-of-eq (sym k ∙ sym e))

  -- a turn, and the turned node's: the quality is the same, the choice need not be
  pub turn-flip : (q : N → Two) (p : N) → (turn_of S (over q) p).quality ≡ (turn_of S q (Y.flip p)).quality
  turn-flip q p =
      ⊑-antisym (turn_of S (over q) p).quality (turn_of S q (Y.flip p)).quality
      (subst (λ z. (turn_of S (over q) z).quality ⊑ (turn_of S q (Y.flip p)).quality) (Y.twice p) (no-worse q (Y.flip p)))
      (subst (λ w. w.quality ⊑ (turn_of S (over q) p).quality) (turn_agree S R (over (over q)) q (Y.flip p) (ap q (Y.twice (Y.flip p))) (λ c i. ap q (Y.twice c))) (no-worse (over q) p))

  -- nodes ps, turned round among the nodes ps'
  module _ (ps ps' : List N) (closed : Closed S ps) (inside : (p : N) → In p ps → In (Y.flip p) ps') where
    -- after every round a node has the turned node's quality
    pub after-flip : (r : ℕ) (p : N) → In p ps → quality_after S ps r p ≡ quality_after S ps' r (Y.flip p)
    after-flip zero p i = q-start S ps p i ∙ sym (Y.start p) ∙ sym (q-start S ps' (Y.flip p) (inside p i))
    after-flip (suc r) p i =
        q-next S ps r p i
        ∙ ap (λ (w : Turn N). w.quality) (turn_agree S R (quality_after S ps r) (over (quality_after S ps' r)) p (after-flip r p i) (λ c j. after-flip r c (closed p c i j)))
        ∙ turn-flip (quality_after S ps' r) p
        ∙ sym (q-next S ps' r (Y.flip p) (inside p i))

    -- so a round that changes nothing over ps' changes nothing over ps
    pub quiet-flip : (r : ℕ) → changed S ps' r ≡ false → changed S ps r ≡ false
    quiet-flip r e = is_false (changed S ps r) (λ k. by (changed-some S ps r k))
      where
        by : (p : N) × In p ps × (quality_after S ps (suc r) p ⊏ quality_after S ps r p) → ⊥
        by (p, i, l) =
            ⊏-not (quality_after S ps (suc r) p) (quality_after S ps r p) l
            (⊑-of-eq (after-flip r p i ∙ sym (ap (λ (z : List Two). look_up S.same (0, 0) ps' z (Y.flip p)) (quiet_same S ps' r e)) ∙ sym (after-flip (suc r) p i)))

    -- so the rounds over ps, begun with as many checks, report no more rounds
    no-later : (m : ℕ) (o u : Outcome) → length ps ≡ length ps' → Ended S ps m o → Ended S ps' m u → o.rounds ≤ u.rounds
    no-later m o u n f f' = go (dec_le o.rounds u.rounds) f'.status
      where
        go : Dec (o.rounds ≤ u.rounds) → Status S ps' m u → o.rounds ≤ u.rounds
        go (yes x) t = x
        go (no x) (inl (_, q, _)) = absurd (clash (sym (f.moved u.rounds (lt_of_not-le x)) ∙ quiet-flip u.rounds q))
        go (no x) (inr (_, l)) = absurd (omega (arith, f.enough, mul-le-mul_right (suc (length ps)) (lt_of_not-le x), ap (λ (k : ℕ). suc u.rounds * suc k) n))

-- what a run with budget b charges follows from status, nodes and rounds
charged-alike : (b : ℕ) (o u : Outcome) → Charge b o → Charge b u → o.complete ≡ u.complete → o.nodes ≡ u.nodes → o.rounds ≡ u.rounds → o.checks ≡ u.checks
charged-alike b o u C D same n r = go o.complete refl
  where
    go : (x : Bool) → o.complete ≡ x → o.checks ≡ u.checks
    go true e = C.complete e ∙ ap₂ (λ (k j : ℕ). 2 * k + (j + 1) * (k + 1)) n r ∙ sym (D.complete (sym same ∙ e))
    go false e = C.partial e ∙ sym (D.partial (sym same ∙ e))

-- what is reported besides the checks
abbrev Like : Outcome → Outcome → Type 0
Like o u = (o.complete ≡ u.complete) × (o.nodes ≡ u.nodes) × (o.rounds ≡ u.rounds) × (o.quality ≡ u.quality)

module _ {N : Type 0} (S : System N) (R : Reads S) (Y : Symmetry S) (M M' : Making N) (p : N) (b : ℕ) where
  -- both cut short before the rounds
  early : (o u : Outcome) (root root' : Interned) (n n' : ℕ) → n ≡ n' → o ≡ started S b p root n → u ≡ started S b (Y.flip p) root' n' → Like o u
  early o u root root' n n' k s s' =
      let (x, y, z, w) = started-says S b p root n o s in
      let (x', y', z', w') = started-says S b (Y.flip p) root' n' u s' in
      (z ∙ sym z', x ∙ k ∙ sym x', y ∙ sym y', w ∙ sym (Y.start p) ∙ sym w')

  -- one cut short in building, the other built in full: they have as many nodes
  not-both : (lim lim' : ℕ) (q q' : N) → ((n : ℕ) → NodeCount S q' n → NodeCount S q n) → (ps : List N) (c : ℕ) → build S lim q b ≡ ok cut_short → build S lim' q' b ≡ ok (passed ps c) → ⊥
  not-both lim lim' q q' same ps c k k' =
      let d : NodeCount S q' (length ps) = (ps, build-whole S lim' q' b c ps k', refl) in
      omega (arith, build-cut S lim q (length ps) (same (length ps) d) b k, (build-passed S lim' q' (length ps) d b c ps k').1)

  not-cut : (ps' : List N) (c' : ℕ) → build S M.limit p b ≡ ok cut_short → build S M'.limit (Y.flip p) b ≡ ok (passed ps' c') → ⊥
  not-cut = not-both M.limit M'.limit p (Y.flip p) (λ n d. subst (λ z. NodeCount S z n) (Y.twice p) (count-flip S Y (Y.flip p) n d))

  not-built : (ps : List N) (c : ℕ) → build S M.limit p b ≡ ok (passed ps c) → build S M'.limit (Y.flip p) b ≡ ok cut_short → ⊥
  not-built ps c k k' = not-both M'.limit M.limit (Y.flip p) p (count-flip S Y p) ps c k' k

  -- both built in full
  module _ (ps ps' : List N) (c c' : ℕ) (k : build S M.limit p b ≡ ok (passed ps c)) (k' : build S M'.limit (Y.flip p) b ≡ ok (passed ps' c')) where
    w : Whole S p ps
    w = build-whole S M.limit p b c ps k

    w' : Whole S (Y.flip p) ps'
    w' = build-whole S M'.limit (Y.flip p) b c' ps' k'

    -- as many nodes, and as many checks left
    many : (length ps ≡ length ps') × (c ≡ c')
    many =
        let (x, y) = build-passed S M.limit p (length ps) (ps, w, refl) b c ps k in
        let (x', y') = build-passed S M'.limit (Y.flip p) (length ps) (count-flip S Y p (length ps) (ps, w, refl)) b c' ps' k' in
        (sym x', omega arith)

    closed : Closed S ps
    closed = build-closed S M.limit p b c ps k

    closed' : Closed S ps'
    closed' = build-closed S M'.limit (Y.flip p) b c' ps' k'

    forth : (q : N) → In q ps → In (Y.flip q) ps'
    forth = in-flip S Y p ps ps' w w'

    back : (q : N) → In q ps' → In (Y.flip q) ps
    back = in-flip S Y (Y.flip p) ps' ps w' (subst (λ z. Whole S z ps) (sym (Y.twice p)) w)

    -- both ended in their rounds
    late : (m : ℕ) (o u : Outcome) → Ended S ps m o → Ended S ps' m u → Like o u
    late m o u f f' = (status f.status f'.status, f.nodes ∙ many.0 ∙ sym f'.nodes, same, quality)
      where
        same : o.rounds ≡ u.rounds
        same = omega (arith, no-later S R Y ps ps' closed forth m o u many.0 f f', no-later S R Y ps' ps closed' back m u o (sym many.0) f' f)

        quality : o.quality ≡ u.quality
        quality =
            root-quality S M.limit p b c m ps o k f ∙ after-flip S R Y ps ps' closed forth o.rounds p (root_in S M.limit p b c ps k)
            ∙ ap (λ (r : ℕ). quality_after S ps' r (Y.flip p)) same ∙ sym (root-quality S M'.limit (Y.flip p) b c' m ps' u k' f')

        round : suc o.rounds * suc (length ps) ≡ suc u.rounds * suc (length ps')
        round = ap₂ (λ (r n : ℕ). suc r * suc n) same many.0

        status : Status S ps m o → Status S ps' m u → o.complete ≡ u.complete
        status (inl (x, _, _)) (inl (y, _, _)) = x ∙ sym y
        status (inr (x, _)) (inr (y, _)) = x ∙ sym y
        status (inl (_, _, l)) (inr (_, h)) = absurd (omega (arith, round))
        status (inr (_, h)) (inl (_, _, l)) = absurd (omega (arith, round))

module _ {N : Type 0} (S : System N) (R : Reads S) (Y : Symmetry S) (M M' : Making N) (p : N) where
  -- "in either order", neither refused: runs with the same budget are alike, complete or cut short, whatever terms the two enter
  pub turned_same : (b : ℕ) (o u : Outcome) → run_of S M p b ≡ ok o → run_of S M' (Y.flip p) b ≡ ok u → (o.complete ≡ u.complete) × Alike o u
  turned_same b o u e e' =
      let (c, n, r, q) = go (run_ends S M p b o e) (run_ends S M' (Y.flip p) b u e') in
      (c, record { nodes = n; rounds = r; quality = q; checks = charged-alike b o u (charge S M p b o e) (charge S M' (Y.flip p) b u e') c n r })
    where
      go : Ends S M p b o → Ends S M' (Y.flip p) b u → Like o u
      go (in_building root k s) (in_building root' k' s') = early S R Y M M' p b o u root root' 1 1 refl s s'
      go (in_building root k s) (in_starting root' ps' c' k' l' s') = absurd (not-cut S R Y M M' p b ps' c' k k')
      go (in_building root k s) (in_rounds ps' c' d' k' l' f') = absurd (not-cut S R Y M M' p b ps' c' k k')
      go (in_starting root ps c k l s) (in_building root' k' s') = absurd (not-built S R Y M M' p b ps c k k')
      go (in_rounds ps c d k l f) (in_building root' k' s') = absurd (not-built S R Y M M' p b ps c k k')
      go (in_starting root ps c k l s) (in_starting root' ps' c' k' l' s') = early S R Y M M' p b o u root root' (length ps) (length ps') (many S R Y M M' p b ps ps' c c' k k').0 s s'
      go (in_starting root ps c k l s) (in_rounds ps' c' d' k' l' f') = absurd (omega (arith, many S R Y M M' p b ps ps' c c' k k'))
      go (in_rounds ps c d k l f) (in_starting root' ps' c' k' l' s') = absurd (omega (arith, many S R Y M M' p b ps ps' c c' k k'))
      go (in_rounds ps c d k l f) (in_rounds ps' c' d' k' l' f') = let z : d' ≡ d = omega (arith, many S R Y M M' p b ps ps' c c' k k') in late S R Y M M' p b ps ps' c c' k k' d o u f (rw z at f')

  -- "Complete runs on (left, right) and (right, left), neither refused": any two budgets, since a complete run stays the same with more
  pub turned-alike : (b c : ℕ) (o u : Outcome) → run_of S M p b ≡ ok o → o.complete ≡ true → run_of S M' (Y.flip p) c ≡ ok u → u.complete ≡ true → Alike o u
  turned-alike b c o u e full e' full' = (turned_same (b + c) o u (stays-complete S M p b (b + c) o (omega arith) e full) (stays-complete S M' (Y.flip p) c (b + c) u (omega arith) e' full')).1
