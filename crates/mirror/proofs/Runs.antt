-- (02, Paper 13) "Complete runs on (left, right) and (right, left), neither refused, must be shown to have equal pairs, rounds, size, mass and checks."
use Rattle.std.specs.Prelude.{◌≡◌, refl, true, List, ℕ, ◌+◌}
use Rattle.std.proofs.Common.{sym, ap, ap₂, ◌∙◌}
use Rattle.std.proofs.Math.Option.{some}
use Rattle.spec.specs.Bytes.{In, Two, Limits, ok}
use Rattle.spec.specs.Image.{Tables}
use Rattle.spec.specs.Action.{Action, TransportAction, structural, transports}
use Rattle.spec.specs.System.{worth}
use Rattle.spec.specs.Pairs.{offers_of, pairs, making}
use Rattle.spec.specs.Round.{Act, of_action, of_plan}
use Rattle.spec.specs.Run.{Outcome, run_of}
use Rattle.laws.specs.Lists.{map-map}
use Rattle.steps.specs.Turn.{Won}
use Rattle.steps.proofs.Mirror as mirror
use Rattle.steps.specs.Mirror.{Symmetry, Alike}
use Rattle.lgg.specs.Dedup.{repeat-worth}
use Rattle.lgg.specs.Moves.{solved, each-offer, action-offered, plan-offered, pair_reads}
use Rattle.mirror.specs.Transpose.{flip, turn_transport}
use Rattle.mirror.proofs.Transpose.{solved-flip}
use Rattle.mirror.specs.Actions.{turn_action}
use Rattle.mirror.proofs.Actions.{turn-action, turn-transport, turn-joins}
use Rattle.mirror.specs.Runs.{start-flip}

-- every offer has one turned round, worth as much
pub offers-flip : (t : Tables) (q : Two → Two) (p : Two) (a : Act) → In a (offers_of t q p) → Won (pairs t) (λ c. q (flip c)) (flip p) (worth (pairs t) q a)
offers-flip t q p = each-offer (λ a. Won (pairs t) q' (flip p) (worth (pairs t) q a)) t q p by-action by-plan
  where
    q' : Two → Two
    q' c = q (flip c)

    by-action : (a : Action) → In a (structural t p.0 p.1) → Won (pairs t) q' (flip p) (worth (pairs t) q (of_action a))
    by-action a i =
        let (b, j, s) = turn-action t p.0 p.1 a i in (
          of_action b,
          action-offered t q' (flip p) b j,
          ap₂ (λ (x : List ℕ) (l : List Two). (pairs t).value x l) (sym (map-map flip (λ c. 1) a.pairs)) (sym (map-map flip q' a.pairs)) ∙ repeat-worth t q' (turn_action a) b s,
        )

    by-plan : (a : TransportAction) → In a (transports t p.0 p.1) → (x : List ℕ) → solved q a ≡ some x → Won (pairs t) q' (flip p) (worth (pairs t) q (of_plan a x))
    by-plan a i x e =
        let (y, k, s) = solved-flip q a x e in
        (of_plan (turn_transport a) y, plan-offered t q' (flip p) (turn_transport a) (turn-transport t p.0 p.1 a i) y k, ap {B = Two} (λ (z : Two). (1 + z.0, z.1)) (sym s))

-- "the two fleets in either order"
abbrev pub fleets : (t : Tables) → Symmetry (pairs t)
fleets t = record { flip = flip; twice = λ p. refl; start = start-flip t; joins = turn-joins t; offers = offers-flip t }

-- with the same budget, complete or cut short
pub turned_same : (lim lim' : Limits) (t : Tables) (left right b : ℕ) (o u : Outcome) → run_of lim t (left, right) b ≡ ok o → run_of lim' t (right, left) b ≡ ok u → (o.complete ≡ u.complete) × Alike o u
turned_same lim lim' t left right = mirror.turned_same (pairs t) (pair_reads t) (fleets t) (making lim t) (making lim' t) (left, right)

-- complete, with any two budgets
pub turned-alike : (lim lim' : Limits) (t : Tables) (left right b c : ℕ) (o u : Outcome)
    → run_of lim t (left, right) b ≡ ok o → o.complete ≡ true → run_of lim' t (right, left) c ≡ ok u → u.complete ≡ true → Alike o u
turned-alike lim lim' t left right = mirror.turned-alike (pairs t) (pair_reads t) (fleets t) (making lim t) (making lim' t) (left, right)
