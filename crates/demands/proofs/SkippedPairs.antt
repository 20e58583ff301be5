-- (02, Paper 7) The monomial pairs of two classes: which are skipped, that the others are the transport actions, and what the number of those skipped counts.
use Rattle.std.specs.Prelude.{◌≡◌, List, map, ℕ, ◌≤◌}
use Rattle.std.proofs.Common.{sym, ap, subst, inl, inr, arith}
use Rattle.spec.specs.Bytes.{sum, In, Two}
use Rattle.spec.specs.Image.{Tables}
use Rattle.spec.specs.Action.{skipped_at}
use Rattle.spec.specs.Pairs.{pairs}
use Rattle.spec.specs.Meaning.{Reachable}
use Rattle.laws.specs.Lists.{in_left, in_right, in-append, map-in, length-map, Distinct, distinct-map, pigeon}
use Rattle.steps.specs.Mirror.{reach-flip}
use Rattle.mirror.specs.Transpose.{flip, turn_transport}
use Rattle.mirror.specs.Actions.{ops-turn}
use Rattle.mirror.proofs.Actions.{pairs-turn}
use Rattle.mirror.proofs.Runs.{fleets}
use Rattle.demands.specs.SkippedPairs.{Many, many-sum, Place, SkippedPlace, many-at}

-- of different pairs of classes
pub many-over : (t : Tables) (ps : List Two) → Distinct ps → Many (λ x. In x.pair ps × SkippedPlace t x) (sum (map (skipped_at t) ps))
many-over t ps d = many-sum (λ x. x.pair) (skipped_at t) (SkippedPlace t) ps d (λ p i. many-at t p)

-- ---- (02, Paper 13) turned round
-- no more things are P than Q, where f takes each to another
few : {A : Type 0} (P Q : A → Type 0) (f : A → A) → ((x y : A) → f x ≡ f y → x ≡ y) → ((x : A) → P x → Q (f x)) → (n m : ℕ) → Many P n → Many Q m → n ≤ m
few P Q f one to n m M N =
    omega (
      arith,
      M.many,
      N.many,
      length-map f M.those,
      pigeon (map f M.those) N.those (distinct-map f one M.those M.once)
          (λ y i. let (x, j, e) = map-in f M.those y i in rw (← e) ((N.exactly (f x)).1 (to x ((M.exactly x).0 j)))),
    )

abbrev turn_place : Place → Place
turn_place x = record { pair = flip x.pair; act = turn_transport x.act }

turn-skipped : (t : Tables) (x : Place) → SkippedPlace t x → SkippedPlace t (turn_place x)
turn-skipped t x (J, (e, i, h)) = (
  record {
    different = λ z. J.different (sym z);
    operation = subst (λ l. In x.act.op l) (ops-turn t x.pair.0 x.pair.1) J.operation;
    sides = pairs-turn t x.pair.0 x.pair.1 x.act.op x.act.sides J.sides;
  },
  (e, elim (in-append x.act.sides.rows i) [ inl j ↦ in_right x.act.sides.cols j | inr j ↦ in_left x.act.sides.rows j ], h),
)

-- of the pairs reachable from (left, right) and from (right, left) as many are skipped
pub many-turned : (t : Tables) (p : Two) (n m : ℕ) → Many (λ x. Reachable t p x.pair × SkippedPlace t x) n → Many (λ x. Reachable t (flip p) x.pair × SkippedPlace t x) m → n ≡ m
many-turned t p n m M N = omega (arith, one_way p n m M N, one_way (flip p) m n N M)
  where
    one_way : (q : Two) (j k : ℕ) → Many (λ x. Reachable t q x.pair × SkippedPlace t x) j → Many (λ x. Reachable t (flip q) x.pair × SkippedPlace t x) k → j ≤ k
    one_way q j k = few (λ x. Reachable t q x.pair × SkippedPlace t x) (λ x. Reachable t (flip q) x.pair × SkippedPlace t x) turn_place (λ x y e. ap turn_place e) (λ x z. (reach-flip (pairs t) (fleets t) q x.pair z.0, turn-skipped t x z.1)) j k
