-- (02, Paper 13) "the checks that passed": all of the budget where the run is cut short; "A complete run with n pairs and r rounds spends exactly 2n + (r+1)(n+1)."
use Rattle.std.specs.Prelude.{◌≡◌, refl, true, false, List, [], ℕ, ◌+◌, ◌*◌, ◌≤◌, length}
use Rattle.std.proofs.Common.{sym, ap, arith}
use Rattle.spec.specs.Bytes.{Res, ok, ◌>>=◌, Checked, passed, cut_short}
use Rattle.spec.specs.Pool.{Interned}
use Rattle.spec.specs.System.{System, Making, build, Terms, starting_terms, Outcome, started, after_starting, after_building, run_of}
use Rattle.laws.specs.Tests.{clash}
use Rattle.laws.specs.Results.{refused-ok, ok-inj, bind_ok}
use Rattle.steps.specs.Checks.{Spent, cut, paid, ended, starting-spends}
use Rattle.steps.specs.Graph.{build-whole, build-passed}
use Rattle.steps.specs.Run.{rounds-from-start}

-- what a run with b checks charges
pub record Charge (b : ℕ) (o : Outcome) : Type 0 where
  pub complete : o.complete ≡ true → o.checks ≡ 2 * o.nodes + (o.rounds + 1) * (o.nodes + 1)
  pub partial : o.complete ≡ false → o.checks ≡ b
  pub within : o.checks ≤ b

pub charge : {N : Type 0} (S : System N) (M : Making N) (p : N) (b : ℕ) (o : Outcome) → run_of S M p b ≡ ok o → Charge b o
unfolding run_of after_building after_starting started
charge {N = N} S M p b o e =
    let (root, a, d) = bind_ok (M.starting_term [] p) (λ root. build S M.limit p b >>= λ g. after_building S M b p root g) o e in
    let (g, k, z) = bind_ok (build S M.limit p b) (λ g. after_building S M b p root g) o d in
    go root g k z
  where
    early : (root : Interned) (n : ℕ) → Charge b (started S b p root n)
    early root n = record { complete = λ z. absurd (clash (sym z)); partial = λ z. refl; within = omega arith }

    rounds : (root : Interned) (ps : List N) (c : ℕ) → build S M.limit p b ≡ ok (passed ps c) → (r : Res (Checked Terms)) → Spent (length ps) c r → (r >>= after_starting S M b p root ps) ≡ ok o → Charge b o
    rounds root ps c k r (cut h) z = rw (← ok-inj z) (early root (length ps))
    rounds root ps c k r (paid {a = a} {c = d} h) z =
        let (f, C) = rounds-from-start S M ps b d a o z in
        let (x, y) = build-passed S M.limit p (length ps) (ps, build-whole S M.limit p b c ps k, refl) b c ps k in
        record {
          complete = λ v. omega (arith, C.complete v, f.nodes, ap (λ (m : ℕ). (o.rounds + 1) * (m + 1)) f.nodes);
          partial = λ v. omega (arith, C.partial v);
          within = omega (arith, C.within);
        }
    rounds root ps c k r ended z = absurd (refused-ok z)

    go : (root : Interned) (g : Checked (List N)) → build S M.limit p b ≡ ok g → after_building S M b p root g ≡ ok o → Charge b o
    go root cut_short k z = rw (← ok-inj z) (early root 1)
    go root (passed ps c) k z = rounds root ps c k (starting_terms M ps c root.pool) (starting-spends M ps c root.pool) z
