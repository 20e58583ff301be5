use Rattle.query.specs.Settings.{limits_of}
use lib.ListN.{replicate, length-replicate}
use Rattle.spec.specs.Pool.{variants_node}
use Rattle.terms.specs.Buffers.{count_in}
use Rattle.joining.specs.JoinLaws.{begins-fits}
use Rattle.op_terms.specs.MemberRuns.{pair-light, pair-valid, pair-most, pair-node, gives_of}
use Prim.Native.Nat.{ℕ, ◌+◌}
use native.Mathlib.Omega.{arith}
use mathlib.Core.Path.{ap, ◌∙◌}
use mathlib.Core.List.{List}
use lib.ListN.{set}
use borrow.Author.Rules.{rules}
use Rattle.marked.proofs.variants.Goals as goal

pub join_runs-n-requires : goal.join_runs-n-requires
join_runs-n-requires c =
    let a = c.args in
    (search rules, pair-light a.a a.b (omega (arith, c.requires.1, c.requires.0.few)) (omega (arith, c.requires.2, c.requires.0.few)) (replicate 2 0) _ (length-replicate {A = ℕ} 2 0) c.long_size.result c.long_size-2.result c.long_size.ensures c.long_size-2.ensures (c.put_u64-2.ensures ∙ ap (λ (z : List ℕ). set z 1 (16384 + c.long_size-2.result)) c.put_u64.ensures))

pub intern-requires : goal.intern-requires
intern-requires c =
    let a = c.args in
    let v = c.join_runs-n in
    (c.requires.0, pair-valid a.a a.b (omega (arith, c.requires.1, c.requires.0.few)) (omega (arith, c.requires.2, c.requires.0.few)) (replicate 2 0) _ (length-replicate {A = ℕ} 2 0) c.long_size.result c.long_size-2.result c.long_size.ensures c.long_size-2.ensures (c.put_u64-2.ensures ∙ ap (λ (z : List ℕ). set z 1 (16384 + c.long_size-2.result)) c.put_u64.ensures) _ v.result v.ensures (count_in a.terms.now) c.requires.1 c.requires.2, begins-fits v.ensures, pair-most a.a a.b (omega (arith, c.requires.1, c.requires.0.few)) (omega (arith, c.requires.2, c.requires.0.few)) (replicate 2 0) _ (length-replicate {A = ℕ} 2 0) c.long_size.result c.long_size-2.result c.long_size.ensures c.long_size-2.ensures (c.put_u64-2.ensures ∙ ap (λ (z : List ℕ). set z 1 (16384 + c.long_size-2.result)) c.put_u64.ensures) _ v.result v.ensures, c.requires.3)

pub returns : goal.returns
returns c =
    let a = c.args in
    let v = c.join_runs-n in
    gives_of (limits_of a.lim) (variants_node a.a a.b) (pair-node a.a a.b (omega (arith, c.requires.1, c.requires.0.few)) (omega (arith, c.requires.2, c.requires.0.few)) (replicate 2 0) _ (length-replicate {A = ℕ} 2 0) c.long_size.result c.long_size-2.result c.long_size.ensures c.long_size-2.ensures (c.put_u64-2.ensures ∙ ap (λ (z : List ℕ). set z 1 (16384 + c.long_size-2.result)) c.put_u64.ensures) _ v.result v.ensures) (begins-fits v.ensures) c.intern.ensures
