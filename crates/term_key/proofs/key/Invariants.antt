use Rattle.terms.specs.Buffers.{part}
use Rattle.terms.specs.Chains.{mix_all, fold, key_of}
use Prim.Native.Nat.{◌<◌, ◌-◌}
use mathlib.Core.Path.{◌≡◌}
use Rattle.term_key.proofs.key.Given as goal

abbrev pub invariant-loop-r : goal.invariant-loop-r
invariant-loop-r l = (l.x < 4294967296) × (fold (mix_all l.x (part l.list l.r-index (l.n - l.r-index))) ≡ key_of l.h l.v (part l.list 0 l.n))
