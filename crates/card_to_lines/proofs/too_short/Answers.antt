use borrow.Author.Tests.{lt-ltb, le-ltb}
use native.Mathlib.Omega.{arith}
use mathlib.Core.Path.{refl}
use Rattle.card_to_lines.proofs.too_short.Goals as goal

-- src/lib.rt:81:9
pub returns-then-text-ge281474976710656 : goal.returns-then-text-ge281474976710656
returns-then-text-ge281474976710656 c =
    rw (le-ltb c.args.text 281474976710656 (omega arith)) refl

-- src/lib.rt:77:1
pub returns : goal.returns
returns c =
    rw (lt-ltb c.args.text 281474976710656 (omega arith)) c.short.ensures
