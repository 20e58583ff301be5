use Rattle.card_forms.specs.Forms.{gap_text}
use Rattle.card_text.specs.CopyLaws.{Copying}
use Rattle.card_text.proofs.write_copies.Given as goal

abbrev pub invariant-loop-k : goal.invariant-loop-k
invariant-loop-k l = Copying l.initial.out l.from l.to (gap_text l.h) l.n l.out l.at l.k
