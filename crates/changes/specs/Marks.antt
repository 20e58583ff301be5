-- Marks of classes, and the classes whose actions are over a marked one.
use Rattle.std.specs.Prelude.{Bool, true, List, map, ℕ, ltb, length, get_or}
use Rattle.spec.specs.Bytes.{pick, any, up_from}
use Rattle.spec.specs.Image.{Tables}
use Rattle.lgg.specs.Parts.{parts_of}

-- a mark is a number above 0 at the class's place
abbrev pub marked_in : List ℕ → ℕ → Bool
marked_in marks c = ltb 0 (get_or marks c 0)

-- a list has an entry
abbrev pub non_empty : List ℕ → Bool
non_empty l = any (λ x. true) l

-- for each class 1 if its actions are over a marked class, otherwise 0
unfoldable pub live_of : Tables → List ℕ → List ℕ
unfolding any up_from parts_of
live_of t marks = map (λ c. pick (any (marked_in marks) (parts_of t c)) 1 0) (up_from 0 (length t.classes))
