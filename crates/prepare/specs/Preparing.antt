-- What a call comes to before the pair table: a refusal, or an accepted image and query with what the run has begun.
use Rattle.std.specs.Prelude.{◌≡◌, Bool, true, List, ◌≢◌, ℕ, ◌+◌, ◌*◌, ◌<◌, ltb, leb, length}
use Rattle.spec.specs.Bytes.{both, Limits, Res, ok, refused, ◌>>=◌, rule}
use Rattle.spec.specs.Image.{Tables, image_of, lowest_doubled, tables_of}
use Rattle.image.specs.Loaded.{Loaded}
use Rattle.image.specs.declared.Image.{Image}
use Rattle.query.specs.Settings.{asked_of}
use Rattle.query.specs.declared.Query.{Query}
use Rattle.beginning.specs.Beginning.{Begins}
use Rattle.prepared.specs.declared.Prepared.{Prepared}
use Rattle.prepared.specs.declared.Prepared.TheVariants.{Refused, Doubled, Go}

-- whether a graph's array of m numbers has room for the pairs of w classes
abbrev pub room_for : Limits → ℕ → ℕ → Bool
room_for lim w m = leb (w * w + lim.pairs) m

-- 2 to 11, and 13 where the graph's array of m numbers has no room for the classes of the image (not 12, which says that a pair beyond the limit was met): the tables of an image that is accepted, for a query of its classes
unfoldable pub accepted_of : Limits → ℕ → List ℕ → Query → Res Tables
unfolding image_of
accepted_of lim m image q = do
  t ← image_of image
  _ ← rule 11 (both (ltb q.left (length t.classes)) (ltb q.right (length t.classes)))
  _ ← rule 13 (room_for lim (length t.classes) m)
  ok t

-- the image is accepted, and the query is of its classes
pub record Goes (lim : Limits) (m : ℕ) (image : List ℕ) (q : Query) (im : Image) : Type 0 where
  pub read : image_of image ≡ ok (tables_of image)
  pub loaded : Loaded image im
  pub left : q.left < im.classes
  pub right : q.right < im.classes
  pub wide : room_for lim im.classes m ≡ true

-- nothing was written
abbrev pub Kept : List ℕ → List ℕ → List ℕ → List ℕ → List ℕ → List ℕ → Type 0
Kept graph terms runs graph' terms' runs' = (graph' ≡ graph) × (terms' ≡ terms) × (runs' ≡ runs)

-- What `prepare` answers, and what it leaves in the arrays: a refusal, 10 with the lowest class that holds a literal that also stands in another; or the image and what the run has begun.
abbrev pub Prepares : Limits → List ℕ → Query → Prepared → List ℕ → List ℕ → List ℕ → List ℕ → List ℕ → List ℕ → Type 0
Prepares lim image q (Refused k) graph terms runs graph' terms' runs' = (accepted_of lim (length graph) image q ≡ refused k) × (k ≢ 10) × Kept graph terms runs graph' terms' runs'
Prepares lim image q (Doubled c) graph terms runs graph' terms' runs' = (accepted_of lim (length graph) image q ≡ refused 10) × (c ≡ lowest_doubled (tables_of image)) × Kept graph terms runs graph' terms' runs'
Prepares lim image q (Go im b) graph terms runs graph' terms' runs' = Goes lim (length graph) image q im × Begins lim (tables_of image) (asked_of q) q.budget im.classes graph terms runs graph' terms' runs' b
