-- Each way to be refused, and how many classes an accepted image has.
use Rattle.std.specs.Prelude.{◌≡◌, Bool, true, false, List, ℕ, ◌≤◌, ◌<◌, length}
use Rattle.std.proofs.Math.Path.{refl}
use Rattle.std.proofs.Common.{arith}
use borrow.Author.Tests.{lt-ltb, le-ltb}
use Rattle.spec.specs.Bytes.{Limits, ok, refused, ◌>>=◌, rule}
use Rattle.spec.specs.Image.{image_of, tables_of}
use Rattle.laws.specs.Accepted as A
use Rattle.arrays.specs.ArrayLaws.{square}
use Rattle.image.specs.Loaded.{Loaded, classes-many}
use Rattle.image.specs.declared.Image.{Image}
use Rattle.query.specs.declared.Query.{Query}
use Rattle.prepared.specs.declared.Prepared.{Prepared}
use Rattle.prepared.specs.declared.Prepared.TheVariants.{Refused, Doubled, Go}
use Rattle.prepare.specs.Preparing.{room_for, accepted_of, Goes, Prepares}
use Rattle.prepared.specs.Pairs.{keys_of}

module _ (lim : Limits) (m : ℕ) (s : List ℕ) (q : Query) where
  -- 2 to 10
  pub image-refused : (k : ℕ) → refused k ≡ image_of s → accepted_of lim m s q ≡ refused k
  unfolding accepted_of
  image-refused k e = rw (← e) refl

  module _ (im : Image) (L : Loaded s im) (e : image_of s ≡ ok (tables_of s)) where
    -- 11
    pub left-refused : im.classes ≤ q.left → accepted_of lim m s q ≡ refused 11
    unfolding accepted_of
    left-refused h = rw (e, le-ltb q.left (length (tables_of s).classes) (omega (arith, classes-many s im L))) refl

    pub right-refused : q.left < im.classes → im.classes ≤ q.right → accepted_of lim m s q ≡ refused 11
    unfolding accepted_of
    right-refused g h = rw (e, lt-ltb q.left (length (tables_of s).classes) (omega (arith, classes-many s im L)), le-ltb q.right (length (tables_of s).classes) (omega (arith, classes-many s im L))) refl

    -- past 11
    past-eleven : q.left < im.classes → q.right < im.classes → (b : Bool) → room_for lim im.classes m ≡ b → accepted_of lim m s q ≡ (rule 13 b >>= λ _. ok (tables_of s))
    unfolding accepted_of
    past-eleven g h b r =
        let n = classes-many s im L in
        rw (e, lt-ltb q.left (length (tables_of s).classes) (omega (arith, n, g)), lt-ltb q.right (length (tables_of s).classes) (omega (arith, n, h)), n, r) refl

    -- 13 for want of room
    pub room-refused : q.left < im.classes → q.right < im.classes → room_for lim im.classes m ≡ false → accepted_of lim m s q ≡ refused 13
    room-refused g h r = past-eleven g h false r

  pub goes-accepted : (im : Image) → Goes lim m s q im → accepted_of lim m s q ≡ ok (tables_of s)
  goes-accepted im G = past-eleven im G.loaded G.read G.left G.right true G.wide

pub few-classes : (s : List ℕ) (im : Image) → Loaded s im → image_of s ≡ ok (tables_of s) → im.classes ≤ 256
few-classes s im L e = omega (arith, (A.valid s (tables_of s) e).counts.few_classes, classes-many s im L)

-- the index has at most 256 × 256 numbers
pub keys-few : (lim : Limits) (s : List ℕ) (q : Query) (p : Prepared) (graph terms runs graph' terms' runs' : List ℕ) → Prepares lim s q p graph terms runs graph' terms' runs' → keys_of p ≤ 65536
keys-few lim s q (Refused k) graph terms runs graph' terms' runs' P = omega arith
keys-few lim s q (Doubled c) graph terms runs graph' terms' runs' P = omega arith
keys-few lim s q (Go im b) graph terms runs graph' terms' runs' (G, R) = square im.classes (few-classes s im G.loaded G.read)
