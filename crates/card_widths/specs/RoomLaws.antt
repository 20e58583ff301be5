-- Taking from a room piece by piece.
use Rattle.std.specs.Prelude.{Option, Some, None, ◌≡◌, refl, Bool, true, false, ◌≢◌, ℕ, suc, ◌+◌, ◌*◌, ◌-◌, ◌/◌, ◌≤◌, ◌<◌}
use Rattle.std.proofs.Common.{sym, ap, ◌∙◌, le-div_iff_mul-le, arith, le-leb}
use Rattle.std.proofs.Math.Nat.{sub-zero}
use Rattle.std.proofs.Math.Decide.{dec_le}
use Rattle.std.proofs.lemmas.Bool.{lt-leb}
use Rattle.spec.specs.Bytes.{pick}
use Rattle.card_widths.specs.Rooms.{room_after, run_width}

pub room-left : (room n : ℕ) → n ≤ room → room_after room n ≡ Some (room - n)
room-left room n h = rw (le-leb n room h) refl

pub room-over : (room n : ℕ) → room < n → room_after room n ≡ None
room-over room n h = rw (lt-leb n room h) refl

-- what an answer says
pub left-says : {room n b : ℕ} {r : Option ℕ} → r ≡ room_after room n → r ≡ Some b → (n ≤ room) × (b ≡ room - n)
left-says {room = room} {n = n} {b = b} {r = r} e f = go (dec_le n room)
  where
    go : Dec (n ≤ room) → (n ≤ room) × (b ≡ room - n)
    go (yes h) = let q : Some b ≡ Some (room - n) = sym f ∙ e ∙ room-left room n h in let z : b ≡ room - n = cc in (h, z)
    go (no h) = let q : Some b ≡ None = sym f ∙ e ∙ room-over room n (omega arith) in absurd (let z : ◌≡◌ {A = ℕ} 0 1 = cc in omega arith)

pub over-says : {room n : ℕ} {r : Option ℕ} → r ≡ room_after room n → r ≡ None → room < n
over-says {room = room} {n = n} e f = go (dec_le n room)
  where
    go : Dec (n ≤ room) → room < n
    go (yes h) = let q : None ≡ Some (room - n) = sym f ∙ e ∙ room-left room n h in absurd (let z : ◌≡◌ {A = ℕ} 0 1 = cc in omega arith)
    go (no h) = omega arith

-- one piece after the other
module _ (room n : ℕ) {r : Option ℕ} (e : r ≡ room_after room n) where
  pub room-then : (k : ℕ) {b : ℕ} → r ≡ Some b → room_after room (n + k) ≡ room_after b k
  room-then k {b = b} f = let (h, z) = left-says e f in go h z (dec_le k b)
    where
      go : n ≤ room → b ≡ room - n → Dec (k ≤ b) → room_after room (n + k) ≡ room_after b k
      go h z (yes l) = let q : room - (n + k) ≡ b - k = omega arith in room-left room (n + k) (omega arith) ∙ ap Some q ∙ sym (room-left b k l)
      go h z (no l) = room-over room (n + k) (omega arith) ∙ sym (room-over b k (omega arith))

  pub room_out : (k : ℕ) → r ≡ None → None ≡ room_after room (n + k)
  room_out k f = let h : room < n = over-says e f in sym (room-over room (n + k) (omega arith))

-- nothing is taken
pub room-none : (room w : ℕ) {n : ℕ} → n ≡ 0 → Some room ≡ room_after room (w * n)
room-none room w e = let z : w * 0 ≡ 0 = omega arith in rw (e, z) (sym (room-left room 0 (omega arith) ∙ ap Some (sub-zero room)))

-- so many bytes so many times
module _ (room w n : ℕ) (h : n ≢ 0) where
  some : 0 < n
  some = omega arith

  pub times-fits : w ≤ room / n → w * n ≤ room
  times-fits l = (le-div_iff_mul-le some).0 l

  pub times-over : room / n < w → room < w * n
  times-over l = go (dec_le (w * n) room)
    where
      go : Dec (w * n ≤ room) → room < w * n
      go (yes k) = absurd (let z = (le-div_iff_mul-le {k = n} {x = w} {y = room} some).1 k in omega arith)
      go (no k) = omega arith

more : (g w k : ℕ) → g + k * (g + w) ≡ g * suc k + w * k
more g w k = omega arith

-- what a run has beside its first child
pub run-width : (first : Bool) (g w n : ℕ) → 1 ≤ n → pick first 0 g + (n - 1) * (g + w) ≡ run_width first g w n
run-width true g w n h = omega arith
run-width false g w n h = let e : suc (n - 1) ≡ n = omega arith in more g w (n - 1) ∙ ap (λ (z : ℕ). g * z + w * (n - 1)) e

-- a run's gaps, then its further children
module _ (room w g n : ℕ) (first : Bool) {k v : ℕ} (x : v ≡ g) (y : k ≡ pick first (n - 1) n) {r : Option ℕ} (e : r ≡ room_after room (v * k)) where
  own : r ≡ room_after room (g * pick first (n - 1) n)
  own = e ∙ rw (x, y) refl

  pub run-charged : {b : ℕ} {s : Option ℕ} → r ≡ Some b → s ≡ room_after b (w * (n - 1)) → s ≡ room_after room (run_width first g w n)
  run-charged f h = h ∙ sym (room-then room (g * pick first (n - 1) n) own (w * (n - 1)) f)

  pub gaps-over : r ≡ None → None ≡ room_after room (run_width first g w n)
  gaps-over f = room_out room (g * pick first (n - 1) n) own (w * (n - 1)) f
