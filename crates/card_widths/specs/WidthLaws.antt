-- The widths of a term's text, piece by piece.
use Rattle.std.specs.Prelude.{Option, Some, None, ◌≡◌, Bool, true, false, ◌≢◌, List, [], ◌∷◌, ◌++◌, ℕ, zero, suc, ◌+◌, ◌*◌, ◌-◌, ◌/◌, ◌%◌, ◌≤◌, ◌<◌, eqb, length, get_or}
use Rattle.std.proofs.Math.Path.{refl, sym, ap}
use Rattle.std.proofs.Common.{◌∙◌, le_refl, arith, eq-eqb, ne_eqb}
use Rattle.std.proofs.Math.Nat.{sub-zero}
use Rattle.std.proofs.Math.ListN.{length-append}
use Rattle.spec.specs.Bytes.{pick, decimal}
use Rattle.spec.specs.Pool.{Pool}
use Rattle.formula.specs.Card.{sign}
use Rattle.terms.specs.Buffers.{part, pool_of}
use Rattle.terms.specs.PartLaws.{part-cons, part-over}
use Rattle.card_forms.specs.declared.Infix.{Infix}
use Rattle.card_forms.specs.Forms.{card_text, literal_text, open_text, shut_text, sign_text, IsBetween, opening_text, gap_text, closing_text, copies, series_text, IsSeries}
use Rattle.card_widths.specs.Rooms.{room_after, run_width}
use Rattle.card_widths.specs.RoomLaws.{run-width, room-left, room-then, room_out, left-says}

-- ---- pieces
pub literal-width : {a b : ℕ} (v o : ℕ) → a ≡ length (decimal v) → b ≡ length (decimal o) → a + 1 + b ≡ length (literal_text v o)
literal-width v o e f = omega (arith, length-append (decimal v) (35 ∷ decimal o))

module _ (t : List ℕ) (o : ℕ) {n : ℕ} (e : n ≡ length (sign t o)) where
  sign-width : length (sign_text t o) ≡ n + 2
  unfolding sign_text
  sign-width = omega (arith, length-append (sign t o) (32 ∷ []))

  pub bracketed-width : {b : Bool} → b ≡ true → n + 4 ≡ length (open_text b) + length (sign_text t o) + length (shut_text b)
  bracketed-width f = rw f (omega (arith, sign-width))

  pub bare-width : {b : Bool} → b ≡ false → n + 2 ≡ length (open_text b) + length (sign_text t o) + length (shut_text b)
  bare-width f = rw f (omega (arith, sign-width))

pub marked-ends : (t : List ℕ) (h : ℕ) → h / 64 ≡ 2 → 2 ≡ length (opening_text t h) + length (closing_text h)
marked-ends t h e = rw (eq-eqb (h / 64) 2 e) refl

pub list-ends : (t : List ℕ) (h : ℕ) {o n : ℕ} → h / 64 ≢ 2 → o ≡ h % 64 → n ≡ length (sign t o) → n + 2 ≡ length (opening_text t h) + length (closing_text h)
list-ends t h {o = o} e f g = rw (ne_eqb (h / 64) 2 e, ← f) (omega (arith, length-append (sign t o) (91 ∷ [])))

-- ---- a sign between two children
module _ (t : List ℕ) (p : Pool) (m a : ℕ) (x : Infix) (B : IsBetween t p m a x) where
  between-width : length (card_text t p m a)
      ≡ length (open_text x.bracketed) + length (sign_text t x.operation) + length (shut_text x.bracketed)
      + (length (card_text t p x.left.level x.left.term) + length (card_text t p x.right.level x.right.term))
  between-width =
      let l = card_text t p x.left.level x.left.term in
      let r = card_text t p x.right.level x.right.term in
      let s = sign_text t x.operation in
      let z = shut_text x.bracketed in
      omega (arith, ap length B.whole, length-append (open_text x.bracketed) (l ++ (s ++ (r ++ z))), length-append l (s ++ (r ++ z)), length-append s (r ++ z), length-append r z)

-- ---- a list or a marked place
series-width : (t terms runs : List ℕ) (m a h from to : ℕ) → IsSeries t terms runs m a h from to
    → length (card_text t (pool_of terms runs) m a) ≡ length (opening_text t h) + length (closing_text h) + length (series_text true (gap_text h) (card_text t (pool_of terms runs) 0) (part runs from (to - from)))
series-width t terms runs m a h from to S =
    let s = series_text true (gap_text h) (card_text t (pool_of terms runs) 0) (part runs from (to - from)) in
    omega (arith, ap length S.whole, length-append (opening_text t h) (s ++ closing_text h), length-append s (closing_text h))

copies_length : (n : ℕ) (x : List ℕ) → length (copies n x) ≡ n * length x
unfolding copies
copies_length zero x = omega arith
copies_length (suc n) x = omega (arith, length-append x (copies n x), copies_length n x)

run-text : (first : Bool) (gap : List ℕ) (w : ℕ → List ℕ) (r : ℕ) (l : List ℕ) → 1 ≤ r / 16384
    → length (series_text first gap w (r ∷ l)) ≡ length (w (r % 16384)) + (run_width first (length gap) (length (w (r % 16384))) (r / 16384) + length (series_text false gap w l))
unfolding series_text
run-text first gap w r l h =
    let c = w (r % 16384) in
    let n = r / 16384 in
    let y = copies (n - 1) (gap ++ c) in
    let z = series_text false gap w l in
    let e : length (pick first [] gap) ≡ pick first 0 (length gap) = go first in
    let f : (n - 1) * length (gap ++ c) ≡ (n - 1) * (length gap + length c) = ap (λ (k : ℕ). (n - 1) * k) (length-append gap c) in
    omega (arith, length-append (pick first [] gap) (c ++ (y ++ z)), length-append c (y ++ z), length-append y z, copies_length (n - 1) (gap ++ c), f, e, run-width first (length gap) (length c) n h)
  where
    go : (b : Bool) → length (pick b [] gap) ≡ pick b 0 (length gap)
    go true = refl
    go false = refl

-- ---- the runs before place i are charged: what the room has to hold
abbrev pub rest_width : List ℕ → List ℕ → List ℕ → ℕ → ℕ → ℕ → ℕ → ℕ
rest_width t terms runs h from to i = length (series_text (eqb i from) (gap_text h) (card_text t (pool_of terms runs) 0) (part runs i (to - i)))

pub record Charged (t terms runs : List ℕ) (h from to room₀ room i : ℕ) : Type 0 where
  pub begun : from ≤ i
  pub until : i ≤ to
  pub rest : room_after room₀ (rest_width t terms runs h from to from) ≡ room_after room (rest_width t terms runs h from to i)

pub charged-start : (t terms runs : List ℕ) (h from to room : ℕ) → from ≤ to → Charged t terms runs h from to room room from
charged-start t terms runs h from to room l = record { begun = le_refl from; until = l; rest = refl }

module _ (t terms runs : List ℕ) (h from to room₀ : ℕ) {room i : ℕ} (I : Charged t terms runs h from to room₀ room i) where
  pub charged-end : to ≤ i → Some room ≡ room_after room₀ (rest_width t terms runs h from to from)
  unfolding series_text
  charged-end l =
      let e : rest_width t terms runs h from to i ≡ 0 = rw (part-over runs i to l) refl in
      sym (I.rest ∙ ap (room_after room) e ∙ room-left room 0 (omega arith) ∙ ap Some (sub-zero room))

  module _ (l : i < to) (k : 1 ≤ get_or runs i 0 / 16384) {c : ℕ} (z : c ≡ get_or runs i 0 % 16384) where
    rest-turn : rest_width t terms runs h from to i
        ≡ length (card_text t (pool_of terms runs) 0 c) + (run_width (eqb i from) (length (gap_text h)) (length (card_text t (pool_of terms runs) 0 c)) (get_or runs i 0 / 16384) + rest_width t terms runs h from to (i + 1))
    rest-turn =
        let e : eqb (i + 1) from ≡ false = ne_eqb (i + 1) from (λ q. absurd (omega (arith, I.begun))) in
        rw (part-cons runs i to l, e, z) (run-text (eqb i from) (gap_text h) (card_text t (pool_of terms runs) 0) (get_or runs i 0) (part runs (i + 1) (to - (i + 1))) k)

    module _ {r : Option ℕ} (e : r ≡ room_after room (length (card_text t (pool_of terms runs) 0 c))) where
      pub child-over : r ≡ None → None ≡ room_after room₀ (rest_width t terms runs h from to from)
      child-over f = room_out room (length (card_text t (pool_of terms runs) 0 c)) e _ f ∙ ap (room_after room) (sym rest-turn) ∙ sym I.rest

      module _ {b : ℕ} (f : r ≡ Some b) where
        pub child-width : (b ≤ room) × (room - b ≡ length (card_text t (pool_of terms runs) 0 c))
        child-width = let x : (length (card_text t (pool_of terms runs) 0 c) ≤ room) × (b ≡ room - length (card_text t (pool_of terms runs) 0 c)) = left-says e f in omega arith

        after-child : (k : ℕ) → room_after room (length (card_text t (pool_of terms runs) 0 c) + k) ≡ room_after b k
        after-child k = room-then room (length (card_text t (pool_of terms runs) 0 c)) e k f

        module _ {n w : ℕ} (x : n ≡ get_or runs i 0 / 16384) (y : w ≡ room - b) {s : Option ℕ} (g : s ≡ room_after b (run_width (eqb i from) (length (gap_text h)) w n)) where
          rest-is : room_after room₀ (rest_width t terms runs h from to from) ≡ room_after b (run_width (eqb i from) (length (gap_text h)) w n + rest_width t terms runs h from to (i + 1))
          rest-is = I.rest ∙ ap (room_after room) rest-turn ∙ after-child _ ∙ rw (x, y ∙ child-width.1) refl

          pub run-over : s ≡ None → None ≡ room_after room₀ (rest_width t terms runs h from to from)
          run-over u = room_out b (run_width (eqb i from) (length (gap_text h)) w n) g (rest_width t terms runs h from to (i + 1)) u ∙ sym rest-is

          pub charged-turn : {d : ℕ} → s ≡ Some d → Charged t terms runs h from to room₀ d (i + 1)
          charged-turn u = record { begun = omega (arith, I.begun); until = omega arith; rest = rest-is ∙ room-then b (run_width (eqb i from) (length (gap_text h)) w n) g (rest_width t terms runs h from to (i + 1)) u }

-- ---- the whole
module _ (t : List ℕ) (p : Pool) (m a : ℕ) (x : Infix) (B : IsBetween t p m a x) (room : ℕ) {w : ℕ} (y : w ≡ length (open_text x.bracketed) + length (sign_text t x.operation) + length (shut_text x.bracketed)) {r : Option ℕ} (e : r ≡ room_after room w) where
  abbrev left_width : ℕ
  left_width = length (card_text t p x.left.level x.left.term)

  abbrev right_width : ℕ
  right_width = length (card_text t p x.right.level x.right.term)

  whole_is : length (card_text t p m a) ≡ w + (left_width + right_width)
  whole_is = between-width t p m a x B ∙ rw y refl

  pub between-over : r ≡ None → None ≡ room_after room (length (card_text t p m a))
  between-over f = room_out room w e (left_width + right_width) f ∙ ap (room_after room) (sym whole_is)

  module _ {b : ℕ} (f : r ≡ Some b) {s : Option ℕ} (g : s ≡ room_after b left_width) where
    after-own : room_after room (length (card_text t p m a)) ≡ room_after b (left_width + right_width)
    after-own = ap (room_after room) whole_is ∙ room-then room w e (left_width + right_width) f

    pub left_over : s ≡ None → None ≡ room_after room (length (card_text t p m a))
    left_over u = room_out b left_width g right_width u ∙ sym after-own

    pub right-left : {c : ℕ} → s ≡ Some c → room_after c right_width ≡ room_after room (length (card_text t p m a))
    right-left u = sym (after-own ∙ room-then b left_width g right_width u)

module _ (t terms runs : List ℕ) (m a h from to : ℕ) (S : IsSeries t terms runs m a h from to) (room : ℕ) {w : ℕ} (y : w ≡ length (opening_text t h) + length (closing_text h)) {r : Option ℕ} (e : r ≡ room_after room w) where
  series-is : length (card_text t (pool_of terms runs) m a) ≡ w + rest_width t terms runs h from to from
  series-is = series-width t terms runs m a h from to S ∙ rw (y, eq-eqb from from refl) refl

  pub ends-over : r ≡ None → None ≡ room_after room (length (card_text t (pool_of terms runs) m a))
  ends-over f = room_out room w e (rest_width t terms runs h from to from) f ∙ ap (room_after room) (sym series-is)

  pub after-ends : {b : ℕ} → r ≡ Some b → room_after b (rest_width t terms runs h from to from) ≡ room_after room (length (card_text t (pool_of terms runs) m a))
  after-ends f = sym (ap (room_after room) series-is ∙ room-then room w e (rest_width t terms runs h from to from) f)
