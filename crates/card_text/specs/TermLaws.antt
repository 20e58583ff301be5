-- A term's text written piece by piece.
use Rattle.std.specs.Prelude.{◌≡◌, refl, ℕ, ◌+◌, ◌-◌, ◌/◌, ◌%◌, ◌≤◌, ◌<◌, length, get_or, take, drop}
use Rattle.std.proofs.Common.{sym, ◌∙◌, arith, le_refl, take_at, drop_at, length-take-le}
use Rattle.std.proofs.Math.Path.{ap}
use Rattle.std.proofs.Math.Bool.{false}
use mathlib.Core.List.{List, [], ◌++◌, append_assoc, append-nil}
use Rattle.std.proofs.Math.Dec.{eqb}
use borrow.Author.Tests.{eq-eqb, ne_eqb}
use Rattle.spec.specs.Bytes.{pick}
use Rattle.spec.specs.Pool.{Pool}
use Rattle.decimals.specs.Writing.{Wrote}
use Rattle.decimals.specs.WriteLaws.{Left, left-start, left-turn, left-room, left_end, wrote_as, room-first, room-second, wrote-both}
use Rattle.terms.specs.Buffers.{part, pool_of}
use Rattle.terms.specs.PartLaws.{part-cons, part-over}
use Rattle.card_forms.specs.declared.Infix.{Infix}
use Rattle.card_forms.specs.Forms.{card_text, open_text, shut_text, sign_text, IsBetween, opening_text, gap_text, closing_text, copies, series_text, IsSeries}
use Rattle.card_text.specs.CopyLaws.{bytes_at}

-- what was written stands there
wrote-bytes : {l out : List ℕ} {at : ℕ} {out' : List ℕ} {r : ℕ} → at + length l ≤ length out → Wrote l out at out' r → bytes_at out' at r ≡ l
wrote-bytes {l = l} {out = out} {at = at} {r = r} h A =
    let e : r - at ≡ length l = omega (arith, A.after) in
    ap (λ (z : List ℕ). take (r - at) (drop at z)) A.bytes
    ∙ ap (λ (z : List ℕ). take (r - at) z) (drop_at (take at out) (l ++ drop (at + length l) out) at (length-take-le at out (omega arith))) ∙ rw e (take_at l (drop (at + length l) out) (length l) refl)

-- ---- a sign between two children
module _ (t : List ℕ) (p : Pool) (m a : ℕ) (x : Infix) (B : IsBetween t p m a x) (out₀ : List ℕ) (at₀ : ℕ) (q : at₀ + length (card_text t p m a) ≤ length out₀) where
  abbrev left_text : List ℕ
  left_text = card_text t p x.left.level x.left.term

  abbrev right_text : List ℕ
  right_text = card_text t p x.right.level x.right.term

  abbrev from_right : List ℕ
  from_right = right_text ++ shut_text x.bracketed

  abbrev from_sign : List ℕ
  from_sign = sign_text t x.operation ++ from_right

  start : Left (card_text t p m a) (card_text t p m a) out₀ at₀ out₀ at₀
  start = left-start (card_text t p m a) out₀ at₀ q

  pub open-room : at₀ + length (open_text x.bracketed) ≤ length out₀
  open-room = left-room (open_text x.bracketed) (left_text ++ from_sign) B.whole start

  module _ {out₁ : List ℕ} {a₁ : ℕ} (A₁ : Wrote (open_text x.bracketed) out₀ at₀ out₁ a₁) where
    after_open : Left (left_text ++ from_sign) (card_text t p m a) out₀ at₀ out₁ a₁
    after_open = left-turn (open_text x.bracketed) (left_text ++ from_sign) B.whole start A₁

    pub left-room-is : a₁ + length left_text ≤ length out₁
    left-room-is = left-room left_text from_sign refl after_open

    module _ {out₂ : List ℕ} {a₂ : ℕ} (A₂ : Wrote left_text out₁ a₁ out₂ a₂) where
      after-left : Left from_sign (card_text t p m a) out₀ at₀ out₂ a₂
      after-left = left-turn left_text from_sign refl after_open A₂

      pub sign-room : a₂ + length (sign_text t x.operation) ≤ length out₂
      sign-room = left-room (sign_text t x.operation) from_right refl after-left

      module _ {out₃ : List ℕ} {a₃ : ℕ} (A₃ : Wrote (sign_text t x.operation) out₂ a₂ out₃ a₃) where
        after-sign : Left from_right (card_text t p m a) out₀ at₀ out₃ a₃
        after-sign = left-turn (sign_text t x.operation) from_right refl after-left A₃

        pub right-room : a₃ + length right_text ≤ length out₃
        right-room = left-room right_text (shut_text x.bracketed) refl after-sign

        module _ {out₄ : List ℕ} {a₄ : ℕ} (A₄ : Wrote right_text out₃ a₃ out₄ a₄) where
          after-right : Left (shut_text x.bracketed) (card_text t p m a) out₀ at₀ out₄ a₄
          after-right = left-turn right_text (shut_text x.bracketed) refl after-sign A₄

          pub shut-room : a₄ + length (shut_text x.bracketed) ≤ length out₄
          shut-room = after-right.fits

          pub between-wrote : {out₅ : List ℕ} {a₅ : ℕ} → Wrote (shut_text x.bracketed) out₄ a₄ out₅ a₅ → Wrote (card_text t p m a) out₀ at₀ out₅ a₅
          between-wrote A₅ = left_end refl (left-turn (shut_text x.bracketed) [] (sym (append-nil (shut_text x.bracketed))) after-right A₅)

-- ---- a list or a marked place: the runs before place i are written
abbrev pub rest_text : List ℕ → List ℕ → List ℕ → ℕ → ℕ → ℕ → ℕ → List ℕ
rest_text t terms runs h from to i = series_text (eqb i from) (gap_text h) (card_text t (pool_of terms runs) 0) (part runs i (to - i)) ++ closing_text h

pub record Series (t terms runs : List ℕ) (h from to : ℕ) (out₀ : List ℕ) (at₀ : ℕ) (out : List ℕ) (at i : ℕ) : Type 0 where
  pub begun : from ≤ i
  pub until : i ≤ to
  pub left : Left (rest_text t terms runs h from to i) (rest_text t terms runs h from to from) out₀ at₀ out at

-- the opening, then the rest
module _ (t terms runs : List ℕ) (m a h from to : ℕ) (S : IsSeries t terms runs m a h from to) (out : List ℕ) (at : ℕ) (q : at + length (card_text t (pool_of terms runs) m a) ≤ length out) where
  whole_is : card_text t (pool_of terms runs) m a ≡ opening_text t h ++ rest_text t terms runs h from to from
  whole_is = rw (eq-eqb from from refl) S.whole

  room : at + length (opening_text t h ++ rest_text t terms runs h from to from) ≤ length out
  room = rw (← whole_is) q

  pub opening-room : at + length (opening_text t h) ≤ length out
  opening-room = room-first (opening_text t h) (rest_text t terms runs h from to from) out at room

  module _ {out₀ : List ℕ} {at₀ : ℕ} (A : Wrote (opening_text t h) out at out₀ at₀) where
    pub series-start : Series t terms runs h from to out₀ at₀ out₀ at₀ from
    series-start = record { begun = le_refl from; until = S.rises; left = left-start (rest_text t terms runs h from to from) out₀ at₀ (room-second (opening_text t h) (rest_text t terms runs h from to from) out at room A) }

    pub series-wrote : {out' : List ℕ} {r : ℕ} → Wrote (rest_text t terms runs h from to from) out₀ at₀ out' r → Wrote (card_text t (pool_of terms runs) m a) out at out' r
    series-wrote B = wrote_as (sym whole_is) (wrote-both (opening_text t h) (rest_text t terms runs h from to from) out at room A B)

module _ (t terms runs : List ℕ) (h from to : ℕ) (out₀ : List ℕ) (at₀ : ℕ) where
  module _ {out : List ℕ} {at i : ℕ} (I : Series t terms runs h from to out₀ at₀ out at i) where
    rest_end : to ≤ i → rest_text t terms runs h from to i ≡ closing_text h ++ []
    unfolding series_text
    rest_end l = rw (part-over runs i to l) (sym (append-nil (closing_text h)))

    pub closing-room : to ≤ i → at + length (closing_text h) ≤ length out
    closing-room l = left-room (closing_text h) [] (rest_end l) I.left

    pub series-end : to ≤ i → {out' : List ℕ} {r : ℕ} → Wrote (closing_text h) out at out' r → Wrote (rest_text t terms runs h from to from) out₀ at₀ out' r
    series-end l A = left_end refl (left-turn (closing_text h) [] (rest_end l) I.left A)

    module _ (l : i < to) where
      -- the run at place i, and what stands behind it
      abbrev child_text : List ℕ
      child_text = card_text t (pool_of terms runs) 0 (get_or runs i 0 % 16384)

      abbrev again_text : List ℕ
      again_text = copies (get_or runs i 0 / 16384 - 1) (gap_text h ++ child_text)

      abbrev next_text : List ℕ
      next_text = rest_text t terms runs h from to (i + 1)

      rest-turn : rest_text t terms runs h from to i ≡ pick (eqb i from) [] (gap_text h) ++ (child_text ++ (again_text ++ next_text))
      unfolding series_text
      rest-turn =
          let g = pick (eqb i from) [] (gap_text h) in
          let z = series_text false (gap_text h) (card_text t (pool_of terms runs) 0) (part runs (i + 1) (to - (i + 1))) in
          let e : eqb (i + 1) from ≡ false = ne_eqb (i + 1) from (λ k. absurd (omega (arith, I.begun))) in
          rw (part-cons runs i to l, e)
          (append_assoc g (child_text ++ (again_text ++ z)) (closing_text h)
          ∙ ap (λ (y : List ℕ). g ++ y) (append_assoc child_text (again_text ++ z) (closing_text h) ∙ ap (λ (y : List ℕ). child_text ++ y) (append_assoc again_text z (closing_text h))))

      pub gap-room : at + length (pick (eqb i from) [] (gap_text h)) ≤ length out
      gap-room = left-room (pick (eqb i from) [] (gap_text h)) (child_text ++ (again_text ++ next_text)) rest-turn I.left

      module _ {out₁ : List ℕ} {b : ℕ} (A : Wrote (pick (eqb i from) [] (gap_text h)) out at out₁ b) where
        after-gap : Left (child_text ++ (again_text ++ next_text)) (rest_text t terms runs h from to from) out₀ at₀ out₁ b
        after-gap = left-turn (pick (eqb i from) [] (gap_text h)) (child_text ++ (again_text ++ next_text)) rest-turn I.left A

        module _ {c : ℕ} (z : c ≡ get_or runs i 0 % 16384) where
          pub child-room : b + length (card_text t (pool_of terms runs) 0 c) ≤ length out₁
          child-room = rw z (left-room child_text (again_text ++ next_text) refl after-gap)

          module _ {out₂ : List ℕ} {e : ℕ} (B : Wrote (card_text t (pool_of terms runs) 0 c) out₁ b out₂ e) where
            after-child : Left (again_text ++ next_text) (rest_text t terms runs h from to from) out₀ at₀ out₂ e
            after-child = left-turn child_text (again_text ++ next_text) refl after-gap (rw z at B)

            stands : bytes_at out₂ b e ≡ child_text
            stands = wrote-bytes child-room B ∙ rw z refl

            module _ {n : ℕ} (y : n ≡ get_or runs i 0 / 16384) where
              again-is : copies (n - 1) (gap_text h ++ bytes_at out₂ b e) ≡ again_text
              again-is = rw (y, stands) refl

              pub copies-room : (b ≤ e) × (e + length (copies (n - 1) (gap_text h ++ bytes_at out₂ b e)) ≤ length out₂)
              copies-room = (omega (arith, B.after), rw again-is (left-room again_text next_text refl after-child))

              pub series-turn : {out₃ : List ℕ} {f : ℕ} → Wrote (copies (n - 1) (gap_text h ++ bytes_at out₂ b e)) out₂ e out₃ f → Series t terms runs h from to out₀ at₀ out₃ f (i + 1)
              series-turn D = record { begun = omega (arith, I.begun); until = omega arith; left = left-turn again_text next_text refl after-child (wrote_as again-is D) }
