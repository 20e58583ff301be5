-- A quick test that a literal stands in no later member: each literal has a slot, and a table holds for each slot a number that all members of the slot are below.
use Rattle.std.specs.Prelude.{◌≡◌, false, List, ℕ, ◌+◌, ◌≤◌, ◌<◌, ◌%◌, length, get_or, drop, set}
use Rattle.std.proofs.Common.{sym, ap, ◌∙◌, arith, length-drop, get_or-drop, get_or-set_same, get_or-set_other}
use Rattle.std.proofs.Math.Decide.{ℕ_discrete}
use Rattle.spec.specs.Bytes.{any}
use Rattle.spec.specs.Image.{Tables, Member, the_member}
use Rattle.laws.specs.Tests.{is_false}
use Rattle.laws.specs.AcceptedLists.{any-in, at_in}
use Rattle.laws.specs.AcceptedLiterals.{is_literal, literal-rule}

abbrev pub SLOTS : ℕ
SLOTS = 4093

abbrev pub slot_of : ℕ → ℕ → ℕ
slot_of o v = (v % SLOTS + o % SLOTS) % SLOTS

abbrev pub member_slot : Tables → ℕ → ℕ
member_slot t m = slot_of (the_member t m).op (the_member t m).value

-- the first k members are marked
abbrev pub Marked : Tables → ℕ → List ℕ → Type 0
Marked t k last = (j : ℕ) → j < k → j < get_or last (member_slot t j) 0

abbrev pub Marks : Tables → List ℕ → Type 0
Marks t last = Marked t (length t.members) last

module _ (t : Tables) (last : List ℕ) where
  pub mark-next : (k at : ℕ) → at < length last → at ≡ member_slot t k → Marked t k last → Marked t (k + 1) (set last at (k + 1))
  mark-next k at h e m j b = go (ℕ_discrete (member_slot t j) at)
    where
      go : Dec (member_slot t j ≡ at) → j < get_or (set last at (k + 1)) (member_slot t j) 0
      go (yes q) = rw (q, get_or-set_same last at (k + 1) 0 h) (omega arith)
      go (no n) = rw (get_or-set_other last at (member_slot t j) (k + 1) 0 n) (earlier (ℕ_discrete j k))
        where
          earlier : Dec (j ≡ k) → j < get_or last (member_slot t j) 0
          earlier (yes q) = absurd (n (ap (member_slot t) q ∙ sym e))
          earlier (no q) = m j (omega arith)

  pub unmarked : (o v to : ℕ) → Marks t last → get_or last (slot_of o v) 0 ≤ to → any (is_literal t (o, v)) (drop to t.members) ≡ false
  unmarked o v to m h = is_false (any (is_literal t (o, v)) (drop to t.members)) (λ e.
      let (x, p, q) = any-in (is_literal t (o, v)) (drop to t.members) e in
      let (i, b, z) = at_in (record { op = 0; value = 0; first = 0; count = 0 }) p in
      let (k, r, s) = (literal-rule t o v x).0 q in
      let w : to + i < length t.members = omega (arith, rw length-drop at b) in
      let y : x ≡ the_member t (to + i) = sym z ∙ get_or-drop to t.members i _ in
      let a : o ≡ (the_member t (to + i)).op = r ∙ ap (λ (x : Member). x.op) y in
      let c : v ≡ (the_member t (to + i)).value = s ∙ ap (λ (x : Member). x.value) y in
      let l = m (to + i) w in
      let g : get_or last (member_slot t (to + i)) 0 ≤ to = rw (← a, ← c) h in omega arith)

pub slot_is : {a o v x y : ℕ} → a ≡ slot_of o v → o ≡ x → v ≡ y → a ≡ slot_of x y
slot_is e p q = rw (← p, ← q) e

pub slot-low : (last : List ℕ) (o v : ℕ) {at w to : ℕ} → at ≡ slot_of o v → w ≡ get_or last at 0 → w ≤ to → get_or last (slot_of o v) 0 ≤ to
slot-low last o v e q h = rw (← e) (omega arith)
